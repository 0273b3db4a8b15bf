use Rattle.std.proofs.Common.{◌∙◌, ap, sym}
use Rattle.std.specs.Prelude.{filter_map}
use Rattle.rl_clientmodel.specs.Keys.{serial_held}
use Rattle.rl_clientchannels.proofs.Held.{all_held_rise}
use Rattle.rl_clientchannels.proofs.channels.ClientChannels.serials.Goals as goal

pub returns-clause-rise : goal.returns-clause-rise
returns-clause-rise c = all_held_rise c.loop-name.serials c.loop-name.name-iterator c.self.inside.channels.entries (c.loop-name.invariant ∙ ap (filter_map serial_held) (sym c.self.view_is)) c.in-None.ensures.steps.0 c.iter-name-items.ensures.ordered
