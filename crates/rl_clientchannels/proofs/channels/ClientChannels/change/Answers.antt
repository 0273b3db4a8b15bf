use Rattle.std.proofs.Common.{sym, ◌∙◌}
use Rattle.rl_clientmodel.specs.Channels.{channel_after}
use Rattle.rl_clientchannels.proofs.Names.{changed_some}
use Rattle.rl_clientchannels.proofs.channels.ClientChannels.change.Goals as goal

pub returns-clause-new : goal.returns-clause-new
returns-clause-new c =
    rw (← c.self.view_is) ((c.get_mut.follows.holds c.change.new.self).0 ∙ changed_some c.args.name.now (channel_after c.args.step) c.in-Some.channel.now c.change.new.self c.self.inside.channels.entries c.get_mut.ensures.ordered (sym c.in-Some.ensures.value) c.change.ensures)
