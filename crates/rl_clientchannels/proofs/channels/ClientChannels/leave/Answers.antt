use Rattle.std.proofs.Common.{sym, ◌∙◌}
use Rattle.rl_clientmodel.specs.Commands.{without_own}
use Rattle.rl_clientchannels.proofs.Names.{changed_some}
use Rattle.rl_clientchannels.proofs.channels.ClientChannels.leave.Goals as goal

pub returns : goal.returns
returns c =
    rw (← c.self.view_is) ((c.get_mut.follows.holds c.leave.new.self).0 ∙ changed_some c.args.name.now (without_own c.args.client.now) c.in-Some.channel.now c.leave.new.self c.self.inside.channels.entries c.get_mut.ensures.ordered (sym c.in-Some.ensures.value) c.leave.ensures)
