use Rattle.std.proofs.Common.{refl}
use Rattle.rl_channel.proofs.channel.Channel.new.Goals as goal

pub returns : goal.returns
returns c = (record { keeps = c.in_ok-new.ensures.0 c.args.site; members = c.new-2.ensures; objects = record { same = c.in_ok-new-2.ensures; fit = tt }; clock = refl }, refl)
