use Rattle.std.proofs.Common.{◌≡◌}
use Rattle.rl_model.specs.Ids.{filled_presence}
use Rattle.rl_channel.proofs.filling.filled_presence.Given as goal

abbrev pub invariant-loop-item : goal.invariant-loop-item
invariant-loop-item l = l.made ≡ filled_presence l.conn l.serial l.now 0 l.yielded
