use Rattle.std.proofs.Common.{◌≡◌}
use Rattle.rl_model.specs.Ids.{filled_items}
use Rattle.rl_channel.proofs.filling.filled_items.Given as goal

abbrev pub invariant-loop-item : goal.invariant-loop-item
invariant-loop-item l = l.made ≡ filled_items l.conn l.serial 0 l.yielded
