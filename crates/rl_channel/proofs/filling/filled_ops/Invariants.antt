use Rattle.std.proofs.Common.{◌≡◌, ◌+◌, length}
use Rattle.rl_model.specs.Ids.{filled_ops}
use Rattle.rl_channel.proofs.filling.filled_ops.Given as goal

abbrev pub invariant-loop-op : goal.invariant-loop-op
invariant-loop-op l = (l.made ≡ filled_ops l.site l.place 0 l.yielded) × (length l.made + length l.op-iterator.rest.items ≡ length l.fn.ops)
