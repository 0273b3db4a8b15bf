use Rattle.std.proofs.Common.{take}
use Rattle.std.specs.List.{AllByRecursion}
use Rattle.rl_objmodel.specs.Following.{IsOpInRange}
use Rattle.rl_channel.proofs.ranges.ops_fit.Given as goal

-- the operations so far fit
abbrev pub invariant-loop-op : goal.invariant-loop-op
invariant-loop-op l = AllByRecursion IsOpInRange (take l.op-index l.ops)
