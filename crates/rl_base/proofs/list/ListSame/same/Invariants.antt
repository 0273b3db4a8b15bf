use Rattle.std.proofs.Common.{◌≡◌, take, length}
use Rattle.rl_base.proofs.list.ListSame.same.Given as goal

-- the items so far are the same
abbrev pub invariant-loop-one : goal.invariant-loop-one
invariant-loop-one g l = (l.at ≡ l.one-index) × (length l.self ≡ length l.other) × (take l.one-index l.one-items ≡ take l.one-index l.other)
