use Rattle.std.proofs.Common.{◌≡◌, take}
use Rattle.rl_presmap.proofs.copies.copy_all.Given as goal

-- those so far are copied
abbrev pub invariant-loop-one : goal.invariant-loop-one
invariant-loop-one l = l.made.items ≡ take l.one-index l.held
