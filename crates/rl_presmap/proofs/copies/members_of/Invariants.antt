use Rattle.std.proofs.Common.{◌≡◌, take}
use Rattle.std.specs.Prelude.{map, filter}
use Rattle.rl_presmap.specs.Held.{is_member}
use Rattle.rl_presmap.proofs.copies.members_of.Given as goal

-- the members so far are those of the held ones so far
abbrev pub invariant-loop-one : goal.invariant-loop-one
invariant-loop-one l = l.members ≡ map (λ one. one.item) (filter is_member (take l.one-index l.held))
