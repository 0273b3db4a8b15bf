use Rattle.std.proofs.Common.{◌≡◌, take}
use Rattle.rl_members.proofs.member.all_ready.Given as goal

-- the items so far are ready
abbrev pub invariant-loop-item : goal.invariant-loop-item
invariant-loop-item l = l.ready ≡ take l.item-index l.items
