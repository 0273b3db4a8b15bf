use Rattle.std.proofs.Common.{◌≡◌, take}
use Rattle.rl_deadline.specs.Order.{is_due}
use Rattle.std.specs.List.{filter}
use Rattle.std.specs.Prelude.{map}
use Rattle.rl_deadline.proofs.deadlines.Deadlines.due.Given as goal

-- the keys so far are those of the deadlines so far, and all of these are due
abbrev pub invariant-loop-deadline : goal.invariant-loop-deadline
invariant-loop-deadline l = l.keys ≡ map (λ p. p.1) (filter (is_due l.fn.now) (take l.deadline-index l.deadline-items))
