use Rattle.std.proofs.Common.{rules, arith}
use Rattle.rl_deadline.specs.Order.{is_before}
use Rattle.std.proofs.lemmas.Fn.{always_returns_same}
use Rattle.rl_deadline.proofs.Places.{is_parted}
use Rattle.rl_deadline.proofs.order.place_of.Goals as goal

-- src/order.rt:15:1
pub returns-clause-place : goal.returns-clause-place
returns-clause-place c = λ ranked.
    let h = c.partition_point.ensures.partitioned (λ q. is_before q c.args.deadline) (always_returns_same _ _ _ (λ a r f k. search rules)) (is_parted c.args.deadline c.args.order.now ranked) in
    record { within = omega arith; below = h.0; above = h.1 }
