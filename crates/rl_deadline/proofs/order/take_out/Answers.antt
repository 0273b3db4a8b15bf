use Rattle.std.proofs.Common.{arith, ap, ◌∙◌, length}
use Rattle.rl_deadline.proofs.Places.{removed_is_rest, place_put}
use Rattle.rl_deadline.proofs.order.take_out.Goals as goal

-- src/order.rt:34:1
pub returns-then-at-len-clause-rest : goal.returns-then-at-len-clause-rest
returns-then-at-len-clause-rest c = λ rest ranked is. let h = removed_is_rest c.args.deadline rest _ (place_put c.args.deadline rest c.as_slice.result.now _ ranked (c.as_slice.ensures.value ∙ is) c.place_of-at.ensures.place) in c.remove.ensures.items ∙ rw is h.1

-- src/order.rt:34:1
pub returns-else-at-len-clause-rest : goal.returns-else-at-len-clause-rest
returns-else-at-len-clause-rest c = λ rest ranked is. let h = removed_is_rest c.args.deadline rest _ (place_put c.args.deadline rest c.as_slice.result.now _ ranked (c.as_slice.ensures.value ∙ is) c.place_of-at.ensures.place) in absurd (omega (arith, h.0, ap length (c.as_slice.ensures.value ∙ is), c.if-at-len.false))

-- src/order.rt:34:1
pub returns-else-at-len-clause-room : goal.returns-else-at-len-clause-room
returns-else-at-len-clause-room c = λ rest ranked is. let h = removed_is_rest c.args.deadline rest _ (place_put c.args.deadline rest c.as_slice.result.now _ ranked (c.as_slice.ensures.value ∙ is) c.place_of-at.ensures.place) in absurd (omega (arith, h.0, ap length (c.as_slice.ensures.value ∙ is), c.if-at-len.false))
