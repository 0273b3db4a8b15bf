use Rattle.std.proofs.Common.{rules}
use Rattle.rl_deadline.proofs.Places.{inserted_is_put}
use Rattle.rl_deadline.proofs.order.put_in.Goals as goal

-- src/order.rt:23:1
pub returns-clause-ok : goal.returns-clause-ok
returns-clause-ok c = λ ranked. let h = inserted_is_put c.args.deadline c.as_slice.result.now _ (c.place_of-at.ensures.place (rw c.as_slice.ensures.value ranked)) in search (rules, h)
