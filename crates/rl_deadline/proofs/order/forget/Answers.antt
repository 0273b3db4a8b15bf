use Rattle.std.proofs.Common.{sym, ap, ◌∙◌}
use Rattle.rl_deadline.specs.Order.{in_order}
use Rattle.std.specs.Map.{remove_entry}
use Rattle.std.specs.BTreeMap.{is_at}
use Rattle.std.specs.Ordering.{nat_cmp}
use Rattle.rl_deadline.proofs.Putting.{is_ranked, known_put, unknown_stays}
use Rattle.rl_deadline.proofs.order.forget.Goals as goal

pub returns-in-Some-clause-rest : goal.returns-in-Some-clause-rest
returns-in-Some-clause-rest c = λ es found is.
    let rest = remove_entry (is_at (nat_cmp c.args.key)) es in
    c.take_out.ensures.rest (in_order rest) (is_ranked rest) (is ∙ known_put c.args.key c.in-Some.moment es (found ∙ c.in-Some.is))

pub returns-in-Some-clause-room : goal.returns-in-Some-clause-room
returns-in-Some-clause-room c = λ es found is known.
    let rest = remove_entry (is_at (nat_cmp c.args.key)) es in
    c.take_out.ensures.room (in_order rest) (is_ranked rest) (is ∙ known_put c.args.key c.in-Some.moment es (found ∙ c.in-Some.is))

pub returns-in_default-clause-rest : goal.returns-in_default-clause-rest
returns-in_default-clause-rest c = λ es found is. is ∙ ap in_order (sym (unknown_stays c.args.key es (found ∙ c.in_default.is)))
