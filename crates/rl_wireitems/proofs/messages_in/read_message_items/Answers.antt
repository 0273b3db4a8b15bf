use Rattle.std.proofs.Common.{◌≡◌, ◌∷◌, [], ◌++◌, length, Ok, refl, sym, ap, subst, ◌∙◌, append_assoc, append-nil, arith}
use Rattle.std.specs.Vec.Iter.{into_iter_items}
use Rattle.std.proofs.lemmas.Result.{err_from_is_err_and}
use Rattle.serde_json.specs.View.{items_view}
use Rattle.rl_jsonfields.specs.Fields.{Fails, each_at}
use Rattle.rl_wireitems.specs.Items.{message_item, message_items}
use Rattle.rl_wireitems.proofs.Steps.{nothing_left, each_push, each_stops}
use Rattle.rl_wireitems.proofs.messages_in.read_message_items.Goals as goal

pub returns-in_err-message_in : goal.returns-in_err-message_in
unfolding message_items
returns-in_err-message_in c =
    let at = c.loop-value in
    let steps : into_iter_items at.value-iterator ≡ c.in-Some.value ∷ into_iter_items c.next.new.self = c.in-Some.ensures.steps.0 in
    let all = rw steps at at.invariant.0 ∙ c.into_iter-value-iterator.ensures.into_iter_gives.0 in
    let p = err_from_is_err_and c.from_residual.result c.from_residual.ensures.1 in
    rw (p.1, p.2) (
    subst (λ vs. Fails c.in_err-message_in.field-0.0 (each_at (message_item c.args.head.now) 0 (items_view vs))) all (
    each_stops (message_item c.args.head.now) at.yielded c.in-Some.value (into_iter_items c.next.new.self) at.items c.in_err-message_in.field-0.0 c.len-index.result at.invariant.2 c.len-index.ensures c.in_err-message_in.ensures))

pub loop-value-preserved : goal.loop-value-preserved
loop-value-preserved c =
    let at = c.loop-value in
    let x = c.in-Some.value in
    let steps : into_iter_items at.value-iterator ≡ x ∷ into_iter_items c.next.new.self = c.in-Some.ensures.steps.0 in (
      append_assoc at.yielded (x ∷ []) _ ∙ rw (← steps) at.invariant.0,
      let was = at.invariant.1 in
          let gone = c.in-Some.ensures.steps.1 in
          let short = ap length steps in
          omega arith,
      rw c.in_ok-push.ensures.ok (each_push (message_item c.args.head.now) at.yielded x at.items c.in_ok-message_in.field-0 c.len-index.result at.invariant.2 c.len-index.ensures c.in_ok-message_in.ensures),
    )

pub returns : goal.returns
unfolding message_items
returns c =
    let at = c.loop-value in
    let empty : into_iter_items at.value-iterator ≡ [] = nothing_left _ (sym at.invariant.1 ∙ c.in-None.ensures.steps.0) in
    let all = sym (append-nil at.yielded) ∙ rw empty at at.invariant.0 ∙ c.into_iter-value-iterator.ensures.into_iter_gives.0 in
    subst (λ vs. each_at (message_item c.args.head.now) 0 (items_view vs) ≡ Ok at.items) all at.invariant.2
