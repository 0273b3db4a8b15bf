use Rattle.std.proofs.Common.{rules, sym, ap, ◌∙◌, ◌≡◌}
use Rattle.rl_deadline.specs.Order.{put, in_order}
use Rattle.std.specs.Map.{lookup, remove_entry}
use Rattle.std.specs.BTreeMap.{is_at}
use Rattle.std.specs.Ordering.{nat_cmp}
use Rattle.rl_deadline.specs.Ranked.{IsRanked}
use Rattle.std.specs.Prelude.{is_err, true, false}
use Rattle.rl_deadline.proofs.Putting.{is_ranked, unknown_stays, inserted_put, kept_all, ok_of, err_of, not_ok}
use Rattle.rl_deadline.proofs.deadlines.Deadlines.set.Goals as goal

pub invariant_of-self : goal.invariant_of-self
invariant_of-self c =
    let es = c.self.inside.moments.entries in
    let found : lookup (is_at (nat_cmp c.args.key)) es ≡ c.copied-known.result = search rules in
    let left = c.forget.ensures.rest es found c.self.invariant in
    let failed = err_of _ _ c.put_in.ensures.err (sym c.is_err.ensures.value ∙ c.if-is_err.true) in
    failed ∙ kept_all c.args.key c.copied-known.result es c.forget.new.order.items found (λ some. not_ok _ (sym c.is_err.ensures.value ∙ c.if-is_err.true) (c.put_in.ensures.room (c.forget.ensures.room es found c.self.invariant some))) left

pub invariant_of-self-then-is_err-2 : goal.invariant_of-self-then-is_err-2
invariant_of-self-then-is_err-2 c =
    let es = c.self.inside.moments.entries in
    let found : lookup (is_at (nat_cmp c.args.key)) es ≡ c.copied-known.result = search rules in
    let rest = remove_entry (is_at (nat_cmp c.args.key)) es in
    let left = c.forget.ensures.rest es found c.self.invariant in
    let ranked : IsRanked c.forget.new.order.items = rw left (is_ranked rest) in
    let put_there = ok_of _ _ (c.put_in.ensures.ok ranked) (sym c.is_err.ensures.value ∙ c.if-is_err.false) in
    let failed : is_err c.insert.result ≡ true = sym c.is_err-2.ensures.value ∙ c.if-is_err-2.true in
    c.take_out.ensures.rest (in_order rest) (is_ranked rest) (put_there ∙ ap (put (c.at.inside.0, c.args.key)) left)
    ∙ ap in_order (unknown_stays c.args.key es (err_of _ _ c.insert.ensures.absent failed) ∙ sym (err_of _ _ c.insert.ensures.err failed))

pub invariant_of-self-else-is_err-2 : goal.invariant_of-self-else-is_err-2
invariant_of-self-else-is_err-2 c =
    let es = c.self.inside.moments.entries in
    let found : lookup (is_at (nat_cmp c.args.key)) es ≡ c.copied-known.result = search rules in
    let rest = remove_entry (is_at (nat_cmp c.args.key)) es in
    let left = c.forget.ensures.rest es found c.self.invariant in
    let ranked : IsRanked c.forget.new.order.items = rw left (is_ranked rest) in
    let put_there = ok_of _ _ (c.put_in.ensures.ok ranked) (sym c.is_err.ensures.value ∙ c.if-is_err.false) in
    let done : is_err c.insert.result ≡ false = sym c.is_err-2.ensures.value ∙ c.if-is_err-2.false in
    put_there ∙ ap (put (c.at.inside.0, c.args.key)) left
    ∙ sym (inserted_put c.args.key c.at.inside.0 es c.insert.ensures.was_ordered)
    ∙ ap in_order (sym (ok_of _ _ c.insert.ensures.entries done))
