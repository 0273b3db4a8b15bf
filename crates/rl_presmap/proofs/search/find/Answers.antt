use Rattle.std.proofs.Common.{◌∙◌, sym, ap, arith}
use Rattle.std.proofs.lemmas.List.{get_or_default}
use Rattle.rl_model.specs.Members.{key_of}
use Rattle.rl_presmap.specs.Held.{is_held_of}
use Rattle.rl_presmap.proofs.Places.{held_at, missed_at}
use Rattle.rl_presmap.proofs.search.find.Goals as goal
use Rattle.rl_presmap.proofs.search.find.Goals.{else-at-held-via-then-at-held+else-is_of, else-at-held-via-else-at-held}

pub returns-then-is_of-clause-place : goal.returns-then-is_of-clause-place
returns-then-is_of-clause-place c = λ rising.
    let key = key_of c.args.item.now in
    let held = c.args.held.now in
    let at = c.place_of-at.result in
    held_at key held at rising (c.place_of-at.ensures.place rising) c.if-at-held.true
    (λ d. ap (is_held_of key) (get_or_default held at d _ c.if-at-held.true ∙ sym c.index-held-at.is) ∙ (sym c.is_of.ensures ∙ c.if-is_of.true))

pub returns-else-at-held-clause-place : goal.returns-else-at-held-clause-place
returns-else-at-held-clause-place c = λ rising.
    let key = key_of c.args.item.now in
    let held = c.args.held.now in
    let at = c.place_of-at.result in
    missed_at key held at rising (c.place_of-at.ensures.place rising)
    (λ d low. elim c.else-at-held.branch [
      | else-at-held-via-then-at-held+else-is_of w ↦ ap (is_held_of key) (get_or_default held at d _ low ∙ sym w.index-held-at.is) ∙ (sym w.is_of.ensures ∙ w.if-is_of.false)
      | else-at-held-via-else-at-held w ↦ absurd (omega (arith, low, w.if-at-held.false))
    ])
