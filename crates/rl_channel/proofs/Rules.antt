-- The rules of a Put up to the limit of members, and what comes after them.
use Rattle.std.proofs.Common.{◌≡◌, ℕ, Bool, true, false, cond, refl, ap, sym, ◌∙◌}
use Rattle.std.specs.Prelude.{Option, Some, None, nat_lt, ◌==◌, ◌||◌}
use Rattle.rl_events.specs.declared.channel.Verdict.{Verdict}
use Rattle.rl_events.specs.declared.channel.Outcome.{Outcome}
use Rattle.rl_types.specs.declared.messages.Body.{Body}
use Rattle.rl_numbers.specs.declared.limits.TheConstants.{MAX_MESSAGE_SIZE, MAX_PLACE}
use Rattle.rl_numbers.specs.declared.codes.TheConstants.{LOG_FULL, TOO_LONG}
use Rattle.rl_types.specs.Weight.{body_weight}
use Rattle.rl_model.specs.Ids.{has_long}
use Rattle.rl_model.specs.Verdict.{Judgement, Stale, Again, Known, Fails, Adds, judged_by_serial, judged_by_id, judged_by_rules, fails_or, own_rule}
use Rattle.rl_channel.specs.Steps.{settled, early}

-- a judgement that does not depend on what comes after it, or is that
data Goes (now : Judgement → Judgement) : Type 0 where
  Settles : (fixed : Judgement) → (fixed ≡ Adds → ⊥) → ((next : Judgement) → now next ≡ fixed) → Goes now
  Passes : ((next : Judgement) → now next ≡ next) → Goes now

own_goes : (failed : Option ℕ) → Goes (fails_or failed)
own_goes None = Passes (λ next. refl)
own_goes (Some code) = Settles (Fails code) (λ adds. absurd (cc)) (λ next. refl)

after_test : (code : ℕ) (test : Bool) (now : Judgement → Judgement) → Goes now → Goes (λ next. cond test (Fails code) (now next))
after_test code true now goes = Settles (Fails code) (λ adds. absurd (cc)) (λ next. refl)
after_test code false now goes = goes

rules_go : (head : ℕ) (body : Body) → Goes (judged_by_rules head body)
rules_go head body =
    after_test TOO_LONG (nat_lt MAX_MESSAGE_SIZE (body_weight body) || has_long body) (λ next. cond (head == MAX_PLACE) (Fails LOG_FULL) (fails_or (own_rule body) next))
    (after_test LOG_FULL (head == MAX_PLACE) (fails_or (own_rule body)) (own_goes (own_rule body)))

id_goes : (found : Option ℕ) (now : Judgement → Judgement) → Goes now → Goes (λ next. judged_by_id found (now next))
id_goes None now goes = goes
id_goes (Some place) now goes = Settles (Known place) (λ adds. absurd (cc)) (λ next. refl)

serial_goes : (serial : ℕ) (last : Option (ℕ × Outcome)) (now : Judgement → Judgement) → Goes now → Goes (λ next. judged_by_serial serial last (now next))
serial_goes serial None now goes = goes
serial_goes serial (Some last) now goes = by_tests (nat_lt serial last.0) (serial == last.0)
  where
    by_tests : (below same : Bool) → Goes (λ next. cond below Stale (cond same (Again last.1) (now next)))
    by_tests true same = Settles Stale (λ adds. absurd (cc)) (λ next. refl)
    by_tests false true = Settles (Again last.1) (λ adds. absurd (cc)) (λ next. refl)
    by_tests false false = goes

early_goes : (serial : ℕ) (last : Option (ℕ × Outcome)) (found : Option ℕ) (head : ℕ) (body : Body) → Goes (early serial last found head body)
early_goes serial last found head body =
    serial_goes serial last (λ next. judged_by_id found (judged_by_rules head body next))
    (id_goes found (judged_by_rules head body) (rules_go head body))

-- it settles the Put whatever comes after
settles_by : (now : Judgement → Judgement) → Goes now → (head : ℕ) (answer : Verdict) → settled head (now Adds) ≡ Some answer → (next : Judgement) → settled head (now next) ≡ Some answer
settles_by now (Settles fixed other is) head answer h next = ap (settled head) (is next) ∙ ap (settled head) (sym (is Adds)) ∙ h
settles_by now (Passes is) head answer h next = let none : settled head (now Adds) ≡ None = ap (settled head) (is Adds) in absurd (cc)

adds_only : (head : ℕ) (judgement : Judgement) → settled head judgement ≡ None → judgement ≡ Adds
adds_only head Stale is = cc
adds_only head (Again outcome) is = cc
adds_only head (Known place) is = cc
adds_only head (Fails code) is = cc
adds_only head Adds is = refl

passes_by : (now : Judgement → Judgement) → Goes now → (head : ℕ) → settled head (now Adds) ≡ None → (next : Judgement) → now next ≡ next
passes_by now (Passes is) head h next = is next
passes_by now (Settles fixed other is) head h next = absurd (other (sym (is Adds) ∙ adds_only head (now Adds) h))

pub early_settles : (serial : ℕ) (last : Option (ℕ × Outcome)) (found : Option ℕ) (head : ℕ) (body : Body) (answer : Verdict)
    → settled head (early serial last found head body Adds) ≡ Some answer
    → (next : Judgement) → settled head (early serial last found head body next) ≡ Some answer
early_settles serial last found head body answer h next =
    settles_by (early serial last found head body) (early_goes serial last found head body) head answer h next

pub early_passes : (serial : ℕ) (last : Option (ℕ × Outcome)) (found : Option ℕ) (head : ℕ) (body : Body)
    → settled head (early serial last found head body Adds) ≡ None
    → (next : Judgement) → early serial last found head body next ≡ next
early_passes serial last found head body h next =
    passes_by (early serial last found head body) (early_goes serial last found head body) head h next
