-- A place among deadlines that are in order.
use Rattle.std.proofs.Common.{◌≡◌, ℕ, zero, suc, ◌<◌, Bool, true, false, cond, List, [], ◌∷◌, length, take, refl, ap, sym, subst, ◌∙◌, arith, get_or}
use Rattle.std.specs.Prelude.{insert, remove}
use Rattle.std.specs.List.{AllByRecursion, filter}
use Rattle.std.specs.List.Sorted.{IsPartitionedBy}
use Rattle.std.proofs.lemmas.Bool.Decides.{nat_tests}
use Rattle.rl_deadline.specs.Order.{is_before, put, is_due}
use Rattle.rl_deadline.specs.Ranked.{AreRanked, IsRanked, IsPlaceOf}
use Rattle.rl_deadline.proofs.Putting.{before_self, before_both, is_ranked_put}

late_at : (p : ℕ × ℕ) (ps : List (ℕ × ℕ)) → AllByRecursion (λ q. is_before q p ≡ false) ps → (j : ℕ) (d : ℕ × ℕ) → j < length ps → is_before (get_or ps j d) p ≡ false
late_at p [] all j d h = absurd (omega arith)
late_at p (q ∷ ps) all zero d h = all.0
late_at p (q ∷ ps) all (suc j) d h = late_at p ps all.1 j d (omega arith)

parted : (x : ℕ × ℕ) (ps : List (ℕ × ℕ)) → AreRanked ps → IsPartitionedBy (λ q. is_before q x) ps
parted x [] all i j d h k is = absurd (omega arith)
parted x (p ∷ ps) all zero zero d h k is = is
parted x (p ∷ ps) all zero (suc j) d h k is = before_both p (get_or ps j d) x (late_at p ps all.0 j d (omega arith)) is
parted x (p ∷ ps) all (suc i) zero d h k is = absurd (omega arith)
parted x (p ∷ ps) all (suc i) (suc j) d h k is = parted x ps all.1 i j d (omega arith) (omega arith) is

pub is_parted : (x : ℕ × ℕ) (ps : List (ℕ × ℕ)) → IsRanked ps → IsPartitionedBy (λ q. is_before q x) ps
is_parted x ps h = parted x ps h.ranked

inside : (x p : ℕ × ℕ) (ps : List (ℕ × ℕ)) (at : ℕ) → IsPlaceOf x (p ∷ ps) (suc at) → IsPlaceOf x ps at
inside x p ps at h = record {
  within = omega (arith, h.within);
  below = λ k d low high. h.below (suc k) d (omega arith) (omega arith);
  above = λ k d low high. h.above (suc k) d (omega arith) (omega arith);
}

clash : {A : Type 0} (b : Bool) → b ≡ true → b ≡ false → A
clash b t f = cc (sym t ∙ f)

pub inserted_is_put : (x : ℕ × ℕ) (ps : List (ℕ × ℕ)) (at : ℕ) → IsPlaceOf x ps at → insert ps at x ≡ put x ps
inserted_is_put x [] zero h = refl
inserted_is_put x [] (suc at) h = absurd (omega (arith, h.within))
inserted_is_put x (p ∷ ps) zero h = rw (h.above 0 x (omega arith) (omega arith)) refl
inserted_is_put x (p ∷ ps) (suc at) h = rw (h.below 0 x (omega arith) (omega arith)) (ap (λ (qs : List (ℕ × ℕ)). p ∷ qs) (inserted_is_put x ps at (inside x p ps at h)))

removed_at : (x q : ℕ × ℕ) (qs : List (ℕ × ℕ)) (b : Bool) (at : ℕ) → is_before q x ≡ b → IsPlaceOf x (cond b (q ∷ put x qs) (x ∷ q ∷ qs)) at → ((i : ℕ) → IsPlaceOf x (put x qs) i → (i < length (put x qs)) × (remove (put x qs) i ≡ qs)) → (at < length (cond b (q ∷ put x qs) (x ∷ q ∷ qs))) × (remove (cond b (q ∷ put x qs) (x ∷ q ∷ qs)) at ≡ q ∷ qs)
removed_at x q qs true zero is h rest = clash (is_before q x) is (h.above 0 x (omega arith) (omega arith))
removed_at x q qs true (suc at) is h rest =
    let more = rest at (inside x q (put x qs) at h) in
    (omega (arith, more.0), ap (λ (ps : List (ℕ × ℕ)). q ∷ ps) more.1)
removed_at x q qs false zero is h rest = (omega arith, refl)
removed_at x q qs false (suc at) is h rest = clash (is_before x x) (h.below 0 x (omega arith) (omega arith)) (before_self x)

-- one that was put among the rest is at its place, and the rest is left without it
pub removed_is_rest : (x : ℕ × ℕ) (qs : List (ℕ × ℕ)) (at : ℕ) → IsPlaceOf x (put x qs) at → (at < length (put x qs)) × (remove (put x qs) at ≡ qs)
removed_is_rest x [] zero h = (omega arith, refl)
removed_is_rest x [] (suc at) h = clash (is_before x x) (h.below 0 x (omega arith) (omega arith)) (before_self x)
removed_is_rest x (q ∷ qs) at h = removed_at x q qs (is_before q x) at refl h (λ i k. removed_is_rest x qs i k)

late_due : (now : ℕ) (p q : ℕ × ℕ) → now < p.0 → is_before q p ≡ false → is_due now q ≡ false
late_due now p q h k = grind (arith, nat_tests)

none_at : {A : Type 0} (x : A) (xs : List A) (b : Bool) → b ≡ false → xs ≡ [] → cond b (x ∷ xs) xs ≡ []
none_at x xs b e rest = rw e rest

-- none is due after one that isn't
none_due : (now : ℕ) (p : ℕ × ℕ) (ps : List (ℕ × ℕ)) → now < p.0 → AllByRecursion (λ q. is_before q p ≡ false) ps → filter (is_due now) ps ≡ []
none_due now p [] h all = refl
none_due now p (q ∷ ps) h all = none_at q _ _ (late_due now p q h all.0) (none_due now p ps h all.1)

pub place_put : (x : ℕ × ℕ) (rest ps : List (ℕ × ℕ)) (at : ℕ) → IsRanked rest → ps ≡ put x rest → (IsRanked ps → IsPlaceOf x ps at) → IsPlaceOf x (put x rest) at
place_put x rest ps at ranked is place =
    let ps_ranked : IsRanked ps = subst IsRanked (sym is) (is_ranked_put x rest ranked) in
    subst (λ (qs : List (ℕ × ℕ)). IsPlaceOf x qs at) is (place ps_ranked)

-- where one is not due, those that are due stand before it
pub due_so_far : (now : ℕ) (ps : List (ℕ × ℕ)) (i : ℕ) (d : ℕ × ℕ) → AreRanked ps → i < length ps → now < (get_or ps i d).0 → filter (is_due now) ps ≡ filter (is_due now) (take i ps)
due_so_far now [] i d all h late = absurd (omega arith)
due_so_far now (p ∷ ps) zero d all h late = none_at p _ _ (grind (arith, nat_tests)) (none_due now p ps late all.0)
due_so_far now (p ∷ ps) (suc i) d all h late = ap (λ (qs : List (ℕ × ℕ)). cond (is_due now p) (p ∷ qs) qs) (due_so_far now ps i d all.1 (omega arith) late)
