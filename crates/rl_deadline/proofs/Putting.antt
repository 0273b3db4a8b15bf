-- Deadlines in order, however they were put there.
use Rattle.std.proofs.Common.{◌≡◌, ◌≢◌, ℕ, Bool, true, false, cond, List, [], ◌∷◌, refl, ap, sym, ◌∙◌, arith}
use Rattle.std.specs.Prelude.{not, Option, Some, None, Result, Ok, Err, OnOk, OnErr, IsOk, IsSome, is_err}
use Rattle.std.specs.List.{AllByRecursion}
use Rattle.std.specs.List.Sorted.{IsStrictlySortedBy}
use Rattle.std.specs.Ordering.{nat_cmp, match_ordering}
use Rattle.std.specs.declared.cmp.Ordering.{Ordering}
use Rattle.std.specs.declared.cmp.Ordering.TheVariants.{Less, Equal, Greater}
use Rattle.std.specs.Map.{lookup, remove_entry, keys_of}
use Rattle.std.specs.BTreeMap.{is_at, insert_entry}
use Rattle.std.proofs.lemmas.Bool.Decides.{nat_tests}
use Rattle.std.proofs.lemmas.Cmp.{nat_cmp_total}
use Rattle.rl_deadline.specs.Order.{is_before, put, in_order}
use Rattle.rl_deadline.specs.Ranked.{AreRanked, IsRanked}

-- THE ORDER OF TWO

pub before_self : (p : ℕ × ℕ) → is_before p p ≡ false
before_self p = grind (arith, nat_tests)

pub before_both : (p q r : ℕ × ℕ) → is_before q p ≡ false → is_before q r ≡ true → is_before p r ≡ true
before_both p q r h k = grind (arith, nat_tests)

before_turned : (p q : ℕ × ℕ) → is_before q p ≡ true → is_before p q ≡ false
before_turned p q h = grind (arith, nat_tests)

before_late : (p q r : ℕ × ℕ) → is_before r q ≡ false → is_before q p ≡ false → is_before r p ≡ false
before_late p q r h k = grind (arith, nat_tests)

before_other : (p q : ℕ × ℕ) → p.1 ≢ q.1 → is_before p q ≡ not (is_before q p)
before_other p q h = grind (arith, nat_tests)

-- THE ORDER OF PUTTING

put_first : (p q : ℕ × ℕ) (qs : List (ℕ × ℕ)) → is_before q p ≡ false → put p (q ∷ qs) ≡ p ∷ q ∷ qs
put_first p q qs h = rw h refl

put_later : (p q : ℕ × ℕ) (qs : List (ℕ × ℕ)) → is_before q p ≡ true → put p (q ∷ qs) ≡ q ∷ put p qs
put_later p q qs h = rw h refl

turn_two : (p q : ℕ × ℕ) (qs : List (ℕ × ℕ)) (b : Bool) → is_before q p ≡ b → is_before p q ≡ not b → put p (q ∷ qs) ≡ (cond b (q ∷ put p qs) (p ∷ q ∷ qs))
turn_two p q qs b h k = rw h refl

abbrev after : ℕ × ℕ → List (ℕ × ℕ) → List (ℕ × ℕ)
after p ps = p ∷ ps

turn_at : (p q r : ℕ × ℕ) (rs : List (ℕ × ℕ)) (b c d : Bool) → is_before r p ≡ b → is_before r q ≡ c → is_before q p ≡ d → is_before p q ≡ not d → put p (put q rs) ≡ put q (put p rs) → put p (put q (r ∷ rs)) ≡ put q (put p (r ∷ rs))
turn_at p q r rs true true d rp rq qp pq same =
    ap (put p) (put_later q r rs rq) ∙ put_later p r (put q rs) rp ∙ ap (after r) same
    ∙ sym (ap (put q) (put_later p r rs rp) ∙ put_later q r (put p rs) rq)
turn_at p q r rs true false d rp rq qp pq same =
    ap (put p) (put_first q r rs rq) ∙ put_later p q (r ∷ rs) (before_both q r p rq rp) ∙ ap (after q) (put_later p r rs rp)
    ∙ sym (ap (put q) (put_later p r rs rp) ∙ put_first q r (put p rs) rq)
turn_at p q r rs false true d rp rq qp pq same =
    ap (put p) (put_later q r rs rq) ∙ put_first p r (put q rs) rp
    ∙ sym (ap (put q) (put_first p r rs rp) ∙ put_later q p (r ∷ rs) (before_both p r q rp rq) ∙ ap (after p) (put_later q r rs rq))
turn_at p q r rs false false true rp rq qp pq same =
    ap (put p) (put_first q r rs rq) ∙ put_later p q (r ∷ rs) qp ∙ ap (after q) (put_first p r rs rp)
    ∙ sym (ap (put q) (put_first p r rs rp) ∙ put_first q p (r ∷ rs) pq)
turn_at p q r rs false false false rp rq qp pq same =
    ap (put p) (put_first q r rs rq) ∙ put_first p q (r ∷ rs) qp
    ∙ sym (ap (put q) (put_first p r rs rp) ∙ put_later q p (r ∷ rs) pq ∙ ap (after p) (put_first q r rs rq))

turn_empty : (p q : ℕ × ℕ) (b : Bool) → is_before q p ≡ b → is_before p q ≡ not b → put p (q ∷ []) ≡ put q (p ∷ [])
turn_empty p q true qp pq = rw (put_later p q [] qp, put_first q p [] pq) refl
turn_empty p q false qp pq = rw (put_first p q [] qp, put_later q p [] pq) refl

-- two of different keys may be put in either order
pub turn : (p q : ℕ × ℕ) (rs : List (ℕ × ℕ)) → p.1 ≢ q.1 → put p (put q rs) ≡ put q (put p rs)
turn p q [] h = turn_empty p q (is_before q p) refl (before_other p q h)
turn p q (r ∷ rs) h = turn_at p q r rs (is_before r p) (is_before r q) (is_before q p) refl refl refl (before_other p q h) (turn p q rs h)

-- THEY ARE IN ORDER

all_late : (p q : ℕ × ℕ) (rs : List (ℕ × ℕ)) → is_before q p ≡ false → AllByRecursion (λ r. is_before r q ≡ false) rs → AllByRecursion (λ r. is_before r p ≡ false) rs
all_late p q [] h all = tt
all_late p q (r ∷ rs) h all = (before_late p q r all.0 h, all_late p q rs h all.1)

all_put_at : (p q r : ℕ × ℕ) (rs : List (ℕ × ℕ)) (b : Bool) → is_before p q ≡ false → AllByRecursion (λ r. is_before r q ≡ false) (r ∷ rs) → AllByRecursion (λ r. is_before r q ≡ false) (put p rs) → AllByRecursion (λ r. is_before r q ≡ false) (cond b (r ∷ put p rs) (p ∷ r ∷ rs))
all_put_at p q r rs true here all rest = (all.0, rest)
all_put_at p q r rs false here all rest = (here, all)

all_put : (p q : ℕ × ℕ) (rs : List (ℕ × ℕ)) → is_before p q ≡ false → AllByRecursion (λ r. is_before r q ≡ false) rs → AllByRecursion (λ r. is_before r q ≡ false) (put p rs)
all_put p q [] here all = (here, tt)
all_put p q (r ∷ rs) here all = all_put_at p q r rs (is_before r p) here all (all_put p q rs here all.1)

ranked_put_at : (p r : ℕ × ℕ) (rs : List (ℕ × ℕ)) (b : Bool) → is_before r p ≡ b → AreRanked (r ∷ rs) → AreRanked (put p rs) → AreRanked (cond b (r ∷ put p rs) (p ∷ r ∷ rs))
ranked_put_at p r rs true h all rest = (all_put p r rs (before_turned p r h) all.0, rest)
ranked_put_at p r rs false h all rest = ((h, all_late p r rs h all.0), all)

ranked_put : (p : ℕ × ℕ) (rs : List (ℕ × ℕ)) → AreRanked rs → AreRanked (put p rs)
ranked_put p [] all = (tt, tt)
ranked_put p (r ∷ rs) all = ranked_put_at p r rs (is_before r p) refl all (ranked_put p rs all.1)

are_ranked : (es : List (ℕ × ℕ)) → AreRanked (in_order es)
are_ranked [] = tt
are_ranked (e ∷ es) = ranked_put (e.1, e.0) (in_order es) (are_ranked es)

pub is_ranked_put : (x : ℕ × ℕ) (ps : List (ℕ × ℕ)) → IsRanked ps → IsRanked (put x ps)
is_ranked_put x ps h = record { ranked = ranked_put x ps h.ranked }

pub is_ranked : (es : List (ℕ × ℕ)) → IsRanked (in_order es)
is_ranked es = record { ranked = are_ranked es }

-- ONE KEY MORE, OR LESS

apart : (k q : ℕ) → is_at (nat_cmp k) q ≡ false → k ≢ q
apart k q h e = grind (arith, nat_tests, h, e)

same_key : (k q : ℕ) → is_at (nat_cmp k) q ≡ true → q ≡ k
same_key k q h = grind (arith, nat_tests)

known_at : (k m : ℕ) (e : ℕ × ℕ) (es : List (ℕ × ℕ)) (b : Bool) → is_at (nat_cmp k) e.0 ≡ b → cond b (Some e.1) (lookup (is_at (nat_cmp k)) es) ≡ Some m → (lookup (is_at (nat_cmp k)) es ≡ Some m → in_order es ≡ put (m, k) (in_order (remove_entry (is_at (nat_cmp k)) es))) → put (e.1, e.0) (in_order es) ≡ put (m, k) (in_order (cond b es (e ∷ remove_entry (is_at (nat_cmp k)) es)))
known_at k m e es true is found rest =
    let moment : e.1 ≡ m = cc in
    rw (same_key k e.0 is, moment) refl
known_at k m e es false is found rest =
    ap (put (e.1, e.0)) (rest found) ∙ turn (e.1, e.0) (m, k) (in_order (remove_entry (is_at (nat_cmp k)) es)) (λ same. apart k e.0 is (sym same))

-- a key that is there is put among the others
pub known_put : (k m : ℕ) (es : List (ℕ × ℕ)) → lookup (is_at (nat_cmp k)) es ≡ Some m → in_order es ≡ put (m, k) (in_order (remove_entry (is_at (nat_cmp k)) es))
known_put k m [] found = cc
known_put k m (e ∷ es) found = known_at k m e es (is_at (nat_cmp k) e.0) refl found (known_put k m es)

stays_at : (k : ℕ) (e : ℕ × ℕ) (es : List (ℕ × ℕ)) (b : Bool) → cond b (Some e.1) (lookup (is_at (nat_cmp k)) es) ≡ None → (lookup (is_at (nat_cmp k)) es ≡ None → remove_entry (is_at (nat_cmp k)) es ≡ es) → cond b es (e ∷ remove_entry (is_at (nat_cmp k)) es) ≡ e ∷ es
stays_at k e es true h rest = cc
stays_at k e es false h rest = ap (λ (xs : List (ℕ × ℕ)). e ∷ xs) (rest h)

-- a key that is not there leaves all where it is removed
pub unknown_stays : (k : ℕ) (es : List (ℕ × ℕ)) → lookup (is_at (nat_cmp k)) es ≡ None → remove_entry (is_at (nat_cmp k)) es ≡ es
unknown_stays k [] none = refl
unknown_stays k (e ∷ es) none = stays_at k e es (is_at (nat_cmp k) e.0) none (unknown_stays k es)

above_stays : (k : ℕ) (es : List (ℕ × ℕ)) → AllByRecursion (λ q. nat_cmp k q ≡ Less) (keys_of es) → remove_entry (is_at (nat_cmp k)) es ≡ es
above_stays k [] all = refl
above_stays k (e ∷ es) all = rw all.0 (ap (λ (xs : List (ℕ × ℕ)). e ∷ xs) (above_stays k es all.1))

all_above : (k q : ℕ) (ks : List ℕ) → nat_cmp k q ≡ Less → AllByRecursion (λ r. nat_cmp q r ≡ Less) ks → AllByRecursion (λ r. nat_cmp k r ≡ Less) ks
all_above k q [] h all = tt
all_above k q (r ∷ ks) h all = (nat_cmp_total.trans k q r h all.0, all_above k q ks h all.1)

inserted_at : (k m : ℕ) (e : ℕ × ℕ) (es : List (ℕ × ℕ)) (o : Ordering) → nat_cmp k e.0 ≡ o → IsStrictlySortedBy nat_cmp (keys_of (e ∷ es)) → in_order (insert_entry nat_cmp es k m) ≡ put (m, k) (in_order (remove_entry (is_at (nat_cmp k)) es)) → in_order (match_ordering o ((k, m) ∷ e ∷ es) ((e.0, m) ∷ es) (e ∷ insert_entry nat_cmp es k m)) ≡ put (m, k) (in_order (remove_entry (is_at (nat_cmp k)) (e ∷ es)))
unfolding IsStrictlySortedBy
inserted_at k m e es Less is rises rest = rw (is, above_stays k es (all_above k e.0 (keys_of es) is rises.0)) refl
inserted_at k m e es Equal is rises rest =
    let same : e.0 ≡ k = grind (arith, nat_tests) in
    rw is (rw same refl)
inserted_at k m e es Greater is rises rest =
    let other : e.0 ≢ k = λ same. grind (arith, nat_tests, is, same) in
    rw is (ap (put (e.1, e.0)) rest ∙ turn (e.1, e.0) (m, k) (in_order (remove_entry (is_at (nat_cmp k)) es)) other)

-- a key with its moment is put among the others
pub inserted_put : (k m : ℕ) (es : List (ℕ × ℕ)) → IsStrictlySortedBy nat_cmp (keys_of es) → in_order (insert_entry nat_cmp es k m) ≡ put (m, k) (in_order (remove_entry (is_at (nat_cmp k)) es))
unfolding IsStrictlySortedBy
inserted_put k m [] rises = refl
inserted_put k m (e ∷ es) rises = inserted_at k m e es (nat_cmp k e.0) refl rises (inserted_put k m es rises.1)

-- where no key was known, nothing was taken out
pub kept_all : (k : ℕ) (known : Option ℕ) (es before : List (ℕ × ℕ)) → lookup (is_at (nat_cmp k)) es ≡ known → (IsSome known → ⊥) → before ≡ in_order (remove_entry (is_at (nat_cmp k)) es) → before ≡ in_order es
kept_all k None es before found none is = is ∙ ap in_order (unknown_stays k es found)
kept_all k (Some m) es before found none is = absurd (none refl)

pub ok_of : {A E : Type 0} (P : Type 0) (r : Result A E) → OnOk r P → is_err r ≡ false → P
ok_of P (Ok a) h is = h
ok_of P (Err e) h is = cc

pub err_of : {A E : Type 0} (P : Type 0) (r : Result A E) → OnErr r P → is_err r ≡ true → P
err_of P (Ok a) h is = cc
err_of P (Err e) h is = h

pub not_ok : {A E : Type 0} (r : Result A E) → is_err r ≡ true → IsOk r → ⊥
not_ok (Ok a) is h = cc
not_ok (Err e) is h = cc
