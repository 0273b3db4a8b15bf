-- The connections whose deadline has come, sorted by number, are those that the records tell.
use Rattle.std.proofs.Common.{◌≡◌, ℕ, suc, ◌+◌, ◌<◌, ◌≤◌, Bool, true, false, cond, List, [], ◌∷◌, length, get_or, map, refl, ap, sym, ◌∙◌, arith}
use Rattle.std.specs.Prelude.{◌==◌, nat_le, sum_by, IsPermutation, IsSorted}
use Rattle.std.specs.List.{AllByRecursion, filter}
use Rattle.std.specs.List.Sorted.{IsStrictlySortedBy, IsNonDecreasing}
use Rattle.std.specs.Ordering.{nat_cmp}
use Rattle.std.specs.declared.cmp.Ordering.TheVariants.{Less}
use Rattle.std.specs.Map.{keys_of}
use Rattle.std.proofs.lemmas.Bool.Decides.{nat_tests}
use Rattle.std.proofs.lemmas.List.Sums.{sum_by-cons}
use Rattle.std.proofs.lemmas.List.Sorted.{sum_by-IsPermutation, IsNonDecreasingBy-from_sort}
use Rattle.rl_deadline.specs.Order.{put, in_order, due, is_due, is_before}

-- HOW OFTEN A NUMBER STANDS IN A LIST

abbrev one : ℕ → ℕ → ℕ
one k n = cond (n == k) 1 0

abbrev times : ℕ → List ℕ → ℕ
times k ns = sum_by (one k) ns

-- a deadline that has come counts its key
abbrev mark : ℕ → ℕ → ℕ × ℕ → ℕ
mark now k p = cond (nat_le p.0 now) (one k p.1) 0

abbrev picked : ℕ → List (ℕ × ℕ) → List ℕ
picked now ps = map (λ p. p.1) (filter (is_due now) ps)

abbrev pub chosen : ℕ → List (ℕ × ℕ) → List ℕ
chosen now ds = map (λ e. e.0) (filter (λ e. nat_le e.1 now) ds)

times_by : (b : Bool) (k n : ℕ) (ns : List ℕ) → times k (cond b (n ∷ ns) ns) ≡ cond b (one k n) 0 + times k ns
times_by true k n ns = sum_by-cons (one k) n ns
times_by false k n ns = omega arith

picked_by : (b : Bool) (p : ℕ × ℕ) (ps : List (ℕ × ℕ)) → map (λ (p : ℕ × ℕ). p.1) (cond b (p ∷ ps) ps) ≡ cond b (p.1 ∷ map (λ (p : ℕ × ℕ). p.1) ps) (map (λ (p : ℕ × ℕ). p.1) ps)
picked_by true p ps = refl
picked_by false p ps = refl

chosen_by : (b : Bool) (e : ℕ × ℕ) (es : List (ℕ × ℕ)) → map (λ (e : ℕ × ℕ). e.0) (cond b (e ∷ es) es) ≡ cond b (e.0 ∷ map (λ (e : ℕ × ℕ). e.0) es) (map (λ (e : ℕ × ℕ). e.0) es)
chosen_by true e es = refl
chosen_by false e es = refl

times_picked : (now k : ℕ) (p : ℕ × ℕ) (ps : List (ℕ × ℕ)) → times k (picked now (p ∷ ps)) ≡ mark now k p + times k (picked now ps)
times_picked now k p ps =
    ap (times k) (picked_by (nat_le p.0 now) p (filter (is_due now) ps))
    ∙ times_by (nat_le p.0 now) k p.1 (picked now ps)

times_chosen : (now k : ℕ) (e : ℕ × ℕ) (es : List (ℕ × ℕ)) → times k (chosen now (e ∷ es)) ≡ mark now k (e.1, e.0) + times k (chosen now es)
times_chosen now k e es =
    ap (times k) (chosen_by (nat_le e.1 now) e (filter (λ e. nat_le e.1 now) es))
    ∙ times_by (nat_le e.1 now) k e.0 (chosen now es)

put_by : (b : Bool) (now k : ℕ) (p q : ℕ × ℕ) (qs : List (ℕ × ℕ)) → times k (picked now (put p qs)) ≡ mark now k p + times k (picked now qs) → times k (picked now (cond b (q ∷ put p qs) (p ∷ q ∷ qs))) ≡ mark now k p + times k (picked now (q ∷ qs))
put_by true now k p q qs rest = omega (arith, times_picked now k q (put p qs), times_picked now k q qs, rest)
put_by false now k p q qs rest = times_picked now k p (q ∷ qs)

times_put : (now k : ℕ) (p : ℕ × ℕ) (ps : List (ℕ × ℕ)) → times k (picked now (put p ps)) ≡ mark now k p + times k (picked now ps)
times_put now k p [] = times_picked now k p []
times_put now k p (q ∷ qs) = put_by (is_before q p) now k p q qs (times_put now k p qs)

times_due : (now k : ℕ) (ds : List (ℕ × ℕ)) → times k (due now ds) ≡ times k (chosen now ds)
times_due now k [] = refl
times_due now k (e ∷ es) =
    times_put now k (e.1, e.0) (in_order es)
    ∙ ap (λ (n : ℕ). mark now k (e.1, e.0) + n) (times_due now k es)
    ∙ sym (times_chosen now k e es)

-- LISTS THAT RISE

abbrev Rises : List ℕ → Type 0
Rises [] = Unit {0}
Rises (n ∷ ns) = AllByRecursion (λ m. n ≤ m) ns × Rises ns

all_from : (n : ℕ) (ns : List ℕ) → ((j d : ℕ) → j < length ns → n ≤ get_or ns j d) → AllByRecursion (λ m. n ≤ m) ns
all_from n [] h = tt
all_from n (m ∷ ns) h = (h 0 0 (omega arith), all_from n ns (λ j d k. h (suc j) d (omega (arith, k))))

rises_from : (ns : List ℕ) → IsNonDecreasing ns → Rises ns
rises_from [] h = tt
rises_from (n ∷ ns) h =
    (all_from n ns (λ j d k. h 0 (suc j) d (omega arith) (omega (arith, k))), rises_from ns (λ i j d k l. h (suc i) (suc j) d (omega (arith, k)) (omega (arith, l))))

one_self : (k : ℕ) → one k k ≡ 1
one_self k = grind (arith, nat_tests)

one_other : (k n : ℕ) → k < n → one k n ≡ 0
one_other k n h = grind (arith, nat_tests)

-- a number below all others is not there
none_rising : (k : ℕ) (ns : List ℕ) → AllByRecursion (λ m. k < m) ns → times k ns ≡ 0
none_rising k [] all = refl
none_rising k (n ∷ ns) all = omega (arith, sum_by-cons (one k) n ns, one_other k n all.0, none_rising k ns all.1)

less_is : (k n : ℕ) → nat_cmp k n ≡ Less → k < n
less_is k n h = grind (arith, nat_tests)

below_strict : (k z : ℕ) (zs : List ℕ) → k ≤ z → AllByRecursion (λ m. nat_cmp z m ≡ Less) zs → AllByRecursion (λ m. k < m) zs
below_strict k z [] h all = tt
below_strict k z (m ∷ zs) h all = (omega (arith, h, less_is z m all.0), below_strict k z zs h all.1)

below_rising : (k y : ℕ) (ys : List ℕ) → k < y → AllByRecursion (λ m. y ≤ m) ys → AllByRecursion (λ m. k < m) ys
below_rising k y [] h all = tt
below_rising k y (m ∷ ys) h all = (omega (arith, h, all.0), below_rising k y ys h all.1)

heads : (y z : ℕ) (ys zs : List ℕ) → AllByRecursion (λ m. y ≤ m) ys → AllByRecursion (λ m. nat_cmp z m ≡ Less) zs → ((k : ℕ) → times k (y ∷ ys) ≡ times k (z ∷ zs)) → y ≡ z
heads y z ys zs low high same =
    let no_less : (y < z) → ⊥ = λ less.
    let none = none_rising y (z ∷ zs) (less, below_strict y z zs (omega (arith, less)) high) in
    absurd (omega (arith, none, same y, sum_by-cons (one y) y ys, one_self y)) in
    let no_more : (z < y) → ⊥ = λ less.
    let none = none_rising z (y ∷ ys) (less, below_rising z y ys less low) in
    absurd (omega (arith, none, same z, sum_by-cons (one z) z zs, one_self z)) in
    grind (arith, no_less, no_more)

tails : (y z k : ℕ) (ys zs : List ℕ) → y ≡ z → times k (y ∷ ys) ≡ times k (z ∷ zs) → times k ys ≡ times k zs
tails y z k ys zs is same =
    let here : one k y ≡ one k z = ap (one k) is in
    omega (arith, same, here, sum_by-cons (one k) y ys, sum_by-cons (one k) z zs)

-- a list that does not fall, and one that rises, with the same numbers are one
same_list : (ys zs : List ℕ) → Rises ys → IsStrictlySortedBy nat_cmp zs → ((k : ℕ) → times k ys ≡ times k zs) → ys ≡ zs
unfolding IsStrictlySortedBy
same_list [] [] low high same = refl
same_list [] (z ∷ zs) low high same = absurd (omega (arith, same z, sum_by-cons (one z) z zs, one_self z))
same_list (y ∷ ys) [] low high same = absurd (omega (arith, same y, sum_by-cons (one y) y ys, one_self y))
same_list (y ∷ ys) (z ∷ zs) low high same =
    let is : y ≡ z = heads y z ys zs low.0 high.0 same in
    ap (λ (n : ℕ). n ∷ ys) is
    ∙ ap (λ (ns : List ℕ). z ∷ ns) (same_list ys zs low.1 high.1 (λ k. tails y z k ys zs is (same k)))

above_by : (m : ℕ) (b : Bool) (e : ℕ × ℕ) (es : List (ℕ × ℕ)) → nat_cmp m e.0 ≡ Less → AllByRecursion (λ n. nat_cmp m n ≡ Less) (map (λ (e : ℕ × ℕ). e.0) es) → AllByRecursion (λ n. nat_cmp m n ≡ Less) (map (λ (e : ℕ × ℕ). e.0) (cond b (e ∷ es) es))
above_by m true e es here rest = (here, rest)
above_by m false e es here rest = rest

above_chosen : (now m : ℕ) (ds : List (ℕ × ℕ)) → AllByRecursion (λ n. nat_cmp m n ≡ Less) (keys_of ds) → AllByRecursion (λ n. nat_cmp m n ≡ Less) (chosen now ds)
above_chosen now m [] all = tt
above_chosen now m (e ∷ es) all = above_by m (nat_le e.1 now) e (filter (λ e. nat_le e.1 now) es) all.0 (above_chosen now m es all.1)

strict_by : (b : Bool) (e : ℕ × ℕ) (es : List (ℕ × ℕ)) → AllByRecursion (λ n. nat_cmp e.0 n ≡ Less) (map (λ (e : ℕ × ℕ). e.0) es) → IsStrictlySortedBy nat_cmp (map (λ (e : ℕ × ℕ). e.0) es) → IsStrictlySortedBy nat_cmp (map (λ (e : ℕ × ℕ). e.0) (cond b (e ∷ es) es))
unfolding IsStrictlySortedBy
strict_by true e es above rest = (above, rest)
strict_by false e es above rest = rest

strict_chosen : (now : ℕ) (ds : List (ℕ × ℕ)) → IsStrictlySortedBy nat_cmp (keys_of ds) → IsStrictlySortedBy nat_cmp (chosen now ds)
unfolding IsStrictlySortedBy
strict_chosen now [] rises = tt
strict_chosen now (e ∷ es) rises = strict_by (nat_le e.1 now) e (filter (λ e. nat_le e.1 now) es) (above_chosen now e.0 es rises.0) (strict_chosen now es rises.1)

-- the keys that are due, sorted, are those in order of key
pub due_sorted : (now : ℕ) (ds : List (ℕ × ℕ)) (found sorted : List ℕ) → IsStrictlySortedBy nat_cmp (keys_of ds) → found ≡ due now ds → IsPermutation found sorted → IsSorted nat_cmp sorted → sorted ≡ chosen now ds
due_sorted now ds found sorted rises is moved order =
    same_list sorted (chosen now ds) (rises_from sorted (IsNonDecreasingBy-from_sort (λ n. n) sorted order)) (strict_chosen now ds rises) (λ k. sum_by-IsPermutation (one k) found sorted moved ∙ ap (times k) is ∙ times_due now k ds)
