-- The connections that are over are among those whose deadline has come.
use Rattle.std.proofs.Common.{◌≡◌, ℕ, ◌+◌, ◌<◌, Bool, true, false, cond, List, [], ◌∷◌, ◌++◌, length, take, slice_index, map, refl, ap, sym, subst, ◌∙◌, arith}
use Rattle.std.specs.Prelude.{◌==◌, ◌&&◌, nat_le, Some, IsPermutation, IsSorted}
use Rattle.std.specs.List.{AllByRecursion, filter}
use Rattle.std.specs.List.Sorted.{IsStrictlySortedBy}
use Rattle.std.specs.Ordering.{nat_cmp}
use Rattle.std.specs.declared.cmp.Ordering.TheVariants.{Less}
use Rattle.std.specs.Map.{lookup, keys_of}
use Rattle.std.specs.BTreeMap.{is_at}
use Rattle.std.proofs.lemmas.Bool.Decides.{nat_tests}
use Rattle.std.proofs.lemmas.List.{take_more, append-nil}
use Rattle.std.proofs.lemmas.List.Elements.{filter-append}
use Rattle.rl_deadline.specs.Order.{due}
use Rattle.rl_connbook.specs.declared.record.Record.{Record}
use Rattle.rl_connbook.specs.declared.record.Standing.{Standing}
use Rattle.rl_connbook.specs.declared.record.Standing.TheVariants.{Live, LostSince, Closed}
use Rattle.rl_connbook.specs.Book.{is_over, is_over_by}
use Rattle.rl_connbook.specs.Due.{IsKept, due_at, deadlines_of, due_numbers, is_over_at, is_over_one}
use Rattle.rl_connbook.proofs.Coming.{chosen, due_sorted}
use Rattle.rl_connbook.proofs.Expiring.{not_at, at_self}
use Rattle.rl_connbook.proofs.Finding.{numbers_over}

-- DEADLINES

keys_timed : (es : List (ℕ × Record)) → keys_of (deadlines_of es) ≡ keys_of es
keys_timed [] = refl
keys_timed (e ∷ es) = ap (λ (ns : List ℕ). e.0 ∷ ns) (keys_timed es)

chosen_by : (b : Bool) (e : ℕ × Record) (ds : List (ℕ × ℕ)) (es : List (ℕ × Record)) → map (λ (d : ℕ × ℕ). d.0) ds ≡ map (λ (e : ℕ × Record). e.0) es → map (λ (d : ℕ × ℕ). d.0) (cond b ((e.0, due_at e.1.standing) ∷ ds) ds) ≡ map (λ (e : ℕ × Record). e.0) (cond b (e ∷ es) es)
chosen_by true e ds es rest = ap (λ (ns : List ℕ). e.0 ∷ ns) rest
chosen_by false e ds es rest = rest

chosen_is : (now : ℕ) (es : List (ℕ × Record)) → chosen now (deadlines_of es) ≡ due_numbers now es
chosen_is now [] = refl
chosen_is now (e ∷ es) = chosen_by (nat_le (due_at e.1.standing) now) e (filter (λ (d : ℕ × ℕ). nat_le d.1 now) (deadlines_of es)) (filter (λ (e : ℕ × Record). nat_le (due_at e.1.standing) now) es) (chosen_is now es)

-- the deadlines that have come, sorted by number
pub numbers_sorted : (now last : ℕ) (es : List (ℕ × Record)) (ds : List (ℕ × ℕ)) (found sorted : List ℕ) → IsKept last es ds → found ≡ due now ds → IsPermutation found sorted → IsSorted nat_cmp sorted → sorted ≡ due_numbers now es
numbers_sorted now last es ds found sorted kept is moved order =
    let same = ap keys_of kept.due ∙ keys_timed es in
    due_sorted now ds found sorted (subst (λ (ns : List ℕ). IsStrictlySortedBy nat_cmp ns) (sym same) kept.rises) is moved order
    ∙ ap (chosen now) kept.due
    ∙ chosen_is now es

-- THOSE THAT ARE OVER

over_stands : (now : ℕ) (s : Standing) → is_over_by now s ≡ true → nat_le (due_at s) now ≡ true
over_stands now Live h = cc
over_stands now (LostSince since) h = grind (arith, nat_tests, h)
over_stands now Closed h = grind (arith, nat_tests)

both_right : (a b : Bool) → (a && b) ≡ true → b ≡ true
both_right true b h = h
both_right false b h = cc

over_due : (now : ℕ) (r : Record) → is_over now r ≡ true → nat_le (due_at r.standing) now ≡ true
over_due now r h = over_stands now r.standing (both_right (r.busy == 0) (is_over_by now r.standing) h)

over_by : (b c : Bool) (test : ℕ → Bool) (e : ℕ × Record) (dues overs : List (ℕ × Record)) → test e.0 ≡ c → (c ≡ true → b ≡ true) → filter test (map (λ (e : ℕ × Record). e.0) dues) ≡ map (λ (e : ℕ × Record). e.0) overs → filter test (map (λ (e : ℕ × Record). e.0) (cond b (e ∷ dues) dues)) ≡ map (λ (e : ℕ × Record). e.0) (cond c (e ∷ overs) overs)
over_by true true test e dues overs is must rest =
    ap (λ (a : Bool). cond a (e.0 ∷ filter test (map (λ (e : ℕ × Record). e.0) dues)) (filter test (map (λ (e : ℕ × Record). e.0) dues))) is
    ∙ ap (λ (ns : List ℕ). e.0 ∷ ns) rest
over_by true false test e dues overs is must rest =
    ap (λ (a : Bool). cond a (e.0 ∷ filter test (map (λ (e : ℕ × Record). e.0) dues)) (filter test (map (λ (e : ℕ × Record). e.0) dues))) is
    ∙ rest
over_by false true test e dues overs is must rest = cc (must refl)
over_by false false test e dues overs is must rest = rest

over_among : (now : ℕ) (records es : List (ℕ × Record)) → AllByRecursion (λ e. lookup (is_at (nat_cmp e.0)) records ≡ Some e.1) es → filter (is_over_at now records) (due_numbers now es) ≡ numbers_over now es
over_among now records [] all = refl
over_among now records (e ∷ es) all =
    over_by (nat_le (due_at e.1.standing) now) (is_over now e.1) (is_over_at now records) e (filter (λ (e : ℕ × Record). nat_le (due_at e.1.standing) now) es) (filter (λ (e : ℕ × Record). is_over now e.1) es) (ap (is_over_one now) all.0) (over_due now e.1) (over_among now records es all.1)

found_later : (q e : ℕ × Record) (es : List (ℕ × Record)) → nat_cmp e.0 q.0 ≡ Less → lookup (is_at (nat_cmp q.0)) es ≡ Some q.1 → lookup (is_at (nat_cmp q.0)) (e ∷ es) ≡ Some q.1
found_later q e es less found = ap (λ (b : Bool). cond b (Some e.1) (lookup (is_at (nat_cmp q.0)) es)) (not_at q.0 e.0 less) ∙ found

all_later : (e : ℕ × Record) (es xs : List (ℕ × Record)) → AllByRecursion (λ n. nat_cmp e.0 n ≡ Less) (keys_of xs) → AllByRecursion (λ q. lookup (is_at (nat_cmp q.0)) es ≡ Some q.1) xs → AllByRecursion (λ q. lookup (is_at (nat_cmp q.0)) (e ∷ es) ≡ Some q.1) xs
all_later e es [] above all = tt
all_later e es (x ∷ xs) above all = (found_later x e es above.0 all.0, all_later e es xs above.1 all.1)

-- each record is found by its number
found_all : (es : List (ℕ × Record)) → IsStrictlySortedBy nat_cmp (keys_of es) → AllByRecursion (λ e. lookup (is_at (nat_cmp e.0)) es ≡ Some e.1) es
unfolding IsStrictlySortedBy
found_all [] rises = tt
found_all (e ∷ es) rises =
    (ap (λ (b : Bool). cond b (Some e.1) (lookup (is_at (nat_cmp e.0)) es)) (at_self e.0), all_later e es es rises.0 (found_all es rises.1))

pub over_is : (now : ℕ) (es : List (ℕ × Record)) → IsStrictlySortedBy nat_cmp (keys_of es) → filter (is_over_at now es) (due_numbers now es) ≡ numbers_over now es
over_is now es rises = over_among now es es (found_all es rises)

-- ONE NUMBER MORE

filter_one : (b : Bool) (test : ℕ → Bool) (n : ℕ) → test n ≡ b → filter test (n ∷ []) ≡ cond b (n ∷ []) []
filter_one b test n is = ap (λ (a : Bool). cond a (n ∷ []) []) is

filter_more : (b : Bool) (test : ℕ → Bool) (ns : List ℕ) (i : ℕ) → i < length ns → test (slice_index ns i) ≡ b → filter test (take (i + 1) ns) ≡ filter test (take i ns) ++ cond b (slice_index ns i ∷ []) []
filter_more b test ns i within is =
    ap (filter test) (take_more ns i 0 within)
    ∙ filter-append test (take i ns) (slice_index ns i ∷ [])
    ∙ ap (λ (xs : List ℕ). filter test (take i ns) ++ xs) (filter_one b test (slice_index ns i) is)

pub more_over : (test : ℕ → Bool) (ns : List ℕ) (i : ℕ) (before after : List ℕ) → i < length ns → test (slice_index ns i) ≡ true → before ≡ filter test (take i ns) → after ≡ before ++ slice_index ns i ∷ [] → after ≡ filter test (take (i + 1) ns)
more_over test ns i before after within is earlier pushed =
    pushed ∙ ap (λ (xs : List ℕ). xs ++ slice_index ns i ∷ []) earlier ∙ sym (filter_more true test ns i within is)

pub more_passed : (test : ℕ → Bool) (ns : List ℕ) (i : ℕ) (before : List ℕ) → i < length ns → test (slice_index ns i) ≡ false → before ≡ filter test (take i ns) → before ≡ filter test (take (i + 1) ns)
more_passed test ns i before within is earlier = earlier ∙ sym (append-nil (filter test (take i ns))) ∙ sym (filter_more false test ns i within is)
