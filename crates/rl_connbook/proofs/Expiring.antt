-- What is left where all records that are over are removed one by one.
use Rattle.std.proofs.Common.{◌≡◌, ℕ, Bool, true, false, cond, List, [], ◌∷◌, map, refl, ap, ◌∙◌, arith}
use Rattle.std.specs.Prelude.{not}
use Rattle.std.specs.List.{AllByRecursion, filter}
use Rattle.std.specs.List.Sorted.{IsStrictlySortedBy}
use Rattle.std.specs.Ordering.{nat_cmp}
use Rattle.std.specs.declared.cmp.Ordering.TheVariants.{Less}
use Rattle.std.specs.Map.{keys_of}
use Rattle.std.specs.BTreeMap.{is_at}
use Rattle.std.proofs.lemmas.Bool.Decides.{nat_tests}
use Rattle.rl_connbook.specs.declared.record.Record.{Record}
use Rattle.rl_connbook.specs.Book.{is_over}
use Rattle.rl_connbook.specs.Steps.{without, without_all}
use Rattle.rl_connbook.proofs.Finding.{numbers_over}

pub not_at : (n q : ℕ) → nat_cmp q n ≡ Less → is_at (nat_cmp n) q ≡ false
not_at n q h = grind (arith, nat_tests)

pub at_self : (n : ℕ) → is_at (nat_cmp n) n ≡ true
at_self n = grind (arith, nat_tests)

first_stays : (e : ℕ × Record) (es : List (ℕ × Record)) (ns : List ℕ) → AllByRecursion (λ n. nat_cmp e.0 n ≡ Less) ns → without_all (e ∷ es) ns ≡ e ∷ without_all es ns
first_stays e es [] all = refl
first_stays e es (n ∷ ns) all =
    ap (λ (b : Bool). without_all (cond b es (e ∷ without es n)) ns) (not_at n e.0 all.0)
    ∙ first_stays e (without es n) ns all.1

first_goes : (e : ℕ × Record) (es : List (ℕ × Record)) → without (e ∷ es) e.0 ≡ es
first_goes e es = ap (λ (b : Bool). cond b es (e ∷ without es e.0)) (at_self e.0)

above_by : (m : ℕ) (e : ℕ × Record) (xs : List (ℕ × Record)) (b : Bool) → nat_cmp m e.0 ≡ Less → AllByRecursion (λ n. nat_cmp m n ≡ Less) (map (λ (e : ℕ × Record). e.0) xs) → AllByRecursion (λ n. nat_cmp m n ≡ Less) (map (λ (e : ℕ × Record). e.0) (cond b (e ∷ xs) xs))
above_by m e xs true here rest = (here, rest)
above_by m e xs false here rest = rest

above_over : (now m : ℕ) (es : List (ℕ × Record)) → AllByRecursion (λ n. nat_cmp m n ≡ Less) (keys_of es) → AllByRecursion (λ n. nat_cmp m n ≡ Less) (numbers_over now es)
above_over now m [] all = tt
above_over now m (e ∷ es) all = above_by m e (filter (λ e. is_over now e.1) es) (is_over now e.1) all.0 (above_over now m es all.1)

left_by : (now : ℕ) (e : ℕ × Record) (es : List (ℕ × Record)) (b : Bool) → AllByRecursion (λ n. nat_cmp e.0 n ≡ Less) (numbers_over now es) → without_all es (numbers_over now es) ≡ filter (λ e. not (is_over now e.1)) es → without_all (e ∷ es) (map (λ (e : ℕ × Record). e.0) (cond b (e ∷ filter (λ e. is_over now e.1) es) (filter (λ e. is_over now e.1) es))) ≡ cond (not b) (e ∷ filter (λ e. not (is_over now e.1)) es) (filter (λ e. not (is_over now e.1)) es)
left_by now e es true above rest = ap (λ (xs : List (ℕ × Record)). without_all xs (numbers_over now es)) (first_goes e es) ∙ rest
left_by now e es false above rest = first_stays e es (numbers_over now es) above ∙ ap (λ (xs : List (ℕ × Record)). e ∷ xs) rest

pub left_over : (now : ℕ) (es : List (ℕ × Record)) → IsStrictlySortedBy nat_cmp (keys_of es) → without_all es (numbers_over now es) ≡ filter (λ e. not (is_over now e.1)) es
unfolding IsStrictlySortedBy
left_over now [] rises = refl
left_over now (e ∷ es) rises = left_by now e es (is_over now e.1) (above_over now e.0 es rises.0) (left_over now es rises.1)
