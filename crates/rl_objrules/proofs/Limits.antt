-- What objects load a pool with, and the rule on all of them.
use Rattle.std.proofs.Common.{◌≡◌, ℕ, zero, suc, ◌+◌, ◌<◌, ◌≤◌, ◌-◌, ◌^◌, ◌≢◌, inl, inr, Bool, false, List, [], ◌∷◌, length, ap, ◌∙◌, arith, get_or, sum_by}
use Rattle.std.specs.Prelude.{insert, slice_set, min, ◌||◌, nat_lt, Option}
use Rattle.std.specs.Option.{option_map_or}
use Rattle.std.proofs.lemmas.List.Sums.{sum_by-cons}
use Rattle.std.proofs.Math.Nat.{min-eq_left, min-eq_right}
use Rattle.std.proofs.lemmas.Bool.{cases_lt}
use Rattle.rl_numbers.specs.declared.codes.TheConstants.{POOL_LIMIT}
use Rattle.rl_numbers.specs.declared.limits.TheConstants.{MAX_OBJECTS, MAX_MAP_CELLS, MAX_POOL_WEIGHT}
use Rattle.rl_types.specs.Weight.{saturated, state_weight}
use Rattle.rl_types.specs.declared.objects.ObjectState.{ObjectState}
use Rattle.rl_objmodel.specs.Held.{Held, shown}
use Rattle.rl_objmodel.specs.Rules.{cells_in, fails_if, is_heavy, pool_rule}
use Rattle.rl_objmodel.specs.Steps.{states}
use Rattle.rl_objrules.specs.declared.load.Load.{Load}
use Rattle.rl_objrules.specs.Loads.{held_cells, held_weight, load_of, no_load, load_in, saturated_load, is_past_limits, IsUnder, IsExchanged}
use Rattle.rl_objrules.proofs.Lists.{length_map, sum_map}

-- THE RULE

four : (a b c d e f h : Bool) → a ≡ e → b ≡ f → d ≡ h → (a || b || c || d) ≡ (e || f || c || h)
four a b c d e f h p q r = cc

limits_in : (pool : List Held) (heavy : Bool) → fails_if POOL_LIMIT (is_past_limits (length pool) (load_in pool) heavy) ≡ fails_if POOL_LIMIT (nat_lt MAX_OBJECTS (length (states pool)) || nat_lt MAX_MAP_CELLS (sum_by cells_in (states pool)) || heavy || nat_lt MAX_POOL_WEIGHT (sum_by state_weight (states pool)))
limits_in pool heavy =
    ap (fails_if POOL_LIMIT) (four _ _ heavy _ _ _ _
    (ap (nat_lt MAX_OBJECTS) (length_map shown pool))
    (ap (nat_lt MAX_MAP_CELLS) (sum_map cells_in shown pool))
    (ap (nat_lt MAX_POOL_WEIGHT) (sum_map state_weight shown pool)))

pub limits_are : (pool : List Held) (load : Load) (count : ℕ) (heavy : Bool) (target : Option ObjectState) → load ≡ load_in pool → count ≡ length pool → heavy ≡ option_map_or is_heavy target false → fails_if POOL_LIMIT (is_past_limits count load heavy) ≡ pool_rule target (states pool)
limits_are pool load count heavy target is many too =
    ap (λ (l : Load). fails_if POOL_LIMIT (is_past_limits count l heavy)) is
    ∙ ap (λ (n : ℕ). fails_if POOL_LIMIT (is_past_limits n (load_in pool) heavy)) many
    ∙ ap (λ (b : Bool). fails_if POOL_LIMIT (is_past_limits (length pool) (load_in pool) b)) too
    ∙ limits_in pool (option_map_or is_heavy target false)

-- ONE OF THEM

one_of : (f : Held → ℕ) (xs : List Held) (at : ℕ) (d : Held) → at < length xs → f (get_or xs at d) ≤ sum_by f xs
one_of f [] at d h = absurd (omega arith)
one_of f (x ∷ xs) zero d h = omega (arith, sum_by-cons f x xs)
one_of f (x ∷ xs) (suc at) d h = omega (arith, sum_by-cons f x xs, one_of f xs at d (omega arith))

pub under_all : (xs : List Held) (at : ℕ) (d : Held) → at < length xs → IsUnder (load_of (get_or xs at d)) (load_in xs)
under_all xs at d h = record { cells = one_of held_cells xs at d h; weight = one_of held_weight xs at d h }

set_sum : (f : Held → ℕ) (xs : List Held) (at : ℕ) (d new : Held) → at < length xs → sum_by f (slice_set xs at new) + f (get_or xs at d) ≡ sum_by f xs + f new
set_sum f [] at d new h = absurd (omega arith)
set_sum f (x ∷ xs) zero d new h = omega (arith, sum_by-cons f x xs, sum_by-cons f new xs)
set_sum f (x ∷ xs) (suc at) d new h = omega (arith, sum_by-cons f x xs, sum_by-cons f x (slice_set xs at new), set_sum f xs at d new (omega arith))

insert_sum : (f : Held → ℕ) (xs : List Held) (at : ℕ) (new : Held) → at ≤ length xs → sum_by f (insert xs at new) ≡ sum_by f xs + f new
insert_sum f [] zero new h = omega (arith, sum_by-cons f new [])
insert_sum f [] (suc at) new h = absurd (omega arith)
insert_sum f (x ∷ xs) zero new h = omega (arith, sum_by-cons f new (x ∷ xs))
insert_sum f (x ∷ xs) (suc at) new h = omega (arith, sum_by-cons f x xs, sum_by-cons f x (insert xs at new), insert_sum f xs at new (omega arith))

abbrev load_with : ℕ → ℕ → Load
load_with cells weight = record { cells = cells; weight = weight }

loads_same : (a b d e : ℕ) → a ≡ d → b ≡ e → load_with a b ≡ load_with d e
loads_same a b d e p q = cc

pub set_load : (xs : List Held) (at : ℕ) (d new : Held) (load made : Load) → at < length xs → load ≡ load_in xs → IsExchanged load (load_of (get_or xs at d)) (load_of new) made → made ≡ load_in (slice_set xs at new)
set_load xs at d new load made h is e =
    loads_same made.cells made.weight _ _
    (omega (arith, set_sum held_cells xs at d new h, e.cells, ap (λ (l : Load). l.cells) is))
    (omega (arith, set_sum held_weight xs at d new h, e.weight, ap (λ (l : Load). l.weight) is))

pub insert_load : (xs : List Held) (at : ℕ) (new : Held) (load made : Load) → at ≤ length xs → load ≡ load_in xs → IsExchanged load no_load (load_of new) made → made ≡ load_in (insert xs at new)
insert_load xs at new load made h is e =
    loads_same made.cells made.weight _ _
    (omega (arith, insert_sum held_cells xs at new h, e.cells, ap (λ (l : Load). l.cells) is))
    (omega (arith, insert_sum held_weight xs at new h, e.weight, ap (λ (l : Load). l.weight) is))

-- NUMBERS THAT FIT

pub fitting : (n : ℕ) → n < 2 ^ 64 → saturated n ≡ n
fitting n h = min-eq_left (omega (arith, h))

unsaturated_by : (n m : ℕ) → min n m ≢ m → n ≤ m
unsaturated_by n m h = elim (cases_lt n m) [ inl k ↦ omega (arith, k) | inr k ↦ absurd (h (min-eq_right k)) ]

pub load_kept : (load made : Load) → made ≡ saturated_load load → made.cells ≢ 2 ^ 64 - 1 → made.weight ≢ 2 ^ 64 - 1 → made ≡ load
load_kept load made is a b =
    is ∙ loads_same _ _ load.cells load.weight
    (min-eq_left (unsaturated_by load.cells (2 ^ 64 - 1) (λ e. a (ap (λ (l : Load). l.cells) is ∙ e))))
    (min-eq_left (unsaturated_by load.weight (2 ^ 64 - 1) (λ e. b (ap (λ (l : Load). l.weight) is ∙ e))))

pub load_fits : (load before made : Load) → made ≡ saturated_load load → IsUnder load before → before.cells < 2 ^ 64 → before.weight < 2 ^ 64 → made ≡ load
load_fits load before made is under a b =
    is ∙ loads_same _ _ load.cells load.weight
    (fitting load.cells (omega (arith, under.cells, a)))
    (fitting load.weight (omega (arith, under.weight, b)))
