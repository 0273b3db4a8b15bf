-- What a Tick leaves loads a pool with no more than before.
use Rattle.std.proofs.Common.{◌≡◌, ℕ, suc, ◌+◌, ◌≤◌, Bool, true, false, cond, List, [], ◌∷◌, length, refl, ap, sym, subst, ◌∙◌, arith, sum_by}
use Rattle.std.specs.Prelude.{map, not}
use Rattle.std.proofs.lemmas.List.Sums.{sum_by-cons}
use Rattle.rl_types.specs.Weight.{cell_weight}
use Rattle.rl_objmodel.specs.Held.{Write, Cells, HeldBody, Sum, Keys, Held, shown_body, shown_cell, is_collected_write}
use Rattle.rl_objmodel.specs.Rules.{cells_held}
use Rattle.rl_types.specs.Weight.{held_in}
use Rattle.rl_objmodel.specs.Steps.{collected, collected_body, collected_cells, is_gone}
use Rattle.rl_objrules.specs.declared.load.Load.{Load}
use Rattle.rl_objrules.specs.declared.load.Shelf.{Shelf}
use Rattle.rl_objrules.specs.Ids.{IsAscending}
use Rattle.rl_objrules.specs.Loads.{held_cells, held_weight, load_in, saturated_load, HasRoot, IsInRange, IsSound, IsUnder}
use Rattle.rl_objrules.proofs.Limits.{load_fits}
use Rattle.rl_pool.proofs.Roots.{root_collected}
use Rattle.rl_pool.specs.Pools.{collected_one}
use Rattle.rl_pool.proofs.Dropping.{gone_first, stays_first}

abbrev stays : ℕ → List ℕ × Write → Bool
stays now cell = not (is_collected_write now cell.1.written)

fewer_by : (x : List ℕ × Write) (kept cells : Cells) (b : Bool) → length (map shown_cell kept) ≤ length (map shown_cell cells) → length (map shown_cell (cond b (x ∷ kept) kept)) ≤ suc (length (map shown_cell cells))
fewer_by x kept cells true h = omega (arith, h)
fewer_by x kept cells false h = omega (arith, h)

fewer : (now : ℕ) (cells : Cells) → length (map shown_cell (collected_cells now cells)) ≤ length (map shown_cell cells)
fewer now [] = omega arith
fewer now (x ∷ cells) = fewer_by x (collected_cells now cells) cells (stays now x) (fewer now cells)

less_by : (x : List ℕ × Write) (kept cells : Cells) (b : Bool) → sum_by cell_weight (map shown_cell kept) ≤ sum_by cell_weight (map shown_cell cells) → sum_by cell_weight (map shown_cell (cond b (x ∷ kept) kept)) ≤ cell_weight (shown_cell x) + sum_by cell_weight (map shown_cell cells)
less_by x kept cells true h = omega (arith, h, sum_by-cons cell_weight (shown_cell x) (map shown_cell kept))
less_by x kept cells false h = omega (arith, h)

less : (now : ℕ) (cells : Cells) → sum_by cell_weight (map shown_cell (collected_cells now cells)) ≤ sum_by cell_weight (map shown_cell cells)
less now [] = omega arith
less now (x ∷ cells) = omega (arith, sum_by-cons cell_weight (shown_cell x) (map shown_cell cells), less_by x (collected_cells now cells) cells (stays now x) (less now cells))

body_cells : (now : ℕ) (body : HeldBody) → cells_held (shown_body (collected_body now body)) ≤ cells_held (shown_body body)
body_cells now (Sum sum) = omega arith
body_cells now (Keys cells) = fewer now cells

body_weight : (now : ℕ) (body : HeldBody) → held_in (shown_body (collected_body now body)) ≤ held_in (shown_body body)
body_weight now (Sum sum) = omega arith
body_weight now (Keys cells) = less now cells

one_weight : (now : ℕ) (x : Held) → held_weight (collected_one now x) ≤ held_weight x
one_weight now x = omega (arith, body_weight now x.body)

module _ (now : ℕ) (f : Held → ℕ) (one : (x : Held) → f (collected_one now x) ≤ f x) where
  sum_under_by : (x : Held) (xs : List Held) (b : Bool) → is_gone now x ≡ b → sum_by f (collected now xs) ≤ sum_by f xs → sum_by f (collected now (x ∷ xs)) ≤ f x + sum_by f xs
  sum_under_by x xs true e h = omega (arith, h, ap (sum_by f) (gone_first now x xs e))
  sum_under_by x xs false e h = omega (arith, h, one x, ap (sum_by f) (stays_first now x xs e), sum_by-cons f (collected_one now x) (collected now xs))

  sum_under : (xs : List Held) → sum_by f (collected now xs) ≤ sum_by f xs
  sum_under [] = omega arith
  sum_under (x ∷ xs) = omega (arith, sum_by-cons f x xs, sum_under_by x xs (is_gone now x) refl (sum_under xs))

pub collected_under : (now : ℕ) (xs : List Held) → IsUnder (load_in (collected now xs)) (load_in xs)
collected_under now xs = record {
  cells = sum_under now held_cells (λ x. body_cells now x.body) xs;
  weight = sum_under now held_weight (one_weight now) xs;
}

pub collected_sound : (now : ℕ) (shelf : Shelf) (objects seen : List Held) (load : Load) → IsSound shelf → IsInRange shelf.load → objects ≡ collected now shelf.objects → (IsAscending shelf.objects → IsAscending objects) → seen ≡ objects → load ≡ saturated_load (load_in seen) → IsSound (record { objects = objects; load = load })
collected_sound now shelf objects seen load sound range is rising same load_is =
    let under : IsUnder (load_in (collected now shelf.objects)) shelf.load = subst (IsUnder (load_in (collected now shelf.objects))) (sym sound.load) (collected_under now shelf.objects) in
    record {
      ascending = rising sound.ascending;
      rooted = subst HasRoot (sym is) (root_collected now shelf.objects sound.rooted);
      load = load_fits (load_in (collected now shelf.objects)) shelf.load load (load_is ∙ ap (λ (xs : List Held). saturated_load (load_in xs)) (same ∙ is)) under range.cells range.weight ∙ ap load_in (sym is);
    }
