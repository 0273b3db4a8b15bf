-- What cells weigh.
use Rattle.std.proofs.Common.{◌≡◌, ℕ, ◌+◌, ◌-◌, ◌<◌, ◌≤◌, ◌^◌, Bool, true, false, cond, List, [], ◌∷◌, refl, ap, sym, ◌∙◌, arith}
use Rattle.std.specs.Prelude.{map, sum_by, filter, not, min, option_map, length, Option, Some, None}
use Rattle.std.specs.declared.cmp.Ordering.{Ordering}
use Rattle.std.specs.declared.cmp.Ordering.TheVariants.{Less, Equal, Greater}
use Rattle.std.specs.Ordering.{nat_cmp, match_ordering}
use Rattle.std.specs.Cmp.Lexicographic.{slice_cmp}
use Rattle.std.proofs.lemmas.List.Sums.{sum_by-cons}
use Rattle.std.proofs.Math.Nat.{min-eq_left}
use Rattle.rl_numbers.specs.declared.limits.TheConstants.{OBJECT_WEIGHT}
use Rattle.rl_ids.specs.declared.serials.OpSerial.{OpSerial}
use Rattle.rl_ids.specs.Objects.{is_below}
use Rattle.rl_types.specs.declared.objects.MapCell.{MapCell}
use Rattle.rl_types.specs.Weight.{cell_weight, saturated}
use Rattle.rl_objmodel.specs.Held.{Write, Cells, shown_cell, is_collected_write}
use Rattle.rl_objmodel.specs.Objects.{greater}
use Rattle.rl_objmodel.specs.Places.{at_text, with_at, AreRising, IsRising}
use Rattle.rl_objmodel.specs.Steps.{changes, is_above, with_told, told_write, collected_cells}
use Rattle.rl_objmodel.proofs.PlacesHeld.{equal_same, eq_of_equal, eq_of_greater, at_first, at_more, none_later, later_all, same_with}
use Rattle.rl_livemap.specs.Stamps.{stamped, map_weight, write_weight, weight_left, stood_at, held_cell, unnumbered, unnumbered_cell, IsKept, IsMap}
use Rattle.rl_livemap.proofs.Stamped.{Shown, shown_is, shown_told}

abbrev pub total : Cells → ℕ
total z = sum_by cell_weight (map shown_cell z)

pub total_more : (one : List ℕ × Write) (z : Cells) → total (one ∷ z) ≡ cell_weight (shown_cell one) + total z
total_more one z = sum_by-cons cell_weight (shown_cell one) (map shown_cell z)

abbrev there_weight : List ℕ → Option Write → ℕ
there_weight key None = 0
there_weight key (Some write) = write_weight key write

-- sums of plain numbers

new_sum : (sum rest more there : ℕ) → sum ≡ more + rest → there ≡ 0 → sum + there ≡ rest + more
new_sum sum rest more there h k = omega arith

over_sum : (sum rest more there other all : ℕ) → sum ≡ more + rest → all ≡ other + rest → there ≡ other → sum + there ≡ all + more
over_sum sum rest more there other all h k e = omega arith

later_sum : (sum rest rest2 more there there2 other all : ℕ) → sum ≡ other + rest2 → all ≡ other + rest → there ≡ there2 → rest2 + there2 ≡ rest + more → sum + there ≡ all + more
later_sum sum rest rest2 more there there2 other all h k e rest_is = omega arith

-- ONE CELL MORE

total_with_at : (key : List ℕ) (x : Write) (one : List ℕ × Write) (z : Cells) (o : Ordering) → slice_cmp nat_cmp key one.0 ≡ o → AreRising (one ∷ z) → total (with_at key x z) + there_weight key (at_text key z) ≡ total z + write_weight key x → total (match_ordering o ((key, x) ∷ one ∷ z) ((key, x) ∷ z) (one ∷ with_at key x z)) + there_weight key (at_text key (one ∷ z)) ≡ total (one ∷ z) + write_weight key x
total_with_at key x one z Less h rising rest =
    new_sum _ _ _ _ (total_more (key, x) (one ∷ z)) (ap (there_weight key) (none_later key (one ∷ z) (h, later_all key one.0 z h rising.0)))
total_with_at key x one z Equal h rising rest =
    over_sum _ _ _ _ _ _ (total_more (key, x) z) (total_more one z)
    (ap (there_weight key) (at_first key one z (eq_of_equal key one.0 h)) ∙ ap (λ (t : List ℕ). write_weight t one.1) (equal_same key one.0 h))
total_with_at key x one z Greater h rising rest =
    later_sum _ _ _ _ _ _ _ _ (total_more one (with_at key x z)) (total_more one z) (ap (there_weight key) (at_more key one z (eq_of_greater key one.0 h))) rest

total_with : (key : List ℕ) (x : Write) (z : Cells) → AreRising z → total (with_at key x z) + there_weight key (at_text key z) ≡ total z + write_weight key x
total_with key x [] rising = new_sum _ _ _ _ (total_more (key, x) []) refl
total_with key x (one ∷ z) rising = total_with_at key x one z (slice_cmp nat_cmp key one.0) refl rising (total_with key x z rising.1)

-- A WRITE

above : (there : Option Write) (w : Write) → is_above (option_map (λ (w : Write). w.serial) there) w.serial ≡ true → greater there w ≡ w
above None w h = refl
above (Some other) w h = ap (λ (b : Bool). cond b w other) h

not_above : (there : Option Write) (w : Write) → is_above (option_map (λ (w : Write). w.serial) there) w.serial ≡ false → there ≡ Some (greater there w)
not_above None w h = cc
not_above (Some other) w h = ap (λ (b : Bool). Some (cond b w other)) (sym h)

same_told : (key : List ℕ) (cell : MapCell) (stamp : ℕ) (z : Cells) → IsRising z → changes key cell.serial z ≡ false → with_told stamp (key, cell) z ≡ z
same_told key cell stamp z rising h = same_with key _ z rising (not_above (at_text key z) (held_cell stamp cell) h)

new_told : (key : List ℕ) (cell : MapCell) (stamp : ℕ) (z : Cells) → changes key cell.serial z ≡ true → with_told stamp (key, cell) z ≡ with_at key (held_cell stamp cell) z
new_told key cell stamp z h = ap (λ (w : Write). with_at key w z) (above (at_text key z) (held_cell stamp cell) h)

full_sum : (own weight full more rest sum : ℕ) → weight ≡ own + rest → full ≡ weight + more → sum + 0 ≡ rest + more → full ≡ own + sum
full_sum own weight full more rest sum h k e = omega arith

left_sum : (own weight full more rest sum there : ℕ) → weight ≡ own + rest → full ≡ weight + more → sum + there ≡ rest + more → full - there ≡ own + sum
left_sum own weight full more rest sum there h k e = omega arith

weighed_there : (key : List ℕ) (cell : MapCell) (stamp : ℕ) (z : Cells) (there : Option Write) (weight full : ℕ) → total (with_at key (held_cell stamp cell) z) + there_weight key there ≡ total z + write_weight key (held_cell stamp cell) → weight ≡ map_weight z → full ≡ weight + write_weight key (held_cell stamp cell) → weight_left weight full key (Some there) ≡ map_weight (with_at key (held_cell stamp cell) z)
weighed_there key cell stamp z None weight full sum is all = full_sum OBJECT_WEIGHT weight full _ _ _ is all sum
weighed_there key cell stamp z (Some write) weight full sum is all = left_sum OBJECT_WEIGHT weight full _ _ _ _ is all sum

weighed_by : (key : List ℕ) (cell : MapCell) (stamp : ℕ) (z : Cells) (before : Option (Option Write)) (weight full : ℕ) (b : Bool) → IsRising z → changes key cell.serial z ≡ b → before ≡ cond b (Some (at_text key z)) None → weight ≡ map_weight z → full ≡ weight + write_weight key (held_cell stamp cell) → weight_left weight full key before ≡ map_weight (with_told stamp (key, cell) z)
weighed_by key cell stamp z before weight full true rising h stood is all =
    ap (weight_left weight full key) stood
    ∙ weighed_there key cell stamp z (at_text key z) weight full (total_with key (held_cell stamp cell) z rising.rising) is all
    ∙ sym (ap map_weight (new_told key cell stamp z h))
weighed_by key cell stamp z before weight full false rising h stood is all =
    ap (weight_left weight full key) stood ∙ is ∙ sym (ap map_weight (same_told key cell stamp z rising h))

pub weighed : (key : List ℕ) (cell : MapCell) (stamp : ℕ) (z : Cells) (before : Option (Option Write)) (weight full : ℕ) → IsRising z → before ≡ stood_at key cell.serial z → weight ≡ map_weight z → full ≡ weight + cell_weight (key, cell) → weight_left weight full key before ≡ map_weight (with_told stamp (key, cell) z)
weighed key cell stamp z before weight full rising stood is all =
    weighed_by key cell stamp z before weight full (changes key cell.serial z) rising refl stood is
    (all ∙ ap (λ (one : List ℕ × MapCell). weight + cell_weight one) (sym (shown_told stamp (key, cell))))

-- the weight that a write leaves
pub map_written : (key : List ℕ) (cell : MapCell) (stamp : ℕ) (cells cells2 : Shown) (stamps stamps2 : List ℕ) (before : Option (Option Write)) (weight full weight2 : ℕ) → IsMap cells stamps weight → full ≡ weight + cell_weight (key, cell) → before ≡ stood_at key cell.serial (stamped cells stamps) → stamped cells2 stamps2 ≡ with_told stamp (key, cell) (stamped cells stamps) → IsKept cells2 stamps2 → weight2 ≡ weight_left weight full key before → IsMap cells2 stamps2 weight2
map_written key cell stamp cells cells2 stamps stamps2 before weight full weight2 whole all stood step kept is = record {
  kept = kept;
  weighs = is ∙ weighed key cell stamp (stamped cells stamps) before weight full whole.kept.rising stood whole.weighs all ∙ sym (ap map_weight step);
}

pub map_same : (cells cells2 : Shown) (stamps stamps2 : List ℕ) (weight : ℕ) → IsMap cells stamps weight → cells2 ≡ cells → stamps2 ≡ stamps → IsKept cells2 stamps2 → IsMap cells2 stamps2 weight
map_same cells cells2 stamps stamps2 weight whole h k kept = record {
  kept = kept;
  weighs = whole.weighs ∙ sym (ap map_weight (ap (λ (xs : Shown). stamped xs stamps2) h ∙ ap (stamped cells) k));
}

-- FEWER CELLS

kept_sum : (sum rest rest2 more all : ℕ) → sum ≡ more + rest2 → all ≡ more + rest → rest2 ≤ rest → sum ≤ all
kept_sum sum rest rest2 more all h k less = omega arith

less_sum : (rest rest2 more all : ℕ) → all ≡ more + rest → rest2 ≤ rest → rest2 ≤ all
less_sum rest rest2 more all h less = omega arith

total_kept_at : (one : List ℕ × Write) (z rest : Cells) (b : Bool) → total rest ≤ total z → total (cond b (one ∷ rest) rest) ≤ total (one ∷ z)
total_kept_at one z rest true h = kept_sum _ _ _ _ _ (total_more one rest) (total_more one z) h
total_kept_at one z rest false h = less_sum _ _ _ _ (total_more one z) h

total_kept : (keep : List ℕ × Write → Bool) (z : Cells) → total (filter keep z) ≤ total z
total_kept keep [] = omega arith
total_kept keep (one ∷ z) = total_kept_at one z (filter keep z) (keep one) (total_kept keep z)

exact_sum : (own weight sum rest : ℕ) → weight ≡ own + rest → sum ≤ rest → weight < 2 ^ 64 → own + sum ≤ 2 ^ 64 - 1
exact_sum own weight sum rest h less range = omega arith

pub map_collected : (now : ℕ) (cells cells2 seen : Shown) (stamps stamps2 : List ℕ) (weight weight2 : ℕ) → IsMap cells stamps weight → weight < 2 ^ 64 → stamped cells2 stamps2 ≡ collected_cells now (stamped cells stamps) → IsKept cells2 stamps2 → seen ≡ cells2 → weight2 ≡ saturated (OBJECT_WEIGHT + sum_by cell_weight seen) → IsMap cells2 stamps2 weight2
map_collected now cells cells2 seen stamps stamps2 weight weight2 whole range step kept same is =
    let shown : sum_by cell_weight seen ≡ total (collected_cells now (stamped cells stamps)) =
    ap (sum_by cell_weight) (same ∙ sym (shown_is cells2 stamps2 kept.even)) ∙ ap total step in
    let less = total_kept (λ (cell : List ℕ × Write). not (is_collected_write now cell.1.written)) (stamped cells stamps) in
    let small = exact_sum OBJECT_WEIGHT weight _ _ whole.weighs less range in
    record {
      kept = kept;
      weighs = is ∙ ap (λ (n : ℕ). saturated (OBJECT_WEIGHT + n)) shown ∙ min-eq_left small ∙ sym (ap map_weight step);
    }

-- WITHOUT SERIALS

same_sum : (sum sum2 rest rest2 more : ℕ) → sum ≡ more + rest → sum2 ≡ more + rest2 → rest ≡ rest2 → sum ≡ sum2
same_sum sum sum2 rest rest2 more h k e = omega arith

total_unnumbered : (z : Cells) → total (unnumbered z) ≡ total z
total_unnumbered [] = refl
total_unnumbered (one ∷ z) = same_sum _ _ _ _ _ (total_more (unnumbered_cell one) (unnumbered z)) (total_more one z) (total_unnumbered z)

pub weight_unnumbered : (z : Cells) → map_weight (unnumbered z) ≡ map_weight z
weight_unnumbered z = ap (λ (n : ℕ). OBJECT_WEIGHT + n) (total_unnumbered z)
