-- Cells with their stamps, and the cells alone.
use Rattle.std.proofs.Common.{◌≡◌, ℕ, zero, suc, ◌<◌, ◌≤◌, Bool, true, false, cond, List, [], ◌∷◌, length, refl, ap, sym, subst, ◌∙◌, arith, get_or}
use Rattle.std.specs.Prelude.{insert, remove, slice_set, map, option_map, bytes_eq, Option, Some, None}
use Rattle.std.proofs.Math.ListN.{get_or-map}
use Rattle.rl_ids.specs.declared.objects.MapValue.{MapValue}
use Rattle.rl_types.specs.declared.objects.MapCell.{MapCell}
use Rattle.rl_objmodel.specs.Held.{Write, Cells, value_in, cell_of, shown_cell}
use Rattle.rl_objmodel.specs.Places.{at_text, AreRising, IsRising, is_before, IsPlace, IsHeldAt, IsMissedAt}
use Rattle.rl_objmodel.specs.Steps.{told_written, told_write}
use Rattle.rl_objmodel.proofs.PlacesHeld.{AllLater}
use Rattle.rl_objmodel.proofs.PlacesFound.{held, missed}
use Rattle.rl_livemap.specs.Stamps.{stamped, IsKept}

abbrev pub Shown : Type 0
Shown = List (List ℕ × MapCell)

-- THE CELLS ALONE

value_told : (stamp : ℕ) (value : Option MapValue) → value_in (told_written stamp value) ≡ value
value_told stamp None = refl
value_told stamp (Some value) = refl

abbrev cell_with : List ℕ × MapCell → Option MapValue → List ℕ × MapCell
cell_with cell value = (cell.0, record { serial = cell.1.serial; value = value })

pub shown_told : (stamp : ℕ) (cell : List ℕ × MapCell) → shown_cell (told_write stamp cell) ≡ cell
shown_told stamp cell = ap (cell_with cell) (value_told stamp cell.1.value)

cons_both : (x y : List ℕ × MapCell) (xs ys : Shown) → x ≡ y → xs ≡ ys → x ∷ xs ≡ y ∷ ys
cons_both x y xs ys h k = cc

pub shown_is : (cells : Shown) (stamps : List ℕ) → length stamps ≡ length cells → map shown_cell (stamped cells stamps) ≡ cells
shown_is [] stamps e = refl
shown_is (cell ∷ cells) [] e = absurd (omega (arith, e))
shown_is (cell ∷ cells) (stamp ∷ stamps) e = cons_both _ _ _ _ (shown_told stamp cell) (shown_is cells stamps (omega (arith, e)))

pub length-stamped : (cells : Shown) (stamps : List ℕ) → length stamps ≡ length cells → length (stamped cells stamps) ≡ length cells
length-stamped [] stamps e = refl
length-stamped (cell ∷ cells) [] e = absurd (omega (arith, e))
length-stamped (cell ∷ cells) (stamp ∷ stamps) e = ap suc (length-stamped cells stamps (omega (arith, e)))

pub get_or-stamped : (cells : Shown) (stamps : List ℕ) (at : ℕ) (d : List ℕ × Write) (c : List ℕ × MapCell) (s : ℕ) → length stamps ≡ length cells → at < length cells → get_or (stamped cells stamps) at d ≡ told_write (get_or stamps at s) (get_or cells at c)
get_or-stamped [] stamps at d c s e h = absurd (omega arith)
get_or-stamped (cell ∷ cells) [] at d c s e h = absurd (omega (arith, e))
get_or-stamped (cell ∷ cells) (stamp ∷ stamps) zero d c s e h = refl
get_or-stamped (cell ∷ cells) (stamp ∷ stamps) (suc at) d c s e h = get_or-stamped cells stamps at d c s (omega (arith, e)) (omega arith)

map_at : (b : Bool) (write : Write) (rest : Option MapCell) (rest2 : Option Write) → rest ≡ option_map cell_of rest2 → cond b (Some (cell_of write)) rest ≡ option_map cell_of (cond b (Some write) rest2)
map_at true write rest rest2 h = refl
map_at false write rest rest2 h = h

-- what stands at a key, as it is shown
pub at_shown : (key : List ℕ) (z : Cells) → at_text key (map shown_cell z) ≡ option_map cell_of (at_text key z)
at_shown key [] = refl
at_shown key (one ∷ z) = map_at (bytes_eq key one.0) one.1 _ _ (at_shown key z)

-- EDITS

cons_told : (one : List ℕ × Write) (xs ys : Cells) → xs ≡ ys → one ∷ xs ≡ one ∷ ys
cons_told one xs ys h = cc

pub set_stamped : (cells : Shown) (stamps : List ℕ) (at : ℕ) (cell : List ℕ × MapCell) (stamp : ℕ) → length stamps ≡ length cells → at < length cells → stamped (slice_set cells at cell) (slice_set stamps at stamp) ≡ slice_set (stamped cells stamps) at (told_write stamp cell)
set_stamped [] stamps at cell stamp e h = absurd (omega arith)
set_stamped (c ∷ cells) [] at cell stamp e h = absurd (omega (arith, e))
set_stamped (c ∷ cells) (s ∷ stamps) zero cell stamp e h = refl
set_stamped (c ∷ cells) (s ∷ stamps) (suc at) cell stamp e h = cons_told _ _ _ (set_stamped cells stamps at cell stamp (omega (arith, e)) (omega arith))

pub insert_stamped : (cells : Shown) (stamps : List ℕ) (at : ℕ) (cell : List ℕ × MapCell) (stamp : ℕ) → length stamps ≡ length cells → at ≤ length cells → stamped (insert cells at cell) (insert stamps at stamp) ≡ insert (stamped cells stamps) at (told_write stamp cell)
insert_stamped [] [] zero cell stamp e h = refl
insert_stamped [] [] (suc at) cell stamp e h = absurd (omega arith)
insert_stamped [] (s ∷ stamps) at cell stamp e h = absurd (omega (arith, e))
insert_stamped (c ∷ cells) [] at cell stamp e h = absurd (omega (arith, e))
insert_stamped (c ∷ cells) (s ∷ stamps) zero cell stamp e h = refl
insert_stamped (c ∷ cells) (s ∷ stamps) (suc at) cell stamp e h = cons_told _ _ _ (insert_stamped cells stamps at cell stamp (omega (arith, e)) (omega arith))

pub remove_stamped : (cells : Shown) (stamps : List ℕ) (at : ℕ) → length stamps ≡ length cells → at < length cells → stamped (remove cells at) (remove stamps at) ≡ remove (stamped cells stamps) at
remove_stamped [] stamps at e h = absurd (omega arith)
remove_stamped (c ∷ cells) [] at e h = absurd (omega (arith, e))
remove_stamped (c ∷ cells) (s ∷ stamps) zero e h = refl
remove_stamped (c ∷ cells) (s ∷ stamps) (suc at) e h = cons_told _ _ _ (remove_stamped cells stamps at (omega (arith, e)) (omega arith))

cons_number : (x : ℕ) (xs ys : List ℕ) → xs ≡ ys → x ∷ xs ≡ x ∷ ys
cons_number x xs ys h = cc

-- taking out what was put in
pub remove_insert : (stamps : List ℕ) (at stamp : ℕ) → at ≤ length stamps → remove (insert stamps at stamp) at ≡ stamps
remove_insert [] zero stamp h = refl
remove_insert [] (suc at) stamp h = absurd (omega arith)
remove_insert (s ∷ stamps) zero stamp h = refl
remove_insert (s ∷ stamps) (suc at) stamp h = cons_number s _ _ (remove_insert stamps at stamp (omega arith))

-- ORDER

later_shown : (text : List ℕ) (z : Cells) → AllLater text z → AllLater text (map shown_cell z)
later_shown text [] h = tt
later_shown text (one ∷ z) h = (h.0, later_shown text z h.1)

rising_shown : (z : Cells) → AreRising z → AreRising (map shown_cell z)
rising_shown [] h = tt
rising_shown (one ∷ z) h = (later_shown one.0 z h.0, rising_shown z h.1)

pub is_rising_shown : (z : Cells) → IsRising z → IsRising (map shown_cell z)
is_rising_shown z h = record { rising = rising_shown z h.rising }

pub rising_cells : (cells : Shown) (stamps : List ℕ) → IsKept cells stamps → IsRising cells
rising_cells cells stamps kept = subst (λ (xs : Shown). IsRising xs) (shown_is cells stamps kept.even) (is_rising_shown (stamped cells stamps) kept.rising)

-- PLACES

length-shown : (z : Cells) → length (map shown_cell z) ≡ length z
length-shown [] = refl
length-shown (one ∷ z) = ap suc (length-shown z)

lift_place : (text : List ℕ) (z : Cells) (at : ℕ) → IsPlace text (map shown_cell z) at → IsPlace text z at
lift_place text z at h = record {
  within = omega (arith, h.within, length-shown z);
  below = λ k d low high. sym (ap (λ (one : List ℕ × MapCell). is_before text one) (get_or-map shown_cell z k d)) ∙ h.below k (shown_cell d) low high;
  above = λ k d low high. sym (ap (λ (one : List ℕ × MapCell). is_before text one) (get_or-map shown_cell z k d)) ∙ h.above k (shown_cell d) low (omega (arith, length-shown z));
}

same_at : (text : List ℕ) (z : Cells) (at : ℕ) (d : List ℕ × Write) (b : Bool) → bytes_eq text (get_or (map shown_cell z) at (shown_cell d)).0 ≡ b → bytes_eq text (get_or z at d).0 ≡ b
same_at text z at d b h = sym (ap (λ (one : List ℕ × MapCell). bytes_eq text one.0) (get_or-map shown_cell z at d)) ∙ h

lift_held : (text : List ℕ) (z : Cells) (at : ℕ) → IsHeldAt text (map shown_cell z) at → IsHeldAt text z at
lift_held text z at h = record {
  place = lift_place text z at h.place;
  within = omega (arith, h.within, length-shown z);
  same = λ d. same_at text z at d true (h.same (shown_cell d));
}

lift_missed : (text : List ℕ) (z : Cells) (at : ℕ) → IsMissedAt text (map shown_cell z) at → IsMissedAt text z at
lift_missed text z at h = record {
  place = lift_place text z at h.place;
  other = λ d k. same_at text z at d false (h.other (shown_cell d) (omega (arith, length-shown z)));
}

-- where a search among the cells finds a key
pub held_stamped : (key : List ℕ) (cells seen : Shown) (stamps : List ℕ) (at : ℕ) → seen ≡ cells → IsKept cells stamps → (IsRising seen → IsHeldAt key seen at) → IsHeldAt key (stamped cells stamps) at
held_stamped key cells seen stamps at same kept place =
    lift_held key (stamped cells stamps) at (held key (map shown_cell (stamped cells stamps)) seen at (same ∙ sym (shown_is cells stamps kept.even)) place (is_rising_shown (stamped cells stamps) kept.rising))

pub missed_stamped : (key : List ℕ) (cells seen : Shown) (stamps : List ℕ) (at : ℕ) → seen ≡ cells → IsKept cells stamps → (IsRising seen → IsMissedAt key seen at) → IsMissedAt key (stamped cells stamps) at
missed_stamped key cells seen stamps at same kept place =
    lift_missed key (stamped cells stamps) at (missed key (map shown_cell (stamped cells stamps)) seen at (same ∙ sym (shown_is cells stamps kept.even)) place (is_rising_shown (stamped cells stamps) kept.rising))
