-- What a write leaves.
use Rattle.std.proofs.Common.{◌≡◌, ℕ, ◌+◌, ◌<◌, ◌≤◌, Bool, true, false, cond, List, length, refl, ap, sym, subst, ◌∙◌, arith, get_or}
use Rattle.std.specs.Prelude.{insert, slice_set, option_map, Option, Some, None}
use Rattle.std.proofs.Math.ListN.{get_or-map}
use Rattle.std.proofs.lemmas.List.{length-set}
use Rattle.std.proofs.lemmas.List.Edits.{length-insert}
use Rattle.rl_ids.specs.declared.serials.OpSerial.{OpSerial}
use Rattle.rl_ids.specs.Objects.{is_below}
use Rattle.rl_types.specs.declared.objects.MapCell.{MapCell}
use Rattle.rl_objmodel.specs.Held.{Write, Cells, shown_cell}
use Rattle.rl_objmodel.specs.Objects.{greater}
use Rattle.rl_objmodel.specs.Places.{at_text, with_at, IsRising, IsHeldAt, IsMissedAt}
use Rattle.rl_objmodel.specs.Steps.{is_above, changes, told_write, with_told}
use Rattle.rl_objmodel.proofs.PlacesHeld.{texts_same, held_there, missed_there, replaced_with, inserted_with, same_with, is_rising_with}
use Rattle.rl_livemap.specs.Stamps.{stamped, IsKept}
use Rattle.rl_livemap.proofs.Stamped.{Shown, shown_is, set_stamped, insert_stamped, length-stamped, held_stamped, missed_stamped}

-- a write at a key: whether it changed, and what it left
pub record IsWritten (key : List ℕ) (cell : MapCell) (stamp : ℕ) (cells : Shown) (stamps : List ℕ) (cells2 : Shown) (stamps2 : List ℕ) (changed : Bool) : Type 0 where
  pub tells : changed ≡ changes key cell.serial (stamped cells stamps)
  pub step : stamped cells2 stamps2 ≡ with_told stamp (key, cell) (stamped cells stamps)
  pub even : length stamps2 ≡ length cells2

pub kept_written : (key : List ℕ) (cell : MapCell) (stamp : ℕ) (cells : Shown) (stamps : List ℕ) (cells2 : Shown) (stamps2 : List ℕ) (changed : Bool) → IsKept cells stamps → IsWritten key cell stamp cells stamps cells2 stamps2 changed → IsKept cells2 stamps2
kept_written key cell stamp cells stamps cells2 stamps2 changed kept written = record {
  rising = subst (λ (xs : Cells). IsRising xs) (sym written.step) (is_rising_with key (greater (at_text key (stamped cells stamps)) (told_write stamp (key, cell)).1) (stamped cells stamps) kept.rising);
  even = written.even;
}

pub kept_same : (cells cells2 : Shown) (stamps stamps2 : List ℕ) → IsKept cells stamps → cells2 ≡ cells → stamps2 ≡ stamps → IsKept cells2 stamps2
kept_same cells cells2 stamps stamps2 kept h k =
    subst (λ (xs : Shown). IsKept xs stamps2) (sym h) (subst (λ (ns : List ℕ). IsKept cells ns) (sym k) kept)

-- by what stands at the key

with_there : (key : List ℕ) (cell : MapCell) (stamp : ℕ) (z : Cells) (there : Option Write) (new : Write) → at_text key z ≡ there → greater there (told_write stamp (key, cell)).1 ≡ new → with_told stamp (key, cell) z ≡ with_at key new z
with_there key cell stamp z there new is e =
    ap (λ (o : Option Write). with_at key (greater o (told_write stamp (key, cell)).1) z) is ∙ ap (λ (w : Write). with_at key w z) e

changes_there : (key : List ℕ) (serial : OpSerial) (z : Cells) (there : Option Write) → at_text key z ≡ there → changes key serial z ≡ is_above (option_map (λ (w : Write). w.serial) there) serial
changes_there key serial z there is = ap (λ (o : Option Write). is_above (option_map (λ (w : Write). w.serial) o) serial) is

-- NOTHING STOOD THERE

pub written_new : (key : List ℕ) (cell : MapCell) (stamp : ℕ) (cells cells2 : Shown) (stamps stamps2 : List ℕ) (at : ℕ) → IsKept cells stamps → IsMissedAt key (stamped cells stamps) at → cells2 ≡ insert cells at (key, cell) → stamps2 ≡ insert stamps at stamp → IsWritten key cell stamp cells stamps cells2 stamps2 true
written_new key cell stamp cells cells2 stamps stamps2 at kept place h k =
    let z = stamped cells stamps in
    let low : at ≤ length cells = omega (arith, place.place.within, length-stamped cells stamps kept.even) in
    let there : at_text key z ≡ None = missed_there key z at kept.rising place in
    let both : stamped cells2 stamps2 ≡ insert z at (told_write stamp (key, cell)) =
    ap (λ (xs : Shown). stamped xs stamps2) h ∙ ap (stamped (insert cells at (key, cell))) k ∙ insert_stamped cells stamps at (key, cell) stamp kept.even low in
    let size : length stamps2 ≡ length cells2 =
    ap length k ∙ length-insert stamps at stamp (omega (arith, kept.even)) ∙ ap (λ (n : ℕ). n + 1) kept.even ∙ sym (length-insert cells at (key, cell) low) ∙ sym (ap length h) in
    record {
      tells = sym (changes_there key cell.serial z None there);
      step = both ∙ inserted_with key (told_write stamp (key, cell)).1 z at place ∙ sym (with_there key cell stamp z None (told_write stamp (key, cell)).1 there refl);
      even = size;
    }

-- SOMETHING STOOD THERE

module _ (key : List ℕ) (cell : MapCell) (stamp : ℕ) (cells : Shown) (stamps : List ℕ) (at : ℕ) (kept : IsKept cells stamps) (place : IsHeldAt key (stamped cells stamps) at) where
  default : List ℕ × Write
  default = told_write stamp (key, cell)

  abbrev there_write : Write
  there_write = (get_or (stamped cells stamps) at (told_write stamp (key, cell))).1

  abbrev there_cell : List ℕ × MapCell
  there_cell = get_or cells at (shown_cell (told_write stamp (key, cell)))

  within : at < length cells
  within = omega (arith, place.within, length-stamped cells stamps kept.even)

  there : at_text key (stamped cells stamps) ≡ Some there_write
  there = held_there key (stamped cells stamps) at (told_write stamp (key, cell)) place

  seen : there_cell ≡ shown_cell (get_or (stamped cells stamps) at (told_write stamp (key, cell)))
  seen = sym (ap (λ (xs : Shown). get_or xs at (shown_cell (told_write stamp (key, cell)))) (shown_is cells stamps kept.even)) ∙ get_or-map shown_cell (stamped cells stamps) at (told_write stamp (key, cell))

  same_serial : there_cell.1.serial ≡ there_write.serial
  same_serial = ap (λ (c : List ℕ × MapCell). c.1.serial) seen

  same_key : there_cell.0 ≡ key
  same_key = ap (λ (c : List ℕ × MapCell). c.0) seen ∙ sym (texts_same key _ (place.same (told_write stamp (key, cell))))

  greater_at : (b : Bool) → b ≡ is_below there_write.serial cell.serial → greater (Some there_write) (told_write stamp (key, cell)).1 ≡ cond b (told_write stamp (key, cell)).1 there_write
  greater_at b e = ap (λ (c : Bool). cond c (told_write stamp (key, cell)).1 there_write) (sym e)

  changed_at : (b : Bool) → b ≡ is_below there_cell.1.serial cell.serial → b ≡ changes key cell.serial (stamped cells stamps)
  changed_at b e = e ∙ ap (λ (s : OpSerial). is_below s cell.serial) same_serial ∙ sym (changes_there key cell.serial (stamped cells stamps) (Some there_write) there)

  below_at : (b : Bool) → b ≡ is_below there_cell.1.serial cell.serial → b ≡ is_below there_write.serial cell.serial
  below_at b e = e ∙ ap (λ (s : OpSerial). is_below s cell.serial) same_serial

  pub written_over : (b : Bool) (cells2 : Shown) (stamps2 : List ℕ) → b ≡ is_below there_cell.1.serial cell.serial → cells2 ≡ cond b (slice_set cells at (there_cell.0, cell)) cells → stamps2 ≡ cond b (slice_set stamps at stamp) stamps → IsWritten key cell stamp cells stamps cells2 stamps2 b
  written_over true cells2 stamps2 e h k =
      let z = stamped cells stamps in
      let cells_are : cells2 ≡ slice_set cells at (key, cell) = h ∙ ap (λ (t : List ℕ). slice_set cells at (t, cell)) same_key in
      let both : stamped cells2 stamps2 ≡ slice_set z at (told_write stamp (key, cell)) =
      ap (λ (xs : Shown). stamped xs stamps2) cells_are ∙ ap (stamped (slice_set cells at (key, cell))) k ∙ set_stamped cells stamps at (key, cell) stamp kept.even within in
      record {
        tells = changed_at true e;
        step = both ∙ replaced_with key (told_write stamp (key, cell)).1 z at place ∙ sym (with_there key cell stamp z (Some there_write) (told_write stamp (key, cell)).1 there (greater_at true (below_at true e)));
        even = ap length k ∙ length-set stamps at stamp ∙ kept.even ∙ sym (length-set cells at (key, cell)) ∙ sym (ap length cells_are);
      }
  written_over false cells2 stamps2 e h k =
      let z = stamped cells stamps in
      let both : stamped cells2 stamps2 ≡ z = ap (λ (xs : Shown). stamped xs stamps2) h ∙ ap (stamped cells) k in
      record {
        tells = changed_at false e;
        step = both ∙ sym (same_with key there_write z kept.rising there) ∙ sym (with_there key cell stamp z (Some there_write) there_write there (greater_at false (below_at false e)));
        even = ap length k ∙ kept.even ∙ sym (ap length h);
      }

-- as the search found it

pub over_written : (key : List ℕ) (cell : MapCell) (stamp : ℕ) (cells seen cells2 : Shown) (stamps stamps2 : List ℕ) (at : ℕ) (b : Bool) → IsKept cells stamps → seen ≡ cells → (IsRising seen → IsHeldAt key seen at) → ((d : List ℕ × MapCell) → b ≡ is_below (get_or cells at d).1.serial cell.serial) → ((d : List ℕ × MapCell) → cells2 ≡ cond b (slice_set cells at ((get_or cells at d).0, cell)) cells) → stamps2 ≡ cond b (slice_set stamps at stamp) stamps → IsWritten key cell stamp cells stamps cells2 stamps2 b
over_written key cell stamp cells seen cells2 stamps stamps2 at b kept same place below left left2 =
    written_over key cell stamp cells stamps at kept (held_stamped key cells seen stamps at same kept place) b cells2 stamps2 (below (shown_cell (told_write stamp (key, cell)))) (left (shown_cell (told_write stamp (key, cell)))) left2

pub new_written : (key : List ℕ) (cell : MapCell) (stamp : ℕ) (cells seen cells2 : Shown) (stamps stamps2 : List ℕ) (at : ℕ) → IsKept cells stamps → seen ≡ cells → (IsRising seen → IsMissedAt key seen at) → cells2 ≡ insert cells at (key, cell) → stamps2 ≡ insert stamps at stamp → IsWritten key cell stamp cells stamps cells2 stamps2 true
new_written key cell stamp cells seen cells2 stamps stamps2 at kept same place left left2 =
    written_new key cell stamp cells cells2 stamps stamps2 at kept (missed_stamped key cells seen stamps at same kept place) left left2
