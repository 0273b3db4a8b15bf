-- What a write answers of what stood at its key, and what is left where that is put back.
use Rattle.std.proofs.Common.{◌≡◌, ℕ, ◌<◌, Bool, cond, List, [], ◌∷◌, length, refl, ap, sym, subst, ◌∙◌, arith, get_or}
use Rattle.std.specs.Prelude.{slice_set, remove, Option, Some, None, is_some, option_map, IfSome, IsSome}
use Rattle.std.proofs.lemmas.List.{length-set}
use Rattle.std.proofs.lemmas.Option.{get_or_from_slice_get, slice_get_read}
use Rattle.rl_ids.specs.declared.serials.OpSerial.{OpSerial}
use Rattle.rl_types.specs.declared.objects.MapCell.{MapCell}
use Rattle.rl_objmodel.specs.Held.{Write, Cells}
use Rattle.rl_objmodel.specs.Places.{at_text, with_at, restored_at, IsRising, IsHeldAt, IsMissedAt}
use Rattle.rl_objmodel.specs.Steps.{changes, is_above, told_write}
use Rattle.rl_objmodel.proofs.PlacesHeld.{texts_same, held_there, missed_there, replaced_with}
use Rattle.rl_objmodel.proofs.PlacesBack.{removed_without, is_rising_restored}
use Rattle.rl_livemap.specs.Stamps.{stamped, stood_at, held_cell, place_back, IsKept}
use Rattle.rl_livemap.proofs.Stamped.{Shown, set_stamped, remove_stamped, get_or-stamped, length-stamped, held_stamped, missed_stamped}
use Rattle.rl_livemap.proofs.Dropped.{even_removed}

-- what was read at a place
pub read_at : {X : Type 0} (xs seen : List X) (at : ℕ) (x d : X) → seen ≡ xs → at < length xs → x ≡ get_or seen at x → x ≡ get_or xs at d
read_at xs seen at x d same h is =
    sym (get_or_from_slice_get xs at x d (slice_get_read xs (length xs) at x refl h (is ∙ ap (λ ys. get_or ys at x) same)))

-- WHAT A WRITE ANSWERS

stood_by : (key : List ℕ) (serial : OpSerial) (z : Cells) (before : Option (Option Write)) (there : Write) → is_some before ≡ changes key serial z → at_text key z ≡ Some there → IfSome before (λ one. one ≡ Some there) → before ≡ stood_at key serial z
stood_by key serial z None there h at is = ap (λ (c : Bool). cond c (Some (at_text key z)) None) h
stood_by key serial z (Some one) there h at is =
    ap (λ (o : Option Write). Some o) (is ∙ sym at) ∙ ap (λ (c : Bool). cond c (Some (at_text key z)) None) h

-- over what stood there
pub stood_over : (key : List ℕ) (cell : MapCell) (stamp : ℕ) (cells seen : Shown) (stamps : List ℕ) (at : ℕ) (before : Option (Option Write)) → IsKept cells stamps → seen ≡ cells → (IsRising seen → IsHeldAt key seen at) → is_some before ≡ changes key cell.serial (stamped cells stamps) → ((d : List ℕ × MapCell) (s : ℕ) → IfSome before (λ one. one ≡ Some (held_cell (get_or stamps at s) (get_or cells at d).1))) → before ≡ stood_at key cell.serial (stamped cells stamps)
stood_over key cell stamp cells seen stamps at before kept same place tells there =
    let z = stamped cells stamps in
    let d = told_write stamp (key, cell) in
    let at_place = held_stamped key cells seen stamps at same kept place in
    let within : at < length cells = omega (arith, at_place.within, length-stamped cells stamps kept.even) in
    let e = ap (λ (one : List ℕ × Write). one.1) (get_or-stamped cells stamps at d (key, cell) stamp kept.even within) in
    stood_by key cell.serial z before (get_or z at d).1 tells (held_there key z at d at_place)
    (subst (λ (w : Write). IfSome before (λ (one : Option Write). one ≡ Some w)) (sym e) (there (key, cell) stamp))

abbrev stood_of : Option Write → OpSerial → Option (Option Write)
stood_of there serial = cond (is_above (option_map (λ (w : Write). w.serial) there) serial) (Some there) None

-- where nothing stood
pub stood_new : (key : List ℕ) (cell : MapCell) (cells seen : Shown) (stamps : List ℕ) (at : ℕ) → IsKept cells stamps → seen ≡ cells → (IsRising seen → IsMissedAt key seen at) → Some None ≡ stood_at key cell.serial (stamped cells stamps)
stood_new key cell cells seen stamps at kept same place =
    ap (λ (o : Option Write). stood_of o cell.serial) (sym (missed_there key (stamped cells stamps) at kept.rising (missed_stamped key cells seen stamps at same kept place)))

-- PUTTING BACK

pub back_over : (cells cells2 : Shown) (stamps stamps2 : List ℕ) (at : ℕ) (cell : MapCell) (stamp : ℕ) (w : Write) → length stamps ≡ length cells → at < length cells → ((d : List ℕ × MapCell) → cells2 ≡ slice_set cells at ((get_or cells at d).0, cell)) → stamps2 ≡ slice_set stamps at stamp → held_cell stamp cell ≡ w → stamped cells2 stamps2 ≡ place_back at (Some w) (stamped cells stamps)
back_over cells cells2 stamps stamps2 at cell stamp w even within h k is =
    let z = stamped cells stamps in
    let key = (get_or cells at ([], cell)).0 in
    let e = ap (λ (one : List ℕ × Write). one.0) (get_or-stamped cells stamps at ([], w) ([], cell) stamp even within) in
    ap (λ (xs : Shown). stamped xs stamps2) (h ([], cell)) ∙ ap (stamped (slice_set cells at (key, cell))) k
    ∙ set_stamped cells stamps at (key, cell) stamp even within
    ∙ ap (λ (t : List ℕ). slice_set z at (t, held_cell stamp cell)) (sym e)
    ∙ ap (λ (v : Write). slice_set z at ((get_or z at ([], w)).0, v)) is

pub even_over : (cells cells2 : Shown) (stamps stamps2 : List ℕ) (at : ℕ) (cell : MapCell) (stamp : ℕ) → length stamps ≡ length cells → ((d : List ℕ × MapCell) → cells2 ≡ slice_set cells at ((get_or cells at d).0, cell)) → stamps2 ≡ slice_set stamps at stamp → length stamps2 ≡ length cells2
even_over cells cells2 stamps stamps2 at cell stamp even h k =
    ap length k ∙ length-set stamps at stamp ∙ even ∙ sym (length-set cells at ((get_or cells at ([], cell)).0, cell)) ∙ sym (ap length (h ([], cell)))

pub back_out : (cells cells2 : Shown) (stamps stamps2 : List ℕ) (at : ℕ) → length stamps ≡ length cells → at < length cells → cells2 ≡ remove cells at → stamps2 ≡ remove stamps at → stamped cells2 stamps2 ≡ place_back at None (stamped cells stamps)
back_out cells cells2 stamps stamps2 at even within h k =
    ap (λ (xs : Shown). stamped xs stamps2) h ∙ ap (stamped (remove cells at)) k ∙ remove_stamped cells stamps at even within

place_is : (key : List ℕ) (z : Cells) (at : ℕ) (before : Option Write) → IsHeldAt key z at → place_back at before z ≡ restored_at key before z
place_is key z at None h = removed_without key z at h
place_is key z at (Some w) h = ap (λ (t : List ℕ). slice_set z at (t, w)) (sym (texts_same key _ (h.same ([], w)))) ∙ replaced_with key w z at h

pub back_is : (key : List ℕ) (cells cells2 seen : Shown) (stamps stamps2 : List ℕ) (at : ℕ) (before : Option Write) → IsKept cells stamps → seen ≡ cells → (IsRising seen → IsHeldAt key seen at) → stamped cells2 stamps2 ≡ place_back at before (stamped cells stamps) → stamped cells2 stamps2 ≡ restored_at key before (stamped cells stamps)
back_is key cells cells2 seen stamps stamps2 at before kept same place step =
    step ∙ place_is key (stamped cells stamps) at before (held_stamped key cells seen stamps at same kept place)

pub back_kept : (key : List ℕ) (cells cells2 seen : Shown) (stamps stamps2 : List ℕ) (at : ℕ) (before : Option Write) → IsKept cells stamps → seen ≡ cells → (IsRising seen → IsHeldAt key seen at) → stamped cells2 stamps2 ≡ place_back at before (stamped cells stamps) → length stamps2 ≡ length cells2 → IsKept cells2 stamps2
back_kept key cells cells2 seen stamps stamps2 at before kept same place step even = record {
  rising = subst (λ (xs : Cells). IsRising xs) (sym (back_is key cells cells2 seen stamps stamps2 at before kept same place step)) (is_rising_restored key before (stamped cells stamps) kept.rising);
  even = even;
}

none_some : {P : Type 0} (o : Option Write) → o ≡ None → IsSome o → P
none_some None h there = cc
none_some (Some w) h there = cc

pub nothing_back : {P : Type 0} (key : List ℕ) (cells seen : Shown) (stamps : List ℕ) (at : ℕ) → IsKept cells stamps → seen ≡ cells → (IsRising seen → IsMissedAt key seen at) → IsSome (at_text key (stamped cells stamps)) → P
nothing_back key cells seen stamps at kept same place there =
    none_some (at_text key (stamped cells stamps)) (missed_there key (stamped cells stamps) at kept.rising (missed_stamped key cells seen stamps at same kept place)) there
