-- What stood of a map is put back.
use Rattle.std.proofs.Common.{◌≡◌, ℕ, Bool, true, false, cond, List, refl, ap, sym, subst}
use Rattle.std.specs.Prelude.{Option, Some, None, option_map}
use Rattle.rl_ids.specs.declared.objects.MapValue.{MapValue}
use Rattle.rl_ids.specs.declared.objects.ObjectId.{ObjectId}
use Rattle.rl_types.specs.declared.objects.Op.{Op}
use Rattle.rl_types.specs.declared.objects.Op.TheVariants.{MapSet, MapRemove}
use Rattle.rl_objmodel.specs.Held.{Write, Cells}
use Rattle.rl_objmodel.specs.Objects.{greater}
use Rattle.rl_objmodel.specs.Places.{at_text, with_at, IsRising}
use Rattle.rl_objmodel.specs.Steps.{changes, is_above, with_write}
use Rattle.rl_objmodel.proofs.PlacesHeld.{same_with}
use Rattle.rl_objmodel.proofs.PlacesBack.{restored_with, is_there_with}
use Rattle.rl_livemap.specs.Stamps.{stood_at}
use Rattle.rl_object.specs.declared.stood.CellsStood.{CellsStood}
use Rattle.rl_object.specs.Back.{SameCells, OneCell, key_in}
use Rattle.rl_object.specs.Parts.{cells_before, one_or_same, IsMapBack}

not_above : (there : Option Write) (w : Write) → is_above (option_map (λ (w : Write). w.serial) there) w.serial ≡ false → there ≡ Some (greater there w)
not_above None w h = cc
not_above (Some other) w h = ap (λ (b : Bool). Some (cond b w other)) (sym h)

by_answer : (key : List ℕ) (before : Option (Option Write)) (answer : Option (Option Write)) (after cells : Cells) → before ≡ answer → IsMapBack key (cells_before (one_or_same answer)) after cells → IsMapBack key (cells_before (one_or_same before)) after cells
by_answer key before answer after cells is h = subst (λ (x : Option (Option Write)). IsMapBack key (cells_before (one_or_same x)) after cells) (sym is) h

one_back : (key : List ℕ) (w : Write) (cells : Cells) → IsRising cells → IsMapBack key (OneCell (at_text key cells)) (with_at key w cells) cells
one_back key w cells rising = record {
  there = is_there_with key w cells;
  back = restored_with key w (at_text key cells) cells rising refl;
}

same_back : (key : List ℕ) (after cells : Cells) → after ≡ cells → IsMapBack key SameCells after cells
same_back key after cells is = record { there = tt; back = is }

written_by : (key : List ℕ) (w : Write) (cells : Cells) (b : Bool) → IsRising cells → changes key w.serial cells ≡ b → IsMapBack key (cells_before (one_or_same (cond b (Some (at_text key cells)) None))) (with_write key w cells) cells
written_by key w cells true rising h = one_back key (greater (at_text key cells) w) cells rising
written_by key w cells false rising h = same_back key (with_write key w cells) cells (same_with key _ cells rising (not_above (at_text key cells) w h))

-- after a write
written_back : (key : List ℕ) (w : Write) (before : Option (Option Write)) (cells after : Cells) → IsRising cells → before ≡ stood_at key w.serial cells → after ≡ with_write key w cells → IsMapBack key (cells_before (one_or_same before)) after cells
written_back key w before cells after rising is step =
    by_answer key before (stood_at key w.serial cells) after cells is
    (subst (λ (x : Cells). IsMapBack key (cells_before (one_or_same (stood_at key w.serial cells))) x cells) (sym step) (written_by key w cells (changes key w.serial cells) rising refl))

pub set_back : (op : Op) (id : ObjectId) (key text : List ℕ) (value : MapValue) (w : Write) (stood : CellsStood) (before : Option (Option Write)) (cells after : Cells) → op ≡ MapSet id key value → text ≡ key → stood ≡ one_or_same before → IsRising cells → before ≡ stood_at text w.serial cells → after ≡ with_write text w cells → IsMapBack (key_in op) (cells_before stood) after cells
set_back op id key text value w stood before cells after is same stands rising answer step =
    subst (λ (x : Op). IsMapBack (key_in x) (cells_before stood) after cells) (sym is)
    (subst (λ (x : List ℕ). IsMapBack x (cells_before stood) after cells) same
    (subst (λ (x : CellsStood). IsMapBack text (cells_before x) after cells) (sym stands) (written_back text w before cells after rising answer step)))

pub removed_back : (op : Op) (id : ObjectId) (key text : List ℕ) (w : Write) (stood : CellsStood) (before : Option (Option Write)) (cells after : Cells) → op ≡ MapRemove id key → text ≡ key → stood ≡ one_or_same before → IsRising cells → before ≡ stood_at text w.serial cells → after ≡ with_write text w cells → IsMapBack (key_in op) (cells_before stood) after cells
removed_back op id key text w stood before cells after is same stands rising answer step =
    subst (λ (x : Op). IsMapBack (key_in x) (cells_before stood) after cells) (sym is)
    (subst (λ (x : List ℕ). IsMapBack x (cells_before stood) after cells) same
    (subst (λ (x : CellsStood). IsMapBack text (cells_before x) after cells) (sym stands) (written_back text w before cells after rising answer step)))
