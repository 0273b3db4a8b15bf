-- What stood is put back.
use Rattle.std.proofs.Common.{◌≡◌, ℕ, Bool, List, refl, ap, sym, subst, ◌∙◌}
use Rattle.std.specs.Prelude.{bytes_eq, Option, ℤ, IsSome}
use Rattle.std.specs.Ordering.{is_eq}
use Rattle.std.proofs.lemmas.Map.Text.{is_eq-slice_cmp}
use Rattle.rl_ids.specs.declared.objects.ObjectKind.{ObjectKind}
use Rattle.rl_ids.specs.declared.objects.ObjectKind.TheVariants as kinds
use Rattle.rl_ids.specs.declared.objects.ObjectId.{ObjectId}
use Rattle.rl_ids.specs.declared.serials.OpSerial.{OpSerial}
use Rattle.rl_ids.specs.Objects.{id_cmp, kind_of, object_id_text}
use Rattle.rl_types.specs.declared.objects.Op.{Op}
use Rattle.rl_types.specs.Weight.{state_weight}
use Rattle.rl_objmodel.specs.Held.{HeldBody, Sum, Keys, Held, shown, shown_body}
use Rattle.rl_objmodel.specs.Places.{at_text, restored_at, IsRising}
use Rattle.rl_objmodel.specs.Rules.{sum_held}
use Rattle.rl_objmodel.specs.Steps.{MapHeld, with_site}
use Rattle.rl_objmodel.proofs.PlacesHeld.{is_rising_with}
use Rattle.rl_objmodel.proofs.PlacesBack.{restored_with, is_there_with}
use Rattle.rl_object.specs.Back.{CellsBefore, SameCells, OneCell, AllCells, Stood, IsCellThere, body_restored, cells_restored, key_in, restored, IsBack}
use Rattle.rl_object.specs.Parts.{created_as, body_as, held_of, held_as, IsMapBack}

abbrev Sites : Type 0
Sites = List (List ℕ × OpSerial)

abbrev the_held : ObjectId → Sites → Option ℕ → Bool → HeldBody → Held
the_held id sites deleted created body = record { id = id; sites = sites; deleted = deleted; created = created; body = body }

held_eq : (id : ObjectId) (s s2 : Sites) (d d2 : Option ℕ) (c c2 : Bool) (b b2 : HeldBody) → s ≡ s2 → d ≡ d2 → c ≡ c2 → b ≡ b2 → the_held id s d c b ≡ the_held id s2 d2 c2 b2
held_eq id s s2 d d2 c c2 b b2 g h k e =
    ap (λ (x : Sites). the_held id x d c b) g
    ∙ ap (λ (x : Option ℕ). the_held id s2 x c b) h
    ∙ ap (λ (x : Bool). the_held id s2 d2 x b) k
    ∙ ap (λ (x : HeldBody). the_held id s2 d2 c2 x) e

body_back : (kind : ObjectKind) (op : Op) (stood : Stood) (sum sum2 : ℤ) (map map2 : MapHeld) → stood.sum ≡ sum_held (shown_body (body_as kind sum map)) → cells_restored (key_in op) stood.cells map2.cells ≡ map.cells → body_restored op stood (body_as kind sum2 map2) ≡ body_as kind sum map
body_back kinds.Counter op stood sum sum2 map map2 h k = ap Sum h
body_back kinds.Map op stood sum sum2 map map2 h k = ap Keys k

sum_there : (key : List ℕ) (cells : CellsBefore) (sum : ℤ) → IsCellThere key cells (Sum sum)
sum_there key SameCells sum = tt
sum_there key (OneCell before) sum = tt
sum_there key (AllCells before) sum = tt

cell_there : (kind : ObjectKind) (key : List ℕ) (cells : CellsBefore) (sum : ℤ) (map : MapHeld) → IsCellThere key cells (Keys map.cells) → IsCellThere key cells (body_as kind sum map)
cell_there kinds.Counter key cells sum map h = sum_there key cells sum
cell_there kinds.Map key cells sum map h = h

is_back : (kind : ObjectKind) (serial : OpSerial) (op : Op) (stood : Stood) (id : ObjectId) (sites sites2 : Sites) (deleted deleted2 : Option ℕ) (created created2 : Bool) (sum sum2 : ℤ) (map map2 : MapHeld) → IsRising sites → sites2 ≡ with_site serial sites → stood.serial ≡ at_text serial.site sites → stood.deleted ≡ deleted → stood.created ≡ created_as kind created map → stood.sum ≡ sum_held (shown_body (body_as kind sum map)) → IsMapBack (key_in op) stood.cells map2.cells map.cells → stood.weight ≡ state_weight (shown (held_of kind id sites deleted created sum map)) → IsBack serial op stood (held_of kind id sites2 deleted2 created2 sum2 map2) (held_of kind id sites deleted created sum map)
is_back kind serial op stood id sites sites2 deleted deleted2 created created2 sum sum2 map map2 rising s serial_is d c e cells w =
    let sites_back : restored_at serial.site stood.serial sites2 ≡ sites =
    ap (λ (x : Sites). restored_at serial.site stood.serial x) s ∙ restored_with serial.site serial stood.serial sites rising serial_is in
    let back : restored serial op stood (held_of kind id sites2 deleted2 created2 sum2 map2) ≡ held_of kind id sites deleted created sum map =
    held_eq id _ _ _ _ _ _ _ _ sites_back d c (body_back kind op stood sum sum2 map map2 e cells.back) in
    record {
      can = record {
        site = subst (λ (x : Sites). IsSome (at_text serial.site x)) (sym s) (is_there_with serial.site serial sites);
        cell = cell_there kind (key_in op) stood.cells sum2 map2 cells.there;
        weight = w ∙ sym (ap (λ (x : Held). state_weight (shown x)) back);
      };
      back = back;
    }

-- as a call leaves the parts
pub stood_back : (serial : OpSerial) (op : Op) (stood : Stood) (id : ObjectId) (sites sites2 : Sites) (deleted deleted2 : Option ℕ) (created created2 : Bool) (sum sum2 : ℤ) (map map2 : MapHeld) (held : Held) → held_as id sites deleted created sum map ≡ held → IsRising sites → sites2 ≡ with_site serial sites → stood.serial ≡ at_text serial.site sites → stood.deleted ≡ held.deleted → stood.created ≡ held.created → stood.sum ≡ sum_held (shown_body held.body) → IsMapBack (key_in op) stood.cells map2.cells map.cells → stood.weight ≡ state_weight (shown held) → IsBack serial op stood (held_as id sites2 deleted2 created2 sum2 map2) held
stood_back serial op stood id sites sites2 deleted deleted2 created created2 sum sum2 map map2 held is rising s serial_is d c e cells w =
    subst (λ (x : Held). IsBack serial op stood (held_as id sites2 deleted2 created2 sum2 map2) x) is
    (is_back (kind_of id) serial op stood id sites sites2 deleted deleted2 created created2 sum sum2 map map2 rising s serial_is
    (d ∙ sym (ap (λ (x : Held). x.deleted) is)) (c ∙ sym (ap (λ (x : Held). x.created) is))
    (e ∙ sym (ap (λ (x : Held). sum_held (shown_body x.body)) is)) cells (w ∙ sym (ap (λ (x : Held). state_weight (shown x)) is)))

-- the sites are put back
pub sites_back : (serial : OpSerial) (before : Option OpSerial) (sites marked after : Sites) → IsRising sites → before ≡ at_text serial.site sites → marked ≡ with_site serial sites → (IsRising marked → IsSome (at_text serial.site marked) → after ≡ restored_at serial.site before marked) → after ≡ sites
sites_back serial before sites marked after rising is step back =
    back
    (subst (λ (x : Sites). IsRising x) (sym step) (is_rising_with serial.site serial sites rising))
    (subst (λ (x : Sites). IsSome (at_text serial.site x)) (sym step) (is_there_with serial.site serial sites))
    ∙ ap (λ (x : Sites). restored_at serial.site before x) step
    ∙ restored_with serial.site serial before sites rising is

-- an id's text is another's where the ids are as one
pub text_is : (id other : ObjectId) (text own : List ℕ) → object_id_text id ≡ text → own ≡ object_id_text other → bytes_eq text own ≡ is_eq (id_cmp id other)
text_is id other text own h k =
    ap (λ (t : List ℕ). bytes_eq t own) (sym h) ∙ ap (bytes_eq (object_id_text id)) k ∙ sym (is_eq-slice_cmp (object_id_text id) (object_id_text other))

-- nothing stood of the cells
pub same_back : (key : List ℕ) (map : MapHeld) → IsMapBack key SameCells map.cells map.cells
same_back key map = record { there = tt; back = refl }
