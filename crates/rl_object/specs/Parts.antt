-- An object by the parts that are kept of it.
use Rattle.std.specs.Prelude.{◌≡◌, ℕ, Bool, true, false, if◌then◌else◌, List, Option, Some, None, ℤ, pos}
use Rattle.rl_ids.specs.declared.objects.ObjectKind.{ObjectKind}
use Rattle.rl_ids.specs.declared.objects.ObjectKind.TheVariants as kinds
use Rattle.rl_ids.specs.declared.objects.ObjectId.{ObjectId}
use Rattle.rl_ids.specs.declared.serials.OpSerial.{OpSerial}
use Rattle.rl_ids.specs.Objects.{kind_of, object_id_text}
use Rattle.rl_types.specs.declared.objects.Op.{Op}
use Rattle.rl_types.specs.declared.objects.Op.TheVariants.{MapCreate, MapSet, MapRemove, CounterCreate, Delete}
use Rattle.rl_types.specs.declared.objects.ObjectBody.{ObjectBody}
use Rattle.rl_types.specs.declared.objects.ObjectBody.TheVariants as bodies
use Rattle.rl_objmodel.specs.Held.{Cells, HeldBody, Sum, Keys, Held, Write, value_written, removal}
use Rattle.rl_objmodel.specs.Places.{IsRising}
use Rattle.rl_objmodel.specs.Steps.{MapHeld, body_passes_range, empty_map, loaded_map, merged, sum_after, with_write}
use Rattle.rl_object.specs.declared.stood.CellsStood.{CellsStood}
use Rattle.rl_object.specs.declared.stood.CellsStood.TheVariants as stands
use Rattle.rl_object.specs.Back.{CellsBefore, SameCells, OneCell, AllCells, Stood, IsCellThere, cells_restored}

-- a counter was created where its mark says so, a map where its create was merged
abbrev pub created_as : ObjectKind → Bool → MapHeld → Bool
created_as kinds.Counter created map = created
created_as kinds.Map created map = map.created

abbrev pub body_as : ObjectKind → ℤ → MapHeld → HeldBody
body_as kinds.Counter sum map = Sum sum
body_as kinds.Map sum map = Keys map.cells

-- of a kind
abbrev pub held_of : ObjectKind → ObjectId → List (List ℕ × OpSerial) → Option ℕ → Bool → ℤ → MapHeld → Held
held_of kind id sites deleted created sum map =
    record { id = id; sites = sites; deleted = deleted; created = created_as kind created map; body = body_as kind sum map }

abbrev pub held_as : ObjectId → List (List ℕ × OpSerial) → Option ℕ → Bool → ℤ → MapHeld → Held
held_as id sites deleted created sum map = held_of (kind_of id) id sites deleted created sum map

-- the sites are in order, and the text is the id's
pub record IsObject (id : ObjectId) (text : List ℕ) (sites : List (List ℕ × OpSerial)) : Type 0 where
  pub rising : IsRising sites
  pub spelled : text ≡ object_id_text id

-- the map that a body shows
abbrev pub map_told : ℕ → Bool → ObjectBody → MapHeld
map_told now created (bodies.Counter sum) = empty_map
map_told now created (bodies.Map cells) = loaded_map now created cells

-- AN OPERATION ON AN OBJECT THAT STANDS

-- what it makes of the map
abbrev pub acted_map : ℕ → OpSerial → Op → MapHeld → MapHeld
acted_map stamp serial (MapCreate id entries) map = merged serial entries map
acted_map stamp serial (MapSet id key value) map = record map { cells = with_write key (value_written serial value) map.cells }
acted_map stamp serial (MapRemove id key) map = record map { cells = with_write key (removal serial stamp) map.cells }
acted_map stamp serial (Delete id) map = empty_map
acted_map stamp serial _ map = map

abbrev pub deleted_after : ℕ → Op → Option ℕ
deleted_after stamp (Delete id) = Some stamp
deleted_after stamp _ = None

abbrev pub created_after : Op → Bool → Bool
created_after (CounterCreate id count) created = true
created_after (Delete id) created = false
created_after _ created = created

-- a deletion leaves no sum
abbrev pub sum_left : Op → ℤ → ℤ
sum_left (Delete id) sum = pos 0
sum_left _ sum = sum

-- a counter's sum with what is added; a map has none
abbrev pub sum_in_body : HeldBody → Option ℤ → ℤ
sum_in_body (Sum sum) more = sum_after sum more
sum_in_body (Keys cells) more = pos 0

-- the same, where it does not pass its range
abbrev pub sum_within : HeldBody → Option ℤ → Option ℤ
sum_within body more = if body_passes_range body more then None else Some (sum_in_body body more)

-- WHAT STOOD

abbrev pub cells_before : CellsStood → CellsBefore
cells_before stands.Same = SameCells
cells_before (stands.One before) = OneCell before
cells_before (stands.All map) = AllCells map.cells

abbrev pub one_or_same : Option (Option Write) → CellsStood
one_or_same None = stands.Same
one_or_same (Some before) = stands.One before

abbrev pub all_or_same : Option MapHeld → CellsStood
all_or_same None = stands.Same
all_or_same (Some map) = stands.All map

abbrev pub stood_as : Option OpSerial → Option ℕ → Bool → ℤ → CellsStood → ℕ → Stood
stood_as serial deleted created sum cells weight =
    record { serial = serial; deleted = deleted; created = created; sum = sum; cells = cells_before cells; weight = weight }

abbrev pub map_back : Bool → Cells → MapHeld
map_back created cells = record { created = created; cells = cells }

-- what stood of a map's cells can be put back, and leaves them as before
pub record IsMapBack (key : List ℕ) (stood : CellsBefore) (after : Cells) (before : Cells) : Type 0 where
  pub there : IsCellThere key stood (Keys after)
  pub back : cells_restored key stood after ≡ before
