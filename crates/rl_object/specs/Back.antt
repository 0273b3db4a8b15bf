-- What stood in an object before an operation, and the object with that put back.
use Rattle.std.specs.Prelude.{◌≡◌, ℕ, Bool, List, [], ⊤, Option, Some, None, ℤ, IsSome}
use Rattle.rl_ids.specs.declared.serials.OpSerial.{OpSerial}
use Rattle.rl_types.specs.declared.objects.Op.{Op}
use Rattle.rl_types.specs.declared.objects.Op.TheVariants.{MapSet, MapRemove}
use Rattle.rl_types.specs.Weight.{state_weight}
use Rattle.rl_objmodel.specs.Held.{Write, Cells, HeldBody, Sum, Keys, Held, shown}
use Rattle.rl_objmodel.specs.Places.{at_text, restored_at}

-- the key that an operation writes
abbrev pub key_in : Op → List ℕ
key_in (MapSet id key value) = key
key_in (MapRemove id key) = key
key_in _ = []

-- what stood of a map's cells: an operation changed none, one at its key, or all
pub data CellsBefore : Type 0 where
  SameCells : CellsBefore
  OneCell : (before : Option Write) → CellsBefore
  AllCells : (before : Cells) → CellsBefore

-- what stood of an object before an operation was applied to it
pub record Stood : Type 0 where
  pub serial : Option OpSerial
  pub deleted : Option ℕ
  pub created : Bool
  pub sum : ℤ
  pub cells : CellsBefore
  pub weight : ℕ

abbrev pub cells_restored : List ℕ → CellsBefore → Cells → Cells
cells_restored key SameCells cells = cells
cells_restored key (OneCell before) cells = restored_at key before cells
cells_restored key (AllCells before) cells = before

abbrev pub body_restored : Op → Stood → HeldBody → HeldBody
body_restored op stood (Sum sum) = Sum stood.sum
body_restored op stood (Keys cells) = Keys (cells_restored (key_in op) stood.cells cells)

-- the object with what stood put back
abbrev pub restored : OpSerial → Op → Stood → Held → Held
restored serial op stood held =
    record {
      id = held.id;
      sites = restored_at serial.site stood.serial held.sites;
      deleted = stood.deleted;
      created = stood.created;
      body = body_restored op stood held.body;
    }

-- one cell is put back where there is a cell at its key
abbrev pub IsCellThere : List ℕ → CellsBefore → HeldBody → Type 0
IsCellThere key (OneCell before) (Keys cells) = IsSome (at_text key cells)
IsCellThere key _ _ = ⊤

-- what stood can be put back: its site has a serial, its key a cell, and the weight is what it will be
pub record CanGoBack (serial : OpSerial) (op : Op) (stood : Stood) (held : Held) : Type 0 where
  pub site : IsSome (at_text serial.site held.sites)
  pub cell : IsCellThere (key_in op) stood.cells held.body
  pub weight : stood.weight ≡ state_weight (shown (restored serial op stood held))

-- what stood is put back after an operation, and leaves the object as before it
pub record IsBack (serial : OpSerial) (op : Op) (stood : Stood) (after : Held) (before : Held) : Type 0 where
  pub can : CanGoBack serial op stood after
  pub back : restored serial op stood after ≡ before

-- where something stood, it is put back
abbrev pub StoodIsBack : OpSerial → Op → Option Stood → Held → Held → Type 0
StoodIsBack serial op None after before = ⊤
StoodIsBack serial op (Some stood) after before = IsBack serial op stood after before
