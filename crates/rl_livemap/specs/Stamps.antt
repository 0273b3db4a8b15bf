-- The cells of a map, and beside them a stamp for each: of a tombstone cell the moment of its removal.
use Rattle.std.specs.Prelude.{◌≡◌, ℕ, ◌+◌, ◌-◌, List, [], ◌∷◌, length, map, sum_by, if◌then◌else◌, Option, Some, None, slice_set, slice_index_or, remove}
use Rattle.rl_numbers.specs.declared.limits.TheConstants.{OBJECT_WEIGHT}
use Rattle.rl_ids.specs.declared.serials.OpSerial.{OpSerial}
use Rattle.rl_types.specs.declared.objects.MapCell.{MapCell}
use Rattle.rl_types.specs.Weight.{cell_weight}
use Rattle.rl_objmodel.specs.Held.{Cells, Write, is_collected_write, shown_cell}
use Rattle.rl_objmodel.specs.Places.{IsRising, at_text}
use Rattle.rl_objmodel.specs.Steps.{MapHeld, changes, told_write, told_written}

-- each cell with its stamp
abbrev pub stamped : List (List ℕ × MapCell) → List ℕ → Cells
stamped [] stamps = []
stamped (cell ∷ cells) [] = []
stamped (cell ∷ cells) (stamp ∷ stamps) = told_write stamp cell ∷ stamped cells stamps

-- the keys are in order, and each cell has its stamp
pub record IsKept (cells : List (List ℕ × MapCell)) (stamps : List ℕ) : Type 0 where
  pub rising : IsRising (stamped cells stamps)
  pub even : length stamps ≡ length cells

-- a serial with its site alone, before all others of that site
abbrev pub unnumbered_serial : OpSerial → OpSerial
unnumbered_serial serial = record serial { place = 0; index = 0 }

abbrev pub unnumbered_cell : List ℕ × Write → List ℕ × Write
unnumbered_cell cell = (cell.0, record cell.1 { serial = unnumbered_serial cell.1.serial })

-- cells whose serials have the place 0 and the index 0
abbrev pub unnumbered : Cells → Cells
unnumbered cells = map unnumbered_cell cells

abbrev pub unnumbered_shown : List ℕ × MapCell → List ℕ × MapCell
unnumbered_shown cell = (cell.0, record cell.1 { serial = unnumbered_serial cell.1.serial })

-- WEIGHTS

-- what cells weigh, with the weight of an object beside them
abbrev pub map_weight : Cells → ℕ
map_weight cells = OBJECT_WEIGHT + sum_by cell_weight (map shown_cell cells)

-- what a write weighs at a key
abbrev pub write_weight : List ℕ → Write → ℕ
write_weight key write = cell_weight (shown_cell (key, write))

-- the cells are kept, and this is their weight
pub record IsMap (cells : List (List ℕ × MapCell)) (stamps : List ℕ) (weight : ℕ) : Type 0 where
  pub kept : IsKept cells stamps
  pub weighs : weight ≡ map_weight (stamped cells stamps)

-- WHAT IS COLLECTED

-- the cells without the one at a place, where that is a tombstone cell which a Tick collects
abbrev pub collected_at : ℕ → List ℕ × Write → ℕ → Cells → Cells
collected_at now cell at cells = if is_collected_write now cell.1.written then remove cells at else cells

-- WHAT STOOD

-- a cell with its stamp, as it stands at a key
abbrev pub held_cell : ℕ → MapCell → Write
held_cell stamp cell = record { serial = cell.serial; written = told_written stamp cell.value }

-- what stood at a key that a write of this serial changes: nothing, or a write. It is none where the write changes none
abbrev pub stood_at : List ℕ → OpSerial → Cells → Option (Option Write)
stood_at key serial cells = if changes key serial cells then Some (at_text key cells) else None

-- the map that stood before a create that is merged: none where it was created already
abbrev pub stood_before : MapHeld → Option MapHeld
stood_before held = if held.created then None else Some held

-- what is left of a weight with a new cell, where this stood at its key
abbrev pub weight_left : ℕ → ℕ → List ℕ → Option (Option Write) → ℕ
weight_left weight full key None = weight
weight_left weight full key (Some None) = full
weight_left weight full key (Some (Some write)) = full - write_weight key write

-- a place of cells with what stood there, or without its cell
abbrev pub place_back : ℕ → Option Write → Cells → Cells
place_back at None cells = remove cells at
place_back at (Some write) cells = slice_set cells at ((slice_index_or cells at ([], write)).0, write)
