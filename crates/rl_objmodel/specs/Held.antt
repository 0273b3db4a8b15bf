-- An object as it is held: what a page shows of it, and the moments at which it was deleted and its keys were removed.
use Rattle.std.specs.Prelude.{ℕ, ◌+◌, Bool, true, false, nat_le, List, [], map, Option, Some, None, is_some, ℤ, pos}
use Rattle.rl_numbers.specs.declared.limits.TheConstants.{TOMBSTONE_GRACE}
use Rattle.rl_ids.specs.declared.objects.ObjectKind.{ObjectKind}
use Rattle.rl_ids.specs.declared.objects.ObjectKind.TheVariants as kinds
use Rattle.rl_ids.specs.declared.objects.ObjectId.{ObjectId}
use Rattle.rl_ids.specs.declared.objects.ObjectId.TheVariants.{Root}
use Rattle.rl_ids.specs.declared.objects.MapValue.{MapValue}
use Rattle.rl_ids.specs.declared.serials.OpSerial.{OpSerial}
use Rattle.rl_types.specs.declared.objects.MapCell.{MapCell}
use Rattle.rl_types.specs.declared.objects.ObjectBody.{ObjectBody}
use Rattle.rl_types.specs.declared.objects.ObjectBody.TheVariants as bodies
use Rattle.rl_types.specs.declared.objects.ObjectState.{ObjectState}

-- WHAT STANDS AT A KEY

-- what was written: a value, or that the key was removed, at this moment
pub data Written : Type 0 where
  Value : (value : MapValue) → Written
  Removed : (stamp : ℕ) → Written

-- a write at a key, with the serial of its operation
pub record Write : Type 0 where
  pub serial : OpSerial
  pub written : Written

abbrev pub value_written : OpSerial → MapValue → Write
value_written serial value = record { serial = serial; written = Value value }

abbrev pub removal : OpSerial → ℕ → Write
removal serial stamp = record { serial = serial; written = Removed stamp }

-- the value that stands, or none at a tombstone cell
abbrev pub value_in : Written → Option MapValue
value_in (Value value) = Some value
value_in (Removed stamp) = None

-- what a page shows of it (RTLM3a)
abbrev pub cell_of : Write → MapCell
cell_of write = record { serial = write.serial; value = value_in write.written }

-- a key with what stands at it
abbrev pub Cells : Type 0
Cells = List (List ℕ × Write)

abbrev pub shown_cell : List ℕ × Write → List ℕ × MapCell
shown_cell cell = (cell.0, cell_of cell.1)

-- TOMBSTONES (RTO10)

-- a tombstone is dropped at a Tick whose clock is the grace or more past its stamp
abbrev pub is_collected : ℕ → ℕ → Bool
is_collected ticked stamp = nat_le (stamp + TOMBSTONE_GRACE) ticked

abbrev pub is_collected_write : ℕ → Written → Bool
is_collected_write ticked (Value value) = false
is_collected_write ticked (Removed stamp) = is_collected ticked stamp

-- AN OBJECT

-- a counter's sum, or what stands at a map's keys, in order of key
pub data HeldBody : Type 0 where
  Sum : (sum : ℤ) → HeldBody
  Keys : (cells : Cells) → HeldBody

-- its sites with the greatest serial of each, in order of site, and where it was deleted the moment of that
pub record Held : Type 0 where
  pub id : ObjectId
  pub sites : List (List ℕ × OpSerial)
  pub deleted : Option ℕ
  pub created : Bool
  pub body : HeldBody

abbrev pub empty_body : ObjectKind → HeldBody
empty_body kinds.Counter = Sum (pos 0)
empty_body kinds.Map = Keys []

-- a root that nobody wrote to
abbrev pub bare_root : Held
bare_root = record { id = Root; sites = []; deleted = None; created = true; body = Keys [] }

abbrev pub shown_body : HeldBody → ObjectBody
shown_body (Sum sum) = bodies.Counter sum
shown_body (Keys cells) = bodies.Map (map shown_cell cells)

-- what a page shows of it (OST2)
abbrev pub shown : Held → ObjectState
shown held =
    record { id = held.id; sites = held.sites; tombstone = is_some held.deleted; created = held.created; body = shown_body held.body }
