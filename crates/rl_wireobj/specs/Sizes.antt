-- How many bytes of texts an operation and an object hold, how many entries the one and how many cells the other.
use Rattle.std.specs.Prelude.{ℕ, ◌+◌, List, length, Option, Some, None, sum_by}
use Rattle.base64.specs.Engines.{standard}
use Rattle.base64.specs.GeneralPurpose.{encode_of}
use Rattle.rl_ids.specs.Objects.{object_id_text}
use Rattle.rl_ids.specs.declared.objects.MapValue.{MapValue}
use Rattle.rl_ids.specs.declared.objects.MapValue.TheVariants as values
use Rattle.rl_types.specs.declared.objects.Op.{Op}
use Rattle.rl_types.specs.declared.objects.Op.TheVariants as ops
use Rattle.rl_types.specs.declared.objects.ObjectOp.{ObjectOp}
use Rattle.rl_types.specs.declared.objects.MapCell.{MapCell}
use Rattle.rl_types.specs.declared.objects.ObjectBody.{ObjectBody}
use Rattle.rl_types.specs.declared.objects.ObjectBody.TheVariants as bodies
use Rattle.rl_types.specs.declared.objects.ObjectState.{ObjectState}

-- bytes stand as their base64 text, and a reference as the id's text
abbrev pub value_bytes : MapValue → ℕ
value_bytes (values.Text t) = length t
value_bytes (values.Whole n) = 0
value_bytes (values.Bool b) = 0
value_bytes (values.Bytes bytes) = length (encode_of standard bytes)
value_bytes (values.Ref id) = length (object_id_text id)

abbrev pub entry_bytes : List ℕ × MapValue → ℕ
entry_bytes e = length e.0 + value_bytes e.1

-- an operation: its id, its keys and its values
abbrev pub operation_bytes : Op → ℕ
operation_bytes (ops.MapCreate id entries) = length (object_id_text id) + sum_by entry_bytes entries
operation_bytes (ops.MapSet id key value) = length (object_id_text id) + length key + value_bytes value
operation_bytes (ops.MapRemove id key) = length (object_id_text id) + length key
operation_bytes (ops.CounterCreate id count) = length (object_id_text id)
operation_bytes (ops.CounterInc id amount) = length (object_id_text id)
operation_bytes (ops.Delete id) = length (object_id_text id)

abbrev pub op_bytes : ObjectOp → ℕ
op_bytes op = operation_bytes op.op

abbrev pub entries_of : Op → ℕ
entries_of (ops.MapCreate id entries) = length entries
entries_of (ops.MapSet id key value) = 0
entries_of (ops.MapRemove id key) = 0
entries_of (ops.CounterCreate id count) = 0
entries_of (ops.CounterInc id amount) = 0
entries_of (ops.Delete id) = 0

-- how many entries a map is made with
abbrev pub op_entries : ObjectOp → ℕ
op_entries op = entries_of op.op

abbrev pub held_bytes : Option MapValue → ℕ
held_bytes None = 0
held_bytes (Some v) = value_bytes v

abbrev pub cell_bytes : List ℕ × MapCell → ℕ
cell_bytes c = length c.0 + held_bytes c.1.value

abbrev pub body_bytes : ObjectBody → ℕ
body_bytes (bodies.Counter sum) = 0
body_bytes (bodies.Map cells) = sum_by cell_bytes cells

-- an object: its id, its keys and its values
abbrev pub state_bytes : ObjectState → ℕ
state_bytes s = length (object_id_text s.id) + body_bytes s.body

abbrev pub cells_of : ObjectBody → ℕ
cells_of (bodies.Counter sum) = 0
cells_of (bodies.Map cells) = length cells

-- how many sites and cells an object has
abbrev pub state_cells : ObjectState → ℕ
state_cells s = length s.sites + cells_of s.body
