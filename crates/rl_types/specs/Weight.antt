-- What bodies and objects weigh.
use Rattle.rl_numbers.specs.declared.limits.TheConstants.{ITEM_WEIGHT, VALUE_WEIGHT, OBJECT_WEIGHT, CELL_WEIGHT}
use Rattle.std.specs.Prelude.{ℕ, ◌+◌, ◌-◌, ◌^◌, min, List, length, Option, Some, None, sum_by}
use Rattle.rl_ids.specs.declared.objects.MapValue.{MapValue}
use Rattle.rl_ids.specs.declared.objects.MapValue.TheVariants as value
use Rattle.rl_ids.specs.declared.objects.ObjectId.{ObjectId}
use Rattle.rl_ids.specs.Objects.{object_id_text}
use Rattle.rl_types.specs.declared.objects.Op.{Op}
use Rattle.rl_types.specs.declared.objects.Op.TheVariants.{MapCreate, MapSet, MapRemove, CounterCreate, CounterInc, Delete}
use Rattle.rl_types.specs.declared.objects.ObjectOp.{ObjectOp}
use Rattle.rl_types.specs.declared.objects.MapCell.{MapCell}
use Rattle.rl_types.specs.declared.objects.ObjectBody.{ObjectBody}
use Rattle.rl_types.specs.declared.objects.ObjectBody.TheVariants as bodies
use Rattle.rl_types.specs.declared.objects.ObjectState.{ObjectState}
use Rattle.rl_types.specs.declared.messages.Item.{Item}
use Rattle.rl_types.specs.declared.presence.PresenceItem.{PresenceItem}
use Rattle.rl_types.specs.declared.messages.Body.{Body}
use Rattle.rl_types.specs.declared.messages.Body.TheVariants.{Messages, Presence, Objects}

-- a number, which stays at the greatest of 64 bits
abbrev pub saturated : ℕ → ℕ
saturated n = min n (2 ^ 64 - 1)

-- the bytes of a text that may be missing
abbrev pub option_len : Option (List ℕ) → ℕ
option_len (Some text) = length text
option_len None = 0

-- a message: its texts beside its own weight
abbrev pub item_weight : Item → ℕ
item_weight i = ITEM_WEIGHT + option_len i.id + option_len i.name + option_len i.payload + option_len i.encoding + option_len i.client

-- a presence item: its client id, its data and its encoding
abbrev pub presence_weight : PresenceItem → ℕ
presence_weight i = ITEM_WEIGHT + length i.client + option_len i.payload + option_len i.encoding

-- a value of a map: its bytes; a fixed weight for a number or a truth value; the id's text for a reference
abbrev pub value_weight : MapValue → ℕ
value_weight (value.Text text) = length text
value_weight (value.Whole n) = VALUE_WEIGHT
value_weight (value.Bool b) = VALUE_WEIGHT
value_weight (value.Bytes bytes) = length bytes
value_weight (value.Ref id) = length (object_id_text id)

-- a key with its value
abbrev pub entry_weight : List ℕ × MapValue → ℕ
entry_weight entry = length entry.0 + value_weight entry.1

abbrev pub action_weight : Op → ℕ
action_weight (MapCreate id entries) = ITEM_WEIGHT + length (object_id_text id) + sum_by entry_weight entries
action_weight (MapSet id key one) = ITEM_WEIGHT + length (object_id_text id) + length key + value_weight one
action_weight (MapRemove id key) = ITEM_WEIGHT + length (object_id_text id) + length key
action_weight (CounterCreate id count) = ITEM_WEIGHT + VALUE_WEIGHT + length (object_id_text id)
action_weight (CounterInc id amount) = ITEM_WEIGHT + VALUE_WEIGHT + length (object_id_text id)
action_weight (Delete id) = ITEM_WEIGHT + length (object_id_text id)

-- an operation: its id, its key and its values
abbrev pub op_weight : ObjectOp → ℕ
op_weight op = action_weight op.op

-- a body: the sum of its items
abbrev pub body_weight : Body → ℕ
body_weight (Messages items) = saturated (sum_by item_weight items)
body_weight (Presence items) = saturated (sum_by presence_weight items)
body_weight (Objects ops) = saturated (sum_by op_weight ops)

-- a value that may be missing
abbrev pub held_weight : Option MapValue → ℕ
held_weight None = 0
held_weight (Some one) = value_weight one

-- a cell of a map with its key
abbrev pub cell_weight : List ℕ × MapCell → ℕ
cell_weight cell = CELL_WEIGHT + length cell.0 + held_weight cell.1.value

abbrev pub held_in : ObjectBody → ℕ
held_in (bodies.Counter sum) = 0
held_in (bodies.Map cells) = sum_by cell_weight cells

-- an object: its cells beside its own weight
abbrev pub state_weight : ObjectState → ℕ
state_weight state = OBJECT_WEIGHT + held_in state.body
