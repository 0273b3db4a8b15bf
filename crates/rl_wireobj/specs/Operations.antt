-- What is done to objects: how an item of an OBJECT frame is read, and how it is written.
use Rattle.std.specs.Prelude.{ℕ, ◌==◌, pos, List, Option, Some, None, option_map, option_and_then, unwrap_or, Ok, if◌then◌else◌}
use Rattle.serde_json.specs.Data.{Data, string, object, Members, no_members}
use Rattle.serde_json.specs.Find.{as_u64, as_number}
use Rattle.rl_numbers.specs.declared.actions.TheConstants.{MAP_CREATE, MAP_SET, MAP_REMOVE, COUNTER_CREATE, COUNTER_INC, OBJECT_DELETE}
use Rattle.rl_ids.specs.Objects.{object_id_text, op_serial_text}
use Rattle.rl_ids.specs.declared.objects.ObjectId.{ObjectId}
use Rattle.rl_ids.specs.declared.objects.MapValue.{MapValue}
use Rattle.rl_ids.specs.declared.serials.OpSerial.{OpSerial}
use Rattle.rl_types.specs.declared.objects.Op.{Op}
use Rattle.rl_types.specs.declared.objects.Op.TheVariants as ops
use Rattle.rl_types.specs.declared.objects.ObjectOp.{ObjectOp}
use Rattle.rl_jsonfields.specs.declared.names.Field.TheVariants as fields
use Rattle.rl_jsonfields.specs.Fields.{Reads, ◌>>=◌, whole_in, signed, text, an_object, some_members, shaped, required, optional, each_member}
use Rattle.rl_jsonfields.specs.Texts.{num, integer, with, with_text, member_of_each}
use Rattle.rl_wireobj.specs.declared.actions.Action.{Action}
use Rattle.rl_wireobj.specs.declared.actions.Action.TheVariants as actions
use Rattle.rl_wireobj.specs.Values.{an_id, a_serial, a_value, value_json}

-- ---- reading

-- the numbers of the actions
abbrev pub action_at : ℕ → Option Action
action_at n =
    if n == MAP_CREATE then Some actions.MapCreate
    else if n == MAP_SET then Some actions.MapSet
    else if n == MAP_REMOVE then Some actions.MapRemove
    else if n == COUNTER_CREATE then Some actions.CounterCreate
    else if n == COUNTER_INC then Some actions.CounterInc
    else if n == OBJECT_DELETE then Some actions.Delete
    else None

abbrev pub an_action : Data → Option Action
an_action d = option_and_then action_at (option_and_then as_u64 (as_number d))

-- `semantics` is 0 or absent
unfoldable pub semantics : Data → Reads (Option ℕ)
semantics d = optional (whole_in 0 0) fields.Semantics d

-- an absent object of entries has none
unfoldable pub entries_in : {A : Type 0} → (List ℕ → Data → Reads A) → Data → Reads (List A)
entries_in one d = do
  zero ← semantics d
  members ← optional some_members fields.Entries d
  each_member one (unwrap_or members no_members)

-- a key with its value
unfoldable pub entry_at : List ℕ → Data → Reads (List ℕ × MapValue)
entry_at key d = do
  o ← shaped fields.Entries (an_object d)
  value ← required a_value fields.Data o
  Ok (key, value)

unfoldable pub map_create : ObjectId → Data → Reads Op
map_create id d = do
  o ← required an_object fields.Map d
  entries ← entries_in entry_at o
  Ok (ops.MapCreate id entries)

unfoldable pub map_set : ObjectId → Data → Reads Op
map_set id d = do
  o ← required an_object fields.MapOp d
  key ← required text fields.Key o
  value ← required a_value fields.Data o
  Ok (ops.MapSet id key value)

unfoldable pub map_remove : ObjectId → Data → Reads Op
map_remove id d = do
  o ← required an_object fields.MapOp d
  key ← required text fields.Key o
  Ok (ops.MapRemove id key)

-- an absent count is 0
unfoldable pub counter_create : ObjectId → Data → Reads Op
counter_create id d = do
  o ← required an_object fields.Counter d
  n ← optional signed fields.Count o
  Ok (ops.CounterCreate id (unwrap_or n (pos 0)))

unfoldable pub counter_inc : ObjectId → Data → Reads Op
counter_inc id d = do
  o ← required an_object fields.CounterOp d
  n ← required signed fields.Amount o
  Ok (ops.CounterInc id n)

abbrev pub by_action : Action → ObjectId → Data → Reads Op
by_action actions.MapCreate id d = map_create id d
by_action actions.MapSet id d = map_set id d
by_action actions.MapRemove id d = map_remove id d
by_action actions.CounterCreate id d = counter_create id d
by_action actions.CounterInc id d = counter_inc id d
by_action actions.Delete id d = Ok (ops.Delete id)

unfoldable pub operation : Data → Reads Op
operation d = do
  action ← required an_action fields.Action d
  id ← required an_id fields.ObjectId d
  by_action action id d

-- an item of `state`
unfoldable pub op_at : Data → Reads ObjectOp
op_at d = do
  item ← shaped fields.State (an_object d)
  o ← required an_object fields.Operation item
  op ← operation o
  serial ← optional a_serial fields.Serial item
  Ok (record { op = op; serial = serial })

-- ---- writing

unfoldable pub entry_json : MapValue → Data
entry_json v = object (with fields.Data (value_json v) no_members)

-- `semantics` is left out, and `entries` is always written
unfoldable pub entries_json : List (List ℕ × MapValue) → Data
entries_json entries = object (with fields.Entries (object (member_of_each (λ e. e.0) (λ e. entry_json e.1) entries)) no_members)

abbrev pub head_members : ℕ → ObjectId → Members
head_members action id = with fields.ObjectId (string (object_id_text id)) (with fields.Action (num action) no_members)

unfoldable pub operation_members : Op → Members
operation_members (ops.MapCreate id entries) = with fields.Map (entries_json entries) (head_members MAP_CREATE id)
operation_members (ops.MapSet id key value) =
    with fields.MapOp (object (with fields.Data (value_json value) (with fields.Key (string key) no_members))) (head_members MAP_SET id)
operation_members (ops.MapRemove id key) = with fields.MapOp (object (with fields.Key (string key) no_members)) (head_members MAP_REMOVE id)
operation_members (ops.CounterCreate id count) = with fields.Counter (object (with fields.Count (integer count) no_members)) (head_members COUNTER_CREATE id)
operation_members (ops.CounterInc id amount) = with fields.CounterOp (object (with fields.Amount (integer amount) no_members)) (head_members COUNTER_INC id)
operation_members (ops.Delete id) = head_members OBJECT_DELETE id

abbrev pub site_of : OpSerial → List ℕ
site_of s = s.site

-- the members with a serial, and with it the site that gave it, where there is one
abbrev pub with_op_serial : Option OpSerial → Members → Members
with_op_serial serial members = with_text fields.SiteCode (option_map site_of serial) (with_text fields.Serial (option_map op_serial_text serial) members)

-- an operation as an item of an OBJECT frame
unfoldable pub op_json : ObjectOp → Data
op_json op = object (with_op_serial op.serial (with fields.Operation (object (operation_members op.op)) no_members))
