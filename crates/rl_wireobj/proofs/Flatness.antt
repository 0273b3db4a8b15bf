-- What is written of operations and objects has no float, and nests little.
use Rattle.std.proofs.Common.{ℕ, List, Option, Some, None, option_map, arith}
use Rattle.serde_json.specs.Data.{Members, string, no_members}
use Rattle.base64.specs.Engines.{standard}
use Rattle.base64.specs.GeneralPurpose.{encode_of}
use Rattle.rl_ids.specs.Objects.{object_id_text, op_serial_text}
use Rattle.rl_ids.specs.declared.objects.ObjectId.{ObjectId}
use Rattle.rl_ids.specs.declared.objects.MapValue.{MapValue}
use Rattle.rl_ids.specs.declared.objects.MapValue.TheVariants as values
use Rattle.rl_ids.specs.declared.serials.OpSerial.{OpSerial}
use Rattle.rl_types.specs.declared.objects.Op.{Op}
use Rattle.rl_types.specs.declared.objects.Op.TheVariants as ops
use Rattle.rl_types.specs.declared.objects.ObjectOp.{ObjectOp}
use Rattle.rl_types.specs.declared.objects.MapCell.{MapCell}
use Rattle.rl_types.specs.declared.objects.ObjectBody.{ObjectBody}
use Rattle.rl_types.specs.declared.objects.ObjectBody.TheVariants as bodies
use Rattle.rl_types.specs.declared.objects.ObjectState.{ObjectState}
use Rattle.rl_jsonfields.specs.declared.names.Field.TheVariants as fields
use Rattle.rl_jsonfields.specs.Names.{spelled}
use Rattle.rl_jsonfields.proofs.Flat.{Flat, FlatMembers, put_flat, nothing, integer_flat, boolean_flat, text_flat, number_flat, string_flat, with_text_flat, object_flat, each_member_flat, deeper}
use Rattle.rl_wireobj.specs.Values.{with_value, value_json}
use Rattle.rl_wireobj.specs.Operations.{entry_json, entries_json, head_members, operation_members, site_of, op_json}
use Rattle.rl_wireobj.specs.States.{with_held, cell_json, cells_json, nearest, counter_json, with_body, sites_json, state_members, state_json}

held_flat : (v : MapValue) → FlatMembers 0 (with_value v no_members)
held_flat (values.Text t) = string_flat 0 fields.String t _ (nothing 0)
held_flat (values.Whole n) = put_flat 0 (spelled fields.Number) _ _ (integer_flat 0 n) (nothing 0)
held_flat (values.Bool b) = put_flat 0 (spelled fields.Boolean) _ _ (boolean_flat 0 b) (nothing 0)
held_flat (values.Bytes bytes) = string_flat 0 fields.Bytes (encode_of standard bytes) _ (nothing 0)
held_flat (values.Ref id) = string_flat 0 fields.ObjectId (object_id_text id) _ (nothing 0)

value_flat : (v : MapValue) → Flat 1 (value_json v)
unfolding value_json
value_flat v = object_flat 0 _ (held_flat v)

entry_flat : (v : MapValue) → Flat 2 (entry_json v)
unfolding entry_json
entry_flat v = object_flat 1 _ (put_flat 1 (spelled fields.Data) (value_json v) _ (value_flat v) (nothing 1))

entries_flat : (es : List (List ℕ × MapValue)) → Flat 4 (entries_json es)
unfolding entries_json
entries_flat es = object_flat 3 _ (put_flat 3 (spelled fields.Entries) _ _ (object_flat 2 _ (each_member_flat 2 (λ e. e.0) (λ e. entry_json e.1) es (λ e. entry_flat e.1))) (nothing 3))

head_flat : (n action : ℕ) (id : ObjectId) → FlatMembers n (head_members action id)
head_flat n action id = string_flat n fields.ObjectId (object_id_text id) _ (number_flat n fields.Action action _ (nothing n))

operation_flat : (op : Op) → FlatMembers 4 (operation_members op)
unfolding operation_members
operation_flat (ops.MapCreate id entries) = put_flat 4 (spelled fields.Map) (entries_json entries) _ (entries_flat entries) (head_flat 4 _ id)
operation_flat (ops.MapSet id key v) =
    put_flat 4 (spelled fields.MapOp) _ _ (deeper 2 4 _ (omega arith) (object_flat 1 _ (put_flat 1 (spelled fields.Data) (value_json v) _ (value_flat v) (string_flat 1 fields.Key key _ (nothing 1))))) (head_flat 4 _ id)
operation_flat (ops.MapRemove id key) = put_flat 4 (spelled fields.MapOp) _ _ (deeper 1 4 _ (omega arith) (object_flat 0 _ (string_flat 0 fields.Key key _ (nothing 0)))) (head_flat 4 _ id)
operation_flat (ops.CounterCreate id count) =
    put_flat 4 (spelled fields.Counter) _ _ (deeper 1 4 _ (omega arith) (object_flat 0 _ (put_flat 0 (spelled fields.Count) _ _ (integer_flat 0 count) (nothing 0)))) (head_flat 4 _ id)
operation_flat (ops.CounterInc id amount) =
    put_flat 4 (spelled fields.CounterOp) _ _ (deeper 1 4 _ (omega arith) (object_flat 0 _ (put_flat 0 (spelled fields.Amount) _ _ (integer_flat 0 amount) (nothing 0)))) (head_flat 4 _ id)
operation_flat (ops.Delete id) = head_flat 4 _ id

pub op_flat : (op : ObjectOp) → Flat 6 (op_json op)
unfolding op_json
op_flat op =
    object_flat 5 _ (with_text_flat 5 fields.SiteCode (option_map site_of op.serial) _ (with_text_flat 5 fields.Serial (option_map op_serial_text op.serial) _
    (put_flat 5 (spelled fields.Operation) _ _ (object_flat 4 _ (operation_flat op.op)) (nothing 5))))

held_or_none_flat : (v : Option MapValue) (ms : Members) → FlatMembers 1 ms → FlatMembers 1 (with_held v ms)
held_or_none_flat None ms p = put_flat 1 (spelled fields.Tombstone) _ ms (boolean_flat 1 _) p
held_or_none_flat (Some v) ms p = put_flat 1 (spelled fields.Data) (value_json v) ms (value_flat v) p

cell_flat : (c : MapCell) → Flat 2 (cell_json c)
unfolding cell_json
cell_flat c = object_flat 1 _ (held_or_none_flat c.value _ (string_flat 1 fields.Timeserial (op_serial_text c.serial) no_members (nothing 1)))

cells_flat : (cs : List (List ℕ × MapCell)) → Flat 4 (cells_json cs)
unfolding cells_json
cells_flat cs = object_flat 3 _ (put_flat 3 (spelled fields.Entries) _ _ (object_flat 2 _ (each_member_flat 2 (λ c. c.0) (λ c. cell_json c.1) cs (λ c. cell_flat c.1))) (nothing 3))

body_flat : (b : ObjectBody) (ms : Members) → FlatMembers 4 ms → FlatMembers 4 (with_body b ms)
unfolding counter_json
body_flat (bodies.Counter sum) ms p =
    put_flat 4 (spelled fields.Counter) _ ms (deeper 1 4 _ (omega arith) (object_flat 0 _ (put_flat 0 (spelled fields.Count) _ _ (integer_flat 0 (nearest sum)) (nothing 0)))) p
body_flat (bodies.Map cells) ms p = put_flat 4 (spelled fields.Map) (cells_json cells) ms (cells_flat cells) p

sites_flat : (ss : List (List ℕ × OpSerial)) → Flat 4 (sites_json ss)
unfolding sites_json
sites_flat ss = deeper 1 4 _ (omega arith) (object_flat 0 _ (each_member_flat 0 (λ s. s.0) (λ s. string (op_serial_text s.1)) ss (λ s. text_flat 0 (op_serial_text s.1))))

inside_flat : (s : ObjectState) → FlatMembers 4 (state_members s)
unfolding state_members
inside_flat s =
    body_flat s.body _ (put_flat 4 (spelled fields.Created) _ _ (boolean_flat 4 s.created) (put_flat 4 (spelled fields.Tombstone) _ _ (boolean_flat 4 s.tombstone)
    (put_flat 4 (spelled fields.SiteTimeserials) (sites_json s.sites) _ (sites_flat s.sites) (string_flat 4 fields.ObjectId (object_id_text s.id) _ (nothing 4)))))

pub state_flat : (s : ObjectState) → Flat 6 (state_json s)
unfolding state_json
state_flat s = object_flat 5 _ (put_flat 5 (spelled fields.Object) _ _ (object_flat 4 _ (inside_flat s)) (nothing 5))
