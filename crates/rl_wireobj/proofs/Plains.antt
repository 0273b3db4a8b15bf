-- The numbers of what is written are whole and fit, and the members of its value stand in order.
use Rattle.std.proofs.Common.{ℕ, ◌<◌, List, Option, Some, None, option_map, All, arith}
use Rattle.std.specs.Prelude.{IfSome, ◌^◌}
use Rattle.serde_json.specs.Data.{Members, string, object, no_members, put}
use Rattle.base64.specs.Engines.{standard}
use Rattle.base64.specs.GeneralPurpose.{encode_of}
use Rattle.rl_ids.specs.Objects.{object_id_text, op_serial_text}
use Rattle.rl_ids.specs.declared.objects.ObjectId.{ObjectId}
use Rattle.rl_ids.specs.declared.objects.MapValue.{MapValue}
use Rattle.rl_ids.specs.declared.objects.MapValue.TheVariants as values
use Rattle.rl_ids.specs.declared.serials.OpSerial.{OpSerial}
use Rattle.rl_types.specs.declared.objects.Op.{Op}
use Rattle.rl_types.specs.declared.objects.Op.TheVariants as ops
use Rattle.rl_types.specs.declared.objects.ObjectOp.{ObjectOp}
use Rattle.rl_types.specs.declared.objects.MapCell.{MapCell}
use Rattle.rl_types.specs.declared.objects.ObjectBody.{ObjectBody}
use Rattle.rl_types.specs.declared.objects.ObjectBody.TheVariants as bodies
use Rattle.rl_types.specs.declared.objects.ObjectState.{ObjectState}
use Rattle.rl_jsonfields.specs.declared.names.Field.{Field}
use Rattle.rl_jsonfields.specs.declared.names.Field.TheVariants as fields
use Rattle.rl_jsonfields.specs.Names.{spelled}
use Rattle.rl_jsonfields.proofs.Compact.{Plain, Orderly, nothing_orderly, put_orderly, number_orderly, integer_orderly, boolean_orderly, string_orderly, with_text_orderly, each_member_orderly}
use Rattle.rl_wireobj.specs.Values.{with_value, value_json}
use Rattle.rl_wireobj.specs.Operations.{entry_json, entries_json, head_members, operation_members, site_of, op_json}
use Rattle.rl_wireobj.specs.States.{with_held, cell_json, cells_json, nearest, counter_json, with_body, sites_json, state_members, state_json}
use Rattle.rl_wireobj.specs.Sendable.{IsValue, IsOp, IsSendableOp, IsSite, IsCell, IsBody, IsSendableState}
use Rattle.rl_wireobj.proofs.Again.{nearest_fits}

-- an object at a field
object_orderly : (f : Field) (inside ms : Members) → Orderly inside → Orderly ms → Orderly (put (spelled f) (object inside) ms)
object_orderly f inside ms h p = put_orderly (spelled f) (object inside) ms h.plain p

held_orderly : (v : MapValue) → IsValue v → Orderly (with_value v no_members)
held_orderly (values.Text t) h = string_orderly fields.String t _ nothing_orderly
held_orderly (values.Whole n) h = integer_orderly fields.Number n _ h nothing_orderly
held_orderly (values.Bool b) h = boolean_orderly fields.Boolean b _ nothing_orderly
held_orderly (values.Bytes bytes) h = string_orderly fields.Bytes (encode_of standard bytes) _ nothing_orderly
held_orderly (values.Ref id) h = string_orderly fields.ObjectId (object_id_text id) _ nothing_orderly

value_plain : (v : MapValue) → IsValue v → Plain (value_json v)
unfolding value_json
value_plain v h = (held_orderly v h).plain

entry_plain : (e : List ℕ × MapValue) → IsValue e.1 → Plain (entry_json e.1)
unfolding entry_json
entry_plain e h = (put_orderly (spelled fields.Data) (value_json e.1) _ (value_plain e.1 h) nothing_orderly).plain

entries_plain : (es : List (List ℕ × MapValue)) → All (λ e. IsValue e.1) es → Plain (entries_json es)
unfolding entries_json
entries_plain es h =
    (object_orderly fields.Entries _ _ (each_member_orderly (λ e. e.0) (λ e. entry_json e.1) (λ e. IsValue e.1) es entry_plain h) nothing_orderly).plain

head_orderly : (action : ℕ) (id : ObjectId) → action < 2 ^ 64 → Orderly (head_members action id)
head_orderly action id h = string_orderly fields.ObjectId (object_id_text id) _ (number_orderly fields.Action action _ h nothing_orderly)

operation_orderly : (op : Op) → IsOp op → Orderly (operation_members op)
unfolding operation_members
operation_orderly (ops.MapCreate id es) h = put_orderly (spelled fields.Map) (entries_json es) _ (entries_plain es h.1.1) (head_orderly _ id (omega arith))
operation_orderly (ops.MapSet id key v) h =
    object_orderly fields.MapOp _ _ (put_orderly (spelled fields.Data) (value_json v) _ (value_plain v h.1) (string_orderly fields.Key key _ nothing_orderly)) (head_orderly _ id (omega arith))
operation_orderly (ops.MapRemove id key) h = object_orderly fields.MapOp _ _ (string_orderly fields.Key key _ nothing_orderly) (head_orderly _ id (omega arith))
operation_orderly (ops.CounterCreate id n) h = object_orderly fields.Counter _ _ (integer_orderly fields.Count n _ h.1 nothing_orderly) (head_orderly _ id (omega arith))
operation_orderly (ops.CounterInc id n) h = object_orderly fields.CounterOp _ _ (integer_orderly fields.Amount n _ h.1 nothing_orderly) (head_orderly _ id (omega arith))
operation_orderly (ops.Delete id) h = head_orderly _ id (omega arith)

pub op_plain : (op : ObjectOp) → IsSendableOp op → Plain (op_json op)
unfolding op_json
op_plain op h =
    (with_text_orderly fields.SiteCode (option_map site_of op.serial) _ (with_text_orderly fields.Serial (option_map op_serial_text op.serial) _
    (object_orderly fields.Operation _ _ (operation_orderly op.op h.0) nothing_orderly))).plain

held_or_none_orderly : (v : Option MapValue) (ms : Members) → IfSome v IsValue → Orderly ms → Orderly (with_held v ms)
held_or_none_orderly None ms h p = boolean_orderly fields.Tombstone _ ms p
held_or_none_orderly (Some v) ms h p = put_orderly (spelled fields.Data) (value_json v) ms (value_plain v h) p

cell_plain : (c : List ℕ × MapCell) → IsCell c.1 → Plain (cell_json c.1)
unfolding cell_json
cell_plain c h = (held_or_none_orderly c.1.value _ h.1 (string_orderly fields.Timeserial (op_serial_text c.1.serial) _ nothing_orderly)).plain

cells_plain : (cs : List (List ℕ × MapCell)) → All (λ c. IsCell c.1) cs → Plain (cells_json cs)
unfolding cells_json
cells_plain cs h =
    (object_orderly fields.Entries _ _ (each_member_orderly (λ c. c.0) (λ c. cell_json c.1) (λ c. IsCell c.1) cs cell_plain h) nothing_orderly).plain

body_orderly : (b : ObjectBody) (ms : Members) → IsBody b → Orderly ms → Orderly (with_body b ms)
unfolding counter_json
body_orderly (bodies.Counter sum) ms h p = object_orderly fields.Counter _ ms (integer_orderly fields.Count (nearest sum) _ (nearest_fits sum h) nothing_orderly) p
body_orderly (bodies.Map cs) ms h p = put_orderly (spelled fields.Map) (cells_json cs) ms (cells_plain cs h.1) p

site_plain : (s : List ℕ × OpSerial) → IsSite s → Plain (string (op_serial_text s.1))
site_plain s h = tt

sites_plain : (ss : List (List ℕ × OpSerial)) → All IsSite ss → Plain (sites_json ss)
unfolding sites_json
sites_plain ss h = (each_member_orderly (λ s. s.0) (λ s. string (op_serial_text s.1)) IsSite ss site_plain h).plain

inside_orderly : (s : ObjectState) → IsSendableState s → Orderly (state_members s)
unfolding state_members
inside_orderly s h =
    body_orderly s.body _ h.3 (boolean_orderly fields.Created s.created _ (boolean_orderly fields.Tombstone s.tombstone _
    (put_orderly (spelled fields.SiteTimeserials) (sites_json s.sites) _ (sites_plain s.sites h.2) (string_orderly fields.ObjectId (object_id_text s.id) _ nothing_orderly))))

pub state_plain : (s : ObjectState) → IsSendableState s → Plain (state_json s)
unfolding state_json
state_plain s h = (object_orderly fields.Object _ _ (inside_orderly s h) nothing_orderly).plain
