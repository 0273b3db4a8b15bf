-- How long what is written of operations and objects can be.
use Rattle.std.proofs.Common.{true, ◌≡◌, ◌≤◌, ◌+◌, ◌*◌, ℕ, List, [], ◌∷◌, ◌++◌, length, map, Option, Some, None, option_map, refl, ap, All, arith, length-append}
use Rattle.std.specs.Prelude.{IfSome, sum_by}
use Rattle.std.proofs.lemmas.List.Elements.{All-head, All-tail}
use Rattle.std.proofs.lemmas.List.Sums.{sum_by-cons}
use Rattle.serde_json.specs.Data.{Data, Members, boolean, string, object, no_members, put}
use Rattle.serde_json.specs.View.{items_of}
use Rattle.base64.specs.Engines.{standard}
use Rattle.base64.specs.GeneralPurpose.{encode_of}
use Rattle.rl_numbers.specs.declared.actions.TheConstants.{MAP_CREATE, MAP_SET, MAP_REMOVE, COUNTER_CREATE, COUNTER_INC, OBJECT_DELETE}
use Rattle.rl_base.specs.Digits.{fixed_text}
use Rattle.rl_base.proofs.Digits.{fixed_length}
use Rattle.rl_ids.specs.Objects.{object_id_text, op_serial_text, IsOpSerial}
use Rattle.rl_ids.proofs.ObjectTexts.{op_serial_parts, op_serial_whole, site_form}
use Rattle.rl_ids.specs.declared.objects.ObjectId.{ObjectId}
use Rattle.rl_ids.specs.declared.objects.MapValue.{MapValue}
use Rattle.rl_ids.specs.declared.objects.MapValue.TheVariants as values
use Rattle.rl_ids.specs.declared.serials.OpSerial.{OpSerial}
use Rattle.rl_types.specs.declared.objects.Op.{Op}
use Rattle.rl_types.specs.declared.objects.Op.TheVariants as ops
use Rattle.rl_types.specs.declared.objects.ObjectOp.{ObjectOp}
use Rattle.rl_types.specs.declared.objects.MapCell.{MapCell}
use Rattle.rl_types.specs.declared.objects.ObjectBody.{ObjectBody}
use Rattle.rl_types.specs.declared.objects.ObjectBody.TheVariants as bodies
use Rattle.rl_types.specs.declared.objects.ObjectState.{ObjectState}
use Rattle.rl_jsonfields.specs.declared.names.Field.{Field}
use Rattle.rl_jsonfields.specs.declared.names.Field.TheVariants as fields
use Rattle.rl_jsonfields.specs.Names.{spelled}
use Rattle.rl_jsonfields.specs.Texts.{num, integer, with_text, member_of_each}
use Rattle.rl_jsonfields.proofs.Lengths.{bound, items_bound, members_bound, value_named_bound, each_bound}
use Rattle.rl_wireobj.specs.Values.{with_value, value_json}
use Rattle.rl_wireobj.specs.Operations.{entry_json, entries_json, head_members, operation_members, site_of, op_json}
use Rattle.rl_wireobj.specs.States.{with_held, cell_json, cells_json, nearest, counter_json, with_body, sites_json, state_members, state_json}
use Rattle.rl_wireobj.specs.Sendable.{IsSendableOp, IsSite, IsCell, IsBody, IsSendableState}
use Rattle.rl_wireobj.specs.Sizes.{value_bytes, entry_bytes, operation_bytes, op_bytes, entries_of, op_entries, held_bytes, cell_bytes, body_bytes, state_bytes, cells_of, state_cells}

-- a field with a name of so many characters
named : (f : Field) (n : ℕ) (d : Data) (ms : Members) → length (spelled f) ≡ n → members_bound (put (spelled f) d ms) ≤ n + 4 + bound d + members_bound ms
named f n d ms e = omega (arith, e, value_named_bound f d ms)

action_is : length (spelled fields.Action) ≡ 6
unfolding spelled
action_is = refl

amount_is : length (spelled fields.Amount) ≡ 6
unfolding spelled
amount_is = refl

boolean_is : length (spelled fields.Boolean) ≡ 7
unfolding spelled
boolean_is = refl

bytes_is : length (spelled fields.Bytes) ≡ 5
unfolding spelled
bytes_is = refl

count_is : length (spelled fields.Count) ≡ 5
unfolding spelled
count_is = refl

counter_is : length (spelled fields.Counter) ≡ 7
unfolding spelled
counter_is = refl

counter_op_is : length (spelled fields.CounterOp) ≡ 9
unfolding spelled
counter_op_is = refl

created_is : length (spelled fields.Created) ≡ 7
unfolding spelled
created_is = refl

data_is : length (spelled fields.Data) ≡ 4
unfolding spelled
data_is = refl

entries_is : length (spelled fields.Entries) ≡ 7
unfolding spelled
entries_is = refl

key_is : length (spelled fields.Key) ≡ 3
unfolding spelled
key_is = refl

map_is : length (spelled fields.Map) ≡ 3
unfolding spelled
map_is = refl

map_op_is : length (spelled fields.MapOp) ≡ 5
unfolding spelled
map_op_is = refl

number_is : length (spelled fields.Number) ≡ 6
unfolding spelled
number_is = refl

object_is : length (spelled fields.Object) ≡ 6
unfolding spelled
object_is = refl

object_id_is : length (spelled fields.ObjectId) ≡ 8
unfolding spelled
object_id_is = refl

operation_is : length (spelled fields.Operation) ≡ 9
unfolding spelled
operation_is = refl

serial_is : length (spelled fields.Serial) ≡ 6
unfolding spelled
serial_is = refl

site_code_is : length (spelled fields.SiteCode) ≡ 8
unfolding spelled
site_code_is = refl

sites_is : length (spelled fields.SiteTimeserials) ≡ 15
unfolding spelled
sites_is = refl

string_is : length (spelled fields.String) ≡ 6
unfolding spelled
string_is = refl

timeserial_is : length (spelled fields.Timeserial) ≡ 10
unfolding spelled
timeserial_is = refl

tombstone_is : length (spelled fields.Tombstone) ≡ 9
unfolding spelled
tombstone_is = refl

-- ---- serials

site_short : (s : OpSerial) → IsOpSerial s → length s.site ≤ 16
site_short s h = (site_form s.site (op_serial_parts s h).site).fits

serial_short : (s : OpSerial) → IsOpSerial s → length (op_serial_text s) ≤ 42
serial_short s h =
    let whole = ap length (op_serial_whole s (op_serial_parts s h)) in
    omega (arith, whole, site_short s h, fixed_length 10 20 s.place, fixed_length 10 4 s.index, length-append (fixed_text 10 20 s.place) (45 ∷ []), length-append (fixed_text 10 20 s.place ++ 45 ∷ []) (fixed_text 10 4 s.index))

-- ---- values

held_length : (v : MapValue) → members_bound (with_value v no_members) ≤ 6 * value_bytes v + 31
held_length (values.Text t) = omega (arith, named fields.String 6 (string t) no_members string_is)
held_length (values.Whole n) = omega (arith, named fields.Number 6 (integer n) no_members number_is)
held_length (values.Bool b) = omega (arith, named fields.Boolean 7 (boolean b) no_members boolean_is)
held_length (values.Bytes bytes) = omega (arith, named fields.Bytes 5 (string (encode_of standard bytes)) no_members bytes_is)
held_length (values.Ref id) = omega (arith, named fields.ObjectId 8 (string (object_id_text id)) no_members object_id_is)

value_length : (v : MapValue) → bound (value_json v) ≤ 6 * value_bytes v + 32
unfolding value_json
value_length v = omega (arith, held_length v)

entry_length : (v : MapValue) → bound (entry_json v) ≤ 6 * value_bytes v + 42
unfolding entry_json
entry_length v = omega (arith, value_length v, named fields.Data 4 (value_json v) no_members data_is)

entries_sum : (es : List (List ℕ × MapValue)) → members_bound (member_of_each (λ e. e.0) (λ e. entry_json e.1) es) ≤ 6 * sum_by entry_bytes es + 50 * length es + 1
unfolding member_of_each
entries_sum [] = omega arith
entries_sum (e ∷ es) = omega (arith, entry_length e.1, entries_sum es, each_bound e.0 (entry_json e.1) (member_of_each (λ e. e.0) (λ e. entry_json e.1) es), sum_by-cons entry_bytes e es)

entries_length : (es : List (List ℕ × MapValue)) → bound (entries_json es) ≤ 6 * sum_by entry_bytes es + 50 * length es + 15
unfolding entries_json
entries_length es = omega (arith, entries_sum es, named fields.Entries 7 (object (member_of_each (λ e. e.0) (λ e. entry_json e.1) es)) no_members entries_is)

-- ---- operations

head_length : (action : ℕ) (id : ObjectId) → members_bound (head_members action id) ≤ 6 * length (object_id_text id) + 45
head_length action id =
    omega (arith, named fields.ObjectId 8 (string (object_id_text id)) (put (spelled fields.Action) (num action) no_members) object_id_is, named fields.Action 6 (num action) no_members action_is)

operation_length : (op : Op) → members_bound (operation_members op) ≤ 6 * operation_bytes op + 50 * entries_of op + 150
unfolding operation_members
operation_length (ops.MapCreate id es) = omega (arith, entries_length es, head_length MAP_CREATE id, named fields.Map 3 (entries_json es) (head_members MAP_CREATE id) map_is)
operation_length (ops.MapSet id key v) =
    let inside = put (spelled fields.Key) (string key) no_members in
    omega (arith, value_length v, head_length MAP_SET id, named fields.MapOp 5 (object (put (spelled fields.Data) (value_json v) inside)) (head_members MAP_SET id) map_op_is, named fields.Data 4 (value_json v) inside data_is, named fields.Key 3 (string key) no_members key_is)
operation_length (ops.MapRemove id key) =
    omega (arith, head_length MAP_REMOVE id, named fields.MapOp 5 (object (put (spelled fields.Key) (string key) no_members)) (head_members MAP_REMOVE id) map_op_is, named fields.Key 3 (string key) no_members key_is)
operation_length (ops.CounterCreate id n) =
    omega (arith, head_length COUNTER_CREATE id, named fields.Counter 7 (object (put (spelled fields.Count) (integer n) no_members)) (head_members COUNTER_CREATE id) counter_is, named fields.Count 5 (integer n) no_members count_is)
operation_length (ops.CounterInc id n) =
    omega (arith, head_length COUNTER_INC id, named fields.CounterOp 9 (object (put (spelled fields.Amount) (integer n) no_members)) (head_members COUNTER_INC id) counter_op_is, named fields.Amount 6 (integer n) no_members amount_is)
operation_length (ops.Delete id) = omega (arith, head_length OBJECT_DELETE id)

serial_length : (o : Option OpSerial) (ms : Members) → IfSome o IsOpSerial → members_bound (with_text fields.SiteCode (option_map site_of o) (with_text fields.Serial (option_map op_serial_text o) ms)) ≤ 400 + members_bound ms
serial_length None ms h = omega arith
serial_length (Some s) ms h =
    omega (arith, site_short s h, serial_short s h, named fields.SiteCode 8 (string s.site) (put (spelled fields.Serial) (string (op_serial_text s)) ms) site_code_is, named fields.Serial 6 (string (op_serial_text s)) ms serial_is)

op_length : (op : ObjectOp) → IsSendableOp op → bound (op_json op) ≤ 6 * op_bytes op + 50 * op_entries op + 600
unfolding op_json
op_length op h =
    let inside = put (spelled fields.Operation) (object (operation_members op.op)) no_members in
    omega (arith, operation_length op.op, serial_length op.serial inside h.1, named fields.Operation 9 (object (operation_members op.op)) no_members operation_is)

pub ops_length : (os : List ObjectOp) → All IsSendableOp os → items_bound (items_of (map op_json os)) ≤ 6 * sum_by op_bytes os + 1000 * length os + 50 * sum_by op_entries os + 1
ops_length [] h = omega arith
ops_length (o ∷ os) h =
    omega (arith, op_length o (All-head IsSendableOp o os h), ops_length os (All-tail IsSendableOp o os h), sum_by-cons op_bytes o os, sum_by-cons op_entries o os)

-- ---- objects

held_or_none_length : (v : Option MapValue) (ms : Members) → members_bound (with_held v ms) ≤ 6 * held_bytes v + 40 + members_bound ms
held_or_none_length None ms = omega (arith, named fields.Tombstone 9 (boolean true) ms tombstone_is)
held_or_none_length (Some v) ms = omega (arith, value_length v, named fields.Data 4 (value_json v) ms data_is)

cell_length : (c : MapCell) → IsCell c → bound (cell_json c) ≤ 6 * held_bytes c.value + 320
unfolding cell_json
cell_length c h =
    let inside = put (spelled fields.Timeserial) (string (op_serial_text c.serial)) no_members in
    omega (arith, serial_short c.serial h.0, held_or_none_length c.value inside, named fields.Timeserial 10 (string (op_serial_text c.serial)) no_members timeserial_is)

abbrev IsKept : List ℕ × MapCell → Type 0
IsKept c = IsCell c.1

cells_sum : (cs : List (List ℕ × MapCell)) → All IsKept cs → members_bound (member_of_each (λ c. c.0) (λ c. cell_json c.1) cs) ≤ 6 * sum_by cell_bytes cs + 400 * length cs + 1
unfolding member_of_each
cells_sum [] h = omega arith
cells_sum (c ∷ cs) h =
    omega (arith, cell_length c.1 (All-head IsKept c cs h), cells_sum cs (All-tail IsKept c cs h), each_bound c.0 (cell_json c.1) (member_of_each (λ c. c.0) (λ c. cell_json c.1) cs), sum_by-cons cell_bytes c cs)

cells_length : (cs : List (List ℕ × MapCell)) → All IsKept cs → bound (cells_json cs) ≤ 6 * sum_by cell_bytes cs + 400 * length cs + 15
unfolding cells_json
cells_length cs h = omega (arith, cells_sum cs h, named fields.Entries 7 (object (member_of_each (λ c. c.0) (λ c. cell_json c.1) cs)) no_members entries_is)

body_length : (b : ObjectBody) (ms : Members) → IsBody b → members_bound (with_body b ms) ≤ 6 * body_bytes b + 400 * cells_of b + 100 + members_bound ms
unfolding counter_json
body_length (bodies.Counter sum) ms h =
    omega (arith, named fields.Counter 7 (object (put (spelled fields.Count) (integer (nearest sum)) no_members)) ms counter_is, named fields.Count 5 (integer (nearest sum)) no_members count_is)
body_length (bodies.Map cs) ms h = omega (arith, cells_length cs h.1, named fields.Map 3 (cells_json cs) ms map_is)

sites_sum : (ss : List (List ℕ × OpSerial)) → All IsSite ss → members_bound (member_of_each (λ s. s.0) (λ s. string (op_serial_text s.1)) ss) ≤ 400 * length ss + 1
unfolding member_of_each
sites_sum [] h = omega arith
sites_sum (s ∷ ss) h =
    let one = All-head IsSite s ss h in
    let code = (site_form s.0 one.0).fits in
    omega (arith, code, serial_short s.1 one.1, sites_sum ss (All-tail IsSite s ss h), each_bound s.0 (string (op_serial_text s.1)) (member_of_each (λ s. s.0) (λ s. string (op_serial_text s.1)) ss))

sites_length : (ss : List (List ℕ × OpSerial)) → All IsSite ss → bound (sites_json ss) ≤ 400 * length ss + 2
unfolding sites_json
sites_length ss h = omega (arith, sites_sum ss h)

inside_length : (s : ObjectState) → IsSendableState s → members_bound (state_members s) ≤ 6 * state_bytes s + 400 * state_cells s + 250
unfolding state_members
inside_length s h =
    let a = put (spelled fields.ObjectId) (string (object_id_text s.id)) no_members in
    let b = put (spelled fields.SiteTimeserials) (sites_json s.sites) a in
    let c = put (spelled fields.Tombstone) (boolean s.tombstone) b in
    let d = put (spelled fields.Created) (boolean s.created) c in
    omega (arith, body_length s.body d h.3, named fields.Created 7 (boolean s.created) c created_is, named fields.Tombstone 9 (boolean s.tombstone) b tombstone_is, sites_length s.sites h.2, named fields.SiteTimeserials 15 (sites_json s.sites) a sites_is, named fields.ObjectId 8 (string (object_id_text s.id)) no_members object_id_is)

state_length : (s : ObjectState) → IsSendableState s → bound (state_json s) ≤ 6 * state_bytes s + 400 * state_cells s + 300
unfolding state_json
state_length s h = omega (arith, inside_length s h, named fields.Object 6 (object (state_members s)) no_members object_is)

pub states_length : (ss : List ObjectState) → All IsSendableState ss → items_bound (items_of (map state_json ss)) ≤ 6 * sum_by state_bytes ss + 1000 * length ss + 400 * sum_by state_cells ss + 1
states_length [] h = omega arith
states_length (s ∷ ss) h =
    omega (arith, state_length s (All-head IsSendableState s ss h), states_length ss (All-tail IsSendableState s ss h), sum_by-cons state_bytes s ss, sum_by-cons state_cells s ss)
