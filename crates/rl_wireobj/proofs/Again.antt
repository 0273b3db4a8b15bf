-- What is written of operations and objects is read as them again.
use Rattle.std.proofs.Common.{◌≡◌, ℕ, ℤ, pos, negsuc, true, List, Option, Some, None, option_map, Ok, refl, sym, ap, subst, ◌∙◌, All, arith}
use Rattle.std.specs.Prelude.{IfSome, ◌-◌, ◌^◌}
use Rattle.std.proofs.lemmas.Bool.{le-ltb}
use Rattle.serde_json.specs.Data.{Data, boolean, string, object, Members, no_members, put}
use Rattle.base64.specs.Engines.{standard}
use Rattle.base64.specs.GeneralPurpose.{encode_of}
use Rattle.rl_numbers.specs.declared.actions.TheConstants.{MAP_CREATE, MAP_SET, MAP_REMOVE, COUNTER_CREATE, COUNTER_INC, OBJECT_DELETE}
use Rattle.rl_ids.specs.Objects.{object_id_text, IsObjectId, op_serial_text, IsOpSerial}
use Rattle.rl_ids.specs.declared.objects.ObjectId.{ObjectId}
use Rattle.rl_ids.specs.declared.objects.MapValue.{MapValue}
use Rattle.rl_ids.specs.declared.objects.MapValue.TheVariants as values
use Rattle.rl_ids.specs.declared.serials.OpSerial.{OpSerial}
use Rattle.rl_types.specs.declared.objects.Op.{Op}
use Rattle.rl_types.specs.declared.objects.Op.TheVariants as ops
use Rattle.rl_types.specs.declared.objects.ObjectOp.{ObjectOp}
use Rattle.rl_types.specs.declared.objects.MapCell.{MapCell}
use Rattle.rl_types.specs.declared.objects.ObjectBody.{ObjectBody}
use Rattle.rl_types.specs.declared.objects.ObjectBody.TheVariants as bodies
use Rattle.rl_types.specs.declared.objects.ObjectState.{ObjectState}
use Rattle.rl_jsonfields.specs.declared.names.Field.{Field}
use Rattle.rl_jsonfields.specs.declared.names.Field.TheVariants as fields
use Rattle.rl_jsonfields.specs.Names.{spelled}
use Rattle.rl_jsonfields.specs.Fields.{Reads, IsSigned, present, whole_in, an_object, required, optional, each_member}
use Rattle.rl_jsonfields.specs.Order.{Rise}
use Rattle.rl_jsonfields.specs.Texts.{num, integer}
use Rattle.rl_jsonfields.proofs.Got.{found, required_found, optional_found_none, optional_found_one, required_text_found, required_signed_found, optional_signed_found, flag_found, flag_absent, required_members_found, optional_members_found, signed_again, found_rules}
use Rattle.rl_jsonfields.proofs.Rises.{each_again}
use Rattle.rl_wireobj.specs.declared.actions.Action.{Action}
use Rattle.rl_wireobj.specs.declared.actions.Action.TheVariants as actions
use Rattle.rl_wireobj.specs.Values.{an_id, a_serial, value_in, a_value, with_value, value_json}
use Rattle.rl_wireobj.specs.Operations.{an_action, semantics, entries_in, entry_at, map_create, map_set, map_remove, counter_create, counter_inc, by_action, operation, op_at, entry_json, entries_json, head_members, operation_members, op_json}
use Rattle.rl_wireobj.specs.States.{site_at, sites, cell_at, counter_of, body, state_in, state_at, with_held, cell_json, cells_json, nearest, counter_json, with_body, sites_json, state_members, state_json}
use Rattle.rl_wireobj.specs.Sendable.{IsValue, AreEntries, IsOp, IsSendableOp, IsSite, IsCell, IsBody, IsSendableState}
use Rattle.rl_wireobj.proofs.Ids.{id_again, serial_again, bytes_again}

-- ---- values

members_again : (v : MapValue) → IsValue v → value_in (object (with_value v no_members)) ≡ Some v
unfolding value_in
members_again (values.Text t) h =
    let ms = put (spelled fields.String) (string t) no_members in
    let a : found fields.ObjectId ms ≡ None = simp found_rules in
    let b : found fields.String ms ≡ Some (string t) = simp found_rules in
    let c : found fields.Number ms ≡ None = simp found_rules in
    let d : found fields.Boolean ms ≡ None = simp found_rules in
    let e : found fields.Bytes ms ≡ None = simp found_rules in
    rw (a, b, c, d, e) refl
members_again (values.Whole n) h =
    let ms = put (spelled fields.Number) (integer n) no_members in
    let a : found fields.ObjectId ms ≡ None = simp found_rules in
    let b : found fields.String ms ≡ None = simp found_rules in
    let c : found fields.Number ms ≡ Some (integer n) = simp found_rules in
    let d : found fields.Boolean ms ≡ None = simp found_rules in
    let e : found fields.Bytes ms ≡ None = simp found_rules in
    rw (a, b, c, d, e) (ap (option_map values.Whole) (signed_again n h))
members_again (values.Bool t) h =
    let ms = put (spelled fields.Boolean) (boolean t) no_members in
    let a : found fields.ObjectId ms ≡ None = simp found_rules in
    let b : found fields.String ms ≡ None = simp found_rules in
    let c : found fields.Number ms ≡ None = simp found_rules in
    let d : found fields.Boolean ms ≡ Some (boolean t) = simp found_rules in
    let e : found fields.Bytes ms ≡ None = simp found_rules in
    rw (a, b, c, d, e) refl
members_again (values.Bytes bytes) h =
    let ms = put (spelled fields.Bytes) (string (encode_of standard bytes)) no_members in
    let a : found fields.ObjectId ms ≡ None = simp found_rules in
    let b : found fields.String ms ≡ None = simp found_rules in
    let c : found fields.Number ms ≡ None = simp found_rules in
    let d : found fields.Boolean ms ≡ None = simp found_rules in
    let e : found fields.Bytes ms ≡ Some (string (encode_of standard bytes)) = simp found_rules in
    rw (a, b, c, d, e) (ap (option_map values.Bytes) (bytes_again bytes h))
members_again (values.Ref id) h =
    let ms = put (spelled fields.ObjectId) (string (object_id_text id)) no_members in
    let a : found fields.ObjectId ms ≡ Some (string (object_id_text id)) = simp found_rules in
    let b : found fields.String ms ≡ None = simp found_rules in
    let c : found fields.Number ms ≡ None = simp found_rules in
    let d : found fields.Boolean ms ≡ None = simp found_rules in
    let e : found fields.Bytes ms ≡ None = simp found_rules in
    rw (a, b, c, d, e) (ap (option_map values.Ref) (id_again id h))

value_present : (v : MapValue) → present (value_json v) ≡ Some (value_json v)
unfolding value_json
value_present v = refl

value_again : (v : MapValue) → IsValue v → a_value (value_json v) ≡ Some v
unfolding value_json
value_again v h = members_again v h

required_value : (ms : Members) (v : MapValue) → found fields.Data ms ≡ Some (value_json v) → IsValue v → required a_value fields.Data (object ms) ≡ Ok v
required_value ms v e h = required_found a_value fields.Data ms (value_json v) v e (value_present v) (value_again v h)

required_id : (ms : Members) (id : ObjectId) → found fields.ObjectId ms ≡ Some (string (object_id_text id)) → IsObjectId id → required an_id fields.ObjectId (object ms) ≡ Ok id
required_id ms id e h = required_found an_id fields.ObjectId ms (string (object_id_text id)) id e refl (id_again id h)

required_serial : (f : Field) (ms : Members) (s : OpSerial) → found f ms ≡ Some (string (op_serial_text s)) → IsOpSerial s → required a_serial f (object ms) ≡ Ok s
required_serial f ms s e h = required_found a_serial f ms (string (op_serial_text s)) s e refl (serial_again s h)

optional_serial : (f : Field) (ms : Members) (o : Option OpSerial) → found f ms ≡ option_map string (option_map op_serial_text o) → IfSome o IsOpSerial → optional a_serial f (object ms) ≡ Ok o
optional_serial f ms None e h = optional_found_none a_serial f ms e
optional_serial f ms (Some s) e h = optional_found_one a_serial f ms (string (op_serial_text s)) s e refl (serial_again s h)

-- ---- entries

entry_again : (e : List ℕ × MapValue) → IsValue e.1 → entry_at e.0 (entry_json e.1) ≡ Ok e
unfolding entry_at entry_json
entry_again e h =
    let ms = put (spelled fields.Data) (value_json e.1) no_members in
    let k : found fields.Data ms ≡ Some (value_json e.1) = simp found_rules in
    rw (required_value ms e.1 k h) refl

-- an object whose entries are members
inside_again : {A : Type 0} (one : List ℕ → Data → Reads A) (ms : Members) (es : List A) → each_member one ms ≡ Ok es → entries_in one (object (put (spelled fields.Entries) (object ms) no_members)) ≡ Ok es
unfolding entries_in semantics
inside_again one ms es e =
    let outer = put (spelled fields.Entries) (object ms) no_members in
    let a : found fields.Semantics outer ≡ None = simp found_rules in
    let b : found fields.Entries outer ≡ Some (object ms) = simp found_rules in
    rw (optional_found_none (whole_in 0 0) fields.Semantics outer a, optional_members_found fields.Entries outer ms b) e

entries_again : (es : List (List ℕ × MapValue)) → AreEntries es → entries_in entry_at (entries_json es) ≡ Ok es
unfolding entries_json
entries_again es h = inside_again entry_at _ es (each_again entry_json entry_at (λ e. IsValue e.1) entry_again es h.0 h.1)

entries_object : (es : List (List ℕ × MapValue)) → an_object (entries_json es) ≡ Some (entries_json es)
unfolding entries_json
entries_object es = refl

entries_present : (es : List (List ℕ × MapValue)) → present (entries_json es) ≡ Some (entries_json es)
unfolding entries_json
entries_present es = refl

-- ---- operations

-- the head of an operation is found
record HasHead (action : ℕ) (id : ObjectId) (ms : Members) : Type 0 where
  action_is : found fields.Action ms ≡ Some (num action)
  id_is : found fields.ObjectId ms ≡ Some (string (object_id_text id))

head_again : (n : ℕ) (a : Action) (id : ObjectId) (ms : Members) (op : Op) → HasHead n id ms → an_action (num n) ≡ Some a → IsObjectId id → by_action a id (object ms) ≡ Ok op → operation (object ms) ≡ Ok op
unfolding operation
head_again n a id ms op has is h e =
    rw (required_found an_action fields.Action ms (num n) a has.action_is refl is, required_id ms id has.id_is h) e

create_again : (id : ObjectId) (es : List (List ℕ × MapValue)) (ms : Members) → found fields.Map ms ≡ Some (entries_json es) → AreEntries es → map_create id (object ms) ≡ Ok (ops.MapCreate id es)
unfolding map_create
create_again id es ms e h = rw (required_found an_object fields.Map ms (entries_json es) (entries_json es) e (entries_present es) (entries_object es), entries_again es h) refl

abbrev set_inside : List ℕ → MapValue → Members
set_inside key v = put (spelled fields.Data) (value_json v) (put (spelled fields.Key) (string key) no_members)

set_again : (id : ObjectId) (key : List ℕ) (v : MapValue) (ms : Members) → found fields.MapOp ms ≡ Some (object (set_inside key v)) → IsValue v → map_set id (object ms) ≡ Ok (ops.MapSet id key v)
unfolding map_set
set_again id key v ms e h =
    let inside = set_inside key v in
    let a : found fields.Key inside ≡ Some (string key) = simp found_rules in
    let b : found fields.Data inside ≡ Some (value_json v) = simp found_rules in
    rw (required_found an_object fields.MapOp ms (object inside) (object inside) e refl refl, required_text_found fields.Key inside key a, required_value inside v b h) refl

remove_again : (id : ObjectId) (key : List ℕ) (ms : Members) → found fields.MapOp ms ≡ Some (object (put (spelled fields.Key) (string key) no_members)) → map_remove id (object ms) ≡ Ok (ops.MapRemove id key)
unfolding map_remove
remove_again id key ms e =
    let inside = put (spelled fields.Key) (string key) no_members in
    let a : found fields.Key inside ≡ Some (string key) = simp found_rules in
    rw (required_found an_object fields.MapOp ms (object inside) (object inside) e refl refl, required_text_found fields.Key inside key a) refl

count_again : (id : ObjectId) (n : ℤ) (ms : Members) → found fields.Counter ms ≡ Some (object (put (spelled fields.Count) (integer n) no_members)) → IsSigned n → counter_create id (object ms) ≡ Ok (ops.CounterCreate id n)
unfolding counter_create
count_again id n ms e h =
    let inside = put (spelled fields.Count) (integer n) no_members in
    let a : found fields.Count inside ≡ Some (integer n) = simp found_rules in
    rw (required_found an_object fields.Counter ms (object inside) (object inside) e refl refl, optional_signed_found fields.Count inside n a h) refl

amount_again : (id : ObjectId) (n : ℤ) (ms : Members) → found fields.CounterOp ms ≡ Some (object (put (spelled fields.Amount) (integer n) no_members)) → IsSigned n → counter_inc id (object ms) ≡ Ok (ops.CounterInc id n)
unfolding counter_inc
amount_again id n ms e h =
    let inside = put (spelled fields.Amount) (integer n) no_members in
    let a : found fields.Amount inside ≡ Some (integer n) = simp found_rules in
    rw (required_found an_object fields.CounterOp ms (object inside) (object inside) e refl refl, required_signed_found fields.Amount inside n a h) refl

operation_again : (op : Op) → IsOp op → operation (object (operation_members op)) ≡ Ok op
unfolding operation_members
operation_again (ops.MapCreate id es) h =
    let ms = put (spelled fields.Map) (entries_json es) (head_members MAP_CREATE id) in
    head_again MAP_CREATE actions.MapCreate id ms _ (record { action_is = simp found_rules; id_is = simp found_rules }) refl h.0 (create_again id es ms (simp found_rules) h.1)
operation_again (ops.MapSet id key v) h =
    let ms = put (spelled fields.MapOp) (object (set_inside key v)) (head_members MAP_SET id) in
    head_again MAP_SET actions.MapSet id ms _ (record { action_is = simp found_rules; id_is = simp found_rules }) refl h.0 (set_again id key v ms (simp found_rules) h.1)
operation_again (ops.MapRemove id key) h =
    let ms = put (spelled fields.MapOp) (object (put (spelled fields.Key) (string key) no_members)) (head_members MAP_REMOVE id) in
    head_again MAP_REMOVE actions.MapRemove id ms _ (record { action_is = simp found_rules; id_is = simp found_rules }) refl h (remove_again id key ms (simp found_rules))
operation_again (ops.CounterCreate id n) h =
    let ms = put (spelled fields.Counter) (object (put (spelled fields.Count) (integer n) no_members)) (head_members COUNTER_CREATE id) in
    head_again COUNTER_CREATE actions.CounterCreate id ms _ (record { action_is = simp found_rules; id_is = simp found_rules }) refl h.0 (count_again id n ms (simp found_rules) h.1)
operation_again (ops.CounterInc id n) h =
    let ms = put (spelled fields.CounterOp) (object (put (spelled fields.Amount) (integer n) no_members)) (head_members COUNTER_INC id) in
    head_again COUNTER_INC actions.CounterInc id ms _ (record { action_is = simp found_rules; id_is = simp found_rules }) refl h.0 (amount_again id n ms (simp found_rules) h.1)
operation_again (ops.Delete id) h =
    let ms = head_members OBJECT_DELETE id in
    head_again OBJECT_DELETE actions.Delete id ms _ (record { action_is = simp found_rules; id_is = simp found_rules }) refl h refl

item_again : (op : Op) (serial : Option OpSerial) (ms : Members) → found fields.Operation ms ≡ Some (object (operation_members op)) → found fields.Serial ms ≡ option_map string (option_map op_serial_text serial) → IsOp op → IfSome serial IsOpSerial
    → op_at (object ms) ≡ Ok (record { op = op; serial = serial })
unfolding op_at
item_again op serial ms a b h g =
    rw (required_found an_object fields.Operation ms (object (operation_members op)) (object (operation_members op)) a refl refl, operation_again op h, optional_serial fields.Serial ms serial b g) refl

pub op_again : (op : ObjectOp) → IsSendableOp op → op_at (op_json op) ≡ Ok op
unfolding op_json
op_again op h = item_again op.op op.serial _ (simp found_rules) (simp found_rules) h.0 h.1

-- ---- objects

cell_with : (key : List ℕ) (v : Option MapValue) (s : OpSerial) → IfSome v IsValue → IsOpSerial s
    → cell_at key (object (with_held v (put (spelled fields.Timeserial) (string (op_serial_text s)) no_members))) ≡ Ok (key, record { serial = s; value = v })
unfolding cell_at
cell_with key None s h g =
    let ms = put (spelled fields.Tombstone) (boolean true) (put (spelled fields.Timeserial) (string (op_serial_text s)) no_members) in
    let a : found fields.Tombstone ms ≡ Some (boolean true) = simp found_rules in
    let b : found fields.Data ms ≡ None = simp found_rules in
    let c : found fields.Timeserial ms ≡ Some (string (op_serial_text s)) = simp found_rules in
    rw (flag_found fields.Tombstone ms true a, b, required_serial fields.Timeserial ms s c g) refl
cell_with key (Some v) s h g =
    let ms = put (spelled fields.Data) (value_json v) (put (spelled fields.Timeserial) (string (op_serial_text s)) no_members) in
    let a : found fields.Tombstone ms ≡ None = simp found_rules in
    let b : found fields.Data ms ≡ Some (value_json v) = simp found_rules in
    let c : found fields.Timeserial ms ≡ Some (string (op_serial_text s)) = simp found_rules in
    rw (flag_absent fields.Tombstone ms a, required_value ms v b h, required_serial fields.Timeserial ms s c g) refl

cell_again : (c : List ℕ × MapCell) → IsCell c.1 → cell_at c.0 (cell_json c.1) ≡ Ok c
unfolding cell_json
cell_again c h = cell_with c.0 c.1.value c.1.serial h.1 h.0

cells_again : (cs : List (List ℕ × MapCell)) → Rise cs → All (λ c. IsCell c.1) cs → entries_in cell_at (cells_json cs) ≡ Ok cs
unfolding cells_json
cells_again cs rise all = inside_again cell_at _ cs (each_again cell_json cell_at (λ c. IsCell c.1) cell_again cs rise all)

cells_object : (cs : List (List ℕ × MapCell)) → an_object (cells_json cs) ≡ Some (cells_json cs)
unfolding cells_json
cells_object cs = refl

cells_present : (cs : List (List ℕ × MapCell)) → present (cells_json cs) ≡ Some (cells_json cs)
unfolding cells_json
cells_present cs = refl

counter_object : (sum : ℤ) → an_object (counter_json sum) ≡ Some (counter_json sum)
unfolding counter_json
counter_object sum = refl

counter_present : (sum : ℤ) → present (counter_json sum) ≡ Some (counter_json sum)
unfolding counter_json
counter_present sum = refl

-- a number of 64 bits is the nearest one
nearest_same : (z : ℤ) → IsSigned z → nearest z ≡ z
nearest_same (pos n) h = rw (le-ltb (2 ^ 63 - 1) n (omega (arith, h))) refl
nearest_same (negsuc n) h = rw (le-ltb (2 ^ 63 - 1) n (omega (arith, h))) refl

pub nearest_fits : (z : ℤ) → IsSigned z → IsSigned (nearest z)
nearest_fits z h = subst IsSigned (sym (nearest_same z h)) h

counter_again : (sum : ℤ) → IsSigned sum → counter_of (counter_json sum) ≡ Ok (bodies.Counter sum)
unfolding counter_of counter_json
counter_again sum h =
    let ms = put (spelled fields.Count) (integer (nearest sum)) no_members in
    let a : found fields.Count ms ≡ Some (integer (nearest sum)) = simp found_rules in
    let same : nearest sum ≡ sum = nearest_same sum h in
    rw (required_signed_found fields.Count ms sum (a ∙ ap (λ z. Some (integer z)) same) h) refl

body_again : (b : ObjectBody) (ms : Members) → found fields.Counter ms ≡ None → found fields.Map ms ≡ None → IsBody b → body (object (with_body b ms)) ≡ Ok b
unfolding body
body_again (bodies.Counter sum) ms a m h =
    let outer = put (spelled fields.Counter) (counter_json sum) ms in
    let k : found fields.Counter outer ≡ Some (counter_json sum) = simp found_rules in
    rw (optional_found_one an_object fields.Counter outer (counter_json sum) (counter_json sum) k (counter_present sum) (counter_object sum)) (counter_again sum h)
body_again (bodies.Map cs) ms a m h =
    let outer = put (spelled fields.Map) (cells_json cs) ms in
    let j : found fields.Counter outer ≡ None = simp (found_rules, a) in
    let k : found fields.Map outer ≡ Some (cells_json cs) = simp found_rules in
    rw (optional_found_none an_object fields.Counter outer j, optional_found_one an_object fields.Map outer (cells_json cs) (cells_json cs) k (cells_present cs) (cells_object cs), cells_again cs h.0 h.1) refl

site_again : (s : List ℕ × OpSerial) → IsSite s → site_at s.0 (string (op_serial_text s.1)) ≡ Ok s
unfolding site_at
site_again s h = rw (h.0, serial_again s.1 h.1) refl

sites_again : (ms : Members) (ss : List (List ℕ × OpSerial)) → found fields.SiteTimeserials ms ≡ Some (sites_json ss) → Rise ss → All IsSite ss → sites (object ms) ≡ Ok ss
unfolding sites sites_json
sites_again ms ss e rise all =
    rw (required_members_found fields.SiteTimeserials ms _ e) (each_again (λ s. string (op_serial_text s)) site_at IsSite site_again ss rise all)

-- what stands in an object beside its body is found, whatever the body is
record HasParts (s : ObjectState) (ms : Members) : Type 0 where
  id_is : found fields.ObjectId ms ≡ Some (string (object_id_text s.id))
  sites_are : found fields.SiteTimeserials ms ≡ Some (sites_json s.sites)
  tombstone_is : found fields.Tombstone ms ≡ Some (boolean s.tombstone)
  created_is : found fields.Created ms ≡ Some (boolean s.created)

abbrev beside : ObjectState → Members
beside s = put (spelled fields.Created) (boolean s.created) (put (spelled fields.Tombstone) (boolean s.tombstone) (put (spelled fields.SiteTimeserials) (sites_json s.sites) (put (spelled fields.ObjectId) (string (object_id_text s.id)) no_members)))

has_parts : (s : ObjectState) (b : ObjectBody) → HasParts s (with_body b (beside s))
has_parts s (bodies.Counter sum) = record { id_is = simp found_rules; sites_are = simp found_rules; tombstone_is = simp found_rules; created_is = simp found_rules }
has_parts s (bodies.Map cs) = record { id_is = simp found_rules; sites_are = simp found_rules; tombstone_is = simp found_rules; created_is = simp found_rules }

inside_state : (s : ObjectState) → IsSendableState s → state_in (object (state_members s)) ≡ Ok s
unfolding state_in state_members
inside_state s h =
    let ms = with_body s.body (beside s) in
    let has = has_parts s s.body in
    rw (required_id ms s.id has.id_is h.0, sites_again ms s.sites has.sites_are h.1 h.2, flag_found fields.Tombstone ms s.tombstone has.tombstone_is, flag_found fields.Created ms s.created has.created_is, body_again s.body (beside s) (simp found_rules) (simp found_rules) h.3) refl

pub state_again : (s : ObjectState) → IsSendableState s → state_at (state_json s) ≡ Ok s
unfolding state_at state_json
state_again s h =
    let ms = put (spelled fields.Object) (object (state_members s)) no_members in
    let k : found fields.Object ms ≡ Some (object (state_members s)) = simp found_rules in
    rw (required_found an_object fields.Object ms (object (state_members s)) (object (state_members s)) k refl refl) (inside_state s h)

-- ---- values that are written

pub written_op : (op : ObjectOp) (d : Data) → d ≡ op_json op → IsSendableOp op → op_at d ≡ Ok op
written_op op d e h = ap op_at e ∙ op_again op h

pub written_state : (s : ObjectState) (d : Data) → d ≡ state_json s → IsSendableState s → state_at d ≡ Ok s
written_state s d e h = ap state_at e ∙ state_again s h
