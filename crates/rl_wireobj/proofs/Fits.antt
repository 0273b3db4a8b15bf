-- What holds of each operation, and of each object, that is read of a value whose members stand in order.
use Rattle.std.proofs.Common.{◌≡◌, ℕ, ℤ, pos, Bool, true, false, cond, List, Option, Some, None, option_map, Ok, refl, subst, All, arith}
use Rattle.std.specs.Prelude.{IfSome, option_and_then, unwrap_or}
use Rattle.base64.specs.GeneralPurpose.{IsBytes}
use Rattle.serde_json.specs.Data.{Data, Members, no_members}
use Rattle.serde_json.specs.Find.{as_str}
use Rattle.rl_ids.specs.Forms.{is_site_code}
use Rattle.rl_ids.specs.Objects.{IsObjectId, object_id_of, IsOpSerial, op_serial_of}
use Rattle.rl_ids.specs.declared.objects.ObjectId.{ObjectId}
use Rattle.rl_ids.specs.declared.objects.MapValue.{MapValue}
use Rattle.rl_ids.specs.declared.objects.MapValue.TheVariants as values
use Rattle.rl_ids.specs.declared.serials.OpSerial.{OpSerial}
use Rattle.rl_types.specs.declared.objects.Op.{Op}
use Rattle.rl_types.specs.declared.objects.Op.TheVariants as ops
use Rattle.rl_types.specs.declared.objects.ObjectOp.{ObjectOp}
use Rattle.rl_types.specs.declared.objects.MapCell.{MapCell}
use Rattle.rl_types.specs.declared.objects.ObjectBody.{ObjectBody}
use Rattle.rl_types.specs.declared.objects.ObjectBody.TheVariants as bodies
use Rattle.rl_types.specs.declared.objects.ObjectState.{ObjectState}
use Rattle.rl_jsonfields.specs.declared.names.Field.{Field}
use Rattle.rl_jsonfields.specs.declared.names.Field.TheVariants as fields
use Rattle.rl_jsonfields.specs.Fields.{Reads, IsSigned, signed, truth, text, an_object, some_members, field, shaped, required, optional, flag, each_member}
use Rattle.rl_jsonfields.specs.Order.{Ordered, MembersOrdered, Rise}
use Rattle.rl_jsonfields.proofs.Ordered.{ordered_field, ordered_optional, ordered_shaped, ordered_required, ordered_members_at}
use Rattle.rl_jsonfields.proofs.Rises.{rises, all_read}
use Rattle.rl_jsonfields.proofs.Shapes.{bind_ok, ok_is, some_is, shaped_ok, required_ok, optional_ok, signed_is, required_signed, optional_signed}
use Rattle.rl_wireobj.specs.declared.actions.Action.{Action}
use Rattle.rl_wireobj.specs.declared.actions.Action.TheVariants as actions
use Rattle.rl_wireobj.specs.Values.{an_id, a_serial, a_reference, a_text, a_number, a_truth, bytes_of, some_bytes, only_one, value_in, a_value}
use Rattle.rl_wireobj.specs.Operations.{an_action, semantics, entries_in, entry_at, map_create, map_set, map_remove, counter_create, counter_inc, by_action, operation, op_at}
use Rattle.rl_wireobj.specs.States.{site_with, site_at, sites, none_at, held, cell_at, counter_of, map_of, body_from, body, state_in, state_at}
use Rattle.rl_wireobj.specs.Sendable.{IsValue, AreEntries, IsOp, IsSendableOp, IsSite, IsCell, IsBody, IsSendableState}
use Rattle.rl_wireobj.proofs.Ids.{id_only, serial_only, bytes_only}

-- ---- shapes

text_id : (o : Option (List ℕ)) (id : ObjectId) → option_and_then object_id_of o ≡ Some id → IsObjectId id
text_id None id e = absurd cc
text_id (Some t) id e = id_only t id e

text_serial : (o : Option (List ℕ)) (s : OpSerial) → option_and_then op_serial_of o ≡ Some s → IsOpSerial s
text_serial None s e = absurd cc
text_serial (Some t) s e = serial_only t s e

text_bytes : (o : Option (List ℕ)) (bytes : List ℕ) → option_and_then bytes_of o ≡ Some bytes → IsBytes bytes
text_bytes None bytes e = absurd cc
text_bytes (Some t) bytes e = bytes_only t bytes e

required_id : (d : Data) (id : ObjectId) → required an_id fields.ObjectId d ≡ Ok id → IsObjectId id
required_id d id e = let a = required_ok an_id fields.ObjectId d id e in text_id (as_str a.0) id a.1

required_serial : (f : Field) (d : Data) (s : OpSerial) → required a_serial f d ≡ Ok s → IsOpSerial s
required_serial f d s e = let a = required_ok a_serial f d s e in text_serial (as_str a.0) s a.1

each_some : {A : Type 0} (P Q : A → Type 0) (o : Option A) → ((x : A) → P x → Q x) → IfSome o P → IfSome o Q
each_some P Q None k h = tt
each_some P Q (Some x) k h = k x h

optional_serial : (f : Field) (d : Data) (o : Option OpSerial) → optional a_serial f d ≡ Ok o → IfSome o IsOpSerial
optional_serial f d o e = each_some (λ s. (v : Data) × (a_serial v ≡ Some s)) IsOpSerial o (λ s a. text_serial (as_str a.0) s a.1) (optional_ok a_serial f d o e)

-- ---- values

-- a value that one shape gives
mapped : {A : Type 0} (make : A → MapValue) (P : A → Type 0) (o : Option A) (v : MapValue) → ((x : A) → P x → IsValue (make x)) → ((x : A) → o ≡ Some x → P x) → option_map make o ≡ Some v → IsValue v
mapped make P None v k h e = absurd cc
mapped make P (Some x) v k h e = subst IsValue (some_is (make x) v e) (k x (h x refl))

reference_fits : (d : Data) (v : MapValue) → a_reference d ≡ Some v → IsValue v
reference_fits d v e = mapped values.Ref IsObjectId (an_id d) v (λ id h. h) (λ id h. text_id (as_str d) id h) e

text_fits : (d : Data) (v : MapValue) → a_text d ≡ Some v → IsValue v
text_fits d v e = mapped values.Text (λ _. Unit {0}) (as_str d) v (λ t h. tt) (λ t h. tt) e

number_fits : (d : Data) (v : MapValue) → a_number d ≡ Some v → IsValue v
number_fits d v e = mapped values.Whole IsSigned (signed d) v (λ n h. h) (λ n h. signed_is d n h) e

truth_fits : (d : Data) (v : MapValue) → a_truth d ≡ Some v → IsValue v
truth_fits d v e = mapped values.Bool (λ _. Unit {0}) (truth d) v (λ b h. tt) (λ b h. tt) e

bytes_fits : (d : Data) (v : MapValue) → some_bytes d ≡ Some v → IsValue v
bytes_fits d v e = mapped values.Bytes IsBytes (option_and_then bytes_of (as_str d)) v (λ b h. h) (λ b h. text_bytes (as_str d) b h) e

one_fits : (a b c d e : Option Data) (v : MapValue) → only_one a b c d e ≡ Some v → IsValue v
one_fits (Some x) None None None None v h = reference_fits x v h
one_fits None (Some x) None None None v h = text_fits x v h
one_fits None None (Some x) None None v h = number_fits x v h
one_fits None None None (Some x) None v h = truth_fits x v h
one_fits None None None None (Some x) v h = bytes_fits x v h
one_fits None None None None None v h = absurd cc
one_fits None None None (Some x) (Some y) v h = absurd cc
one_fits None None (Some x) None (Some y) v h = absurd cc
one_fits None None (Some x) (Some y) e v h = absurd cc
one_fits None (Some x) None None (Some y) v h = absurd cc
one_fits None (Some x) None (Some y) e v h = absurd cc
one_fits None (Some x) (Some y) d e v h = absurd cc
one_fits (Some x) None None None (Some y) v h = absurd cc
one_fits (Some x) None None (Some y) e v h = absurd cc
one_fits (Some x) None (Some y) d e v h = absurd cc
one_fits (Some x) (Some y) c d e v h = absurd cc

inside_fits : (o : Data) (v : MapValue) → value_in o ≡ Some v → IsValue v
unfolding value_in
inside_fits o v e = one_fits (field fields.ObjectId o) (field fields.String o) (field fields.Number o) (field fields.Boolean o) (field fields.Bytes o) v e

shape_fits : (o : Option Data) (v : MapValue) → option_and_then value_in o ≡ Some v → IsValue v
shape_fits None v e = absurd cc
shape_fits (Some o) v e = inside_fits o v e

required_value : (d : Data) (v : MapValue) → required a_value fields.Data d ≡ Ok v → IsValue v
required_value d v e = let a = required_ok a_value fields.Data d v e in shape_fits (an_object a.0) v a.1

-- ---- entries

-- the members of entries, where they are read
entries_read : {A : Type 0} (one : List ℕ → Data → Reads A) (d : Data) (es : List A) → Ordered d → entries_in one d ≡ Ok es → (ms : Members) × MembersOrdered ms × (each_member one ms ≡ Ok es)
unfolding entries_in
entries_read one d es ordered e =
    let a = bind_ok (semantics d) _ es e in
    let b = bind_ok (optional some_members fields.Entries d) _ es a.2 in
    (unwrap_or b.0 no_members, ordered_members_at fields.Entries d b.0 ordered b.1, b.2)

entry_key : (k : List ℕ) (d : Data) (e : List ℕ × MapValue) → entry_at k d ≡ Ok e → k ≡ e.0
unfolding entry_at
entry_key k d e h =
    let a = bind_ok (shaped fields.Entries (an_object d)) _ e h in
    let b = bind_ok (required a_value fields.Data a.0) _ e a.2 in
    subst (λ x. k ≡ x.0) (ok_is (k, b.0) e b.2) refl

entry_fits : (k : List ℕ) (d : Data) (e : List ℕ × MapValue) → Ordered d → entry_at k d ≡ Ok e → IsValue e.1
unfolding entry_at
entry_fits k d e ordered h =
    let a = bind_ok (shaped fields.Entries (an_object d)) _ e h in
    let b = bind_ok (required a_value fields.Data a.0) _ e a.2 in
    subst (λ x. IsValue x.1) (ok_is (k, b.0) e b.2) (required_value a.0 b.0 b.1)

entries_fit : (d : Data) (es : List (List ℕ × MapValue)) → Ordered d → entries_in entry_at d ≡ Ok es → AreEntries es
entries_fit d es ordered e =
    let a = entries_read entry_at d es ordered e in
    (rises entry_at entry_key a.0 es a.2 a.1, all_read entry_at (λ x. IsValue x.1) entry_fits a.0 es a.2 a.1)

-- ---- operations

signed_or : (o : Option ℤ) → IfSome o IsSigned → IsSigned (unwrap_or o (pos 0))
signed_or None h = omega arith
signed_or (Some z) h = h

action_fits : (a : Action) (id : ObjectId) (d : Data) (op : Op) → IsObjectId id → Ordered d → by_action a id d ≡ Ok op → IsOp op
unfolding map_create map_set map_remove counter_create counter_inc
action_fits actions.MapCreate id d op h ordered e =
    let a = bind_ok (required an_object fields.Map d) _ op e in
    let b = bind_ok (entries_in entry_at a.0) _ op a.2 in
    subst IsOp (ok_is (ops.MapCreate id b.0) op b.2) (h, entries_fit a.0 b.0 (ordered_field fields.Map d a.0 ordered a.1) b.1)
action_fits actions.MapSet id d op h ordered e =
    let a = bind_ok (required an_object fields.MapOp d) _ op e in
    let b = bind_ok (required text fields.Key a.0) _ op a.2 in
    let c = bind_ok (required a_value fields.Data a.0) _ op b.2 in
    subst IsOp (ok_is (ops.MapSet id b.0 c.0) op c.2) (h, required_value a.0 c.0 c.1)
action_fits actions.MapRemove id d op h ordered e =
    let a = bind_ok (required an_object fields.MapOp d) _ op e in
    let b = bind_ok (required text fields.Key a.0) _ op a.2 in
    subst IsOp (ok_is (ops.MapRemove id b.0) op b.2) h
action_fits actions.CounterCreate id d op h ordered e =
    let a = bind_ok (required an_object fields.Counter d) _ op e in
    let b = bind_ok (optional signed fields.Count a.0) _ op a.2 in
    subst IsOp (ok_is (ops.CounterCreate id (unwrap_or b.0 (pos 0))) op b.2) (h, signed_or b.0 (optional_signed fields.Count a.0 b.0 b.1))
action_fits actions.CounterInc id d op h ordered e =
    let a = bind_ok (required an_object fields.CounterOp d) _ op e in
    let b = bind_ok (required signed fields.Amount a.0) _ op a.2 in
    subst IsOp (ok_is (ops.CounterInc id b.0) op b.2) (h, required_signed fields.Amount a.0 b.0 b.1)
action_fits actions.Delete id d op h ordered e = subst IsOp (ok_is (ops.Delete id) op e) h

operation_fits : (d : Data) (op : Op) → Ordered d → operation d ≡ Ok op → IsOp op
unfolding operation
operation_fits d op ordered e =
    let a = bind_ok (required an_action fields.Action d) _ op e in
    let b = bind_ok (required an_id fields.ObjectId d) _ op a.2 in
    action_fits a.0 b.0 d op (required_id d b.0 b.1) ordered b.2

pub op_fits : (d : Data) (op : ObjectOp) → Ordered d → op_at d ≡ Ok op → IsSendableOp op
unfolding op_at
op_fits d op ordered e =
    let a = bind_ok (shaped fields.State (an_object d)) _ op e in
    let b = bind_ok (required an_object fields.Operation a.0) _ op a.2 in
    let c = bind_ok (operation b.0) _ op b.2 in
    let s = bind_ok (optional a_serial fields.Serial a.0) _ op c.2 in
    let item = ordered_shaped fields.State d a.0 ordered a.1 in
    subst IsSendableOp (ok_is (record { op = c.0; serial = s.0 }) op s.2)
    (operation_fits b.0 c.0 (ordered_field fields.Operation a.0 b.0 item b.1) c.1, optional_serial fields.Serial a.0 s.0 s.1)

-- ---- objects

abbrev sited : List ℕ → OpSerial → List ℕ × OpSerial
sited k s = (k, s)

site_chosen : (b : Bool) (k : List ℕ) (o : Option OpSerial) (e : List ℕ × OpSerial) → cond b (option_map (λ s. (k, s)) o) None ≡ Some e → (b ≡ true) × (s : OpSerial) × (o ≡ Some s) × (sited k s ≡ e)
site_chosen false k o e h = absurd cc
site_chosen true k None e h = absurd cc
site_chosen true k (Some s) e h = (refl, s, refl, cc h)

abbrev SiteParts : List ℕ → List ℕ × OpSerial → Type 0
SiteParts k e = (k ≡ e.0) × IsSite e

sited_parts : (k : List ℕ) (s : OpSerial) → is_site_code k ≡ true → IsOpSerial s → SiteParts k (sited k s)
sited_parts k s h g = (refl, (h, g))

site_parts : (k : List ℕ) (d : Data) (e : List ℕ × OpSerial) → site_at k d ≡ Ok e → SiteParts k e
unfolding site_at
site_parts k d e h =
    let a = site_chosen (is_site_code k) k (a_serial d) e (shaped_ok fields.SiteTimeserials (site_with k (a_serial d)) e h) in
    subst (SiteParts k) a.3 (sited_parts k a.1 a.0 (text_serial (as_str d) a.1 a.2))

sites_fit : (d : Data) (ss : List (List ℕ × OpSerial)) → Ordered d → sites d ≡ Ok ss → Rise ss × All IsSite ss
unfolding sites
sites_fit d ss ordered e =
    let a = bind_ok (required some_members fields.SiteTimeserials d) _ ss e in
    let inside = ordered_required fields.SiteTimeserials d a.0 ordered a.1 in
    (rises site_at (λ k v x h. (site_parts k v x h).0) a.0 ss a.2 inside, all_read site_at IsSite (λ k v x o h. (site_parts k v x h).1) a.0 ss a.2 inside)

none_fits : (o : Option Data) (v : Option MapValue) → none_at o ≡ Ok v → IfSome v IsValue
none_fits None v e = subst (λ x. IfSome x IsValue) (ok_is None v e) tt
none_fits (Some d) v e = absurd cc

held_fits : (b : Bool) (d : Data) (v : Option MapValue) → held b d ≡ Ok v → IfSome v IsValue
held_fits true d v e = none_fits (field fields.Data d) v e
held_fits false d v e =
    let a = bind_ok (required a_value fields.Data d) _ v e in
    subst (λ x. IfSome x IsValue) (ok_is (Some a.0) v a.2) (required_value d a.0 a.1)

cell_parts : (k : List ℕ) (d : Data) (c : List ℕ × MapCell) → cell_at k d ≡ Ok c → (k ≡ c.0) × IsCell c.1
unfolding cell_at
cell_parts k d c e =
    let a = bind_ok (shaped fields.Entries (an_object d)) _ c e in
    let t = bind_ok (flag fields.Tombstone a.0) _ c a.2 in
    let v = bind_ok (held t.0 a.0) _ c t.2 in
    let s = bind_ok (required a_serial fields.Timeserial a.0) _ c v.2 in
    subst (λ x. (k ≡ x.0) × IsCell x.1) (ok_is (k, record { serial = s.0; value = v.0 }) c s.2) (refl, (required_serial fields.Timeserial a.0 s.0 s.1, held_fits t.0 a.0 v.0 v.1))

counter_fits : (d : Data) (b : ObjectBody) → counter_of d ≡ Ok b → IsBody b
unfolding counter_of
counter_fits d b e =
    let a = bind_ok (required signed fields.Count d) _ b e in
    subst IsBody (ok_is (bodies.Counter a.0) b a.2) (required_signed fields.Count d a.0 a.1)

cells_fit : (d : Data) (cs : List (List ℕ × MapCell)) → Ordered d → entries_in cell_at d ≡ Ok cs → Rise cs × All (λ c. IsCell c.1) cs
cells_fit d cs ordered e =
    let a = entries_read cell_at d cs ordered e in
    (rises cell_at (λ k v x h. (cell_parts k v x h).0) a.0 cs a.2 a.1, all_read cell_at (λ c. IsCell c.1) (λ k v x o h. (cell_parts k v x h).1) a.0 cs a.2 a.1)

map_fits : (o : Option Data) (b : ObjectBody) → IfSome o Ordered → map_of o ≡ Ok b → IsBody b
map_fits None b ordered e = absurd cc
map_fits (Some d) b ordered e =
    let a = bind_ok (entries_in cell_at d) _ b e in
    subst IsBody (ok_is (bodies.Map a.0) b a.2) (cells_fit d a.0 ordered a.1)

from_fits : (o : Option Data) (d : Data) (b : ObjectBody) → Ordered d → body_from o d ≡ Ok b → IsBody b
from_fits (Some c) d b ordered e = counter_fits c b e
from_fits None d b ordered e =
    let a = bind_ok (optional an_object fields.Map d) map_of b e in
    map_fits a.0 b (ordered_optional fields.Map d a.0 ordered a.1) a.2

body_fits : (d : Data) (b : ObjectBody) → Ordered d → body d ≡ Ok b → IsBody b
unfolding body
body_fits d b ordered e =
    let a = bind_ok (optional an_object fields.Counter d) _ b e in
    from_fits a.0 d b ordered a.2

inside_state : (d : Data) (s : ObjectState) → Ordered d → state_in d ≡ Ok s → IsSendableState s
unfolding state_in
inside_state d s ordered e =
    let a = bind_ok (required an_id fields.ObjectId d) _ s e in
    let b = bind_ok (sites d) _ s a.2 in
    let t = bind_ok (flag fields.Tombstone d) _ s b.2 in
    let c = bind_ok (flag fields.Created d) _ s t.2 in
    let h = bind_ok (body d) _ s c.2 in
    let fit = sites_fit d b.0 ordered b.1 in
    subst IsSendableState (ok_is (record { id = a.0; sites = b.0; tombstone = t.0; created = c.0; body = h.0 }) s h.2)
    (required_id d a.0 a.1, fit.0, fit.1, body_fits d h.0 ordered h.1)

pub state_fits : (d : Data) (s : ObjectState) → Ordered d → state_at d ≡ Ok s → IsSendableState s
unfolding state_at
state_fits d s ordered e =
    let a = bind_ok (shaped fields.State (an_object d)) _ s e in
    let b = bind_ok (required an_object fields.Object a.0) _ s a.2 in
    inside_state b.0 s (ordered_field fields.Object a.0 b.0 (ordered_shaped fields.State d a.0 ordered a.1) b.1) b.2
