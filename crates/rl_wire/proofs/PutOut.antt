-- The texts of the frames that the service puts out are not too long.
use Rattle.std.proofs.Common.{inl, inr, ◌≡◌, ◌≤◌, ◌+◌, ◌*◌, ℕ, Bool, true, false, List, [], ◌∷◌, length, All, Option, Some, None, refl, ap, arith, length-append}
use Rattle.std.specs.Prelude.{◌&&◌, nat_lt, nat_le, IfSome, sum_by, replicate}
use Rattle.std.specs.List.{AllByRecursion, list_all}
use Rattle.std.specs.declared.cmp.Ordering.TheVariants.{Less}
use Rattle.std.proofs.lemmas.List.{length-replicate}
use Rattle.std.proofs.lemmas.List.Elements.{All-head, All-tail}
use Rattle.std.proofs.lemmas.List.Sums.{sum_by-cons}
use Rattle.base64.specs.Engines.{standard}
use Rattle.base64.specs.GeneralPurpose.{encode_of}
use Rattle.base64.specs.Rfc4648.{encode_symbols, unpadded_len, padding_len}
use Rattle.base64.proofs.RoundTrip.{length-encode_symbols}
use Rattle.rl_ids.specs.declared.objects.MapValue.{MapValue}
use Rattle.rl_ids.specs.declared.objects.MapValue.TheVariants as values
use Rattle.rl_ids.specs.declared.objects.ObjectKind.{ObjectKind}
use Rattle.rl_ids.specs.declared.objects.ObjectKind.TheVariants as kinds
use Rattle.rl_ids.specs.declared.objects.ObjectId.{ObjectId}
use Rattle.rl_ids.specs.declared.objects.ObjectId.TheVariants.{Root, Made}
use Rattle.rl_ids.specs.Objects.{kind_text, made_text, object_id_text, is_hash_byte, is_hash, IsObjectId}
use Rattle.rl_ids.proofs.ObjectTexts.{at_most, made_parts}
use Rattle.std.specs.Fmt.{decimal}
use Rattle.std.proofs.lemmas.Fmt.{length-decimal-le}
use Rattle.rl_types.specs.declared.frames.Frame.TheVariants as frames
use Rattle.rl_types.specs.declared.messages.Item.{Item}
use Rattle.rl_types.specs.declared.objects.Op.{Op}
use Rattle.rl_types.specs.declared.objects.Op.TheVariants as ops
use Rattle.rl_types.specs.declared.objects.ObjectOp.{ObjectOp}
use Rattle.rl_types.specs.declared.objects.MapCell.{MapCell}
use Rattle.rl_types.specs.declared.objects.ObjectBody.{ObjectBody}
use Rattle.rl_types.specs.declared.objects.ObjectBody.TheVariants as bodies
use Rattle.rl_types.specs.declared.objects.ObjectState.{ObjectState}
use Rattle.rl_types.specs.declared.presence.PresenceItem.{PresenceItem}
use Rattle.rl_types.specs.Weight.{option_len, item_weight, presence_weight, value_weight, entry_weight, action_weight, op_weight, held_weight, cell_weight, held_in, state_weight}
use Rattle.rl_jsonfields.specs.Order.{cmp, IsFirst, Rise}
use Rattle.rl_wireobj.specs.Sendable.{IsOp, IsSendableOp, IsSendableState}
use Rattle.rl_wireobj.specs.Sizes.{value_bytes, entry_bytes, operation_bytes, op_bytes, entries_of, op_entries, held_bytes, cell_bytes, body_bytes, state_bytes, cells_of, state_cells}
use Rattle.rl_wire.specs.Sizes.{message_bytes, presence_bytes}
use Rattle.rl_wire.specs.PutOut.{IsMade, IsLeft, IsMember, IsShortValue, IsShortCell, AreCellsShort, IsPageObject, PutOutFits}
use Rattle.rl_wire.proofs.TextLengths.{frame_length}

-- ---- messages

messages_weigh : (ms : List Item) → 6 * sum_by message_bytes ms + 150 * length ms ≤ 6 * sum_by item_weight ms
messages_weigh [] = omega arith
messages_weigh (m ∷ ms) = omega (arith, messages_weigh ms, sum_by-cons message_bytes m ms, sum_by-cons item_weight m ms)

-- ---- presence

put_weighs : (ps : List PresenceItem) → AllByRecursion IsMade ps → 6 * sum_by presence_bytes ps + 150 * length ps ≤ 9 * sum_by presence_weight ps
put_weighs [] h = omega arith
put_weighs (p ∷ ps) h = omega (arith, h.0, put_weighs ps h.1, sum_by-cons presence_bytes p ps, sum_by-cons presence_weight p ps)

left_bytes : (p : PresenceItem) → IsLeft p → presence_bytes p ≤ 320
left_bytes p h = omega (arith, h.made, h.client, ap option_len h.payload, ap option_len h.encoding)

left_weigh : (ps : List PresenceItem) → AllByRecursion IsLeft ps → 6 * sum_by presence_bytes ps + 150 * length ps ≤ 2070 * length ps
left_weigh [] h = omega arith
left_weigh (p ∷ ps) h = omega (arith, left_bytes p h.0, left_weigh ps h.1, sum_by-cons presence_bytes p ps)

member_bytes : (p : PresenceItem) → IsMember p → presence_bytes p ≤ 4672
member_bytes p h = omega (arith, h.made, h.client, h.payload, h.encoding)

members_weigh : (ps : List PresenceItem) → AllByRecursion IsMember ps → 6 * sum_by presence_bytes ps + 150 * length ps ≤ 28182 * length ps
members_weigh [] h = omega arith
members_weigh (p ∷ ps) h = omega (arith, member_bytes p h.0, members_weigh ps h.1, sum_by-cons presence_bytes p ps)

-- ---- bytes as base64

encoded_is : (bytes : List ℕ) → length (encode_of standard bytes) ≡ unpadded_len (length bytes) + padding_len (length bytes)
encoded_is bytes =
    let symbols = encode_symbols standard.encode_table bytes in
    omega (arith, length-append symbols (replicate (padding_len (length bytes)) standard.padding.value), length-encode_symbols standard.encode_table bytes, length-replicate (padding_len (length bytes)) standard.padding.value)

encoded_length : (bytes : List ℕ) → 3 * length (encode_of standard bytes) ≤ 4 * length bytes + 8
encoded_length bytes = omega (arith, encoded_is bytes)

-- ---- values

value_weighs : (v : MapValue) → value_bytes v ≤ 4 * value_weight v
value_weighs (values.Text t) = omega arith
value_weighs (values.Whole n) = omega arith
value_weighs (values.Bool b) = omega arith
value_weighs (values.Bytes []) = omega (arith, encoded_is [])
value_weighs (values.Bytes (b ∷ bytes)) = omega (arith, encoded_length (b ∷ bytes))
value_weighs (values.Ref id) = omega arith

-- a text behind another one is not empty
behind : (k l : List ℕ) → cmp k l ≡ Less → 1 ≤ length l
behind [] [] h = cc
behind (x ∷ k) [] h = cc
behind k (y ∷ l) h = omega arith

entries_behind : (k : List ℕ) (es : List (List ℕ × MapValue)) → IsFirst k es → 6 * sum_by entry_bytes es + 50 * length es ≤ 56 * sum_by entry_weight es
entries_behind k [] h = omega arith
entries_behind k (e ∷ es) h = omega (arith, behind k e.0 h.0, value_weighs e.1, entries_behind k es h.1, sum_by-cons entry_bytes e es, sum_by-cons entry_weight e es)

entries_weigh : (es : List (List ℕ × MapValue)) → Rise es → 6 * sum_by entry_bytes es + 50 * length es ≤ 56 * sum_by entry_weight es + 50
entries_weigh [] h = omega arith
entries_weigh (e ∷ es) h = omega (arith, value_weighs e.1, entries_behind e.0 es h.0, sum_by-cons entry_bytes e es, sum_by-cons entry_weight e es)

-- ---- operations

op_weighs : (op : Op) → IsOp op → 6 * operation_bytes op + 50 * entries_of op + 1000 ≤ 56 * action_weight op
op_weighs (ops.MapCreate id es) h = omega (arith, entries_weigh es h.1.0)
op_weighs (ops.MapSet id key v) h = omega (arith, value_weighs v)
op_weighs (ops.MapRemove id key) h = omega arith
op_weighs (ops.CounterCreate id n) h = omega arith
op_weighs (ops.CounterInc id n) h = omega arith
op_weighs (ops.Delete id) h = omega arith

ops_weigh : (os : List ObjectOp) → All IsSendableOp os → 6 * sum_by op_bytes os + 1000 * length os + 50 * sum_by op_entries os ≤ 56 * sum_by op_weight os
ops_weigh [] h = omega arith
ops_weigh (o ∷ os) h =
    omega (arith, op_weighs o.op (All-head IsSendableOp o os h).0, ops_weigh os (All-tail IsSendableOp o os h), sum_by-cons op_bytes o os, sum_by-cons op_weight o os, sum_by-cons op_entries o os)

-- ---- objects

short_weighs : (v : MapValue) → IsShortValue v → 12 * value_bytes v ≤ 15 * value_weight v + 1056
short_weighs (values.Text t) h = omega arith
short_weighs (values.Whole n) h = omega arith
short_weighs (values.Bool b) h = omega arith
short_weighs (values.Bytes bytes) h = omega (arith, h, encoded_length bytes)
short_weighs (values.Ref id) h = omega arith

held_weighs : (v : Option MapValue) → IfSome v IsShortValue → 12 * held_bytes v ≤ 15 * held_weight v + 1056
held_weighs None h = omega arith
held_weighs (Some v) h = short_weighs v h

cells_weigh : (cs : List (List ℕ × MapCell)) → AllByRecursion IsShortCell cs → 12 * sum_by cell_bytes cs + 800 * length cs ≤ 15 * sum_by cell_weight cs
cells_weigh [] h = omega arith
cells_weigh (c ∷ cs) h = omega (arith, held_weighs c.1.value h.0, cells_weigh cs h.1, sum_by-cons cell_bytes c cs, sum_by-cons cell_weight c cs)

body_weighs : (b : ObjectBody) → AreCellsShort b → 12 * body_bytes b + 800 * cells_of b ≤ 15 * held_in b
body_weighs (bodies.Counter sum) h = omega arith
body_weighs (bodies.Map cs) h = cells_weigh cs h

abbrev id_bytes : ObjectState → ℕ
id_bytes s = length (object_id_text s.id)

state_weighs : (s : ObjectState) → IsPageObject s → 12 * state_bytes s + 2000 + 800 * state_cells s ≤ 15 * state_weight s + 12 * id_bytes s + 880
state_weighs s h = omega (arith, body_weighs s.body h.cells, h.sites)

kind_short : (kind : ObjectKind) → length (kind_text kind) ≤ 7
kind_short kinds.Map = omega arith
kind_short kinds.Counter = omega arith

first_holds : (a b : Bool) → (a && b) ≡ true → a ≡ true
first_holds true b h = refl
first_holds false b h = h

second_holds : (a b : Bool) → (a && b) ≡ true → b ≡ true
second_holds true b h = h
second_holds false b h = cc

hash_short : (hash : List ℕ) → is_hash hash ≡ true → length hash ≤ 64
hash_short hash h =
    at_most (length hash) 64 (second_holds (nat_lt 0 (length hash)) (nat_le (length hash) 64) (first_holds (nat_lt 0 (length hash) && nat_le (length hash) 64) (list_all is_hash_byte hash) h))

id_short : (id : ObjectId) → IsObjectId id → length (object_id_text id) ≤ 100
id_short Root h = omega arith
id_short (Made kind hash millis) h =
    let made = made_parts kind hash millis h in
    omega (arith, kind_short kind, hash_short hash made.form, length-decimal-le 20 millis (omega arith) (omega (arith, made.range)) (omega (arith, made.range)), length-append (kind_text kind) (58 ∷ made_text hash millis), length-append hash (64 ∷ decimal millis))

states_weigh : (ss : List ObjectState) → All IsSendableState ss → AllByRecursion IsPageObject ss
    → 12 * sum_by state_bytes ss + 2000 * length ss + 800 * sum_by state_cells ss ≤ 15 * sum_by state_weight ss + 2080 * length ss
states_weigh [] sendable h = omega arith
states_weigh (s ∷ ss) sendable h =
    omega (arith, id_short s.id (All-head IsSendableState s ss sendable).0, state_weighs s h.0, states_weigh ss (All-tail IsSendableState s ss sendable) h.1, sum_by-cons state_bytes s ss, sum_by-cons state_cells s ss, sum_by-cons state_weight s ss)

-- ---- frames

pub put_out_fits : PutOutFits
put_out_fits frames.Heartbeat sendable own put = omega (arith, own, frame_length frames.Heartbeat sendable)
put_out_fits (frames.Ack serial count) sendable own put = omega (arith, own, frame_length (frames.Ack serial count) sendable)
put_out_fits (frames.Nack serial count code) sendable own put = omega (arith, own, frame_length (frames.Nack serial count code) sendable)
put_out_fits frames.Connect sendable own put = omega (arith, own, frame_length frames.Connect sendable)
put_out_fits (frames.Connected conn key ttl idle size code) sendable own put = omega (arith, own, frame_length (frames.Connected conn key ttl idle size code) sendable)
put_out_fits frames.Disconnect sendable own put = omega (arith, own, frame_length frames.Disconnect sendable)
put_out_fits (frames.Disconnected code) sendable own put = omega (arith, own, frame_length (frames.Disconnected code) sendable)
put_out_fits frames.Close sendable own put = omega (arith, own, frame_length frames.Close sendable)
put_out_fits frames.Closed sendable own put = omega (arith, own, frame_length frames.Closed sendable)
put_out_fits (frames.Error channel code) sendable own put = omega (arith, own, frame_length (frames.Error channel code) sendable)
put_out_fits (frames.Attach channel serial) sendable own put = omega (arith, own, frame_length (frames.Attach channel serial) sendable)
put_out_fits (frames.Attached channel serial flags code) sendable own put = omega (arith, own, frame_length (frames.Attached channel serial flags code) sendable)
put_out_fits (frames.Detach channel) sendable own put = omega (arith, own, frame_length (frames.Detach channel) sendable)
put_out_fits (frames.Detached channel code) sendable own put = omega (arith, own, frame_length (frames.Detached channel code) sendable)
put_out_fits (frames.Presence head items) sendable own (inl put) = omega (arith, own, put.0, put_weighs items put.1, frame_length (frames.Presence head items) sendable)
put_out_fits (frames.Presence head items) sendable own (inr left) = omega (arith, own, left.0, left_weigh items left.1, frame_length (frames.Presence head items) sendable)
put_out_fits (frames.Message head items) sendable own put = omega (arith, own, put, messages_weigh items, frame_length (frames.Message head items) sendable)
put_out_fits (frames.Sync channel at items) sendable own put = omega (arith, own, put.0, members_weigh items put.1, frame_length (frames.Sync channel at items) sendable)
put_out_fits frames.Auth sendable own put = omega (arith, own, frame_length frames.Auth sendable)
put_out_fits (frames.Object head os) sendable own put = omega (arith, own, put, ops_weigh os sendable.2, frame_length (frames.Object head os) sendable)
put_out_fits (frames.ObjectSync channel at ss) sendable own put =
    omega (arith, own, put.0, put.1, states_weigh ss sendable.2 put.2, frame_length (frames.ObjectSync channel at ss) sendable)
