-- What holds of each frame that is read.
use Rattle.std.proofs.Common.{◌≡◌, ◌≤◌, ℕ, List, length, Option, Some, None, option_map, Ok, refl, subst, ltb, arith}
use Rattle.std.specs.Prelude.{IfSome, option_and_then, not, unwrap_or}
use Rattle.std.specs.Str.{is_utf8}
use Rattle.serde_json.specs.Data.{Data, Items, no_items, item}
use Rattle.serde_json.specs.Find.{as_str, as_array}
use Rattle.serde_json.specs.Read.{read}
use Rattle.rl_ids.specs.declared.serials.ChannelSerial.{ChannelSerial}
use Rattle.rl_ids.specs.Forms.{serial_of, IsSerial}
use Rattle.rl_ids.proofs.SerialTexts.{serial_only}
use Rattle.rl_numbers.specs.declared.limits.TheConstants.{MAX_FRAME_SIZE, MAX_MESSAGE_SERIAL, MAX_CHANNEL_NAME, CONNECTION_STATE_TTL, MAX_IDLE_INTERVAL, MAX_MESSAGE_SIZE}
use Rattle.rl_types.specs.declared.frames.WireFault.TheVariants.{TooLong, NotText}
use Rattle.rl_types.specs.declared.frames.Cursor.{Cursor}
use Rattle.rl_types.specs.declared.frames.Frame.{Frame}
use Rattle.rl_types.specs.declared.frames.Frame.TheVariants as frames
use Rattle.rl_types.specs.declared.frames.Head.{Head}
use Rattle.rl_types.specs.declared.messages.Given.{Given}
use Rattle.rl_jsonfields.specs.declared.names.Field.{Field}
use Rattle.rl_jsonfields.specs.declared.names.Field.TheVariants as fields
use Rattle.rl_jsonfields.specs.Fields.{Reads, ◌>>=◌, whole, whole_in, text, text_in, an_object, any_items, not_empty, some_items, required, optional, each}
use Rattle.rl_jsonfields.proofs.Shapes.{bind_ok, done, ok_is, guard_ok, some_is, required_ok, optional_ok, required_number, optional_number, required_text, optional_text}
use Rattle.rl_wireitems.specs.Items.{message_items, presence_items, sync_head}
use Rattle.rl_wireitems.proofs.Fits.{messages_fit, presence_fits, message_full, presence_full}
use Rattle.rl_jsonfields.specs.Order.{Ordered}
use Rattle.rl_jsonfields.proofs.Lists.{list_read, list_full}
use Rattle.rl_jsonfields.proofs.Ordered.{ordered_read, ordered_an_object, ordered_items_at, ordered_list_at}
use Rattle.rl_wireobj.specs.Operations.{op_at}
use Rattle.rl_wireobj.specs.States.{state_at}
use Rattle.rl_wireobj.specs.Sendable.{IsSendableOp, IsSendableState}
use Rattle.rl_wireobj.proofs.Fits.{op_fits, state_fits}
use Rattle.rl_wire.specs.declared.details.ConnectionDetails.{ConnectionDetails}
use Rattle.rl_wire.specs.declared.actions.Action.{Action}
use Rattle.rl_wire.specs.declared.actions.Action.TheVariants as actions
use Rattle.rl_wire.specs.Frames.{max_32, max_64, action_of, channel_serial, given_by, given_of, given_serial, cursor_of, cursor, channel, msg_serial, count, code_in, error_code, head, ack, nack, details, connection_details, connected, disconnected, error, attach, attached, detach, detached, presence, message, sync, operations, objects, by_action, frame_in, value_frame, json_frame, frame_at}
use Rattle.rl_wire.specs.Sendable.{IsName, Fits32, Fits64, IsMsgSerial, IsCount, IsGiven, IsCursor, IsHead, IsSendable}
use Rattle.rl_wire.proofs.Cuts.{cursor_fits}

-- ---- numbers

below_32 : (n : ℕ) → n ≤ max_32 → Fits32 n
below_32 n h = omega (arith, h)

below_64 : (n : ℕ) → n ≤ max_64 → Fits64 n
below_64 n h = omega (arith, h)

abbrev In : ℕ → ℕ → ℕ → Type 0
In low high n = (low ≤ n) × (n ≤ high)

each_some : {A : Type 0} (P Q : A → Type 0) (o : Option A) → ((x : A) → P x → Q x) → IfSome o P → IfSome o Q
each_some P Q None k h = tt
each_some P Q (Some x) k h = k x h

default_64 : (o : Option ℕ) (n : ℕ) → Fits64 n → IfSome o (In 0 max_64) → Fits64 (unwrap_or o n)
default_64 None n k h = k
default_64 (Some m) n k h = below_64 m h.1

-- ---- fields of several actions

channel_fits : (d : Data) (s : List ℕ) → channel d ≡ Ok s → IsName s
unfolding channel
channel_fits d s e = required_text 1 MAX_CHANNEL_NAME fields.Channel d s e

serial_fits : (d : Data) (n : ℕ) → msg_serial d ≡ Ok n → IsMsgSerial n
unfolding msg_serial
serial_fits d n e = let r = required_number 0 MAX_MESSAGE_SERIAL fields.MsgSerial d n e in r.1

count_at : (o : Option ℕ) → IfSome o (In 1 max_32) → IsCount (unwrap_or o 1)
count_at None h = (omega arith, omega arith)
count_at (Some n) h = (h.0, below_32 n h.1)

count_fits : (d : Data) (n : ℕ) → count d ≡ Ok n → IsCount n
unfolding count
count_fits d n e =
    let a = bind_ok (optional (whole_in 1 max_32) fields.Count d) (λ o. Ok (unwrap_or o 1)) n e in
    subst IsCount (ok_is (unwrap_or a.0 1) n a.2) (count_at a.0 (optional_number 1 max_32 fields.Count d a.0 a.1))

code_at : (e : Option Data) (o : Option ℕ) → code_in e ≡ Ok o → IfSome o Fits32
code_at None o e = subst (λ o. IfSome o Fits32) (ok_is None o e) tt
code_at (Some d) o e =
    let a = bind_ok (required (whole_in 0 max_32) fields.Code d) (λ c. Ok (Some c)) o e in
    let r = required_number 0 max_32 fields.Code d a.0 a.1 in
    subst (λ o. IfSome o Fits32) (ok_is (Some a.0) o a.2) (below_32 a.0 r.1)

code_fits : (d : Data) (o : Option ℕ) → error_code d ≡ Ok o → IfSome o Fits32
unfolding error_code
code_fits d o e = let a = bind_ok (optional an_object fields.Error d) code_in o e in code_at a.0 o a.2

code_or : (o : Option ℕ) → IfSome o Fits32 → Fits32 (unwrap_or o 0)
code_or None h = omega arith
code_or (Some n) h = h

-- ---- channel serials and cursors

text_serial : (o : Option (List ℕ)) (s : ChannelSerial) → option_and_then serial_of o ≡ Some s → IsSerial s
text_serial None s e = absurd cc
text_serial (Some t) s e = (serial_only t s e).1

required_serial : (f : Field) (d : Data) (s : ChannelSerial) → required channel_serial f d ≡ Ok s → IsSerial s
required_serial f d s e = let a = required_ok channel_serial f d s e in text_serial (as_str a.0) s a.1

optional_serial : (f : Field) (d : Data) (o : Option ChannelSerial) → optional channel_serial f d ≡ Ok o → IfSome o IsSerial
optional_serial f d o e = each_some (λ s. (v : Data) × (channel_serial v ≡ Some s)) IsSerial o (λ s a. text_serial (as_str a.0) s a.1) (optional_ok channel_serial f d o e)

given_at : (t : List ℕ) (o : Option ChannelSerial) → serial_of t ≡ o → IsGiven (given_by t o)
given_at t None e = e
given_at t (Some s) e = (serial_only t s e).1

text_given : (o : Option (List ℕ)) (g : Given) → option_map given_of o ≡ Some g → IsGiven g
text_given None g e = absurd cc
text_given (Some t) g e = subst IsGiven (some_is (given_of t) g e) (given_at t (serial_of t) refl)

optional_given : (f : Field) (d : Data) (o : Option Given) → optional given_serial f d ≡ Ok o → IfSome o IsGiven
optional_given f d o e = each_some (λ g. (v : Data) × (given_serial v ≡ Some g)) IsGiven o (λ g a. text_given (as_str a.0) g a.1) (optional_ok given_serial f d o e)

text_cursor : (o : Option (List ℕ)) (c : Cursor) → option_and_then cursor_of o ≡ Some c → IsCursor c
text_cursor None c e = absurd cc
text_cursor (Some t) c e = cursor_fits t c e

optional_cursor : (f : Field) (d : Data) (o : Option Cursor) → optional cursor f d ≡ Ok o → IfSome o IsCursor
optional_cursor f d o e = each_some (λ c. (v : Data) × (cursor v ≡ Some c)) IsCursor o (λ c a. text_cursor (as_str a.0) c a.1) (optional_ok cursor f d o e)

-- ---- heads and lists

head_fits : (d : Data) (h : Head) → head d ≡ Ok h → IsHead h
unfolding head
head_fits d h e =
    let a = bind_ok (channel d) _ h e in
    let b = bind_ok (optional (whole_in 0 MAX_MESSAGE_SERIAL) fields.MsgSerial d) _ h a.2 in
    let c = bind_ok (optional channel_serial fields.ChannelSerial d) _ h b.2 in
    let i = bind_ok (optional text fields.ConnectionId d) _ h c.2 in
    let j = bind_ok (optional text fields.Id d) _ h i.2 in
    let k = bind_ok (optional (whole_in 0 max_64) fields.Timestamp d) _ h j.2 in
    let msg = each_some (In 0 MAX_MESSAGE_SERIAL) IsMsgSerial b.0 (λ n r. r.1) (optional_number 0 MAX_MESSAGE_SERIAL fields.MsgSerial d b.0 b.1) in
    let stamp = each_some (In 0 max_64) Fits64 k.0 (λ n r. below_64 n r.1) (optional_number 0 max_64 fields.Timestamp d k.0 k.1) in
    subst IsHead (ok_is (record { channel = a.0; msg = b.0; serial = c.0; conn = i.0; id = j.0; stamp = k.0 }) h k.2) (channel_fits d a.0 a.1, msg, optional_serial fields.ChannelSerial d c.0 c.1, stamp)

abbrev IsFull : Items → Type 0
IsFull ds = not_empty ds ≡ Some ds

full_at : (ds es : Items) → not_empty ds ≡ Some es → IsFull es
full_at no_items es e = absurd cc
full_at (item d ds) es e = subst IsFull (some_is (item d ds) es e) refl

full_in : (o : Option Items) (es : Items) → option_and_then not_empty o ≡ Some es → IsFull es
full_in None es e = absurd cc
full_in (Some ds) es e = full_at ds es e

full : (f : Field) (d : Data) (es : Items) → required some_items f d ≡ Ok es → IsFull es
full f d es e = let a = required_ok some_items f d es e in full_in (as_array a.0) es a.1

-- ---- frames

ack_fits : (d : Data) (f : Frame) → ack d ≡ Ok f → IsSendable f
unfolding ack
ack_fits d f e =
    let a = bind_ok (msg_serial d) _ f e in
    let b = bind_ok (count d) _ f a.2 in
    subst IsSendable (ok_is (frames.Ack a.0 b.0) f b.2) (serial_fits d a.0 a.1, count_fits d b.0 b.1)

nack_fits : (d : Data) (f : Frame) → nack d ≡ Ok f → IsSendable f
unfolding nack
nack_fits d f e =
    let a = bind_ok (msg_serial d) _ f e in
    let b = bind_ok (count d) _ f a.2 in
    let c = bind_ok (error_code d) _ f b.2 in
    subst IsSendable (ok_is (frames.Nack a.0 b.0 (unwrap_or c.0 0)) f c.2) (serial_fits d a.0 a.1, count_fits d b.0 b.1, code_or c.0 (code_fits d c.0 c.1))

abbrev DetailsFit : ConnectionDetails → Type 0
DetailsFit x = Fits64 x.ttl × Fits64 x.idle × Fits64 x.size

details_fit : (d : Data) (x : ConnectionDetails) → details d ≡ Ok x → DetailsFit x
unfolding details
details_fit d x e =
    let a = bind_ok (required text fields.ConnectionKey d) _ x e in
    let b = bind_ok (optional (whole_in 0 max_64) fields.ConnectionStateTtl d) _ x a.2 in
    let c = bind_ok (optional (whole_in 0 max_64) fields.MaxIdleInterval d) _ x b.2 in
    let i = bind_ok (optional (whole_in 0 max_64) fields.MaxMessageSize d) _ x c.2 in
    let ttl = default_64 b.0 CONNECTION_STATE_TTL (omega arith) (optional_number 0 max_64 fields.ConnectionStateTtl d b.0 b.1) in
    let idle = default_64 c.0 MAX_IDLE_INTERVAL (omega arith) (optional_number 0 max_64 fields.MaxIdleInterval d c.0 c.1) in
    let size = default_64 i.0 MAX_MESSAGE_SIZE (omega arith) (optional_number 0 max_64 fields.MaxMessageSize d i.0 i.1) in
    subst DetailsFit (ok_is (record { key = a.0; ttl = unwrap_or b.0 CONNECTION_STATE_TTL; idle = unwrap_or c.0 MAX_IDLE_INTERVAL; size = unwrap_or i.0 MAX_MESSAGE_SIZE }) x i.2) (ttl, idle, size)

connection_details_fit : (d : Data) (x : ConnectionDetails) → connection_details d ≡ Ok x → DetailsFit x
unfolding connection_details
connection_details_fit d x e = let a = bind_ok (required an_object fields.ConnectionDetails d) details x e in details_fit a.0 x a.2

connected_fits : (d : Data) (f : Frame) → connected d ≡ Ok f → IsSendable f
unfolding connected
connected_fits d f e =
    let a = bind_ok (required text fields.ConnectionId d) _ f e in
    let b = bind_ok (connection_details d) _ f a.2 in
    let c = bind_ok (error_code d) _ f b.2 in
    let x = b.0 in
    let h = connection_details_fit d x b.1 in
    subst IsSendable (ok_is (frames.Connected a.0 x.key x.ttl x.idle x.size c.0) f c.2) (h.0, h.1, h.2, code_fits d c.0 c.1)

disconnected_fits : (d : Data) (f : Frame) → disconnected d ≡ Ok f → IsSendable f
unfolding disconnected
disconnected_fits d f e =
    let a = bind_ok (error_code d) _ f e in
    subst IsSendable (ok_is (frames.Disconnected a.0) f a.2) (code_fits d a.0 a.1)

error_fits : (d : Data) (f : Frame) → error d ≡ Ok f → IsSendable f
unfolding error
error_fits d f e =
    let a = bind_ok (optional (text_in 1 MAX_CHANNEL_NAME) fields.Channel d) _ f e in
    let b = bind_ok (error_code d) _ f a.2 in
    subst IsSendable (ok_is (frames.Error a.0 (unwrap_or b.0 0)) f b.2) (optional_text 1 MAX_CHANNEL_NAME fields.Channel d a.0 a.1, code_or b.0 (code_fits d b.0 b.1))

attach_fits : (d : Data) (f : Frame) → attach d ≡ Ok f → IsSendable f
unfolding attach
attach_fits d f e =
    let a = bind_ok (channel d) _ f e in
    let b = bind_ok (optional given_serial fields.ChannelSerial d) _ f a.2 in
    subst IsSendable (ok_is (frames.Attach a.0 b.0) f b.2) (channel_fits d a.0 a.1, optional_given fields.ChannelSerial d b.0 b.1)

attached_fits : (d : Data) (f : Frame) → attached d ≡ Ok f → IsSendable f
unfolding attached
attached_fits d f e =
    let a = bind_ok (channel d) _ f e in
    let b = bind_ok (required channel_serial fields.ChannelSerial d) _ f a.2 in
    let c = bind_ok (optional (whole_in 0 max_64) fields.Flags d) _ f b.2 in
    let i = bind_ok (error_code d) _ f c.2 in
    let flags = default_64 c.0 0 (omega arith) (optional_number 0 max_64 fields.Flags d c.0 c.1) in
    subst IsSendable (ok_is (frames.Attached a.0 b.0 (unwrap_or c.0 0) i.0) f i.2) (channel_fits d a.0 a.1, required_serial fields.ChannelSerial d b.0 b.1, flags, code_fits d i.0 i.1)

detach_fits : (d : Data) (f : Frame) → detach d ≡ Ok f → IsSendable f
unfolding detach
detach_fits d f e =
    let a = bind_ok (channel d) _ f e in
    subst IsSendable (ok_is (frames.Detach a.0) f a.2) (channel_fits d a.0 a.1)

detached_fits : (d : Data) (f : Frame) → detached d ≡ Ok f → IsSendable f
unfolding detached
detached_fits d f e =
    let a = bind_ok (channel d) _ f e in
    let b = bind_ok (error_code d) _ f a.2 in
    subst IsSendable (ok_is (frames.Detached a.0 b.0) f b.2) (channel_fits d a.0 a.1, code_fits d b.0 b.1)

presence_frame_fits : (d : Data) (f : Frame) → presence d ≡ Ok f → IsSendable f
unfolding presence
presence_frame_fits d f e =
    let a = bind_ok (head d) _ f e in
    let b = bind_ok (required some_items fields.Presence d) _ f a.2 in
    let c = bind_ok (presence_items a.0 b.0) _ f b.2 in
    let fits = head_fits d a.0 a.1 in
    subst IsSendable (ok_is (frames.Presence a.0 c.0) f c.2) (fits, presence_full a.0 b.0 c.0 (full fields.Presence d b.0 b.1) c.1, presence_fits a.0 b.0 c.0 fits.3 c.1)

message_fits : (d : Data) (f : Frame) → message d ≡ Ok f → IsSendable f
unfolding message
message_fits d f e =
    let a = bind_ok (head d) _ f e in
    let b = bind_ok (required some_items fields.Messages d) _ f a.2 in
    let c = bind_ok (message_items a.0 b.0) _ f b.2 in
    subst IsSendable (ok_is (frames.Message a.0 c.0) f c.2) (head_fits d a.0 a.1, message_full a.0 b.0 c.0 (full fields.Messages d b.0 b.1) c.1, messages_fit a.0 b.0 c.0 c.1)

sync_fits : (d : Data) (f : Frame) → sync d ≡ Ok f → IsSendable f
unfolding sync
sync_fits d f e =
    let a = bind_ok (channel d) _ f e in
    let b = bind_ok (optional cursor fields.ChannelSerial d) _ f a.2 in
    let c = bind_ok (optional any_items fields.Presence d) _ f b.2 in
    let i = bind_ok (presence_items (sync_head a.0) (unwrap_or c.0 no_items)) _ f c.2 in
    subst IsSendable (ok_is (frames.Sync a.0 b.0 i.0) f i.2) (channel_fits d a.0 a.1, optional_cursor fields.ChannelSerial d b.0 b.1, presence_fits (sync_head a.0) (unwrap_or c.0 no_items) i.0 tt i.1)

operations_fit : (d : Data) (f : Frame) → Ordered d → operations d ≡ Ok f → IsSendable f
unfolding operations
operations_fit d f ordered e =
    let a = bind_ok (head d) _ f e in
    let b = bind_ok (required some_items fields.State d) _ f a.2 in
    let c = bind_ok (each op_at b.0) _ f b.2 in
    subst IsSendable (ok_is (frames.Object a.0 c.0) f c.2)
    (head_fits d a.0 a.1, list_full op_at b.0 c.0 (full fields.State d b.0 b.1) c.1, list_read op_at IsSendableOp op_fits b.0 c.0 c.1 (ordered_items_at fields.State d b.0 ordered b.1))

objects_fit : (d : Data) (f : Frame) → Ordered d → objects d ≡ Ok f → IsSendable f
unfolding objects
objects_fit d f ordered e =
    let a = bind_ok (channel d) _ f e in
    let b = bind_ok (optional cursor fields.ChannelSerial d) _ f a.2 in
    let c = bind_ok (optional any_items fields.State d) _ f b.2 in
    let i = bind_ok (each state_at (unwrap_or c.0 no_items)) _ f c.2 in
    subst IsSendable (ok_is (frames.ObjectSync a.0 b.0 i.0) f i.2)
    (channel_fits d a.0 a.1, optional_cursor fields.ChannelSerial d b.0 b.1, list_read state_at IsSendableState state_fits (unwrap_or c.0 no_items) i.0 i.1 (ordered_list_at fields.State d c.0 ordered c.1))

-- a frame that one action's reader gives
given : (r : Reads Frame) (f : Frame) → ((g : Frame) → r ≡ Ok g → IsSendable g) → (r >>= λ g. Ok (Some g)) ≡ Ok (Some f) → IsSendable f
given r f h e =
    let a = bind_ok r (λ g. Ok (Some g)) (Some f) e in
    let k : a.0 ≡ f = some_is a.0 f (ok_is (Some a.0) (Some f) a.2) in
    subst IsSendable k (h a.0 a.1)

-- a frame without fields
plain : (g f : Frame) → IsSendable g → done (Some g) ≡ done (Some f) → IsSendable f
plain g f h e = subst IsSendable (some_is g f (ok_is (Some g) (Some f) e)) h

by_action_fits : (a : Option Action) (d : Data) (f : Frame) → Ordered d → by_action a d ≡ Ok (Some f) → IsSendable f
by_action_fits None d f ordered e = absurd (let bad = ok_is None (Some f) e in cc)
by_action_fits (Some actions.Heartbeat) d f ordered e = plain frames.Heartbeat f tt e
by_action_fits (Some actions.Ack) d f ordered e = given (ack d) f (ack_fits d) e
by_action_fits (Some actions.Nack) d f ordered e = given (nack d) f (nack_fits d) e
by_action_fits (Some actions.Connect) d f ordered e = plain frames.Connect f tt e
by_action_fits (Some actions.Connected) d f ordered e = given (connected d) f (connected_fits d) e
by_action_fits (Some actions.Disconnect) d f ordered e = plain frames.Disconnect f tt e
by_action_fits (Some actions.Disconnected) d f ordered e = given (disconnected d) f (disconnected_fits d) e
by_action_fits (Some actions.Close) d f ordered e = plain frames.Close f tt e
by_action_fits (Some actions.Closed) d f ordered e = plain frames.Closed f tt e
by_action_fits (Some actions.Error) d f ordered e = given (error d) f (error_fits d) e
by_action_fits (Some actions.Attach) d f ordered e = given (attach d) f (attach_fits d) e
by_action_fits (Some actions.Attached) d f ordered e = given (attached d) f (attached_fits d) e
by_action_fits (Some actions.Detach) d f ordered e = given (detach d) f (detach_fits d) e
by_action_fits (Some actions.Detached) d f ordered e = given (detached d) f (detached_fits d) e
by_action_fits (Some actions.Presence) d f ordered e = given (presence d) f (presence_frame_fits d) e
by_action_fits (Some actions.Message) d f ordered e = given (message d) f (message_fits d) e
by_action_fits (Some actions.Sync) d f ordered e = given (sync d) f (sync_fits d) e
by_action_fits (Some actions.Auth) d f ordered e = plain frames.Auth f tt e
by_action_fits (Some actions.Object) d f ordered e = given (operations d) f (λ g. operations_fit d g ordered) e
by_action_fits (Some actions.ObjectSync) d f ordered e = given (objects d) f (λ g. objects_fit d g ordered) e

frame_in_fits : (d : Data) (f : Frame) → Ordered d → frame_in d ≡ Ok (Some f) → IsSendable f
unfolding frame_in
frame_in_fits d f ordered e =
    let a = bind_ok (required whole fields.Action d) (λ n. by_action (action_of n) d) (Some f) e in
    by_action_fits (action_of a.0) d f ordered a.2

value_fits : (o : Option Data) (f : Frame) → ((d : Data) → o ≡ Some d → Ordered d) → value_frame o ≡ Ok (Some f) → IsSendable f
value_fits None f ordered e = absurd cc
value_fits (Some d) f ordered e = frame_in_fits d f (ordered d refl) e

json_fits : (o : Option Data) (f : Frame) → ((d : Data) → o ≡ Some d → Ordered d) → json_frame o ≡ Ok (Some f) → IsSendable f
json_fits None f ordered e = absurd cc
json_fits (Some d) f ordered e = value_fits (an_object d) f (λ o is. ordered_an_object d o (ordered d refl) is) e

pub frame_fits : (bytes : List ℕ) (f : Frame) → frame_at bytes ≡ Ok (Some f) → IsSendable f
unfolding frame_at
frame_fits bytes f e =
    let a = guard_ok (ltb MAX_FRAME_SIZE (length bytes)) TooLong _ (Some f) e in
    let b = guard_ok (not (is_utf8 bytes)) NotText _ (Some f) a.1 in
    json_fits (read bytes) f (λ d is. ordered_read bytes d is) b.1
