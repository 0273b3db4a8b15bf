-- What is written of a frame is read as that frame again.
use Rattle.std.proofs.Common.{map, All, ◌≡◌, ◌≤◌, ◌<◌, ℕ, true, false, List, length, pos, Option, Some, None, option_map, Ok, refl, ap, ltb, arith}
use Rattle.std.specs.Prelude.{IfSome}
use Rattle.std.specs.Str.{is_utf8}
use Rattle.serde_json.specs.Data.{Data, string, array, object, Members, no_members, put}
use Rattle.serde_json.specs.Read.{read}
use Rattle.rl_ids.specs.declared.serials.ChannelSerial.{ChannelSerial}
use Rattle.rl_ids.specs.Forms.{serial_text, IsSerial}
use Rattle.rl_ids.proofs.SerialTexts.{serial_back}
use Rattle.rl_numbers.specs.declared.limits.TheConstants.{MAX_FRAME_SIZE, MAX_MESSAGE_SERIAL, MAX_CHANNEL_NAME}
use Rattle.rl_types.specs.declared.frames.Cursor.{Cursor}
use Rattle.rl_types.specs.declared.frames.Frame.{Frame}
use Rattle.rl_types.specs.declared.frames.Frame.TheVariants as frames
use Rattle.rl_types.specs.declared.frames.Head.{Head}
use Rattle.rl_types.specs.declared.messages.Given.{Given}
use Rattle.rl_types.specs.declared.messages.Given.TheVariants as given
use Rattle.rl_types.specs.declared.messages.Item.{Item}
use Rattle.rl_types.specs.declared.presence.PresenceItem.{PresenceItem}
use Rattle.rl_jsonfields.specs.declared.names.Field.{Field}
use Rattle.rl_jsonfields.specs.declared.names.Field.TheVariants as fields
use Rattle.rl_jsonfields.specs.Names.{spelled}
use Rattle.rl_jsonfields.specs.Fields.{Reads, ◌>>=◌, whole, present, an_object, any_items, some_items, required, optional}
use Rattle.rl_jsonfields.specs.Texts.{num, with_text}
use Rattle.rl_jsonfields.proofs.Got.{found, required_found, optional_found_one, text_found, required_text_found, required_sized_found, sized_found, required_number_found, number_found, found_rules}
use Rattle.rl_wireitems.specs.Items.{sync_head, message_values, presence_values, sync_values, AreMessages, ArePresence}
use Rattle.rl_wireitems.proofs.Again.{messages_again, presence_again, sync_again, message_values_some, presence_values_some}
use Rattle.serde_json.specs.View.{items_of}
use Rattle.rl_types.specs.declared.objects.ObjectOp.{ObjectOp}
use Rattle.rl_types.specs.declared.objects.ObjectState.{ObjectState}
use Rattle.rl_jsonfields.proofs.Lists.{list_again, list_some}
use Rattle.rl_wireobj.specs.Operations.{op_at, op_json}
use Rattle.rl_wireobj.specs.States.{state_at, state_json}
use Rattle.rl_wireobj.specs.Sendable.{IsSendableOp, IsSendableState}
use Rattle.rl_wireobj.proofs.Again.{op_again, state_again}
use Rattle.rl_wire.specs.declared.details.ConnectionDetails.{ConnectionDetails}
use Rattle.rl_wire.specs.Frames.{max_32, max_64, action_of, channel_serial, given_by, given_of, given_serial, cursor, channel, msg_serial, count, code_in, error_code, head, ack, nack, details, connection_details, connected, disconnected, error, attach, attached, detach, detached, presence, message, sync, operations, objects, by_action, frame_in, frame_at}
use Rattle.rl_wire.specs.Sendable.{IsName, Fits32, Fits64, IsMsgSerial, IsCount, IsGiven, IsCursor, IsHead, IsSendable}
use Rattle.rl_wire.specs.Texts.{action, code_name, error_value, with_error, given_text, cursor_text, head_members, details_value, details_of, frame_members, frame_value}
use Rattle.rl_wire.proofs.Cuts.{cursor_again}

abbrev In : ℕ → ℕ → ℕ → Type 0
In low high n = (low ≤ n) × (n ≤ high)

each_some : {A : Type 0} (P Q : A → Type 0) (o : Option A) → ((x : A) → P x → Q x) → IfSome o P → IfSome o Q
each_some P Q None k h = tt
each_some P Q (Some x) k h = k x h

up_to_32 : (n : ℕ) → Fits32 n → n ≤ max_32
up_to_32 n h = omega (arith, h)

up_to_64 : (n : ℕ) → Fits64 n → n ≤ max_64
up_to_64 n h = omega (arith, h)

-- ---- fields of several actions

channel_again : (ms : Members) (s : List ℕ) → found fields.Channel ms ≡ Some (string s) → IsName s → channel (object ms) ≡ Ok s
unfolding channel
channel_again ms s e h = required_sized_found 1 MAX_CHANNEL_NAME fields.Channel ms s e h.0 h.1

serial_again : (ms : Members) (n : ℕ) → found fields.MsgSerial ms ≡ Some (num n) → IsMsgSerial n → msg_serial (object ms) ≡ Ok n
unfolding msg_serial
serial_again ms n e h = required_number_found 0 MAX_MESSAGE_SERIAL fields.MsgSerial ms n e (omega arith) h

count_again : (ms : Members) (n : ℕ) → found fields.Count ms ≡ Some (num n) → IsCount n → count (object ms) ≡ Ok n
unfolding count
count_again ms n e h = rw (number_found 1 max_32 fields.Count ms (Some n) e (h.0, up_to_32 n h.1)) refl

error_present : (c : ℕ) → present (error_value c) ≡ Some (error_value c)
unfolding error_value
error_present c = refl

error_object : (c : ℕ) → an_object (error_value c) ≡ Some (error_value c)
unfolding error_value
error_object c = refl

code_again : (c : ℕ) → Fits32 c → code_in (Some (error_value c)) ≡ Ok (Some c)
unfolding error_value
code_again c h =
    let ms = put (spelled fields.StatusCode) (num 400) (put (spelled fields.Message) (string (code_name c)) (put (spelled fields.Code) (num c) no_members)) in
    let k : found fields.Code ms ≡ Some (num c) = simp found_rules in
    rw (required_number_found 0 max_32 fields.Code ms c k (omega arith) (up_to_32 c h)) refl

error_again : (ms : Members) (o : Option ℕ) → found fields.Error ms ≡ option_map error_value o → IfSome o Fits32 → error_code (object ms) ≡ Ok o
unfolding error_code optional
error_again ms None e h = rw e refl
error_again ms (Some c) e h = rw (e, error_present c, error_object c) (code_again c h)

-- ---- channel serials and cursors

required_serial_again : (ms : Members) (s : ChannelSerial) → found fields.ChannelSerial ms ≡ Some (string (serial_text s)) → IsSerial s → required channel_serial fields.ChannelSerial (object ms) ≡ Ok s
required_serial_again ms s e h = required_found channel_serial fields.ChannelSerial ms (string (serial_text s)) s e refl (serial_back s h)

-- an option that is written as a text
written_option : {A : Type 0} (shape : Data → Option A) (back : A → List ℕ) (f : Field) (ms : Members) (o : Option A) → found f ms ≡ option_map string (option_map back o) → IfSome o (λ x. shape (string (back x)) ≡ Some x) → optional shape f (object ms) ≡ Ok o
unfolding optional
written_option shape back f ms None e h = rw e refl
written_option shape back f ms (Some x) e h = rw (e, h) refl

optional_serial_again : (ms : Members) (o : Option ChannelSerial) → found fields.ChannelSerial ms ≡ option_map string (option_map serial_text o) → IfSome o IsSerial → optional channel_serial fields.ChannelSerial (object ms) ≡ Ok o
optional_serial_again ms o e h = written_option channel_serial serial_text fields.ChannelSerial ms o e (each_some IsSerial (λ s. channel_serial (string (serial_text s)) ≡ Some s) o (λ s k. serial_back s k) h)

given_again : (g : Given) → IsGiven g → given_of (given_text g) ≡ g
given_again (given.Ours s) h = ap (given_by (serial_text s)) (serial_back s h)
given_again (given.Other t) h = ap (given_by t) h

optional_given_again : (ms : Members) (o : Option Given) → found fields.ChannelSerial ms ≡ option_map string (option_map given_text o) → IfSome o IsGiven → optional given_serial fields.ChannelSerial (object ms) ≡ Ok o
optional_given_again ms o e h = written_option given_serial given_text fields.ChannelSerial ms o e (each_some IsGiven (λ g. given_serial (string (given_text g)) ≡ Some g) o (λ g k. ap Some (given_again g k)) h)

optional_cursor_again : (ms : Members) (o : Option Cursor) → found fields.ChannelSerial ms ≡ option_map string (option_map cursor_text o) → IfSome o IsCursor → optional cursor fields.ChannelSerial (object ms) ≡ Ok o
optional_cursor_again ms o e h = written_option cursor cursor_text fields.ChannelSerial ms o e (each_some IsCursor (λ c. cursor (string (cursor_text c)) ≡ Some c) o (λ c k. cursor_again c k) h)

-- ---- frames without lists

abbrev ack_members : ℕ → ℕ → Members
ack_members s c = put (spelled fields.MsgSerial) (num s) (put (spelled fields.Count) (num c) (action 1))

ack_again : (s c : ℕ) → IsMsgSerial s → IsCount c → ack (object (ack_members s c)) ≡ Ok (frames.Ack s c)
unfolding ack
ack_again s c hs hc =
    let ms = ack_members s c in
    let e1 : found fields.MsgSerial ms ≡ Some (num s) = simp found_rules in
    let e2 : found fields.Count ms ≡ Some (num c) = simp found_rules in
    rw (serial_again ms s e1 hs, count_again ms c e2 hc) refl

abbrev nack_members : ℕ → ℕ → ℕ → Members
nack_members s c e = put (spelled fields.Error) (error_value e) (put (spelled fields.MsgSerial) (num s) (put (spelled fields.Count) (num c) (action 2)))

nack_again : (s c e : ℕ) → IsMsgSerial s → IsCount c → Fits32 e → nack (object (nack_members s c e)) ≡ Ok (frames.Nack s c e)
unfolding nack
nack_again s c e hs hc he =
    let ms = nack_members s c e in
    let e1 : found fields.MsgSerial ms ≡ Some (num s) = simp found_rules in
    let e2 : found fields.Count ms ≡ Some (num c) = simp found_rules in
    let e3 : found fields.Error ms ≡ Some (error_value e) = simp found_rules in
    rw (serial_again ms s e1 hs, count_again ms c e2 hc, error_again ms (Some e) e3 he) refl

details_again : (d : ConnectionDetails) → Fits64 d.ttl → Fits64 d.idle → Fits64 d.size → details (details_value d) ≡ Ok d
unfolding details details_value
details_again d ht hi hs =
    let ms = put (spelled fields.MaxMessageSize) (num d.size) (put (spelled fields.MaxIdleInterval) (num d.idle) (put (spelled fields.ConnectionStateTtl) (num d.ttl) (put (spelled fields.ConnectionKey) (string d.key) no_members))) in
    let e1 : found fields.ConnectionKey ms ≡ Some (string d.key) = simp found_rules in
    let e2 : found fields.ConnectionStateTtl ms ≡ Some (num d.ttl) = simp found_rules in
    let e3 : found fields.MaxIdleInterval ms ≡ Some (num d.idle) = simp found_rules in
    let e4 : found fields.MaxMessageSize ms ≡ Some (num d.size) = simp found_rules in
    rw (required_text_found fields.ConnectionKey ms d.key e1, number_found 0 max_64 fields.ConnectionStateTtl ms (Some d.ttl) e2 (omega arith, up_to_64 d.ttl ht), number_found 0 max_64 fields.MaxIdleInterval ms (Some d.idle) e3 (omega arith, up_to_64 d.idle hi), number_found 0 max_64 fields.MaxMessageSize ms (Some d.size) e4 (omega arith, up_to_64 d.size hs)) refl

details_object : (d : ConnectionDetails) → an_object (details_value d) ≡ Some (details_value d)
unfolding details_value
details_object d = refl

details_present : (d : ConnectionDetails) → present (details_value d) ≡ Some (details_value d)
unfolding details_value
details_present d = refl

abbrev connected_members : List ℕ → List ℕ → ℕ → ℕ → ℕ → Option ℕ → Members
connected_members conn key ttl idle size code =
    with_error code (put (spelled fields.ConnectionDetails) (details_value (details_of key ttl idle size)) (put (spelled fields.ConnectionId) (string conn) (action 4)))

connected_again : (conn key : List ℕ) (ttl idle size : ℕ) (code : Option ℕ) → IsSendable (frames.Connected conn key ttl idle size code) → connected (object (connected_members conn key ttl idle size code)) ≡ Ok (frames.Connected conn key ttl idle size code)
unfolding connected connection_details
connected_again conn key ttl idle size code h =
    let ms = connected_members conn key ttl idle size code in
    let given_details = details_of key ttl idle size in
    let d = details_value given_details in
    let e1 : found fields.ConnectionId ms ≡ Some (string conn) = simp found_rules in
    let e2 : found fields.ConnectionDetails ms ≡ Some d = simp found_rules in
    let e3 : found fields.Error ms ≡ option_map error_value code = simp found_rules in
    rw (required_text_found fields.ConnectionId ms conn e1, required_found an_object fields.ConnectionDetails ms d d e2 (details_present given_details) (details_object given_details), details_again given_details h.0 h.1 h.2, error_again ms code e3 h.3) refl

disconnected_again : (code : Option ℕ) → IfSome code Fits32 → disconnected (object (with_error code (action 6))) ≡ Ok (frames.Disconnected code)
unfolding disconnected
disconnected_again code h =
    let ms = with_error code (action 6) in
    let e : found fields.Error ms ≡ option_map error_value code = simp found_rules in
    rw (error_again ms code e h) refl

abbrev error_members : Option (List ℕ) → ℕ → Members
error_members channel code = put (spelled fields.Error) (error_value code) (with_text fields.Channel channel (action 9))

error_frame_again : (s : Option (List ℕ)) (c : ℕ) → IfSome s IsName → Fits32 c → error (object (error_members s c)) ≡ Ok (frames.Error s c)
unfolding error
error_frame_again s c hs hc =
    let ms = error_members s c in
    let e1 : found fields.Channel ms ≡ option_map string s = simp found_rules in
    let e2 : found fields.Error ms ≡ Some (error_value c) = simp found_rules in
    rw (sized_found 1 MAX_CHANNEL_NAME fields.Channel ms s e1 hs, error_again ms (Some c) e2 hc) refl

abbrev attach_members : List ℕ → Option Given → Members
attach_members s o = with_text fields.ChannelSerial (option_map given_text o) (put (spelled fields.Channel) (string s) (action 10))

attach_again : (s : List ℕ) (o : Option Given) → IsName s → IfSome o IsGiven → attach (object (attach_members s o)) ≡ Ok (frames.Attach s o)
unfolding attach
attach_again s o hs ho =
    let ms = attach_members s o in
    let e1 : found fields.Channel ms ≡ Some (string s) = simp found_rules in
    let e2 : found fields.ChannelSerial ms ≡ option_map string (option_map given_text o) = simp found_rules in
    rw (channel_again ms s e1 hs, optional_given_again ms o e2 ho) refl

abbrev attached_members : List ℕ → ChannelSerial → ℕ → Option ℕ → Members
attached_members s serial flags code = with_error code (put (spelled fields.Flags) (num flags) (put (spelled fields.ChannelSerial) (string (serial_text serial)) (put (spelled fields.Channel) (string s) (action 11))))

attached_again : (s : List ℕ) (serial : ChannelSerial) (flags : ℕ) (code : Option ℕ) → IsSendable (frames.Attached s serial flags code) → attached (object (attached_members s serial flags code)) ≡ Ok (frames.Attached s serial flags code)
unfolding attached
attached_again s serial flags code h =
    let ms = attached_members s serial flags code in
    let e1 : found fields.Channel ms ≡ Some (string s) = simp found_rules in
    let e2 : found fields.ChannelSerial ms ≡ Some (string (serial_text serial)) = simp found_rules in
    let e3 : found fields.Flags ms ≡ Some (num flags) = simp found_rules in
    let e4 : found fields.Error ms ≡ option_map error_value code = simp found_rules in
    rw (channel_again ms s e1 h.0, required_serial_again ms serial e2 h.1, number_found 0 max_64 fields.Flags ms (Some flags) e3 (omega arith, up_to_64 flags h.2), error_again ms code e4 h.3) refl

detach_again : (s : List ℕ) → IsName s → detach (object (put (spelled fields.Channel) (string s) (action 12))) ≡ Ok (frames.Detach s)
unfolding detach
detach_again s h =
    let ms = put (spelled fields.Channel) (string s) (action 12) in
    let e1 : found fields.Channel ms ≡ Some (string s) = simp found_rules in
    rw (channel_again ms s e1 h) refl

abbrev detached_members : List ℕ → Option ℕ → Members
detached_members s code = with_error code (put (spelled fields.Channel) (string s) (action 13))

detached_again : (s : List ℕ) (code : Option ℕ) → IsName s → IfSome code Fits32 → detached (object (detached_members s code)) ≡ Ok (frames.Detached s code)
unfolding detached
detached_again s code hs hc =
    let ms = detached_members s code in
    let e1 : found fields.Channel ms ≡ Some (string s) = simp found_rules in
    let e2 : found fields.Error ms ≡ option_map error_value code = simp found_rules in
    rw (channel_again ms s e1 hs, error_again ms code e2 hc) refl

-- ---- frames with a list

-- the fields of a head are found where other fields than its own were added
pub record HasHead (ms : Members) (h : Head) : Type 0 where
  pub channel : found fields.Channel ms ≡ Some (string h.channel)
  pub msg : found fields.MsgSerial ms ≡ option_map num h.msg
  pub serial : found fields.ChannelSerial ms ≡ option_map string (option_map serial_text h.serial)
  pub conn : found fields.ConnectionId ms ≡ option_map string h.conn
  pub id : found fields.Id ms ≡ option_map string h.id
  pub stamp : found fields.Timestamp ms ≡ option_map num h.stamp

head_again : (ms : Members) (h : Head) → HasHead ms h → IsHead h → head (object ms) ≡ Ok h
unfolding head
head_again ms h has fits =
    let msg = each_some IsMsgSerial (In 0 MAX_MESSAGE_SERIAL) h.msg (λ n k. (omega arith, k)) fits.1 in
    let stamp = each_some Fits64 (In 0 max_64) h.stamp (λ n k. (omega arith, up_to_64 n k)) fits.3 in
    rw (channel_again ms h.channel has.channel fits.0, number_found 0 MAX_MESSAGE_SERIAL fields.MsgSerial ms h.msg has.msg msg, optional_serial_again ms h.serial has.serial fits.2, text_found fields.ConnectionId ms h.conn has.conn, text_found fields.Id ms h.id has.id, number_found 0 max_64 fields.Timestamp ms h.stamp has.stamp stamp) refl

has_messages_head : (n : ℕ) (h : Head) (d : Data) → HasHead (put (spelled fields.Messages) d (head_members n h)) h
unfolding head_members
has_messages_head n h d = record {
  channel = simp found_rules;
  msg = simp found_rules;
  serial = simp found_rules;
  conn = simp found_rules;
  id = simp found_rules;
  stamp = simp found_rules;
}

has_presence_head : (n : ℕ) (h : Head) (d : Data) → HasHead (put (spelled fields.Presence) d (head_members n h)) h
unfolding head_members
has_presence_head n h d = record {
  channel = simp found_rules;
  msg = simp found_rules;
  serial = simp found_rules;
  conn = simp found_rules;
  id = simp found_rules;
  stamp = simp found_rules;
}

presence_frame_again : (h : Head) (is : List PresenceItem) → IsHead h → 0 < length is → ArePresence is → presence (object (put (spelled fields.Presence) (array (presence_values h is)) (head_members 14 h))) ≡ Ok (frames.Presence h is)
unfolding presence
presence_frame_again h is fits full are =
    let ms = put (spelled fields.Presence) (array (presence_values h is)) (head_members 14 h) in
    let e : found fields.Presence ms ≡ Some (array (presence_values h is)) = simp found_rules in
    rw (head_again ms h (has_presence_head 14 h (array (presence_values h is))) fits, required_found some_items fields.Presence ms (array (presence_values h is)) (presence_values h is) e refl (presence_values_some h is full), presence_again h is are) refl

message_frame_again : (h : Head) (is : List Item) → IsHead h → 0 < length is → AreMessages h is → message (object (put (spelled fields.Messages) (array (message_values is)) (head_members 15 h))) ≡ Ok (frames.Message h is)
unfolding message
message_frame_again h is fits full are =
    let ms = put (spelled fields.Messages) (array (message_values is)) (head_members 15 h) in
    let e : found fields.Messages ms ≡ Some (array (message_values is)) = simp found_rules in
    rw (head_again ms h (has_messages_head 15 h (array (message_values is))) fits, required_found some_items fields.Messages ms (array (message_values is)) (message_values is) e refl (message_values_some is full), messages_again h is are) refl

abbrev sync_members : List ℕ → Option Cursor → List PresenceItem → Members
sync_members s at is = put (spelled fields.Presence) (array (sync_values is)) (with_text fields.ChannelSerial (option_map cursor_text at) (put (spelled fields.Channel) (string s) (action 16)))

sync_frame_again : (s : List ℕ) (at : Option Cursor) (is : List PresenceItem) → IsName s → IfSome at IsCursor → ArePresence is → sync (object (sync_members s at is)) ≡ Ok (frames.Sync s at is)
unfolding sync
sync_frame_again s at is hs hc are =
    let ms = sync_members s at is in
    let e1 : found fields.Channel ms ≡ Some (string s) = simp found_rules in
    let e2 : found fields.ChannelSerial ms ≡ option_map string (option_map cursor_text at) = simp found_rules in
    let e3 : found fields.Presence ms ≡ Some (array (sync_values is)) = simp found_rules in
    rw (channel_again ms s e1 hs, optional_cursor_again ms at e2 hc, optional_found_one any_items fields.Presence ms (array (sync_values is)) (sync_values is) e3 refl refl, sync_again (sync_head s) is are) refl

has_state_head : (n : ℕ) (h : Head) (d : Data) → HasHead (put (spelled fields.State) d (head_members n h)) h
unfolding head_members
has_state_head n h d = record {
  channel = simp found_rules;
  msg = simp found_rules;
  serial = simp found_rules;
  conn = simp found_rules;
  id = simp found_rules;
  stamp = simp found_rules;
}

operations_again : (h : Head) (os : List ObjectOp) → IsHead h → 0 < length os → All IsSendableOp os → operations (object (put (spelled fields.State) (array (items_of (map op_json os))) (head_members 19 h))) ≡ Ok (frames.Object h os)
unfolding operations
operations_again h os fits full are =
    let values = items_of (map op_json os) in
    let ms = put (spelled fields.State) (array values) (head_members 19 h) in
    let e : found fields.State ms ≡ Some (array values) = simp found_rules in
    rw (head_again ms h (has_state_head 19 h (array values)) fits, required_found some_items fields.State ms (array values) values e refl (list_some op_json os full), list_again op_at op_json IsSendableOp op_again os are) refl

abbrev objects_members : List ℕ → Option Cursor → List ObjectState → Members
objects_members s at ss = put (spelled fields.State) (array (items_of (map state_json ss))) (with_text fields.ChannelSerial (option_map cursor_text at) (put (spelled fields.Channel) (string s) (action 20)))

objects_again : (s : List ℕ) (at : Option Cursor) (ss : List ObjectState) → IsName s → IfSome at IsCursor → All IsSendableState ss → objects (object (objects_members s at ss)) ≡ Ok (frames.ObjectSync s at ss)
unfolding objects
objects_again s at ss hs hc are =
    let values = items_of (map state_json ss) in
    let ms = objects_members s at ss in
    let e1 : found fields.Channel ms ≡ Some (string s) = simp found_rules in
    let e2 : found fields.ChannelSerial ms ≡ option_map string (option_map cursor_text at) = simp found_rules in
    let e3 : found fields.State ms ≡ Some (array values) = simp found_rules in
    rw (channel_again ms s e1 hs, optional_cursor_again ms at e2 hc, optional_found_one any_items fields.State ms (array values) values e3 refl refl, list_again state_at state_json IsSendableState state_again ss are) refl

-- ---- whole frames

action_again : (ms : Members) (n : ℕ) (r : Reads (Option Frame)) → found fields.Action ms ≡ Some (num n) → by_action (action_of (pos n)) (object ms) ≡ r → frame_in (object ms) ≡ r
unfolding frame_in
action_again ms n r e h = rw (required_found whole fields.Action ms (num n) (pos n) e refl refl) h

presence_action : (n : ℕ) (h : Head) (d : Data) → found fields.Action (put (spelled fields.Presence) d (head_members n h)) ≡ Some (num n)
unfolding head_members
presence_action n h d = simp found_rules

messages_action : (n : ℕ) (h : Head) (d : Data) → found fields.Action (put (spelled fields.Messages) d (head_members n h)) ≡ Some (num n)
unfolding head_members
messages_action n h d = simp found_rules

state_action : (n : ℕ) (h : Head) (d : Data) → found fields.Action (put (spelled fields.State) d (head_members n h)) ≡ Some (num n)
unfolding head_members
state_action n h d = simp found_rules

lifted : (r : Reads Frame) (f : Frame) → r ≡ Ok f → (r >>= λ g. Ok (Some g)) ≡ Ok (Some f)
lifted r f e = rw e refl

pub members_again : (f : Frame) → IsSendable f → frame_in (frame_value f) ≡ Ok (Some f)
unfolding frame_members
members_again frames.Heartbeat h = action_again (action 0) 0 _ (simp found_rules) refl
members_again (frames.Ack s c) h = action_again (ack_members s c) 1 _ (simp found_rules) (lifted _ _ (ack_again s c h.0 h.1))
members_again (frames.Nack s c e) h = action_again (nack_members s c e) 2 _ (simp found_rules) (lifted _ _ (nack_again s c e h.0 h.1 h.2))
members_again frames.Connect h = action_again (action 3) 3 _ (simp found_rules) refl
members_again (frames.Connected conn key ttl idle size code) h = action_again (connected_members conn key ttl idle size code) 4 _ (simp found_rules) (lifted _ _ (connected_again conn key ttl idle size code h))
members_again frames.Disconnect h = action_again (action 5) 5 _ (simp found_rules) refl
members_again (frames.Disconnected code) h = action_again (with_error code (action 6)) 6 _ (simp found_rules) (lifted _ _ (disconnected_again code h))
members_again frames.Close h = action_again (action 7) 7 _ (simp found_rules) refl
members_again frames.Closed h = action_again (action 8) 8 _ (simp found_rules) refl
members_again (frames.Error s c) h = action_again (error_members s c) 9 _ (simp found_rules) (lifted _ _ (error_frame_again s c h.0 h.1))
members_again (frames.Attach s o) h = action_again (attach_members s o) 10 _ (simp found_rules) (lifted _ _ (attach_again s o h.0 h.1))
members_again (frames.Attached s serial flags code) h = action_again (attached_members s serial flags code) 11 _ (simp found_rules) (lifted _ _ (attached_again s serial flags code h))
members_again (frames.Detach s) h = action_again (put (spelled fields.Channel) (string s) (action 12)) 12 _ (simp found_rules) (lifted _ _ (detach_again s h))
members_again (frames.Detached s code) h = action_again (detached_members s code) 13 _ (simp found_rules) (lifted _ _ (detached_again s code h.0 h.1))
members_again (frames.Presence h is) f = action_again _ 14 _ (presence_action 14 h (array (presence_values h is))) (lifted _ _ (presence_frame_again h is f.0 f.1 f.2))
members_again (frames.Message h is) f = action_again _ 15 _ (messages_action 15 h (array (message_values is))) (lifted _ _ (message_frame_again h is f.0 f.1 f.2))
members_again (frames.Sync s at is) h = action_again (sync_members s at is) 16 _ (simp found_rules) (lifted _ _ (sync_frame_again s at is h.0 h.1 h.2))
members_again frames.Auth h = action_again (action 17) 17 _ (simp found_rules) refl
members_again (frames.Object h os) f = action_again _ 19 _ (state_action 19 h (array (items_of (map op_json os)))) (lifted _ _ (operations_again h os f.0 f.1 f.2))
members_again (frames.ObjectSync s at ss) h = action_again (objects_members s at ss) 20 _ (simp found_rules) (lifted _ _ (objects_again s at ss h.0 h.1 h.2))

pub bytes_again : (bs : List ℕ) (f : Frame) → ltb MAX_FRAME_SIZE (length bs) ≡ false → is_utf8 bs ≡ true → read bs ≡ Some (frame_value f) → IsSendable f → frame_at bs ≡ Ok (Some f)
unfolding frame_at
bytes_again bs f short u e h = rw (short, u, e) (members_again f h)
