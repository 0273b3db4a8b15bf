-- How long the text of a frame can be.
use Rattle.std.proofs.Common.{◌≡◌, ◌≤◌, ◌+◌, ◌*◌, ◌==◌, ℕ, Bool, true, false, cond, List, [], ◌∷◌, length, map, codes, Option, Some, None, option_map, refl, arith, length-append}
use Rattle.std.specs.Prelude.{⊤, unwrap_or, sum_by}
use Rattle.std.proofs.lemmas.List.Sums.{sum_by-cons}
use Rattle.serde_json.specs.Data.{string, array, Members, no_members, put}
use Rattle.serde_json.specs.View.{items_of}
use Rattle.rl_ids.specs.declared.serials.ChannelSerial.{ChannelSerial}
use Rattle.rl_ids.specs.Forms.{serial_text, epoch_text}
use Rattle.rl_types.specs.declared.frames.Cursor.{Cursor}
use Rattle.rl_types.specs.declared.frames.Frame.{Frame}
use Rattle.rl_types.specs.declared.frames.Frame.TheVariants as frames
use Rattle.rl_types.specs.declared.frames.Head.{Head}
use Rattle.rl_types.specs.declared.messages.Given.{Given}
use Rattle.rl_types.specs.declared.messages.Given.TheVariants as given
use Rattle.rl_types.specs.declared.messages.Item.{Item}
use Rattle.rl_types.specs.declared.presence.PresenceItem.{PresenceItem}
use Rattle.rl_types.specs.Weight.{option_len}
use Rattle.rl_jsonfields.specs.declared.names.Field.{Field}
use Rattle.rl_jsonfields.specs.declared.names.Field.TheVariants as fields
use Rattle.rl_jsonfields.specs.Names.{spelled}
use Rattle.rl_jsonfields.specs.Texts.{num, with_text, with_number, text_unless, number_unless}
use Rattle.rl_jsonfields.proofs.Lengths.{bound, items_bound, members_bound, text_length, text_field_bound, number_field_bound, value_field_bound, some_text_bound, some_number_bound, text_unless_length, value_named_bound}
use Rattle.rl_wireitems.specs.Items.{message_value, message_values, number_of, presence_with, presence_value, presence_values, sync_value, sync_values, values_at, id_at}
use Rattle.rl_wireobj.specs.Operations.{op_json}
use Rattle.rl_wireobj.specs.States.{state_json}
use Rattle.rl_wireobj.proofs.Lengths.{ops_length, states_length}
use Rattle.rl_wire.specs.declared.details.ConnectionDetails.{ConnectionDetails}
use Rattle.rl_wire.specs.Tables.{at_number}
use Rattle.rl_wire.specs.Sendable.{IsSendable}
use Rattle.rl_wire.specs.Sizes.{message_bytes, presence_bytes, given_bytes, cursor_bytes, head_bytes, text_bytes, item_count, object_count, entry_count, cell_count}
use Rattle.rl_wire.specs.Texts.{action, code_names, code_name, error_value, with_error, given_text, cursor_text, head_members, details_value, details_of, frame_members, frame_value, frame_text}
use Rattle.rl_wire.proofs.Plains.{frame_plain}

-- ---- items

-- a text, and a number, at a field with a name of so many characters
named_text : (f : Field) (n : ℕ) (o : Option (List ℕ)) (ms : Members) → length (spelled f) ≡ n → members_bound (with_text f o ms) ≤ 6 * option_len o + n + 6 + members_bound ms
named_text f n None ms e = omega arith
named_text f n (Some s) ms e = omega (arith, e, value_named_bound f (string s) ms)

named_number : (f : Field) (n : ℕ) (o : Option ℕ) (ms : Members) → length (spelled f) ≡ n → members_bound (with_number f o ms) ≤ n + 24 + members_bound ms
named_number f n None ms e = omega arith
named_number f n (Some m) ms e = omega (arith, e, value_named_bound f (num m) ms)

action_is : length (spelled fields.Action) ≡ 6
unfolding spelled
action_is = refl

client_is : length (spelled fields.ClientId) ≡ 8
unfolding spelled
client_is = refl

connection_is : length (spelled fields.ConnectionId) ≡ 12
unfolding spelled
connection_is = refl

data_is : length (spelled fields.Data) ≡ 4
unfolding spelled
data_is = refl

encoding_is : length (spelled fields.Encoding) ≡ 8
unfolding spelled
encoding_is = refl

id_is : length (spelled fields.Id) ≡ 2
unfolding spelled
id_is = refl

name_is : length (spelled fields.Name) ≡ 4
unfolding spelled
name_is = refl

timestamp_is : length (spelled fields.Timestamp) ≡ 9
unfolding spelled
timestamp_is = refl

message_length : (m : Item) → bound (message_value m) ≤ 6 * message_bytes m + 140
unfolding message_value
message_length m =
    let a = with_text fields.Id m.id no_members in
    let b = with_text fields.Name m.name a in
    let c = with_text fields.Data m.payload b in
    let d = with_text fields.Encoding m.encoding c in
    omega (arith, named_text fields.ClientId 8 m.client d client_is, named_text fields.Encoding 8 m.encoding c encoding_is, named_text fields.Data 4 m.payload b data_is, named_text fields.Name 4 m.name a name_is, named_text fields.Id 2 m.id no_members id_is)

messages_length : (ms : List Item) → items_bound (items_of (map message_value ms)) ≤ 6 * sum_by message_bytes ms + 150 * length ms + 1
messages_length [] = omega arith
messages_length (m ∷ ms) = omega (arith, message_length m, messages_length ms, sum_by-cons message_bytes m ms)

message_values_length : (ms : List Item) → items_bound (message_values ms) ≤ 6 * sum_by message_bytes ms + 150 * length ms + 1
unfolding message_values
message_values_length ms = messages_length ms

member_length : (p : PresenceItem) (client conn id : Option (List ℕ)) (stamp : Option ℕ)
    → bound (presence_with p client conn id stamp) ≤ 6 * (option_len client + option_len conn + option_len id + option_len p.payload + option_len p.encoding) + 140
member_length p client conn id stamp =
    let a = put (spelled fields.Action) (num (number_of p.action)) no_members in
    let b = with_text fields.ClientId client a in
    let c = with_text fields.ConnectionId conn b in
    let d = with_text fields.Id id c in
    let e = with_number fields.Timestamp stamp d in
    let f = with_text fields.Data p.payload e in
    omega (arith, named_text fields.Encoding 8 p.encoding f encoding_is, named_text fields.Data 4 p.payload e data_is, named_number fields.Timestamp 9 stamp d timestamp_is, named_text fields.Id 2 id c id_is, named_text fields.ConnectionId 12 conn b connection_is, named_text fields.ClientId 8 client a client_is, value_named_bound fields.Action (num (number_of p.action)) no_members, action_is)

presence_length : (h : Head) (i : ℕ) (p : PresenceItem) → bound (presence_value h i p) ≤ 6 * presence_bytes p + 140
unfolding presence_value
presence_length h i p =
    let client = text_unless [] p.client in
    let conn = text_unless (unwrap_or h.conn []) p.conn in
    let id = text_unless (unwrap_or (id_at h i) []) p.id in
    omega (arith, member_length p client conn id (number_unless (unwrap_or h.stamp 0) p.stamp), text_unless_length [] p.client, text_unless_length (unwrap_or h.conn []) p.conn, text_unless_length (unwrap_or (id_at h i) []) p.id)

presence_length_at : (h : Head) (i : ℕ) (ps : List PresenceItem) → items_bound (items_of (values_at (presence_value h) i ps)) ≤ 6 * sum_by presence_bytes ps + 150 * length ps + 1
presence_length_at h i [] = omega arith
presence_length_at h i (p ∷ ps) = omega (arith, presence_length h i p, presence_length_at h (i + 1) ps, sum_by-cons presence_bytes p ps)

presence_values_length : (h : Head) (ps : List PresenceItem) → items_bound (presence_values h ps) ≤ 6 * sum_by presence_bytes ps + 150 * length ps + 1
unfolding presence_values
presence_values_length h ps = presence_length_at h 0 ps

sync_length : (p : PresenceItem) → bound (sync_value p) ≤ 6 * presence_bytes p + 140
unfolding sync_value
sync_length p = member_length p (Some p.client) (Some p.conn) (Some p.id) (Some p.stamp)

syncs_length : (ps : List PresenceItem) → items_bound (items_of (map sync_value ps)) ≤ 6 * sum_by presence_bytes ps + 150 * length ps + 1
syncs_length [] = omega arith
syncs_length (p ∷ ps) = omega (arith, sync_length p, syncs_length ps, sum_by-cons presence_bytes p ps)

sync_values_length : (ps : List PresenceItem) → items_bound (sync_values ps) ≤ 6 * sum_by presence_bytes ps + 150 * length ps + 1
unfolding sync_values
sync_values_length ps = syncs_length ps

-- ---- errors and serials

abbrev AllShort : ℕ → List (ℕ × List ℕ) → Type 0
AllShort n [] = ⊤
AllShort n (row ∷ rows) = (length row.1 ≤ n) × AllShort n rows

chosen : (b : Bool) (s : List ℕ) (o : Option (List ℕ)) (n : ℕ) → length s ≤ n → option_len o ≤ n → option_len (cond b (Some s) o) ≤ n
chosen true s o n h k = h
chosen false s o n h k = k

or_unknown : (o : Option (List ℕ)) → option_len o ≤ 15 → length (unwrap_or o (codes "Unknown")) ≤ 15
or_unknown None h = omega arith
or_unknown (Some s) h = h

-- the longest name in a table
rows_length : (n c : ℕ) (rows : List (ℕ × List ℕ)) → AllShort n rows → option_len (at_number c rows) ≤ n
rows_length n c [] h = omega arith
rows_length n c (row ∷ rows) h = chosen (c == row.0) row.1 (at_number c rows) n h.0 (rows_length n c rows h.1)

name_length : (c : ℕ) → length (code_name c) ≤ 15
unfolding code_name
name_length c = or_unknown (at_number c code_names) (rows_length 15 c code_names (omega arith, (omega arith, (omega arith, (omega arith, (omega arith, (omega arith, (omega arith, (omega arith, (omega arith, (omega arith, (omega arith, (omega arith, (omega arith, (omega arith, (omega arith, (omega arith, (omega arith, (omega arith, (omega arith, (omega arith, (omega arith, (omega arith, (omega arith, tt))))))))))))))))))))))))

error_length : (c : ℕ) → bound (error_value c) ≤ 520
unfolding error_value
error_length c =
    let a = put (spelled fields.Code) (num c) no_members in
    let b = put (spelled fields.Message) (string (code_name c)) a in
    omega (arith, name_length c, number_field_bound fields.StatusCode 400 b, text_field_bound fields.Message (code_name c) a, number_field_bound fields.Code c no_members)

error_field_length : (c : ℕ) (ms : Members) → members_bound (put (spelled fields.Error) (error_value c) ms) ≤ 640 + members_bound ms
error_field_length c ms = omega (arith, error_length c, value_field_bound fields.Error (error_value c) ms)

with_error_length : (o : Option ℕ) (ms : Members) → members_bound (with_error o ms) ≤ 640 + members_bound ms
with_error_length None ms = omega arith
with_error_length (Some c) ms = error_field_length c ms

serial_length : (s : ChannelSerial) → length (serial_text s) ≡ 53
unfolding serial_text epoch_text
serial_length s = refl

given_length : (o : Option Given) → option_len (option_map given_text o) ≤ given_bytes o + 53
given_length None = omega arith
given_length (Some (given.Ours s)) = omega (arith, serial_length s)
given_length (Some (given.Other t)) = omega arith

some_serial_length : (o : Option ChannelSerial) → option_len (option_map serial_text o) ≤ 53
some_serial_length None = omega arith
some_serial_length (Some s) = omega (arith, serial_length s)

cursor_length : (o : Option Cursor) → option_len (option_map cursor_text o) ≤ cursor_bytes o + 1
cursor_length None = omega arith
cursor_length (Some c) = omega (arith, length-append c.sequence (58 ∷ c.cursor))

-- ---- frames

action_length : (n : ℕ) → members_bound (action n) ≤ 141
action_length n = number_field_bound fields.Action n no_members

channel_length : (s : List ℕ) (n : ℕ) → members_bound (put (spelled fields.Channel) (string s) (action n)) ≤ 6 * length s + 261
channel_length s n = omega (arith, text_field_bound fields.Channel s (action n), action_length n)

head_length : (n : ℕ) (h : Head) → members_bound (head_members n h) ≤ 6 * head_bytes h + 1300
unfolding head_members
head_length n h =
    let a = put (spelled fields.Channel) (string h.channel) (action n) in
    let b = with_number fields.MsgSerial h.msg a in
    let c = with_text fields.ChannelSerial (option_map serial_text h.serial) b in
    let d = with_text fields.ConnectionId h.conn c in
    let e = with_text fields.Id h.id d in
    omega (arith, some_number_bound fields.Timestamp h.stamp e, some_text_bound fields.Id h.id d, some_text_bound fields.ConnectionId h.conn c, some_text_bound fields.ChannelSerial (option_map serial_text h.serial) b, some_serial_length h.serial, some_number_bound fields.MsgSerial h.msg a, channel_length h.channel n)

details_length : (d : ConnectionDetails) → bound (details_value d) ≤ 6 * length d.key + 560
unfolding details_value
details_length d =
    let a = put (spelled fields.ConnectionKey) (string d.key) no_members in
    let b = put (spelled fields.ConnectionStateTtl) (num d.ttl) a in
    let c = put (spelled fields.MaxIdleInterval) (num d.idle) b in
    omega (arith, number_field_bound fields.MaxMessageSize d.size c, number_field_bound fields.MaxIdleInterval d.idle b, number_field_bound fields.ConnectionStateTtl d.ttl a, text_field_bound fields.ConnectionKey d.key no_members)

abbrev Short : Frame → Type 0
Short f = members_bound (frame_members f) ≤ 6 * text_bytes f + 150 * item_count f + 1000 * object_count f + 50 * entry_count f + 400 * cell_count f + 1900

members_length : (f : Frame) → IsSendable f → Short f
unfolding frame_members
members_length frames.Heartbeat sendable = omega (arith, action_length 0)
members_length (frames.Ack s c) sendable = omega (arith, number_field_bound fields.MsgSerial s (put (spelled fields.Count) (num c) (action 1)), number_field_bound fields.Count c (action 1), action_length 1)
members_length (frames.Nack s c e) sendable =
    let a = put (spelled fields.Count) (num c) (action 2) in
    omega (arith, error_field_length e (put (spelled fields.MsgSerial) (num s) a), number_field_bound fields.MsgSerial s a, number_field_bound fields.Count c (action 2), action_length 2)
members_length frames.Connect sendable = omega (arith, action_length 3)
members_length (frames.Connected conn key ttl idle size code) sendable =
    let a = put (spelled fields.ConnectionId) (string conn) (action 4) in
    let given_details = details_of key ttl idle size in
    let d = details_value given_details in
    omega (arith, with_error_length code (put (spelled fields.ConnectionDetails) d a), value_field_bound fields.ConnectionDetails d a, details_length given_details, text_field_bound fields.ConnectionId conn (action 4), action_length 4)
members_length frames.Disconnect sendable = omega (arith, action_length 5)
members_length (frames.Disconnected code) sendable = omega (arith, with_error_length code (action 6), action_length 6)
members_length frames.Close sendable = omega (arith, action_length 7)
members_length frames.Closed sendable = omega (arith, action_length 8)
members_length (frames.Error channel code) sendable = omega (arith, error_field_length code (with_text fields.Channel channel (action 9)), some_text_bound fields.Channel channel (action 9), action_length 9)
members_length (frames.Attach channel serial) sendable =
    omega (arith, some_text_bound fields.ChannelSerial (option_map given_text serial) (put (spelled fields.Channel) (string channel) (action 10)), given_length serial, channel_length channel 10)
members_length (frames.Attached channel serial flags code) sendable =
    let a = put (spelled fields.Channel) (string channel) (action 11) in
    let b = put (spelled fields.ChannelSerial) (string (serial_text serial)) a in
    omega (arith, with_error_length code (put (spelled fields.Flags) (num flags) b), number_field_bound fields.Flags flags b, text_field_bound fields.ChannelSerial (serial_text serial) a, serial_length serial, channel_length channel 11)
members_length (frames.Detach channel) sendable = omega (arith, channel_length channel 12)
members_length (frames.Detached channel code) sendable = omega (arith, with_error_length code (put (spelled fields.Channel) (string channel) (action 13)), channel_length channel 13)
members_length (frames.Presence h is) sendable =
    omega (arith, value_field_bound fields.Presence (array (presence_values h is)) (head_members 14 h), presence_values_length h is, head_length 14 h)
members_length (frames.Message h is) sendable =
    omega (arith, value_field_bound fields.Messages (array (message_values is)) (head_members 15 h), message_values_length is, head_length 15 h)
members_length (frames.Sync channel at is) sendable =
    let a = put (spelled fields.Channel) (string channel) (action 16) in
    let b = with_text fields.ChannelSerial (option_map cursor_text at) a in
    omega (arith, value_field_bound fields.Presence (array (sync_values is)) b, sync_values_length is, some_text_bound fields.ChannelSerial (option_map cursor_text at) a, cursor_length at, channel_length channel 16)
members_length frames.Auth sendable = omega (arith, action_length 17)
members_length (frames.Object h os) sendable =
    omega (arith, value_field_bound fields.State (array (items_of (map op_json os))) (head_members 19 h), ops_length os sendable.2, head_length 19 h)
members_length (frames.ObjectSync channel at ss) sendable =
    let a = put (spelled fields.Channel) (string channel) (action 20) in
    let b = with_text fields.ChannelSerial (option_map cursor_text at) a in
    omega (arith, value_field_bound fields.State (array (items_of (map state_json ss))) b, states_length ss sendable.2, some_text_bound fields.ChannelSerial (option_map cursor_text at) a, cursor_length at, channel_length channel 20)

pub frame_length : (f : Frame) → IsSendable f → length (frame_text f) ≤ 6 * text_bytes f + 150 * item_count f + 1000 * object_count f + 50 * entry_count f + 400 * cell_count f + 2000
frame_length f h = omega (arith, text_length (frame_value f) (frame_plain f h), members_length f h)
