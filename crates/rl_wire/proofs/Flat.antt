-- The value of a frame has no float, and nests little.
use Rattle.std.proofs.Common.{map, option_map, ℕ, List, Option, Some, None, arith}
use Rattle.serde_json.specs.Data.{string, array, Members, put}
use Rattle.rl_ids.specs.Forms.{serial_text}
use Rattle.rl_types.specs.declared.frames.Frame.{Frame}
use Rattle.rl_types.specs.declared.frames.Frame.TheVariants as frames
use Rattle.rl_types.specs.declared.frames.Head.{Head}
use Rattle.rl_jsonfields.specs.declared.names.Field.TheVariants as fields
use Rattle.rl_jsonfields.specs.Names.{spelled}
use Rattle.rl_jsonfields.proofs.Flat.{Flat, FlatMembers, put_flat, nothing, number_flat, string_flat, with_text_flat, with_number_flat, object_flat, array_flat, items_flat, deeper}
use Rattle.rl_wireitems.specs.Items.{message_values, presence_values, sync_values}
use Rattle.rl_wireitems.proofs.Flatness.{message_values_flat, presence_values_flat, sync_values_flat}
use Rattle.serde_json.specs.View.{items_of}
use Rattle.rl_wireobj.specs.Operations.{op_json}
use Rattle.rl_wireobj.specs.States.{state_json}
use Rattle.rl_wireobj.proofs.Flatness.{op_flat, state_flat}
use Rattle.rl_wire.specs.declared.details.ConnectionDetails.{ConnectionDetails}
use Rattle.rl_wire.specs.Texts.{action, code_name, error_value, with_error, given_text, cursor_text, head_members, details_value, details_of, frame_members, frame_value}

error_flat : (c : ℕ) → Flat 7 (error_value c)
unfolding error_value
error_flat c = deeper 1 7 _ (omega arith) (object_flat 0 _ (number_flat 0 fields.StatusCode 400 _ (string_flat 0 fields.Message (code_name c) _ (number_flat 0 fields.Code c _ (nothing 0)))))

details_flat : (d : ConnectionDetails) → Flat 7 (details_value d)
unfolding details_value
details_flat d =
    deeper 1 7 _ (omega arith) (object_flat 0 _ (number_flat 0 fields.MaxMessageSize d.size _ (number_flat 0 fields.MaxIdleInterval d.idle _ (number_flat 0 fields.ConnectionStateTtl d.ttl _ (string_flat 0 fields.ConnectionKey d.key _ (nothing 0))))))

action_flat : (m : ℕ) → FlatMembers 7 (action m)
action_flat m = number_flat 7 fields.Action m _ (nothing 7)

channel_flat : (s : List ℕ) (m : ℕ) → FlatMembers 7 (put (spelled fields.Channel) (string s) (action m))
channel_flat s m = string_flat 7 fields.Channel s _ (action_flat m)

with_error_flat : (o : Option ℕ) (ms : Members) → FlatMembers 7 ms → FlatMembers 7 (with_error o ms)
with_error_flat None ms p = p
with_error_flat (Some c) ms p = put_flat 7 (spelled fields.Error) (error_value c) ms (error_flat c) p

error_member_flat : (c : ℕ) (ms : Members) → FlatMembers 7 ms → FlatMembers 7 (put (spelled fields.Error) (error_value c) ms)
error_member_flat c ms p = put_flat 7 (spelled fields.Error) (error_value c) ms (error_flat c) p

head_flat : (m : ℕ) (h : Head) → FlatMembers 7 (head_members m h)
unfolding head_members
head_flat m h =
    with_number_flat 7 fields.Timestamp h.stamp _ (with_text_flat 7 fields.Id h.id _ (with_text_flat 7 fields.ConnectionId h.conn _ (with_text_flat 7 fields.ChannelSerial (option_map serial_text h.serial) _ (with_number_flat 7 fields.MsgSerial h.msg _ (channel_flat h.channel m)))))

members_flat : (f : Frame) → FlatMembers 7 (frame_members f)
unfolding frame_members
members_flat frames.Heartbeat = action_flat 0
members_flat (frames.Ack s c) = number_flat 7 fields.MsgSerial s _ (number_flat 7 fields.Count c _ (action_flat 1))
members_flat (frames.Nack s c e) = error_member_flat e _ (number_flat 7 fields.MsgSerial s _ (number_flat 7 fields.Count c _ (action_flat 2)))
members_flat frames.Connect = action_flat 3
members_flat (frames.Connected conn key ttl idle size code) =
    with_error_flat code _ (put_flat 7 (spelled fields.ConnectionDetails) (details_value (details_of key ttl idle size)) _ (details_flat (details_of key ttl idle size)) (string_flat 7 fields.ConnectionId conn _ (action_flat 4)))
members_flat frames.Disconnect = action_flat 5
members_flat (frames.Disconnected code) = with_error_flat code _ (action_flat 6)
members_flat frames.Close = action_flat 7
members_flat frames.Closed = action_flat 8
members_flat (frames.Error channel code) = error_member_flat code _ (with_text_flat 7 fields.Channel channel _ (action_flat 9))
members_flat (frames.Attach channel serial) = with_text_flat 7 fields.ChannelSerial (option_map given_text serial) _ (channel_flat channel 10)
members_flat (frames.Attached channel serial flags code) =
    with_error_flat code _ (number_flat 7 fields.Flags flags _ (string_flat 7 fields.ChannelSerial (serial_text serial) _ (channel_flat channel 11)))
members_flat (frames.Detach channel) = channel_flat channel 12
members_flat (frames.Detached channel code) = with_error_flat code _ (channel_flat channel 13)
members_flat (frames.Presence h is) = put_flat 7 (spelled fields.Presence) (array (presence_values h is)) _ (deeper 2 7 _ (omega arith) (array_flat 1 _ (presence_values_flat h is))) (head_flat 14 h)
members_flat (frames.Message h is) = put_flat 7 (spelled fields.Messages) (array (message_values is)) _ (deeper 2 7 _ (omega arith) (array_flat 1 _ (message_values_flat is))) (head_flat 15 h)
members_flat (frames.Sync channel at is) =
    put_flat 7 (spelled fields.Presence) (array (sync_values is)) _ (deeper 2 7 _ (omega arith) (array_flat 1 _ (sync_values_flat is))) (with_text_flat 7 fields.ChannelSerial (option_map cursor_text at) _ (channel_flat channel 16))
members_flat frames.Auth = action_flat 17
members_flat (frames.Object h os) = put_flat 7 (spelled fields.State) (array (items_of (map op_json os))) _ (array_flat 6 _ (items_flat 6 op_json os op_flat)) (head_flat 19 h)
members_flat (frames.ObjectSync channel at ss) =
    put_flat 7 (spelled fields.State) (array (items_of (map state_json ss))) _ (array_flat 6 _ (items_flat 6 state_json ss state_flat)) (with_text_flat 7 fields.ChannelSerial (option_map cursor_text at) _ (channel_flat channel 20))

pub frame_flat : (f : Frame) → Flat 8 (frame_value f)
frame_flat f = object_flat 7 (frame_members f) (members_flat f)
