-- The numbers of a frame that can be sent are whole and fit, and the members of its value stand in order.
use Rattle.std.proofs.Common.{map, option_map, ℕ, ◌<◌, List, Option, Some, None, arith}
use Rattle.std.specs.Prelude.{IfSome, ◌^◌}
use Rattle.serde_json.specs.Data.{string, array, Members, put}
use Rattle.rl_ids.specs.Forms.{serial_text}
use Rattle.rl_types.specs.declared.frames.Frame.{Frame}
use Rattle.rl_types.specs.declared.frames.Frame.TheVariants as frames
use Rattle.rl_types.specs.declared.frames.Head.{Head}
use Rattle.rl_jsonfields.specs.declared.names.Field.TheVariants as fields
use Rattle.rl_jsonfields.specs.Names.{spelled}
use Rattle.rl_jsonfields.proofs.Compact.{Plain, Orderly, nothing_orderly, put_orderly, number_orderly, string_orderly, with_text_orderly, with_number_orderly}
use Rattle.rl_wireitems.specs.Items.{message_values, presence_values, sync_values}
use Rattle.rl_wire.proofs.ItemValues.{message_values_plain, presence_values_plain, sync_values_plain}
use Rattle.rl_wire.specs.Sendable.{Fits32, Fits64, IsMsgSerial, IsHead, IsSendable}
use Rattle.serde_json.specs.View.{items_of}
use Rattle.rl_jsonfields.proofs.Lists.{list_plain}
use Rattle.rl_wireobj.specs.Operations.{op_json}
use Rattle.rl_wireobj.specs.States.{state_json}
use Rattle.rl_wireobj.specs.Sendable.{IsSendableOp, IsSendableState}
use Rattle.rl_wireobj.proofs.Plains.{op_plain, state_plain}
use Rattle.rl_wire.specs.declared.details.ConnectionDetails.{ConnectionDetails}
use Rattle.rl_wire.specs.Texts.{action, code_name, error_value, with_error, given_text, cursor_text, head_members, details_value, details_of, frame_members, frame_value}

wide : (n : ℕ) → Fits32 n → n < 2 ^ 64
wide n h = omega (arith, h)

serial_wide : (n : ℕ) → IsMsgSerial n → n < 2 ^ 64
serial_wide n h = omega (arith, h)

each_wide : (o : Option ℕ) → IfSome o IsMsgSerial → IfSome o (λ n. n < 2 ^ 64)
each_wide None h = tt
each_wide (Some n) h = serial_wide n h

error_plain : (c : ℕ) → Fits32 c → Plain (error_value c)
unfolding error_value
error_plain c h = (number_orderly fields.StatusCode 400 _ (omega arith) (string_orderly fields.Message (code_name c) _ (number_orderly fields.Code c _ (wide c h) nothing_orderly))).plain

error_member_plain : (c : ℕ) (ms : Members) → Fits32 c → Orderly ms → Orderly (put (spelled fields.Error) (error_value c) ms)
error_member_plain c ms h p = put_orderly (spelled fields.Error) (error_value c) ms (error_plain c h) p

with_error_plain : (o : Option ℕ) (ms : Members) → IfSome o Fits32 → Orderly ms → Orderly (with_error o ms)
with_error_plain None ms h p = p
with_error_plain (Some c) ms h p = error_member_plain c ms h p

details_plain : (d : ConnectionDetails) → Fits64 d.ttl → Fits64 d.idle → Fits64 d.size → Plain (details_value d)
unfolding details_value
details_plain d ht hi hs =
    (number_orderly fields.MaxMessageSize d.size _ hs (number_orderly fields.MaxIdleInterval d.idle _ hi (number_orderly fields.ConnectionStateTtl d.ttl _ ht (string_orderly fields.ConnectionKey d.key _ nothing_orderly)))).plain

action_plain : (m : ℕ) → m < 2 ^ 64 → Orderly (action m)
action_plain m h = number_orderly fields.Action m _ h nothing_orderly

channel_plain : (s : List ℕ) (m : ℕ) → m < 2 ^ 64 → Orderly (put (spelled fields.Channel) (string s) (action m))
channel_plain s m h = string_orderly fields.Channel s _ (action_plain m h)

head_plain : (m : ℕ) (h : Head) → m < 2 ^ 64 → IsHead h → Orderly (head_members m h)
unfolding head_members
head_plain m h lt is =
    with_number_orderly fields.Timestamp h.stamp _ is.3 (with_text_orderly fields.Id h.id _ (with_text_orderly fields.ConnectionId h.conn _ (with_text_orderly fields.ChannelSerial (option_map serial_text h.serial) _ (with_number_orderly fields.MsgSerial h.msg _ (each_wide h.msg is.1) (channel_plain h.channel m lt)))))

members_orderly : (f : Frame) → IsSendable f → Orderly (frame_members f)
unfolding frame_members
members_orderly frames.Heartbeat h = action_plain 0 (omega arith)
members_orderly (frames.Ack s c) h = number_orderly fields.MsgSerial s _ (serial_wide s h.0) (number_orderly fields.Count c _ (wide c h.1.1) (action_plain 1 (omega arith)))
members_orderly (frames.Nack s c e) h = error_member_plain e _ h.2 (number_orderly fields.MsgSerial s _ (serial_wide s h.0) (number_orderly fields.Count c _ (wide c h.1.1) (action_plain 2 (omega arith))))
members_orderly frames.Connect h = action_plain 3 (omega arith)
members_orderly (frames.Connected conn key ttl idle size code) h =
    with_error_plain code _ h.3 (put_orderly (spelled fields.ConnectionDetails) (details_value (details_of key ttl idle size)) _ (details_plain (details_of key ttl idle size) h.0 h.1 h.2) (string_orderly fields.ConnectionId conn _ (action_plain 4 (omega arith))))
members_orderly frames.Disconnect h = action_plain 5 (omega arith)
members_orderly (frames.Disconnected code) h = with_error_plain code _ h (action_plain 6 (omega arith))
members_orderly frames.Close h = action_plain 7 (omega arith)
members_orderly frames.Closed h = action_plain 8 (omega arith)
members_orderly (frames.Error channel code) h = error_member_plain code _ h.1 (with_text_orderly fields.Channel channel _ (action_plain 9 (omega arith)))
members_orderly (frames.Attach channel serial) h = with_text_orderly fields.ChannelSerial (option_map given_text serial) _ (channel_plain channel 10 (omega arith))
members_orderly (frames.Attached channel serial flags code) h =
    with_error_plain code _ h.3 (number_orderly fields.Flags flags _ h.2 (string_orderly fields.ChannelSerial (serial_text serial) _ (channel_plain channel 11 (omega arith))))
members_orderly (frames.Detach channel) h = channel_plain channel 12 (omega arith)
members_orderly (frames.Detached channel code) h = with_error_plain code _ h.1 (channel_plain channel 13 (omega arith))
members_orderly (frames.Presence g is) h = put_orderly (spelled fields.Presence) (array (presence_values g is)) _ (presence_values_plain g is h.2) (head_plain 14 g (omega arith) h.0)
members_orderly (frames.Message g is) h = put_orderly (spelled fields.Messages) (array (message_values is)) _ (message_values_plain is) (head_plain 15 g (omega arith) h.0)
members_orderly (frames.Sync channel at is) h =
    put_orderly (spelled fields.Presence) (array (sync_values is)) _ (sync_values_plain is h.2) (with_text_orderly fields.ChannelSerial (option_map cursor_text at) _ (channel_plain channel 16 (omega arith)))
members_orderly frames.Auth h = action_plain 17 (omega arith)
members_orderly (frames.Object g os) h =
    put_orderly (spelled fields.State) (array (items_of (map op_json os))) _ (list_plain op_json IsSendableOp op_plain os h.2) (head_plain 19 g (omega arith) h.0)
members_orderly (frames.ObjectSync channel at ss) h =
    put_orderly (spelled fields.State) (array (items_of (map state_json ss))) _ (list_plain state_json IsSendableState state_plain ss h.2) (with_text_orderly fields.ChannelSerial (option_map cursor_text at) _ (channel_plain channel 20 (omega arith)))

pub frame_plain : (f : Frame) → IsSendable f → Plain (frame_value f)
frame_plain f h = (members_orderly f h).plain
