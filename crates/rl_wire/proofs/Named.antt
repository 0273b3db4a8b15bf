-- No bytes are read as want of memory.
use Rattle.std.proofs.Common.{◌≡◌, ℕ, List, length, Option, Some, None, Err, ltb}
use Rattle.std.specs.Prelude.{not, unwrap_or}
use Rattle.std.specs.Str.{is_utf8}
use Rattle.serde_json.specs.Data.{Data, no_items}
use Rattle.serde_json.specs.Read.{read}
use Rattle.rl_numbers.specs.declared.limits.TheConstants.{MAX_FRAME_SIZE, MAX_MESSAGE_SERIAL, MAX_CHANNEL_NAME}
use Rattle.rl_types.specs.declared.frames.WireFault.TheVariants.{NoMemory}
use Rattle.rl_jsonfields.specs.declared.names.Field.TheVariants as fields
use Rattle.rl_jsonfields.specs.Fields.{whole, whole_in, text, text_in, an_object, any_items, some_items}
use Rattle.rl_jsonfields.proofs.Named.{Named, then_named, required_named as req, optional_named as opt, choice_named, each_named, not_memory}
use Rattle.rl_wireitems.specs.Items.{sync_head}
use Rattle.rl_wireitems.proofs.Named.{message_items_named, presence_items_named}
use Rattle.rl_wireobj.specs.Operations.{op_at}
use Rattle.rl_wireobj.specs.States.{state_at}
use Rattle.rl_wireobj.proofs.Named.{op_named, state_named}
use Rattle.rl_wire.specs.declared.actions.Action.{Action}
use Rattle.rl_wire.specs.declared.actions.Action.TheVariants as actions
use Rattle.rl_wire.specs.Frames.{max_32, max_64, action_of, channel_serial, given_serial, cursor, channel, msg_serial, count, code_in, error_code, head, ack, nack, details, connection_details, connected, disconnected, error, attach, attached, detach, detached, presence, message, sync, operations, objects, by_action, frame_in, value_frame, json_frame, frame_at}

channel_named : (d : Data) → Named (channel d)
unfolding channel
channel_named d = req (text_in 1 MAX_CHANNEL_NAME) fields.Channel d

serial_named : (d : Data) → Named (msg_serial d)
unfolding msg_serial
serial_named d = req (whole_in 0 MAX_MESSAGE_SERIAL) fields.MsgSerial d

count_named : (d : Data) → Named (count d)
unfolding count
count_named d = then_named _ _ (opt (whole_in 1 max_32) fields.Count d) (λ x. tt)

code_named : (o : Option Data) → Named (code_in o)
code_named None = tt
code_named (Some e) = then_named _ _ (req (whole_in 0 max_32) fields.Code e) (λ x. tt)

error_code_named : (d : Data) → Named (error_code d)
unfolding error_code
error_code_named d = then_named _ _ (opt an_object fields.Error d) code_named

head_named : (d : Data) → Named (head d)
unfolding head
head_named d =
    then_named _ _ (channel_named d) (λ a. then_named _ _ (opt (whole_in 0 MAX_MESSAGE_SERIAL) fields.MsgSerial d) (λ b. then_named _ _ (opt channel_serial fields.ChannelSerial d) (λ c. then_named _ _ (opt text fields.ConnectionId d) (λ e. then_named _ _ (opt text fields.Id d) (λ g. then_named _ _ (opt (whole_in 0 max_64) fields.Timestamp d) (λ h. tt))))))

ack_named : (d : Data) → Named (ack d)
unfolding ack
ack_named d = then_named _ _ (serial_named d) (λ s. then_named _ _ (count_named d) (λ n. tt))

nack_named : (d : Data) → Named (nack d)
unfolding nack
nack_named d = then_named _ _ (serial_named d) (λ s. then_named _ _ (count_named d) (λ n. then_named _ _ (error_code_named d) (λ c. tt)))

details_named : (d : Data) → Named (details d)
unfolding details
details_named d =
    then_named _ _ (req text fields.ConnectionKey d) (λ a. then_named _ _ (opt (whole_in 0 max_64) fields.ConnectionStateTtl d) (λ b. then_named _ _ (opt (whole_in 0 max_64) fields.MaxIdleInterval d) (λ c. then_named _ _ (opt (whole_in 0 max_64) fields.MaxMessageSize d) (λ e. tt))))

connection_details_named : (d : Data) → Named (connection_details d)
unfolding connection_details
connection_details_named d = then_named _ _ (req an_object fields.ConnectionDetails d) details_named

connected_named : (d : Data) → Named (connected d)
unfolding connected
connected_named d = then_named _ _ (req text fields.ConnectionId d) (λ a. then_named _ _ (connection_details_named d) (λ b. then_named _ _ (error_code_named d) (λ c. tt)))

disconnected_named : (d : Data) → Named (disconnected d)
unfolding disconnected
disconnected_named d = then_named _ _ (error_code_named d) (λ c. tt)

error_named : (d : Data) → Named (error d)
unfolding error
error_named d = then_named _ _ (opt (text_in 1 MAX_CHANNEL_NAME) fields.Channel d) (λ s. then_named _ _ (error_code_named d) (λ c. tt))

attach_named : (d : Data) → Named (attach d)
unfolding attach
attach_named d = then_named _ _ (channel_named d) (λ s. then_named _ _ (opt given_serial fields.ChannelSerial d) (λ o. tt))

attached_named : (d : Data) → Named (attached d)
unfolding attached
attached_named d =
    then_named _ _ (channel_named d) (λ s. then_named _ _ (req channel_serial fields.ChannelSerial d) (λ o. then_named _ _ (opt (whole_in 0 max_64) fields.Flags d) (λ n. then_named _ _ (error_code_named d) (λ c. tt))))

detach_named : (d : Data) → Named (detach d)
unfolding detach
detach_named d = then_named _ _ (channel_named d) (λ s. tt)

detached_named : (d : Data) → Named (detached d)
unfolding detached
detached_named d = then_named _ _ (channel_named d) (λ s. then_named _ _ (error_code_named d) (λ c. tt))

presence_named : (d : Data) → Named (presence d)
unfolding presence
presence_named d = then_named _ _ (head_named d) (λ h. then_named _ _ (req some_items fields.Presence d) (λ vs. then_named _ _ (presence_items_named h vs) (λ is. tt)))

message_named : (d : Data) → Named (message d)
unfolding message
message_named d = then_named _ _ (head_named d) (λ h. then_named _ _ (req some_items fields.Messages d) (λ vs. then_named _ _ (message_items_named h vs) (λ is. tt)))

sync_named : (d : Data) → Named (sync d)
unfolding sync
sync_named d =
    then_named _ _ (channel_named d) (λ s. then_named _ _ (opt cursor fields.ChannelSerial d) (λ c. then_named _ _ (opt any_items fields.Presence d) (λ vs. then_named _ _ (presence_items_named (sync_head s) (unwrap_or vs no_items)) (λ is. tt))))

operations_named : (d : Data) → Named (operations d)
unfolding operations
operations_named d = then_named _ _ (head_named d) (λ h. then_named _ _ (req some_items fields.State d) (λ vs. then_named _ _ (each_named op_at vs op_named) (λ is. tt)))

objects_named : (d : Data) → Named (objects d)
unfolding objects
objects_named d =
    then_named _ _ (channel_named d) (λ s. then_named _ _ (opt cursor fields.ChannelSerial d) (λ c. then_named _ _ (opt any_items fields.State d) (λ vs. then_named _ _ (each_named state_at (unwrap_or vs no_items) state_named) (λ is. tt))))

by_action_named : (a : Option Action) (d : Data) → Named (by_action a d)
by_action_named None d = tt
by_action_named (Some actions.Heartbeat) d = tt
by_action_named (Some actions.Ack) d = then_named (ack d) _ (ack_named d) (λ f. tt)
by_action_named (Some actions.Nack) d = then_named (nack d) _ (nack_named d) (λ f. tt)
by_action_named (Some actions.Connect) d = tt
by_action_named (Some actions.Connected) d = then_named (connected d) _ (connected_named d) (λ f. tt)
by_action_named (Some actions.Disconnect) d = tt
by_action_named (Some actions.Disconnected) d = then_named (disconnected d) _ (disconnected_named d) (λ f. tt)
by_action_named (Some actions.Close) d = tt
by_action_named (Some actions.Closed) d = tt
by_action_named (Some actions.Error) d = then_named (error d) _ (error_named d) (λ f. tt)
by_action_named (Some actions.Attach) d = then_named (attach d) _ (attach_named d) (λ f. tt)
by_action_named (Some actions.Attached) d = then_named (attached d) _ (attached_named d) (λ f. tt)
by_action_named (Some actions.Detach) d = then_named (detach d) _ (detach_named d) (λ f. tt)
by_action_named (Some actions.Detached) d = then_named (detached d) _ (detached_named d) (λ f. tt)
by_action_named (Some actions.Presence) d = then_named (presence d) _ (presence_named d) (λ f. tt)
by_action_named (Some actions.Message) d = then_named (message d) _ (message_named d) (λ f. tt)
by_action_named (Some actions.Sync) d = then_named (sync d) _ (sync_named d) (λ f. tt)
by_action_named (Some actions.Auth) d = tt
by_action_named (Some actions.Object) d = then_named (operations d) _ (operations_named d) (λ f. tt)
by_action_named (Some actions.ObjectSync) d = then_named (objects d) _ (objects_named d) (λ f. tt)

object_named : (d : Data) → Named (frame_in d)
unfolding frame_in
object_named d = then_named _ _ (req whole fields.Action d) (λ n. by_action_named (action_of n) d)

value_named : (o : Option Data) → Named (value_frame o)
value_named None = tt
value_named (Some d) = object_named d

json_named : (o : Option Data) → Named (json_frame o)
json_named None = tt
json_named (Some d) = value_named (an_object d)

pub frame_named : (bs : List ℕ) → frame_at bs ≡ Err NoMemory → ⊥
unfolding frame_at
frame_named bs e =
    let h : Named (frame_at bs) = choice_named (ltb MAX_FRAME_SIZE (length bs)) _ _ tt (choice_named (not (is_utf8 bs)) _ _ tt (json_named (read bs))) in
    not_memory (frame_at bs) h e
