-- What bytes are as a frame: a frame, an unknown action, or the first fault.
use Rattle.std.specs.Prelude.{ℕ, ◌^◌, ◌-◌, ◌==◌, ℤ, pos, negsuc, Bool, List, [], ◌∷◌, length, not, Option, Some, None, option_map, option_and_then, unwrap_or, Ok, Err, nat_lt, if◌then◌else◌}
use Rattle.std.specs.List.{position_or_len, before_first, after_first}
use Rattle.std.specs.Str.{is_utf8}
use Rattle.serde_json.specs.Data.{Data, no_items}
use Rattle.serde_json.specs.Find.{as_str}
use Rattle.serde_json.specs.Read.{read}
use Rattle.rl_numbers.specs.declared.actions.TheConstants.{HEARTBEAT, ACK, NACK, CONNECT, CONNECTED, DISCONNECT, DISCONNECTED, CLOSE, CLOSED, ERROR, ATTACH, ATTACHED, DETACH, DETACHED, PRESENCE, MESSAGE, SYNC, AUTH, OBJECT, OBJECT_SYNC}
use Rattle.rl_numbers.specs.declared.limits.TheConstants.{MAX_FRAME_SIZE, MAX_MESSAGE_SERIAL, MAX_CHANNEL_NAME, CONNECTION_STATE_TTL, MAX_IDLE_INTERVAL, MAX_MESSAGE_SIZE}
use Rattle.rl_ids.specs.declared.serials.ChannelSerial.{ChannelSerial}
use Rattle.rl_ids.specs.Forms.{serial_of}
use Rattle.rl_types.specs.declared.frames.Cursor.{Cursor}
use Rattle.rl_types.specs.declared.frames.Frame.{Frame}
use Rattle.rl_types.specs.declared.frames.Frame.TheVariants as frames
use Rattle.rl_types.specs.declared.frames.Head.{Head}
use Rattle.rl_types.specs.declared.frames.WireFault.TheVariants.{TooLong, NotText, NotJson, NotObject}
use Rattle.rl_types.specs.declared.messages.Given.{Given}
use Rattle.rl_types.specs.declared.messages.Given.TheVariants as given
use Rattle.rl_jsonfields.specs.declared.names.Field.TheVariants as fields
use Rattle.rl_jsonfields.specs.Fields.{Reads, ◌>>=◌, whole, whole_in, text, text_in, an_object, any_items, some_items, required, optional, each}
use Rattle.rl_wireitems.specs.Items.{message_items, presence_items, sync_head}
use Rattle.rl_wireobj.specs.Operations.{op_at}
use Rattle.rl_wireobj.specs.States.{state_at}
use Rattle.rl_wire.specs.declared.actions.Action.{Action}
use Rattle.rl_wire.specs.declared.actions.Action.TheVariants as actions
use Rattle.rl_wire.specs.declared.details.ConnectionDetails.{ConnectionDetails}
use Rattle.rl_wire.specs.Tables.{at_number}

-- the greatest numbers of 32 and of 64 bits
abbrev pub max_32 : ℕ
max_32 = 2 ^ 32 - 1

abbrev pub max_64 : ℕ
max_64 = 2 ^ 64 - 1

-- ---- actions

-- each action with its number
abbrev pub action_numbers : List (ℕ × Action)
action_numbers =
    (HEARTBEAT, actions.Heartbeat) ∷ (ACK, actions.Ack) ∷ (NACK, actions.Nack) ∷ (CONNECT, actions.Connect) ∷ (CONNECTED, actions.Connected)
    ∷ (DISCONNECT, actions.Disconnect) ∷ (DISCONNECTED, actions.Disconnected) ∷ (CLOSE, actions.Close) ∷ (CLOSED, actions.Closed) ∷ (ERROR, actions.Error)
    ∷ (ATTACH, actions.Attach) ∷ (ATTACHED, actions.Attached) ∷ (DETACH, actions.Detach) ∷ (DETACHED, actions.Detached) ∷ (PRESENCE, actions.Presence)
    ∷ (MESSAGE, actions.Message) ∷ (SYNC, actions.Sync) ∷ (AUTH, actions.Auth) ∷ (OBJECT, actions.Object) ∷ (OBJECT_SYNC, actions.ObjectSync) ∷ []

abbrev pub action_at : ℕ → Option Action
action_at n = at_number n action_numbers

-- A whole number that isn't in the table is an unknown action.
abbrev pub action_of : ℤ → Option Action
action_of (pos n) = action_at n
action_of (negsuc n) = None

-- ---- shapes of one frame alone

-- a text in the form of a channel serial
abbrev pub channel_serial : Data → Option ChannelSerial
channel_serial d = option_and_then serial_of (as_str d)

-- a channel serial as a client gives it: any text
abbrev pub given_by : List ℕ → Option ChannelSerial → Given
given_by t None = given.Other t
given_by t (Some s) = given.Ours s

abbrev pub given_of : List ℕ → Given
given_of t = given_by t (serial_of t)

abbrev pub given_serial : Data → Option Given
given_serial d = option_map given_of (as_str d)

abbrev pub is_colon : ℕ → Bool
is_colon b = b == 58

-- a text, cut at its first colon
abbrev pub cursor_of : List ℕ → Option Cursor
cursor_of t = if nat_lt (position_or_len is_colon t) (length t) then Some (record { sequence = before_first is_colon t; cursor = after_first is_colon t }) else None

abbrev pub cursor : Data → Option Cursor
cursor d = option_and_then cursor_of (as_str d)

-- ---- fields of several actions

unfoldable pub channel : Data → Reads (List ℕ)
channel d = required (text_in 1 MAX_CHANNEL_NAME) fields.Channel d

unfoldable pub msg_serial : Data → Reads ℕ
msg_serial d = required (whole_in 0 MAX_MESSAGE_SERIAL) fields.MsgSerial d

-- an absent count is 1
unfoldable pub count : Data → Reads ℕ
count d = do
  n ← optional (whole_in 1 max_32) fields.Count d
  Ok (unwrap_or n 1)

-- The code is required in an error that is there.
abbrev pub code_in : Option Data → Reads (Option ℕ)
code_in None = Ok None
code_in (Some e) = do
  code ← required (whole_in 0 max_32) fields.Code e
  Ok (Some code)

unfoldable pub error_code : Data → Reads (Option ℕ)
error_code d = do
  e ← optional an_object fields.Error d
  code_in e

unfoldable pub head : Data → Reads Head
head d = do
  name ← channel d
  msg ← optional (whole_in 0 MAX_MESSAGE_SERIAL) fields.MsgSerial d
  serial ← optional channel_serial fields.ChannelSerial d
  conn ← optional text fields.ConnectionId d
  id ← optional text fields.Id d
  stamp ← optional (whole_in 0 max_64) fields.Timestamp d
  Ok (record { channel = name; msg = msg; serial = serial; conn = conn; id = id; stamp = stamp })

-- ---- frames

unfoldable pub ack : Data → Reads Frame
ack d = do
  serial ← msg_serial d
  n ← count d
  Ok (frames.Ack serial n)

-- an absent error is code 0
unfoldable pub nack : Data → Reads Frame
nack d = do
  serial ← msg_serial d
  n ← count d
  code ← error_code d
  Ok (frames.Nack serial n (unwrap_or code 0))

-- three numbers have a value where they are absent
unfoldable pub details : Data → Reads ConnectionDetails
details d = do
  key ← required text fields.ConnectionKey d
  ttl ← optional (whole_in 0 max_64) fields.ConnectionStateTtl d
  idle ← optional (whole_in 0 max_64) fields.MaxIdleInterval d
  size ← optional (whole_in 0 max_64) fields.MaxMessageSize d
  Ok (record { key = key; ttl = unwrap_or ttl CONNECTION_STATE_TTL; idle = unwrap_or idle MAX_IDLE_INTERVAL; size = unwrap_or size MAX_MESSAGE_SIZE })

unfoldable pub connection_details : Data → Reads ConnectionDetails
connection_details d = required an_object fields.ConnectionDetails d >>= details

unfoldable pub connected : Data → Reads Frame
connected d = do
  conn ← required text fields.ConnectionId d
  found ← connection_details d
  code ← error_code d
  Ok (frames.Connected conn found.key found.ttl found.idle found.size code)

unfoldable pub disconnected : Data → Reads Frame
disconnected d = do
  code ← error_code d
  Ok (frames.Disconnected code)

-- an absent error is code 0
unfoldable pub error : Data → Reads Frame
error d = do
  name ← optional (text_in 1 MAX_CHANNEL_NAME) fields.Channel d
  code ← error_code d
  Ok (frames.Error name (unwrap_or code 0))

unfoldable pub attach : Data → Reads Frame
attach d = do
  name ← channel d
  serial ← optional given_serial fields.ChannelSerial d
  Ok (frames.Attach name serial)

-- absent flags are 0
unfoldable pub attached : Data → Reads Frame
attached d = do
  name ← channel d
  serial ← required channel_serial fields.ChannelSerial d
  flags ← optional (whole_in 0 max_64) fields.Flags d
  code ← error_code d
  Ok (frames.Attached name serial (unwrap_or flags 0) code)

unfoldable pub detach : Data → Reads Frame
detach d = do
  name ← channel d
  Ok (frames.Detach name)

unfoldable pub detached : Data → Reads Frame
detached d = do
  name ← channel d
  code ← error_code d
  Ok (frames.Detached name code)

unfoldable pub presence : Data → Reads Frame
presence d = do
  h ← head d
  values ← required some_items fields.Presence d
  items ← presence_items h values
  Ok (frames.Presence h items)

unfoldable pub message : Data → Reads Frame
message d = do
  h ← head d
  values ← required some_items fields.Messages d
  items ← message_items h values
  Ok (frames.Message h items)

-- an absent list is empty
unfoldable pub sync : Data → Reads Frame
sync d = do
  name ← channel d
  at ← optional cursor fields.ChannelSerial d
  values ← optional any_items fields.Presence d
  items ← presence_items (sync_head name) (unwrap_or values no_items)
  Ok (frames.Sync name at items)

-- the operations of an OBJECT frame
unfoldable pub operations : Data → Reads Frame
operations d = do
  h ← head d
  values ← required some_items fields.State d
  ops ← each op_at values
  Ok (frames.Object h ops)

-- the objects of an OBJECT_SYNC frame; an absent list is empty
unfoldable pub objects : Data → Reads Frame
objects d = do
  name ← channel d
  at ← optional cursor fields.ChannelSerial d
  values ← optional any_items fields.State d
  states ← each state_at (unwrap_or values no_items)
  Ok (frames.ObjectSync name at states)

abbrev pub by_action : Option Action → Data → Reads (Option Frame)
by_action None d = Ok None
by_action (Some actions.Heartbeat) d = Ok (Some frames.Heartbeat)
by_action (Some actions.Ack) d = ack d >>= λ f. Ok (Some f)
by_action (Some actions.Nack) d = nack d >>= λ f. Ok (Some f)
by_action (Some actions.Connect) d = Ok (Some frames.Connect)
by_action (Some actions.Connected) d = connected d >>= λ f. Ok (Some f)
by_action (Some actions.Disconnect) d = Ok (Some frames.Disconnect)
by_action (Some actions.Disconnected) d = disconnected d >>= λ f. Ok (Some f)
by_action (Some actions.Close) d = Ok (Some frames.Close)
by_action (Some actions.Closed) d = Ok (Some frames.Closed)
by_action (Some actions.Error) d = error d >>= λ f. Ok (Some f)
by_action (Some actions.Attach) d = attach d >>= λ f. Ok (Some f)
by_action (Some actions.Attached) d = attached d >>= λ f. Ok (Some f)
by_action (Some actions.Detach) d = detach d >>= λ f. Ok (Some f)
by_action (Some actions.Detached) d = detached d >>= λ f. Ok (Some f)
by_action (Some actions.Presence) d = presence d >>= λ f. Ok (Some f)
by_action (Some actions.Message) d = message d >>= λ f. Ok (Some f)
by_action (Some actions.Sync) d = sync d >>= λ f. Ok (Some f)
by_action (Some actions.Auth) d = Ok (Some frames.Auth)
by_action (Some actions.Object) d = operations d >>= λ f. Ok (Some f)
by_action (Some actions.ObjectSync) d = objects d >>= λ f. Ok (Some f)

unfoldable pub frame_in : Data → Reads (Option Frame)
frame_in d = do
  n ← required whole fields.Action d
  by_action (action_of n) d

abbrev pub value_frame : Option Data → Reads (Option Frame)
value_frame None = Err NotObject
value_frame (Some d) = frame_in d

abbrev pub json_frame : Option Data → Reads (Option Frame)
json_frame None = Err NotJson
json_frame (Some d) = value_frame (an_object d)

unfoldable pub frame_at : List ℕ → Reads (Option Frame)
frame_at bytes = if nat_lt MAX_FRAME_SIZE (length bytes) then Err TooLong else (if not (is_utf8 bytes) then Err NotText else json_frame (read bytes))
