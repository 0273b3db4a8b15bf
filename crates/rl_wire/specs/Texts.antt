-- The JSON value of a frame, and its text.
use Rattle.std.specs.Prelude.{ℕ, List, [], ◌∷◌, ◌++◌, map, codes, Option, option_map, unwrap_or}
use Rattle.serde_json.specs.Data.{Data, string, array, object, Members, no_members}
use Rattle.serde_json.specs.Written.{compact_text}
use Rattle.serde_json.specs.View.{items_of}
use Rattle.rl_numbers.specs.declared.actions.TheConstants.{HEARTBEAT, ACK, NACK, CONNECT, CONNECTED, DISCONNECT, DISCONNECTED, CLOSE, CLOSED, ERROR, ATTACH, ATTACHED, DETACH, DETACHED, PRESENCE, MESSAGE, SYNC, AUTH, OBJECT, OBJECT_SYNC}
use Rattle.rl_numbers.specs.declared.codes.TheConstants.{NOT_RETAINED, KEY_UNKNOWN, CHANNEL_LIMIT, TOO_LONG, MEMBER_LIMIT, UNKNOWN_OBJECT, DUPLICATE_OBJECT, STALE_ID, RANGE, WRONG_KIND, TOMBSTONED, POOL_LIMIT, BAD_IDS, NO_CLIENT_ID, BAD_ACTION, LOG_FULL, BAD_FRAME, SERIAL_GAP, SERIAL_OLD, SUPERSEDED, LAGGED, CONNECTION_LIMIT, IDLE, STATUS_CODE}
use Rattle.rl_ids.specs.Forms.{serial_text}
use Rattle.rl_types.specs.declared.frames.Cursor.{Cursor}
use Rattle.rl_types.specs.declared.frames.Frame.{Frame}
use Rattle.rl_types.specs.declared.frames.Frame.TheVariants as frames
use Rattle.rl_types.specs.declared.frames.Head.{Head}
use Rattle.rl_types.specs.declared.messages.Given.{Given}
use Rattle.rl_types.specs.declared.messages.Given.TheVariants as given
use Rattle.rl_jsonfields.specs.declared.names.Field.TheVariants as fields
use Rattle.rl_jsonfields.specs.Texts.{num, with, with_some, with_text, with_number}
use Rattle.rl_wireitems.specs.Items.{message_values, presence_values, sync_values}
use Rattle.rl_wireobj.specs.Operations.{op_json}
use Rattle.rl_wireobj.specs.States.{state_json}
use Rattle.rl_wire.specs.declared.details.ConnectionDetails.{ConnectionDetails}
use Rattle.rl_wire.specs.Tables.{at_number}

abbrev pub action : ℕ → Members
action n = with fields.Action (num n) no_members

-- the faults' codes with their names
abbrev pub code_names : List (ℕ × List ℕ)
code_names =
    (NOT_RETAINED, codes "NotRetained") ∷ (KEY_UNKNOWN, codes "KeyUnknown") ∷ (CHANNEL_LIMIT, codes "ChannelLimit") ∷ (TOO_LONG, codes "TooLong") ∷ (MEMBER_LIMIT, codes "MemberLimit")
    ∷ (UNKNOWN_OBJECT, codes "UnknownObject") ∷ (DUPLICATE_OBJECT, codes "DuplicateObject") ∷ (STALE_ID, codes "StaleId") ∷ (RANGE, codes "Range") ∷ (WRONG_KIND, codes "WrongKind")
    ∷ (TOMBSTONED, codes "Tombstoned") ∷ (POOL_LIMIT, codes "PoolLimit") ∷ (BAD_IDS, codes "BadIds") ∷ (NO_CLIENT_ID, codes "NoClientId") ∷ (BAD_ACTION, codes "BadAction")
    ∷ (LOG_FULL, codes "LogFull") ∷ (BAD_FRAME, codes "BadFrame") ∷ (SERIAL_GAP, codes "SerialGap") ∷ (SERIAL_OLD, codes "SerialOld") ∷ (SUPERSEDED, codes "Superseded")
    ∷ (LAGGED, codes "Lagged") ∷ (CONNECTION_LIMIT, codes "ConnectionLimit") ∷ (IDLE, codes "Idle") ∷ []

-- the name of a fault's code, or `Unknown`
unfoldable pub code_name : ℕ → List ℕ
code_name c = unwrap_or (at_number c code_names) (codes "Unknown")

unfoldable pub error_value : ℕ → Data
error_value c = object (with fields.StatusCode (num STATUS_CODE) (with fields.Message (string (code_name c)) (with fields.Code (num c) no_members)))

abbrev pub with_error : Option ℕ → Members → Members
with_error code ms = with_some fields.Error (option_map error_value code) ms

-- a channel serial as it was given
abbrev pub given_text : Given → List ℕ
given_text (given.Ours s) = serial_text s
given_text (given.Other t) = t

abbrev pub cursor_text : Cursor → List ℕ
cursor_text c = c.sequence ++ 58 ∷ c.cursor

unfoldable pub head_members : ℕ → Head → Members
head_members n h =
    with_number fields.Timestamp h.stamp (with_text fields.Id h.id (with_text fields.ConnectionId h.conn (with_text fields.ChannelSerial (option_map serial_text h.serial) (with_number fields.MsgSerial h.msg (with fields.Channel (string h.channel) (action n))))))

unfoldable pub details_value : ConnectionDetails → Data
details_value details =
    object (with fields.MaxMessageSize (num details.size) (with fields.MaxIdleInterval (num details.idle) (with fields.ConnectionStateTtl (num details.ttl) (with fields.ConnectionKey (string details.key) no_members))))

abbrev pub details_of : List ℕ → ℕ → ℕ → ℕ → ConnectionDetails
details_of key ttl idle size = record { key = key; ttl = ttl; idle = idle; size = size }

-- The members of a frame's object stand in the order of their names, whatever order they are put in.
unfoldable pub frame_members : Frame → Members
frame_members frames.Heartbeat = action HEARTBEAT
frame_members (frames.Ack serial count) = with fields.MsgSerial (num serial) (with fields.Count (num count) (action ACK))
frame_members (frames.Nack serial count code) = with fields.Error (error_value code) (with fields.MsgSerial (num serial) (with fields.Count (num count) (action NACK)))
frame_members frames.Connect = action CONNECT
frame_members (frames.Connected conn key ttl idle size code) = with_error code (with fields.ConnectionDetails (details_value (details_of key ttl idle size)) (with fields.ConnectionId (string conn) (action CONNECTED)))
frame_members frames.Disconnect = action DISCONNECT
frame_members (frames.Disconnected code) = with_error code (action DISCONNECTED)
frame_members frames.Close = action CLOSE
frame_members frames.Closed = action CLOSED
frame_members (frames.Error channel code) = with fields.Error (error_value code) (with_text fields.Channel channel (action ERROR))
frame_members (frames.Attach channel serial) = with_text fields.ChannelSerial (option_map given_text serial) (with fields.Channel (string channel) (action ATTACH))
frame_members (frames.Attached channel serial flags code) = with_error code (with fields.Flags (num flags) (with fields.ChannelSerial (string (serial_text serial)) (with fields.Channel (string channel) (action ATTACHED))))
frame_members (frames.Detach channel) = with fields.Channel (string channel) (action DETACH)
frame_members (frames.Detached channel code) = with_error code (with fields.Channel (string channel) (action DETACHED))
frame_members (frames.Presence head items) = with fields.Presence (array (presence_values head items)) (head_members PRESENCE head)
frame_members (frames.Message head items) = with fields.Messages (array (message_values items)) (head_members MESSAGE head)
frame_members (frames.Sync channel at items) = with fields.Presence (array (sync_values items)) (with_text fields.ChannelSerial (option_map cursor_text at) (with fields.Channel (string channel) (action SYNC)))
frame_members frames.Auth = action AUTH
frame_members (frames.Object head ops) = with fields.State (array (items_of (map op_json ops))) (head_members OBJECT head)
frame_members (frames.ObjectSync channel at states) = with fields.State (array (items_of (map state_json states))) (with_text fields.ChannelSerial (option_map cursor_text at) (with fields.Channel (string channel) (action OBJECT_SYNC)))

abbrev pub frame_value : Frame → Data
frame_value f = object (frame_members f)

-- the text of a frame
abbrev pub frame_text : Frame → List ℕ
frame_text f = compact_text (frame_value f)
