-- Which frames can be sent: what holds of each frame that bytes are, and all that it takes for a frame's text to
-- be read as it again.
use Rattle.std.specs.Prelude.{◌≡◌, ℕ, ◌≤◌, ◌<◌, ◌^◌, ⊤, List, length, not, None, IfSome, IsTrue}
use Rattle.std.specs.List.{All, list_all}
use Rattle.rl_numbers.specs.declared.limits.TheConstants.{MAX_MESSAGE_SERIAL, MAX_CHANNEL_NAME}
use Rattle.rl_ids.specs.Forms.{serial_of, IsSerial}
use Rattle.rl_types.specs.declared.frames.Cursor.{Cursor}
use Rattle.rl_types.specs.declared.frames.Frame.{Frame}
use Rattle.rl_types.specs.declared.frames.Frame.TheVariants as frames
use Rattle.rl_types.specs.declared.frames.Head.{Head}
use Rattle.rl_types.specs.declared.messages.Given.{Given}
use Rattle.rl_types.specs.declared.messages.Given.TheVariants as given
use Rattle.rl_wireitems.specs.Items.{AreMessages, ArePresence}
use Rattle.rl_wireobj.specs.Sendable.{IsSendableOp, IsSendableState}
use Rattle.rl_wire.specs.Frames.{is_colon}

-- a channel's name has at least 1 byte
abbrev pub IsName : List ℕ → Type 0
IsName s = (0 < length s) × (length s ≤ MAX_CHANNEL_NAME)

abbrev pub Fits32 : ℕ → Type 0
Fits32 n = n < 2 ^ 32

abbrev pub Fits64 : ℕ → Type 0
Fits64 n = n < 2 ^ 64

abbrev pub IsMsgSerial : ℕ → Type 0
IsMsgSerial n = n ≤ MAX_MESSAGE_SERIAL

abbrev pub IsCount : ℕ → Type 0
IsCount n = (0 < n) × Fits32 n

-- a text that isn't in the form of a channel serial is another text
abbrev pub IsGiven : Given → Type 0
IsGiven (given.Ours s) = IsSerial s
IsGiven (given.Other t) = serial_of t ≡ None

-- the text before the first colon has no colon
abbrev pub IsCursor : Cursor → Type 0
IsCursor c = IsTrue (list_all (λ b. not (is_colon b)) c.sequence)

abbrev pub IsHead : Head → Type 0
IsHead h = IsName h.channel × IfSome h.msg IsMsgSerial × IfSome h.serial IsSerial × IfSome h.stamp Fits64

abbrev pub IsSendable : Frame → Type 0
IsSendable frames.Heartbeat = ⊤
IsSendable (frames.Ack serial count) = IsMsgSerial serial × IsCount count
IsSendable (frames.Nack serial count code) = IsMsgSerial serial × IsCount count × Fits32 code
IsSendable frames.Connect = ⊤
IsSendable (frames.Connected conn key ttl idle size code) = Fits64 ttl × Fits64 idle × Fits64 size × IfSome code Fits32
IsSendable frames.Disconnect = ⊤
IsSendable (frames.Disconnected code) = IfSome code Fits32
IsSendable frames.Close = ⊤
IsSendable frames.Closed = ⊤
IsSendable (frames.Error channel code) = IfSome channel IsName × Fits32 code
IsSendable (frames.Attach channel serial) = IsName channel × IfSome serial IsGiven
IsSendable (frames.Attached channel serial flags code) = IsName channel × IsSerial serial × Fits64 flags × IfSome code Fits32
IsSendable (frames.Detach channel) = IsName channel
IsSendable (frames.Detached channel code) = IsName channel × IfSome code Fits32
IsSendable (frames.Presence head items) = IsHead head × (0 < length items) × ArePresence items
IsSendable (frames.Message head items) = IsHead head × (0 < length items) × AreMessages head items
IsSendable (frames.Sync channel at items) = IsName channel × IfSome at IsCursor × ArePresence items
IsSendable frames.Auth = ⊤
IsSendable (frames.Object head ops) = IsHead head × (0 < length ops) × All IsSendableOp ops
IsSendable (frames.ObjectSync channel at states) = IsName channel × IfSome at IsCursor × All IsSendableState states
