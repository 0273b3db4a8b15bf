-- The frames that travel between the client of a script and the service.
use Rattle.std.specs.Prelude.{ℕ, ⊤, ◌+◌, ◌/◌, ◌%◌, ◌==◌, Bool, true, false, List, ◌++◌, Option, Some, None, Ok, Err, codes, if◌then◌else◌}
use Rattle.rl_base.specs.Digits.{fixed_text}
use Rattle.rl_ids.specs.Forms.{conn_text, IsSerial}
use Rattle.rl_ids.specs.declared.serials.ChannelSerial.{ChannelSerial}
use Rattle.rl_types.specs.declared.messages.Body.{Body}
use Rattle.rl_types.specs.declared.messages.Body.TheVariants.{Messages, Presence, Objects}
use Rattle.rl_types.specs.declared.messages.Entry.{Entry}
use Rattle.rl_types.specs.declared.messages.Given.{Given}
use Rattle.rl_types.specs.declared.messages.Given.TheVariants.{Ours}
use Rattle.rl_types.specs.declared.frames.Head.{Head}
use Rattle.rl_types.specs.declared.frames.Frame.{Frame}
use Rattle.rl_types.specs.declared.frames.Frame.TheVariants as frames
use Rattle.rl_numbers.specs.declared.limits.TheConstants.{CONNECTION_STATE_TTL, MAX_IDLE_INTERVAL, MAX_MESSAGE_SIZE}
use Rattle.rl_numbers.specs.declared.codes.TheConstants.{NOT_RETAINED}
use Rattle.rl_numbers.specs.declared.flags.TheConstants.{HAS_PRESENCE, RESUMED}
use Rattle.rl_jsonfields.specs.Fields.{Reads}
use Rattle.rl_model.specs.declared.plain.Sent.{Sent}
use Rattle.rl_model.specs.declared.plain.Sent.TheVariants.{Asks, Sends}
use Rattle.rl_model.specs.Records.{the_epoch}
use Rattle.rl_model.specs.World.{the_conn}

abbrev pub body_frame : Head → Body → Frame
body_frame head (Messages items) = frames.Message head items
body_frame head (Presence items) = frames.Presence head items
body_frame head (Objects ops) = frames.Object head ops

-- the head of what a client publishes: the channel and the message serial
abbrev pub publish_head : List ℕ → ℕ → Head
publish_head channel serial = record { channel = channel; msg = Some serial; serial = None; conn = None; id = None; stamp = None }

-- what the client sends on a channel
abbrev pub sent_frame : List ℕ → Sent → Frame
sent_frame channel (Asks asked) = frames.Attach channel asked
sent_frame channel (Sends serial body) = body_frame (publish_head channel serial) body

-- the head of an entry: the channel, the entry's serial, its connection and its stamp
abbrev pub entry_head : List ℕ → Entry → Head
entry_head channel entry =
    record {
      channel = channel;
      msg = None;
      serial = Some (record { epoch = the_epoch; place = entry.place });
      conn = Some (conn_text entry.conn);
      id = None;
      stamp = Some entry.stamp;
    }

abbrev pub entry_frame : List ℕ → Entry → Frame
entry_frame channel entry = body_frame (entry_head channel entry) entry.body

-- the flags of ATTACHED (TR3)
abbrev pub flags_of : Bool → Bool → ℕ
flags_of resumed presence = (if resumed then RESUMED else 0) + (if presence then HAS_PRESENCE else 0)

-- a serial was given and the session does not go on from it
abbrev pub attach_code : Bool → Bool → Option ℕ
attach_code true false = Some NOT_RETAINED
attach_code given resumed = None

-- where a session begins, whether it is resumed, whether members may be there, and whether a serial was given
abbrev pub attached_frame : List ℕ → ℕ → Bool → Bool → Bool → Frame
attached_frame channel place resumed presence given =
    frames.Attached channel (record { epoch = the_epoch; place = place }) (flags_of resumed presence) (attach_code given resumed)

-- the acknowledgement of a message, or its refusal with a code
abbrev pub answer_frame : ℕ → Option ℕ → Frame
answer_frame serial None = frames.Ack serial 1
answer_frame serial (Some code) = frames.Nack serial 1 code

-- the client's connection stands
abbrev pub connected_frame : Frame
connected_frame =
    frames.Connected (conn_text the_conn) (conn_text the_conn ++ codes "!" ++ fixed_text 16 16 0) CONNECTION_STATE_TTL MAX_IDLE_INTERVAL MAX_MESSAGE_SIZE None

-- what arrives of the text of a frame: the frame that it is read as, if it is one
abbrev pub arrival : Reads (Option Frame) → Option Frame
arrival (Ok arrived) = arrived
arrival (Err fault) = None

-- WHAT A FRAME SAYS

abbrev pub sends_if : Option ℕ → Body → Option Sent
sends_if None body = None
sends_if (Some serial) body = Some (Sends serial body)

-- what a frame from the client asks of the service
abbrev pub asked_by : Frame → Option Sent
asked_by (frames.Attach channel serial) = Some (Asks serial)
asked_by (frames.Message head items) = sends_if head.msg (Messages items)
asked_by (frames.Presence head items) = sends_if head.msg (Presence items)
asked_by (frames.Object head ops) = sends_if head.msg (Objects ops)
asked_by frame = None

-- the place of the entry that a frame is of
abbrev pub place_in : Option ChannelSerial → Option ℕ
place_in None = None
place_in (Some serial) = Some serial.place

abbrev pub placed_if : Option ℕ → Body → Option (ℕ × Body)
placed_if None body = None
placed_if (Some place) body = Some (place, body)

-- the entry that a frame from the service is: its place and its body
abbrev pub entry_in : Frame → Option (ℕ × Body)
entry_in (frames.Message head items) = placed_if (place_in head.serial) (Messages items)
entry_in (frames.Presence head items) = placed_if (place_in head.serial) (Presence items)
entry_in (frames.Object head ops) = placed_if (place_in head.serial) (Objects ops)
entry_in frame = None

-- where the session begins, and whether it is resumed
abbrev pub told_by : Frame → Option (ℕ × Bool)
told_by (frames.Attached channel serial flags code) = Some (serial.place, flags / RESUMED % 2 == 1)
told_by frame = None

-- the serial that is answered, and the code of a refusal
abbrev pub answered_by : Frame → Option (ℕ × Option ℕ)
answered_by (frames.Ack serial count) = Some (serial, None)
answered_by (frames.Nack serial count code) = Some (serial, Some code)
answered_by frame = None

-- the client is told that its connection stands
abbrev pub tells_connected : Frame → Bool
tells_connected (frames.Connected conn key ttl idle size code) = true
tells_connected frame = false

abbrev pub is_connected : Option Frame → Bool
is_connected None = false
is_connected (Some frame) = tells_connected frame

-- NUMBERS WITHIN THEIR TYPES

abbrev pub IsGivenInRange : Option Given → Type 0
IsGivenInRange (Some (Ours serial)) = IsSerial serial
IsGivenInRange given = ⊤

abbrev pub IsSentInRange : Sent → Type 0
IsSentInRange (Asks asked) = IsGivenInRange asked
IsSentInRange sent = ⊤
