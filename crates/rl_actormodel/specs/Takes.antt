-- What an actor does with a frame that it takes up.
use Rattle.std.specs.Prelude.{ℕ, Bool, true, false, not, is_none, if◌then◌else◌, List, [], ◌∷◌, map, Option, Some, None, Result, Ok, Err, unwrap_or}
use Rattle.rl_types.specs.declared.messages.Body.{Body}
use Rattle.rl_types.specs.declared.messages.Body.TheVariants.{Messages, Presence, Objects}
use Rattle.rl_types.specs.declared.messages.Item.{Item}
use Rattle.rl_types.specs.declared.presence.PresenceItem.{PresenceItem}
use Rattle.rl_types.specs.declared.frames.Head.{Head}
use Rattle.rl_types.specs.declared.frames.Frame.{Frame}
use Rattle.rl_types.specs.declared.frames.Frame.TheVariants as frames
use Rattle.rl_types.specs.declared.frames.WireFault.{WireFault}
use Rattle.rl_types.specs.declared.frames.WireFault.TheVariants.{NoMemory}
use Rattle.rl_events.specs.declared.calls.End.TheVariants as ends
use Rattle.rl_actormodel.specs.declared.parts.Asked.{Asked}
use Rattle.rl_actormodel.specs.declared.parts.Publish.{Publish}
use Rattle.rl_actormodel.specs.declared.parts.Holder.{Holder}
use Rattle.rl_actormodel.specs.declared.parts.Wish.{Wish}
use Rattle.rl_actormodel.specs.declared.parts.Wish.TheVariants as wishes
use Rattle.rl_names.specs.Names.{at, without}
use Rattle.rl_actormodel.specs.State.{State, wishing, put}
use Rattle.rl_actormodel.specs.Ends.{ended_by}

-- ATTACH AND DETACH

-- the directory is asked for a channel's number, and is not asked again for one that is known (RTL4; the directory is
-- this project's own)
abbrev pub attach_wish : Asked → Option ℕ → Wish
attach_wish asked None = wishes.AskToAttach asked
attach_wish asked (Some number) = wishes.Join asked number

-- DETACH ends the session, where there is one, and is answered by DETACHED in any case (RTL5)
abbrev pub detached : List ℕ → ℕ → State → State
detached channel now s = put (frames.Detached channel None) now (record s { sessions = without channel s.sessions })

-- PUBLISHING

-- a message without a client id takes the hello's (RSA7, RSL1m)
abbrev pub client_or : Option (List ℕ) → Option (List ℕ) → Option (List ℕ)
client_or (Some client) who = Some client
client_or None who = who

-- the message as it is put (RSL1m)
abbrev pub signed : Option (List ℕ) → Item → Item
signed who item = record item { client = client_or item.client who }

-- so does a presence item, whose client id is empty where it has none; where both have none it stays empty (RTP8)
abbrev pub member_client : List ℕ → Option (List ℕ) → List ℕ
member_client [] who = unwrap_or who []
member_client (byte ∷ more) who = byte ∷ more

-- the presence item as it is put (RTP8)
abbrev pub signed_member : Option (List ℕ) → PresenceItem → PresenceItem
signed_member who item = record item { client = member_client item.client who }

-- a put is begun on the connection that the actor serves (RTN7b)
abbrev pub begin_wish : Publish → Option Holder → Wish
begin_wish p None = wishes.Nothing
begin_wish p (Some holder) = wishes.Begin p holder

-- a body with its message serial is to be put, on the actor's connection (RTN7b). One without a serial does not come:
-- it is a bad frame
abbrev pub publish : Head → Option ℕ → Body → State → State
publish head None body s = s
publish head (Some serial) body s = wishing (begin_wish (record { channel = head.channel; serial = serial; body = body }) s.holder) s

-- CLOSE

-- the book is told first (RTN12)
abbrev pub close_wish : Option Holder → Wish
close_wish None = wishes.Nothing
close_wish (Some holder) = wishes.Close holder

-- WHAT CAME

-- a frame; one of an action that is not known; or bytes that are no frame, or one that lacks its message serial. (This
-- project's own.)
pub data Came : Type 0 where
  A : (frame : Frame) → Came
  Unknown : Came
  Bad : (bytes : List ℕ) → Came

-- a MESSAGE, PRESENCE or OBJECT has to have a message serial (RTN7b)
abbrev pub lacks_serial : Frame → Bool
lacks_serial (frames.Message head items) = is_none head.msg
lacks_serial (frames.Presence head items) = is_none head.msg
lacks_serial (frames.Object head ops) = is_none head.msg
lacks_serial frame = false

-- what came in these bytes, which read so; nothing where there was no memory to read them. (This project's own.)
abbrev pub came_in : List ℕ → Result (Option Frame) WireFault → Option Came
came_in bytes (Ok (Some frame)) = Some (if lacks_serial frame then Bad bytes else A frame)
came_in bytes (Ok None) = Some Unknown
came_in bytes (Err NoMemory) = None
came_in bytes (Err fault) = Some (Bad bytes)

-- it is a frame only with the message serial that it has to have. That bad bytes are no good frame is for whoever reads
-- them to say: `came_in` is what they read as
abbrev pub has_form : Came → Bool
has_form (A frame) = not (lacks_serial frame)
has_form Unknown = true
has_form (Bad bytes) = true

-- FRAMES

-- what each frame leads to; one of another action is passed over. (This project's own.)
abbrev pub take : Frame → ℕ → State → State
take (frames.Attach channel serial) now s = wishing (attach_wish (record { channel = channel; serial = serial }) (at channel s.numbers)) s
take (frames.Detach channel) now s = detached channel now s
take (frames.Message head items) now s = publish head head.msg (Messages (map (signed s.hello.client) items)) s
take (frames.Presence head items) now s = publish head head.msg (Presence (map (signed_member s.hello.client) items)) s
take (frames.Object head ops) now s = publish head head.msg (Objects ops) s
take frames.Close now s = wishing (close_wish s.holder) s
take frames.Heartbeat now s = put frames.Heartbeat now s
take frame now s = s

-- what that leads to: an action that is not known is passed over, bad bytes end the actor. (This project's own.)
abbrev pub take_any : Came → ℕ → State → State
take_any (A frame) now s = take frame now s
take_any Unknown now s = s
take_any (Bad bytes) now s = ended_by (ends.BadFrame bytes) s

-- whatever came, it is the last that came. (This project's own.)
abbrev pub took : Came → ℕ → State → State
took came now s = take_any came now (record s { last_in = now })
