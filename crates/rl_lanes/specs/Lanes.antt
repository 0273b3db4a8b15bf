-- A lane: one channel of one client, with what lies between it and the service on the client's latest transport.
use Rattle.std.specs.Prelude.{ℕ, List, [], Option, Some, None, option_map}
use Rattle.rl_ids.specs.declared.serials.ChannelSerial.{ChannelSerial}
use Rattle.rl_types.specs.declared.messages.Entry.{Entry}
use Rattle.rl_types.specs.declared.messages.Given.{Given}
use Rattle.rl_types.specs.declared.messages.Given.TheVariants.{Ours}
use Rattle.rl_types.specs.declared.presence.PresenceItem.{PresenceItem}
use Rattle.rl_types.specs.declared.objects.ObjectState.{ObjectState}
use Rattle.rl_types.specs.declared.frames.Cursor.{Cursor}
use Rattle.rl_types.specs.declared.frames.Frame.{Frame}
use Rattle.rl_types.specs.declared.frames.Frame.TheVariants as frames
use Rattle.rl_events.specs.declared.channel.ChannelEvent.{ChannelEvent}
use Rattle.rl_pages.specs.Frames.{member_frame, object_frame}
use Rattle.rl_clientmodel.specs.Channels.{ClientChannel}
use Rattle.rl_actormodel.specs.declared.parts.Session.{Session}
use Rattle.rl_actormodel.specs.Replies.{Joining}
use Rattle.rl_actormodel.specs.Attaches.{attach_code, flags_of}
use Rattle.rl_actormodel.specs.Reads.{entry_frame}

-- the channel's name, the epoch of the service's run, and its site
pub record Setup : Type 0 where
  pub name : List ℕ
  pub epoch : ℕ
  pub site : List ℕ

-- what the client asked and the service has not answered: an ATTACH or a DETACH on its way, or an ATTACH that the actor has
-- in hand
pub data Ask : Type 0 where
  ToAttach : (given : Option Given) → Ask  -- with the serial that it gave
  ToDetach : Ask

-- a serial of the client as an ATTACH gives it (RTL4c1)
abbrev pub as_given : Option ChannelSerial → Option Given
as_given serial = option_map (λ (s : ChannelSerial). Ours s) serial

-- a page of a sync, with what the channel replied: whether it is the last, and the place of the last entry then (RTP18, RTO5)
pub data Page : Type 0 where
  OfMembers : (at : Cursor) → (items : List PresenceItem) → (last : ℕ) → Page
  EndOfMembers : (at : Cursor) → Page
  OfObjects : (at : Cursor) → (states : List ObjectState) → (last : ℕ) → Page
  EndOfObjects : (at : Cursor) → Page

-- what was put out for the client on this channel, and is not got
pub data Coming : Type 0 where
  -- ATTACHED, which answers an ATTACH that gave this serial: its Join was the channel's event of this number, counted from 0,
  -- and was answered so
  Tells : (given : Option Given) → (number : ℕ) → (joining : Joining) → Coming
  Leaves : Coming  -- DETACHED
  Fails : (given : Option Given) → (code : ℕ) → Coming  -- ERROR, which answers an ATTACH that gave this serial
  Gives : (epoch : ℕ) → (entry : Entry) → Coming  -- an entry
  Shows : (page : Page) → Coming  -- a page

-- a page as a frame
abbrev pub page_frame : List ℕ → Page → Frame
page_frame name (OfMembers at items last) = member_frame name at items
page_frame name (EndOfMembers at) = member_frame name at []
page_frame name (OfObjects at states last) = object_frame name at states
page_frame name (EndOfObjects at) = object_frame name at []

-- what comes as a frame
abbrev pub frame_of : Setup → Coming → Frame
frame_of setup (Tells given number joining) =
    frames.Attached setup.name joining.serial (flags_of joining) (attach_code given joining.resumed)
frame_of setup Leaves = frames.Detached setup.name None
frame_of setup (Fails given code) = frames.Error (Some setup.name) code
frame_of setup (Gives epoch entry) = entry_frame setup.name epoch entry
frame_of setup (Shows page) = page_frame setup.name page

-- what lies between the client and the service on the client's latest transport
pub record Link : Type 0 where
  pub coming : List Coming  -- in order
  pub asks : List Ask  -- in order
  pub session : Option Session  -- of the channel, at the actor

-- a transport on which nothing was said yet
abbrev pub new_link : Link
new_link = record { coming = []; asks = []; session = None }

pub record Lane : Type 0 where
  pub past : List ChannelEvent  -- what the channel took, the latest first
  pub channel : Option ClientChannel  -- as the client has it, where it knows it
  pub link : Option Link  -- the client's latest transport, where there is one that is not cut
  pub joins : List ℕ  -- the numbers of the Joins that were made on its links while they stood, the latest first
  pub begun : List ℕ  -- for each run of the record the number of the Join whose answer began it, the latest first

-- before anything happened
abbrev pub new_lane : Lane
new_lane = record { past = []; channel = None; link = None; joins = []; begun = [] }
