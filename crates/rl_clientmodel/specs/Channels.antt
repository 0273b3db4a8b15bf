-- A channel as its client has it, and the steps that keep nothing more of it (RTL).
use Rattle.std.specs.Prelude.{ℕ, ◌+◌, Bool, true, false, ◌&&◌, ◌||◌, nat_le, if◌then◌else◌, List, [], ◌∷◌, Option, Some, None, option_map}
use Rattle.rl_numbers.specs.declared.limits.TheConstants.{ATTACH_TIMEOUT}
use Rattle.rl_ids.specs.declared.serials.ChannelSerial.{ChannelSerial}
use Rattle.rl_types.specs.declared.messages.Given.TheVariants.{Ours}
use Rattle.rl_types.specs.declared.frames.Frame.{Frame}
use Rattle.rl_types.specs.declared.frames.Frame.TheVariants as frames
use Rattle.rl_types.specs.declared.states.ChanState.{ChanState}
use Rattle.rl_types.specs.declared.states.ChanState.TheVariants as chan
use Rattle.rl_chansm.specs.declared.table.ChanEvent.{ChanEvent}
use Rattle.rl_chansm.specs.declared.table.ChanEvent.TheVariants as event
use Rattle.rl_chansm.specs.Table.{chan_table}
use Rattle.rl_chansm.specs.Rules.{clears_channel, forgets_serial, sends_attach, sends_detach}
use Rattle.rl_chansm.specs.Owed.{awaits_attached, lowered, raised, takes_detached, takes_error, takes_unasked}
use Rattle.rl_presmap.specs.Held.{PresenceMap}
use Rattle.rl_presmap.specs.declared.held.SyncState.TheVariants.{Closed}
use Rattle.rl_objsync.specs.Steps.{ObjectView, bare_view, ticked}
use Rattle.rl_clientmodel.specs.declared.runs.Run.{Run}
use Rattle.rl_clientmodel.specs.declared.steps.ChannelStep.{ChannelStep}
use Rattle.rl_clientmodel.specs.declared.steps.ChannelStep.TheVariants.{Moves, DetachedGot, ErrorGot, LinkLost, LinkOpened, Waited, Collects}

pub record ClientChannel : Type 0 where
  pub state : ChanState
  pub held : Option ChannelSerial  -- the serial of the last entry got, or the one told (RTL15b)
  pub asked : Option ChannelSerial  -- the serial that the last ATTACH gave (RTL4c1)
  pub since : ℕ  -- when the last ATTACH was sent
  pub owed : ℕ  -- the answers to ATTACH and DETACH that are owed on this link
  pub runs : List Run  -- of its record, the latest first
  pub away : Bool  -- it was DETACHED, SUSPENDED or FAILED since the latest run began
  pub members : PresenceMap  -- (RTP2)
  pub own : List (List ℕ × List ℕ)  -- the own members: client ids in order, each with its data (RTP17)
  pub objects : ObjectView  -- (RTO3)

abbrev pub no_members : PresenceMap
no_members = record { held = []; sync = Closed }

abbrev pub new_channel : ClientChannel
new_channel =
    record {
      state = chan.Initialized;
      held = None;
      asked = None;
      since = 0;
      owed = 0;
      runs = [];
      away = false;
      members = no_members;
      own = [];
      objects = bare_view;
    }

-- a channel of which a serial is held before it was ever attached
abbrev pub channel_from : ChannelSerial → ClientChannel
channel_from serial = record new_channel { held = Some serial }

-- A STEP OF THE TABLE

-- in DETACHED and FAILED there are no members, own ones included, and no objects (RTP5a)
abbrev pub cleared : Bool → ClientChannel → ClientChannel
cleared false channel = channel
cleared true channel = record channel { members = no_members; own = []; objects = bare_view }

-- in DETACHED, SUSPENDED and FAILED no serial is held (RTL15b1)
abbrev pub forgotten : Bool → ClientChannel → ClientChannel
forgotten false channel = channel
forgotten true channel = record channel { held = None; away = true }

-- the channel comes into this state
abbrev pub in_state : ChanState → ClientChannel → ClientChannel
in_state state channel = cleared (clears_channel state) (forgotten (forgets_serial state) (record channel { state = state }))

-- by an event of the table
abbrev pub moved : ChanEvent → ClientChannel → ClientChannel
moved event channel = in_state (chan_table channel.state event) channel

-- WHAT IS ASKED OF THE SERVICE

-- an ATTACH is sent, with the serial held (RTL4c1)
abbrev pub attach_sent : ℕ → ClientChannel → ClientChannel
attach_sent now channel = record channel { asked = channel.held; since = now; owed = raised channel.owed }

abbrev pub detach_sent : ClientChannel → ClientChannel
detach_sent channel = record channel { owed = raised channel.owed }

abbrev pub attach_frame : List ℕ → ClientChannel → Frame
attach_frame name channel = frames.Attach name (option_map (λ serial. Ours serial) channel.held)

-- the frame that an event makes the client send, in the state before it
abbrev pub asks : Bool → ChanEvent → List ℕ → ClientChannel → List Frame
asks connected event name channel =
    if sends_attach connected channel.state event then attach_frame name channel ∷ []
    else if sends_detach channel.state event then frames.Detach name ∷ []
    else []

-- the channel after an event of the table, with the answer that is owed from then on
abbrev pub told : Bool → ChanEvent → ℕ → ClientChannel → ClientChannel
told connected event now channel =
    if sends_attach connected channel.state event then attach_sent now (moved event channel)
    else if sends_detach channel.state event then detach_sent (moved event channel)
    else moved event channel

-- ANSWERS

-- one answer that was owed came
abbrev pub one_less : ClientChannel → ClientChannel
one_less channel = record channel { owed = lowered channel.owed }

-- a DETACHED: nobody asked for it, and the channel attaches again (RTL13a); or it is the answer that is awaited (RTL5d)
abbrev pub detached : Bool → ℕ → ClientChannel → ClientChannel
detached connected now channel =
    if takes_unasked channel.owed channel.state then told connected event.DetachedUnasked now channel
    else if takes_detached channel.owed channel.state then moved event.DetachedTaken (one_less channel)
    else one_less channel

-- what a DETACHED makes the client send
abbrev pub detached_asks : Bool → List ℕ → ClientChannel → List Frame
detached_asks connected name channel =
    if takes_unasked channel.owed channel.state then asks connected event.DetachedUnasked name channel else []

-- an ERROR that names the channel (RTL14)
abbrev pub failed : ClientChannel → ClientChannel
failed channel =
    if takes_error channel.owed channel.state then moved event.ErrorTaken (one_less channel) else one_less channel

-- THE LINK

-- the link is gone, and with it each answer that was owed
abbrev pub link_lost : ClientChannel → ClientChannel
link_lost channel = moved event.LinkDown (record channel { owed = 0 })

-- on a new link no answer is owed
abbrev pub link_opened : ClientChannel → ClientChannel
link_opened channel = record channel { owed = 0 }

-- TIME

-- an ATTACH that was not answered in time (RTL4f)
abbrev pub is_late : ℕ → ClientChannel → Bool
is_late now channel = awaits_attached channel.state && nat_le (channel.since + ATTACH_TIMEOUT) now

abbrev pub waited : ℕ → ClientChannel → ClientChannel
waited now channel = if is_late now channel then moved event.Timeout channel else channel

-- tombstones of objects are collected (RTO10)
abbrev pub collected : ℕ → ClientChannel → ClientChannel
collected now channel = record channel { objects = ticked now channel.objects }

-- ALL STEPS THAT KEEP NOTHING MORE

abbrev pub channel_after : ChannelStep → ClientChannel → ClientChannel
channel_after (Moves event connected now) channel = told connected event now channel
channel_after (DetachedGot connected now) channel = detached connected now channel
channel_after ErrorGot channel = failed channel
channel_after LinkLost channel = link_lost channel
channel_after LinkOpened channel = link_opened channel
channel_after (Waited now) channel = waited now channel
channel_after (Collects now) channel = collected now channel

-- the frames that a step makes the client send
abbrev pub channel_asks : ChannelStep → List ℕ → ClientChannel → List Frame
channel_asks (Moves event connected now) name channel = asks connected event name channel
channel_asks (DetachedGot connected now) name channel = detached_asks connected name channel
channel_asks step name channel = []
