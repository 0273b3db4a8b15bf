-- What moves a lane. Each move is possible at any time: where it has nothing to move it does nothing.
use Rattle.std.specs.Prelude.{ℕ, Bool, true, false, ◌&&◌, not, if◌then◌else◌, List, [], ◌∷◌, ◌++◌, length, map, flat_map, Option, Some, None, option_map}
use Rattle.rl_ids.specs.declared.serials.ChannelSerial.{ChannelSerial}
use Rattle.rl_types.specs.declared.messages.Given.{Given}
use Rattle.rl_types.specs.declared.frames.Frame.{Frame}
use Rattle.rl_types.specs.declared.frames.Frame.TheVariants as frames
use Rattle.rl_events.specs.declared.channel.ChannelEvent.{ChannelEvent}
use Rattle.rl_events.specs.declared.channel.ChannelEvent.TheVariants.{Join, Read}
use Rattle.rl_events.specs.declared.channel.ChannelReply.{ChannelReply}
use Rattle.rl_events.specs.declared.channel.ChannelReply.TheVariants as replies
use Rattle.rl_events.specs.declared.calls.Reply.TheVariants.{Chan}
use Rattle.rl_chansm.specs.declared.table.ChanEvent.TheVariants as event
use Rattle.rl_model.specs.Reply.{reply}
use Rattle.rl_pages.specs.Frames.{page_at, end_at}
use Rattle.rl_pages.specs.State.{Sequences, next_event, next_number, page_absorbed, may_end}
use Rattle.rl_clientmodel.specs.declared.steps.ChannelStep.{ChannelStep}
use Rattle.rl_clientmodel.specs.declared.steps.ChannelStep.TheVariants as kinds
use Rattle.rl_clientmodel.specs.Channels.{ClientChannel, channel_after, channel_asks, channel_from}
use Rattle.rl_clientmodel.specs.Answers as answers
use Rattle.rl_clientmodel.specs.Answers.{attached_got, is_answer}
use Rattle.rl_clientmodel.specs.Runs.{goes_on_answered}
use Rattle.rl_clientmodel.specs.Entries.{entry_got, object_page_got, page_got}
use Rattle.rl_clientmodel.specs.Commands.{channel_or_new}
use Rattle.rl_actormodel.specs.declared.parts.Session.{Session}
use Rattle.rl_actormodel.specs.Replies.{Joining, joining_in, Reading, Came, Behind, Unread, reading}
use Rattle.rl_actormodel.specs.Attaches.{flags_of, new_session}
use Rattle.rl_actormodel.specs.Reads.{entry_head, moved_on}
use Rattle.rl_actormodel.specs.Pagings.{ended_here, paged}
use Rattle.rl_lanes.specs.Lanes.{Setup, Ask, ToAttach, ToDetach, Page, OfMembers, EndOfMembers, OfObjects, EndOfObjects, Coming, Tells, Leaves, Fails, Gives, Shows, Link, new_link, Lane, new_lane}

pub data Move : Type 0 where
  -- the channel takes an event of somebody else: of another client, of an earlier transport of this one, or of its host
  Happens : (one : ChannelEvent) → Move
  -- the client attaches, with a serial or not, and detaches, where its connection is CONNECTED or not
  Attaches : (connected : Bool) → (now : ℕ) → Move
  StartsAt : (serial : ChannelSerial) → (connected : Bool) → (now : ℕ) → Move
  Detaches : (connected : Bool) → (now : ℕ) → Move
  -- a serial of the channel came with a recovery key
  Recovers : (serial : ChannelSerial) → Move
  -- time passes: an ATTACH is not answered in time, tombstones of objects are collected
  Waits : (now : ℕ) → Move
  Collects : (now : ℕ) → Move
  -- the client's own members change
  Keeps : (own : List (List ℕ × List ℕ)) → Move
  -- the connection is SUSPENDED, CLOSED, FAILED
  Suspends : (now : ℕ) → Move
  Closes : (now : ℕ) → Move
  Breaks : (now : ℕ) → Move
  -- the link is lost; there is a new one; the connection stands on it
  Unlinks : Move
  Opens : Move
  ComesUp : (now : ℕ) → Move
  -- the client gets the first of what is coming
  Gets : (connected : Bool) → (now : ℕ) → Move
  -- the actor of the link joins the channel, which has this number, for the first ask: its sync gets this number
  Joins : (number sequence : ℕ) → Move
  -- it answers the first ask with ERROR, or DETACH with DETACHED
  Refuses : (code : ℕ) → Move
  Parts : Move
  -- it reads so many entries for its session, or a page
  Reads : (most : ℕ) → Move
  TurnsPage : Move

-- WHAT THE CLIENT SENDS

-- what a frame of the client asks
abbrev pub ask_in : Frame → List Ask
ask_in (frames.Attach name given) = ToAttach given ∷ []
ask_in (frames.Detach name) = ToDetach ∷ []
ask_in frame = []

abbrev pub asks_in : List Frame → List Ask
asks_in sent = flat_map ask_in sent

-- asks are sent
abbrev pub with_asks : List Ask → Link → Link
with_asks more link = record link { asks = link.asks ++ more }

-- A STEP OF THE CHANNEL AS THE CLIENT HAS IT

-- a step of this channel, with what it makes the client ask
abbrev pub steps : Setup → ChannelStep → ClientChannel → Lane → Lane
steps setup step channel lane =
    record lane {
      channel = Some (channel_after step channel);
      link = option_map (with_asks (asks_in (channel_asks step setup.name channel))) lane.link;
    }

-- a step of the channel where the client knows it
abbrev pub steps_known : Setup → ChannelStep → Option ClientChannel → Lane → Lane
steps_known setup step None lane = lane
steps_known setup step (Some channel) lane = steps setup step channel lane

-- from a serial, where the client doesn't know the channel
abbrev pub starts_at : Setup → ChannelSerial → ChannelStep → Option ClientChannel → Lane → Lane
starts_at setup serial step None lane = steps setup step (channel_from serial) lane
starts_at setup serial step (Some channel) lane = lane

abbrev pub recovers : ChannelSerial → Option ClientChannel → Lane → Lane
recovers serial None lane = record lane { channel = Some (channel_from serial) }
recovers serial (Some channel) lane = lane

abbrev pub with_own_members : List (List ℕ × List ℕ) → ClientChannel → ClientChannel
with_own_members own channel = record channel { own = own }

-- WHAT THE CLIENT GETS

-- an ATTACHED begins a run
abbrev pub begins : ℕ → ChannelSerial → ClientChannel → Bool
begins flags told channel =
    is_answer channel && not (goes_on_answered channel.asked (answers.is_resumed flags) told channel.runs)

-- the numbers of the Joins that began runs, with one more or not
abbrev pub begun_with : Bool → ℕ → List ℕ → List ℕ
begun_with false number begun = begun
begun_with true number begun = number ∷ begun

-- a page is got (RTP18, RTO5)
abbrev pub shown_got : Page → ℕ → ClientChannel → ClientChannel
shown_got (OfMembers at items last) now channel = page_got (Some at) items channel
shown_got (EndOfMembers at) now channel = page_got (Some at) [] channel
shown_got (OfObjects at states last) now channel = object_page_got (Some at) states now channel
shown_got (EndOfObjects at) now channel = object_page_got (Some at) [] now channel

-- what the client makes of its channel
abbrev pub got : Setup → Coming → Bool → ℕ → ClientChannel → ClientChannel
got setup (Tells given number joining) connected now channel = attached_got (flags_of joining) joining.serial channel
got setup Leaves connected now channel = channel_after (kinds.DetachedGot connected now) channel
got setup (Fails given code) connected now channel = channel_after kinds.ErrorGot channel
got setup (Gives epoch entry) connected now channel = entry_got (entry_head setup.name epoch entry).serial entry.body now channel
got setup (Shows page) connected now channel = shown_got page now channel

-- and what that makes it ask
abbrev pub asked_by : Setup → Coming → Bool → ℕ → ClientChannel → List Ask
asked_by setup Leaves connected now channel = asks_in (channel_asks (kinds.DetachedGot connected now) setup.name channel)
asked_by setup coming connected now channel = []

abbrev pub begun_by : Coming → ClientChannel → List ℕ → List ℕ
begun_by (Tells given number joining) channel begun = begun_with (begins (flags_of joining) joining.serial channel) number begun
begun_by coming channel begun = begun

-- a channel that is not known gets nothing
abbrev pub gets_known : Setup → Coming → Bool → ℕ → Option ClientChannel → Link → Lane → Lane
gets_known setup coming connected now None link lane = record lane { link = Some link }
gets_known setup coming connected now (Some channel) link lane =
    record lane {
      channel = Some (got setup coming connected now channel);
      link = Some (with_asks (asked_by setup coming connected now channel) link);
      begun = begun_by coming channel lane.begun;
    }

abbrev pub gets_first : Setup → Bool → ℕ → List Coming → Link → Lane → Lane
gets_first setup connected now [] link lane = lane
gets_first setup connected now (coming ∷ more) link lane =
    gets_known setup coming connected now lane.channel (record link { coming = more }) lane

abbrev pub gets : Setup → Bool → ℕ → Option Link → Lane → Lane
gets setup connected now None lane = lane
gets setup connected now (Some link) lane = gets_first setup connected now link.coming link lane

-- WHAT THE ACTOR DOES

-- the channel was joined (RTL4)
abbrev pub joined_with : Setup → Option Given → List Ask → ℕ → ℕ → Option Joining → Link → Lane → Lane
joined_with setup given more number sequence None link lane = lane
joined_with setup given more number sequence (Some joining) link lane =
    record lane {
      past = Join given ∷ lane.past;
      link = Some (record {
        coming = link.coming ++ Tells given (length lane.past) joining ∷ [];
        asks = more;
        session = Some (new_session setup.name number joining sequence);
      });
      joins = length lane.past ∷ lane.joins;
    }

abbrev pub joins_first : Setup → ℕ → ℕ → List Ask → Link → Lane → Lane
joins_first setup number sequence (ToAttach given ∷ more) link lane =
    joined_with setup given more number sequence
    (joining_in (Chan (reply setup.epoch setup.site lane.past (Join given)))) link lane
joins_first setup number sequence asks link lane = lane

-- ERROR: the directory has no number for the channel. So there never was a session of it, and there is none
abbrev pub refuses_first : ℕ → List Ask → Link → Lane → Lane
refuses_first code (ToAttach given ∷ more) link lane =
    record lane { link = Some (record { coming = link.coming ++ Fails given code ∷ []; asks = more; session = None }) }
refuses_first code asks link lane = lane

-- DETACHED: the session is given up (RTL5d)
abbrev pub parts_first : List Ask → Link → Lane → Lane
parts_first (ToDetach ∷ more) link lane =
    record lane { link = Some (record { coming = link.coming ++ Leaves ∷ []; asks = more; session = None }) }
parts_first asks link lane = lane

-- the end pages, of the members before that of the objects
abbrev pub end_pages : Sequences → List Coming
end_pages pages =
    (if pages.members.asked then Shows (EndOfMembers (end_at pages.sequence)) ∷ [] else [])
    ++ (if pages.objects.asked then Shows (EndOfObjects (end_at pages.sequence)) ∷ [] else [])

-- they are put out where the sync may end at the session's position
abbrev pub ends_here : Session → List Coming
ends_here session = if may_end session.position session.pages then end_pages session.pages else []

-- the channel takes an event of the session, which puts this out and moves on so
abbrev pub puts : ChannelEvent → List Coming → Session → Link → Lane → Lane
puts one coming session link lane =
    record lane { past = one ∷ lane.past; link = Some (record link { coming = link.coming ++ coming; session = Some session }) }

-- entries were read (RTL7); or what follows the position is not retained, which ends the actor
abbrev pub reads_by : ChannelEvent → Reading → Session → Link → Lane → Lane
reads_by one (Came entries) session link lane =
    puts one (map (Gives session.epoch) entries ++ ends_here (moved_on (length entries) session)) (ended_here (moved_on (length entries) session)) link lane
reads_by one (Behind first) session link lane = record lane { past = one ∷ lane.past }
reads_by one Unread session link lane = record lane { past = one ∷ lane.past }

abbrev pub reads : Setup → ℕ → Option Session → Link → Lane → Lane
reads setup most None link lane = lane
reads setup most (Some session) link lane =
    reads_by (Read session.position most) (reading (Chan (reply setup.epoch setup.site lane.past (Read session.position most)))) session link lane

-- the page that a reply brings (RTP18a, RTO5a)
abbrev pub page_in : ChannelReply → Sequences → List Coming
page_in (replies.Members items last head) pages = Shows (OfMembers (page_at pages.sequence (next_number pages.members)) items head) ∷ []
page_in (replies.Objects states last head) pages = Shows (OfObjects (page_at pages.sequence (next_number pages.objects)) states head) ∷ []
page_in other pages = []

abbrev pub turns_to : ChannelEvent → ChannelReply → Session → Link → Lane → Lane
turns_to one told session link lane = puts one (page_in told session.pages) (paged (page_absorbed told session.pages) session) link lane

abbrev pub turns_page : Setup → Option ChannelEvent → Session → Link → Lane → Lane
turns_page setup None session link lane = lane
turns_page setup (Some one) session link lane = turns_to one (reply setup.epoch setup.site lane.past one) session link lane

abbrev pub turns : Setup → Option Session → Link → Lane → Lane
turns setup None link lane = lane
turns setup (Some session) link lane = turns_page setup (next_event session.pages) session link lane

-- what is done on the link, where there is one
abbrev pub on_link : (Link → Lane → Lane) → Option Link → Lane → Lane
on_link act None lane = lane
on_link act (Some link) lane = act link lane

-- ALL MOVES

abbrev pub lane_after : Setup → Move → Lane → Lane
lane_after setup (Happens one) lane = record lane { past = one ∷ lane.past }
lane_after setup (Attaches connected now) lane =
    steps setup (kinds.Moves event.AttachAsked connected now) (channel_or_new lane.channel) lane
lane_after setup (StartsAt serial connected now) lane =
    starts_at setup serial (kinds.Moves event.AttachAsked connected now) lane.channel lane
lane_after setup (Detaches connected now) lane =
    steps_known setup (kinds.Moves (event.DetachAsked connected) connected now) lane.channel lane
lane_after setup (Recovers serial) lane = recovers serial lane.channel lane
lane_after setup (Waits now) lane = steps_known setup (kinds.Waited now) lane.channel lane
lane_after setup (Collects now) lane = steps_known setup (kinds.Collects now) lane.channel lane
lane_after setup (Keeps own) lane = record lane { channel = option_map (with_own_members own) lane.channel }
lane_after setup (Suspends now) lane = steps_known setup (kinds.Moves event.ConnSuspended true now) lane.channel lane
lane_after setup (Closes now) lane = steps_known setup (kinds.Moves event.ConnClosed true now) lane.channel lane
lane_after setup (Breaks now) lane = steps_known setup (kinds.Moves event.ConnFailed true now) lane.channel lane
lane_after setup Unlinks lane = record (steps_known setup kinds.LinkLost lane.channel lane) { link = None }
lane_after setup Opens lane = record (steps_known setup kinds.LinkOpened lane.channel lane) { link = Some new_link }
lane_after setup (ComesUp now) lane = steps_known setup (kinds.Moves event.ConnUp true now) lane.channel lane
lane_after setup (Gets connected now) lane = gets setup connected now lane.link lane
lane_after setup (Joins number sequence) lane =
    on_link (λ (link : Link). joins_first setup number sequence link.asks link) lane.link lane
lane_after setup (Refuses code) lane = on_link (λ (link : Link). refuses_first code link.asks link) lane.link lane
lane_after setup Parts lane = on_link (λ (link : Link). parts_first link.asks link) lane.link lane
lane_after setup (Reads most) lane = on_link (λ (link : Link). reads setup most link.session link) lane.link lane
lane_after setup TurnsPage lane = on_link (λ (link : Link). turns setup link.session link) lane.link lane

-- after all of them, the latest first
abbrev pub lane_of : Setup → List Move → Lane
lane_of setup [] = new_lane
lane_of setup (move ∷ before) = lane_after setup move (lane_of setup before)
