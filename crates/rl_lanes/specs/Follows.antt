-- How a client's record follows what the service says: what the client will have taken once it got all that is coming.
use Rattle.std.specs.Prelude.{◌≡◌, ◌≢◌, ◌⊎◌, ⊤, ℕ, zero, suc, ◌-◌, ◌^◌, ◌≤◌, ◌<◌, Bool, true, List, [], ◌∷◌, ◌++◌, length, Option, Some, None, slice_get}
use Rattle.std.specs.List.{AllByRecursion}
use Rattle.rl_ids.specs.declared.serials.ChannelSerial.{ChannelSerial}
use Rattle.rl_types.specs.declared.messages.Entry.{Entry}
use Rattle.rl_types.specs.declared.messages.Given.{Given}
use Rattle.rl_types.specs.declared.states.ChanState.{ChanState}
use Rattle.rl_types.specs.declared.states.ChanState.TheVariants as chan
use Rattle.rl_events.specs.declared.channel.ChannelEvent.{ChannelEvent}
use Rattle.rl_events.specs.declared.channel.ChannelEvent.TheVariants.{Join}
use Rattle.rl_events.specs.declared.channel.ChannelReply.TheVariants.{Joined}
use Rattle.rl_model.specs.Verdict.{log, head}
use Rattle.rl_model.specs.Reply.{is_resumed, joined_place, reply}
use Rattle.rl_clientmodel.specs.declared.runs.Run.{Run}
use Rattle.rl_clientmodel.specs.Channels.{ClientChannel}
use Rattle.rl_clientmodel.specs.Commands.{channel_or_new}
use Rattle.rl_actormodel.specs.declared.parts.Session.{Session}
use Rattle.rl_actormodel.specs.Replies.{Joining}
use Rattle.rl_lanes.specs.Lanes.{Setup, Ask, ToAttach, ToDetach, as_given, Page, Coming, Tells, Leaves, Fails, Gives, Shows, Link, Lane}
use Rattle.rl_lanes.specs.Moves.{Move, lane_of}
use Rattle.rl_lanes.specs.Sound.{IsAmong, run_end, AreSoundRuns}

-- WHAT A CLIENT TAKES, the latest first

pub data Took : Type 0 where
  Began : (number : ℕ) → (joining : Joining) → Took  -- the answer that it awaited
  TookEntry : (entry : Entry) → Took
  TookPage : (page : Page) → Took

-- the place that it has come to
abbrev pub place_in : List Took → ℕ
place_in [] = 0
place_in (Began number joining ∷ before) = joining.serial.place
place_in (TookEntry entry ∷ before) = suc (place_in before)
place_in (TookPage page ∷ before) = place_in before

-- where no answer is awaited, all that comes is taken
abbrev pub live : List Took → List Coming → List Took
live took [] = took
live took (Gives epoch entry ∷ more) = live (TookEntry entry ∷ took) more
live took (Shows page ∷ more) = live (TookPage page ∷ took) more
live took (Tells given number joining ∷ more) = live took more
live took (Leaves ∷ more) = live took more
live took (Fails given code ∷ more) = live took more

-- where so many answers are awaited, nothing is taken before the last of them
abbrev pub awaited : ℕ → List Took → List Coming → List Took
awaited zero took coming = live took coming
awaited (suc n) took [] = took
awaited (suc zero) took (Tells given number joining ∷ more) = live (Began number joining ∷ took) more
awaited (suc (suc n)) took (Tells given number joining ∷ more) = awaited (suc n) took more
awaited (suc n) took (Leaves ∷ more) = awaited n took more
awaited (suc n) took (Fails given code ∷ more) = awaited n took more
awaited (suc n) took (Gives epoch entry ∷ more) = awaited (suc n) took more
awaited (suc n) took (Shows page ∷ more) = awaited (suc n) took more

-- WHAT FITS

-- what is taken is of this epoch, each entry is at the place after the one before, and no answer is among it
abbrev pub IsLive : ℕ → List Took → List Coming → Type 0
IsLive epoch took [] = ⊤
IsLive epoch took (Gives other entry ∷ more) = (other ≡ epoch) × (entry.place ≡ suc (place_in took)) × IsLive epoch (TookEntry entry ∷ took) more
IsLive epoch took (Shows page ∷ more) = IsLive epoch (TookPage page ∷ took) more
IsLive epoch took (Tells given number joining ∷ more) = ⊥
IsLive epoch took (Leaves ∷ more) = ⊥
IsLive epoch took (Fails given code ∷ more) = ⊥

-- so behind the last answer that is awaited, and of what comes before it nothing is said
abbrev pub Fits : ℕ → ℕ → List Took → List Coming → Type 0
Fits epoch zero took coming = IsLive epoch took coming
Fits epoch (suc n) took [] = ⊤
Fits epoch (suc zero) took (Tells given number joining ∷ more) = IsLive epoch (Began number joining ∷ took) more
Fits epoch (suc (suc n)) took (Tells given number joining ∷ more) = Fits epoch (suc n) took more
Fits epoch (suc n) took (Leaves ∷ more) = Fits epoch n took more
Fits epoch (suc n) took (Fails given code ∷ more) = Fits epoch n took more
Fits epoch (suc n) took (Gives other entry ∷ more) = Fits epoch (suc n) took more
Fits epoch (suc n) took (Shows page ∷ more) = Fits epoch (suc n) took more

-- ASKS

-- the asks that are answered by what is coming, in order
abbrev pub answered_in : List Coming → List Ask
answered_in [] = []
answered_in (Tells given number joining ∷ more) = ToAttach given ∷ answered_in more
answered_in (Leaves ∷ more) = ToDetach ∷ answered_in more
answered_in (Fails given code ∷ more) = ToAttach given ∷ answered_in more
answered_in (Gives epoch entry ∷ more) = answered_in more
answered_in (Shows page ∷ more) = answered_in more

-- the asks whose answers the client has not got, in order
abbrev pub outstanding : Link → List Ask
outstanding link = answered_in link.coming ++ link.asks

-- this holds of the last one, where there is one
abbrev pub OfLast : (Ask → Type 0) → List Ask → Type 0
OfLast P [] = ⊤
OfLast P (ask ∷ []) = P ask
OfLast P (ask ∷ next ∷ asks) = OfLast P (next ∷ asks)

-- WHAT THE CLIENT HOLDS

-- what the claims see of a channel
pub record Part : Type 0 where
  pub state : ChanState
  pub held : Option ChannelSerial
  pub asked : Option ChannelSerial
  pub owed : ℕ
  pub runs : List Run
  pub away : Bool

abbrev pub part_of : ClientChannel → Part
part_of channel =
    record {
      state = channel.state;
      held = channel.held;
      asked = channel.asked;
      owed = channel.owed;
      runs = channel.runs;
      away = channel.away;
    }

-- where a record ends
abbrev pub end_of : List Run → ℕ
end_of [] = 0
end_of (run ∷ runs) = run_end run

-- a place is the end of the record, where it has runs
abbrev pub EndsAt : List Run → ℕ → Type 0
EndsAt [] place = ⊤
EndsAt (run ∷ runs) place = place ≡ run_end run

-- a serial is that of the end; without one there are no runs, or the channel was away
abbrev pub EndsWith : List Run → Bool → Option ChannelSerial → Type 0
EndsWith runs away None = (runs ≡ []) ⊎ (away ≡ true)
EndsWith runs away (Some serial) = EndsAt runs serial.place

-- the last ATTACH that was sent gave the end of the record
abbrev pub IsAskOf : List Run → Bool → Option ChannelSerial → Ask → Type 0
IsAskOf runs away asked (ToAttach given) = (given ≡ as_given asked) × EndsWith runs away asked
IsAskOf runs away asked ToDetach = ⊤

-- WHAT COMES IS TRUE

-- the numbers of the runs so far are below this one
abbrev pub AllBelow : ℕ → List ℕ → Type 0
AllBelow number [] = ⊤
AllBelow number (one ∷ more) = one < number

-- an ATTACHED tells what the Join of this number was replied, which was made for this client when the log reached the end of
-- the record at least
pub record IsTold (setup : Setup) (past : List ChannelEvent) (end : ℕ) (joins begun : List ℕ) (given : Option Given) (number : ℕ) (joining : Joining) : Type 0 where
  pub before : List ChannelEvent
  pub later : List ChannelEvent
  pub taken : past ≡ later ++ Join given ∷ before
  pub at : length before ≡ number
  pub replied : reply setup.epoch setup.site before (Join given) ≡ Joined joining.serial joining.resumed joining.presence joining.objects
  pub resumes : is_resumed setup.epoch setup.site before given ≡ joining.resumed
  pub tells : joining.serial ≡ record { epoch = setup.epoch; place = joined_place setup.epoch setup.site before given }
  pub within : joining.serial.place ≤ head setup.site past
  pub low : end ≤ head setup.site before
  pub own : IsAmong joins number
  pub above : AllBelow number begun

-- an entry is that of the log at its place
abbrev pub IsTrue : Setup → List ChannelEvent → ℕ → List ℕ → List ℕ → Coming → Type 0
IsTrue setup past end joins begun (Tells given number joining) = IsTold setup past end joins begun given number joining
IsTrue setup past end joins begun (Gives epoch entry) = (k : ℕ) × (entry.place ≡ suc k) × (slice_get (log setup.site past) k ≡ Some entry)
IsTrue setup past end joins begun Leaves = ⊤
IsTrue setup past end joins begun (Fails given code) = ⊤
IsTrue setup past end joins begun (Shows page) = ⊤

-- THE SESSION

-- it stands where the client will stand once it got all that was put out
abbrev pub Matches : Setup → List Took → Option Session → Type 0
Matches setup took None = ⊤
Matches setup took (Some session) = (session.epoch ≡ setup.epoch) × (session.position ≡ place_in took)

-- what is coming fits, and where nothing is asked the session matches it
pub record Flows (setup : Setup) (owed : ℕ) (took : List Took) (link : Link) : Type 0 where
  pub fits : Fits setup.epoch owed took link.coming
  pub matches : link.asks ≡ [] → Matches setup (awaited owed took link.coming) link.session

-- THE LINK

-- the count of answers that are owed is that of the asks; what is coming is true; and it fits unless nothing of it is taken
pub record IsLinked (setup : Setup) (past : List ChannelEvent) (part : Part) (took : List Took) (joins begun : List ℕ) (link : Link) : Type 0 where
  pub owed : part.owed ≡ length (outstanding link)
  pub few : part.owed < 2 ^ 64 - 1
  pub told : AllByRecursion (IsTrue setup past (end_of part.runs) joins begun) link.coming
  pub last : OfLast (IsAskOf part.runs part.away part.asked) (outstanding link)
  pub nothing : part.state ≡ chan.Attached → part.owed ≡ 0
  pub flows : (part.owed ≡ 0 → part.state ≡ chan.Attached) → Flows setup part.owed took link

-- the count stands at its type's end: no answer is taken any more on this link
pub record IsStuck (part : Part) : Type 0 where
  pub owed : part.owed ≡ 2 ^ 64 - 1
  pub never : part.state ≢ chan.Attached

-- without a link nothing is got
abbrev pub HoldsOnLink : Setup → List ChannelEvent → Part → List Took → List ℕ → List ℕ → Option Link → Type 0
HoldsOnLink setup past part took joins begun None = ⊤
HoldsOnLink setup past part took joins begun (Some link) = IsLinked setup past part took joins begun link ⊎ IsStuck part

-- THE LANE

-- the serial of an ATTACHED channel is that of the place to which it has come
pub record Stands (setup : Setup) (part : Part) (took : List Took) : Type 0 where
  pub serial : ChannelSerial
  pub held : part.held ≡ Some serial
  pub epoch : serial.epoch ≡ setup.epoch
  pub place : serial.place ≡ place_in took

-- the runs are sound, the serial held is that of their end, and the link carries on from what was taken
pub record Holds (setup : Setup) (past : List ChannelEvent) (part : Part) (joins begun : List ℕ) (link : Option Link) : Type 0 where
  pub sound : AreSoundRuns setup past joins begun part.runs
  pub ends : EndsWith part.runs part.away part.held
  pub early : AllBelow (length past) begun  -- each was begun at a Join that was taken
  pub took : List Took
  pub stands : part.state ≡ chan.Attached → Stands setup part took
  pub linked : HoldsOnLink setup past part took joins begun link

-- a channel that is not known is as a new one
abbrev pub LaneHolds : Setup → Lane → Type 0
LaneHolds setup lane = Holds setup lane.past (part_of (channel_or_new lane.channel)) lane.joins lane.begun lane.link

-- whatever moves it
abbrev pub LanesHold : Type 0
LanesHold = (setup : Setup) (moves : List Move) → LaneHolds setup (lane_of setup moves)
