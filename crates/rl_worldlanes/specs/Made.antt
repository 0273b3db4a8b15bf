-- The calls that a world's transports keep as made are the events that they say.
use Rattle.std.specs.Prelude.{◌≡◌, ⊤, ℕ, List, [], ◌∷◌, ◌++◌, length, flat_map}
use Rattle.std.specs.List.{AllByRecursion}
use Rattle.rl_events.specs.declared.calls.Call.{Call}
use Rattle.rl_events.specs.declared.calls.Call.TheVariants.{Chan}
use Rattle.rl_events.specs.declared.channel.ChannelEvent.{ChannelEvent}
use Rattle.rl_worldmodel.specs.World.{World, Transport, CallMade, history}
use Rattle.rl_worldtold.specs.Runs.{HoldsOfRuns}

-- ALL CALLS

-- the calls that the actors of these transports made, one transport after another
abbrev pub calls_of : List Transport → List CallMade
calls_of ts = flat_map (λ (t : Transport). t.made) ts

-- of all transports of a world
abbrev pub calls_made : World → List CallMade
calls_made world = calls_of world.transports

-- A CALL IS AN EVENT

-- the event stands in this history, behind just so many others
pub record StandsBehind (event : ChannelEvent) (before : ℕ) (past : List ChannelEvent) : Type 0 where
  pub later : List ChannelEvent
  pub earlier : List ChannelEvent
  pub is : past ≡ later ++ event ∷ earlier
  pub many : length earlier ≡ before

-- a call on a channel is this event of the channel's history; of other calls nothing is said
abbrev pub IsEventBehind : World → Call → ℕ → Type 0
IsEventBehind world (Chan number event) before = StandsBehind event before (history number world)
IsEventBehind world call before = ⊤

abbrev pub IsEventMade : World → CallMade → Type 0
IsEventMade world made = IsEventBehind world made.call made.before

-- NO TWO CALLS ARE ONE EVENT

-- the event of a call on a channel: the channel's number, and behind how many events it stands
abbrev pub spot_at : Call → ℕ → List (ℕ × ℕ)
spot_at (Chan number event) before = (number, before) ∷ []
spot_at call before = []

abbrev pub spot_of : CallMade → List (ℕ × ℕ)
spot_of made = spot_at made.call made.before

abbrev pub Differ : ℕ × ℕ → ℕ × ℕ → Type 0
Differ one other = one ≡ other → ⊥

-- none stands twice
abbrev pub StandApart : List (ℕ × ℕ) → Type 0
StandApart [] = ⊤
StandApart (one ∷ more) = AllByRecursion (Differ one) more × StandApart more

-- no two calls on channels, of one transport or of two, are one event of one channel
abbrev pub AreApart : World → Type 0
AreApart world = StandApart (flat_map spot_of (calls_made world))

-- EVERY RUN

-- each call that is kept as made is the event that it says, and no other call is that event
pub record HasTrueCalls (world : World) : Type 0 where
  pub events : AllByRecursion (IsEventMade world) (calls_made world)
  pub apart : AreApart world

-- whatever was done
abbrev pub CallsAreEvents : Type 0
CallsAreEvents = HoldsOfRuns HasTrueCalls
