-- What the service does moves each lane whose link is seen on a transport. These are the shapes of lemmas: no law cites them.
use Rattle.std.specs.Prelude.{◌≡◌, ◌⊎◌, ℕ, false, List, [], ◌∷◌, ◌++◌, Some, slice_get}
use Rattle.std.specs.List.{AllByRecursion}
use Rattle.rl_events.specs.declared.channel.ChannelEvent.{ChannelEvent}
use Rattle.rl_lanes.specs.Lanes.{Setup, Link, Lane}
use Rattle.rl_lanes.specs.Moves.{Move, lane_after}
use Rattle.rl_worldmodel.specs.World.{World, Transport}
use Rattle.rl_worldlanes.specs.Views.{Sees}
use Rattle.rl_worldlanes.specs.Following.{setup_of, past_named, IsMadeBy}

-- moves one after another, the latest first
abbrev pub moved_by : Setup → List Move → Lane → Lane
moved_by setup [] lane = lane
moved_by setup (move ∷ before) lane = lane_after setup move (moved_by setup before lane)

-- a lane with this link goes on by moves to one whose link the transport shows afterwards: the client's channel and its runs
-- stay, and what is joined is made by the transport
pub record GoesOn (world after : World) (u : Transport) (name : List ℕ) (lane : Lane) : Type 0 where
  pub moves : List Move
  pub past : (moved_by (setup_of name) moves lane).past ≡ past_named name after
  pub channel : (moved_by (setup_of name) moves lane).channel ≡ lane.channel
  pub joins : List ℕ
  pub joined : (moved_by (setup_of name) moves lane).joins ≡ joins ++ lane.joins
  pub made : AllByRecursion (IsMadeBy after u name) joins
  pub link : Link
  pub has : (moved_by (setup_of name) moves lane).link ≡ Some link
  pub sees : Sees (setup_of name) u link

-- a transport, and what the service made of it
pub record IsServed (world after : World) (t u : Transport) : Type 0 where
  pub owner : u.owner ≡ t.owner
  pub cut : u.cut ≡ t.cut
  pub goes_on : t.cut ≡ false → (name : List ℕ) (lane : Lane) (link : Link)
      → lane.past ≡ past_named name world → lane.link ≡ Some link → Sees (setup_of name) t link
      → GoesOn world after u name lane

-- so with all of them, each at its place
abbrev pub AreServed : World → World → Type 0
AreServed world after =
    (k : ℕ) (u : Transport) → slice_get after.transports k ≡ Some u
    → (t : Transport) × (slice_get world.transports k ≡ Some t) × IsServed world after t u

-- EVENTS

-- a history stays, or takes one event
abbrev pub TakesAtMostOne : List ChannelEvent → List ChannelEvent → Type 0
TakesAtMostOne past after = (after ≡ past) ⊎ ((one : ChannelEvent) × (after ≡ one ∷ past))

-- so with the channel of each name
abbrev pub AllTakeAtMostOne : World → World → Type 0
AllTakeAtMostOne world after = (name : List ℕ) → TakesAtMostOne (past_named name world) (past_named name after)
