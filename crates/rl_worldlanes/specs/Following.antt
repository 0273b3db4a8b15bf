-- The clients of a world and their channels follow lanes.
use Rattle.std.specs.Prelude.{◌≡◌, ⊤, false, ℕ, ◌≤◌, List, [], length, flat_map, Option, Some, None, slice_get}
use Rattle.std.specs.List.{AllByRecursion}
use Rattle.rl_events.specs.declared.calls.Call.{Call}
use Rattle.rl_events.specs.declared.calls.Call.TheVariants.{Chan}
use Rattle.rl_events.specs.declared.channel.ChannelEvent.{ChannelEvent}
use Rattle.rl_events.specs.declared.channel.ChannelEvent.TheVariants.{Join}
use Rattle.rl_objmodel.specs.Places.{AreRising}
use Rattle.rl_connbook.specs.Laws.{SomeOf}
use Rattle.rl_directory.specs.Directory.{number_of}
use Rattle.rl_ackq.specs.Queue.{frames}
use Rattle.rl_names.specs.Names.{at}
use Rattle.rl_clientmodel.specs.States.{ClientState}
use Rattle.rl_lanes.specs.Lanes.{Setup, Link, Lane}
use Rattle.rl_lanes.specs.Moves.{Move, lane_of}
use Rattle.rl_worldmodel.specs.World.{World, Way, Transport, CallMade, the_epoch, the_site, names, history, latest, client_in, client_at}
use Rattle.rl_worldlanes.specs.Views.{Sees, asks_of}

-- the channel of this name in the run
abbrev pub setup_of : List ℕ → Setup
setup_of name = record { name = name; epoch = the_epoch; site = the_site }

abbrev pub past_at : Option ℕ → World → List ChannelEvent
past_at None world = []
past_at (Some number) world = history number world

-- its history: of a name that the directory has not, nothing
abbrev pub past_named : List ℕ → World → List ChannelEvent
past_named name world = past_at (number_of name (names world)) world

-- JOINS OF A CLIENT

-- a call that joins the channel of this name
abbrev pub IsJoinOf : World → List ℕ → Call → Type 0
IsJoinOf world name (Chan number (Join given)) = number_of name (names world) ≡ Some number
IsJoinOf world name call = ⊥

-- this transport made the Join of the channel that came behind so many events
abbrev pub IsMadeBy : World → Transport → List ℕ → ℕ → Type 0
IsMadeBy world t name before = SomeOf (λ (made : CallMade). IsJoinOf world name made.call × (made.before ≡ before)) t.made

-- a transport of this client did
abbrev pub IsOwnJoin : World → List ℕ → List ℕ → ℕ → Type 0
IsOwnJoin world owner name before = SomeOf (λ (t : Transport). (t.owner ≡ owner) × IsMadeBy world t name before) world.transports

-- A CLIENT'S CHANNEL FOLLOWS A LANE

-- the client's latest transport, where it has one
abbrev pub transport_at : Option ℕ → World → Option Transport
transport_at None world = None
transport_at (Some k) world = slice_get world.transports k

abbrev pub latest_of : List ℕ → World → Option Transport
latest_of name world = transport_at (latest name world) world

-- on a transport that is not cut the lane's link is seen
pub record IsSeen (setup : Setup) (lane : Lane) (t : Transport) : Type 0 where
  pub link : Link
  pub has : lane.link ≡ Some link
  pub sees : Sees setup t link

-- on one that is cut nothing is got and nothing is sent, so nothing is said of the link; nor where there is none
abbrev pub IsSeenOn : Setup → Lane → Option Transport → Type 0
IsSeenOn setup lane None = ⊤
IsSeenOn setup lane (Some t) = t.cut ≡ false → IsSeen setup lane t

-- a lane is that of the client's channel
pub record IsLaneOf (world : World) (owner : List ℕ) (state : ClientState) (name : List ℕ) (lane : Lane) : Type 0 where
  pub past : lane.past ≡ past_named name world
  pub channel : lane.channel ≡ at name state.channels
  pub own : AllByRecursion (IsOwnJoin world owner name) lane.joins
  pub seen : IsSeenOn (setup_of name) lane (latest_of owner world)

-- it is made by moves
pub record IsFollowed (world : World) (owner : List ℕ) (state : ClientState) (name : List ℕ) : Type 0 where
  pub moves : List Move
  pub is_lane : IsLaneOf world owner state name (lane_of (setup_of name) moves)

-- WORLDS

-- the names of a client's channels rise
abbrev pub HasRisingNames : ClientState → Type 0
HasRisingNames state = AreRising state.channels

-- frames that wait for their acknowledgement ask nothing of a session
abbrev pub AsksNothing : ClientState → Type 0
AsksNothing state = (name : List ℕ) → flat_map (asks_of name) (frames state.queue.pending) ≡ []

-- a client follows a lane on each channel, whether it knows the channel or not
pub record IsFollower (world : World) (owner : List ℕ) (state : ClientState) : Type 0 where
  pub names : HasRisingNames state
  pub pending : AsksNothing state
  pub followed : (name : List ℕ) → IsFollowed world owner state name

-- what was got is a front of what was put
abbrev pub IsFront : Way → Type 0
IsFront way = way.got ≤ length way.put

pub record AreFronts (t : Transport) : Type 0 where
  pub service : IsFront t.to_service
  pub client : IsFront t.to_client

-- each client is the one that is found under its name
abbrev pub AreFound : List (List ℕ × ClientState) → Type 0
AreFound clients = AllByRecursion (λ (c : List ℕ × ClientState). client_in c.0 clients ≡ Some c.1) clients

-- every client does, and only a client that was declared has transports
pub record IsFollowing (world : World) : Type 0 where
  pub found : AreFound world.clients
  pub fronts : AllByRecursion AreFronts world.transports
  pub owners : (owner : List ℕ) → client_at owner world ≡ None → latest owner world ≡ None
  pub clients : (owner : List ℕ) (state : ClientState) → client_at owner world ≡ Some state → IsFollower world owner state
