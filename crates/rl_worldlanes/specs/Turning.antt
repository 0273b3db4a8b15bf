-- What one turn of a client makes of the lanes of all its channels at once. These are the shapes of lemmas: no law cites them.
use Rattle.std.specs.Prelude.{◌≡◌, ℕ, Bool, true, false, List, ◌∷◌, ◌++◌, map, flat_map, Option, Some, None, option_map}
use Rattle.std.specs.List.{filter}
use Rattle.rl_types.specs.declared.frames.Frame.{Frame}
use Rattle.rl_connsm.specs.Rules.{opens_link}
use Rattle.rl_names.specs.Names.{at}
use Rattle.rl_clientmodel.specs.Channels.{ClientChannel}
use Rattle.rl_clientmodel.specs.States.{ClientState, Turn}
use Rattle.rl_lanes.specs.Lanes.{Setup, Link, new_link, Lane, frame_of}
use Rattle.rl_lanes.specs.Moves.{Move, with_asks}
use Rattle.rl_worldlanes.specs.Views.{concerns, asks_of}
use Rattle.rl_worldlanes.specs.Following.{setup_of}
use Rattle.rl_worldlanes.specs.Serving.{moved_by}

-- MOVES OF ONE LANE

-- a lane goes on by moves to one with this channel and this link: the history and the client's Joins stay
pub record LeadsTo (setup : Setup) (lane : Lane) (known : Option ClientChannel) (left : Option Link) : Type 0 where
  pub moves : List Move
  pub past : (moved_by setup moves lane).past ≡ lane.past
  pub joins : (moved_by setup moves lane).joins ≡ lane.joins
  pub channel : (moved_by setup moves lane).channel ≡ known
  pub link : (moved_by setup moves lane).link ≡ left

-- THE LINK

-- a link that is opened is a new one, and one that is dropped is none
abbrev pub link_by : Bool → Bool → Option Link → Option Link
link_by true drops link = Some new_link
link_by false true link = None
link_by false false link = link

-- what these frames ask on the channel of this name is asked on the link
abbrev pub asking : List ℕ → List Frame → Option Link → Option Link
asking name sent link = option_map (with_asks (flat_map (asks_of name) sent)) link

-- the link after a turn that gets nothing
abbrev pub link_after : List ℕ → ClientState → Turn → Option Link → Option Link
link_after name state turn link =
    asking name turn.output.frames (link_by (opens_link state.conn turn.state.conn) turn.output.drop_link link)

-- TURNS

-- a command or time moves each lane of the client
abbrev pub IsTurned : ClientState → Turn → Type 0
IsTurned state turn =
    (name : List ℕ) (lane : Lane) → lane.channel ≡ at name state.channels
    → LeadsTo (setup_of name) lane (at name turn.state.channels) (link_after name state turn lane.link)

-- the link is lost, and nothing is sent
abbrev pub IsUnlinked : ClientState → Turn → Type 0
IsUnlinked state turn =
    (name : List ℕ) (lane : Lane) → lane.channel ≡ at name state.channels
    → LeadsTo (setup_of name) lane (at name turn.state.channels) None

-- where a frame is got, each lane is moved whose link shows what is under way: this frame, and then these. Afterwards its link
-- shows these, with what the client sends behind what it asked before, unless the client drops it
pub record IsHeardOn (name : List ℕ) (lane : Lane) (link : Link) (more : List Frame) (turn : Turn) : Type 0 where
  pub left : Link
  pub leads : LeadsTo (setup_of name) lane (at name turn.state.channels) (link_by false turn.output.drop_link (Some left))
  pub coming : filter (concerns name) more ≡ map (frame_of (setup_of name)) left.coming
  pub asks : left.asks ≡ link.asks ++ flat_map (asks_of name) turn.output.frames
  pub session : left.session ≡ link.session

abbrev pub IsHeard : Frame → ClientState → Turn → Type 0
IsHeard frame state turn =
    (name : List ℕ) (lane : Lane) (link : Link) (more : List Frame)
    → lane.channel ≡ at name state.channels → lane.link ≡ Some link
    → filter (concerns name) (frame ∷ more) ≡ map (frame_of (setup_of name)) link.coming
    → IsHeardOn name lane link more turn
