-- What a transport shows of one channel.
use Rattle.std.specs.Prelude.{◌≡◌, Bool, false, if◌then◌else◌, ℕ, List, [], ◌∷◌, ◌++◌, map, flat_map, Option, Some, None, bytes_eq}
use Rattle.std.specs.List.{filter}
use Rattle.rl_types.specs.declared.frames.Frame.{Frame}
use Rattle.rl_types.specs.declared.frames.Frame.TheVariants as frames
use Rattle.rl_names.specs.Names.{at}
use Rattle.rl_actormodel.specs.declared.parts.Wish.{Wish}
use Rattle.rl_actormodel.specs.declared.parts.Wish.TheVariants as wishes
use Rattle.rl_lanes.specs.Lanes.{Setup, Ask, ToAttach, ToDetach, Link, frame_of}
use Rattle.rl_worldmodel.specs.World.{Transport, under_way}

-- WHAT IS COMING

-- the channel that a frame for a client names
abbrev pub channel_of : Frame → Option (List ℕ)
channel_of (frames.Attached name serial flags code) = Some name
channel_of (frames.Detached name code) = Some name
channel_of (frames.Error channel code) = channel
channel_of (frames.Message head items) = Some head.channel
channel_of (frames.Presence head items) = Some head.channel
channel_of (frames.Object head ops) = Some head.channel
channel_of (frames.Sync name at items) = Some name
channel_of (frames.ObjectSync name at states) = Some name
channel_of frame = None

abbrev pub is_name : List ℕ → Option (List ℕ) → Bool
is_name name None = false
is_name name (Some channel) = bytes_eq name channel

-- a frame concerns the channel of this name
abbrev pub concerns : List ℕ → Frame → Bool
concerns name frame = is_name name (channel_of frame)

-- the frames on the channel that are under way to the client, in order
abbrev pub coming_on : List ℕ → Transport → List Frame
coming_on name t = filter (concerns name) (under_way t.to_client)

-- WHAT IS ASKED

-- what a client's frame asks on the channel of this name
abbrev pub asks_of : List ℕ → Frame → List Ask
asks_of name (frames.Attach channel given) = if bytes_eq name channel then ToAttach given ∷ [] else []
asks_of name (frames.Detach channel) = if bytes_eq name channel then ToDetach ∷ [] else []
asks_of name frame = []

-- an ATTACH that the actor has in hand
abbrev pub asks_in_hand : List ℕ → Wish → List Ask
asks_in_hand name (wishes.AskToAttach asked) = if bytes_eq name asked.channel then ToAttach asked.serial ∷ [] else []
asks_in_hand name (wishes.Join asked number) = if bytes_eq name asked.channel then ToAttach asked.serial ∷ [] else []
asks_in_hand name wish = []

-- what the service has not answered, in order
abbrev pub asks_on : List ℕ → Transport → List Ask
asks_on name t = asks_in_hand name t.actor.wish ++ flat_map (asks_of name) (under_way t.to_service)

-- A LINK IS SEEN ON A TRANSPORT

-- an actor that is ended answers nothing more: of it no ask and no session is said
pub record Sees (setup : Setup) (t : Transport) (link : Link) : Type 0 where
  pub coming : coming_on setup.name t ≡ map (frame_of setup) link.coming
  pub asks : t.actor.ended ≡ None → asks_on setup.name t ≡ link.asks
  pub session : t.actor.ended ≡ None → at setup.name t.actor.sessions ≡ link.session
