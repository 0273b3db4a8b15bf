-- What every record of a world may be trusted for.
use Rattle.std.specs.Prelude.{ℕ, List}
use Rattle.std.specs.List.{AllByRecursion}
use Rattle.rl_clientmodel.specs.Channels.{ClientChannel}
use Rattle.rl_clientmodel.specs.States.{ClientState}
use Rattle.rl_lanes.specs.Moves.{Move, lane_of}
use Rattle.rl_lanes.specs.Sound.{AreSoundRuns}
use Rattle.rl_worldmodel.specs.World.{World}
use Rattle.rl_worldlanes.specs.Following.{setup_of, past_named, IsLaneOf}

-- the channel follows a lane, made by these moves: so the Joins at whose answers its runs began are those whose answers the
-- client took, and each was made by a transport of this client on this channel (`IsLaneOf`). Each run is a run of the channel's
-- log, and began at one of them
pub record HasSoundRecord (world : World) (owner : List ℕ) (state : ClientState) (name : List ℕ) (channel : ClientChannel) : Type 0 where
  pub moves : List Move
  pub is_lane : IsLaneOf world owner state name (lane_of (setup_of name) moves)
  pub sound : AreSoundRuns (setup_of name) (past_named name world) (lane_of (setup_of name) moves).joins (lane_of (setup_of name) moves).begun channel.runs

-- every channel of every client
abbrev pub HasSoundRecords : World → Type 0
HasSoundRecords world =
    AllByRecursion (λ (c : List ℕ × ClientState). AllByRecursion (λ (e : List ℕ × ClientChannel). HasSoundRecord world c.0 c.1 e.0 e.1) c.1.channels) world.clients
