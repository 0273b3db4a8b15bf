-- What every run of many clients keeps of its records, and of its channels' ids. (This project's own; the claims on a record are
-- those of one lane.)
use Rattle.std.specs.Prelude.{◌≡◌, ℕ, List, Some}
use Rattle.std.specs.List.{AllByRecursion}
use Rattle.rl_events.specs.declared.channel.ChannelEvent.{ChannelEvent}
use Rattle.rl_claims.specs.Once.{OnceById}
use Rattle.rl_names.specs.Names.{at}
use Rattle.rl_clientmodel.specs.Channels.{ClientChannel}
use Rattle.rl_clientmodel.specs.States.{ClientState}
use Rattle.rl_clientlaws.specs.Leaving.{OpensAfterLeaving}
use Rattle.rl_worldmodel.specs.World.{World, the_site, empty_world, client_at}
use Rattle.rl_worldmodel.specs.Actions.{Action, all_done}
use Rattle.rl_worldtold.specs.Inputs.{inputs_of}
use Rattle.rl_worldtold.specs.Runs.{HoldsOfRuns}
use Rattle.rl_worldlanes.specs.Following.{IsFollowing}
use Rattle.rl_worldlanes.specs.Records.{HasSoundRecords}

-- whatever was done, the clients follow lanes
abbrev pub ClientsFollowLanes : Type 0
ClientsFollowLanes = HoldsOfRuns IsFollowing

-- whatever was done, the record of every channel of every client is sound
abbrev pub RecordsAreSound : Type 0
RecordsAreSound = HoldsOfRuns HasSoundRecords

-- of each channel of a client the mark `away`, and that of each run, says that it was DETACHED, SUSPENDED or FAILED after one of
-- the inputs that actions gave this client, since the run before began
abbrev pub OpensAgainOnlyAfterLeaving : Type 0
OpensAgainOnlyAfterLeaving =
    (actions : List Action) (owner : List ℕ) (state : ClientState) → client_at owner (all_done actions empty_world) ≡ Some state
    → (name : List ℕ) (channel : ClientChannel) → at name state.channels ≡ Some channel → OpensAfterLeaving owner (inputs_of owner actions) name channel

-- in every channel a remembered id stands once
abbrev pub HasIdsOnce : World → Type 0
HasIdsOnce world = AllByRecursion (λ (c : List ℕ × List ChannelEvent). OnceById the_site c.1) world.channels

abbrev pub IdsStandOnce : Type 0
IdsStandOnce = HoldsOfRuns HasIdsOnce
