-- A channel's record opens again only after the channel was left: its flag `away` is what it says (RTL3, RTL4). (This project's own.)
use Rattle.std.specs.Prelude.{◌≡◌, ℕ, Bool, true, false, List, ◌∷◌, ◌++◌, length, Option, Some}
use Rattle.rl_ids.specs.declared.serials.ChannelSerial.{ChannelSerial}
use Rattle.rl_types.specs.declared.states.ChanState.{ChanState}
use Rattle.rl_types.specs.declared.states.ChanState.TheVariants as chan
use Rattle.rl_names.specs.Names.{at}
use Rattle.rl_clientmodel.specs.declared.runs.Beginning.TheVariants.{Answered}
use Rattle.rl_clientmodel.specs.declared.runs.Run.{Run}
use Rattle.rl_clientmodel.specs.Channels.{ClientChannel}
use Rattle.rl_clientmodel.specs.Inputs.{Input, after}

-- the states of a channel that was left
abbrev pub is_left : ChanState → Bool
is_left chan.Detached = true
is_left chan.Suspended = true
is_left chan.Failed = true
is_left state = false

-- after one of a client's inputs, of which the latest stands first, its channel of this name was DETACHED, SUSPENDED or
-- FAILED, and its record had so many runs
pub record HasLeft (client : List ℕ) (inputs : List Input) (name : List ℕ) (count : ℕ) : Type 0 where
  pub later : List Input
  pub earlier : List Input  -- those up to that time
  pub is_front : inputs ≡ later ++ earlier
  pub channel : ClientChannel  -- as it was then
  pub was_there : at name (after client earlier).channels ≡ Some channel
  pub was_left : is_left channel.state ≡ true
  pub had_runs : length channel.runs ≡ count

-- of a channel that the client has after these inputs
pub record OpensAfterLeaving (client : List ℕ) (inputs : List Input) (name : List ℕ) (channel : ClientChannel) : Type 0 where
  -- where its flag stands it is or was left, with as many runs as now
  pub is_away : channel.away ≡ true → HasLeft client inputs name (length channel.runs)
  -- and where a run began with an answer while the flag stood, it was left with as many runs as stand before this one. Of
  -- the runs the latest stands first
  pub was_away :
      (more before : List Run) (run : Run) (asked : Option ChannelSerial) (resumed : Bool) (told : ChannelSerial)
      → channel.runs ≡ more ++ run ∷ before → run.beginning ≡ Answered asked resumed told true
      → HasLeft client inputs name (length before)

-- whatever a client is told and hears
abbrev pub OpensAgainOnlyAfterLeaving : Type 0
OpensAgainOnlyAfterLeaving =
    (client : List ℕ) (inputs : List Input) (name : List ℕ) (channel : ClientChannel)
    → at name (after client inputs).channels ≡ Some channel → OpensAfterLeaving client inputs name channel
