-- What becomes of the frames that clients queue (RTN7).
use Rattle.std.specs.Prelude.{◌≡◌, ℕ, ◌+◌, ◌-◌, ◌^◌, ◌<◌, min, List, length, Some}
use Rattle.rl_clientmodel.specs.States.{ClientState, new_state}
use Rattle.rl_clientlaws.specs.Sums.{all_queued, all_given_up}
use Rattle.rl_worldmodel.specs.World.{empty_world, client_at}
use Rattle.rl_worldmodel.specs.Actions.{Action, all_done}
use Rattle.rl_worldtold.specs.Inputs.{inputs_of}

-- how many frames a client queued by what actions gave it, and how many it gave up
abbrev pub queued : List ℕ → List Action → ℕ
queued name actions = all_queued (inputs_of name actions) (new_state name)

abbrev pub given_up : List ℕ → List Action → ℕ
given_up name actions = all_given_up (inputs_of name actions) (new_state name)

-- each was answered by an ACK or a NACK, waits, or was given up; those that were given up are counted, up to the count's end
pub record IsAccountedFor (name : List ℕ) (actions : List Action) (state : ClientState) : Type 0 where
  pub sum : length state.answers + length state.queue.pending + given_up name actions ≡ queued name actions
  pub counted : state.dropped ≡ min (given_up name actions) (2 ^ 64 - 1)
  -- so where fewer were queued than the count can hold
  pub whole : queued name actions < 2 ^ 64 → length state.answers + length state.queue.pending + state.dropped ≡ queued name actions

abbrev pub AllAccountedFor : Type 0
AllAccountedFor =
    (actions : List Action) (name : List ℕ) (state : ClientState) → client_at name (all_done actions empty_world) ≡ Some state
    → IsAccountedFor name actions state
