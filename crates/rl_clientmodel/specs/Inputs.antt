-- A client's inputs, and what stands after them.
use Rattle.std.specs.Prelude.{ℕ, List, [], ◌∷◌, ◌++◌, Option}
use Rattle.rl_types.specs.declared.frames.Frame.{Frame}
use Rattle.rl_runs.specs.declared.commands.Command.{Command}
use Rattle.rl_runs.specs.declared.commands.RecoveryKey.{RecoveryKey}
use Rattle.rl_clientmodel.specs.States.{ClientState, Turn, new_state, quietly}
use Rattle.rl_clientmodel.specs.Commands.{acted}
use Rattle.rl_clientmodel.specs.Hearing.{heard}
use Rattle.rl_clientmodel.specs.Times.{ticked, unlinked}
use Rattle.rl_clientmodel.specs.Keys.{recovered}

pub data Input : Type 0 where
  Told : (command : Command) (now : ℕ) → Input
  Heard : (frame : Option Frame) (now : ℕ) → Input  -- none: of an action that is not known
  Unlinked : (now : ℕ) → Input  -- the link is gone
  Ticked : (now : ℕ) → Input
  Recovers : (key : RecoveryKey) → Input

abbrev pub step : Input → ClientState → Turn
step (Told command now) state = acted command now state
step (Heard frame now) state = heard frame now state
step (Unlinked now) state = unlinked now state
step (Ticked now) state = ticked now state
step (Recovers key) state = quietly (recovered key state)

-- what stands after inputs, of which the latest stands first
abbrev pub run : List Input → ClientState → ClientState
run [] state = state
run (input ∷ before) state = (step input (run before state)).state

abbrev pub after : List ℕ → List Input → ClientState
after name inputs = run inputs (new_state name)

-- all that the client sent, in order
abbrev pub sent : List Input → ClientState → List Frame
sent [] state = []
sent (input ∷ before) state = sent before state ++ (step input (run before state)).output.frames
