-- An actor's inputs, what stands after them, and the frames that it puts out.
use Rattle.std.specs.Prelude.{ℕ, List, [], ◌∷◌, ◌++◌, take, drop}
use Rattle.rl_types.specs.declared.frames.Frame.{Frame}
use Rattle.rl_runs.specs.declared.commands.Hello.{Hello}
use Rattle.rl_events.specs.declared.calls.Call.{Call}
use Rattle.rl_events.specs.declared.calls.Reply.{Reply}
use Rattle.rl_events.specs.declared.calls.End.{End}
use Rattle.rl_actormodel.specs.State.{State, begun}
use Rattle.rl_actormodel.specs.Ends.{over}
use Rattle.rl_actormodel.specs.Takes.{Came, took}
use Rattle.rl_actormodel.specs.Reads.{absorbed}
use Rattle.rl_actormodel.specs.Rests.{rested}

-- what comes to an actor. (This project's own.)
pub data Input : Type 0 where
  Took : (came : Came) (now : ℕ) → Input  -- a frame was taken up
  Absorbed : (call : Call) (reply : Reply) (now : ℕ) → Input  -- a call was made, and this was its reply
  Rested : (now : ℕ) → Input  -- no frame was there
  Ended : (why : End) → Input  -- the link is over, or the service stops
  Gave : Input  -- the first frame that waited was taken

-- the first frame that waited is taken. (This project's own.)
abbrev pub gave : State → State
gave s = record s { waiting = drop 1 s.waiting }

-- what one input makes of an actor. (This project's own.)
abbrev pub step : Input → State → State
step (Took came now) s = took came now s
step (Absorbed call reply now) s = absorbed call reply now s
step (Rested now) s = rested now s
step (Ended why) s = over why s
step Gave s = gave s

-- what stands after inputs, of which the latest stands first. (This project's own.)
abbrev pub run : List Input → State → State
run [] s = s
run (input ∷ before) s = step input (run before s)

-- the actor of a hello and a list of inputs. (This project's own.)
abbrev pub after : Hello → ℕ → List Input → State
after hello start inputs = run inputs (begun hello start)

-- the frame that an input takes. (This project's own.)
abbrev pub given : Input → State → List Frame
given Gave s = take 1 s.waiting
given input s = []

-- the frames that were taken, in order. (This project's own.)
abbrev pub taken : List Input → State → List Frame
taken [] s = []
taken (input ∷ before) s = taken before s ++ given input (run before s)

-- all frames that were put out, in order: those taken, and those that wait. (This project's own.)
abbrev pub put_out : Hello → ℕ → List Input → List Frame
put_out hello start inputs = taken inputs (begun hello start) ++ (after hello start inputs).waiting
