-- The frames that an actor puts out can be sent, and are read as they were.
use Rattle.std.specs.Prelude.{◌≡◌, ℕ, ◌≤◌, List, length, Ok, Some, IsUtf8}
use Rattle.std.specs.List.{All, AllByRecursion}
use Rattle.rl_numbers.specs.declared.limits.TheConstants.{MAX_FRAME_SIZE}
use Rattle.rl_types.specs.declared.frames.Frame.{Frame}
use Rattle.rl_runs.specs.declared.commands.Hello.{Hello}
use Rattle.rl_wire.specs.Frames.{frame_at}
use Rattle.rl_wire.specs.Sendable.{IsSendable}
use Rattle.rl_wire.specs.Texts.{frame_text}
use Rattle.rl_actormodel.specs.State.{begun}
use Rattle.rl_actormodel.specs.Inputs.{Input, put_out}
use Rattle.rl_actormodel.specs.Conditions.{AreAllowed}
use Rattle.rl_actorlaws.specs.Carried.{IsCarried}

-- a frame can be sent, its text is not too long, and that text reads as the same frame
pub record IsReadable (f : Frame) : Type 0 where
  pub sendable : IsSendable f
  pub short : length (frame_text f) ≤ MAX_FRAME_SIZE
  pub again : IsUtf8 (frame_text f) → frame_at (frame_text f) ≡ Ok (Some f)

-- each frame that an actor puts out is such, where its inputs are allowed and hold what frames and machines give
abbrev pub FramesFit : Type 0
FramesFit =
    (hello : Hello) (start : ℕ) (inputs : List Input)
    → AreAllowed inputs (begun hello start) → AllByRecursion IsCarried inputs
    → All IsReadable (put_out hello start inputs)
