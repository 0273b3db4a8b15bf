-- What a client is told by an acknowledgement, and how frames that are entered again come into the queue.
use Rattle.std.specs.Prelude.{◌≡◌, ℕ, ◌≤◌, true, if◌then◌else◌, List, [], ◌∷◌, Option, Some, None}
use Rattle.std.specs.List.{AllByRecursion}
use Rattle.rl_types.specs.declared.frames.Frame.{Frame}
use Rattle.rl_runs.specs.declared.findings.Answer.{Answer}
use Rattle.rl_runs.specs.declared.findings.Answer.TheVariants.{Ack, Nack}
use Rattle.rl_ackq.specs.Frames.{is_acknowledged, with_serial}
use Rattle.rl_ackq.specs.Queue.{Queue, cut_at, is_full, pushed}

-- the answer to one serial: with a code it is a NACK
abbrev pub answer_with : Option ℕ → List ℕ → ℕ → Answer
answer_with None id serial = Ack id serial
answer_with (Some code) id serial = Nack id serial code

-- each is a frame that the service acknowledges
abbrev pub AreAcknowledged : List Frame → Type 0
AreAcknowledged = AllByRecursion (λ (frame : Frame). is_acknowledged frame ≡ true)

-- one frame more, where there is room
abbrev pub pushed_in_room : Frame → Queue → Queue
pushed_in_room frame queue = if is_full queue then queue else pushed frame queue

-- what of it is sent
abbrev pub numbered_in_room : Frame → Queue → List Frame
numbered_in_room frame queue = if is_full queue then [] else with_serial queue.next frame ∷ []

-- some frames more are in the queue, and are taken back from the serial that was the next one
abbrev pub IsBehind : Queue → Queue → Type 0
IsBehind before after = (cut_at before.next after ≡ before) × (before.next ≤ after.next)
