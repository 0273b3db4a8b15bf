-- What holds of a queue at every moment stays so with each step.
use Rattle.std.specs.Prelude.{ℕ, ◌≡◌, ◌≤◌, true, false}
use Rattle.rl_numbers.specs.declared.limits.TheConstants.{MAX_MESSAGE_SERIAL}
use Rattle.rl_types.specs.declared.frames.Frame.{Frame}
use Rattle.rl_ackq.specs.Frames.{is_acknowledged}
use Rattle.rl_ackq.specs.Queue.{IsQueue, Queue, cut_at, is_full, new_queue, pushed, renumbered, settled, started_at}

-- few frames are pending, and their serials rise, are below the next one, and stand in their heads
abbrev pub IsInOrder : Queue → Type 0
IsInOrder queue = IsQueue queue.pending queue.next

pub record StaysInOrder : Type 0 where
  pub new : IsInOrder new_queue
  pub start : (serial : ℕ) → serial ≤ MAX_MESSAGE_SERIAL → IsInOrder (started_at serial)
  pub push : (queue : Queue) (frame : Frame) → is_acknowledged frame ≡ true → is_full queue ≡ false → IsInOrder queue → IsInOrder (pushed frame queue)
  pub settle : (queue : Queue) (serial count : ℕ) → IsInOrder queue → IsInOrder (settled serial count queue)
  pub take_back : (queue : Queue) (serial : ℕ) → serial ≤ queue.next → IsInOrder queue → IsInOrder (cut_at serial queue)
  pub renumber : (queue : Queue) → IsInOrder queue → IsInOrder (renumbered queue)
