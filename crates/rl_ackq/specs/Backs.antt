-- Pushes that are taken back.
use Rattle.std.specs.Prelude.{ℕ, ◌≡◌, ◌≤◌}
use Rattle.rl_types.specs.declared.frames.Frame.{Frame}
use Rattle.rl_ackq.specs.Queue.{IsQueue, Queue, cut_at, pushed}

-- what taking back makes of a queue
pub record TakesBackPushes : Type 0 where
  -- where nothing was pushed since, nothing is taken back
  pub none : (queue : Queue) → IsQueue queue.pending queue.next → cut_at queue.next queue ≡ queue
  -- a push is taken back by its serial
  pub one : (queue : Queue) (frame : Frame) → IsQueue queue.pending queue.next → cut_at queue.next (pushed frame queue) ≡ queue
  -- and with the pushes before it
  pub more : (queue : Queue) (frame : Frame) (serial : ℕ) → serial ≤ queue.next → cut_at serial (pushed frame queue) ≡ cut_at serial queue
