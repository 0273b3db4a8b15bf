-- Each step keeps the queue in order.
use Rattle.std.proofs.Common.{arith}
use Rattle.std.specs.Prelude.{not}
use Rattle.rl_ackq.specs.declared.pending.Pending.{Pending}
use Rattle.rl_ackq.specs.Queue.{is_covered}
use Rattle.rl_ackq.specs.Steps.{StaysInOrder}
use Rattle.rl_ackq.proofs.Backs.{queue_cut}
use Rattle.rl_ackq.proofs.Kept.{not_full, queue_filtered, queue_pushed, queue_renumbered}

pub stays_in_order : StaysInOrder
stays_in_order =
    record {
      new = record { few = omega arith; small = omega arith; rise = omega arith; told = tt };
      start = λ serial small. record { few = omega arith; small = small; rise = omega arith; told = tt };
      push = λ queue frame told open_ h.
          let room = not_full queue.pending queue.next open_ h in
          queue_pushed queue.pending queue.next frame told room.0 room.1 h;
      settle = λ queue serial count h. queue_filtered (λ (one : Pending). not (is_covered serial count one)) queue.pending queue.next h;
      take_back = λ queue serial le h. queue_cut serial queue.pending queue.next le h;
      renumber = λ queue h. queue_renumbered queue.pending queue.next h;
    }
