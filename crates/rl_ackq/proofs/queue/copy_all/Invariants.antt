use Rattle.std.proofs.Common.{◌≡◌, take}
use Rattle.rl_ackq.proofs.queue.copy_all.Given as goal

-- the frames so far are copied
abbrev pub invariant-loop-at : goal.invariant-loop-at
invariant-loop-at l = l.made.items ≡ take l.at l.pending.items
