use Rattle.std.proofs.Common.{◌≡◌, take}
use Rattle.rl_ackq.specs.Queue.{frames, numbered_from}
use Rattle.rl_ackq.proofs.queue.AckQueue.resend_anew.Given as goal

-- the frames so far are copied with the numbers from 0
abbrev pub invariant-loop-at : goal.invariant-loop-at
invariant-loop-at l = l.frames ≡ frames (numbered_from 0 (take l.at l.self-inside.pending.items))
