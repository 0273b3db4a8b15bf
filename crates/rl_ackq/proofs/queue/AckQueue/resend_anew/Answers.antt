use Rattle.std.proofs.Common.{arith, add-one}
use Rattle.rl_ackq.proofs.Numbers.{anew_more}
use Rattle.rl_ackq.proofs.queue.AckQueue.resend_anew.Goals as goal

pub loop-at-preserved : goal.loop-at-preserved
loop-at-preserved c =
    let xs = c.self.inside.pending.items in
    let more = anew_more 0 c.loop-at.at c.loop-at.at xs c.index.result.now (omega (arith, c.self.inside.pending.ok.0, c.loop-at-test.true)) (omega arith) c.index.ensures in
    let a = c.in_ok-push.ensures in
    let b = c.give_serial.ensures in
    let d = c.in_ok-frame.ensures in
    let i = c.loop-at.invariant in
    rw (a.ok, b, d, i, add-one c.loop-at.at) more
