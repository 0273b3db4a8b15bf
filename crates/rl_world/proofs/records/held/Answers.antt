use Rattle.std.proofs.Common.{arith}
use Rattle.rl_world.proofs.Places.{held_is}
use Rattle.rl_world.proofs.records.held.Goals as goal

pub returns-in-Some : goal.returns-in-Some
returns-in-Some c = λ within.
    held_is c.args.head c.args.asked.now c.args.segments.now c.in-Some.last.now c.segment_end.result c.min.result (omega arith) c.in-Some.ensures c.segment_end.ensures c.min.ensures within
