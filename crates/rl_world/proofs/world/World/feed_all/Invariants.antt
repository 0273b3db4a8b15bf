use Rattle.std.proofs.Common.{◌+◌, ◌<◌, ◌^◌}
use Rattle.rl_model.specs.World.{World, feed, one_message}
use Rattle.rl_world.specs.State.{Shows}
use Rattle.rl_world.proofs.world.World.feed_all.Given as goal

-- what was fed so far
abbrev pub invariant-loop-done : goal.invariant-loop-done
invariant-loop-done l = (world : World) → Shows l.initial.self world → l.first + l.count < 2 ^ 64 →
    Shows l.self (record world { past = feed l.done (one_message l.text) l.first world.past })
