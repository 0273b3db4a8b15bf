use Rattle.std.proofs.Common.{◌≡◌, ◌++◌, ◌-◌, drop, length}
use Rattle.rl_model.specs.Client.{numbered}
use Rattle.rl_world.proofs.client.push_pending.Given as goal

-- what is left to push follows
abbrev pub invariant-loop-serial : goal.invariant-loop-serial
invariant-loop-serial l =
    l.sent ++ drop l.serial (numbered 0 l.published) ≡ l.initial.sent ++ drop l.answered (numbered 0 l.published)

abbrev pub decreases-loop-serial : goal.decreases-loop-serial
decreases-loop-serial l = length l.initial.published - l.serial
