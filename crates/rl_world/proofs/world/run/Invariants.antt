use Rattle.std.proofs.Common.{take}
use Rattle.rl_model.specs.World.{final}
use Rattle.rl_world.specs.State.{Shows}
use Rattle.rl_world.proofs.world.run.Given as goal

-- the lines so far
abbrev pub invariant-loop-line : goal.invariant-loop-line
invariant-loop-line l = Shows l.world (final (take l.line-index l.line-items))
