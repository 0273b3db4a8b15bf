use Rattle.std.proofs.Common.{◌≡◌, map, take}
use Rattle.rl_clientmodel.specs.Commands.{unnumbered}
use Rattle.rl_client.proofs.enqueuing.unnumbered.Given as goal

-- the operations so far
abbrev pub invariant-loop-op : goal.invariant-loop-op
invariant-loop-op l = l.made ≡ map unnumbered (take l.op-index l.ops)
