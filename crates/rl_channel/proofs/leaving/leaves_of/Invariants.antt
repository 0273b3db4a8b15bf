use Rattle.std.proofs.Common.{◌≡◌}
use Rattle.rl_channel.specs.Leaving.{leaves_of}
use Rattle.rl_channel.proofs.leaving.leaves_of.Given as goal

abbrev pub invariant-loop-client : goal.invariant-loop-client
invariant-loop-client l = l.items ≡ leaves_of l.place l.now l.conn 0 l.yielded
