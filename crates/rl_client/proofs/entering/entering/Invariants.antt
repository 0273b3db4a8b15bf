use Rattle.std.proofs.Common.{◌≡◌, ◌++◌}
use Rattle.rl_clientmodel.specs.Hearing.{entering}
use Rattle.rl_client.proofs.entering.entering.Given as goal

-- what is there already, and the frames of the members that are left
abbrev pub invariant-loop-client : goal.invariant-loop-client
invariant-loop-client l = l.frames ++ entering l.name l.client-iterator ≡ entering l.name l.own.entries
