use Rattle.std.proofs.Common.{◌≡◌, drop, []}
use Rattle.rl_objrules.specs.Ids.{IsAscending}
use Rattle.rl_objmodel.specs.Steps.{told_pool}
use Rattle.rl_pool.proofs.telling.told_states.Given as goal

-- with the rest told too, they are those that all tell
abbrev pub invariant-loop-state : goal.invariant-loop-state
invariant-loop-state l = record {
  ascending : IsAscending l.made;
  told : told_pool l.now (drop l.state-index l.states) l.made ≡ told_pool l.now l.states [];
}
