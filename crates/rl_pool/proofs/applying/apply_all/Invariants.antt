use Rattle.std.proofs.Common.{◌≡◌, ◌++◌, List, drop}
use Rattle.rl_objmodel.specs.Held.{Held}
use Rattle.rl_objmodel.specs.Steps.{pool_after, pool_outcomes}
use Rattle.rl_pool.specs.Journal.{LeadsBack}
use Rattle.rl_objrules.specs.Loads.{IsSound}
use Rattle.rl_pool.proofs.applying.apply_all.Given as goal

-- with the rest applied too, they are those that all leave, and so are the outcomes; and the journal leads back
abbrev pub invariant-loop-at : goal.invariant-loop-at
invariant-loop-at l = record {
  sound : IsSound l.shelf;
  left : pool_after l.now (drop l.at l.ops) l.shelf.objects ≡ pool_after l.now l.ops l.initial.shelf.objects;
  done : l.done ++ pool_outcomes l.now (drop l.at l.ops) l.shelf.objects ≡ pool_outcomes l.now l.ops l.initial.shelf.objects;
  back : (before : List Held) → LeadsBack l.ops l.initial.steps.0 l.initial.shelf.objects before → LeadsBack l.ops l.steps.0 l.shelf.objects before;
}
