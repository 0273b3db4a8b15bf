use Rattle.std.proofs.Common.{◌≡◌, List, drop}
use Rattle.rl_objmodel.specs.Held.{Held}
use Rattle.rl_objmodel.specs.Steps.{pool_after}
use Rattle.rl_pool.specs.Admitting.{admitted_rule}
use Rattle.rl_pool.specs.Journal.{LeadsBack}
use Rattle.rl_objrules.specs.Loads.{IsSound}
use Rattle.rl_pool.proofs.admitting.admit_all.Given as goal

-- none of the operations so far breaks a rule, and the rest is judged as they left the objects; the journal leads back
abbrev pub invariant-loop-at : goal.invariant-loop-at
invariant-loop-at l = record {
  sound : IsSound l.shelf;
  rule : admitted_rule l.now (drop l.at l.ops) l.shelf.objects ≡ admitted_rule l.now l.ops l.initial.shelf.objects;
  left : pool_after l.now (drop l.at l.ops) l.shelf.objects ≡ pool_after l.now l.ops l.initial.shelf.objects;
  back : (before : List Held) → LeadsBack l.ops l.initial.steps.0 l.initial.shelf.objects before → LeadsBack l.ops l.steps.0 l.shelf.objects before;
}
