use Rattle.std.proofs.Common.{◌≡◌, drop}
use Rattle.rl_pool.specs.Checks.{numbered_rules}
use Rattle.rl_objrules.specs.Loads.{IsSound}
use Rattle.rl_pool.proofs.checking.check_all.Given as goal

-- none of the operations so far breaks a rule, and the rest is judged as they left the objects
abbrev pub invariant-loop-op : goal.invariant-loop-op
invariant-loop-op l = record {
  at : l.at ≡ l.op-index;
  sound : IsSound l.shelf;
  rules : numbered_rules l.site l.now l.at l.shelf.objects (drop l.op-index l.ops) ≡ numbered_rules l.site l.now 0 l.initial.shelf.objects l.ops;
}
