use Rattle.std.proofs.Common.{◌≡◌, ◌≤◌, ◌++◌, length, take, drop}
use Rattle.rl_objmodel.specs.Steps.{collected}
use Rattle.rl_pool.proofs.collecting.collect_all.Given as goal

-- from the place on all is collected, and what is before is as it was
abbrev pub invariant-loop-at : goal.invariant-loop-at
invariant-loop-at l = record {
  within : l.at ≤ length l.initial.objects;
  left : l.objects ≡ take l.at l.initial.objects ++ collected l.now (drop l.at l.initial.objects);
}

abbrev pub decreases-loop-at : goal.decreases-loop-at
decreases-loop-at l = l.at
