use Rattle.std.proofs.Common.{◌≡◌, take, sum_by}
use Rattle.rl_types.specs.Weight.{saturated}
use Rattle.rl_objrules.specs.Loads.{held_cells, held_weight}
use Rattle.rl_objrules.proofs.load.all_load.Given as goal

-- the sums so far
abbrev pub invariant-loop-object : goal.invariant-loop-object
invariant-loop-object l = record {
  cells : l.cells ≡ saturated (sum_by held_cells (take l.object-index l.objects));
  weight : l.weight ≡ saturated (sum_by held_weight (take l.object-index l.objects));
}
