use Rattle.std.proofs.Common.{◌≡◌, ◌≤◌, length, drop}
use Rattle.rl_objmodel.specs.Steps.{collected_cells}
use Rattle.rl_livemap.specs.Stamps.{stamped}
use Rattle.rl_livemap.proofs.collecting.drop_collected.Given as goal

-- what is collected was collected from the place on, and is the same as before in all
abbrev pub invariant-loop-at : goal.invariant-loop-at
invariant-loop-at l = record {
  even : length l.stamps ≡ length l.cells;
  within : l.at ≤ length (stamped l.cells l.stamps);
  left : collected_cells l.now (stamped l.cells l.stamps) ≡ collected_cells l.now (stamped l.initial.cells l.initial.stamps);
  behind : collected_cells l.now (drop l.at (stamped l.cells l.stamps)) ≡ drop l.at (stamped l.cells l.stamps);
}

abbrev pub decreases-loop-at : goal.decreases-loop-at
decreases-loop-at l = l.at
