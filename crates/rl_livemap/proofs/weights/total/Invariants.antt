use Rattle.std.proofs.Common.{◌≡◌, take, sum_by}
use Rattle.rl_types.specs.Weight.{saturated, cell_weight}
use Rattle.rl_livemap.proofs.weights.total.Given as goal

-- the sum so far
abbrev pub invariant-loop-cell : goal.invariant-loop-cell
invariant-loop-cell l = l.sum ≡ saturated (sum_by cell_weight (take l.cell-index l.cells))
