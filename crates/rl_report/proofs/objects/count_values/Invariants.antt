use Rattle.std.proofs.Common.{◌≡◌, take}
use Rattle.std.specs.Prelude.{count_by}
use Rattle.rl_model.specs.Report.{has_value}
use Rattle.rl_report.proofs.objects.count_values.Given as goal

-- those that have a value so far
abbrev pub invariant-loop-cell : goal.invariant-loop-cell
invariant-loop-cell l = l.count ≡ count_by has_value (take l.cell-index l.cells)
