use Rattle.std.proofs.Common.{◌≡◌, take}
use Rattle.std.specs.Prelude.{filter_map}
use Rattle.rl_objmodel.specs.Steps.{lives_in}
use Rattle.rl_objrules.specs.Ids.{IsAscending}
use Rattle.rl_pool.specs.Live.{read_shown}
use Rattle.rl_pool.proofs.live.read_cells.Given as goal

-- the cells so far are read
abbrev pub invariant-loop-cell : goal.invariant-loop-cell
invariant-loop-cell l = IsAscending l.objects → l.read ≡ filter_map (read_shown (lives_in l.objects)) (take l.cell-index l.cells)
