use Rattle.std.proofs.Common.{◌≡◌, take}
use Rattle.std.specs.Prelude.{map}
use Rattle.rl_objmodel.specs.Steps.{told_write, with_writes}
use Rattle.rl_livemap.proofs.Merged.{with_cells}
use Rattle.rl_livemap.proofs.livemap.LiveMap.tell.Given as goal

-- the cells so far are written
abbrev pub invariant-loop-cell : goal.invariant-loop-cell
invariant-loop-cell l = l.self ≡ with_cells l.initial.self (with_writes (map (told_write l.now) (take l.cell-index l.cells)) l.initial.self.cells)
