use Rattle.std.proofs.Common.{◌≡◌, take}
use Rattle.std.specs.Prelude.{map}
use Rattle.rl_livemap.specs.Stamps.{unnumbered_shown}
use Rattle.rl_livemap.proofs.cells.unnumbered.Given as goal

-- the cells so far are copied
abbrev pub invariant-loop-cell : goal.invariant-loop-cell
invariant-loop-cell l = l.made ≡ map unnumbered_shown (take l.cell-index l.cells)
