use Rattle.std.proofs.Common.{◌≡◌, take}
use Rattle.rl_objmodel.specs.Steps.{entry_writes, with_writes}
use Rattle.rl_livemap.proofs.Merged.{with_cells}
use Rattle.rl_livemap.proofs.livemap.LiveMap.set_all.Given as goal

-- the entries so far are set
abbrev pub invariant-loop-entry : goal.invariant-loop-entry
invariant-loop-entry l = l.self ≡ with_cells l.initial.self (with_writes (entry_writes l.serial (take l.entry-index l.entries)) l.initial.self.cells)
