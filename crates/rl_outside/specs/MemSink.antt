-- A sink in memory.
use Rattle.std.specs.Prelude.{ℕ, List, ◌++◌, take}
use Rattle.rl_outside.specs.declared.sink.Gave.{Gave}
use Rattle.rl_outside.specs.declared.sink.Gave.TheVariants.{Bytes, Failed}
use Rattle.rl_outside.specs.Counts.{one_more, one_call}

-- the bytes that were written, the numbers of the calls that fail, how many calls there were,
-- and how many of them failed
pub record Store : Type 0 where
  pub written : List ℕ
  pub fail : List ℕ
  pub calls : ℕ
  pub faults : ℕ

-- what stands after a write that answered so
abbrev pub after_write : Store → Gave → List ℕ → Store
after_write store (Bytes count) from = record store { written = store.written ++ take count from; calls = one_call store.calls }
after_write store Failed from = record store { calls = one_call store.calls; faults = one_more store.faults }
