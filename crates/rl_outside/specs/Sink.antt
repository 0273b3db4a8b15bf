-- What a write to a sink does to the bytes that were written and to its faults.
use Rattle.std.specs.Prelude.{◌≡◌, ℕ, ◌≤◌, List, take, length, Option}
use Rattle.std.specs.Io.KnownBytes.{Appends, Keeps}
use Rattle.rl_outside.specs.declared.sink.Gave.{Gave}
use Rattle.rl_outside.specs.declared.sink.Gave.TheVariants.{Bytes, Failed}
use Rattle.rl_outside.specs.Counts.{Rose, one_more}

-- the first bytes of those given are written, at least one
abbrev pub WriteGives : Option (List ℕ) → Option (List ℕ) → Gave → List ℕ → Type 0
WriteGives old new (Bytes count) from = (1 ≤ count) × (count ≤ length from) × Appends old new (take count from)
WriteGives old new Failed from = Keeps old new

-- faults are counted, and only where a write failed
abbrev pub WriteCounts : ℕ → ℕ → Gave → Type 0
WriteCounts before now Failed = (before ≤ now) × Rose before now
WriteCounts before now _ = now ≡ before

-- the faults after a write, where each is counted
abbrev pub faults_after_write : ℕ → Gave → ℕ
faults_after_write before Failed = one_more before
faults_after_write before _ = before
