-- What a read of a source does to the bytes that are left and to its faults.
use Rattle.std.specs.Prelude.{◌≡◌, ℕ, ◌≤◌, List, take, length, Option}
use Rattle.std.specs.Io.KnownBytes.{Consumes, Keeps, IsAtEnd}
use Rattle.rl_outside.specs.declared.source.Took.{Took}
use Rattle.rl_outside.specs.declared.source.Took.TheVariants.{Bytes, End, Failed}
use Rattle.rl_outside.specs.Counts.{Rose, one_more}

-- the bytes given are the first that were left. None are left only at the end
abbrev pub ReadTakes : Option (List ℕ) → Option (List ℕ) → Took → List ℕ → Type 0
ReadTakes old new (Bytes count) into = (1 ≤ count) × (count ≤ length into) × Consumes old new (take count into)
ReadTakes old new End into = IsAtEnd new × Keeps old new
ReadTakes old new Failed into = Keeps old new

-- faults are counted, and only where a read failed
abbrev pub ReadCounts : ℕ → ℕ → Took → Type 0
ReadCounts before now Failed = (before ≤ now) × Rose before now
ReadCounts before now _ = now ≡ before

-- ends are counted, and only where a read found nothing left
abbrev pub EndCounts : ℕ → ℕ → Took → Type 0
EndCounts before now End = (before ≤ now) × Rose before now
EndCounts before now _ = now ≡ before

-- the ends after a read, where each is counted
abbrev pub ends_after_read : ℕ → Took → ℕ
ends_after_read before End = one_more before
ends_after_read before _ = before

-- the faults after a read, where each is counted
abbrev pub faults_after_read : ℕ → Took → ℕ
faults_after_read before Failed = one_more before
faults_after_read before _ = before
