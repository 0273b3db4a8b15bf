-- Counts of what went wrong outside, and of the calls of an object in memory.
use Rattle.std.specs.Prelude.{ℕ, Bool, ◌+◌, ◌-◌, ◌^◌, ◌≤◌, min, List, nat_eq}
use Rattle.std.specs.List.{list_any}

-- a count is greater than it was, or stands at its last value
abbrev pub Rose : ℕ → ℕ → Type 0
Rose before now = min (before + 1) (2 ^ 64 - 1) ≤ now

-- one more of what is counted. The count stands still at its end
abbrev pub one_more : ℕ → ℕ
one_more before = min (before + 1) (2 ^ 64 - 1)

-- one call more, which is also the number of that call. The count stands still at its end
abbrev pub one_call : ℕ → ℕ
one_call before = min (before + 1) (2 ^ 32 - 1)

-- a call is among those that fail
abbrev pub is_listed : ℕ → List ℕ → Bool
is_listed call fail = list_any (λ one. nat_eq one call) fail
