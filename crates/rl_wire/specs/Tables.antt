-- Tables from numbers.
use Rattle.std.specs.Prelude.{ℕ, ◌==◌, List, [], ◌∷◌, Option, Some, None, if◌then◌else◌}

-- what stands at a number
abbrev pub at_number : {A : Type 0} → ℕ → List (ℕ × A) → Option A
at_number n [] = None
at_number n (row ∷ rows) = if n == row.0 then Some row.1 else at_number n rows
