-- What reading digits answers.
use Rattle.std.specs.Prelude.{◌≡◌, ◌≤◌, ◌^◌, ℕ, List, Option, Some, None}
use Rattle.rl_model.specs.Script.{digits_value}

-- the number that the digits spell, or none where it has more than 64 bits
abbrev pub IsValue : List ℕ → Option ℕ → Type 0
IsValue digits (Some value) = value ≡ digits_value 0 digits
IsValue digits None = 2 ^ 64 ≤ digits_value 0 digits
