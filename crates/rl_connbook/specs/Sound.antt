-- What holds of every book.
use Rattle.std.specs.Prelude.{◌≡◌, ℕ, ◌^◌, ◌≤◌, ◌<◌, List, take, drop}
use Rattle.std.specs.List.{AllByRecursion}
use Rattle.rl_base.specs.Digits.{fixed_text}
use Rattle.rl_connbook.specs.declared.record.Record.{Record}

-- a key has this number in its place
pub record IsNumbered (n : ℕ) (key : List ℕ) : Type 0 where
  pub small : n < 2 ^ 32
  pub digits : take 8 (drop 1 key) ≡ fixed_text 16 8 n

-- no number is above the last one given, and each record's key has the record's number
pub record IsSound (last : ℕ) (records : List (ℕ × Record)) : Type 0 where
  pub below : AllByRecursion (λ e. e.0 ≤ last) records
  pub keyed : AllByRecursion (λ e. IsNumbered e.0 e.1.key) records
