-- When connections are given up.
use Rattle.std.specs.Prelude.{◌≡◌, ℕ, ◌+◌, ◌-◌, ◌^◌, min, Bool, false, nat_le, List, map, fold, Option, Some, None}
use Rattle.std.specs.List.{filter}
use Rattle.std.specs.List.Sorted.{IsStrictlySortedBy}
use Rattle.std.specs.Map.{lookup, remove_entry, keys_of}
use Rattle.std.specs.BTreeMap.{is_at}
use Rattle.std.specs.Ordering.{nat_cmp}
use Rattle.rl_numbers.specs.declared.limits.TheConstants.{CONNECTION_STATE_TTL}
use Rattle.rl_connbook.specs.declared.record.Record.{Record}
use Rattle.rl_connbook.specs.declared.record.Standing.{Standing}
use Rattle.rl_connbook.specs.declared.record.Standing.TheVariants.{Live, LostSince, Closed}
use Rattle.rl_connbook.specs.Book.{is_over}
use Rattle.rl_connbook.specs.Sound.{IsSound}

-- the moment from which a connection may be over: for a live one there is none but the last
abbrev pub due_at : Standing → ℕ
due_at Live = 2 ^ 64 - 1
due_at (LostSince since) = min (since + CONNECTION_STATE_TTL) (2 ^ 64 - 1)
due_at Closed = 0

-- each connection's number with that moment
abbrev pub deadlines_of : List (ℕ × Record) → List (ℕ × ℕ)
deadlines_of records = map (λ e. (e.0, due_at e.1.standing)) records

-- the book is sound, its records' numbers rise, and its deadlines are those of its records
pub record IsKept (last : ℕ) (records : List (ℕ × Record)) (deadlines : List (ℕ × ℕ)) : Type 0 where
  pub sound : IsSound last records
  pub rises : IsStrictlySortedBy nat_cmp (keys_of records)
  pub due : deadlines ≡ deadlines_of records

-- a record that is there and over
abbrev pub is_over_one : ℕ → Option Record → Bool
is_over_one now None = false
is_over_one now (Some r) = is_over now r

-- whether the connection with this number is there and over
abbrev pub is_over_at : ℕ → List (ℕ × Record) → ℕ → Bool
is_over_at now records n = is_over_one now (lookup (is_at (nat_cmp n)) records)

-- the deadlines without these numbers
abbrev pub without_deadline : List (ℕ × ℕ) → ℕ → List (ℕ × ℕ)
without_deadline ds n = remove_entry (is_at (nat_cmp n)) ds

abbrev pub without_deadlines : List (ℕ × ℕ) → List ℕ → List (ℕ × ℕ)
without_deadlines ds ns = fold without_deadline ds ns

-- the numbers of the connections whose moment has come, in order
abbrev pub due_numbers : ℕ → List (ℕ × Record) → List ℕ
due_numbers now records = map (λ e. e.0) (filter (λ e. nat_le (due_at e.1.standing) now) records)
