-- The end of the log that is retained.
use Rattle.std.specs.Prelude.{◌≡◌, ℕ, ◌+◌, ◌-◌, ◌^◌, ◌≤◌, Bool, if◌then◌else◌, List, [], ◌∷◌, length, drop, sum_by}
use Rattle.rl_numbers.specs.declared.limits.TheConstants.{MAX_WINDOW_ENTRIES, MAX_WINDOW_WEIGHT}
use Rattle.rl_types.specs.declared.messages.Entry.{Entry}
use Rattle.rl_model.specs.Window.{entry_weight, is_young}
use Rattle.std.specs.Global.{Global}
use Rattle.std.specs.declared.collections.VecDeque.{VecDeque}
use Rattle.std.specs.VecDeque.{deque_capacity, deque_len}

-- so many more items take no memory
abbrev pub spare : {T : Type 0} → VecDeque T Global → ℕ
spare items = deque_capacity items - deque_len items

-- what a contract sees of a window
pub record WindowView : Type 0 where
  pub entries : List Entry  -- those that are retained
  pub head : ℕ  -- the place of the last entry of the log
  pub newest : ℕ  -- the stamp of the last entry
  pub spare : ℕ  -- so many more entries take no memory

-- the window stands for the end of this log that begins at this place
pub record KeepsWindow (view : WindowView) (log : List Entry) (first : ℕ) : Type 0 where
  pub head : view.head ≡ length log
  pub from : 1 ≤ first
  pub within : first ≤ length log + 1
  pub entries : view.entries ≡ drop (first - 1) log

-- STEPS

-- the longest end that passes a test
abbrev pub narrowed : (List Entry → Bool) → List Entry → List Entry
narrowed test [] = []
narrowed test (entry ∷ rest) = if test (entry ∷ rest) then entry ∷ rest else narrowed test rest

-- the entries from the first on that is young enough
abbrev pub young_from : ℕ → List Entry → List Entry
young_from now [] = []
young_from now (entry ∷ rest) = if is_young now entry then entry ∷ rest else young_from now rest

-- WHAT HOLDS AT EVERY MOMENT

-- the stamps do not fall, from low on up to newest
abbrev pub RiseTo : ℕ → List Entry → ℕ → Type 0
RiseTo low [] newest = low ≤ newest
RiseTo low (entry ∷ rest) newest = (low ≤ entry.stamp) × RiseTo entry.stamp rest newest

pub record IsWindow (entries : List Entry) (weight : ℕ) (head : ℕ) (newest : ℕ) : Type 0 where
  pub few : length entries ≤ MAX_WINDOW_ENTRIES
  pub weighed : weight ≡ sum_by entry_weight entries
  pub light : weight ≤ MAX_WINDOW_WEIGHT
  pub within : length entries ≤ head
  pub small : head ≤ 2 ^ 64 - 2
  pub rise : RiseTo 0 entries newest
