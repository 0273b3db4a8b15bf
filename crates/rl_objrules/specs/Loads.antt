-- What objects load a pool with, and objects beside their load.
use Rattle.std.specs.Prelude.{◌≡◌, ℕ, ◌+◌, ◌-◌, ◌<◌, ◌≤◌, ◌^◌, Bool, true, false, ◌||◌, nat_le, nat_lt, List, is_some, sum_by}
use Rattle.std.specs.Option.{option_map_or}
use Rattle.rl_numbers.specs.declared.limits.TheConstants.{MAX_OBJECTS, MAX_MAP_CELLS, MAX_POOL_WEIGHT}
use Rattle.rl_types.specs.Weight.{saturated, state_weight}
use Rattle.rl_objmodel.specs.Held.{Held, shown}
use Rattle.rl_ids.specs.declared.objects.ObjectId.{ObjectId}
use Rattle.rl_ids.specs.declared.objects.ObjectId.TheVariants.{Root}
use Rattle.rl_objmodel.specs.Rules.{cells_in, is_heavy}
use Rattle.rl_objmodel.specs.Steps.{held_at, state_at}
use Rattle.rl_objrules.specs.declared.load.Load.{Load}
use Rattle.rl_objrules.specs.declared.load.Shelf.{Shelf}
use Rattle.rl_objrules.specs.Ids.{IsAscending}

abbrev pub held_cells : Held → ℕ
held_cells held = cells_in (shown held)

abbrev pub held_weight : Held → ℕ
held_weight held = state_weight (shown held)

-- the object of an id is there, and is past the weight of one
abbrev pub is_heavy_in : List Held → ObjectId → Bool
is_heavy_in pool id = option_map_or is_heavy (state_at pool id) false

-- what one object loads a pool with
abbrev pub load_of : Held → Load
load_of held = record { cells = held_cells held; weight = held_weight held }

abbrev pub no_load : Load
no_load = record { cells = 0; weight = 0 }

-- what all of them do
abbrev pub load_in : List Held → Load
load_in pool = record { cells = sum_by held_cells pool; weight = sum_by held_weight pool }

-- numbers that stay at the greatest of 64 bits
abbrev pub saturated_load : Load → Load
saturated_load load = record { cells = saturated load.cells; weight = saturated load.weight }

-- a number of a load is the greatest of 64 bits, or past it
abbrev pub is_full : Load → Bool
is_full load = nat_le (2 ^ 64) (load.cells + 1) || nat_le (2 ^ 64) (load.weight + 1)

-- a load with more in place of less has a number that does not fit 64 bits
abbrev pub is_past_range : Load → Load → Load → Bool
is_past_range load less more = nat_le (2 ^ 64) ((load.cells - less.cells) + more.cells) || nat_le (2 ^ 64) ((load.weight - less.weight) + more.weight)

-- no number of the one is greater than that of the other
pub record IsUnder (less : Load) (load : Load) : Type 0 where
  pub cells : less.cells ≤ load.cells
  pub weight : less.weight ≤ load.weight

-- the load with more in place of less
pub record IsExchanged (before : Load) (less : Load) (more : Load) (after : Load) : Type 0 where
  pub cells : after.cells + less.cells ≡ before.cells + more.cells
  pub weight : after.weight + less.weight ≡ before.weight + more.weight

-- the root is among them
abbrev pub HasRoot : List Held → Type 0
HasRoot pool = is_some (held_at Root pool) ≡ true

-- the objects are in order of id, the root is among them, and the load is theirs
pub record IsSound (shelf : Shelf) : Type 0 where
  pub ascending : IsAscending shelf.objects
  pub rooted : HasRoot shelf.objects
  pub load : shelf.load ≡ load_in shelf.objects

-- so many objects with such a load are more, or weigh more, than a pool may have, or one of them is past its own weight
abbrev pub is_past_limits : ℕ → Load → Bool → Bool
is_past_limits count load heavy =
    nat_lt MAX_OBJECTS count || nat_lt MAX_MAP_CELLS load.cells || heavy || nat_lt MAX_POOL_WEIGHT load.weight

-- the numbers of a load fit 64 bits
pub record IsInRange (load : Load) : Type 0 where
  pub cells : load.cells < 2 ^ 64
  pub weight : load.weight < 2 ^ 64
