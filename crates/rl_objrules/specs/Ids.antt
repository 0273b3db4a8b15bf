-- Objects in order of id, and where an id stands among them.
use Rattle.std.specs.Prelude.{◌≡◌, ℕ, ◌<◌, ◌≤◌, Bool, true, false, List, [], ◌∷◌, filter, length, ⊤, slice_index_or, Option, Some, None, Result, MatchResult}
use Rattle.std.specs.List.{AllByRecursion, AllWithin}
use Rattle.std.specs.declared.cmp.Ordering.TheVariants.{Less}
use Rattle.std.specs.Ordering.{is_lt}
use Rattle.rl_ids.specs.declared.objects.ObjectId.{ObjectId}
use Rattle.rl_ids.specs.Objects.{id_cmp}
use Rattle.rl_objmodel.specs.Held.{Held}
use Rattle.rl_objmodel.specs.Steps.{is_held_as}
use Rattle.rl_object.specs.Ids.{is_before_id}

-- each object's id comes before those of all later ones
abbrev pub AreAscending : List Held → Type 0
AreAscending [] = ⊤
AreAscending (held ∷ pool) = AllByRecursion (λ other. id_cmp held.id other.id ≡ Less) pool × AreAscending pool

pub record IsAscending (pool : List Held) : Type 0 where
  pub ascending : AreAscending pool

-- the test holds of the objects before the place, and of none from there on
pub record IsIdPlace (test : Held → Bool) (pool : List Held) (at : ℕ) : Type 0 where
  pub within : at ≤ length pool
  pub below : AllWithin (λ held. test held ≡ true) pool 0 at
  pub above : AllWithin (λ held. test held ≡ false) pool at (length pool)

-- the id's object is at the place
pub record IsIdHeldAt (id : ObjectId) (pool : List Held) (at : ℕ) : Type 0 where
  pub place : IsIdPlace (is_before_id id) pool at
  pub within : at < length pool
  pub same : (other : Held) → is_held_as id (slice_index_or pool at other) ≡ true

-- the id has no object, and one of it would stand at the place
pub record IsIdMissedAt (id : ObjectId) (pool : List Held) (at : ℕ) : Type 0 where
  pub place : IsIdPlace (is_before_id id) pool at
  pub other : (other : Held) → at < length pool → is_held_as id (slice_index_or pool at other) ≡ false

-- where the id's object is, or would stand
abbrev pub FindsId : ObjectId → List Held → Result ℕ ℕ → Type 0
FindsId id pool result = MatchResult result (IsIdHeldAt id pool) (IsIdMissedAt id pool)

-- the place is one of theirs, or one at which another may be put
abbrev pub IsWithin : List Held → Result ℕ ℕ → Type 0
IsWithin pool result = MatchResult result (λ at. at < length pool) (λ at. at ≤ length pool)

-- an object comes past an id; past none all do
abbrev pub is_past_id : Option ObjectId → Held → Bool
is_past_id None held = true
is_past_id (Some id) held = is_lt (id_cmp id held.id)

abbrev pub past_id : Option ObjectId → List Held → List Held
past_id after pool = filter (is_past_id after) pool
