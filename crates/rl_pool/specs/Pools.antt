-- Pages of a pool, and what a Tick leaves at one place.
use Rattle.std.specs.Prelude.{ℕ, Bool, if◌then◌else◌, nat_le, List, length, map, remove, slice_set, take, Option}
use Rattle.rl_ids.specs.declared.objects.ObjectId.{ObjectId}
use Rattle.rl_types.specs.declared.objects.ObjectState.{ObjectState}
use Rattle.rl_objmodel.specs.Held.{Held, shown}
use Rattle.rl_objmodel.specs.Steps.{collected_body, is_gone}
use Rattle.rl_objrules.specs.Ids.{past_id}

-- PAGES

-- the first of the objects past an id, as pages show them
abbrev pub page_states : Option ObjectId → ℕ → List Held → List ObjectState
page_states after most pool = map shown (take most (past_id after pool))

-- none remain after these
abbrev pub is_last_page : Option ObjectId → ℕ → List Held → Bool
is_last_page after most pool = nat_le (length (past_id after pool)) most

-- A TICK

abbrev pub collected_one : ℕ → Held → Held
collected_one now held = record held { body = collected_body now held.body }

-- the objects without the one at a place, or with what a Tick leaves of it
abbrev pub collected_at : ℕ → Held → ℕ → List Held → List Held
collected_at now held at pool = if is_gone now held then remove pool at else slice_set pool at (collected_one now held)
