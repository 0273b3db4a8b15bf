-- What reads as absent.
use Rattle.std.specs.Prelude.{◌++◌, [], ◌∷◌, filter_map, ℕ, Bool, true, List, Option, Some, None, option_map}
use Rattle.rl_ids.specs.declared.objects.ObjectId.{ObjectId}
use Rattle.rl_ids.specs.declared.objects.MapValue.{MapValue}
use Rattle.rl_ids.specs.declared.objects.MapValue.TheVariants as values
use Rattle.rl_types.specs.declared.objects.MapCell.{MapCell}
use Rattle.rl_types.specs.declared.objects.ObjectState.{ObjectState}
use Rattle.rl_types.specs.declared.objects.ObjectBody.{ObjectBody}
use Rattle.rl_types.specs.declared.objects.ObjectBody.TheVariants as bodies
use Rattle.rl_objmodel.specs.Held.{Held, shown}
use Rattle.rl_objmodel.specs.Objects.{read_value}
use Rattle.rl_objmodel.specs.Steps.{read_body}

-- a cell as a page shows it, where its value is there and names no object that is not live
abbrev pub read_shown : (ObjectId → Bool) → List ℕ × MapCell → Option (List ℕ × MapCell)
read_shown lives cell =
    option_map (λ (value : MapValue). (cell.0, record { serial = cell.1.serial; value = Some value })) (read_value lives cell.1.value)

-- with one more, where there is one
abbrev pub with_option : {A : Type 0} → List A → Option A → List A
with_option xs None = xs
with_option xs (Some x) = xs ++ x ∷ []

-- a value names no object, or one that is live
abbrev pub reads : (ObjectId → Bool) → MapValue → Bool
reads lives (values.Ref id) = lives id
reads lives value = true

abbrev pub read_shown_body : (ObjectId → Bool) → ObjectBody → ObjectBody
read_shown_body lives (bodies.Counter sum) = bodies.Counter sum
read_shown_body lives (bodies.Map cells) = bodies.Map (filter_map (read_shown lives) cells)

-- a live object as it reads
abbrev pub live_state : (ObjectId → Bool) → Held → ObjectState
live_state lives held = record (shown held) { body = read_body lives held.body }
