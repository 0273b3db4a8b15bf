-- The rules of one operation, as they are judged over what a pool holds.
use Rattle.std.specs.Prelude.{◌≡◌, ℕ, Bool, false, Option, option_map}
use Rattle.std.specs.Option.{option_map_or}
use Rattle.rl_ids.specs.declared.objects.ObjectId.{ObjectId}
use Rattle.rl_types.specs.declared.objects.ObjectState.{ObjectState}
use Rattle.rl_objmodel.specs.Held.{Held, shown}
use Rattle.rl_objmodel.specs.Rules.{is_heavy, pool_rule}
use Rattle.rl_objmodel.specs.Steps.{states}
use Rattle.rl_objrules.specs.declared.load.Shelf.{Shelf}
use Rattle.rl_objrules.specs.Loads.{load_in}

-- an object that is there or not, as a page shows it
abbrev pub shown_at : Option Held → Option ObjectState
shown_at found = option_map shown found

-- the object that is found, whatever the id
abbrev pub found_for : Option Held → ObjectId → Option ObjectState
found_for found id = shown_at found

-- where the load is that of the objects, this is what the rule on all of them says after an operation, whose own object
-- is past the weight of one or not
abbrev pub JudgesPool : Shelf → Bool → Option ℕ → Type 0
JudgesPool shelf heavy code =
    (target : Option ObjectState) → heavy ≡ option_map_or is_heavy target false → shelf.load ≡ load_in shelf.objects → code ≡ pool_rule target (states shelf.objects)
