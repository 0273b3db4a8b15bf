-- Whether an object's id comes before another, by the texts of both.
use Rattle.std.specs.Prelude.{Bool, not}
use Rattle.std.specs.Ordering.{is_lt}
use Rattle.rl_ids.specs.declared.objects.ObjectId.{ObjectId}
use Rattle.rl_ids.specs.Objects.{id_cmp}
use Rattle.rl_objmodel.specs.Held.{Held}

-- the object's id comes before this one
abbrev pub is_before_id : ObjectId → Held → Bool
is_before_id id held = is_lt (id_cmp held.id id)

-- the object's id comes before this one, or is it
abbrev pub is_upto_id : ObjectId → Held → Bool
is_upto_id id held = not (is_lt (id_cmp id held.id))
