-- A list of values that isn't empty.
use Rattle.std.proofs.Common.{◌≡◌, ◌<◌, List, [], ◌∷◌, length, Some, refl, arith}
use Rattle.serde_json.specs.declared.value.Value.{Value}
use Rattle.serde_json.specs.View.{items_view}
use Rattle.rl_jsonfields.specs.Fields.{not_empty}

pub is_not_empty : (vs : List Value) → 0 < length vs → not_empty (items_view vs) ≡ Some (items_view vs)
is_not_empty [] h = absurd (omega arith)
is_not_empty (v ∷ vs) h = refl
