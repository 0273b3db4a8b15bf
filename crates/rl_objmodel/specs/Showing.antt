-- In which order pages show what is kept.
use Rattle.std.specs.Prelude.{⊤, ◌≡◌, ℕ, List, [], ◌∷◌}
use Rattle.std.specs.List.{AllByRecursion}
use Rattle.std.specs.declared.cmp.Ordering.TheVariants.{Less}
use Rattle.rl_ids.specs.Objects.{id_cmp}
use Rattle.rl_types.specs.declared.objects.ObjectBody.{ObjectBody}
use Rattle.rl_types.specs.declared.objects.ObjectBody.TheVariants as bodies
use Rattle.rl_types.specs.declared.objects.ObjectState.{ObjectState}
use Rattle.rl_objmodel.specs.Operations.{Stamped}
use Rattle.rl_objmodel.specs.Objects.{kept_objects}
use Rattle.rl_objmodel.specs.Places.{AreRising}

-- a map's keys come in order, each once
abbrev pub AreKeysRising : ObjectBody → Type 0
AreKeysRising (bodies.Counter sum) = ⊤
AreKeysRising (bodies.Map cells) = AreRising cells

-- an object's sites come in order, each once, and so do its keys
pub record IsInOrder (state : ObjectState) : Type 0 where
  pub sites : AreRising state.sites
  pub keys : AreKeysRising state.body

-- each object's id comes before those of all later ones
abbrev pub AreIdsRising : List ObjectState → Type 0
AreIdsRising [] = ⊤
AreIdsRising (state ∷ states) = AllByRecursion (λ (other : ObjectState). id_cmp state.id other.id ≡ Less) states × AreIdsRising states

-- objects in order of id, and each in order
pub record AreInOrder (states : List ObjectState) : Type 0 where
  pub ids : AreIdsRising states
  pub each : AllByRecursion IsInOrder states

-- what is kept of any operations is shown in order, whenever the last Tick was
abbrev pub KeptInOrder : Type 0
KeptInOrder = (ticked : ℕ) (latest : List Stamped) → AreInOrder (kept_objects ticked latest)
