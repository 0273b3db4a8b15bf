-- What goes on of a page of objects.
use Rattle.std.specs.Prelude.{ℕ, if◌then◌else◌, nat_le, List, []}
use Rattle.rl_numbers.specs.declared.limits.TheConstants.{PAGE_WEIGHT}
use Rattle.rl_types.specs.declared.objects.ObjectState.{ObjectState}
use Rattle.rl_model.specs.Objects.{cut_from}

-- the states of a page that weighs so much before them: none where that is its limit
abbrev pub page_from : ℕ → List ObjectState → List ObjectState
page_from before states = if nat_le PAGE_WEIGHT before then [] else cut_from before states
