-- One more item is filled with the next index.
use Rattle.std.proofs.Common.{◌≡◌, ℕ, ◌+◌, List, [], ◌∷◌, ◌++◌, length, refl, ap, ◌∙◌, arith}
use Rattle.std.specs.Prelude.{suc, Some}
use Rattle.std.proofs.lemmas.Grind.{common_steps}
use Rattle.rl_types.specs.declared.messages.Item.{Item}
use Rattle.rl_model.specs.Ids.{filled_id, filled_items}

pub filled_more : (conn serial k : ℕ) (items : List Item) (item : Item) → filled_items conn serial k (items ++ item ∷ []) ≡ filled_items conn serial k items ++ record item { id = Some (filled_id conn serial (k + length items) item.id) } ∷ []
filled_more conn serial k [] item = grind (arith, common_steps)
filled_more conn serial k (first ∷ items) item = grind (arith, common_steps, filled_more conn serial (suc k) items item)

pub length_filled : (conn serial k : ℕ) (items : List Item) → length (filled_items conn serial k items) ≡ length items
length_filled conn serial k [] = refl
length_filled conn serial k (first ∷ items) = ap suc (length_filled conn serial (suc k) items)

pub filled_at_push : (conn serial : ℕ) (items : List Item) (item : Item) (index : ℕ) (made : List Item) → made ≡ filled_items conn serial 0 items → index ≡ length made → filled_items conn serial 0 (items ++ item ∷ []) ≡ made ++ record item { id = Some (filled_id conn serial index item.id) } ∷ []
filled_at_push conn serial items item index made is at =
    let more = filled_more conn serial 0 items item in
    let same : index ≡ 0 + length items = rw is at at ∙ length_filled conn serial 0 items ∙ omega arith in
    rw (is, same) more
