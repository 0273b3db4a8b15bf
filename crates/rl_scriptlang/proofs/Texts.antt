-- Lines whose text is all that follows two tokens.
use Rattle.std.proofs.Common.{◌≡◌, ℕ, List, [], ◌∷◌, ◌∙◌, sym, ap}
use Rattle.std.specs.List.{slice_split}
use Rattle.rl_model.specs.Script.{is_space, pub_line, feed_line}
use Rattle.rl_scriptlang.proofs.Splits.{split_some}

-- whatever the third token is
pub pub_said : (tokens : List (List ℕ)) (text shown first second rest : List ℕ) → tokens ≡ first ∷ second ∷ slice_split is_space rest
    → shown ≡ text → pub_line text tokens ≡ pub_line shown (first ∷ second ∷ [] ∷ [])
pub_said tokens text shown first second rest is same =
    let more = split_some is_space rest in
    ap (pub_line text) (is ∙ ap (λ others. first ∷ second ∷ others) more.is)
    ∙ ap (λ t. pub_line t (first ∷ second ∷ [] ∷ [])) (sym same)

pub feed_said : (tokens : List (List ℕ)) (text shown first second rest : List ℕ) → tokens ≡ first ∷ second ∷ slice_split is_space rest
    → shown ≡ text → feed_line text tokens ≡ feed_line shown (first ∷ second ∷ [] ∷ [])
feed_said tokens text shown first second rest is same =
    let more = split_some is_space rest in
    ap (feed_line text) (is ∙ ap (λ others. first ∷ second ∷ others) more.is)
    ∙ ap (λ t. feed_line t (first ∷ second ∷ [] ∷ [])) (sym same)
