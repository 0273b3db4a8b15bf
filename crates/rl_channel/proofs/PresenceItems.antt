-- One more presence item is filled with the next index.
use Rattle.std.proofs.Common.{◌≡◌, ℕ, ◌+◌, List, [], ◌∷◌, ◌++◌, length, refl, ap, ◌∙◌, arith}
use Rattle.std.specs.Prelude.{suc}
use Rattle.std.proofs.lemmas.Grind.{common_steps}
use Rattle.rl_ids.specs.Forms.{conn_text}
use Rattle.rl_types.specs.declared.presence.PresenceItem.{PresenceItem}
use Rattle.rl_model.specs.Texts.{made_id}
use Rattle.rl_model.specs.Ids.{filled_presence}

pub presence_more : (conn serial now k : ℕ) (items : List PresenceItem) (item : PresenceItem) → filled_presence conn serial now k (items ++ item ∷ []) ≡ filled_presence conn serial now k items ++ record item { id = made_id conn serial (k + length items); conn = conn_text conn; stamp = now } ∷ []
presence_more conn serial now k [] item = grind (arith, common_steps)
presence_more conn serial now k (first ∷ items) item = grind (arith, common_steps, presence_more conn serial now (suc k) items item)

pub length_presence : (conn serial now k : ℕ) (items : List PresenceItem) → length (filled_presence conn serial now k items) ≡ length items
length_presence conn serial now k [] = refl
length_presence conn serial now k (first ∷ items) = ap suc (length_presence conn serial now (suc k) items)

pub presence_at_push : (conn serial now : ℕ) (items : List PresenceItem) (item : PresenceItem) (index : ℕ) (made : List PresenceItem) → made ≡ filled_presence conn serial now 0 items → index ≡ length made → filled_presence conn serial now 0 (items ++ item ∷ []) ≡ made ++ record item { id = made_id conn serial index; conn = conn_text conn; stamp = now } ∷ []
presence_at_push conn serial now items item index made is at =
    let more = presence_more conn serial now 0 items item in
    let same : index ≡ 0 + length items = rw is at at ∙ length_presence conn serial now 0 items ∙ omega arith in
    rw (is, same) more
