-- Words that are joined.
use Rattle.std.proofs.Common.{◌≡◌, ℕ, List, [], ◌∷◌, flat_map, refl}
use Rattle.std.proofs.lemmas.Grind.{flat_map-append}
use Rattle.rl_types.specs.declared.messages.Item.{Item}
use Rattle.rl_types.specs.declared.objects.ObjectOp.{ObjectOp}
use Rattle.rl_types.specs.declared.presence.PresenceItem.{PresenceItem}
use Rattle.rl_model.specs.Report.{spaced, item_words, op_words, presence_words}

-- the words of all are the words of each
spaced_each : {X : Type 0} (words : X → List (List ℕ)) (all : List X) → spaced (flat_map words all) ≡ flat_map (λ one. spaced (words one)) all
spaced_each words [] = refl
spaced_each words (one ∷ all) =
    rw (flat_map-append (λ word. 32 ∷ word) (words one) (flat_map words all), spaced_each words all) refl

pub spaced_items : (items : List Item) → spaced (flat_map item_words items) ≡ flat_map (λ item. spaced (item_words item)) items
spaced_items items = spaced_each item_words items

pub spaced_presence : (items : List PresenceItem) → spaced (flat_map presence_words items) ≡ flat_map (λ item. spaced (presence_words item)) items
spaced_presence items = spaced_each presence_words items

pub spaced_ops : (ops : List ObjectOp) → spaced (flat_map op_words ops) ≡ flat_map (λ op. spaced (op_words op)) ops
spaced_ops ops = spaced_each op_words ops
