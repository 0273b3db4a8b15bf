-- Lists: what holds of each item that is read, and what is written is read again.
use Rattle.std.proofs.Common.{◌≡◌, ◌<◌, List, [], ◌∷◌, map, length, Some, Ok, refl, subst, All, arith}
use Rattle.std.proofs.lemmas.List.Elements.{All-cons, All-nil, All-head, All-tail}
use Rattle.serde_json.specs.Data.{Data, Items, no_items, item}
use Rattle.serde_json.specs.View.{items_of}
use Rattle.rl_jsonfields.specs.Fields.{Reads, not_empty, each}
use Rattle.rl_jsonfields.specs.Order.{Ordered, ItemsOrdered}
use Rattle.rl_jsonfields.proofs.Compact.{Plain, PlainItems}
use Rattle.rl_jsonfields.proofs.Shapes.{bind_ok, ok_is}

module _ {A : Type 0} (one : Data → Reads A) where
  pub list_read : (P : A → Type 0) → ((d : Data) (x : A) → Ordered d → one d ≡ Ok x → P x) → (ds : Items) (xs : List A) → each one ds ≡ Ok xs → ItemsOrdered ds → All P xs
  unfolding each
  list_read P h no_items xs read ordered = subst (All P) (ok_is [] xs read) (All-nil P)
  list_read P h (item d ds) xs read ordered =
      let a = bind_ok (one d) _ xs read in
      let b = bind_ok (each one ds) _ xs a.2 in
      subst (All P) (ok_is (a.0 ∷ b.0) xs b.2) (All-cons P a.0 b.0 (h d a.0 ordered.0 a.1) (list_read P h ds b.0 b.1 ordered.1))

  pub list_full : (ds : Items) (xs : List A) → not_empty ds ≡ Some ds → each one ds ≡ Ok xs → 0 < length xs
  unfolding each
  list_full no_items xs full read = absurd cc
  list_full (item d ds) xs full read =
      let a = bind_ok (one d) _ xs read in
      let b = bind_ok (each one ds) _ xs a.2 in
      subst (λ ys. 0 < length ys) (ok_is (a.0 ∷ b.0) xs b.2) (omega arith)

  pub list_again : (json : A → Data) (P : A → Type 0) → ((x : A) → P x → one (json x) ≡ Ok x) → (xs : List A) → All P xs → each one (items_of (map json xs)) ≡ Ok xs
  unfolding each
  list_again json P h [] all = refl
  list_again json P h (x ∷ xs) all = rw (h x (All-head P x xs all), list_again json P h xs (All-tail P x xs all)) refl

module _ {A : Type 0} (json : A → Data) where
  pub list_some : (xs : List A) → 0 < length xs → not_empty (items_of (map json xs)) ≡ Some (items_of (map json xs))
  list_some [] h = absurd (omega arith)
  list_some (x ∷ xs) h = refl

  pub list_plain : (P : A → Type 0) → ((x : A) → P x → Plain (json x)) → (xs : List A) → All P xs → PlainItems (items_of (map json xs))
  list_plain P h [] all = tt
  list_plain P h (x ∷ xs) all = (h x (All-head P x xs all), list_plain P h xs (All-tail P x xs all))
