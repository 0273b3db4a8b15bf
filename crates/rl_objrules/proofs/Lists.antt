-- Tests over lists.
use Rattle.std.proofs.Common.{◌≡◌, ℕ, Bool, List, [], ◌∷◌, refl, ap, sym, ◌∙◌, get_or, length, sum_by, suc, arith}
use Rattle.std.specs.Prelude.{map, ◌||◌, Some, None}
use Rattle.std.specs.List.{list_any}
use Rattle.rl_ids.specs.declared.objects.ObjectId.{ObjectId}
use Rattle.std.proofs.lemmas.List.Sums.{sum_by-cons}
use Rattle.rl_objmodel.specs.Held.{Held}
use Rattle.rl_objmodel.specs.Steps.{held_at}
use Rattle.rl_objrules.specs.Ids.{IsAscending, IsIdHeldAt, IsIdMissedAt}
use Rattle.rl_objrules.proofs.Places.{held_there, missed_there}

pub any_map : {A B : Type 0} (f : B → Bool) (g : A → B) (xs : List A) → list_any (λ x. f (g x)) xs ≡ list_any f (map g xs)
any_map f g [] = refl
any_map f g (x ∷ xs) = ap (λ (b : Bool). f (g x) || b) (any_map f g xs)

pub found_there : (id : ObjectId) (pool : List Held) (at : ℕ) (d : Held) → IsIdHeldAt id pool at → d ≡ get_or pool at d → Some d ≡ held_at id pool
found_there id pool at d place is = ap (λ (h : Held). Some h) is ∙ sym (held_there id pool at d place)

pub found_none : (id : ObjectId) (pool : List Held) (at : ℕ) → IsAscending pool → IsIdMissedAt id pool at → None ≡ held_at id pool
found_none id pool at ascending place = sym (missed_there id pool at ascending place)

pub length_map : {A B : Type 0} (g : A → B) (xs : List A) → length xs ≡ length (map g xs)
length_map g [] = refl
length_map g (x ∷ xs) = ap suc (length_map g xs)

pub sum_map : {A B : Type 0} (f : B → ℕ) (g : A → B) (xs : List A) → sum_by (λ x. f (g x)) xs ≡ sum_by f (map g xs)
sum_map f g [] = refl
sum_map f g (x ∷ xs) = omega (arith, sum_by-cons (λ y. f (g y)) x xs, sum_by-cons f (g x) (map g xs), sum_map f g xs)
