-- The last item of a list.
use Rattle.std.proofs.Common.{◌≡◌, ◌-◌, List, [], ◌∷◌, ◌++◌, length, map, refl, ◌∙◌, ap, arith}
use Rattle.std.specs.Prelude.{Option, Some, None, slice_get}
use Rattle.std.specs.List.{last_or}
use Rattle.std.specs.Option.{option_map, option_or}

last_at : {A : Type 0} (o : Option A) (y : A) (ys : List A) (x : A) → slice_get (y ∷ ys) (length ys) ≡ Some x → last_or o (y ∷ ys) ≡ Some x
last_at o y [] x is = is
last_at o y (z ∷ zs) x is = last_at (Some y) z zs x is

-- by its index
last_is : {A : Type 0} (o : Option A) (xs : List A) (x : A) → slice_get xs (length xs - 1) ≡ Some x → last_or o xs ≡ Some x
last_is o [] x is = grind (arith, is)
last_is o (y ∷ ys) x is =
    let e : length (y ∷ ys) - 1 ≡ length ys = omega arith in
    last_at o y ys x (rw e at is)

last_map : {A B : Type 0} (f : A → B) (o : Option A) (xs : List A) → last_or (option_map f o) (map f xs) ≡ option_map f (last_or o xs)
last_map f o [] = refl
last_map f o (x ∷ xs) = last_map f (Some x) xs

-- what a function gives of the last item
pub last_mapped : {A B : Type 0} (f : A → B) (xs : List A) (x : A) → slice_get xs (length xs - 1) ≡ Some x → last_or None (map f xs) ≡ Some (f x)
last_mapped f xs x is = last_map f None xs ∙ ap (option_map f) (last_is None xs x is)

pub last_append : {A : Type 0} (o : Option A) (xs ys : List A) → last_or o (xs ++ ys) ≡ last_or (last_or o xs) ys
last_append o [] ys = refl
last_append o (x ∷ xs) ys = last_append (Some x) xs ys

last_some : {A : Type 0} (o : Option A) (y : A) (ys : List A) → option_or (last_or (Some y) ys) o ≡ last_or (Some y) ys
last_some o y [] = refl
last_some o y (z ∷ zs) = last_some o z zs

-- what stood before it stays where there is none
pub last_else : {A : Type 0} (o : Option A) (xs : List A) → option_or (last_or None xs) o ≡ last_or o xs
last_else o [] = refl
last_else o (x ∷ xs) = last_some o x xs
