-- Several writes, one after another.
use Rattle.std.proofs.Common.{◌≡◌, ℕ, ◌+◌, ◌<◌, Bool, true, false, cond, List, [], ◌∷◌, ◌++◌, length, take, refl, ap, sym, ◌∙◌, get_or}
use Rattle.std.proofs.lemmas.List.{take_more}
use Rattle.std.specs.Prelude.{map}
use Rattle.rl_objmodel.specs.Held.{Write, Cells}
use Rattle.rl_objmodel.specs.Steps.{MapHeld, with_write, with_writes}

writes_push : (xs : Cells) (x : List ℕ × Write) (cells : Cells) → with_writes (xs ++ x ∷ []) cells ≡ with_write x.0 x.1 (with_writes xs cells)
writes_push [] x cells = refl
writes_push (y ∷ xs) x cells = writes_push xs x (with_write y.0 y.1 cells)

map_push : {A : Type 0} (f : A → List ℕ × Write) (xs : List A) (x : A) → map f (xs ++ x ∷ []) ≡ map f xs ++ f x ∷ []
map_push f [] x = refl
map_push f (y ∷ xs) x = ap (λ (ys : Cells). f y ∷ ys) (map_push f xs x)

-- one more of the writes that a list makes
pub mapped_push : {A : Type 0} (f : A → List ℕ × Write) (xs : List A) (x : A) (cells : Cells) → with_writes (map f (xs ++ x ∷ [])) cells ≡ with_write (f x).0 (f x).1 (with_writes (map f xs) cells)
mapped_push f xs x cells = ap (λ (ys : Cells). with_writes ys cells) (map_push f xs x) ∙ writes_push (map f xs) (f x) cells

-- as maps are held

abbrev pub with_cells : MapHeld → Cells → MapHeld
with_cells held cells = record held { cells = cells }

pub held_push : {A : Type 0} (f : A → List ℕ × Write) (xs : List A) (x : A) (before now after : MapHeld) → now ≡ with_cells before (with_writes (map f xs) before.cells) → after ≡ with_cells now (with_write (f x).0 (f x).1 now.cells) → after ≡ with_cells before (with_writes (map f (xs ++ x ∷ [])) before.cells)
held_push f xs x before now after is step =
    step
    ∙ ap (λ (m : MapHeld). with_cells m (with_write (f x).0 (f x).1 m.cells)) is
    ∙ ap (with_cells before) (sym (mapped_push f xs x before.cells))

-- as loops go over a list

pub held_more : {A : Type 0} (f : A → List ℕ × Write) (xs : List A) (i : ℕ) (d : A) (before now after : MapHeld) (write : List ℕ × Write) → i < length xs → now ≡ with_cells before (with_writes (map f (take i xs)) before.cells) → write ≡ f (get_or xs i d) → after ≡ with_cells now (with_write write.0 write.1 now.cells) → after ≡ with_cells before (with_writes (map f (take (i + 1) xs)) before.cells)
held_more {A} f xs i d before now after write h is e step =
    held_push f (take i xs) (get_or xs i d) before now after is (step ∙ ap (λ (w : List ℕ × Write). with_cells now (with_write w.0 w.1 now.cells)) e)
    ∙ ap (λ (ys : List A). with_cells before (with_writes (map f ys) before.cells)) (sym (take_more xs i d h))

pub pair_is : {A : Type 0} (x : List ℕ) (y : A) (p : List ℕ × A) → x ≡ p.0 → y ≡ p.1 → (x, y) ≡ p
pair_is {A} x y p h k = ap (λ (t : List ℕ). (t, y)) h ∙ ap (λ (z : A). (p.0, z)) k
