-- What pages show of two pools.
use Rattle.std.proofs.Common.{◌≡◌, ℕ, zero, suc, ◌<◌, Bool, true, false, List, [], ◌∷◌, length, refl, ap, sym, ◌∙◌, ◌↔◌, IsTrue, arith, get_or}
use Rattle.rl_types.specs.declared.objects.ObjectState.{ObjectState}
use Rattle.rl_objmodel.specs.Held.{Held, shown}
use Rattle.rl_objmodel.specs.Steps.{states}

get_any : (xs : List ObjectState) (i : ℕ) (d e : ObjectState) → i < length xs → get_or xs i d ≡ get_or xs i e
get_any [] i d e h = absurd (omega arith)
get_any (x ∷ xs) zero d e h = refl
get_any (x ∷ xs) (suc i) d e h = get_any xs i d e (omega arith)

length_states : (xs : List Held) → length (states xs) ≡ length xs
length_states [] = refl
length_states (x ∷ xs) = ap suc (length_states xs)

shown_at : (xs : List Held) (i : ℕ) (d : Held) → shown (get_or xs i d) ≡ get_or (states xs) i (shown d)
shown_at [] i d = refl
shown_at (x ∷ xs) zero d = refl
shown_at (x ∷ xs) (suc i) d = shown_at xs i d

same_at : (xs ys : List Held) (i : ℕ) (d e : Held) → i < length xs → states xs ≡ states ys → d ≡ get_or xs i d → e ≡ get_or ys i e → shown d ≡ shown e
same_at xs ys i d e h same is is2 =
    ap shown is ∙ shown_at xs i d ∙ get_any (states xs) i (shown d) (shown e) (omega (arith, length_states xs, h))
    ∙ ap (λ (zs : List ObjectState). get_or zs i (shown e)) same ∙ sym (shown_at ys i e) ∙ ap shown (sym is2)

pub differ : (xs ys : List Held) (i j : ℕ) (d e : Held) (b : Bool) → i < length xs → j ≡ i → d ≡ get_or xs i d → e ≡ get_or ys j e → (IsTrue b ↔ (shown d ≡ shown e)) → b ≡ false → IsTrue false ↔ (states xs ≡ states ys)
differ xs ys i j d e true h same is is2 tells no_same = (λ f. cc, λ s. cc)
differ xs ys i j d e false h same is is2 tells no_same =
    (λ f. cc, λ s. tells.1 (same_at xs ys i d e h s is (is2 ∙ ap (λ (k : ℕ). get_or ys k e) same)))
