-- Writing items one behind the other.
use Rattle.std.proofs.Common.{◌≡◌, ◌<◌, ◌≤◌, ℕ, suc, ◌+◌, List, [], ◌∷◌, ◌++◌, length, map, take, get_or, refl, sym, ap, ◌∙◌, arith, length-take-le}
use Rattle.std.proofs.lemmas.List.{take_more}
use Rattle.serde_json.specs.Data.{Data}
use Rattle.serde_json.specs.declared.value.Value.{Value}
use Rattle.serde_json.specs.View.{view}
use Rattle.rl_wireitems.specs.Items.{values_at}

module _ {A : Type 0} (value : ℕ → A → Data) where
  push : (i : ℕ) (xs : List A) (x : A) → values_at value i (xs ++ x ∷ []) ≡ values_at value i xs ++ value (i + length xs) x ∷ []
  push i [] x = ap (λ j. value j x ∷ []) (omega arith)
  push i (y ∷ ys) x = ap (λ r. value i y ∷ r) (push (i + 1) ys x ∙ ap (λ j. values_at value (i + 1) ys ++ value j x ∷ []) (omega arith))

  seen_push : (vs : List Value) (v : Value) → map view (vs ++ v ∷ []) ≡ map view vs ++ view v ∷ []
  seen_push [] v = refl
  seen_push (w ∷ ws) v = ap (λ r. view w ∷ r) (seen_push ws v)

  -- one more value is written
  pub value_pushed : (vs : List Value) (v : Value) (xs : List A) (k : ℕ) (x : A) → k < length xs → x ≡ get_or xs k x
      → map view vs ≡ values_at value 0 (take k xs) → view v ≡ value k x → map view (vs ++ v ∷ []) ≡ values_at value 0 (take (k + 1) xs)
  value_pushed vs v xs k x within is so_far written =
      let at : k ≡ 0 + length (take k xs) = omega (arith, length-take-le k xs (omega (arith, within))) in
      let more : take (k + 1) xs ≡ take k xs ++ x ∷ [] = take_more xs k x within ∙ ap (λ y. take k xs ++ y ∷ []) (sym is) in
      seen_push vs v
      ∙ ap (λ r. r ++ view v ∷ []) so_far
      ∙ ap (λ d. values_at value 0 (take k xs) ++ d ∷ []) (written ∙ ap (λ j. value j x) at)
      ∙ sym (push 0 (take k xs) x)
      ∙ ap (values_at value 0) (sym more)
