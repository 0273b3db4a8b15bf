-- Entries by name where one is taken out.
use Rattle.std.proofs.Common.{◌≡◌, ℕ, Bool, true, false, cond, List, [], ◌∷◌, refl, sym, ◌∙◌, ap, is_eq}
use Rattle.std.specs.Prelude.{Option, Some, None, bytes_eq}
use Rattle.std.specs.Ordering.{nat_cmp}
use Rattle.std.specs.declared.cmp.Ordering.TheVariants.{Less}
use Rattle.std.specs.Cmp.Lexicographic.{slice_cmp}
use Rattle.std.specs.List.{AllByRecursion}
use Rattle.std.proofs.lemmas.Map.Text.{is_eq-slice_cmp}
use Rattle.rl_objmodel.specs.Places.{AreRising}
use Rattle.rl_names.specs.Names.{at, without}
use Rattle.rl_worldlanes.proofs.Lanes.{same_name}

is_same : (name key : List ℕ) → is_eq (slice_cmp nat_cmp name key) ≡ true → name ≡ key
is_same name key is = same_name name key (sym (is_eq-slice_cmp name key) ∙ is)

module _ {V : Type 0} where
  -- no name below all others is there
  none_above : (name : List ℕ) (es : List (List ℕ × V)) → AllByRecursion (λ (o : List ℕ × V). slice_cmp nat_cmp name o.0 ≡ Less) es
      → at name es ≡ None
  none_above name [] all = refl
  none_above name (e ∷ es) all = ap (λ (b : Bool). cond b (Some e.1) (at name es)) (ap is_eq all.0) ∙ none_above name es all.1

  -- nothing stands under the name that is taken out
  pub at_gone : (name : List ℕ) (es : List (List ℕ × V)) → AreRising es → at name (without name es) ≡ None
  at_gone name [] rising = refl
  at_gone name (e ∷ es) rising = by_test (is_eq (slice_cmp nat_cmp name e.0)) refl (at_gone name es rising.1)
    where
      by_test : (b : Bool) → is_eq (slice_cmp nat_cmp name e.0) ≡ b → at name (without name es) ≡ None
          → at name (cond b es (e ∷ without name es)) ≡ None
      by_test true is rest = ap (λ (n : List ℕ). at n es) (is_same name e.0 is) ∙ none_above e.0 es rising.0
      by_test false is rest = ap (λ (b : Bool). cond b (Some e.1) (at name (without name es))) is ∙ rest

  -- under each other name stands what stood there
  pub at_other : (name key : List ℕ) (es : List (List ℕ × V)) → bytes_eq name key ≡ false → at name (without key es) ≡ at name es
  at_other name key [] apart = refl
  at_other name key (e ∷ es) apart = by_test (is_eq (slice_cmp nat_cmp key e.0)) refl (at_other name key es apart)
    where
      by_test : (b : Bool) → is_eq (slice_cmp nat_cmp key e.0) ≡ b → at name (without key es) ≡ at name es
          → at name (cond b es (e ∷ without key es)) ≡ at name (e ∷ es)
      by_test true is rest =
          let off : is_eq (slice_cmp nat_cmp name e.0) ≡ false =
          ap (λ (n : List ℕ). is_eq (slice_cmp nat_cmp name n)) (sym (is_same key e.0 is)) ∙ is_eq-slice_cmp name key ∙ apart in
          sym (ap (λ (b : Bool). cond b (Some e.1) (at name es)) off)
      by_test false is rest = ap (λ (found : Option V). cond (is_eq (slice_cmp nat_cmp name e.0)) (Some e.1) found) rest
