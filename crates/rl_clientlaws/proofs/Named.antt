-- What stands at a name after an entry was put in, or each was changed, whatever the order of the entries.
use Rattle.std.proofs.Common.{◌≡◌, ℕ, Bool, true, false, cond, List, [], ◌∷◌, Option, Some, None, refl, sym, ap, subst, ◌∙◌, is_eq, Ordering}
use Rattle.std.specs.Prelude.{option_map}
use Rattle.std.specs.declared.cmp.Ordering.TheVariants.{Less, Equal, Greater}
use Rattle.std.specs.Ordering.{nat_cmp, match_ordering}
use Rattle.std.specs.BTreeMap.{is_at}
use Rattle.std.specs.Cmp.Lexicographic.{slice_cmp}
use Rattle.std.proofs.lemmas.Map.Text.{is_eq-slice_cmp}
use Rattle.std.proofs.lemmas.Slice.Eq.{bytes_eq-Decides}
use Rattle.rl_names.specs.Names.{at, with_entry, each}

abbrev R : List ℕ → List ℕ → Ordering
R = slice_cmp nat_cmp

is_name : (q k : List ℕ) → is_eq (R q k) ≡ true → q ≡ k
is_name q k h = (bytes_eq-Decides q k).0 (sym (is_eq-slice_cmp q k) ∙ h)

module _ {V : Type 0} where
  each_by : (f : V → V) (b : Bool) (x : V) (o r : Option V) → r ≡ option_map f o → cond b (Some (f x)) r ≡ option_map f (cond b (Some x) o)
  each_by f true x o r is = refl
  each_by f false x o r is = is

  pub at_each : (name : List ℕ) (f : V → V) (es : List (List ℕ × V)) → at name (each f es) ≡ option_map f (at name es)
  at_each name f [] = refl
  at_each name f (e ∷ es) = each_by f (is_at (slice_cmp nat_cmp name) e.0) e.1 (at name es) (at name (each f es)) (at_each name f es)

  -- this or that is found, by a test
  found_by : (P : Option V → Type 0) (b : Bool) (v : V) (rest : Option V) → (b ≡ true → P (Some v)) → (b ≡ false → P rest) → P (cond b (Some v) rest)
  found_by P true v rest here there = here refl
  found_by P false v rest here there = there refl

  -- what is so of the new entry, and of what stood at the name, is so of what stands there with the new entry
  pub at_with : (P : Option V → Type 0) (q k : List ℕ) (v : V) (es : List (List ℕ × V)) → (q ≡ k → P (Some v)) → P (at q es) → P (at q (with_entry k v es))
  at_with P q k v [] own other = found_by P (is_eq (R q k)) v None (λ is. own (is_name q k is)) (λ is. other)
  at_with P q k v (e ∷ more) own other = by_order (R k e.0) refl (λ there. at_with P q k v more own there)
    where
      passed : is_eq (R q e.0) ≡ false → P (at q more)
      passed is = subst (λ (b : Bool). P (cond b (Some e.1) (at q more))) is other

      stood : is_eq (R q e.0) ≡ true → P (Some e.1)
      stood is = subst (λ (b : Bool). P (cond b (Some e.1) (at q more))) is other

      by_order : (r : Ordering) → R k e.0 ≡ r → (P (at q more) → P (at q (with_entry k v more)))
          → P (at q (match_ordering r ((k, v) ∷ e ∷ more) ((e.0, v) ∷ more) (e ∷ with_entry k v more)))
      by_order Less is rest = found_by P (is_eq (R q k)) v (at q (e ∷ more)) (λ here. own (is_name q k here)) (λ there. other)
      by_order Equal is rest =
          found_by P (is_eq (R q e.0)) v (at q more)
          (λ here. own (is_name q e.0 here ∙ sym (is_name k e.0 (ap is_eq is)))) passed
      by_order Greater is rest =
          found_by P (is_eq (R q e.0)) e.1 (at q (with_entry k v more)) stood
          (λ there. rest (passed there))
