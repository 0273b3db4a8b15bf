-- What holds of all entries that are kept by name, where one is put in or taken out; and their order.
use Rattle.std.proofs.Common.{◌≡◌, ℕ, Bool, true, false, cond, List, [], ◌∷◌, refl, sym, ◌∙◌, ap, subst}
use Rattle.std.specs.Prelude.{Option, Some}
use Rattle.std.specs.declared.cmp.Ordering.{Ordering}
use Rattle.std.specs.declared.cmp.Ordering.TheVariants.{Less, Equal, Greater}
use Rattle.std.specs.Ordering.{nat_cmp, is_eq, match_ordering}
use Rattle.std.specs.Cmp.Lexicographic.{slice_cmp}
use Rattle.std.specs.BTreeMap.{is_at}
use Rattle.std.specs.List.{AllByRecursion}
use Rattle.std.proofs.lemmas.Map.Text.{is_eq-slice_cmp}
use Rattle.rl_objmodel.specs.Places.{AreRising}
use Rattle.rl_names.specs.Names.{at, with_entry, without}
use Rattle.rl_actormodel.proofs.Named.{Rising, rising_with, rising_without}
use Rattle.rl_worldtold.proofs.Shape.{same_bytes}

pub key_is : (name key : List ℕ) → slice_cmp nat_cmp name key ≡ Equal → name ≡ key
key_is name key is = same_bytes name key (sym (is_eq-slice_cmp name key) ∙ ap is_eq is)

module _ {V : Type 0} where
  all_by : (P : List ℕ × V → Type 0) (name : List ℕ) (v : V) (e : List ℕ × V) (es rest : List (List ℕ × V)) (o : Ordering) → slice_cmp nat_cmp name e.0 ≡ o → P (name, v) → P e → AllByRecursion P es → AllByRecursion P rest
      → AllByRecursion P (match_ordering o ((name, v) ∷ e ∷ es) ((e.0, v) ∷ es) (e ∷ rest))
  all_by P name v e es rest Less is own here all more = (own, (here, all))
  all_by P name v e es rest Equal is own here all more = (subst (λ (n : List ℕ). P (n, v)) (key_is name e.0 is) own, all)
  all_by P name v e es rest Greater is own here all more = (here, more)

  pub all_with : (P : List ℕ × V → Type 0) (name : List ℕ) (v : V) (es : List (List ℕ × V)) → P (name, v) → AllByRecursion P es → AllByRecursion P (with_entry name v es)
  all_with P name v [] own all = (own, tt)
  all_with P name v (e ∷ es) own all = all_by P name v e es (with_entry name v es) (slice_cmp nat_cmp name e.0) refl own all.0 all.1 (all_with P name v es own all.1)

  all_if : (P : List ℕ × V → Type 0) (e : List ℕ × V) (es rest : List (List ℕ × V)) (b : Bool) → P e → AllByRecursion P es → AllByRecursion P rest → AllByRecursion P (cond b es (e ∷ rest))
  all_if P e es rest true here all more = all
  all_if P e es rest false here all more = (here, more)

  pub all_without : (P : List ℕ × V → Type 0) (name : List ℕ) (es : List (List ℕ × V)) → AllByRecursion P es → AllByRecursion P (without name es)
  all_without P name [] all = tt
  all_without P name (e ∷ es) all = all_if P e es (without name es) (is_at (slice_cmp nat_cmp name) e.0) all.0 all.1 (all_without P name es all.1)

  -- what is found stands there, under that name
  found_by : (P : List ℕ × V → Type 0) (name : List ℕ) (v : V) (e : List ℕ × V) (rest : Option V) (b : Bool) → is_at (slice_cmp nat_cmp name) e.0 ≡ b → P e → (rest ≡ Some v → P (name, v)) → cond b (Some e.1) rest ≡ Some v → P (name, v)
  found_by P name v e rest true is here more found =
      let key : name ≡ e.0 = same_bytes name e.0 (sym (is_eq-slice_cmp name e.0) ∙ is) in
      let same : e.1 ≡ v = cc in
      subst (λ (n : List ℕ). P (n, v)) (sym key) (subst (λ (x : V). P (e.0, x)) same here)
  found_by P name v e rest false is here more found = more found

  pub all_found : (P : List ℕ × V → Type 0) (name : List ℕ) (v : V) (es : List (List ℕ × V)) → AllByRecursion P es → at name es ≡ Some v → P (name, v)
  all_found P name v [] all found = absurd (cc)
  all_found P name v (e ∷ es) all found = found_by P name v e (at name es) (is_at (slice_cmp nat_cmp name) e.0) refl all.0 (all_found P name v es all.1) found

  -- ORDER

  pub to_rising : (es : List (List ℕ × V)) → AreRising es → Rising es
  to_rising [] all = tt
  to_rising (e ∷ es) all = (all.0, to_rising es all.1)

  from_rising : (es : List (List ℕ × V)) → Rising es → AreRising es
  from_rising [] all = tt
  from_rising (e ∷ es) all = (all.0, from_rising es all.1)

  pub order_with : (name : List ℕ) (v : V) (es : List (List ℕ × V)) → AreRising es → AreRising (with_entry name v es)
  order_with name v es all = from_rising (with_entry name v es) (rising_with name v es (to_rising es all))

  pub order_without : (name : List ℕ) (es : List (List ℕ × V)) → AreRising es → AreRising (without name es)
  order_without name es all = from_rising (without name es) (rising_without name es (to_rising es all))
