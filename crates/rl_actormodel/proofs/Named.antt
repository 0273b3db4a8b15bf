-- Entries by name: what stands at a name after one was put in or taken out. They are in rising order of name.
use Rattle.std.proofs.Common.{◌≡◌, ℕ, Bool, true, false, cond, List, [], ◌∷◌, Option, Some, None, refl, sym, ap, ◌∙◌, is_eq, Ordering}
use Rattle.std.specs.Prelude.{find, bytes_eq, ⊤}
use Rattle.std.specs.declared.cmp.Ordering.TheVariants.{Less, Equal, Greater}
use Rattle.std.specs.Ordering.{nat_cmp, match_ordering, ordering_reverse}
use Rattle.std.specs.Cmp.Lexicographic.{slice_cmp, nat_list_cmp_total}
use Rattle.std.specs.List.{AllByRecursion}
use Rattle.std.proofs.lemmas.Map.Text.{is_eq-slice_cmp}
use Rattle.std.proofs.lemmas.Slice.Eq.{bytes_eq-Decides}
use Rattle.rl_names.specs.Names.{at, with_entry, without}

abbrev pub R : List ℕ → List ℕ → Ordering
R = slice_cmp nat_cmp

-- NAMES

is_text : (q k : List ℕ) → is_eq (R q k) ≡ true → q ≡ k
is_text q k h = (bytes_eq-Decides q k).0 (sym (is_eq-slice_cmp q k) ∙ h)

is_itself : (k : List ℕ) → is_eq (R k k) ≡ true
is_itself k = is_eq-slice_cmp k k ∙ (bytes_eq-Decides k k).1 refl

exact : (q k : List ℕ) → R q k ≡ Equal → q ≡ k
exact q k h = is_text q k (ap is_eq h)

flip : (q k : List ℕ) → R q k ≡ Greater → R k q ≡ Less
flip q k h = nat_list_cmp_total.antisymm k q ∙ ap ordering_reverse h

not_less : (q k : List ℕ) → R q k ≡ Less → is_eq (R q k) ≡ false
not_less q k h = ap is_eq h

not_greater : (q k : List ℕ) → R q k ≡ Greater → is_eq (R q k) ≡ false
not_greater q k h = ap is_eq h

module _ {V : Type 0} where
  -- ORDER

  -- each entry's name is below those after it
  abbrev pub Rising : List (List ℕ × V) → Type 0
  Rising [] = ⊤
  Rising (e ∷ more) = AllByRecursion (λ (o : List ℕ × V). R e.0 o.0 ≡ Less) more × Rising more

  all_inserted : (P : List ℕ → Type 0) (k : List ℕ) (v : V) (es : List (List ℕ × V)) → AllByRecursion (λ (o : List ℕ × V). P o.0) es → P k → AllByRecursion (λ (o : List ℕ × V). P o.0) (with_entry k v es)
  all_inserted P k v [] h p = (p, tt)
  all_inserted P k v (e ∷ more) h p = by_order (R k e.0) (all_inserted P k v more h.1 p)
    where
      by_order : (r : Ordering) → AllByRecursion (λ (o : List ℕ × V). P o.0) (with_entry k v more)
          → AllByRecursion (λ (o : List ℕ × V). P o.0) (match_ordering r ((k, v) ∷ e ∷ more) ((e.0, v) ∷ more) (e ∷ with_entry k v more))
      by_order Less rest = (p, h)
      by_order Equal rest = (h.0, h.1)
      by_order Greater rest = (h.0, rest)

  above : (k y : List ℕ) (es : List (List ℕ × V)) → R k y ≡ Less → AllByRecursion (λ (o : List ℕ × V). R y o.0 ≡ Less) es → AllByRecursion (λ (o : List ℕ × V). R k o.0 ≡ Less) es
  above k y [] r h = tt
  above k y (e ∷ more) r h = (nat_list_cmp_total.trans k y e.0 r h.0, above k y more r h.1)

  pub rising_with : (k : List ℕ) (v : V) (es : List (List ℕ × V)) → Rising es → Rising (with_entry k v es)
  rising_with k v [] h = (tt, tt)
  rising_with k v (e ∷ more) h = by_order (R k e.0) refl (rising_with k v more h.1)
    where
      by_order : (r : Ordering) → R k e.0 ≡ r → Rising (with_entry k v more) → Rising (match_ordering r ((k, v) ∷ e ∷ more) ((e.0, v) ∷ more) (e ∷ with_entry k v more))
      by_order Less is rest = ((is, above k e.0 more is h.0), h)
      by_order Equal is rest = h
      by_order Greater is rest = (all_inserted (λ (name : List ℕ). R e.0 name ≡ Less) k v more h.0 (flip k e.0 is), rest)

  all_left : (P : List ℕ × V → Type 0) (k : List ℕ) (es : List (List ℕ × V)) → AllByRecursion P es → AllByRecursion P (without k es)
  all_left P k [] h = tt
  all_left P k (e ∷ more) h = by_test (is_eq (R k e.0)) (all_left P k more h.1)
    where
      by_test : (b : Bool) → AllByRecursion P (without k more) → AllByRecursion P (cond b more (e ∷ without k more))
      by_test true rest = h.1
      by_test false rest = (h.0, rest)

  pub rising_without : (k : List ℕ) (es : List (List ℕ × V)) → Rising es → Rising (without k es)
  rising_without k [] h = tt
  rising_without k (e ∷ more) h = by_test (is_eq (R k e.0)) (rising_without k more h.1)
    where
      by_test : (b : Bool) → Rising (without k more) → Rising (cond b more (e ∷ without k more))
      by_test true rest = h.1
      by_test false rest = (all_left (λ (o : List ℕ × V). R e.0 o.0 ≡ Less) k more h.0, rest)

  -- LOOKING UP

  once : (b : Bool) (x y : V) (rest : Option V) → cond b (Some x) rest ≡ cond b (Some x) (cond b (Some y) rest)
  once true x y rest = refl
  once false x y rest = refl

  swapped : (b c : Bool) (x y : V) (rest : Option V) → (b ≡ true → c ≡ true → ⊥) → cond c (Some x) (cond b (Some y) rest) ≡ cond b (Some y) (cond c (Some x) rest)
  swapped true true x y rest h = absurd (h refl refl)
  swapped true false x y rest h = refl
  swapped false c x y rest h = refl

  pub at_with : (q k : List ℕ) (v : V) (es : List (List ℕ × V)) → at q (with_entry k v es) ≡ cond (bytes_eq q k) (Some v) (at q es)
  at_with q k v [] = ap (λ (b : Bool). cond b (Some v) None) (is_eq-slice_cmp q k)
  at_with q k v (e ∷ more) = by_order (R k e.0) refl (at_with q k v more)
    where
      by_order : (r : Ordering) → R k e.0 ≡ r → at q (with_entry k v more) ≡ cond (bytes_eq q k) (Some v) (at q more)
          → at q (match_ordering r ((k, v) ∷ e ∷ more) ((e.0, v) ∷ more) (e ∷ with_entry k v more)) ≡ cond (bytes_eq q k) (Some v) (at q (e ∷ more))
      by_order Less is rest = ap (λ (b : Bool). cond b (Some v) (at q (e ∷ more))) (is_eq-slice_cmp q k)
      by_order Equal is rest =
          let same : is_eq (R q e.0) ≡ bytes_eq q k = ap (λ (t : List ℕ). is_eq (R q t)) (sym (exact k e.0 is)) ∙ is_eq-slice_cmp q k in
          ap (λ (b : Bool). cond b (Some v) (at q more)) same
          ∙ once (bytes_eq q k) v e.1 (at q more)
          ∙ ap (λ (b : Bool). cond (bytes_eq q k) (Some v) (cond b (Some e.1) (at q more))) (sym same)
      by_order Greater is rest =
          ap (λ (found : Option V). cond (is_eq (R q e.0)) (Some e.1) found) rest
          ∙ swapped (bytes_eq q k) (is_eq (R q e.0)) e.1 v (at q more)
          (λ b c.
          let first : q ≡ k = (bytes_eq-Decides q k).0 b in
          let second : q ≡ e.0 = is_text q e.0 c in
          let apart : is_eq (R k e.0) ≡ false = not_greater k e.0 is in
          let is_so : is_eq (R k e.0) ≡ true = ap (λ (t : List ℕ). is_eq (R t e.0)) (sym first) ∙ c in
          cc)

  -- no name below all others is there
  at_above : (k : List ℕ) (es : List (List ℕ × V)) → AllByRecursion (λ (o : List ℕ × V). R k o.0 ≡ Less) es → at k es ≡ None
  at_above k [] h = refl
  at_above k (e ∷ more) h = ap (λ (b : Bool). cond b (Some e.1) (at k more)) (not_less k e.0 h.0) ∙ at_above k more h.1

  pub at_without : (q k : List ℕ) (v : V) (es : List (List ℕ × V)) → Rising es → at q (without k es) ≡ Some v → at q es ≡ Some v
  at_without q k v [] r h = h
  at_without q k v (e ∷ more) r h = by_test (is_eq (R k e.0)) h (at_without q k v more r.1)
    where
      by_name : (c : Bool) → is_eq (R q e.0) ≡ c → at q more ≡ Some v → cond c (Some e.1) (at q more) ≡ Some v
      by_name true is found = let none : at q more ≡ None = ap (λ (t : List ℕ). at t more) (is_text q e.0 is) ∙ at_above e.0 more r.0 in cc
      by_name false is found = found

      by_other : (c : Bool) → cond c (Some e.1) (at q (without k more)) ≡ Some v → (at q (without k more) ≡ Some v → at q more ≡ Some v) → cond c (Some e.1) (at q more) ≡ Some v
      by_other true found rest = found
      by_other false found rest = rest found

      by_test : (b : Bool) → at q (cond b more (e ∷ without k more)) ≡ Some v → (at q (without k more) ≡ Some v → at q more ≡ Some v) → at q (e ∷ more) ≡ Some v
      by_test true found rest = by_name (is_eq (R q e.0)) refl found
      by_test false found rest = by_other (is_eq (R q e.0)) found rest

  -- FINDING

  pub found_at : (p : List ℕ × V → Bool) (es : List (List ℕ × V)) (e : List ℕ × V) → Rising es → find p es ≡ Some e → at e.0 es ≡ Some e.1
  found_at p [] e r h = cc
  found_at p (x ∷ more) e r h = by_test (p x) h (found_at p more e r.1)
    where
      by_name : (c : Bool) → is_eq (R e.0 x.0) ≡ c → at e.0 more ≡ Some e.1 → cond c (Some x.1) (at e.0 more) ≡ Some e.1
      by_name true is found = let none : at e.0 more ≡ None = ap (λ (t : List ℕ). at t more) (is_text e.0 x.0 is) ∙ at_above x.0 more r.0 in cc
      by_name false is found = found

      by_test : (b : Bool) → cond b (Some x) (find p more) ≡ Some e → (find p more ≡ Some e → at e.0 more ≡ Some e.1) → at e.0 (x ∷ more) ≡ Some e.1
      by_test true found rest =
          let same : x ≡ e = cc in
          ap (λ (t : List ℕ × V). at t.0 (x ∷ more)) (sym same)
          ∙ ap (λ (b : Bool). cond b (Some x.1) (at x.0 more)) (is_itself x.0)
          ∙ ap (λ (t : List ℕ × V). Some t.1) same
      by_test false found rest = by_name (is_eq (R e.0 x.0)) refl (rest found)

  pub found_passes : (p : List ℕ × V → Bool) (es : List (List ℕ × V)) (e : List ℕ × V) → find p es ≡ Some e → p e ≡ true
  found_passes p [] e h = cc
  found_passes p (x ∷ more) e h = by_test (p x) refl h (found_passes p more e)
    where
      by_test : (b : Bool) → p x ≡ b → cond b (Some x) (find p more) ≡ Some e → (find p more ≡ Some e → p e ≡ true) → p e ≡ true
      by_test true is found rest = let same : x ≡ e = cc in ap p (sym same) ∙ is
      by_test false is found rest = rest found

  -- where none passes, none that is there does
  pub none_passes : (p : V → Bool) (q : List ℕ) (v : V) (es : List (List ℕ × V)) → find (λ (e : List ℕ × V). p e.1) es ≡ None → at q es ≡ Some v → p v ≡ false
  none_passes p q v [] none h = cc
  none_passes p q v (x ∷ more) none h = by_tests (p x.1) (is_eq (R q x.0)) refl none h (none_passes p q v more)
    where
      by_tests : (b c : Bool) → p x.1 ≡ b → cond b (Some x) (find (λ (e : List ℕ × V). p e.1) more) ≡ None → cond c (Some x.1) (at q more) ≡ Some v
          → (find (λ (e : List ℕ × V). p e.1) more ≡ None → at q more ≡ Some v → p v ≡ false) → p v ≡ false
      by_tests true c is none found rest = cc
      by_tests false true is none found rest = let same : x.1 ≡ v = cc in ap p (sym same) ∙ is
      by_tests false false is none found rest = rest none found
