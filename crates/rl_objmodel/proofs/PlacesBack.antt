-- Putting back what stood at a text, in a list of texts in order.
use Rattle.std.proofs.Common.{◌≡◌, ℕ, zero, suc, Bool, true, false, cond, List, [], ◌∷◌, refl, ap, sym, subst, ◌∙◌, arith}
use Rattle.std.specs.Prelude.{remove, bytes_eq, Option, Some, None, IsSome}
use Rattle.std.specs.declared.cmp.Ordering.{Ordering}
use Rattle.std.specs.declared.cmp.Ordering.TheVariants.{Less, Equal, Greater}
use Rattle.std.specs.Ordering.{nat_cmp, match_ordering}
use Rattle.std.specs.Cmp.Lexicographic.{slice_cmp}
use Rattle.std.proofs.lemmas.Cmp.{nat_list_cmp_total, tied_itself}
use Rattle.rl_objmodel.specs.Places.{at_text, with_at, without_at, restored_at, placed_back, AreRising, IsRising, IsHeldAt}
use Rattle.rl_objmodel.proofs.PlacesHeld.{AllLater, texts_itself, eq_of_equal, eq_of_greater, same_with, there_with, is_rising_with, at_first, at_more, with_equal, with_greater, held_inside, before_place, replaced_with}
use Rattle.rl_objmodel.proofs.PlacesFound.{held}

module _ {T : Type 0} where
  without_first : (text : List ℕ) (p : List ℕ × T) (ps : List (List ℕ × T)) → bytes_eq text p.0 ≡ true → without_at text (p ∷ ps) ≡ ps
  without_first text p ps h = rw h refl

  without_more : (text : List ℕ) (p : List ℕ × T) (ps : List (List ℕ × T)) → bytes_eq text p.0 ≡ false → without_at text (p ∷ ps) ≡ p ∷ without_at text ps
  without_more text p ps h = rw h refl

  -- ORDER

  later_without_at : (a : List ℕ) (one : List ℕ × T) (all rest : List (List ℕ × T)) (b : Bool) → AllLater a (one ∷ all) → AllLater a rest → AllLater a (cond b all (one ∷ rest))
  later_without_at a one all rest true later h = later.1
  later_without_at a one all rest false later h = (later.0, h)

  later_without : (a text : List ℕ) (all : List (List ℕ × T)) → AllLater a all → AllLater a (without_at text all)
  later_without a text [] later = tt
  later_without a text (one ∷ all) later = later_without_at a one all (without_at text all) (bytes_eq text one.0) later (later_without a text all later.1)

  rising_without_at : (one : List ℕ × T) (all rest : List (List ℕ × T)) (b : Bool) → AreRising all → AllLater one.0 rest → AreRising rest → AreRising (cond b all (one ∷ rest))
  rising_without_at one all rest true rising later h = rising
  rising_without_at one all rest false rising later h = (later, h)

  rising_without : (text : List ℕ) (all : List (List ℕ × T)) → AreRising all → AreRising (without_at text all)
  rising_without text [] rising = tt
  rising_without text (one ∷ all) rising = rising_without_at one all (without_at text all) (bytes_eq text one.0) rising.1 (later_without one.0 text all rising.0) (rising_without text all rising.1)

  pub is_rising_without : (text : List ℕ) (all : List (List ℕ × T)) → IsRising all → IsRising (without_at text all)
  is_rising_without text all h = record { rising = rising_without text all h.rising }

  pub is_rising_restored : (text : List ℕ) (before : Option T) (all : List (List ℕ × T)) → IsRising all → IsRising (restored_at text before all)
  is_rising_restored text None all h = is_rising_without text all h
  is_rising_restored text (Some x) all h = is_rising_with text x all h

  -- WHAT STOOD IS THERE AGAIN

  with_again_at : (text : List ℕ) (x y : T) (one : List ℕ × T) (all : List (List ℕ × T)) (o : Ordering) → slice_cmp nat_cmp text one.0 ≡ o → with_at text y (with_at text x all) ≡ with_at text y all → with_at text y (match_ordering o ((text, x) ∷ one ∷ all) ((text, x) ∷ all) (one ∷ with_at text x all)) ≡ match_ordering o ((text, y) ∷ one ∷ all) ((text, y) ∷ all) (one ∷ with_at text y all)
  with_again_at text x y one all Less h rest = with_equal text y (text, x) (one ∷ all) (tied_itself nat_list_cmp_total text)
  with_again_at text x y one all Equal h rest = with_equal text y (text, x) all (tied_itself nat_list_cmp_total text)
  with_again_at text x y one all Greater h rest = with_greater text y one (with_at text x all) h ∙ ap (λ (more : List (List ℕ × T)). one ∷ more) rest

  pub with_again : (text : List ℕ) (x y : T) (all : List (List ℕ × T)) → with_at text y (with_at text x all) ≡ with_at text y all
  with_again text x y [] = with_equal text y (text, x) [] (tied_itself nat_list_cmp_total text)
  with_again text x y (one ∷ all) = with_again_at text x y one all (slice_cmp nat_cmp text one.0) refl (with_again text x y all)

  without_new_at : (text : List ℕ) (x : T) (one : List ℕ × T) (all : List (List ℕ × T)) (o : Ordering) → slice_cmp nat_cmp text one.0 ≡ o → at_text text (one ∷ all) ≡ None → (at_text text all ≡ None → without_at text (with_at text x all) ≡ all) → without_at text (match_ordering o ((text, x) ∷ one ∷ all) ((text, x) ∷ all) (one ∷ with_at text x all)) ≡ one ∷ all
  without_new_at text x one all Less h none rest = without_first text (text, x) (one ∷ all) (texts_itself text)
  without_new_at text x one all Equal h none rest =
      let e : Some one.1 ≡ None = sym (at_first text one all (eq_of_equal text one.0 h)) ∙ none in
      cc
  without_new_at text x one all Greater h none rest =
      without_more text one (with_at text x all) (eq_of_greater text one.0 h)
      ∙ ap (λ (more : List (List ℕ × T)). one ∷ more) (rest (sym (at_more text one all (eq_of_greater text one.0 h)) ∙ none))

  without_new : (text : List ℕ) (x : T) (all : List (List ℕ × T)) → at_text text all ≡ None → without_at text (with_at text x all) ≡ all
  without_new text x [] none = without_first text (text, x) [] (texts_itself text)
  without_new text x (one ∷ all) none = without_new_at text x one all (slice_cmp nat_cmp text one.0) refl none (without_new text x all)

  back_by : (text : List ℕ) (x : T) (before : Option T) (all : List (List ℕ × T)) → IsRising all → at_text text all ≡ before → restored_at text before (with_at text x all) ≡ all
  back_by text x None all rising is = without_new text x all is
  back_by text x (Some y) all rising is = with_again text x y all ∙ same_with text y all rising is

  -- what stood before a change is put back
  pub restored_with : (text : List ℕ) (x : T) (before : Option T) (all : List (List ℕ × T)) → IsRising all → before ≡ at_text text all → restored_at text before (with_at text x all) ≡ all
  restored_with text x before all rising is = back_by text x before all rising (sym is)

  there_by : (text : List ℕ) (o : Option T) (x : T) → o ≡ Some x → IsSome o
  there_by text None x h = cc
  there_by text (Some y) x h = refl

  pub is_there_with : (text : List ℕ) (x : T) (all : List (List ℕ × T)) → IsSome (at_text text (with_at text x all))
  is_there_with text x all = there_by text (at_text text (with_at text x all)) x (there_with text x all)

  -- A PLACE

  pub removed_without : (text : List ℕ) (all : List (List ℕ × T)) (at : ℕ) → IsHeldAt text all at → remove all at ≡ without_at text all
  removed_without text [] at h = absurd (omega (arith, h.within))
  removed_without text (p ∷ ps) zero h = sym (without_first text p ps (h.same p))
  removed_without text (p ∷ ps) (suc at) h =
      ap (λ (more : List (List ℕ × T)). p ∷ more) (removed_without text ps at (held_inside text p ps at h))
      ∙ sym (without_more text p ps (eq_of_greater text p.0 (before_place text p (h.place.below 0 p (omega arith) (omega arith)))))

  placed_is : (text : List ℕ) (before : Option T) (all : List (List ℕ × T)) (at : ℕ) → IsHeldAt text all at → placed_back at text before all ≡ restored_at text before all
  placed_is text None all at h = removed_without text all at h
  placed_is text (Some x) all at h = replaced_with text x all at h

  -- where the list that is searched is seen as the list that is held
  pub placed_restored : (text : List ℕ) (before : Option T) (all seen : List (List ℕ × T)) (at : ℕ) → seen ≡ all → (IsRising seen → IsHeldAt text seen at) → IsRising all → placed_back at text before all ≡ restored_at text before all
  placed_restored text before all seen at same place rising = placed_is text before all at (held text all seen at same place rising)

  pub placed_rising : (text : List ℕ) (before : Option T) (all seen new : List (List ℕ × T)) (at : ℕ) → seen ≡ all → (IsRising seen → IsHeldAt text seen at) → IsRising all → new ≡ placed_back at text before all → IsRising new
  placed_rising text before all seen new at same place rising is =
      subst (λ (xs : List (List ℕ × T)). IsRising xs) (sym (is ∙ placed_restored text before all seen at same place rising)) (is_rising_restored text before all rising)
