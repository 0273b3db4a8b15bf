-- What a search among texts in order finds, and what is left where something is put there. The list that is searched
-- is seen as the list that is held.
use Rattle.std.proofs.Common.{◌≡◌, ℕ, List, ap, sym, subst, ◌∙◌, get_or}
use Rattle.std.specs.Prelude.{insert, slice_set, Some, None, IsSome, Result, Ok, Err, OnOk, OnErr}
use Rattle.std.proofs.lemmas.Result.{on_ok_weaker}
use Rattle.rl_objmodel.specs.Places.{at_text, with_at, IsRising, IsHeldAt, IsMissedAt}
use Rattle.rl_objmodel.proofs.PlacesHeld.{inserted_with, replaced_with, held_there, missed_there, is_rising_with}

module _ {T : Type 0} where
  pub held : (text : List ℕ) (all seen : List (List ℕ × T)) (at : ℕ) → seen ≡ all → (IsRising seen → IsHeldAt text seen at) → IsRising all → IsHeldAt text all at
  held text all seen at same place rising = subst (λ (xs : List (List ℕ × T)). IsHeldAt text xs at) same (place (subst (λ (xs : List (List ℕ × T)). IsRising xs) (sym same) rising))

  pub missed : (text : List ℕ) (all seen : List (List ℕ × T)) (at : ℕ) → seen ≡ all → (IsRising seen → IsMissedAt text seen at) → IsRising all → IsMissedAt text all at
  missed text all seen at same place rising = subst (λ (xs : List (List ℕ × T)). IsMissedAt text xs at) same (place (subst (λ (xs : List (List ℕ × T)). IsRising xs) (sym same) rising))

  -- what is found
  pub found : (text : List ℕ) (all seen : List (List ℕ × T)) (at : ℕ) (d : List ℕ × T) → seen ≡ all → (IsRising seen → IsHeldAt text seen at) → IsRising all → at_text text all ≡ Some (get_or seen at d).1
  found text all seen at d same place rising =
      held_there text all at d (held text all seen at same place rising) ∙ ap (λ (xs : List (List ℕ × T)). Some (get_or xs at d).1) (sym same)

  pub missing : (text : List ℕ) (all seen : List (List ℕ × T)) (at : ℕ) → seen ≡ all → (IsRising seen → IsMissedAt text seen at) → IsRising all → at_text text all ≡ None
  missing text all seen at same place rising = missed_there text all at rising (missed text all seen at same place rising)

  -- what is put there
  pub set_with : (text : List ℕ) (x : T) (all seen : List (List ℕ × T)) (at : ℕ) → seen ≡ all → (IsRising seen → IsHeldAt text seen at) → IsRising all → slice_set all at (text, x) ≡ with_at text x all
  set_with text x all seen at same place rising = replaced_with text x all at (held text all seen at same place rising)

  pub set_rising : (text : List ℕ) (x : T) (all seen new : List (List ℕ × T)) (at : ℕ) → seen ≡ all → (IsRising seen → IsHeldAt text seen at) → IsRising all → new ≡ slice_set all at (text, x) → IsRising new
  set_rising text x all seen new at same place rising is =
      subst (λ (xs : List (List ℕ × T)). IsRising xs) (sym (is ∙ set_with text x all seen at same place rising)) (is_rising_with text x all rising)

  pub insert_with : (text : List ℕ) (x : T) (all seen : List (List ℕ × T)) (at : ℕ) → seen ≡ all → (IsRising seen → IsMissedAt text seen at) → IsRising all → insert all at (text, x) ≡ with_at text x all
  insert_with text x all seen at same place rising = inserted_with text x all at (missed text all seen at same place rising)

  pub insert_ok : {U E : Type 0} (r : Result U E) (text : List ℕ) (x : T) (all seen new : List (List ℕ × T)) (at : ℕ) → seen ≡ all → (IsRising seen → IsMissedAt text seen at) → IsRising all → OnOk r (new ≡ insert all at (text, x)) → OnOk r (new ≡ with_at text x all)
  insert_ok r text x all seen new at same place rising ok =
      on_ok_weaker r (λ is. is ∙ insert_with text x all seen at same place rising) ok

  pub insert_rising : {U E : Type 0} (r : Result U E) (text : List ℕ) (x : T) (all seen new : List (List ℕ × T)) (at : ℕ) → seen ≡ all → (IsRising seen → IsMissedAt text seen at) → IsRising all → OnOk r (new ≡ insert all at (text, x)) → OnErr r (new ≡ all) → IsRising new
  insert_rising (Ok u) text x all seen new at same place rising ok err =
      subst (λ (xs : List (List ℕ × T)). IsRising xs) (sym (ok ∙ insert_with text x all seen at same place rising)) (is_rising_with text x all rising)
  insert_rising (Err e) text x all seen new at same place rising ok err = subst (λ (xs : List (List ℕ × T)). IsRising xs) (sym err) rising

  -- one that is there is not missed
  pub not_missed : {P : Type 0} (text : List ℕ) (all seen : List (List ℕ × T)) (at : ℕ) → seen ≡ all → (IsRising seen → IsMissedAt text seen at) → IsRising all → IsSome (at_text text all) → P
  not_missed text all seen at same place rising there = cc (rw (missing text all seen at same place rising) at there)
