-- Reading members one after the other, and writing them from the last to the first, as loops do.
use Rattle.std.proofs.Common.{◌≡◌, ℕ, ◌+◌, ◌-◌, ◌<◌, List, [], ◌∷◌, ◌++◌, length, drop, get_or, string_bytes, Ok, Err, refl, sym, ap, ◌∙◌, append_assoc, append-nil, arith}
use Rattle.std.proofs.lemmas.List.{drop_more, drop_all}
use Rattle.serde_json.specs.Data.{Data, Members, no_members, put}
use Rattle.serde_json.specs.View.{view, members_view}
use Rattle.serde_json.proofs.Views.{Entry}
use Rattle.rl_types.specs.declared.frames.WireFault.{WireFault}
use Rattle.rl_types.specs.declared.frames.WireFault.TheVariants as faults
use Rattle.rl_jsonfields.specs.Fields.{Reads, ◌>>=◌, Fails, each_member}
use Rattle.rl_jsonfields.specs.Texts.{member_of_each}
use Rattle.rl_jsonfields.proofs.Each.{with_front}

module _ {A : Type 0} (one : List ℕ → Data → Reads A) where
  regroup : (front : List A) (x : A) (read : Reads (List A)) → with_front front (read >>= λ xs. Ok (x ∷ xs)) ≡ with_front (front ++ x ∷ []) read
  regroup front x (Ok xs) = ap Ok (sym (append_assoc front (x ∷ []) xs))
  regroup front x (Err e) = refl

  pub goes_on : (front : List A) (all left : List Entry) (e : Entry) (x : A) (total : Reads (List A)) → all ≡ e ∷ left → one (string_bytes e.0) (view e.1) ≡ Ok x
      → with_front front (each_member one (members_view all)) ≡ total → with_front (front ++ x ∷ []) (each_member one (members_view left)) ≡ total
  unfolding each_member
  goes_on front all left e x total is h so_far =
      let step : with_front front (each_member one (members_view (e ∷ left))) ≡ with_front (front ++ x ∷ []) (each_member one (members_view left)) = rw h (regroup front x (each_member one (members_view left))) in
      sym step ∙ ap (λ es. with_front front (each_member one (members_view es))) (sym is) ∙ so_far

  ends_here : (front : List A) (left : List Entry) (e : Entry) (f : WireFault) (total : Reads (List A)) → Fails f (one (string_bytes e.0) (view e.1)) → with_front front (each_member one (members_view (e ∷ left))) ≡ total → Fails f total
  unfolding each_member
  ends_here front left e faults.NoMemory total h so_far = tt
  ends_here front left e faults.TooLong total h so_far = sym so_far ∙ rw h refl
  ends_here front left e faults.NotText total h so_far = sym so_far ∙ rw h refl
  ends_here front left e faults.NotJson total h so_far = sym so_far ∙ rw h refl
  ends_here front left e faults.NotObject total h so_far = sym so_far ∙ rw h refl
  ends_here front left e (faults.Missing n) total h so_far = sym so_far ∙ rw h refl
  ends_here front left e (faults.BadField n) total h so_far = sym so_far ∙ rw h refl

  pub ends : (front : List A) (all left : List Entry) (e : Entry) (f : WireFault) (total : Reads (List A)) → all ≡ e ∷ left → Fails f (one (string_bytes e.0) (view e.1)) → with_front front (each_member one (members_view all)) ≡ total → Fails f total
  ends front all left e f total is h so_far = ends_here front left e f total h (ap (λ es. with_front front (each_member one (members_view es))) (sym is) ∙ so_far)

  pub done : (front : List A) (all : List Entry) (total : Reads (List A)) → all ≡ [] → with_front front (each_member one (members_view all)) ≡ total → total ≡ Ok front
  unfolding each_member
  done front all total is so_far = sym so_far ∙ ap (λ es. with_front front (each_member one (members_view es))) is ∙ ap Ok (append-nil front)

module _ {A : Type 0} (key : A → List ℕ) (value : A → Data) where
  pub one_more : (xs : List A) (i : ℕ) (x : A) (old new : Members) → i < length xs → x ≡ get_or xs (length xs - 1 - i) x → old ≡ member_of_each key value (drop (length xs - i) xs) → new ≡ put (key x) (value x) old
      → new ≡ member_of_each key value (drop (length xs - (i + 1)) xs)
  unfolding member_of_each
  one_more xs i x old new lt is was now =
      let at : length xs - (i + 1) ≡ length xs - 1 - i = omega arith in
      let after : length xs - 1 - i + 1 ≡ length xs - i = omega arith in
      let in_list : length xs - 1 - i < length xs = omega arith in
      let split : drop (length xs - 1 - i) xs ≡ x ∷ drop (length xs - i) xs = drop_more xs (length xs - 1 - i) x in_list ∙ ap (λ y. y ∷ drop (length xs - 1 - i + 1) xs) (sym is) ∙ ap (λ n. x ∷ drop n xs) after in
      now ∙ ap (λ ms. put (key x) (value x) ms) was ∙ sym (ap (λ n. member_of_each key value (drop n xs)) at ∙ ap (member_of_each key value) split)

  pub none_yet : (xs : List A) (ms : Members) (n : ℕ) → n ≡ length xs → ms ≡ no_members → ms ≡ member_of_each key value (drop n xs)
  unfolding member_of_each
  none_yet xs ms n k h = h ∙ sym (ap (member_of_each key value) (drop_all n xs (omega arith)))
