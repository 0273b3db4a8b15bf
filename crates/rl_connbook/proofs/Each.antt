-- All and some elements of a list.
use Rattle.std.proofs.Common.{◌≡◌, ◌⊎◌, inl, inr, Bool, true, false, cond, List, [], ◌∷◌, ◌++◌, reverse, refl, subst}
use Rattle.std.specs.List.{AllByRecursion, filter}
use Rattle.std.proofs.lemmas.List.{reverse-append}
use Rattle.rl_connbook.specs.Laws.{SomeOf}

module _ {X : Type 0} where
  pub all_weaker : (P Q : X → Type 0) → ((x : X) → P x → Q x) → (xs : List X) → AllByRecursion P xs → AllByRecursion Q xs
  all_weaker P Q weaker [] each = tt
  all_weaker P Q weaker (x ∷ xs) each = (weaker x each.0, all_weaker P Q weaker xs each.1)

  pub all_append : (P : X → Type 0) (xs ys : List X) → AllByRecursion P xs → AllByRecursion P ys → AllByRecursion P (xs ++ ys)
  all_append P [] ys each more = more
  all_append P (x ∷ xs) ys each more = (each.0, all_append P xs ys each.1 more)

  all_filter_by : (P : X → Type 0) (x : X) (rest : List X) (b : Bool) → P x → AllByRecursion P rest → AllByRecursion P (cond b (x ∷ rest) rest)
  all_filter_by P x rest true here more = (here, more)
  all_filter_by P x rest false here more = more

  pub all_filter : (P : X → Type 0) (test : X → Bool) (xs : List X) → AllByRecursion P xs → AllByRecursion P (filter test xs)
  all_filter P test [] each = tt
  all_filter P test (x ∷ xs) each = all_filter_by P x (filter test xs) (test x) each.0 (all_filter P test xs each.1)

  pub some_weaker : (P Q : X → Type 0) → ((x : X) → P x → Q x) → (xs : List X) → SomeOf P xs → SomeOf Q xs
  some_weaker P Q weaker [] some = absurd some
  some_weaker P Q weaker (x ∷ xs) (inl p) = inl (weaker x p)
  some_weaker P Q weaker (x ∷ xs) (inr some) = inr (some_weaker P Q weaker xs some)

  pub some_split : (P : X → Type 0) (xs ys : List X) → SomeOf P (xs ++ ys) → SomeOf P xs ⊎ SomeOf P ys
  some_split P [] ys some = inr some
  some_split P (x ∷ xs) ys (inl p) = inl (inl p)
  some_split P (x ∷ xs) ys (inr some) = elim (some_split P xs ys some) [ inl left ↦ inl (inr left) | inr right ↦ inr right ]

  some_filter_by : (P : X → Type 0) (test : X → Bool) (x : X) (xs rest : List X) (b : Bool) → test x ≡ b → (SomeOf P rest → SomeOf (λ x. P x × (test x ≡ true)) xs) → SomeOf P (cond b (x ∷ rest) rest) → SomeOf (λ x. P x × (test x ≡ true)) (x ∷ xs)
  some_filter_by P test x xs rest true is more (inl p) = inl (p, is)
  some_filter_by P test x xs rest true is more (inr some) = inr (more some)
  some_filter_by P test x xs rest false is more some = inr (more some)

  -- what passed a filter
  pub some_filter : (P : X → Type 0) (test : X → Bool) (xs : List X) → SomeOf P (filter test xs) → SomeOf (λ x. P x × (test x ≡ true)) xs
  some_filter P test [] some = absurd some
  some_filter P test (x ∷ xs) some = some_filter_by P test x xs (filter test xs) (test x) refl (some_filter P test xs) some

  pub all_some : (P Q : X → Type 0) (R : Type 0) (xs : List X) → ((x : X) → P x → Q x → R) → AllByRecursion P xs → SomeOf Q xs → R
  all_some P Q R [] step each some = absurd some
  all_some P Q R (x ∷ xs) step each (inl q) = step x each.0 q
  all_some P Q R (x ∷ xs) step each (inr some) = all_some P Q R xs step each.1 some

  pub some_reversed : (P : X → Type 0) (xs : List X) → SomeOf P (reverse xs) → SomeOf P xs
  some_reversed P [] some = absurd some
  some_reversed P (x ∷ xs) some =
      elim (some_split P (reverse xs) (x ∷ []) (subst (SomeOf P) (reverse-append (x ∷ []) xs) some)) [
        | inl old ↦ inr (some_reversed P xs old)
        | inr new ↦ elim new [ inl here ↦ inl here | inr none ↦ absurd none ]
      ]
