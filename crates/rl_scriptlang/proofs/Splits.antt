-- A line at its first space, and bytes at their first line feed.
use Rattle.std.proofs.Common.{◌≡◌, ℕ, ◌<◌, Bool, true, false, cond, List, [], ◌∷◌, length, refl, arith}
use Rattle.std.specs.List.{slice_split, onto_first, before_first, after_first, position_or_len}
use Rattle.std.proofs.lemmas.List.Splits.{slice_split_first, slice_split_none}
use Rattle.std.proofs.lemmas.List.Sums.{fails_before_first}
use Rattle.rl_model.specs.Script.{is_space}

-- there is a first token
pub record HasFirst (parts : List (List ℕ)) : Type 0 where
  pub first : List ℕ
  pub others : List (List ℕ)
  pub is : parts ≡ first ∷ others

onto_some : (x : ℕ) (parts : List (List ℕ)) → HasFirst (onto_first x parts)
onto_some x [] = record { first = x ∷ []; others = []; is = refl }
onto_some x (part ∷ parts) = record { first = x ∷ part; others = parts; is = refl }

split_some_by : (b : Bool) (x : ℕ) (parts : List (List ℕ)) → HasFirst (cond b ([] ∷ parts) (onto_first x parts))
split_some_by true x parts = record { first = []; others = parts; is = refl }
split_some_by false x parts = onto_some x parts

pub split_some : (p : ℕ → Bool) (xs : List ℕ) → HasFirst (slice_split p xs)
split_some p [] = record { first = []; others = []; is = refl }
split_some p (x ∷ xs) = split_some_by (p x) x (slice_split p xs)

-- where no element passes
pub split_none : (p : ℕ → Bool) (xs : List ℕ) → position_or_len p xs ≡ length xs → slice_split p xs ≡ xs ∷ []
split_none p xs e = slice_split_none p xs (λ k d h. fails_before_first p xs k d (omega arith))

-- where one does
pub cut_tokens : (line token rest : List ℕ) → position_or_len is_space line < length line
    → token ≡ before_first is_space line → rest ≡ after_first is_space line
    → slice_split is_space line ≡ token ∷ slice_split is_space rest
cut_tokens line token rest within front back =
    let whole = slice_split_first is_space line 0 within in
    simp (front, back) whole
