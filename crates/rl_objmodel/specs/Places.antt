-- Lists of texts with something at each, in order of text, each text once: the sites of an object, the cells of a map.
use Rattle.std.specs.Prelude.{◌≡◌, ℕ, ◌<◌, ◌≤◌, Bool, true, false, if◌then◌else◌, List, [], ◌∷◌, length, ⊤, Option, Some, None, bytes_eq, remove, slice_index_or, slice_set, Result, MatchResult}
use Rattle.std.specs.List.{AllByRecursion, AllWithin}
use Rattle.std.specs.declared.cmp.Ordering.TheVariants.{Less}
use Rattle.std.specs.Ordering.{nat_cmp, match_ordering, is_lt}
use Rattle.std.specs.Cmp.Lexicographic.{slice_cmp}

-- what is at a text
abbrev pub at_text : {T : Type 0} → List ℕ → List (List ℕ × T) → Option T
at_text text [] = None
at_text text (one ∷ all) = if bytes_eq text one.0 then Some one.1 else at_text text all

-- with this at a text, in place of what was there, or among the others
abbrev pub with_at : {T : Type 0} → List ℕ → T → List (List ℕ × T) → List (List ℕ × T)
with_at text x [] = (text, x) ∷ []
with_at text x (one ∷ all) =
    match_ordering (slice_cmp nat_cmp text one.0) ((text, x) ∷ one ∷ all) ((text, x) ∷ all) (one ∷ with_at text x all)

-- without what is at a text
abbrev pub without_at : {T : Type 0} → List ℕ → List (List ℕ × T) → List (List ℕ × T)
without_at text [] = []
without_at text (one ∷ all) = if bytes_eq text one.0 then all else one ∷ without_at text all

-- with this at a text, or with nothing there
abbrev pub restored_at : {T : Type 0} → List ℕ → Option T → List (List ℕ × T) → List (List ℕ × T)
restored_at text None all = without_at text all
restored_at text (Some x) all = with_at text x all

-- a place with this at a text, or without what was there
abbrev pub placed_back : {T : Type 0} → ℕ → List ℕ → Option T → List (List ℕ × T) → List (List ℕ × T)
placed_back at text None all = remove all at
placed_back at text (Some x) all = slice_set all at (text, x)

-- each text comes before all later ones
abbrev pub AreRising : {T : Type 0} → List (List ℕ × T) → Type 0
AreRising [] = ⊤
AreRising (one ∷ all) = AllByRecursion (λ other. slice_cmp nat_cmp one.0 other.0 ≡ Less) all × AreRising all

pub record IsRising {T : Type 0} (all : List (List ℕ × T)) : Type 0 where
  pub rising : AreRising all

-- the text of this one comes before
abbrev pub is_before : {T : Type 0} → List ℕ → List ℕ × T → Bool
is_before text one = is_lt (slice_cmp nat_cmp one.0 text)

-- the texts before the place come before this text, and the others do not
pub record IsPlace {T : Type 0} (text : List ℕ) (all : List (List ℕ × T)) (at : ℕ) : Type 0 where
  pub within : at ≤ length all
  pub below : AllWithin (λ one. is_before text one ≡ true) all 0 at
  pub above : AllWithin (λ one. is_before text one ≡ false) all at (length all)

-- the text is at the place
pub record IsHeldAt {T : Type 0} (text : List ℕ) (all : List (List ℕ × T)) (at : ℕ) : Type 0 where
  pub place : IsPlace text all at
  pub within : at < length all
  pub same : (other : List ℕ × T) → bytes_eq text (slice_index_or all at other).0 ≡ true

-- the text is nowhere, and would stand at the place
pub record IsMissedAt {T : Type 0} (text : List ℕ) (all : List (List ℕ × T)) (at : ℕ) : Type 0 where
  pub place : IsPlace text all at
  pub other : (other : List ℕ × T) → at < length all → bytes_eq text (slice_index_or all at other).0 ≡ false

-- where the text is, or would stand
abbrev pub FindsPlace : {T : Type 0} → List ℕ → List (List ℕ × T) → Result ℕ ℕ → Type 0
FindsPlace text all result = MatchResult result (IsHeldAt text all) (IsMissedAt text all)
