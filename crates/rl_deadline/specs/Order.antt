-- Deadlines in order.
use Rattle.std.specs.Prelude.{ℕ, Bool, List, [], ◌∷◌, map, nat_lt, nat_le, ◌==◌, ◌||◌, ◌&&◌, if◌then◌else◌}
use Rattle.std.specs.List.{filter}

-- Deadlines are seen as pairs of a key and its moment, in order of key. Here a deadline is a pair of its
-- moment and its key.

-- whether a deadline comes before another: its moment is less, or is the same and its key is less
abbrev pub is_before : ℕ × ℕ → ℕ × ℕ → Bool
is_before p q = nat_lt p.0 q.0 || ((p.0 == q.0) && nat_lt p.1 q.1)

-- a deadline put among others that are in order
abbrev pub put : ℕ × ℕ → List (ℕ × ℕ) → List (ℕ × ℕ)
put p [] = p ∷ []
put p (q ∷ qs) = if is_before q p then q ∷ put p qs else p ∷ q ∷ qs

-- the deadlines of these keys and moments, in order of moment, then key
abbrev pub in_order : List (ℕ × ℕ) → List (ℕ × ℕ)
in_order [] = []
in_order (e ∷ es) = put (e.1, e.0) (in_order es)

abbrev pub is_due : ℕ → ℕ × ℕ → Bool
is_due now p = nat_le p.0 now

-- the keys whose moment is at most now, in order of moment, then key
abbrev pub due : ℕ → List (ℕ × ℕ) → List ℕ
due now es = map (λ p. p.1) (filter (is_due now) (in_order es))
