-- Deadlines that are in order, and a place among them.
use Rattle.std.specs.Prelude.{◌≡◌, ℕ, ◌≤◌, true, false, List, [], ◌∷◌, length, ⊤}
use Rattle.std.specs.List.{AllByRecursion, AllWithin}
use Rattle.rl_deadline.specs.Order.{is_before}

-- none comes before an earlier one
abbrev pub AreRanked : List (ℕ × ℕ) → Type 0
AreRanked [] = ⊤
AreRanked (p ∷ ps) = AllByRecursion (λ q. is_before q p ≡ false) ps × AreRanked ps

pub record IsRanked (ps : List (ℕ × ℕ)) : Type 0 where
  pub ranked : AreRanked ps

-- those before the place come before the deadline, and the others don't
pub record IsPlaceOf (p : ℕ × ℕ) (ps : List (ℕ × ℕ)) (at : ℕ) : Type 0 where
  pub within : at ≤ length ps
  pub below : AllWithin (λ q. is_before q p ≡ true) ps 0 at
  pub above : AllWithin (λ q. is_before q p ≡ false) ps at (length ps)
