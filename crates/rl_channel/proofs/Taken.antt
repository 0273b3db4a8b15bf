-- A machine's events stand in order, and a channel's history has the latest first.
use Rattle.std.proofs.Common.{◌≡◌, List, [], ◌∷◌, ◌++◌, reverse}
use Rattle.std.proofs.lemmas.List.{reverse-append}

pub taken : {A : Type 0} (past : List A) (event : A) → reverse (past ++ event ∷ []) ≡ event ∷ reverse past
taken past event = reverse-append past (event ∷ [])
