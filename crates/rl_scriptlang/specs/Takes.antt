-- What taking tokens off a line gives.
use Rattle.std.specs.Prelude.{◌≡◌, ◌<◌, ℕ, List, [], ◌∷◌, length, Option, Some, None}
use Rattle.std.specs.Borrow.{Bor}
use Rattle.std.specs.List.{slice_split, after_first}
use Rattle.rl_model.specs.Script.{is_space}
use Rattle.rl_scriptlang.specs.declared.split.Front.{Front}
use Rattle.rl_scriptlang.specs.declared.split.Told.{Told}
use Rattle.rl_scriptlang.specs.Grammar.{tokens_after, text_after}

-- the first token with what follows it, or there is none
abbrev pub TakesToken : Option (Bor (List ℕ)) → Option Front → Type 0
TakesToken rest None = tokens_after rest ≡ []
TakesToken rest (Some front) =
    (tokens_after rest ≡ front.token.now ∷ tokens_after front.rest)
    × (text_after front.rest ≡ after_first is_space (text_after rest))

-- two tokens with the text that follows them, or there are fewer than three tokens
abbrev pub TakesTexts : Option (Bor (List ℕ)) → Option Told → Type 0
TakesTexts rest None = length (tokens_after rest) < 3
TakesTexts rest (Some told) =
    (tokens_after rest ≡ told.first.now ∷ told.second.now ∷ slice_split is_space told.text.now)
    × (told.text.now ≡ after_first is_space (after_first is_space (text_after rest)))
