-- Single bytes at places.
use Rattle.std.proofs.Common.{◌≡◌, ℕ, ◌+◌, ◌^◌, ◌<◌, List, ◌∷◌, length, get_or, drop, ap, ◌∙◌}
use Rattle.std.proofs.lemmas.List.{drop_more}
use Rattle.json.specs.Word.{ends_word}
use Rattle.json.specs.Lex.{lex, between, begins_colon}
use Rattle.rl_jsonread.specs.Places.{IsByteAt, EndsAt}

pub byte_there : (d : List ℕ) (at b : ℕ) → at < length d → at + 1 < 2 ^ 64 → get_or d at 0 ≡ b → IsByteAt d at b
byte_there d at b within room e = record { rest = drop_more d at 0 within ∙ ap (λ x. x ∷ drop (at + 1) d) e; room = room; within = within }

pub comma_ends : (d : List ℕ) (at : ℕ) → IsByteAt d at 44 → EndsAt d at
unfolding lex
comma_ends d at h = record { word = ap ends_word h.rest; no_colon = ap (λ t. begins_colon (lex between t)) h.rest }

pub brace_ends : (d : List ℕ) (at : ℕ) → IsByteAt d at 125 → EndsAt d at
unfolding lex
brace_ends d at h = record { word = ap ends_word h.rest; no_colon = ap (λ t. begins_colon (lex between t)) h.rest }

pub bracket_ends : (d : List ℕ) (at : ℕ) → IsByteAt d at 93 → EndsAt d at
unfolding lex
bracket_ends d at h = record { word = ap ends_word h.rest; no_colon = ap (λ t. begins_colon (lex between t)) h.rest }
