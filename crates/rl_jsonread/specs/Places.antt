-- What stands at a place of a text.
use Rattle.std.specs.Prelude.{◌≡◌, ℕ, ◌+◌, ◌^◌, ◌<◌, ◌≤◌, List, ◌∷◌, ◌++◌, length, drop, true, false, Some}
use Rattle.json.specs.Token.{Token}
use Rattle.std.specs.Char.{digit_value}
use Rattle.json.specs.Run.{is_plain}
use Rattle.json.specs.Text.{content, plain, prepend}
use Rattle.json.specs.Word.{ends_word}
use Rattle.json.specs.Lex.{lex, between, in_string, Place, fresh, after_value, may_begin, begins_colon, punctuate}
use Rattle.json.specs.Json.{value, items, members}
use Rattle.serde_json.specs.Data.{Data, Items, Members, no_members}
use Rattle.serde_json.specs.Read.{of_json, of_items, of_members, converted}

-- the byte b stands there
pub record IsByteAt (text : List ℕ) (at b : ℕ) : Type 0 where
  pub rest : drop at text ≡ b ∷ drop (at + 1) text
  pub room : at + 1 < 2 ^ 64
  pub within : at < length text

-- a word ends there, and no colon follows
pub record EndsAt (text : List ℕ) (at : ℕ) : Type 0 where
  pub word : ends_word (drop at text) ≡ true
  pub no_colon : begins_colon (lex between (drop at text)) ≡ false

-- a word stands there, and ends at `to`
pub record IsWordAt (text : List ℕ) (from : ℕ) (word : List ℕ) (to : ℕ) : Type 0 where
  pub whole : drop from text ≡ word ++ drop to text
  pub ends : EndsAt text to

-- the byte b is a hexadecimal digit that stands for v
pub record IsHex (b v : ℕ) : Type 0 where
  pub digit : digit_value b ≡ v
  pub below : v < 16
  pub plain_byte : is_plain b ≡ true

-- of the string whose content begins at `start`, what stands before a place is `found`
pub record IsReadTo (text : List ℕ) (start at : ℕ) (found : List ℕ) : Type 0 where
  pub bytes : content plain (drop start text) ≡ prepend found (content plain (drop at text))
  pub rest : lex in_string (drop start text) ≡ lex in_string (drop at text)
  pub within : at ≤ length text

-- what was read up to a place, with what stands from there up to `to`, is what is read up to `to`
abbrev pub Takes : List ℕ → ℕ → List ℕ → ℕ → List ℕ → Type 0
Takes text at old to new = (start : ℕ) → IsReadTo text start at old → IsReadTo text start to new

-- the tokens from there on, of which the first stands in the given place of the grammar
abbrev pub tokens_at : Place → List ℕ → ℕ → List Token
tokens_at p text at = punctuate p (lex between (drop at text))

-- a value that begins at `from` is d, and ends at `to`
abbrev pub IsValueAt : ℕ → List ℕ → ℕ → Data → ℕ → Type 0
IsValueAt depth text from d to = (p : Place) → may_begin p ≡ true → converted of_json (value depth (tokens_at p text from)) ≡ Some (d, tokens_at after_value text to)

-- the items that begin at `from`, after the opening bracket, are ds, and their closing bracket ends at `to`
abbrev pub AreItemsAt : ℕ → List ℕ → ℕ → Items → ℕ → Type 0
AreItemsAt depth text from ds to = converted of_items (items (value depth) (length (tokens_at fresh text from)) (tokens_at fresh text from)) ≡ Some (ds, tokens_at after_value text to)

-- the members that begin at `from`, after the opening brace, are ms, and their closing brace ends at `to`
abbrev pub AreMembersAt : ℕ → List ℕ → ℕ → Members → ℕ → Type 0
AreMembersAt depth text from ms to =
    converted (λ ds. of_members ds no_members) (members (value depth) (length (tokens_at fresh text from)) (tokens_at fresh text from)) ≡ Some (ms, tokens_at after_value text to)
