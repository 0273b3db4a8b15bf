-- What a value begins with.
use Rattle.std.proofs.Common.{◌≡◌, ℕ, ℤ, pos, negsuc, int_lt, SFits, w64, arith, ◌-◌, ◌+◌, ◌^◌, ◌<◌, Bool, true, false, List, [], ◌∷◌, length, drop, Option, Some, None, option_map, decimal, refl, ap, ◌∙◌}
use Rattle.std.specs.Fmt.{signed_decimal}
use Rattle.std.proofs.lemmas.Bool.{false≢true}
use Rattle.json.specs.Token as tokens
use Rattle.json.specs.Token.{Token}
use Rattle.json.specs.Lex.{Lexeme, lex, between, token, colon, Place, fresh, after_value, after_comma, after_key, may_begin, begins_colon, punctuate}
use Rattle.json.specs.Json.{parse_map, after_end_array, read_key, value, items, members}
use Rattle.json.proofs.Grammar.{value_is, value-begin_array, value-begin_object, left, skip_value-shorter}
use Rattle.serde_json.specs.Data.{Data, null, boolean, string, number, unsigned, array, object, Items, Members}
use Rattle.serde_json.specs.Find.{of_integer}
use Rattle.serde_json.specs.Read.{number_of, of_json, converted}
use Rattle.serde_json.proofs.Numbers.{number_of-decimal, number_of-negative}
use Rattle.rl_jsonread.proofs.Reading.{converted_some, converted-array, converted-object}
use Rattle.rl_jsonread.specs.Places.{IsByteAt, EndsAt, tokens_at, IsValueAt, AreItemsAt, AreMembersAt}

-- ---- the first token, where one may begin

text_begins : (p : Place) (s : List ℕ) (ls : List Lexeme) → may_begin p ≡ true → begins_colon ls ≡ false → punctuate p (token (tokens.string s) ∷ ls) ≡ tokens.string s ∷ punctuate after_value ls
unfolding punctuate
text_begins fresh s ls m c = rw c
text_begins after_value s ls m c = absurd (false≢true m)
text_begins after_comma s ls m c = rw c
text_begins after_key s ls m c = absurd (false≢true m)

number_begins : (p : Place) (s : List ℕ) (ls : List Lexeme) → may_begin p ≡ true → punctuate p (token (tokens.number s) ∷ ls) ≡ tokens.number s ∷ punctuate after_value ls
unfolding punctuate
number_begins fresh s ls m = refl
number_begins after_value s ls m = absurd (false≢true m)
number_begins after_comma s ls m = refl
number_begins after_key s ls m = absurd (false≢true m)

boolean_begins : (p : Place) (b : Bool) (ls : List Lexeme) → may_begin p ≡ true → punctuate p (token (tokens.boolean b) ∷ ls) ≡ tokens.boolean b ∷ punctuate after_value ls
unfolding punctuate
boolean_begins fresh b ls m = refl
boolean_begins after_value b ls m = absurd (false≢true m)
boolean_begins after_comma b ls m = refl
boolean_begins after_key b ls m = absurd (false≢true m)

null_begins : (p : Place) (ls : List Lexeme) → may_begin p ≡ true → punctuate p (token tokens.null ∷ ls) ≡ tokens.null ∷ punctuate after_value ls
unfolding punctuate
null_begins fresh ls m = refl
null_begins after_value ls m = absurd (false≢true m)
null_begins after_comma ls m = refl
null_begins after_key ls m = absurd (false≢true m)

array_begins : (p : Place) (ls : List Lexeme) → may_begin p ≡ true → punctuate p (token tokens.begin_array ∷ ls) ≡ tokens.begin_array ∷ punctuate fresh ls
unfolding punctuate
array_begins fresh ls m = refl
array_begins after_value ls m = absurd (false≢true m)
array_begins after_comma ls m = refl
array_begins after_key ls m = absurd (false≢true m)

object_begins : (p : Place) (ls : List Lexeme) → may_begin p ≡ true → punctuate p (token tokens.begin_object ∷ ls) ≡ tokens.begin_object ∷ punctuate fresh ls
unfolding punctuate
object_begins fresh ls m = refl
object_begins after_value ls m = absurd (false≢true m)
object_begins after_comma ls m = refl
object_begins after_key ls m = absurd (false≢true m)

key_begins : (p : Place) (s : List ℕ) (ls : List Lexeme) → may_begin p ≡ true → punctuate p (token (tokens.string s) ∷ colon ∷ ls) ≡ tokens.key s ∷ punctuate fresh ls
unfolding punctuate
key_begins fresh s ls m = refl
key_begins after_value s ls m = absurd (false≢true m)
key_begins after_comma s ls m = refl
key_begins after_key s ls m = absurd (false≢true m)

below_zero : (z : ℤ) → int_lt z (pos 0) ≡ true → SFits w64 z → number_of (signed_decimal z) ≡ Some (of_integer z)
below_zero (pos n) e fits = absurd (grind arith)
below_zero (negsuc n) e fits = number_of-negative n (grind arith)

-- ---- values

module _ (depth : ℕ) (d : List ℕ) (from to : ℕ) where
  pub text_is : (s : List ℕ) → lex between (drop from d) ≡ token (tokens.string s) ∷ lex between (drop to d) → EndsAt d to → IsValueAt depth d from (string s) to
  text_is s lexed ends = λ p m.
      ap (λ ts. converted of_json (value depth ts)) (ap (punctuate p) lexed ∙ text_begins p s _ m ends.no_colon) ∙ ap (converted of_json) (value_is depth (tokens.string s ∷ tokens_at after_value d to))

  pub whole_is : (n : ℕ) → n < 2 ^ 64 → lex between (drop from d) ≡ token (tokens.number (decimal n)) ∷ lex between (drop to d) → IsValueAt depth d from (number (unsigned n)) to
  whole_is n fits lexed = λ p m.
      ap (λ ts. converted of_json (value depth ts)) (ap (punctuate p) lexed ∙ number_begins p (decimal n) _ m)
      ∙ ap (converted of_json) (value_is depth (tokens.number (decimal n) ∷ tokens_at after_value d to))
      ∙ ap (λ o. option_map {U = Data × List Token} (λ b. (b, tokens_at after_value d to)) (option_map number o)) (number_of-decimal n fits)

  pub negative_is : (z : ℤ) → int_lt z (pos 0) ≡ true → SFits w64 z → lex between (drop from d) ≡ token (tokens.number (signed_decimal z)) ∷ lex between (drop to d) → IsValueAt depth d from (number (of_integer z)) to
  negative_is z below fits lexed = λ p m.
      ap (λ ts. converted of_json (value depth ts)) (ap (punctuate p) lexed ∙ number_begins p (signed_decimal z) _ m)
      ∙ ap (converted of_json) (value_is depth (tokens.number (signed_decimal z) ∷ tokens_at after_value d to))
      ∙ ap (λ o. option_map {U = Data × List Token} (λ b. (b, tokens_at after_value d to)) (option_map number o)) (below_zero z below fits)

  pub boolean_is : (b : Bool) → lex between (drop from d) ≡ token (tokens.boolean b) ∷ lex between (drop to d) → IsValueAt depth d from (boolean b) to
  boolean_is b lexed = λ p m.
      ap (λ ts. converted of_json (value depth ts)) (ap (punctuate p) lexed ∙ boolean_begins p b _ m) ∙ ap (converted of_json) (value_is depth (tokens.boolean b ∷ tokens_at after_value d to))

  pub null_is : lex between (drop from d) ≡ token tokens.null ∷ lex between (drop to d) → IsValueAt depth d from null to
  null_is lexed = λ p m.
      ap (λ ts. converted of_json (value depth ts)) (ap (punctuate p) lexed ∙ null_begins p _ m) ∙ ap (converted of_json) (value_is depth (tokens.null ∷ tokens_at after_value d to))

  pub array_is : (ds : Items) → IsByteAt d from 91 → 0 < depth → AreItemsAt (depth - 1) d (from + 1) ds to → IsValueAt depth d from (array ds) to
  unfolding lex
  array_is ds b some inside = λ p m.
      ap (λ ts. converted of_json (value depth ts)) (ap (λ t. punctuate p (lex between t)) b.rest ∙ array_begins p _ m)
      ∙ ap (converted of_json) (value-begin_array depth _ some) ∙ converted-array (items (value (depth - 1)) (length (tokens_at fresh d (from + 1))) (tokens_at fresh d (from + 1))) ∙ ap (parse_map array) inside

  pub object_is : (ms : Members) → IsByteAt d from 123 → 0 < depth → AreMembersAt (depth - 1) d (from + 1) ms to → IsValueAt depth d from (object ms) to
  unfolding lex
  object_is ms b some inside = λ p m.
      ap (λ ts. converted of_json (value depth ts)) (ap (λ t. punctuate p (lex between t)) b.rest ∙ object_begins p _ m)
      ∙ ap (converted of_json) (value-begin_object depth _ some) ∙ converted-object (members (value (depth - 1)) (length (tokens_at fresh d (from + 1))) (tokens_at fresh d (from + 1))) ∙ ap (parse_map object) inside

-- ---- what is read has a token of its own

pub takes_some : (depth : ℕ) (ts r : List Token) (x : Data) → converted of_json (value depth ts) ≡ Some (x, r) → length r < length ts
takes_some depth ts r x e = let j = converted_some of_json (value depth ts) x r e in skip_value-shorter depth ts r (ap left j.1)

read_none : {A : Type 0} {P : Type 0} (o : Option A) (a : A) → o ≡ None → o ≡ Some a → P
read_none o a none some = absurd (cc)

pub no_end : (depth : ℕ) (ts r : List Token) (x : Data) → converted of_json (value depth ts) ≡ Some (x, r) → after_end_array ts ≡ None
no_end depth [] r x e = refl
no_end depth (Token.begin_object ∷ ts) r x e = refl
no_end depth (Token.end_object ∷ ts) r x e = refl
no_end depth (Token.begin_array ∷ ts) r x e = refl
no_end depth (Token.end_array ∷ ts) r x e = read_none _ (x, r) (ap (converted of_json) (value_is depth (Token.end_array ∷ ts))) e
no_end depth (Token.key s ∷ ts) r x e = refl
no_end depth (Token.string s ∷ ts) r x e = refl
no_end depth (Token.number s ∷ ts) r x e = refl
no_end depth (Token.boolean b ∷ ts) r x e = refl
no_end depth (Token.null ∷ ts) r x e = refl
no_end depth (Token.bad ∷ ts) r x e = refl

pub key_read : (d : List ℕ) (p : Place) (at start : ℕ) (k : List ℕ) → may_begin p ≡ true → lex between (drop at d) ≡ token (tokens.string k) ∷ colon ∷ lex between (drop start d)
    → read_key (tokens_at p d at) ≡ Some (Some k, tokens_at fresh d start)
key_read d p at start k m lexed = ap read_key (ap (punctuate p) lexed ∙ key_begins p k _ m)
