-- Escapes by number, of ASCII characters.
use Rattle.std.proofs.Common.{◌≡◌, ℕ, ◌+◌, ◌-◌, ◌*◌, ◌<◌, ◌≤◌, cond, List, [], ◌∷◌, ◌++◌, drop, Option, Some, None, option_and_then, refl, sym, ap, ◌∙◌, arith}
use Rattle.std.specs.Char.{digit_value, encode_utf8}
use Rattle.std.proofs.lemmas.Bool.{ne_eqb, le-ltb, lt-ltb, lt-leb}
use Rattle.std.proofs.lemmas.Str.{encode_ascii}
use Rattle.json.specs.Text.{content, plain, after_high, prepend, code_unit, is_high_surrogate, is_low_surrogate}
use Rattle.json.specs.Lex.{lex, in_string}
use Rattle.json.specs.Run.{is_plain}
use Rattle.rl_jsonread.specs.Places.{IsByteAt, IsHex, Takes}
use Rattle.rl_jsonread.proofs.Lexed.{passed, escape_lexed, prepend-prepend}

pub digit_is : (b : ℕ) → 48 ≤ b → b ≤ 57 → IsHex b (b - 48)
digit_is b low high = record {
  digit = rw (le-ltb b 48 low, lt-ltb b 58 (omega arith));
  below = omega arith;
  plain_byte = rw (ne_eqb b 34 (λ e. omega arith), ne_eqb b 92 (λ e. omega arith), le-ltb b 32 (omega arith));
}

pub letter_is : (b : ℕ) → 97 ≤ b → b ≤ 102 → IsHex b (b - 97 + 10)
letter_is b low high =
    let same : b - 87 ≡ b - 97 + 10 = omega arith in
    record {
      digit = rw (le-ltb b 48 (omega arith), le-ltb b 58 (omega arith), le-ltb b 65 (omega arith), le-ltb b 91 (omega arith), le-ltb b 97 low, lt-ltb b 123 (omega arith)) same;
      below = omega arith;
      plain_byte = rw (ne_eqb b 34 (λ e. omega arith), ne_eqb b 92 (λ e. omega arith), le-ltb b 32 (omega arith));
    }

unit_is : (c e h l u : ℕ) → IsHex c h → IsHex e l → u ≡ h * 16 + l → code_unit 48 48 c e ≡ Some u
unfolding code_unit
unit_is c e h l u x y is =
    let same : 0 + h * 16 + l ≡ u = omega (arith, is) in
    rw (x.digit, y.digit, lt-ltb h 16 x.below, lt-ltb l 16 y.below) (ap Some same)

abbrev of_unit : List ℕ → ℕ → Option (List ℕ)
of_unit xs u = cond (is_high_surrogate u) (content (after_high u) xs) (cond (is_low_surrogate u) None (prepend (encode_utf8 u) (content plain xs)))

of_ascii : (xs : List ℕ) (u : ℕ) → u < 128 → of_unit xs u ≡ prepend (u ∷ []) (content plain xs)
of_ascii xs u small = rw (lt-leb 55296 u (omega arith), lt-leb 56320 u (omega arith), encode_ascii u small)

pub unit_read : (d : List ℕ) (at c e h l u : ℕ) (old new : List ℕ) → IsByteAt d at 92 → IsByteAt d (at + 1) 117 → IsByteAt d (at + 1 + 1) 48 → IsByteAt d (at + 1 + 1 + 1) 48 → IsByteAt d (at + 1 + 1 + 1 + 1) c
    → IsByteAt d (at + 1 + 1 + 1 + 1 + 1) e → IsHex c h → IsHex e l → u ≡ h * 16 + l → u < 128 → new ≡ old ++ u ∷ [] → Takes d at old (at + 1 + 1 + 1 + 1 + 1 + 1) new
unfolding content
unit_read d at c e h l u old new b0 b1 b2 b3 b4 b5 x y is small add = λ start r.
    let end = at + 1 + 1 + 1 + 1 + 1 + 1 in
    let xs = drop end d in
    let there : drop at d ≡ 92 ∷ 117 ∷ 48 ∷ 48 ∷ c ∷ e ∷ xs =
    b0.rest ∙ ap (λ t. 92 ∷ t) (b1.rest ∙ ap (λ t. 117 ∷ t) (b2.rest ∙ ap (λ t. 48 ∷ t) (b3.rest ∙ ap (λ t. 48 ∷ t) (b4.rest ∙ ap (λ t. c ∷ t) b5.rest)))) in
    let more : content plain (drop at d) ≡ prepend (u ∷ []) (content plain xs) = ap (content plain) there ∙ ap (option_and_then (of_unit xs)) (unit_is c e h l u x y is) ∙ of_ascii xs u small in
    record {
      bytes = r.bytes ∙ ap (prepend old) more ∙ prepend-prepend old (u ∷ []) (content plain xs) ∙ ap (λ s. prepend s (content plain xs)) (sym add);
      rest = r.rest ∙ ap (lex in_string) there ∙ escape_lexed 117 (48 ∷ 48 ∷ c ∷ e ∷ xs) ∙ passed 48 (48 ∷ c ∷ e ∷ xs) refl ∙ passed 48 (c ∷ e ∷ xs) refl ∙ passed c (e ∷ xs) x.plain_byte ∙ passed e xs y.plain_byte;
      within = omega (arith, b5.within);
    }
