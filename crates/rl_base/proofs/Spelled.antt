-- Digits spell the number that they were written for.
use Rattle.std.proofs.Common.{◌≡◌, ℕ, zero, suc, add-zero, add-suc, nat_lt, if◌then◌else◌, ◌+◌, ◌-◌, ◌*◌, ◌/◌, ◌%◌, ◌^◌, ◌<◌, List, [], ◌∷◌, ◌++◌, length, arith, refl, sym, ◌∙◌, ap}
use Rattle.std.proofs.Common.{append-nil, append_assoc, Bool, false}
use Rattle.std.proofs.lemmas.List.Folds.{list_all-append}
use Rattle.std.proofs.lemmas.Bool.Decides.{nat_tests}
use Rattle.std.proofs.Math.Nat.{mod-lt, mod-eq_of_lt, suc-add, zero-add, pow-zero, pow-suc, pow-succ'}
use Rattle.std.proofs.lemmas.Nat.{div-add-mod', mul-add-lt, row_below_turned}
use Rattle.std.specs.Prelude.{true, ◌&&◌, ◌≤◌, Option, Some, None, IfSome, IsSome, is_some}
use Rattle.std.proofs.Common.{true≢false}
use Rattle.std.specs.List.{list_all}
use Rattle.rl_base.specs.Digits.{fixed_text, digit_glyph, digit_value, is_digit, spelled, spelled_after, IsPaddedDecimal}
use Rattle.rl_base.proofs.Digits.{fixed_push}

spelled_push : (base high : ℕ) (xs : List ℕ) (g : ℕ) → spelled_after base high (xs ++ g ∷ []) ≡ spelled_after base high xs * base + digit_value base g
spelled_push base high [] g = refl
spelled_push base high (x ∷ xs) g = spelled_push base (high * base + digit_value base x) xs g

-- a digit is worth itself
pub value_of_glyph : (base d : ℕ) → d < base → base < 37 → digit_value base (digit_glyph d) ≡ d
value_of_glyph base d small low = ap (λ m. m % base) (plain d) ∙ mod-eq_of_lt small
  where
    plain : (d : ℕ) → (if nat_lt (digit_glyph d) 58 then digit_glyph d - 48 else digit_glyph d - 87) ≡ d
    plain d = grind (arith, nat_tests)

pub spelled_fixed : (base k n : ℕ) → 1 < base → base < 37 → n < base ^ k → spelled base (fixed_text base k n) ≡ n
spelled_fixed base zero n big low small = omega (arith, small, pow-zero base)
spelled_fixed base (suc k) n big low small =
    let below : n / base < base ^ k = (row_below_turned n base (base ^ k) base (rw (← pow-suc base k) small) (omega arith)).1 in
    let high = spelled_fixed base k (n / base) big low below in
    let last = value_of_glyph base (n % base) (mod-lt n (omega (arith, big))) low in
    spelled_push base 0 (fixed_text base k (n / base)) (digit_glyph (n % base)) ∙ rw (high, last) (div-add-mod' n base)

spelled_below : (base high k : ℕ) (xs : List ℕ) → 0 < base → high < base ^ k → spelled_after base high xs < base ^ (k + length xs)
spelled_below base high k [] big small = rw (add-zero k) small
spelled_below base high k (x ∷ xs) big small =
    let next : high * base + digit_value base x < base ^ suc k = rw (pow-succ' base k) (mul-add-lt high base (digit_value base x) (base ^ k) small (mod-lt _ big)) in
    rw (add-suc k (length xs), ← suc-add k (length xs)) (spelled_below base (high * base + digit_value base x) (suc k) xs big next)

-- digits spell a number that has no more digits
pub spelled_small : (base : ℕ) (xs : List ℕ) → 0 < base → spelled base xs < base ^ length xs
spelled_small base xs big = rw (← zero-add (length xs)) (spelled_below base 0 0 xs big (omega (arith, pow-zero base)))

-- DECIMAL DIGITS

-- a decimal digit is the character of what it is worth
glyph_of_value : (g : ℕ) → is_digit g ≡ true → digit_glyph (digit_value 10 g) ≡ g
glyph_of_value g is = grind (arith, nat_tests, is)

and_left : (a b : Bool) → (a && b) ≡ true → a ≡ true
and_left true b is = refl
and_left false b is = absurd (cc)

and_right : (a b : Bool) → (a && b) ≡ true → b ≡ true
and_right true b is = is
and_right false b is = absurd (cc)

fixed_behind : (high k : ℕ) (xs : List ℕ) → list_all is_digit xs ≡ true → fixed_text 10 (k + length xs) (spelled_after 10 high xs) ≡ fixed_text 10 k high ++ xs
fixed_behind high k [] digits = ap (λ n. fixed_text 10 n high) (add-zero k) ∙ sym (append-nil (fixed_text 10 k high))
fixed_behind high k (x ∷ xs) digits =
    let own = and_left (is_digit x) (list_all is_digit xs) digits in
    let v = digit_value 10 x in
    ap (λ n. fixed_text 10 n (spelled_after 10 (high * 10 + v) xs)) (add-suc k (length xs) ∙ sym (suc-add k (length xs)))
    ∙ fixed_behind (high * 10 + v) (suc k) xs (and_right (is_digit x) (list_all is_digit xs) digits)
    ∙ ap (λ t. t ++ xs) (fixed_push 10 k high v (mod-lt _ (omega arith)) ∙ ap (λ g. fixed_text 10 k high ++ g ∷ []) (glyph_of_value x own))
    ∙ append_assoc (fixed_text 10 k high) (x ∷ []) xs

-- decimal digits are those of the number that they spell
pub fixed_spelled : (xs : List ℕ) → list_all is_digit xs ≡ true → xs ≡ fixed_text 10 (length xs) (spelled 10 xs)
fixed_spelled xs digits = sym (ap (λ n. fixed_text 10 n (spelled 10 xs)) (sym (zero-add (length xs))) ∙ fixed_behind 0 0 xs digits)

digit_glyphs : (d : ℕ) → d < 10 → is_digit (digit_glyph d) ≡ true
digit_glyphs d small = grind (arith, nat_tests, small)

pub fixed_digits : (k n : ℕ) → list_all is_digit (fixed_text 10 k n) ≡ true
fixed_digits zero n = refl
fixed_digits (suc k) n =
    list_all-append is_digit (fixed_text 10 k (n / 10)) (digit_glyph (n % 10) ∷ [])
    ∙ ap (λ b. b && (is_digit (digit_glyph (n % 10)) && true)) (fixed_digits k (n / 10))
    ∙ ap (λ b. b && true) (digit_glyphs (n % 10) (mod-lt n (omega arith)))

-- what reading 1 to 38 digits answers
pub padded_exactly : (bytes : List ℕ) (r : Option ℕ) → 0 < length bytes → length bytes ≤ 38
    → IfSome r (λ n. (n < 10 ^ length bytes) × (bytes ≡ fixed_text 10 (length bytes) n)) → ((n : ℕ) → n < 10 ^ length bytes → bytes ≡ fixed_text 10 (length bytes) n → r ≡ Some n)
    → (IsSome r → IsPaddedDecimal bytes) × (IsPaddedDecimal bytes → IsSome r)
padded_exactly bytes r some fits found every = (there r found, back)
  where
    there : (r : Option ℕ) → IfSome r (λ n. (n < 10 ^ length bytes) × (bytes ≡ fixed_text 10 (length bytes) n)) → IsSome r → IsPaddedDecimal bytes
    there (Some n) found is = record { some = some; fits = fits; digits = ap (list_all is_digit) found.1 ∙ fixed_digits (length bytes) n }
    there None found is = absurd (true≢false (sym is))

    back : IsPaddedDecimal bytes → IsSome r
    back h = ap is_some (every (spelled 10 bytes) (spelled_small 10 bytes (omega arith)) (fixed_spelled bytes h.digits))

pub padded_value : (bytes : List ℕ) (r : Option ℕ) → IfSome r (λ n. (n < 10 ^ length bytes) × (bytes ≡ fixed_text 10 (length bytes) n)) → IfSome r (λ n. n ≡ spelled 10 bytes)
padded_value bytes (Some n) found = sym (ap (spelled 10) found.1 ∙ spelled_fixed 10 (length bytes) n (omega arith) (omega arith) found.0)
padded_value bytes None found = found
