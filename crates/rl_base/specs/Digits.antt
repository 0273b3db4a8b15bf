-- Numbers written in digits.
use Rattle.std.specs.Prelude.{ℕ, Bool, zero, suc, ◌≤◌, ◌<◌, ◌+◌, ◌-◌, ◌*◌, ◌/◌, ◌%◌, ◌&&◌, List, [], ◌∷◌, ◌++◌, length, IsTrue, max, nat_le, nat_lt, if◌then◌else◌}
use Rattle.std.specs.List.{list_all}
use Rattle.std.specs.Int.Digits.{digits_of}
use Rattle.rl_base.specs.declared.numerals.TheConstants.{MAX_PADDED_DIGITS}

-- the character of a digit below 36: `0` to `9`, then `a` to `z`
abbrev pub digit_glyph : ℕ → ℕ
digit_glyph d = if nat_lt d 10 then 48 + d else 87 + d

-- the last width digits of n in a base, the highest first
abbrev pub fixed_text : ℕ → ℕ → ℕ → List ℕ
fixed_text base zero n = []
fixed_text base (suc k) n = fixed_text base k (n / base) ++ digit_glyph (n % base) ∷ []

-- all digits of n in a base, but at least width of them, with leading zeros where it has fewer
abbrev pub at_least_text : ℕ → ℕ → ℕ → List ℕ
at_least_text base width n = fixed_text base (max width (length (digits_of base n))) n

-- what a character is worth as a digit in a base, whatever it is
abbrev pub digit_value : ℕ → ℕ → ℕ
digit_value base glyph = (if nat_lt glyph 58 then glyph - 48 else glyph - 87) % base

-- the number that digits in a base spell, read after the number that stands before them
abbrev pub spelled_after : ℕ → ℕ → List ℕ → ℕ
spelled_after base high [] = high
spelled_after base high (glyph ∷ rest) = spelled_after base (high * base + digit_value base glyph) rest

-- the number that digits in a base spell
abbrev pub spelled : ℕ → List ℕ → ℕ
spelled base digits = spelled_after base 0 digits

-- a character of `0-9`
abbrev pub is_digit : ℕ → Bool
is_digit byte = nat_le 48 byte && nat_le byte 57

-- some decimal digits, not more than fit in 128 bits, with leading zeros where there are any
pub record IsPaddedDecimal (text : List ℕ) : Type 0 where
  pub some : 0 < length text
  pub fits : length text ≤ MAX_PADDED_DIGITS
  pub digits : IsTrue (list_all is_digit text)
