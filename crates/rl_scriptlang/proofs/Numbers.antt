-- Numbers in decimal, and tokens that are one.
use Rattle.std.proofs.Common.{◌≡◌, ℕ, zero, suc, ◌+◌, ◌-◌, ◌*◌, ◌<◌, ◌≤◌, ◌^◌, Bool, true, false, Option, Some, None, List, [], ◌∷◌, length, get_or, refl, sym, ◌∙◌, ap, ap₂, subst, arith, rules}
use Rattle.std.specs.Prelude.{◌&&◌, ◌==◌, not, nat_lt, nat_le, if◌then◌else◌}
use Rattle.std.specs.List.{list_all}
use Rattle.std.specs.Fmt.{decimal}
use Rattle.std.proofs.lemmas.Bool.Decides.{nat_tests}
use Rattle.std.proofs.lemmas.Fmt.{digits_decimal, digits_value-decimal, decimal-digits_value, decimal_digit, decimal_nonempty, first_decimal}
use Rattle.std.proofs.lemmas.Str.Parse.{IsNumeralModel, numerals_by_fold}
use Rattle.rl_model.specs.Script.{is_digit, digits_value, has_leading_zero, is_decimal, is_between, number_within}

own : IsNumeralModel (λ ds. list_all is_digit ds ≡ true) (digits_value 0)
own = numerals_by_fold _ (search rules) digits_value (search rules)

and_left : (a b : Bool) → (a && b) ≡ true → a ≡ true
and_left true b is = refl
and_left false b is = absurd (cc)

and_right : (a b : Bool) → (a && b) ≡ true → b ≡ true
and_right true b is = is
and_right false b is = absurd (cc)

yes_lt : (a b : ℕ) → a < b → nat_lt a b ≡ true
yes_lt a b h = grind (arith, nat_tests, h)

is_lt : (a b : ℕ) → nat_lt a b ≡ true → a < b
is_lt a b h = grind (arith, nat_tests, h)

yes_le : (a b : ℕ) → a ≤ b → nat_le a b ≡ true
yes_le a b h = grind (arith, nat_tests, h)

no_le : (a b : ℕ) → b < a → nat_le a b ≡ false
no_le a b h = grind (arith, nat_tests, h)

is_le : (a b : ℕ) → nat_le a b ≡ true → a ≤ b
is_le a b h = grind (arith, nat_tests, h)

-- A TEXT IN DECIMAL

no_zero_ahead : (t : List ℕ) → 48 < get_or t 0 0 → has_leading_zero t ≡ false
no_zero_ahead [] h = refl
no_zero_ahead (x ∷ []) h = refl
no_zero_ahead (x ∷ y ∷ t) h = grind (arith, nat_tests, h)

no_zero : (n : ℕ) → n < 2 ^ 64 → has_leading_zero (decimal n) ≡ false
no_zero zero small = ap has_leading_zero (decimal_digit 0 (omega arith))
no_zero (suc n) small = no_zero_ahead (decimal (suc n)) (first_decimal (suc n) (omega arith) small)

record IsWritten (n : ℕ) (t : List ℕ) : Type 0 where
  form : is_decimal t ≡ true
  value : digits_value 0 t ≡ n

written : (n : ℕ) (t : List ℕ) → n < 2 ^ 64 → t ≡ decimal n → IsWritten n t
written n t small is = subst (IsWritten n) (sym is) (record {
  form = ap₂ (λ a b. a && b) (ap₂ (λ a b. a && b) (yes_lt 0 (length (decimal n)) (decimal_nonempty n small)) (digits_decimal own n small)) (ap not (no_zero n small));
  value = digits_value-decimal own n small;
})

one_digit : (t : List ℕ) → 0 < length t → has_leading_zero t ≡ false → get_or t 0 0 ≡ 48 → length t ≡ 1
one_digit [] some none zero_ahead = absurd (omega (arith, some))
one_digit (x ∷ []) some none zero_ahead = refl
one_digit (x ∷ y ∷ t) some none zero_ahead = grind (arith, nat_tests, none, zero_ahead)

no_not : (b : Bool) → not b ≡ true → b ≡ false
no_not false is = refl
no_not true is = absurd (cc)

unwritten : (t : List ℕ) → is_decimal t ≡ true → digits_value 0 t < 2 ^ 64 → t ≡ decimal (digits_value 0 t)
unwritten t is small =
    let front = and_left (nat_lt 0 (length t) && list_all is_digit t) (not (has_leading_zero t)) is in
    let some = is_lt 0 (length t) (and_left (nat_lt 0 (length t)) (list_all is_digit t) front) in
    let digits = and_right (nat_lt 0 (length t)) (list_all is_digit t) front in
    let none = no_not (has_leading_zero t) (and_right (nat_lt 0 (length t) && list_all is_digit t) (not (has_leading_zero t)) is) in
    sym (decimal-digits_value own t digits some (one_digit t some none) small)

-- A TOKEN

pub within_none : (low high : ℕ) (t : List ℕ) → high < 2 ^ 64 → ((n : ℕ) → n < 2 ^ 64 → t ≡ decimal n → ⊥) → None ≡ number_within low high t
within_none low high t most none = of (is_decimal t && is_between low high (digits_value 0 t)) refl
  where
    of : (b : Bool) → (is_decimal t && is_between low high (digits_value 0 t)) ≡ b → None ≡ (if b then Some (digits_value 0 t) else None)
    of false is = refl
    of true is =
        let form = and_left (is_decimal t) (is_between low high (digits_value 0 t)) is in
        let between = and_right (is_decimal t) (is_between low high (digits_value 0 t)) is in
        let small = is_le (digits_value 0 t) high (and_right (nat_le low (digits_value 0 t)) (nat_le (digits_value 0 t) high) between) in
        absurd (none (digits_value 0 t) (omega (arith, small, most)) (unwritten t form (omega (arith, small, most))))

within_is : (low high n : ℕ) (t : List ℕ) (b : Bool) → n < 2 ^ 64 → t ≡ decimal n → is_between low high n ≡ b → number_within low high t ≡ (if b then Some n else None)
within_is low high n t b small is between =
    let w = written n t small is in
    rw (w.form, w.value, between) refl

pub within_yes : (low high n : ℕ) (t : List ℕ) → n < 2 ^ 64 → t ≡ decimal n → low ≤ n → n ≤ high → Some n ≡ number_within low high t
within_yes low high n t small is least most = sym (within_is low high n t true small is (ap₂ (λ a b. a && b) (yes_le low n least) (yes_le n high most)))

pub within_below : (low high n : ℕ) (t : List ℕ) → n < 2 ^ 64 → t ≡ decimal n → n < low → None ≡ number_within low high t
within_below low high n t small is less = sym (within_is low high n t false small is (ap (λ a. a && nat_le n high) (no_le low n less)))

pub within_above : (low high n : ℕ) (t : List ℕ) → n < 2 ^ 64 → t ≡ decimal n → low ≤ n → high < n → None ≡ number_within low high t
within_above low high n t small is least more = sym (within_is low high n t false small is (ap₂ (λ a b. a && b) (yes_le low n least) (no_le n high more)))
