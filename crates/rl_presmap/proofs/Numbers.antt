-- Numbers in ids.
use Rattle.std.proofs.Common.{◌≡◌, ℕ, zero, suc, ◌+◌, ◌<◌, ◌≤◌, Bool, true, false, cond, List, [], ◌∷◌, length, take, drop, refl, sym, ap, ◌∙◌, arith, true≢false}
use Rattle.std.specs.Prelude.{Option, Some, None, IsSome, IfSome, unwrap_or, ◌&&◌, nat_lt, nat_le}
use Rattle.std.specs.List.{list_all, position, position_or_len, before_first, after_first}
use Rattle.std.proofs.lemmas.List.{drop-drop}
use Rattle.std.proofs.lemmas.Bool.Decides.{nat_tests}
use Rattle.rl_base.specs.Digits.{is_digit, spelled, IsPaddedDecimal}
use Rattle.rl_presmap.specs.Newness.{is_number, number, both, is_colon, numbers_in}

pub and_parts : (a b : Bool) → (a && b) ≡ true → (a ≡ true) × (b ≡ true)
and_parts true b is = (refl, is)
and_parts false b is = absurd (cc)

pub three : (a b c : Bool) → a ≡ true → b ≡ true → c ≡ true → (a && b && c) ≡ true
three a b c h k l = ap (λ x. x && b && c) h ∙ ap (λ x. true && x && c) k ∙ ap (λ x. true && true && x) l

pub is_number_of : (text : List ℕ) → 0 < length text → length text ≤ 38 → list_all is_digit text ≡ true → is_number text ≡ true
is_number_of text some fits digits =
    let low : nat_lt 0 (length text) ≡ true = grind (arith, nat_tests, some) in
    let high : nat_le (length text) 38 ≡ true = grind (arith, nat_tests, fits) in
    three (nat_lt 0 (length text)) (nat_le (length text) 38) (list_all is_digit text) low high digits

padded_of : (text : List ℕ) → is_number text ≡ true → IsPaddedDecimal text
padded_of text is =
    let a = and_parts (nat_lt 0 (length text) && nat_le (length text) 38) (list_all is_digit text) is in
    let b = and_parts (nat_lt 0 (length text)) (nat_le (length text) 38) a.0 in
    record { some = grind (arith, nat_tests, b.0); fits = grind (arith, nat_tests, b.1); digits = a.1 }

-- what reading 1 to 38 digits answers is the number
pub number_is : (text : List ℕ) (r : Option ℕ) → (IsSome r → IsPaddedDecimal text) × (IsPaddedDecimal text → IsSome r) → IfSome r (λ n. n ≡ spelled 10 text) → r ≡ number text
number_is text (Some n) exactly value =
    let h = exactly.0 refl in
    ap (λ m. Some m) value ∙ sym (ap (λ b. cond b (Some (spelled 10 text)) None) (is_number_of text h.some h.fits h.digits))
number_is text None exactly value = by_test (is_number text) refl
  where
    by_test : (b : Bool) → is_number text ≡ b → None ≡ cond b (Some (spelled 10 text)) None
    by_test true is = absurd (true≢false (sym (exactly.1 (padded_of text is))))
    by_test false is = refl

-- TWO NUMBERS

none_both : (a : Option ℕ) → None ≡ both a None
none_both None = refl
none_both (Some n) = refl

past_all : (xs : List ℕ) (n : ℕ) → length xs ≤ n → drop n xs ≡ []
past_all [] zero low = refl
past_all [] (suc n) low = refl
past_all (x ∷ xs) zero low = absurd (omega (arith, low))
past_all (x ∷ xs) (suc n) low = past_all xs n (omega (arith, low))

-- without a colon there are not two numbers
pub none_numbers : (text : List ℕ) → None ≡ position is_colon text → None ≡ numbers_in text
none_numbers text none = by_test (nat_lt (position_or_len is_colon text) (length text)) refl none
  where
    by_test : (b : Bool) → nat_lt (position_or_len is_colon text) (length text) ≡ b → None ≡ cond b (Some (position_or_len is_colon text)) None → None ≡ numbers_in text
    by_test true is n = absurd (cc)
    by_test false is n =
        let past : after_first is_colon text ≡ [] = past_all text (position_or_len is_colon text + 1) (grind (arith, nat_tests, is)) in
        none_both (number (before_first is_colon text)) ∙ ap (λ (t : List ℕ). both (number (before_first is_colon text)) (number t)) (sym past)

place_of_colon : (text : List ℕ) (at : ℕ) → Some at ≡ position is_colon text → at ≡ position_or_len is_colon text
place_of_colon text at some = by_test (nat_lt (position_or_len is_colon text) (length text)) some
  where
    by_test : (b : Bool) → Some at ≡ cond b (Some (position_or_len is_colon text)) None → at ≡ position_or_len is_colon text
    by_test true is = ap (λ (o : Option ℕ). unwrap_or o 0) is
    by_test false is = absurd (cc)

drop_one : (xs : List ℕ) (n : ℕ) → drop 1 (drop n xs) ≡ drop (n + 1) xs
drop_one xs n = drop-drop 1 n xs

-- the two sides of the first colon
pub cut_numbers : (text front back index : List ℕ) (at : ℕ) → Some at ≡ position is_colon text → front ≡ take at text → back ≡ drop at text → index ≡ drop 1 back
    → both (number front) (number index) ≡ numbers_in text
cut_numbers text front back index at some is_front is_back is_index =
    let e = place_of_colon text at some in
    ap (λ (t : List ℕ). both (number t) (number index)) (is_front ∙ ap (λ n. take n text) e)
    ∙ ap (λ (t : List ℕ). both (number (before_first is_colon text)) (number t)) (is_index ∙ ap (drop 1) is_back ∙ drop_one text at ∙ ap (λ n. drop (n + 1) text) e)
