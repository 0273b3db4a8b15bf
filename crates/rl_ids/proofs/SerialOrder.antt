-- Serials are ordered as their texts are.
use Rattle.std.proofs.Common.{◌≡◌, inl, inr, ℕ, zero, suc, ◌+◌, ◌/◌, ◌%◌, ◌^◌, ◌<◌, Bool, true, false, cond, List, [], ◌∷◌, ◌++◌, refl, sym, ◌∙◌, ap, arith, append_assoc}
use Rattle.std.specs.Prelude.{◌⊎◌, ◌==◌}
use Rattle.std.proofs.lemmas.Bool.{cases_order, lt-ltb, le-ltb, eq-eqb, eqb-true}
use Rattle.std.proofs.Math.Nat.{pow-suc}
use Rattle.std.specs.declared.cmp.Ordering.{Ordering}
use Rattle.std.specs.declared.cmp.Ordering.TheVariants.{Less, Equal, Greater}
use Rattle.std.specs.Ordering.{nat_cmp, ordering_then}
use Rattle.std.specs.Cmp.Lexicographic.{slice_cmp}
use Rattle.rl_base.specs.Digits.{at_least_text, digit_glyph, fixed_text}
use Rattle.rl_base.proofs.Digits.{at_least_fits}
use Rattle.rl_ids.specs.Objects.{op_serial_text, SerialsByText}

less : (m n : ℕ) → m < n → nat_cmp m n ≡ Less
less m n low = ap (λ b. cond b Less (cond (m == n) Equal Greater)) (lt-ltb m n low)

equal : (m n : ℕ) → m ≡ n → nat_cmp m n ≡ Equal
equal m n same = ap (λ b. cond b Less (cond (m == n) Equal Greater)) (le-ltb m n (omega (arith, same))) ∙ ap (λ b. cond b Equal Greater) (eq-eqb m n same)

greater : (m n : ℕ) → n < m → nat_cmp m n ≡ Greater
greater m n low = ap (λ b. cond b Less (cond (m == n) Equal Greater)) (le-ltb m n (omega (arith, low))) ∙ ap (λ b. cond b Equal Greater) (differ (m == n) refl)
  where
    differ : (b : Bool) → (m == n) ≡ b → b ≡ false
    differ false is = refl
    differ true is = let same = eqb-true m n is in absurd (omega (arith, low, same))

-- two numbers with their last digits apart
by_digits : (m n : ℕ) → ordering_then (nat_cmp (m / 10) (n / 10)) (nat_cmp (m % 10) (n % 10)) ≡ nat_cmp m n
by_digits m n = by_high (cases_order (m / 10) (n / 10))
  where
    by_low : m / 10 ≡ n / 10 → (m % 10 ≡ n % 10) ⊎ ((m % 10 < n % 10) ⊎ (n % 10 < m % 10)) → nat_cmp (m % 10) (n % 10) ≡ nat_cmp m n
    by_low high (inl same) = equal (m % 10) (n % 10) same ∙ sym (equal m n (omega (arith, high, same)))
    by_low high (inr (inl low)) = less (m % 10) (n % 10) low ∙ sym (less m n (omega (arith, high, low)))
    by_low high (inr (inr low)) = greater (m % 10) (n % 10) low ∙ sym (greater m n (omega (arith, high, low)))

    by_high : (m / 10 ≡ n / 10) ⊎ ((m / 10 < n / 10) ⊎ (n / 10 < m / 10)) → ordering_then (nat_cmp (m / 10) (n / 10)) (nat_cmp (m % 10) (n % 10)) ≡ nat_cmp m n
    by_high (inl same) = ap (λ o. ordering_then o (nat_cmp (m % 10) (n % 10))) (equal (m / 10) (n / 10) same) ∙ by_low same (cases_order (m % 10) (n % 10))
    by_high (inr (inl low)) = ap (λ o. ordering_then o (nat_cmp (m % 10) (n % 10))) (less (m / 10) (n / 10) low) ∙ sym (less m n (omega (arith, low)))
    by_high (inr (inr low)) = ap (λ o. ordering_then o (nat_cmp (m % 10) (n % 10))) (greater (m / 10) (n / 10) low) ∙ sym (greater m n (omega (arith, low)))

glyph : (d : ℕ) → d < 10 → digit_glyph d ≡ 48 + d
glyph d small = ap (λ b. cond b (48 + d) (87 + d)) (lt-ltb d 10 small)

shifted : (a b : ℕ) → nat_cmp (48 + a) (48 + b) ≡ nat_cmp a b
shifted a b = by_order (cases_order a b)
  where
    by_order : (a ≡ b) ⊎ ((a < b) ⊎ (b < a)) → nat_cmp (48 + a) (48 + b) ≡ nat_cmp a b
    by_order (inl same) = equal (48 + a) (48 + b) (ap (λ x. 48 + x) same) ∙ sym (equal a b same)
    by_order (inr (inl low)) = less (48 + a) (48 + b) (omega (arith, low)) ∙ sym (less a b low)
    by_order (inr (inr low)) = greater (48 + a) (48 + b) (omega (arith, low)) ∙ sym (greater a b low)

then_assoc : (a b c : Ordering) → ordering_then a (ordering_then b c) ≡ ordering_then (ordering_then a b) c
then_assoc Less b c = refl
then_assoc Equal b c = refl
then_assoc Greater b c = refl

fixed_cmp : (k m n : ℕ) (xs ys : List ℕ) → m < 10 ^ k → n < 10 ^ k → slice_cmp nat_cmp (fixed_text 10 k m ++ xs) (fixed_text 10 k n ++ ys) ≡ ordering_then (nat_cmp m n) (slice_cmp nat_cmp xs ys)
fixed_cmp zero m n xs ys small smaller = sym (ap (λ o. ordering_then o (slice_cmp nat_cmp xs ys)) (equal m n (omega (arith, small, smaller))))
fixed_cmp (suc k) m n xs ys small smaller =
    let d = digit_glyph (m % 10) in
    let e = digit_glyph (n % 10) in
    let power = pow-suc 10 k in
    let high : m / 10 < 10 ^ k = omega (arith, small, power) in
    let high2 : n / 10 < 10 ^ k = omega (arith, smaller, power) in
    let digits : nat_cmp d e ≡ nat_cmp (m % 10) (n % 10) =
    ap (λ x. nat_cmp x e) (glyph (m % 10) (omega arith)) ∙ ap (nat_cmp (48 + m % 10)) (glyph (n % 10) (omega arith)) ∙ shifted (m % 10) (n % 10) in
    ap (λ t. slice_cmp nat_cmp t ((fixed_text 10 k (n / 10) ++ e ∷ []) ++ ys)) (append_assoc (fixed_text 10 k (m / 10)) (d ∷ []) xs)
    ∙ ap (slice_cmp nat_cmp (fixed_text 10 k (m / 10) ++ d ∷ xs)) (append_assoc (fixed_text 10 k (n / 10)) (e ∷ []) ys)
    ∙ fixed_cmp k (m / 10) (n / 10) (d ∷ xs) (e ∷ ys) high high2
    ∙ ap (λ o. ordering_then (nat_cmp (m / 10) (n / 10)) (ordering_then o (slice_cmp nat_cmp xs ys))) digits
    ∙ then_assoc (nat_cmp (m / 10) (n / 10)) (nat_cmp (m % 10) (n % 10)) (slice_cmp nat_cmp xs ys)
    ∙ ap (λ o. ordering_then o (slice_cmp nat_cmp xs ys)) (by_digits m n)

pub serials_by_text : SerialsByText
unfolding op_serial_text
serials_by_text a b small smaller =
    let place : a.place < 10 ^ 20 = let e = small.0 in omega (arith, e) in
    let place2 : b.place < 10 ^ 20 = let e = smaller.0 in omega (arith, e) in
    let index : a.index < 10 ^ 4 = let e = small.1 in omega (arith, e) in
    let index2 : b.index < 10 ^ 4 = let e = smaller.1 in omega (arith, e) in
    ap (λ t. slice_cmp nat_cmp (fixed_text 10 20 a.place ++ 45 ∷ t ++ 64 ∷ a.site) (fixed_text 10 20 b.place ++ 45 ∷ at_least_text 10 4 b.index ++ 64 ∷ b.site)) (at_least_fits 10 4 a.index (omega arith) index)
    ∙ ap (λ t. slice_cmp nat_cmp (fixed_text 10 20 a.place ++ 45 ∷ fixed_text 10 4 a.index ++ 64 ∷ a.site) (fixed_text 10 20 b.place ++ 45 ∷ t ++ 64 ∷ b.site)) (at_least_fits 10 4 b.index (omega arith) index2)
    ∙ fixed_cmp 20 a.place b.place (45 ∷ fixed_text 10 4 a.index ++ 64 ∷ a.site) (45 ∷ fixed_text 10 4 b.index ++ 64 ∷ b.site) place place2
    ∙ ap (ordering_then (nat_cmp a.place b.place)) (fixed_cmp 4 a.index b.index (64 ∷ a.site) (64 ∷ b.site) index index2)
