-- Which numbers the id of an item of a log has.
use Rattle.std.proofs.Common.{◌≡◌, ℕ, suc, ◌^◌, ◌≤◌, ◌<◌, ◌+◌, true, false, cond, List, [], ◌∷◌, ◌++◌, length, take, drop, refl, ◌∙◌, ap, arith, append_assoc}
use Rattle.std.specs.Prelude.{Option, Some, None, option_and_then, codes, not, bytes_eq}
use Rattle.std.specs.List.{list_all, before_first, after_first, position_or_len}
use Rattle.std.specs.Fmt.{decimal}
use Rattle.std.proofs.Math.Seq.{take-append_seam, drop-append_seam}
use Rattle.std.proofs.lemmas.Slice.Eq.{bytes_eq-Decides}
use Rattle.std.proofs.lemmas.Fmt.{length-decimal-le, decimal_nonempty}
use Rattle.std.proofs.lemmas.Bool.Decides.{nat_tests}
use Rattle.rl_base.specs.Digits.{is_digit, spelled}
use Rattle.rl_types.specs.declared.presence.PresenceItem.{PresenceItem}
use Rattle.rl_ids.specs.Forms.{conn_text}
use Rattle.rl_ids.proofs.ObjectTexts.{spelled_decimal, decimal_digits}
use Rattle.rl_model.specs.Texts.{made_id, gone_id}
use Rattle.rl_presmap.specs.Newness.{rest_after, number, both, is_colon, numbers_in, numbers_of}
use Rattle.rl_presmap.proofs.Numbers.{and_parts, is_number_of}

rest_after_own : (prefix text : List ℕ) → rest_after prefix (prefix ++ text) ≡ Some text
rest_after_own prefix text =
    let same : bytes_eq (take (length prefix) (prefix ++ text)) prefix ≡ true = (bytes_eq-Decides (take (length prefix) (prefix ++ text)) prefix).1 (take-append_seam prefix text) in
    ap (λ b. cond b (Some (drop (length prefix) (prefix ++ text))) None) same ∙ ap (λ (t : List ℕ). Some t) (drop-append_seam prefix text)

-- DECIMALS

number_of_decimal : (n : ℕ) → n < 2 ^ 64 → number (decimal n) ≡ Some n
number_of_decimal n small =
    let short : length (decimal n) ≤ 38 = length-decimal-le 38 n (omega arith) (omega (arith, small)) small in
    ap (λ b. cond b (Some (spelled 10 (decimal n))) None) (is_number_of (decimal n) (decimal_nonempty n small) short (decimal_digits n small))
    ∙ ap (λ (m : ℕ). Some m) (spelled_decimal n small)

no_colon : (d : ℕ) → is_digit d ≡ true → is_colon d ≡ false
no_colon d is = grind (arith, nat_tests, is)

-- digits, a colon and a text: where the colon stands
colon_at : (ds text : List ℕ) → list_all is_digit ds ≡ true → position_or_len is_colon (ds ++ 58 ∷ text) ≡ length ds
colon_at [] text are = refl
colon_at (d ∷ ds) text are =
    let k = and_parts (is_digit d) (list_all is_digit ds) are in
    ap (λ b. cond (not b) (1 + position_or_len is_colon (ds ++ 58 ∷ text)) 0) (no_colon d k.0)
    ∙ ap (λ n. 1 + n) (colon_at ds text k.1) ∙ omega arith

before_colon : (ds text : List ℕ) → list_all is_digit ds ≡ true → before_first is_colon (ds ++ 58 ∷ text) ≡ ds
before_colon ds text are = ap (λ n. take n (ds ++ 58 ∷ text)) (colon_at ds text are) ∙ take-append_seam ds (58 ∷ text)

behind_seam : (ds text : List ℕ) → drop (length ds + 1) (ds ++ 58 ∷ text) ≡ text
behind_seam [] text = refl
behind_seam (d ∷ ds) text =
    let e : length (d ∷ ds) + 1 ≡ suc (length ds + 1) = omega arith in
    ap (λ n. drop n (d ∷ (ds ++ 58 ∷ text))) e ∙ behind_seam ds text

after_colon : (ds text : List ℕ) → list_all is_digit ds ≡ true → after_first is_colon (ds ++ 58 ∷ text) ≡ text
after_colon ds text are = ap (λ n. drop (n + 1) (ds ++ 58 ∷ text)) (colon_at ds text are) ∙ behind_seam ds text

two_decimals : (m i : ℕ) → m < 2 ^ 64 → i < 2 ^ 64 → numbers_in (decimal m ++ 58 ∷ decimal i) ≡ Some (m, i)
two_decimals m i small_m small_i =
    let digits = decimal_digits m small_m in
    ap (λ (t : List ℕ). both (number t) (number (after_first is_colon (decimal m ++ 58 ∷ decimal i)))) (before_colon (decimal m) (decimal i) digits)
    ∙ ap (λ (t : List ℕ). both (number (decimal m)) (number t)) (after_colon (decimal m) (decimal i) digits)
    ∙ ap (λ (n : Option ℕ). both n (number (decimal i))) (number_of_decimal m small_m)
    ∙ ap (λ (n : Option ℕ). both (Some m) n) (number_of_decimal i small_i)

-- AN ITEM OF A PUT

made_parts : (conn serial index : ℕ) → made_id conn serial index ≡ conn_text conn ++ (58 ∷ (decimal serial ++ 58 ∷ decimal index))
made_parts conn serial index =
    append_assoc (conn_text conn ++ codes ":" ++ decimal serial) (codes ":") (decimal index)
    ∙ append_assoc (conn_text conn ++ codes ":") (decimal serial) (58 ∷ decimal index)
    ∙ append_assoc (conn_text conn) (codes ":") (decimal serial ++ 58 ∷ decimal index)

abbrev behind : List ℕ → List ℕ → Option (ℕ × ℕ)
behind conn id = option_and_then numbers_in (option_and_then (rest_after (codes ":")) (rest_after conn id))

pub numbers_of_put : (conn serial index : ℕ) (item : PresenceItem) → item.conn ≡ conn_text conn → item.id ≡ made_id conn serial index → serial < 2 ^ 64 → index < 2 ^ 64 → numbers_of item ≡ Some (serial, index)
numbers_of_put conn serial index item own is small_m small_i =
    ap (λ (c : List ℕ). behind c item.id) own
    ∙ ap (behind (conn_text conn)) (is ∙ made_parts conn serial index)
    ∙ ap (λ (r : Option (List ℕ)). option_and_then numbers_in (option_and_then (rest_after (codes ":")) r)) (rest_after_own (conn_text conn) (58 ∷ (decimal serial ++ 58 ∷ decimal index)))
    ∙ ap (option_and_then numbers_in) (rest_after_own (codes ":") (decimal serial ++ 58 ∷ decimal index))
    ∙ two_decimals serial index small_m small_i

-- AN ITEM OF A GONE

pub numbers_of_gone : (conn place index : ℕ) (item : PresenceItem) → item.conn ≡ conn_text conn → item.id ≡ gone_id place index → numbers_of item ≡ None
numbers_of_gone conn place index item own is =
    ap (λ (c : List ℕ). behind c item.id) own ∙ ap (behind (conn_text conn)) is
