-- The first line of bytes, found by its line feed.
use Rattle.std.proofs.Common.{◌≡◌, ℕ, ◌+◌, ◌-◌, ◌<◌, ◌≤◌, Bool, false, not, cond, ltb, eqb, List, [], ◌∷◌, length, take, drop, Some, None, sym, ap, ◌∙◌, arith, length-drop}
use Rattle.std.specs.List.{slice_split, before_first, after_first, position_or_len}
use Rattle.std.specs.Str.Lines.{lines, lines_of_parts, strip_carriage_return}
use Rattle.std.proofs.lemmas.List.{take_all}
use Rattle.std.proofs.lemmas.List.Splits.{slice_split_first}
use Rattle.std.proofs.lemmas.List.Sums.{prefix_len-le-length}
use Rattle.std.proofs.lemmas.Bool.Decides.{nat_tests}
use Rattle.rl_scriptlang.proofs.Splits.{HasFirst, split_some, split_none}

abbrev pub is_feed : ℕ → Bool
is_feed byte = eqb byte 10

found_by : (place size at : ℕ) → Some at ≡ cond (ltb place size) (Some place) None → (at ≡ place) × (place < size)
found_by place size at e = grind (arith, nat_tests)

missed_by : (place size : ℕ) → place ≤ size → None ≡ cond (ltb place size) (Some place) None → place ≡ size
missed_by place size le e = grind (arith, nat_tests)

parts_more : (x : List ℕ) (parts : List (List ℕ)) → HasFirst parts → lines_of_parts (x ∷ parts) ≡ strip_carriage_return x ∷ lines_of_parts parts
parts_more x parts some =
    ap (λ ps. lines_of_parts (x ∷ ps)) some.is ∙ ap (λ ps. strip_carriage_return x ∷ lines_of_parts ps) (sym some.is)

rest_all : (bytes : List ℕ) (at : ℕ) → take (length bytes - (at + 1)) (drop (at + 1) bytes) ≡ drop (at + 1) bytes
rest_all bytes at =
    let whole : length (drop (at + 1) bytes) ≤ length bytes - (at + 1) = omega (arith, length-drop (at + 1) bytes) in
    take_all (length bytes - (at + 1)) (drop (at + 1) bytes) whole

line_at : (bytes : List ℕ) (at : ℕ) → at ≡ position_or_len is_feed bytes → position_or_len is_feed bytes < length bytes
    → lines bytes ≡ strip_carriage_return (take at bytes) ∷ lines (drop (at + 1) bytes)
line_at bytes at is within =
    ap lines_of_parts (slice_split_first is_feed bytes 0 within)
    ∙ parts_more (before_first is_feed bytes) (slice_split is_feed (after_first is_feed bytes)) (split_some is_feed (after_first is_feed bytes))
    ∙ ap (λ k. strip_carriage_return (take k bytes) ∷ lines (drop (k + 1) bytes)) (sym is)

-- where there is a line feed
pub line_found : (bytes : List ℕ) (at : ℕ) → Some at ≡ cond (ltb (position_or_len is_feed bytes) (length bytes)) (Some (position_or_len is_feed bytes)) None
    → lines bytes ≡ strip_carriage_return (take at bytes) ∷ lines (take (length bytes - (at + 1)) (drop (at + 1) bytes))
line_found bytes at e =
    let found = found_by (position_or_len is_feed bytes) (length bytes) at e in
    line_at bytes at found.0 found.1
    ∙ ap (λ rest. strip_carriage_return (take at bytes) ∷ lines rest) (sym (rest_all bytes at))

not_none : (n : ℕ) → 0 < n → eqb n 0 ≡ false
not_none n some = grind (arith, nat_tests)

one_line : (bytes : List ℕ) → 0 < length bytes → lines_of_parts (bytes ∷ []) ≡ bytes ∷ []
one_line bytes some = ap (λ b. cond b [] (bytes ∷ [])) (not_none (length bytes) some)

-- where there is none
pub line_missed : (bytes : List ℕ) → 0 < length bytes → None ≡ cond (ltb (position_or_len is_feed bytes) (length bytes)) (Some (position_or_len is_feed bytes)) None
    → lines bytes ≡ bytes ∷ []
line_missed bytes some e =
    let whole = missed_by (position_or_len is_feed bytes) (length bytes) (prefix_len-le-length (λ b. not (is_feed b)) bytes) e in
    ap lines_of_parts (split_none is_feed bytes whole) ∙ one_line bytes some
