-- A text cut at its first colon, and put together again.
use Rattle.std.proofs.Common.{◌≡◌, ◌<◌, ◌+◌, ℕ, suc, Bool, true, false, cond, List, [], ◌∷◌, ◌++◌, length, take, drop, Some, None, refl, sym, subst, ltb, not, arith, length-append}
use Rattle.std.specs.Prelude.{◌&&◌}
use Rattle.std.specs.List.{list_all, position_or_len, before_first, after_first}
use Rattle.std.proofs.lemmas.Bool.{lt-ltb}
use Rattle.std.proofs.Math.Seq.{take-append_seam, drop-append-add}
use Rattle.rl_types.specs.declared.frames.Cursor.{Cursor}
use Rattle.rl_jsonfields.proofs.Shapes.{some_is}
use Rattle.rl_wire.specs.Frames.{is_colon, cursor_of}
use Rattle.rl_wire.specs.Sendable.{IsCursor}
use Rattle.rl_wire.specs.Texts.{cursor_text}

first_true : (a b : Bool) → (a && b) ≡ true → a ≡ true
first_true true b h = refl
first_true false b h = absurd cc

second_true : (a b : Bool) → (a && b) ≡ true → b ≡ true
second_true true b h = h
second_true false b h = absurd cc

abbrev no_colon : List ℕ → Bool
no_colon s = list_all (λ b. not (is_colon b)) s

-- ---- put together and cut again

place : (s c : List ℕ) → no_colon s ≡ true → position_or_len is_colon (s ++ 58 ∷ c) ≡ length s
place [] c h = refl
place (x ∷ s) c h =
    let k = place s c (second_true (not (is_colon x)) (no_colon s) h) in
    rw (first_true (not (is_colon x)) (no_colon s) h) (omega (arith, k))

within : (s c : List ℕ) → length s < length (s ++ 58 ∷ c)
within s c = omega (arith, length-append s (58 ∷ c))

abbrev made : List ℕ → List ℕ → Cursor
made s c = record { sequence = s; cursor = c }

cut_at : (t s c : List ℕ) (n : ℕ) → position_or_len is_colon t ≡ n → ltb n (length t) ≡ true → take n t ≡ s → drop (n + 1) t ≡ c → cursor_of t ≡ Some (made s c)
cut_at t s c n p lt front back = rw (p, lt, front, back) refl

pub cursor_again : (c : Cursor) → IsCursor c → cursor_of (cursor_text c) ≡ Some c
cursor_again c h =
    let t = c.sequence ++ 58 ∷ c.cursor in
    cut_at t c.sequence c.cursor (length c.sequence) (place c.sequence c.cursor h) (lt-ltb (length c.sequence) (length t) (within c.sequence c.cursor)) (take-append_seam c.sequence (58 ∷ c.cursor)) (drop-append-add c.sequence (58 ∷ c.cursor) 1)

-- ---- what was cut has no colon in front

both_true : (a b : Bool) → a ≡ true → b ≡ true → (a && b) ≡ true
both_true true b h k = k
both_true false b h k = absurd cc

one_more : (x : ℕ) (t : List ℕ) (n : ℕ) → not (is_colon x) ≡ true → no_colon (take n t) ≡ true → no_colon (take (suc n) (x ∷ t)) ≡ true
one_more x t n e h = both_true (not (is_colon x)) (no_colon (take n t)) e h

one_plus : (n : ℕ) → 1 + n ≡ suc n
one_plus n = omega arith

front_at : (b : Bool) (x : ℕ) (t : List ℕ) → not (is_colon x) ≡ b → no_colon (take (position_or_len is_colon t) t) ≡ true → no_colon (take (cond b (1 + position_or_len is_colon t) 0) (x ∷ t)) ≡ true
front_at true x t e h = subst (λ m. no_colon (take m (x ∷ t)) ≡ true) (sym (one_plus (position_or_len is_colon t))) (one_more x t (position_or_len is_colon t) e h)
front_at false x t e h = refl

front : (t : List ℕ) → no_colon (before_first is_colon t) ≡ true
front [] = refl
front (x ∷ t) = front_at (not (is_colon x)) x t refl (front t)

chosen : (b : Bool) (t : List ℕ) (c : Cursor) → cond b (Some (made (before_first is_colon t) (after_first is_colon t))) None ≡ Some c → IsCursor c
chosen true t c e = subst IsCursor (some_is (made (before_first is_colon t) (after_first is_colon t)) c e) (front t)
chosen false t c e = absurd cc

pub cursor_fits : (t : List ℕ) (c : Cursor) → cursor_of t ≡ Some c → IsCursor c
cursor_fits t c e = chosen (ltb (position_or_len is_colon t) (length t)) t c e
