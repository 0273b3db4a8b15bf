-- A text before its first mark.
use Rattle.std.proofs.Common.{◌≡◌, ◌+◌, ℕ, suc, Bool, true, false, cond, List, [], ◌∷◌, length, take, refl, ap, sym, ◌∙◌, arith}
use Rattle.std.specs.Prelude.{◌==◌, not}
use Rattle.std.specs.List.{position_or_len, before_first}
use Rattle.std.proofs.Math.Seq.{take-length}
use Rattle.rl_clientmodel.specs.Keys.{before_mark}

abbrev pub is_mark : ℕ → Bool
is_mark b = b == 33

one_plus : (n : ℕ) → 1 + n ≡ suc n
one_plus n = omega arith

front_by : (b : Bool) (c : ℕ) (cs : List ℕ) → (c == 33) ≡ b → before_mark cs ≡ take (position_or_len is_mark cs) cs → cond b [] (c ∷ before_mark cs) ≡ take (cond (not b) (1 + position_or_len is_mark cs) 0) (c ∷ cs)
front_by true c cs is rest = refl
front_by false c cs is rest = ap (λ (xs : List ℕ). c ∷ xs) rest ∙ ap (λ (n : ℕ). take n (c ∷ cs)) (sym (one_plus (position_or_len is_mark cs)))

pub front_is : (t : List ℕ) → before_mark t ≡ before_first is_mark t
front_is [] = refl
front_is (c ∷ cs) = front_by (c == 33) c cs refl (front_is cs)

pub whole_is : (t : List ℕ) → position_or_len is_mark t ≡ length t → before_mark t ≡ t
whole_is t none = front_is t ∙ ap (λ (n : ℕ). take n t) none ∙ take-length t
