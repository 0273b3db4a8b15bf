-- What is left where collected cells are dropped, the last first.
use Rattle.std.proofs.Common.{◌≡◌, ℕ, zero, suc, ◌<◌, ◌≤◌, Bool, true, false, cond, List, [], ◌∷◌, length, drop, refl, ap, sym, subst, ◌∙◌, arith, get_or}
use Rattle.std.specs.Prelude.{remove, filter, not}
use Rattle.std.proofs.lemmas.List.Edits.{length-remove}
use Rattle.rl_types.specs.declared.objects.MapCell.{MapCell}
use Rattle.rl_objmodel.specs.Held.{Write, Cells, is_collected_write}
use Rattle.rl_objmodel.specs.Places.{IsRising}
use Rattle.rl_objmodel.specs.Steps.{collected_cells, told_write, told_written}
use Rattle.rl_objmodel.proofs.PlacesHeld.{is_rising_kept}
use Rattle.rl_livemap.specs.Stamps.{stamped, IsKept}
use Rattle.rl_livemap.proofs.Stamped.{Shown, remove_stamped, get_or-stamped}

filter_remove : (keep : List ℕ × Write → Bool) (xs : Cells) (at : ℕ) (d : List ℕ × Write) → at < length xs → keep (get_or xs at d) ≡ false → filter keep (remove xs at) ≡ filter keep xs
filter_remove keep [] at d h dead = absurd (omega arith)
filter_remove keep (x ∷ xs) zero d h dead = sym (rw dead refl)
filter_remove keep (x ∷ xs) (suc at) d h dead = ap (λ (ys : Cells). cond (keep x) (x ∷ ys) ys) (filter_remove keep xs at d (omega arith) dead)

drop_remove : (xs : Cells) (at : ℕ) → at < length xs → drop at (remove xs at) ≡ drop (suc at) xs
drop_remove [] at h = absurd (omega arith)
drop_remove (x ∷ xs) zero h = refl
drop_remove (x ∷ xs) (suc at) h = drop_remove xs at (omega arith)

keep_one : (keep : List ℕ × Write → Bool) (x : List ℕ × Write) (xs ys : Cells) → keep x ≡ true → filter keep xs ≡ ys → filter keep (x ∷ xs) ≡ x ∷ ys
keep_one keep x xs ys h k = rw h (ap (λ (zs : Cells). x ∷ zs) k)

filter_drop : (keep : List ℕ × Write → Bool) (xs : Cells) (at : ℕ) (d : List ℕ × Write) → at < length xs → keep (get_or xs at d) ≡ true → filter keep (drop (suc at) xs) ≡ drop (suc at) xs → filter keep (drop at xs) ≡ drop at xs
filter_drop keep [] at d h alive rest = absurd (omega arith)
filter_drop keep (x ∷ xs) zero d h alive rest = keep_one keep x xs xs alive rest
filter_drop keep (x ∷ xs) (suc at) d h alive rest = filter_drop keep xs at d (omega arith) alive rest

-- one more cell was looked at
pub record IsDropped (now : ℕ) (at : ℕ) (xs ys : Cells) : Type 0 where
  pub within : at ≤ length ys
  pub left : collected_cells now ys ≡ collected_cells now xs
  pub behind : collected_cells now (drop at ys) ≡ drop at ys

dropped_by : (now : ℕ) (xs ys : Cells) (at : ℕ) (d : List ℕ × Write) (b : Bool) → at < length xs → is_collected_write now (get_or xs at d).1.written ≡ b → ys ≡ cond b (remove xs at) xs → collected_cells now (drop (suc at) xs) ≡ drop (suc at) xs → IsDropped now at xs ys
dropped_by now xs ys at d true h e is rest =
    let dead : not (is_collected_write now (get_or xs at d).1.written) ≡ false = ap not e in
    record {
      within = omega (arith, ap length is, length-remove xs at h);
      left = ap (collected_cells now) is ∙ filter_remove (λ (cell : List ℕ × Write). not (is_collected_write now cell.1.written)) xs at d h dead;
      behind = let same : drop at ys ≡ drop (suc at) xs = ap (drop at) is ∙ drop_remove xs at h in ap (collected_cells now) same ∙ rest ∙ sym same;
    }
dropped_by now xs ys at d false h e is rest =
    let alive : not (is_collected_write now (get_or xs at d).1.written) ≡ true = ap not e in
    record {
      within = omega (arith, ap length is);
      left = ap (collected_cells now) is;
      behind = let same : drop at ys ≡ drop at xs = ap (drop at) is in ap (collected_cells now) same ∙ filter_drop (λ (cell : List ℕ × Write). not (is_collected_write now cell.1.written)) xs at d h alive rest ∙ sym same;
    }

pub dropped_one : (now : ℕ) (xs ys : Cells) (n at : ℕ) → n ≡ suc at → n ≤ length xs → ((d : List ℕ × Write) → ys ≡ cond (is_collected_write now (get_or xs at d).1.written) (remove xs at) xs) → collected_cells now (drop n xs) ≡ drop n xs → IsDropped now at xs ys
dropped_one now [] ys n at e h is rest = absurd (omega (arith, h))
dropped_one now (x ∷ xs) ys n at e h is rest =
    dropped_by now (x ∷ xs) ys at x (is_collected_write now (get_or (x ∷ xs) at x).1.written) (omega (arith, h)) refl (is x) (subst (λ (k : ℕ). collected_cells now (drop k (x ∷ xs)) ≡ drop k (x ∷ xs)) e rest)

-- at first nothing is behind

pub none_behind : (now : ℕ) (xs : Cells) (n : ℕ) → length xs ≤ n → collected_cells now (drop n xs) ≡ drop n xs
none_behind now [] zero h = refl
none_behind now [] (suc n) h = refl
none_behind now (x ∷ xs) zero h = absurd (omega arith)
none_behind now (x ∷ xs) (suc n) h = none_behind now xs n (omega arith)

-- all were looked at
pub dropped_all : (now : ℕ) (old new : Cells) (at : ℕ) → at ≡ 0 → collected_cells now new ≡ collected_cells now old → collected_cells now (drop at new) ≡ drop at new → new ≡ collected_cells now old
dropped_all now old new at e left behind = sym (subst (λ (k : ℕ). collected_cells now (drop k new) ≡ drop k new) e behind) ∙ left

pub even_removed : (cells cells2 : Shown) (stamps stamps2 : List ℕ) (at : ℕ) → length stamps ≡ length cells → at < length cells → cells2 ≡ remove cells at → stamps2 ≡ remove stamps at → length stamps2 ≡ length cells2
even_removed cells cells2 stamps stamps2 at even h is is2 = omega (arith, even, ap length is, ap length is2, length-remove cells at h, length-remove stamps at (omega (arith, even)))

pub kept_dropped : (now : ℕ) (cells cells2 : Shown) (stamps stamps2 : List ℕ) → IsKept cells stamps → stamped cells2 stamps2 ≡ collected_cells now (stamped cells stamps) → length stamps2 ≡ length cells2 → IsKept cells2 stamps2
kept_dropped now cells cells2 stamps stamps2 kept is even = record {
  rising = subst (λ (xs : Cells). IsRising xs) (sym is) (is_rising_kept (λ (cell : List ℕ × Write). not (is_collected_write now cell.1.written)) (stamped cells stamps) kept.rising);
  even = even;
}

-- the cell at a place
module _ (now : ℕ) (cells : Shown) (stamps : List ℕ) (at : ℕ) (even : length stamps ≡ length cells) (within : at < length cells) where
  pub seen_collected : (seen : Shown) (seen2 : List ℕ) (c : List ℕ × MapCell) (s : ℕ) (b : Bool) → seen ≡ cells → seen2 ≡ stamps → s ≡ get_or seen2 at s → b ≡ is_collected_write now (told_written s (get_or seen at c).1.value) → b ≡ is_collected_write now (told_write (get_or stamps at s) (get_or cells at c)).1.written
  seen_collected seen seen2 c s b same same2 is e =
      e ∙ ap (λ (xs : Shown). is_collected_write now (told_written s (get_or xs at c).1.value)) same
      ∙ ap (λ (n : ℕ). is_collected_write now (told_written n (get_or cells at c).1.value)) (is ∙ ap (λ (ns : List ℕ). get_or ns at s) same2)

  told_at : (d : List ℕ × Write) (c : List ℕ × MapCell) (s : ℕ) (b : Bool) → b ≡ is_collected_write now (told_write (get_or stamps at s) (get_or cells at c)).1.written → is_collected_write now (get_or (stamped cells stamps) at d).1.written ≡ b
  told_at d c s b e = ap (λ (one : List ℕ × Write). is_collected_write now one.1.written) (get_or-stamped cells stamps at d c s even within) ∙ sym e

  pub dropped_there : (d : List ℕ × Write) (c : List ℕ × MapCell) (s : ℕ) (b : Bool) (cells2 : Shown) (stamps2 : List ℕ) → b ≡ is_collected_write now (told_write (get_or stamps at s) (get_or cells at c)).1.written → b ≡ true → cells2 ≡ remove cells at → stamps2 ≡ remove stamps at → stamped cells2 stamps2 ≡ cond (is_collected_write now (get_or (stamped cells stamps) at d).1.written) (remove (stamped cells stamps) at) (stamped cells stamps)
  dropped_there d c s b cells2 stamps2 e is_true h k =
      ap (λ (xs : Shown). stamped xs stamps2) h ∙ ap (stamped (remove cells at)) k ∙ remove_stamped cells stamps at even within
      ∙ sym (ap (λ (t : Bool). cond t (remove (stamped cells stamps) at) (stamped cells stamps)) (told_at d c s b e ∙ is_true))

  pub stayed_there : (d : List ℕ × Write) (c : List ℕ × MapCell) (s : ℕ) (b : Bool) → b ≡ is_collected_write now (told_write (get_or stamps at s) (get_or cells at c)).1.written → b ≡ false → stamped cells stamps ≡ cond (is_collected_write now (get_or (stamped cells stamps) at d).1.written) (remove (stamped cells stamps) at) (stamped cells stamps)
  stayed_there d c s b e stays = sym (ap (λ (t : Bool). cond t (remove (stamped cells stamps) at) (stamped cells stamps)) (told_at d c s b e ∙ stays))
