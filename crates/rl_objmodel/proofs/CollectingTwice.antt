-- A Tick after an earlier one leaves what it would have left alone.
use Rattle.std.proofs.Common.{◌≡◌, ℕ, ◌≤◌, ◌+◌, Bool, true, false, cond, List, [], ◌∷◌, refl, ap, sym, ◌∙◌, arith}
use Rattle.std.specs.Prelude.{not, nat_le, ◌&&◌, Option, Some, None}
use Rattle.std.specs.Option.{option_map_or}
use Rattle.std.specs.List.{cons_option}
use Rattle.std.proofs.lemmas.Bool.Decides.{nat_tests}
use Rattle.rl_numbers.specs.declared.limits.TheConstants.{TOMBSTONE_GRACE}
use Rattle.rl_objmodel.specs.Operations.{is_root}
use Rattle.rl_objmodel.specs.Held.{Written, Value, Removed, Write, Cells, is_collected, is_collected_write, HeldBody, Sum, Keys, Held}
use Rattle.rl_objmodel.specs.Steps.{collected_cells, collected_body, is_gone, collected}
use Rattle.rl_objmodel.specs.Collecting.{LastTickCounts}

module _ (first last : ℕ) (later : first ≤ last) where
  pub le_later : (n : ℕ) → nat_le n first ≡ true → nat_le n last ≡ true
  le_later n h = grind (arith, nat_tests)

  pub write_later : (written : Written) → is_collected_write first written ≡ true → is_collected_write last written ≡ true
  write_later (Value value) h = h
  write_later (Removed stamp) h = le_later (stamp + TOMBSTONE_GRACE) h

  one_cell : (one : List ℕ × Write) (cells rest : Cells) (b c : Bool) → is_collected_write first one.1.written ≡ b → is_collected_write last one.1.written ≡ c → collected_cells last rest ≡ collected_cells last cells → collected_cells last (cond (not b) (one ∷ rest) rest) ≡ cond (not c) (one ∷ collected_cells last cells) (collected_cells last cells)
  one_cell one cells rest true true h k more = more
  one_cell one cells rest true false h k more = cc (sym (write_later one.1.written h) ∙ k)
  one_cell one cells rest false c h k more = ap (λ (t : Bool). cond (not t) (one ∷ collected_cells last rest) (collected_cells last rest)) k ∙ ap (λ (xs : Cells). cond (not c) (one ∷ xs) xs) more

  cells_later : (cells : Cells) → collected_cells last (collected_cells first cells) ≡ collected_cells last cells
  cells_later [] = refl
  cells_later (one ∷ cells) = one_cell one cells (collected_cells first cells) (is_collected_write first one.1.written) (is_collected_write last one.1.written) refl refl (cells_later cells)

  body_later : (body : HeldBody) → collected_body last (collected_body first body) ≡ collected_body last body
  body_later (Sum sum) = refl
  body_later (Keys cells) = ap Keys (cells_later cells)

  and_later : (a : Bool) (deleted : Option ℕ) → (a && option_map_or (is_collected first) deleted false) ≡ true → (a && option_map_or (is_collected last) deleted false) ≡ true
  and_later true None h = h
  and_later true (Some stamp) h = le_later (stamp + TOMBSTONE_GRACE) h
  and_later false deleted h = h

  gone_later : (held : Held) → is_gone first held ≡ true → is_gone last held ≡ true
  gone_later held h = and_later (not (is_root held.id)) held.deleted h

  abbrev with_body : Held → HeldBody → Held
  with_body held body = record held { body = body }

  one_held : (held : Held) (pool rest : List Held) (b c : Bool) → is_gone first held ≡ b → is_gone last held ≡ c → collected last rest ≡ collected last pool
      → collected last (cons_option (cond b None (Some (with_body held (collected_body first held.body)))) rest) ≡ cons_option (cond c None (Some (with_body held (collected_body last held.body)))) (collected last pool)
  one_held held pool rest true true h k more = more
  one_held held pool rest true false h k more = cc (sym (gone_later held h) ∙ k)
  one_held held pool rest false c h k more =
      ap (λ (t : Bool). cons_option (cond t None (Some (with_body held (collected_body last (collected_body first held.body))))) (collected last rest)) k
      ∙ ap (λ (body : HeldBody). cons_option (cond c None (Some (with_body held body))) (collected last rest)) (body_later held.body)
      ∙ ap (cons_option (cond c None (Some (with_body held (collected_body last held.body))))) more

  pool_later : (pool : List Held) → collected last (collected first pool) ≡ collected last pool
  pool_later [] = refl
  pool_later (held ∷ pool) = one_held held pool (collected first pool) (is_gone first held) (is_gone last held) refl refl (pool_later pool)

pub last_tick_counts : LastTickCounts
last_tick_counts first last later pool = pool_later first last later pool
