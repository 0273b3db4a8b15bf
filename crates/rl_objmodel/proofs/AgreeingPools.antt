-- Pools that took the same operations with one stamp, each site's in the same order, agree.
use Rattle.std.proofs.Common.{◌≡◌, ℕ, Bool, true, false, cond, List, [], ◌∷◌, refl, ap, sym, ◌∙◌}
use Rattle.std.specs.Prelude.{⊤, map, ◌&&◌, is_none, bytes_eq, unwrap_or, Option, Some, None}
use Rattle.std.specs.declared.cmp.Ordering.{Ordering}
use Rattle.std.specs.declared.cmp.Ordering.TheVariants.{Less, Equal, Greater}
use Rattle.std.specs.Ordering.{match_ordering, is_eq}
use Rattle.std.proofs.lemmas.Map.Text.{is_eq-slice_cmp}
use Rattle.rl_ids.specs.declared.objects.ObjectId.{ObjectId}
use Rattle.rl_ids.specs.declared.serials.OpSerial.{OpSerial}
use Rattle.rl_ids.specs.Objects.{object_id_text, id_cmp, IsIdInRange}
use Rattle.rl_ids.proofs.ObjectTexts.{object_id_texts_differ}
use Rattle.rl_types.specs.declared.objects.Op.{Op}
use Rattle.rl_types.specs.declared.objects.ObjectOp.{ObjectOp}
use Rattle.rl_objmodel.specs.declared.plain.Applied.TheVariants as outcomes
use Rattle.rl_objmodel.specs.Operations.{id_in, is_create}
use Rattle.rl_objmodel.specs.Held.{Held}
use Rattle.rl_objmodel.specs.Places.{at_text, with_at}
use Rattle.rl_objmodel.specs.Steps.{added, body_passes_range, held_by, held_with, new_held, held_at, target, with_held, pool_outcome_by, pool_if, pool_with, pool_after_op, pool_after}
use Rattle.rl_objmodel.specs.Commuting.{is_range}
use Rattle.rl_objmodel.specs.Agreeing.{has_site, SameBySite, are_both, CreatesOnce, AreInRange}
use Rattle.rl_objmodel.proofs.PlacesHeld.{texts_same, there_with}
use Rattle.rl_objmodel.proofs.CommutingOps.{twice, there_other, with_either, eq_back, skips, test_stays, parts}
use Rattle.rl_objmodel.proofs.AgreeingLists.{steps, agree}

-- POOLS AS TEXTS WITH AN OBJECT AT EACH

abbrev Pool : Type 0
Pool = List Held

abbrev text_of : Held → List ℕ
text_of held = object_id_text held.id

abbrev entry : Held → List ℕ × Held
entry held = (text_of held, held)

behind : (pool : Pool) → map (λ (one : List ℕ × Held). one.1) (map entry pool) ≡ pool
behind [] = refl
behind (held ∷ pool) = ap (λ (more : Pool). held ∷ more) (behind pool)

from_entries : (p q : Pool) → map entry p ≡ map entry q → p ≡ q
from_entries p q h = sym (behind p) ∙ ap (map (λ (one : List ℕ × Held). one.1)) h ∙ behind q

put_at : (held other : Held) (pool : Pool) (o : Ordering) → map entry (with_held held pool) ≡ with_at (text_of held) held (map entry pool)
    → map entry (match_ordering o (held ∷ other ∷ pool) (held ∷ pool) (other ∷ with_held held pool)) ≡ match_ordering o (entry held ∷ entry other ∷ map entry pool) (entry held ∷ map entry pool) (entry other ∷ with_at (text_of held) held (map entry pool))
put_at held other pool Less h = refl
put_at held other pool Equal h = refl
put_at held other pool Greater h = ap (λ (more : List (List ℕ × Held)). entry other ∷ more) h

put_is : (held : Held) (pool : Pool) → map entry (with_held held pool) ≡ with_at (text_of held) held (map entry pool)
put_is held [] = refl
put_is held (other ∷ pool) = put_at held other pool (id_cmp held.id other.id) (put_is held pool)

found_at : (b c : Bool) (other : Held) (o p : Option Held) → b ≡ c → o ≡ p → cond b (Some other) o ≡ cond c (Some other) p
found_at b c other o p h k = ap (λ (t : Bool). cond t (Some other) o) h ∙ ap (cond c (Some other)) k

found_is : (id : ObjectId) (pool : Pool) → held_at id pool ≡ at_text (object_id_text id) (map entry pool)
found_is id [] = refl
found_is id (other ∷ pool) = found_at _ _ other _ _ (is_eq-slice_cmp (object_id_text id) (text_of other)) (found_is id pool)

put_there : (id : ObjectId) (held : Held) (pool : Pool) → text_of held ≡ object_id_text id → held_at id (with_held held pool) ≡ Some held
put_there id held pool e =
    found_is id (with_held held pool)
    ∙ ap (at_text (object_id_text id)) (put_is held pool)
    ∙ ap (λ (t : List ℕ). at_text t (with_at (text_of held) held (map entry pool))) (sym e)
    ∙ there_with (text_of held) held (map entry pool)

put_other : (id : ObjectId) (held : Held) (pool : Pool) → bytes_eq (object_id_text id) (text_of held) ≡ false → held_at id (with_held held pool) ≡ held_at id pool
put_other id held pool apart =
    found_is id (with_held held pool)
    ∙ ap (at_text (object_id_text id)) (put_is held pool)
    ∙ there_other (text_of held) (object_id_text id) held (map entry pool) apart
    ∙ sym (found_is id pool)

put_twice : (held new : Held) (pool : Pool) → text_of held ≡ text_of new → with_held new (with_held held pool) ≡ with_held new pool
put_twice held new pool e =
    from_entries (with_held new (with_held held pool)) (with_held new pool)
    (put_is new (with_held held pool)
    ∙ ap (with_at (text_of new) new) (put_is held pool ∙ ap (λ (t : List ℕ). with_at t held (map entry pool)) e)
    ∙ twice (text_of new) held new (map entry pool)
    ∙ sym (put_is new pool))

put_either : (held other : Held) (pool : Pool) → bytes_eq (text_of held) (text_of other) ≡ false → with_held other (with_held held pool) ≡ with_held held (with_held other pool)
put_either held other pool apart =
    from_entries (with_held other (with_held held pool)) (with_held held (with_held other pool))
    (put_is other (with_held held pool)
    ∙ ap (with_at (text_of other) other) (put_is held pool)
    ∙ with_either (text_of held) (text_of other) held other (map entry pool) apart
    ∙ sym (ap (with_at (text_of held) held) (put_is other pool))
    ∙ sym (put_is held (with_held other pool)))

-- THE OBJECT OF AN ID

test_text : (id : ObjectId) (other : Held) (b : Bool) → is_eq (id_cmp id other.id) ≡ b → b ≡ true → text_of other ≡ object_id_text id
test_text id other b e h = sym (texts_same (object_id_text id) (text_of other) (sym (is_eq-slice_cmp (object_id_text id) (text_of other)) ∙ e ∙ h))

found_text : (id : ObjectId) (pool : Pool) → text_of (unwrap_or (held_at id pool) (new_held id)) ≡ object_id_text id
found_text id [] = refl
found_text id (other ∷ pool) = by_test (is_eq (id_cmp id other.id)) refl (found_text id pool)
  where
    by_test : (b : Bool) → is_eq (id_cmp id other.id) ≡ b → text_of (unwrap_or (held_at id pool) (new_held id)) ≡ object_id_text id → text_of (unwrap_or (cond b (Some other) (held_at id pool)) (new_held id)) ≡ object_id_text id
    by_test true e more = test_text id other true e refl
    by_test false e more = more

target_there : (id : ObjectId) (held : Held) (pool : Pool) → text_of held ≡ object_id_text id → target id (with_held held pool) ≡ held
target_there id held pool e = ap (λ (o : Option Held). unwrap_or o (new_held id)) (put_there id held pool e)

target_other : (id : ObjectId) (held : Held) (pool : Pool) → bytes_eq (object_id_text id) (text_of held) ≡ false → target id (with_held held pool) ≡ target id pool
target_other id held pool apart = ap (λ (o : Option Held). unwrap_or o (new_held id)) (put_other id held pool apart)

-- ONE OPERATION, WITHOUT LOOKING AT SUMS

module _ (stamp : ℕ) where
  abbrev take_at : OpSerial → Op → ObjectId → Pool → Pool
  take_at serial op id pool = cond (skips stamp serial op (target id pool)) pool (with_held (held_with stamp serial op (target id pool)) pool)

  abbrev pool_take : Option OpSerial → Op → Pool → Pool
  pool_take None op pool = pool
  pool_take (Some serial) op pool = take_at serial op (id_in op) pool

  abbrev step : ObjectOp → Pool → Pool
  step op pool = pool_take op.serial op.op pool

  if_applied : (b r : Bool) (new old : Pool) → is_range (cond b outcomes.Skipped (cond r outcomes.Range outcomes.Applied)) ≡ false → pool_if (cond b outcomes.Skipped (cond r outcomes.Range outcomes.Applied)) new old ≡ cond b old new
  if_applied true r new old h = refl
  if_applied false true new old h = cc
  if_applied false false new old h = refl

  one_taken : (serial : Option OpSerial) (op : Op) (pool : Pool) → is_range (pool_outcome_by serial op pool) ≡ false → pool_if (pool_outcome_by serial op pool) (pool_with stamp serial op pool) pool ≡ pool_take serial op pool
  one_taken None op pool h = refl
  one_taken (Some serial) op pool h =
      let held = target (id_in op) pool in
      if_applied (skips stamp serial op held) (is_none held.deleted && body_passes_range held.body (added op held.created)) (with_held (held_with stamp serial op held) pool) pool h

  -- none of them brings a sum past its range
  abbrev pub NoneAt : List ObjectOp → Pool → Type 0
  NoneAt [] pool = ⊤
  NoneAt (op ∷ ops) pool = (is_range (pool_outcome_by op.serial op.op pool) ≡ false) × NoneAt ops (pool_after_op stamp op pool)

  all_taken : (ops : List ObjectOp) (pool : Pool) → NoneAt ops pool → pool_after stamp ops pool ≡ steps Pool step ops pool
  all_taken [] pool h = refl
  all_taken (op ∷ ops) pool h = all_taken ops (pool_after_op stamp op pool) h.1 ∙ ap (steps Pool step ops) (one_taken op.serial op.op pool h.0)

  same_id_by : (deleted : Option ℕ) (s : OpSerial) (op : Op) (held : Held) → text_of (held_by deleted stamp s op held) ≡ text_of held
  same_id_by None s op held = refl
  same_id_by (Some d) s op held = refl

  text_with : (s : OpSerial) (op : Op) (id : ObjectId) (pool : Pool) (held : Held) → target id pool ≡ held → text_of (held_with stamp s op held) ≡ object_id_text id
  text_with s op id pool held e = same_id_by held.deleted s op held ∙ ap text_of (sym e) ∙ found_text id pool

  passed : (s : OpSerial) (op : Op) (id : ObjectId) (pool : Pool) (held : Held) → target id pool ≡ held → skips stamp s op held ≡ true → take_at s op id pool ≡ pool
  passed s op id pool held e h = ap (λ (g : Held). cond (skips stamp s op g) pool (with_held (held_with stamp s op g) pool)) e ∙ ap (λ (b : Bool). cond b pool (with_held (held_with stamp s op held) pool)) h

  put : (s : OpSerial) (op : Op) (id : ObjectId) (pool : Pool) (held : Held) → target id pool ≡ held → skips stamp s op held ≡ false → take_at s op id pool ≡ with_held (held_with stamp s op held) pool
  put s op id pool held e h = ap (λ (g : Held). cond (skips stamp s op g) pool (with_held (held_with stamp s op g) pool)) e ∙ ap (λ (b : Bool). cond b pool (with_held (held_with stamp s op held) pool)) h

  -- OF ONE OBJECT

  one_passed : (s o : OpSerial) (op op2 : Op) (id : ObjectId) (pool : Pool) → skips stamp s op (target id pool) ≡ true → skips stamp o op2 (target id pool) ≡ false → bytes_eq s.site o.site ≡ false → take_at o op2 id (take_at s op id pool) ≡ take_at s op id (take_at o op2 id pool)
  one_passed s o op op2 id pool h k apart =
      let held = target id pool in
      let new = held_with stamp o op2 held in
      ap (take_at o op2 id) (passed s op id pool held refl h)
      ∙ put o op2 id pool held refl k
      ∙ sym (passed s op id (with_held new pool) new (target_there id new pool (text_with o op2 id pool held refl)) (test_stays stamp o s op2 op held (eq_back s.site o.site false apart) ∙ h))
      ∙ sym (ap (take_at s op id) (put o op2 id pool held refl k))

  put_both : (s o : OpSerial) (op op2 : Op) (id : ObjectId) (pool : Pool) → skips stamp s op (target id pool) ≡ false → skips stamp o op2 (target id pool) ≡ false → bytes_eq s.site o.site ≡ false → take_at o op2 id (take_at s op id pool) ≡ with_held (held_with stamp o op2 (held_with stamp s op (target id pool))) pool
  put_both s o op op2 id pool h k apart =
      let held = target id pool in
      let new = held_with stamp s op held in
      let e = target_there id new pool (text_with s op id pool held refl) in
      ap (take_at o op2 id) (put s op id pool held refl h)
      ∙ put o op2 id (with_held new pool) new e (test_stays stamp s o op op2 held apart ∙ k)
      ∙ put_twice new (held_with stamp o op2 new) pool (sym (same_id_by new.deleted o op2 new))

  one_object : (s o : OpSerial) (op op2 : Op) (id : ObjectId) (pool : Pool) (b b2 : Bool) → skips stamp s op (target id pool) ≡ b → skips stamp o op2 (target id pool) ≡ b2 → bytes_eq s.site o.site ≡ false → (is_create op && is_create op2) ≡ false → take_at o op2 id (take_at s op id pool) ≡ take_at s op id (take_at o op2 id pool)
  one_object s o op op2 id pool true true h k apart once =
      ap (take_at o op2 id) (passed s op id pool (target id pool) refl h) ∙ passed o op2 id pool (target id pool) refl k
      ∙ sym (passed s op id pool (target id pool) refl h) ∙ sym (ap (take_at s op id) (passed o op2 id pool (target id pool) refl k))
  one_object s o op op2 id pool true false h k apart once = one_passed s o op op2 id pool h k apart
  one_object s o op op2 id pool false true h k apart once = sym (one_passed o s op2 op id pool k h (eq_back s.site o.site false apart))
  one_object s o op op2 id pool false false h k apart once =
      let held = target id pool in
      put_both s o op op2 id pool h k apart
      ∙ ap (λ (one : Held). with_held one pool) (parts stamp s o op op2 held.id held.sites held.deleted held.created held.body apart once)
      ∙ sym (put_both o s op2 op id pool k h (eq_back s.site o.site false apart))

  -- OF TWO OBJECTS

  other_target : (s : OpSerial) (op : Op) (id other : ObjectId) (pool : Pool) → bytes_eq (object_id_text other) (object_id_text id) ≡ false → target other (with_held (held_with stamp s op (target id pool)) pool) ≡ target other pool
  other_target s op id other pool apart =
      target_other other (held_with stamp s op (target id pool)) pool (ap (bytes_eq (object_id_text other)) (text_with s op id pool (target id pool) refl) ∙ apart)

  two_objects : (s o : OpSerial) (op op2 : Op) (id other : ObjectId) (pool : Pool) (b b2 : Bool) → skips stamp s op (target id pool) ≡ b → skips stamp o op2 (target other pool) ≡ b2 → bytes_eq (object_id_text id) (object_id_text other) ≡ false → take_at o op2 other (take_at s op id pool) ≡ take_at s op id (take_at o op2 other pool)
  two_objects s o op op2 id other pool true true h k apart =
      ap (take_at o op2 other) (passed s op id pool (target id pool) refl h) ∙ passed o op2 other pool (target other pool) refl k
      ∙ sym (passed s op id pool (target id pool) refl h) ∙ sym (ap (take_at s op id) (passed o op2 other pool (target other pool) refl k))
  two_objects s o op op2 id other pool true false h k apart =
      ap (take_at o op2 other) (passed s op id pool (target id pool) refl h) ∙ put o op2 other pool (target other pool) refl k
      ∙ sym (passed s op id (with_held (held_with stamp o op2 (target other pool)) pool) (target id pool) (other_target o op2 other id pool apart) h)
      ∙ sym (ap (take_at s op id) (put o op2 other pool (target other pool) refl k))
  two_objects s o op op2 id other pool false true h k apart =
      ap (take_at o op2 other) (put s op id pool (target id pool) refl h)
      ∙ passed o op2 other (with_held (held_with stamp s op (target id pool)) pool) (target other pool) (other_target s op id other pool (eq_back (object_id_text id) (object_id_text other) false apart)) k
      ∙ sym (put s op id pool (target id pool) refl h) ∙ sym (ap (take_at s op id) (passed o op2 other pool (target other pool) refl k))
  two_objects s o op op2 id other pool false false h k apart =
      let new = held_with stamp s op (target id pool) in
      let new2 = held_with stamp o op2 (target other pool) in
      ap (take_at o op2 other) (put s op id pool (target id pool) refl h)
      ∙ put o op2 other (with_held new pool) (target other pool) (other_target s op id other pool (eq_back (object_id_text id) (object_id_text other) false apart)) k
      ∙ put_either new new2 pool
      (ap (λ (t : List ℕ). bytes_eq t (text_of new2)) (text_with s op id pool (target id pool) refl)
      ∙ ap (bytes_eq (object_id_text id)) (text_with o op2 other pool (target other pool) refl) ∙ apart)
      ∙ sym (put s op id (with_held new2 pool) (target id pool) (other_target o op2 other id pool apart) h)
      ∙ sym (ap (take_at s op id) (put o op2 other pool (target other pool) refl k))

  -- OF TWO SITES

  not_both : (a b c : Bool) → ((a && b) && c) ≡ false → c ≡ true → (a && b) ≡ false
  not_both true true c h k = cc (sym k ∙ h)
  not_both true false c h k = refl
  not_both false b c h k = refl

  by_ids : (s o : OpSerial) (op op2 : Op) (pool : Pool) (b : Bool) → bytes_eq (object_id_text (id_in op)) (object_id_text (id_in op2)) ≡ b → bytes_eq s.site o.site ≡ false
      → (is_create op && is_create op2 && is_eq (id_cmp (id_in op) (id_in op2))) ≡ false → IsIdInRange (id_in op) → IsIdInRange (id_in op2)
      → take_at o op2 (id_in op2) (take_at s op (id_in op) pool) ≡ take_at s op (id_in op) (take_at o op2 (id_in op2) pool)
  by_ids s o op op2 pool true e apart clash fits fits2 =
      let id = id_in op in
      let same : id_in op2 ≡ id = sym (object_id_texts_differ id (id_in op2) fits fits2 (texts_same (object_id_text id) (object_id_text (id_in op2)) e)) in
      let once = not_both (is_create op) (is_create op2) (is_eq (id_cmp id (id_in op2))) clash (is_eq-slice_cmp (object_id_text id) (object_id_text (id_in op2)) ∙ e) in
      ap (λ (i : ObjectId). take_at o op2 i (take_at s op id pool)) same
      ∙ one_object s o op op2 id pool (skips stamp s op (target id pool)) (skips stamp o op2 (target id pool)) refl refl apart once
      ∙ sym (ap (λ (i : ObjectId). take_at s op id (take_at o op2 i pool)) same)
  by_ids s o op op2 pool false e apart clash fits fits2 =
      two_objects s o op op2 (id_in op) (id_in op2) pool (skips stamp s op (target (id_in op) pool)) (skips stamp o op2 (target (id_in op2) pool)) refl refl e

  either : (a b : Option OpSerial) (op op2 : Op) (pool : Pool) (site : List ℕ) → has_site site a ≡ false → has_site site b ≡ true → (is_create op && is_create op2 && is_eq (id_cmp (id_in op) (id_in op2))) ≡ false → IsIdInRange (id_in op) → IsIdInRange (id_in op2)
      → pool_take b op2 (pool_take a op pool) ≡ pool_take a op (pool_take b op2 pool)
  either None b op op2 pool site h k clash fits fits2 = refl
  either (Some s) None op op2 pool site h k clash fits fits2 = cc
  either (Some s) (Some o) op op2 pool site h k clash fits fits2 =
      let apart : bytes_eq o.site s.site ≡ false = ap (λ (t : List ℕ). bytes_eq t s.site) (sym (texts_same site o.site k)) ∙ h in
      by_ids s o op op2 pool (bytes_eq (object_id_text (id_in op)) (object_id_text (id_in op2))) refl (eq_back o.site s.site false apart) clash fits fits2

  swap : (x y : ObjectOp) (pool : Pool) (site : List ℕ) → has_site site x.serial ≡ false → has_site site y.serial ≡ true → are_both x y ≡ false → IsIdInRange (id_in x.op) → IsIdInRange (id_in y.op) → step y (step x pool) ≡ step x (step y pool)
  swap x y pool site h k clash fits fits2 = either x.serial y.serial x.op y.op pool site h k clash fits fits2

pub agree_at : (stamp : ℕ) (xs ys : List ObjectOp) (pool : Pool) → SameBySite xs ys → CreatesOnce xs → AreInRange xs → NoneAt stamp xs pool → NoneAt stamp ys pool → pool_after stamp xs pool ≡ pool_after stamp ys pool
agree_at stamp xs ys pool same once fits h k =
    all_taken stamp xs pool h
    ∙ agree Pool (step stamp) are_both (λ (op : ObjectOp). IsIdInRange (id_in op.op)) (swap stamp) ys xs pool once fits same.serials same.others same.same
    ∙ sym (all_taken stamp ys pool k)
