-- What the searches leave. The list that is held is the list that is seen, in order of id.
use Rattle.std.proofs.Common.{◌≡◌, ℕ, List, [], ◌∷◌, refl, sym, subst, ◌∙◌}
use Rattle.std.specs.Prelude.{insert, slice_set, drop, Some, None}
use Rattle.rl_ids.specs.declared.objects.ObjectId.{ObjectId}
use Rattle.rl_objmodel.specs.Held.{Held}
use Rattle.rl_objmodel.specs.Steps.{with_held}
use Rattle.rl_object.specs.Ids.{is_upto_id}
use Rattle.rl_objrules.specs.Ids.{IsAscending, IsIdHeldAt, IsIdMissedAt, IsIdPlace, past_id}
use Rattle.rl_objrules.proofs.Places.{inserted_with, replaced_with, is_ascending_with, dropped_past}

module _ (old seen : List Held) (same : seen ≡ old) (ascending : IsAscending old) where
  pub held : (id : ObjectId) (at : ℕ) → (IsAscending seen → IsIdHeldAt id seen at) → IsIdHeldAt id old at
  held id at place = subst (λ (xs : List Held). IsIdHeldAt id xs at) same (place (subst IsAscending (sym same) ascending))

  pub missed : (id : ObjectId) (at : ℕ) → (IsAscending seen → IsIdMissedAt id seen at) → IsIdMissedAt id old at
  missed id at place = subst (λ (xs : List Held). IsIdMissedAt id xs at) same (place (subst IsAscending (sym same) ascending))

-- PUT

pub set_with : (held_one : Held) (id : ObjectId) (pool seen : List Held) (at : ℕ) → id ≡ held_one.id → seen ≡ pool → (IsAscending seen → IsIdHeldAt id seen at) → IsAscending pool → slice_set pool at held_one ≡ with_held held_one pool
set_with one id pool seen at is same place ascending = replaced_with one pool at (subst (λ (i : ObjectId). IsIdHeldAt i pool at) is (held pool seen same ascending id at place))

pub insert_with : (held_one : Held) (id : ObjectId) (pool seen : List Held) (at : ℕ) → id ≡ held_one.id → seen ≡ pool → (IsAscending seen → IsIdMissedAt id seen at) → IsAscending pool → insert pool at held_one ≡ with_held held_one pool
insert_with one id pool seen at is same place ascending = inserted_with one pool at (subst (λ (i : ObjectId). IsIdMissedAt i pool at) is (missed pool seen same ascending id at place))

pub set_rising : (held_one : Held) (id : ObjectId) (pool seen : List Held) (at : ℕ) → id ≡ held_one.id → seen ≡ pool → (IsAscending seen → IsIdHeldAt id seen at) → IsAscending pool → IsAscending (slice_set pool at held_one)
set_rising one id pool seen at is same place ascending = subst IsAscending (sym (set_with one id pool seen at is same place ascending)) (is_ascending_with one pool ascending)

pub insert_rising : (held_one : Held) (id : ObjectId) (pool seen : List Held) (at : ℕ) → id ≡ held_one.id → seen ≡ pool → (IsAscending seen → IsIdMissedAt id seen at) → IsAscending pool → IsAscending (insert pool at held_one)
insert_rising one id pool seen at is same place ascending = subst IsAscending (sym (insert_with one id pool seen at is same place ascending)) (is_ascending_with one pool ascending)

-- PAGES

cons_one : (one : Held) (xs ys : List Held) → xs ≡ ys → one ∷ xs ≡ one ∷ ys
cons_one one xs ys h = cc

pub past_none : (pool : List Held) → pool ≡ past_id None pool
past_none [] = refl
past_none (one ∷ pool) = cons_one one _ _ (past_none pool)

pub past_some : (id : ObjectId) (pool rest : List Held) (at : ℕ) → (IsAscending pool → IsIdPlace (is_upto_id id) pool at) → rest ≡ drop at pool → IsAscending pool → rest ≡ past_id (Some id) pool
past_some id pool rest at place is ascending = is ∙ dropped_past id pool at (place ascending)
