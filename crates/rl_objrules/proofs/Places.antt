-- A place among objects in order of id.
use Rattle.std.proofs.Common.{◌≡◌, ℕ, zero, suc, ◌<◌, Bool, true, false, cond, List, [], ◌∷◌, length, drop, refl, ap, sym, ◌∙◌, arith, get_or}
use Rattle.std.specs.Prelude.{insert, slice_set, not, filter, Some, None}
use Rattle.std.specs.List.Sorted.{IsPartitionedBy}
use Rattle.std.specs.declared.cmp.Ordering.{Ordering}
use Rattle.std.specs.declared.cmp.Ordering.TheVariants.{Less, Equal, Greater}
use Rattle.std.specs.Ordering.{match_ordering, is_lt, is_eq}
use Rattle.rl_ids.specs.declared.objects.ObjectId.{ObjectId}
use Rattle.rl_ids.specs.Objects.{id_cmp}
use Rattle.std.specs.List.{AllByRecursion}
use Rattle.rl_objmodel.specs.Held.{Held}
use Rattle.rl_objmodel.specs.Steps.{with_held, held_at, is_held_as}
use Rattle.rl_object.specs.Ids.{is_before_id, is_upto_id}
use Rattle.rl_objrules.specs.Ids.{AreAscending, IsAscending, IsIdPlace, IsIdHeldAt, IsIdMissedAt, is_past_id}
use Rattle.rl_objrules.proofs.Ids.{ids_total, before_all, less_of_greater, greater_of_less, tied_left, tied_right}

abbrev pub AllAfter : ObjectId → List Held → Type 0
AllAfter id pool = AllByRecursion (λ other. id_cmp id other.id ≡ Less) pool

abbrev first : Held → List Held → List Held
first held pool = held ∷ pool

with_less : (held p : Held) (ps : List Held) → id_cmp held.id p.id ≡ Less → with_held held (p ∷ ps) ≡ held ∷ p ∷ ps
with_less held p ps h = rw h refl

with_equal : (held p : Held) (ps : List Held) → id_cmp held.id p.id ≡ Equal → with_held held (p ∷ ps) ≡ held ∷ ps
with_equal held p ps h = rw h refl

with_greater : (held p : Held) (ps : List Held) → id_cmp held.id p.id ≡ Greater → with_held held (p ∷ ps) ≡ p ∷ with_held held ps
with_greater held p ps h = rw h refl

lt_less : (o : Ordering) → is_lt o ≡ true → o ≡ Less
lt_less Less h = refl
lt_less Equal h = cc
lt_less Greater h = cc

clash : {A : Type 0} (b : Bool) → b ≡ true → b ≡ false → A
clash b t f = cc (sym t ∙ f)

-- IN ORDER

later_all : (a b : ObjectId) (pool : List Held) → id_cmp a b ≡ Less → AllAfter b pool → AllAfter a pool
later_all a b [] h all = tt
later_all a b (held ∷ pool) h all = (before_all a b held.id h all.0, later_all a b pool h all.1)

later_with_at : (a : ObjectId) (held other : Held) (pool : List Held) (o : Ordering) → id_cmp a held.id ≡ Less → AllAfter a (other ∷ pool) → AllAfter a (with_held held pool) → AllAfter a (match_ordering o (held ∷ other ∷ pool) (held ∷ pool) (other ∷ with_held held pool))
later_with_at a held other pool Less h all rest = (h, all)
later_with_at a held other pool Equal h all rest = (h, all.1)
later_with_at a held other pool Greater h all rest = (all.0, rest)

later_with : (a : ObjectId) (held : Held) (pool : List Held) → id_cmp a held.id ≡ Less → AllAfter a pool → AllAfter a (with_held held pool)
later_with a held [] h all = (h, tt)
later_with a held (other ∷ pool) h all = later_with_at a held other pool (id_cmp held.id other.id) h all (later_with a held pool h all.1)

later_tied : (a b : ObjectId) (pool : List Held) → id_cmp a b ≡ Equal → AllAfter b pool → AllAfter a pool
later_tied a b [] h all = tt
later_tied a b (held ∷ pool) h all = (ids_total.congr a b held.id h ∙ all.0, later_tied a b pool h all.1)

ascending_with_at : (held other : Held) (pool : List Held) (o : Ordering) → id_cmp held.id other.id ≡ o → AreAscending (other ∷ pool) → AreAscending (with_held held pool) → AreAscending (match_ordering o (held ∷ other ∷ pool) (held ∷ pool) (other ∷ with_held held pool))
ascending_with_at held other pool Less h all rest = ((h, later_all held.id other.id pool h all.0), all)
ascending_with_at held other pool Equal h all rest = (later_tied held.id other.id pool h all.0, all.1)
ascending_with_at held other pool Greater h all rest = (later_with other.id held pool (less_of_greater held.id other.id h) all.0, rest)

ascending_with : (held : Held) (pool : List Held) → AreAscending pool → AreAscending (with_held held pool)
ascending_with held [] all = (tt, tt)
ascending_with held (other ∷ pool) all = ascending_with_at held other pool (id_cmp held.id other.id) refl all (ascending_with held pool all.1)

pub is_ascending_with : (held : Held) (pool : List Held) → IsAscending pool → IsAscending (with_held held pool)
is_ascending_with held pool h = record { ascending = ascending_with held pool h.ascending }

later_kept_at : (a : ObjectId) (held : Held) (pool : List Held) (b : Bool) → id_cmp a held.id ≡ Less → AllAfter a pool → AllAfter a (cond b (held ∷ pool) pool)
later_kept_at a held pool true h all = (h, all)
later_kept_at a held pool false h all = all

later_kept : (a : ObjectId) (keep : Held → Bool) (pool : List Held) → AllAfter a pool → AllAfter a (filter keep pool)
later_kept a keep [] all = tt
later_kept a keep (held ∷ pool) all = later_kept_at a held (filter keep pool) (keep held) all.0 (later_kept a keep pool all.1)

ascending_kept_at : (held : Held) (pool : List Held) (b : Bool) → AllAfter held.id pool → AreAscending pool → AreAscending (cond b (held ∷ pool) pool)
ascending_kept_at held pool true all rest = (all, rest)
ascending_kept_at held pool false all rest = rest

ascending_kept : (keep : Held → Bool) (pool : List Held) → AreAscending pool → AreAscending (filter keep pool)
ascending_kept keep [] all = tt
ascending_kept keep (held ∷ pool) all = ascending_kept_at held (filter keep pool) (keep held) (later_kept held.id keep pool all.0) (ascending_kept keep pool all.1)

pub is_ascending_kept : (keep : Held → Bool) (pool : List Held) → IsAscending pool → IsAscending (filter keep pool)
is_ascending_kept keep pool h = record { ascending = ascending_kept keep pool h.ascending }

-- A TEST THAT HOLDS UP TO A PLACE

later_at : (id : ObjectId) (pool : List Held) → AllAfter id pool → (j : ℕ) (d : Held) → j < length pool → id_cmp id (get_or pool j d).id ≡ Less
later_at id [] all j d h = absurd (omega arith)
later_at id (held ∷ pool) all zero d h = all.0
later_at id (held ∷ pool) all (suc j) d h = later_at id pool all.1 j d (omega arith)

before_earlier : (id : ObjectId) (one other : Held) → id_cmp one.id other.id ≡ Less → is_before_id id other ≡ true → is_before_id id one ≡ true
before_earlier id one other h is = ap is_lt (before_all one.id other.id id h (lt_less _ is))

upto_at : (id : ObjectId) (one other : Held) (b : Bool) → is_lt (id_cmp id one.id) ≡ b → id_cmp one.id other.id ≡ Less → is_upto_id id other ≡ true → not b ≡ true
upto_at id one other true e h is =
    let less : is_lt (id_cmp id other.id) ≡ true = ap is_lt (before_all id one.id other.id (lt_less _ e) h) in
    sym (ap not less) ∙ is
upto_at id one other false e h is = refl

upto_earlier : (id : ObjectId) (one other : Held) → id_cmp one.id other.id ≡ Less → is_upto_id id other ≡ true → is_upto_id id one ≡ true
upto_earlier id one other h is = upto_at id one other (is_lt (id_cmp id one.id)) refl h is

parted : (test : Held → Bool) (pool : List Held) → ((one other : Held) → id_cmp one.id other.id ≡ Less → test other ≡ true → test one ≡ true) → AreAscending pool → IsPartitionedBy test pool
parted test [] earlier all i j d h k is = absurd (omega arith)
parted test (p ∷ ps) earlier all zero zero d h k is = is
parted test (p ∷ ps) earlier all zero (suc j) d h k is = earlier p (get_or ps j d) (later_at p.id ps all.0 j d (omega arith)) is
parted test (p ∷ ps) earlier all (suc i) zero d h k is = absurd (omega arith)
parted test (p ∷ ps) earlier all (suc i) (suc j) d h k is = parted test ps earlier all.1 i j d (omega arith) (omega arith) is

pub parted_before : (id : ObjectId) (pool : List Held) → IsAscending pool → IsPartitionedBy (is_before_id id) pool
parted_before id pool h = parted (is_before_id id) pool (before_earlier id) h.ascending

pub parted_upto : (id : ObjectId) (pool : List Held) → IsAscending pool → IsPartitionedBy (is_upto_id id) pool
parted_upto id pool h = parted (is_upto_id id) pool (upto_earlier id) h.ascending

inside : (test : Held → Bool) (p : Held) (ps : List Held) (at : ℕ) → IsIdPlace test (p ∷ ps) (suc at) → IsIdPlace test ps at
inside test p ps at h = record {
  within = omega (arith, h.within);
  below = λ k d low high. h.below (suc k) d (omega arith) (omega arith);
  above = λ k d low high. h.above (suc k) d (omega arith) (omega arith);
}

-- PAST AN ID

past_of : (b : Bool) → not b ≡ false → b ≡ true
past_of true h = refl
past_of false h = cc

upto_of : (b : Bool) → not b ≡ true → b ≡ false
upto_of true h = cc
upto_of false h = refl

all_past : (id : ObjectId) (p : Held) (ps : List Held) (b : Bool) → is_past_id (Some id) p ≡ b → b ≡ true → filter (is_past_id (Some id)) ps ≡ ps → filter (is_past_id (Some id)) (p ∷ ps) ≡ p ∷ ps
all_past id p ps b is h rest = rw (is ∙ h) (ap (first p) rest)

none_past : (id : ObjectId) (p : Held) (ps : List Held) → is_past_id (Some id) p ≡ false → filter (is_past_id (Some id)) (p ∷ ps) ≡ filter (is_past_id (Some id)) ps
none_past id p ps h = rw h refl

pub dropped_past : (id : ObjectId) (pool : List Held) (at : ℕ) → IsIdPlace (is_upto_id id) pool at → drop at pool ≡ filter (is_past_id (Some id)) pool
dropped_past id [] zero h = refl
dropped_past id [] (suc at) h = refl
dropped_past id (p ∷ ps) zero h =
    let rest : IsIdPlace (is_upto_id id) ps zero = record {
      within = omega arith;
      below = λ k d low high. absurd (omega arith);
      above = λ k d low high. h.above (suc k) d (omega arith) (omega arith);
    } in
    sym (all_past id p ps _ refl (past_of _ (h.above 0 p (omega arith) (omega arith))) (sym (dropped_past id ps zero rest)))
dropped_past id (p ∷ ps) (suc at) h =
    dropped_past id ps at (inside (is_upto_id id) p ps at h) ∙ sym (none_past id p ps (upto_of _ (h.below 0 p (omega arith) (omega arith))))

-- ONE ID'S PLACE

after_at : (id : ObjectId) (p : Held) (o : Ordering) → id_cmp id p.id ≡ o → is_before_id id p ≡ false → is_eq (id_cmp id p.id) ≡ false → o ≡ Less
after_at id p Less e h k = refl
after_at id p Equal e h k = clash (is_eq (id_cmp id p.id)) (ap is_eq e) k
after_at id p Greater e h k = clash (is_before_id id p) (ap is_lt (less_of_greater id p.id e)) h

after_place : (id : ObjectId) (p : Held) → is_before_id id p ≡ false → is_held_as id p ≡ false → id_cmp id p.id ≡ Less
after_place id p h k = after_at id p (id_cmp id p.id) refl h k

before_place : (id : ObjectId) (p : Held) → is_before_id id p ≡ true → id_cmp id p.id ≡ Greater
before_place id p h = greater_of_less p.id id (lt_less _ h)

eq_equal : (o : Ordering) → is_eq o ≡ true → o ≡ Equal
eq_equal Less h = cc
eq_equal Equal h = refl
eq_equal Greater h = cc

pub same_place : (id : ObjectId) (p : Held) → is_held_as id p ≡ true → id_cmp id p.id ≡ Equal
same_place id p h = eq_equal _ h

held_inside : (id : ObjectId) (p : Held) (ps : List Held) (at : ℕ) → IsIdHeldAt id (p ∷ ps) (suc at) → IsIdHeldAt id ps at
held_inside id p ps at h = record {
  place = inside (is_before_id id) p ps at h.place;
  within = omega (arith, h.within);
  same = λ d. h.same d;
}

missed_inside : (id : ObjectId) (p : Held) (ps : List Held) (at : ℕ) → IsIdMissedAt id (p ∷ ps) (suc at) → IsIdMissedAt id ps at
missed_inside id p ps at h = record {
  place = inside (is_before_id id) p ps at h.place;
  other = λ d k. h.other d (omega arith);
}

pub inserted_with : (held : Held) (pool : List Held) (at : ℕ) → IsIdMissedAt held.id pool at → insert pool at held ≡ with_held held pool
inserted_with held [] zero h = refl
inserted_with held [] (suc at) h = absurd (omega (arith, h.place.within))
inserted_with held (p ∷ ps) zero h =
    sym (with_less held p ps (after_place held.id p (h.place.above 0 p (omega arith) (omega arith)) (h.other p (omega arith))))
inserted_with held (p ∷ ps) (suc at) h =
    ap (first p) (inserted_with held ps at (missed_inside held.id p ps at h))
    ∙ sym (with_greater held p ps (before_place held.id p (h.place.below 0 p (omega arith) (omega arith))))

pub replaced_with : (held : Held) (pool : List Held) (at : ℕ) → IsIdHeldAt held.id pool at → slice_set pool at held ≡ with_held held pool
replaced_with held [] at h = absurd (omega (arith, h.within))
replaced_with held (p ∷ ps) zero h = sym (with_equal held p ps (same_place held.id p (h.same p)))
replaced_with held (p ∷ ps) (suc at) h =
    ap (first p) (replaced_with held ps at (held_inside held.id p ps at h))
    ∙ sym (with_greater held p ps (before_place held.id p (h.place.below 0 p (omega arith) (omega arith))))

-- AN ID OF THE SAME TEXT

tied_place : (a b : ObjectId) (pool : List Held) (at : ℕ) → id_cmp a b ≡ Equal → IsIdPlace (is_before_id a) pool at → IsIdPlace (is_before_id b) pool at
tied_place a b pool at tied h = record {
  within = h.within;
  below = λ k d low high. sym (ap is_lt (tied_right a b (get_or pool k d).id tied)) ∙ h.below k d low high;
  above = λ k d low high. sym (ap is_lt (tied_right a b (get_or pool k d).id tied)) ∙ h.above k d low high;
}

pub tied_held : (a b : ObjectId) (pool : List Held) (at : ℕ) → id_cmp a b ≡ Equal → IsIdHeldAt a pool at → IsIdHeldAt b pool at
tied_held a b pool at tied h = record {
  place = tied_place a b pool at tied h.place;
  within = h.within;
  same = λ d. sym (ap is_eq (tied_left a b (get_or pool at d).id tied)) ∙ h.same d;
}

-- WHAT IS HELD THERE

held_first : (id : ObjectId) (p : Held) (ps : List Held) → is_held_as id p ≡ true → held_at id (p ∷ ps) ≡ Some p
held_first id p ps h = rw h refl

held_more : (id : ObjectId) (p : Held) (ps : List Held) → is_held_as id p ≡ false → held_at id (p ∷ ps) ≡ held_at id ps
held_more id p ps h = rw h refl

pub held_there : (id : ObjectId) (pool : List Held) (at : ℕ) (d : Held) → IsIdHeldAt id pool at → held_at id pool ≡ Some (get_or pool at d)
held_there id [] at d h = absurd (omega (arith, h.within))
held_there id (p ∷ ps) zero d h = held_first id p ps (h.same p)
held_there id (p ∷ ps) (suc at) d h =
    held_more id p ps (ap is_eq (before_place id p (h.place.below 0 p (omega arith) (omega arith))))
    ∙ held_there id ps at d (held_inside id p ps at h)

none_later : (id : ObjectId) (pool : List Held) → AllAfter id pool → held_at id pool ≡ None
none_later id [] all = refl
none_later id (p ∷ ps) all = held_more id p ps (ap is_eq all.0) ∙ none_later id ps all.1

missed_at : (id : ObjectId) (pool : List Held) (at : ℕ) → AreAscending pool → IsIdMissedAt id pool at → held_at id pool ≡ None
missed_at id [] at ascending h = refl
missed_at id (p ∷ ps) zero ascending h =
    let less = after_place id p (h.place.above 0 p (omega arith) (omega arith)) (h.other p (omega arith)) in
    none_later id (p ∷ ps) (less, later_all id p.id ps less ascending.0)
missed_at id (p ∷ ps) (suc at) ascending h =
    held_more id p ps (ap is_eq (before_place id p (h.place.below 0 p (omega arith) (omega arith))))
    ∙ missed_at id ps at ascending.1 (missed_inside id p ps at h)

pub missed_there : (id : ObjectId) (pool : List Held) (at : ℕ) → IsAscending pool → IsIdMissedAt id pool at → held_at id pool ≡ None
missed_there id pool at h k = missed_at id pool at h.ascending k

-- AN OBJECT THAT WAS PUT

found_at : (id : ObjectId) (held p : Held) (ps : List Held) (o : Ordering) → id_cmp held.id p.id ≡ o → id_cmp id held.id ≡ Equal → held_at id (with_held held ps) ≡ Some held → held_at id (match_ordering o (held ∷ p ∷ ps) (held ∷ ps) (p ∷ with_held held ps)) ≡ Some held
found_at id held p ps Less e tied rest = held_first id held (p ∷ ps) (ap is_eq tied)
found_at id held p ps Equal e tied rest = held_first id held ps (ap is_eq tied)
found_at id held p ps Greater e tied rest = held_more id p (with_held held ps) (ap is_eq (tied_left id held.id p.id tied ∙ e)) ∙ rest

pub found_with : (id : ObjectId) (held : Held) (pool : List Held) → id_cmp id held.id ≡ Equal → held_at id (with_held held pool) ≡ Some held
found_with id held [] tied = held_first id held [] (ap is_eq tied)
found_with id held (p ∷ ps) tied = found_at id held p ps (id_cmp held.id p.id) refl tied (found_with id held ps tied)
