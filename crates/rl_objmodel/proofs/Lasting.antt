-- Operations that pass the rules may follow those of a log whose objects lasted, and leave objects that last.
use Rattle.std.proofs.Common.{◌≡◌, inl, inr, ℕ, suc, ◌+◌, ◌≤◌, Bool, true, false, cond, List, [], ◌∷◌, refl, sym, ◌∙◌, ap, subst, arith}
use Rattle.std.specs.Prelude.{◌⊎◌, Option, Some, None, is_some, option_map, ◌&&◌, ◌||◌, not, nat_lt, ◌==◌, find, ℤ, pos, ◌+ℤ◌, unsigned_abs}
use Rattle.std.specs.List.{list_any, AllByRecursion, cons_option}
use Rattle.std.specs.declared.cmp.Ordering.{Ordering}
use Rattle.std.specs.declared.cmp.Ordering.TheVariants.{Less, Equal, Greater}
use Rattle.std.specs.Ordering.{nat_cmp, is_lt, ordering_then}
use Rattle.std.specs.Cmp.Lexicographic.{slice_cmp}
use Rattle.std.proofs.lemmas.Bool.{leb-true, ltb-false, lt-ltb, le-ltb, eq-eqb}
use Rattle.std.proofs.lemmas.Int.{ints}
use Rattle.rl_numbers.specs.declared.codes.TheConstants.{WRONG_KIND, DUPLICATE_OBJECT, STALE_ID, RANGE}
use Rattle.rl_numbers.specs.declared.limits.TheConstants.{MAX_ID_SKEW, MAX_OBJECT_NUMBER, MAX_COUNTER_SUM, TOMBSTONE_GRACE}
use Rattle.rl_ids.specs.declared.objects.ObjectKind.{ObjectKind}
use Rattle.rl_ids.specs.declared.objects.ObjectKind.TheVariants as kinds
use Rattle.rl_ids.specs.declared.objects.ObjectId.{ObjectId}
use Rattle.rl_ids.specs.declared.objects.ObjectId.TheVariants.{Root, Made}
use Rattle.rl_ids.specs.declared.serials.OpSerial.{OpSerial}
use Rattle.rl_ids.specs.Objects.{kind_of, same_kind, is_below, serial_cmp}
use Rattle.rl_types.specs.declared.objects.Op.{Op}
use Rattle.rl_types.specs.declared.objects.Op.TheVariants.{MapCreate, MapSet, MapRemove, CounterCreate, CounterInc, Delete}
use Rattle.rl_types.specs.declared.objects.ObjectOp.{ObjectOp}
use Rattle.rl_types.specs.declared.objects.ObjectState.{ObjectState}
use Rattle.rl_objmodel.specs.Operations.{Stamped, id_in, id_of, names, own, creates, deletes, is_create, is_delete, is_root, suits, values_of}
use Rattle.rl_objmodel.specs.Held.{is_collected, shown}
use Rattle.rl_objmodel.specs.Objects.{kept_by, kept_object, kept_objects, tombstone, standing, serials, sum_of, body_of}
use Rattle.rl_objmodel.specs.Rules.{Setting, or_next, fails_if, length_rule, is_stale, create_rule, missing_rule, change_rule, target_rule, values_rule, range_rule, is_wide, sum_in, pool_rule, ops_rule, serial_at, entering, entering_rule}
use Rattle.rl_objmodel.specs.Steps.{is_past_range}
use Rattle.rl_objmodel.specs.Following.{Begins, Stands, Lives, SumFits, Follows, rules_before}
use Rattle.rl_objmodel.specs.Lasting.{AreLives, IsNear, IsInTime, Lasts, EntriesFollow, EntriesLast, LastingLonger}
use Rattle.rl_objmodel.proofs.CommutingOps.{serials_total}
use Rattle.rl_objmodel.proofs.FollowingPools.{id_is}
use Rattle.rl_objmodel.proofs.FollowingRules.{whole}

-- TESTS

first_none : (a b : Option ℕ) → or_next a b ≡ None → a ≡ None
first_none None b is = refl
first_none (Some code) b is = cc

next_none : (a b : Option ℕ) → or_next a b ≡ None → b ≡ None
next_none None b is = is
next_none (Some code) b is = cc

test_none : (code : ℕ) (b : Bool) → fails_if code b ≡ None → b ≡ false
test_none code false is = refl
test_none code true is = cc

or_left : (a b : Bool) → (a || b) ≡ false → a ≡ false
or_left false b is = refl
or_left true b is = cc

or_right : (a b : Bool) → (a || b) ≡ false → b ≡ false
or_right false b is = is
or_right true b is = cc

or_true_left : (a b : Bool) → a ≡ true → (a || b) ≡ true
or_true_left true b is = refl
or_true_left false b is = cc

or_true_right : (a b : Bool) → b ≡ true → (a || b) ≡ true
or_true_right true b is = refl
or_true_right false b is = is

not_false : (a : Bool) → not a ≡ false → a ≡ true
not_false true is = refl
not_false false is = cc

kinds_same : (a b : ObjectKind) → same_kind a b ≡ true → b ≡ a
kinds_same kinds.Map kinds.Map is = refl
kinds_same kinds.Counter kinds.Counter is = refl
kinds_same kinds.Map kinds.Counter is = cc
kinds_same kinds.Counter kinds.Map is = cc

-- WHAT IS FOUND

none_deletes : (xs : List Stamped) → find deletes xs ≡ None → list_any deletes xs ≡ false
none_deletes [] is = refl
none_deletes (x ∷ xs) is = by_test (deletes x) (none_deletes xs) is
  where
    by_test : (b : Bool) → (find deletes xs ≡ None → list_any deletes xs ≡ false) → cond b (Some x) (find deletes xs) ≡ None → (b || list_any deletes xs) ≡ false
    by_test true rest is = cc
    by_test false rest is = rest is

-- an object that was not made was never named
made_or_unnamed : (id : ObjectId) → is_root id ≡ false → (before : List Stamped) → AreLives before → (own id before ≡ []) ⊎ (list_any creates (own id before) ≡ true)
made_or_unnamed id other [] lives = inl refl
made_or_unnamed id other (one ∷ before) lives = by_test (names id one) refl (made_or_unnamed id other before lives.1)
  where
    stands_made : Stands id (own id before) → list_any creates (own id before) ≡ true
    stands_made stands = sym (ap (λ r. r || list_any creates (own id before)) other) ∙ stands.made

    by_op : (op : Op) → id_in op ≡ id → Lives op (own (id_in op) before) → (is_create op || list_any creates (own id before)) ≡ true
    by_op (MapCreate i entries) is lives = refl
    by_op (CounterCreate i count) is lives = refl
    by_op (MapSet i key value) is lives = stands_made (subst (λ j. Stands j (own j before)) is lives)
    by_op (MapRemove i key) is lives = stands_made (subst (λ j. Stands j (own j before)) is lives)
    by_op (CounterInc i amount) is lives = stands_made (subst (λ j. Stands j (own j before)) is lives)
    by_op (Delete i) is lives = stands_made (subst (λ j. Stands j (own j before)) is lives.1)

    by_test : (b : Bool) → names id one ≡ b → (own id before ≡ []) ⊎ (list_any creates (own id before) ≡ true)
        → (cond b (one ∷ own id before) (own id before) ≡ []) ⊎ (list_any creates (cond b (one ∷ own id before) (own id before)) ≡ true)
    by_test false is rest = rest
    by_test true is rest = inr (by_op one.op.op (sym (id_is id (id_of one) is)) lives.0)

-- MOMENTS

near_later : (id : ObjectId) (a b : ℕ) → a ≤ b → IsNear a id → IsNear b id
near_later Root a b order near = tt
near_later (Made kind hash millis) a b order near = omega (arith, order, near)

abbrev AreInTime : ℕ → List Stamped → Type 0
AreInTime now latest = AllByRecursion (IsInTime now) latest

-- the id of an object that was made is near the clock
made_near : (now : ℕ) (id : ObjectId) (before : List Stamped) → AreInTime now before → list_any creates (own id before) ≡ true → IsNear now id
made_near now id [] times is = cc
made_near now id (one ∷ before) times is = by_test (names id one) refl (made_near now id before times.1) is
  where
    by_create : (b : Bool) → creates one ≡ b → names id one ≡ true → (list_any creates (own id before) ≡ true → IsNear now id) → (b || list_any creates (own id before)) ≡ true → IsNear now id
    by_create true made named rest is =
        subst (IsNear now) (sym (id_is id (id_of one) named))
        (near_later (id_of one) one.stamp now times.0.past (times.0.near (or_true_left (creates one) (deletes one) made)))
    by_create false made named rest is = rest is

    by_test : (b : Bool) → names id one ≡ b → (list_any creates (own id before) ≡ true → IsNear now id) → list_any creates (cond b (one ∷ own id before) (own id before)) ≡ true → IsNear now id
    by_test true named rest is = by_create (creates one) refl named rest is
    by_test false named rest is = rest is

-- the id of a deleted object is near its deletion
deleted_near : (now : ℕ) (id : ObjectId) (before : List Stamped) → AreInTime now before → (gone : Stamped) → find deletes (own id before) ≡ Some gone → IsNear gone.stamp id
deleted_near now id [] times gone is = cc
deleted_near now id (one ∷ before) times gone is = by_test (names id one) refl (deleted_near now id before times.1 gone) is
  where
    by_delete : (b : Bool) → deletes one ≡ b → names id one ≡ true → (find deletes (own id before) ≡ Some gone → IsNear gone.stamp id) → cond b (Some one) (find deletes (own id before)) ≡ Some gone → IsNear gone.stamp id
    by_delete true made named rest is =
        let same : one ≡ gone = cc in
        subst (λ (g : Stamped). IsNear g.stamp id) same
        (subst (IsNear one.stamp) (sym (id_is id (id_of one) named)) (times.0.near (or_true_right (creates one) (deletes one) made)))
    by_delete false made named rest is = rest is

    by_test : (b : Bool) → names id one ≡ b → (find deletes (own id before) ≡ Some gone → IsNear gone.stamp id) → find deletes (cond b (one ∷ own id before) (own id before)) ≡ Some gone → IsNear gone.stamp id
    by_test true named rest is = by_delete (deletes one) refl named rest is
    by_test false named rest is = rest is

-- THE TARGET

-- the object that a change finds stands
there_stands : (ticked : ℕ) (id : ObjectId) (before : List Stamped) → missing_rule (kept_object ticked before id) ≡ None → Stands id (own id before)
there_stands ticked id before is = by_found (find deletes (own id before)) refl is
  where
    by_made : (b : Bool) → (is_root id || list_any creates (own id before)) ≡ b → list_any deletes (own id before) ≡ false
        → missing_rule (option_map shown (cond b (Some (standing ticked id (own id before))) None)) ≡ None → Stands id (own id before)
    by_made true made lasts is = record { made = made; lasts = lasts }
    by_made false made lasts is = cc

    by_collected : (gone : Stamped) (b : Bool) → missing_rule (option_map shown (cond b None (Some (tombstone id (own id before) gone.stamp)))) ≡ None → Stands id (own id before)
    by_collected gone true is = cc
    by_collected gone false is = cc

    by_found : (f : Option Stamped) → find deletes (own id before) ≡ f → missing_rule (option_map shown (kept_by ticked id (own id before) f)) ≡ None → Stands id (own id before)
    by_found None none is = by_made (is_root id || list_any creates (own id before)) refl (none_deletes (own id before) none) is
    by_found (Some gone) some is = by_collected gone (not (is_root id) && is_collected ticked gone.stamp) is

-- the grace of a tombstone is more than twice what an id's moment may be off
too_late : (ticked now stamp : ℕ) (id : ObjectId) → is_root id ≡ false → ticked ≤ now → is_collected ticked stamp ≡ true → IsNear stamp id → is_stale now id ≡ false → ⊥
too_late ticked now stamp Root other order collected near fresh = cc
too_late ticked now stamp (Made kind hash millis) other order collected near fresh =
    let day = leb-true (stamp + TOMBSTONE_GRACE) ticked collected in
    let close = ltb-false (millis + MAX_ID_SKEW) now (or_right (nat_lt (now + MAX_ID_SKEW) millis) (nat_lt (millis + MAX_ID_SKEW) now) fresh) in
    omega (arith, order, day, near, close)

-- the object that is made was never named
new_unnamed : (ticked now : ℕ) (id : ObjectId) (before : List Stamped) → ticked ≤ now → is_root id ≡ false → AreLives before → AreInTime now before
    → is_some (kept_object ticked before id) ≡ false → is_stale now id ≡ false → own id before ≡ []
new_unnamed ticked now id before order other lives times absent fresh = by_found (find deletes (own id before)) refl absent
  where
    by_made : (own id before ≡ []) ⊎ (list_any creates (own id before) ≡ true)
        → is_some (option_map shown (cond (is_root id || list_any creates (own id before)) (Some (standing ticked id (own id before))) None)) ≡ false → own id before ≡ []
    by_made (inl none) absent = none
    by_made (inr made) absent =
        let there : is_some (option_map shown (cond (is_root id || list_any creates (own id before)) (Some (standing ticked id (own id before))) None)) ≡ true =
        ap (λ b. is_some (option_map shown (cond b (Some (standing ticked id (own id before))) None))) (or_true_right (is_root id) (list_any creates (own id before)) made) in
        cc

    by_collected : (gone : Stamped) → find deletes (own id before) ≡ Some gone → (b : Bool) → is_collected ticked gone.stamp ≡ b
        → is_some (option_map shown (cond b None (Some (tombstone id (own id before) gone.stamp)))) ≡ false → own id before ≡ []
    by_collected gone some true collected absent =
        absurd (too_late ticked now gone.stamp id other order collected (deleted_near now id before times gone some) fresh)
    by_collected gone some false collected absent = cc

    by_found : (f : Option Stamped) → find deletes (own id before) ≡ f → is_some (option_map shown (kept_by ticked id (own id before) f)) ≡ false → own id before ≡ []
    by_found None none absent = by_made (made_or_unnamed id other before lives) absent
    by_found (Some gone) some absent =
        by_collected gone some (is_collected ticked gone.stamp) refl
        (sym (ap (λ (r : Bool). is_some (option_map shown (cond (not r && is_collected ticked gone.stamp) None (Some (tombstone id (own id before) gone.stamp))))) other) ∙ absent)

-- what passes the rules on its target is for the object's kind, makes it or finds it there, and is near its id's moment
-- where it makes or deletes it
record Fine (now : ℕ) (op : Op) (before : List Stamped) : Type 0 where
  pub kind : suits (kind_of (id_in op)) op ≡ true
  pub lives : Lives op (own (id_in op) before)
  pub near : (is_create op || is_delete op) ≡ true → IsNear now (id_in op)

fresh_near : (now : ℕ) (id : ObjectId) → is_stale now id ≡ false → IsNear now id
fresh_near now Root fresh = tt
fresh_near now (Made kind hash millis) fresh =
    let close = ltb-false (now + MAX_ID_SKEW) millis (or_left (nat_lt (now + MAX_ID_SKEW) millis) (nat_lt (millis + MAX_ID_SKEW) now) fresh) in
    omega (arith, close)

record Beginning (now : ℕ) (of_kind : ObjectKind) (id : ObjectId) (before : List Stamped) : Type 0 where
  pub kind : kind_of id ≡ of_kind
  pub begins : Begins id (own id before)
  pub near : IsNear now id

create_fine : (ticked now : ℕ) (kind : ObjectKind) (id : ObjectId) (before : List Stamped) → ticked ≤ now → AreLives before → AreInTime now before
    → create_rule now kind id (kept_object ticked before id) ≡ None → Beginning now kind id before
create_fine ticked now kind id before order lives times passes =
    let found = kept_object ticked before id in
    let wrong = fails_if WRONG_KIND (is_root id || not (same_kind kind (kind_of id))) in
    let twice = fails_if DUPLICATE_OBJECT (is_some found) in
    let old = fails_if STALE_ID (is_stale now id) in
    let first = test_none WRONG_KIND (is_root id || not (same_kind kind (kind_of id))) (first_none wrong (or_next twice old) passes) in
    let rest = next_none wrong (or_next twice old) passes in
    let absent = test_none DUPLICATE_OBJECT (is_some found) (first_none twice old rest) in
    let fresh = test_none STALE_ID (is_stale now id) (next_none twice old rest) in
    let other = or_left (is_root id) (not (same_kind kind (kind_of id))) first in
    record {
      kind = kinds_same kind (kind_of id) (not_false (same_kind kind (kind_of id)) (or_right (is_root id) (not (same_kind kind (kind_of id))) first));
      begins = record { other = other; first = new_unnamed ticked now id before order other lives times absent fresh };
      near = fresh_near now id fresh;
    }

record Changed (of_kind : ObjectKind) (id : ObjectId) (before : List Stamped) : Type 0 where
  pub kind : kind_of id ≡ of_kind
  pub stands : Stands id (own id before)

change_fine : (ticked : ℕ) (kind : ObjectKind) (id : ObjectId) (before : List Stamped) → change_rule kind id (kept_object ticked before id) ≡ None → Changed kind id before
change_fine ticked kind id before passes =
    let found = kept_object ticked before id in
    let wrong = fails_if WRONG_KIND (not (same_kind kind (kind_of id))) in
    record {
      kind = kinds_same kind (kind_of id) (not_false (same_kind kind (kind_of id)) (test_none WRONG_KIND (not (same_kind kind (kind_of id))) (next_none (missing_rule found) wrong passes)));
      stands = there_stands ticked id before (first_none (missing_rule found) wrong passes);
    }

any_suits : (kind : ObjectKind) (id : ObjectId) → suits kind (Delete id) ≡ true
any_suits kinds.Map id = refl
any_suits kinds.Counter id = refl

fine : (ticked now : ℕ) (op : Op) (before : List Stamped) → ticked ≤ now → AreLives before → AreInTime now before
    → target_rule now (kept_object ticked before) op ≡ None → Fine now op before
fine ticked now (MapCreate id entries) before order lives times passes =
    let made = create_fine ticked now kinds.Map id before order lives times passes in
    record { kind = ap (λ k. suits k (MapCreate id entries)) made.kind; lives = made.begins; near = λ is. made.near }
fine ticked now (CounterCreate id count) before order lives times passes =
    let made = create_fine ticked now kinds.Counter id before order lives times passes in
    record { kind = ap (λ k. suits k (CounterCreate id count)) made.kind; lives = made.begins; near = λ is. made.near }
fine ticked now (MapSet id key value) before order lives times passes =
    let changed = change_fine ticked kinds.Map id before passes in
    record { kind = ap (λ k. suits k (MapSet id key value)) changed.kind; lives = changed.stands; near = λ is. cc }
fine ticked now (MapRemove id key) before order lives times passes =
    let changed = change_fine ticked kinds.Map id before passes in
    record { kind = ap (λ k. suits k (MapRemove id key)) changed.kind; lives = changed.stands; near = λ is. cc }
fine ticked now (CounterInc id amount) before order lives times passes =
    let changed = change_fine ticked kinds.Counter id before passes in
    record { kind = ap (λ k. suits k (CounterInc id amount)) changed.kind; lives = changed.stands; near = λ is. cc }
fine ticked now (Delete id) before order lives times passes =
    let found = kept_object ticked before id in
    let other = test_none WRONG_KIND (is_root id) (next_none (missing_rule found) (fails_if WRONG_KIND (is_root id)) passes) in
    let stands = there_stands ticked id before (first_none (missing_rule found) (fails_if WRONG_KIND (is_root id)) passes) in
    let made : list_any creates (own id before) ≡ true = sym (ap (λ r. r || list_any creates (own id before)) other) ∙ stands.made in
    record { kind = any_suits (kind_of id) id; lives = (other, stands); near = λ is. made_near now id before times made }

-- SUMS

narrow : (sum : ℤ) → is_wide sum ≡ false → is_past_range sum ≡ false
narrow sum is =
    let close = ltb-false MAX_OBJECT_NUMBER (unsigned_abs sum) is in
    le-ltb (unsigned_abs MAX_COUNTER_SUM) (unsigned_abs sum) (omega (arith, close))

from_zero : (n : ℤ) → pos 0 +ℤ n ≡ n
from_zero n = omega (arith, ints)

-- the sum that a rule reads is that of the object's operations
sum_found : (ticked : ℕ) (id : ObjectId) (before : List Stamped) → kind_of id ≡ kinds.Counter → Stands id (own id before) → sum_in (kept_object ticked before id) ≡ sum_of (own id before)
sum_found ticked id before counter stands = by_found (find deletes (own id before)) refl
  where
    lasting : (xs : List Stamped) (gone : Stamped) → find deletes xs ≡ Some gone → list_any deletes xs ≡ false → ⊥
    lasting [] gone is none = cc
    lasting (x ∷ xs) gone is none = by_test (deletes x) is none (lasting xs gone)
      where
        by_test : (b : Bool) → cond b (Some x) (find deletes xs) ≡ Some gone → (b || list_any deletes xs) ≡ false → (find deletes xs ≡ Some gone → list_any deletes xs ≡ false → ⊥) → ⊥
        by_test true is none rest = cc
        by_test false is none rest = rest is none

    by_found : (f : Option Stamped) → find deletes (own id before) ≡ f → sum_in (option_map shown (kept_by ticked id (own id before) f)) ≡ sum_of (own id before)
    by_found None none =
        ap (λ b. sum_in (option_map shown (cond b (Some (standing ticked id (own id before))) None))) stands.made
        ∙ ap (λ k. sum_in (Some (shown (record (standing ticked id (own id before)) { body = body_of ticked k (own id before) })))) counter
    by_found (Some gone) some = absurd (lasting (own id before) gone some stands.lasts)

fits : (ticked now : ℕ) (op : Op) (before : List Stamped) → Fine now op before → range_rule (kept_object ticked before) op ≡ None → SumFits op (own (id_in op) before)
fits ticked now (MapCreate id entries) before fine passes = tt
fits ticked now (MapSet id key value) before fine passes = tt
fits ticked now (MapRemove id key) before fine passes = tt
fits ticked now (Delete id) before fine passes = tt
fits ticked now (CounterCreate id count) before fine passes =
    narrow (pos 0 +ℤ count) (ap is_wide (from_zero count) ∙ test_none RANGE (is_wide count) passes)
fits ticked now (CounterInc id amount) before fine passes =
    let wide = test_none RANGE (is_wide amount || is_wide (sum_in (kept_object ticked before id) +ℤ amount)) passes in
    let sum = or_right (is_wide amount) (is_wide (sum_in (kept_object ticked before id) +ℤ amount)) wide in
    narrow (sum_of (own id before) +ℤ amount) (ap (λ s. is_wide (s +ℤ amount)) (sym (sum_found ticked id before (counter id amount fine.kind) fine.lives)) ∙ sum)
  where
    counter : (id : ObjectId) (amount : ℤ) → suits (kind_of id) (CounterInc id amount) ≡ true → kind_of id ≡ kinds.Counter
    counter id amount is = by_kind (kind_of id) is
      where
        by_kind : (k : ObjectKind) → suits k (CounterInc id amount) ≡ true → k ≡ kinds.Counter
        by_kind kinds.Counter is = refl
        by_kind kinds.Map is = cc

-- SERIALS

abbrev AreEarlier : OpSerial → List OpSerial → Type 0
AreEarlier serial earlier = AllByRecursion (λ (t : OpSerial). is_below t serial ≡ true) earlier

less_is : (o : Ordering) → is_lt o ≡ true → o ≡ Less
less_is Less is = refl
less_is Equal is = cc
less_is Greater is = cc

below_more : (a b c : OpSerial) → is_below a b ≡ true → is_below b c ≡ true → is_below a c ≡ true
below_more a b c low high = ap is_lt (serials_total.trans a b c (less_is (serial_cmp a b) low) (less_is (serial_cmp b c) high))

earlier_more : (serial next : OpSerial) (ss : List OpSerial) → is_below serial next ≡ true → AreEarlier serial ss → AreEarlier next ss
earlier_more serial next [] low all = tt
earlier_more serial next (s ∷ ss) low all = (below_more s serial next all.0 low, earlier_more serial next ss low all.1)

nat_less : (m n : ℕ) → m ≤ n → nat_cmp m (suc n) ≡ Less
nat_less m n low = ap (λ b. cond b Less (cond (m == suc n) Equal Greater)) (lt-ltb m (suc n) (omega (arith, low)))

nat_same : (n : ℕ) → nat_cmp n n ≡ Equal
nat_same n = ap (λ b. cond b Less (cond (n == n) Equal Greater)) (le-ltb n n (omega arith)) ∙ ap (λ b. cond b Equal Greater) (eq-eqb n n refl)

next_index : (site : List ℕ) (place index : ℕ) → is_below (serial_at site place index) (serial_at site place (suc index)) ≡ true
next_index site place index =
    ap (λ o. is_lt (ordering_then o (ordering_then (nat_cmp index (suc index)) (slice_cmp nat_cmp site site)))) (nat_same place)
    ∙ ap (λ o. is_lt (ordering_then o (slice_cmp nat_cmp site site))) (nat_less index index (omega arith))

next_place : (site : List ℕ) (place index : ℕ) → is_below (serial_at site place index) (serial_at site (suc place) 0) ≡ true
next_place site place index =
    ap (λ o. is_lt (ordering_then o (ordering_then (nat_cmp index 0) (slice_cmp nat_cmp site site)))) (nat_less place place (omega arith))

-- the serials of some operations are among those of all
own_earlier : (serial : OpSerial) (id : ObjectId) (latest : List Stamped) → AreEarlier serial (serials latest) → AreEarlier serial (serials (own id latest))
own_earlier serial id [] all = tt
own_earlier serial id (one ∷ latest) all = by_test (names id one) (own_earlier serial id latest (rest one.op.serial all)) (head one.op.serial all)
  where
    rest : (s : Option OpSerial) → AreEarlier serial (cons_option s (serials latest)) → AreEarlier serial (serials latest)
    rest None all = all
    rest (Some s) all = all.1

    head : (s : Option OpSerial) → AreEarlier serial (cons_option s (serials latest)) → (ss : List OpSerial) → AreEarlier serial ss → AreEarlier serial (cons_option s ss)
    head None all ss more = more
    head (Some s) all ss more = (all.0, more)

    by_test : (b : Bool) → AreEarlier serial (serials (own id latest)) → ((ss : List OpSerial) → AreEarlier serial ss → AreEarlier serial (cons_option one.op.serial ss)) → AreEarlier serial (serials (cond b (one ∷ own id latest) (own id latest)))
    by_test true all more = more (serials (own id latest)) all
    by_test false all more = all

-- ONE OPERATION

not_collected : (ticked now : ℕ) → ticked ≤ now → is_collected ticked now ≡ false
not_collected ticked now order = by_test (is_collected ticked now) refl
  where
    by_test : (b : Bool) → is_collected ticked now ≡ b → b ≡ false
    by_test false is = refl
    by_test true is = let day = leb-true (now + TOMBSTONE_GRACE) ticked is in absurd (omega (arith, order, day))

module _ (setting : Setting) (place index : ℕ) (op : ObjectOp) (latest : List Stamped) (order : setting.ticked ≤ setting.now) (lasts : Lasts setting.now (serial_at setting.site place index) latest) where
  abbrev found : ObjectId → Option ObjectState
  found = kept_object setting.ticked latest

  op_fine : rules_before setting.now (kept_object setting.ticked latest) op.op ≡ None → Fine setting.now op.op latest
  op_fine passes =
      let rest = or_next (values_rule (kept_object setting.ticked latest) (values_of op.op)) (range_rule (kept_object setting.ticked latest) op.op) in
      fine setting.ticked setting.now op.op latest order lasts.lives lasts.times
      (first_none (target_rule setting.now (kept_object setting.ticked latest) op.op) rest
      (next_none (length_rule op.op) (or_next (target_rule setting.now (kept_object setting.ticked latest) op.op) rest) passes))

  op_range : rules_before setting.now (kept_object setting.ticked latest) op.op ≡ None → range_rule (kept_object setting.ticked latest) op.op ≡ None
  op_range passes =
      let values = values_rule (kept_object setting.ticked latest) (values_of op.op) in
      let range = range_rule (kept_object setting.ticked latest) op.op in
      let target = target_rule setting.now (kept_object setting.ticked latest) op.op in
      next_none values range (next_none target (or_next values range) (next_none (length_rule op.op) (or_next target (or_next values range)) passes))

  op_follows : rules_before setting.now (kept_object setting.ticked latest) op.op ≡ None → Follows setting.ticked (serial_at setting.site place index) op.op setting.now (own (id_in op.op) latest)
  op_follows passes =
      let well = op_fine passes in
      record {
        kind = well.kind;
        above = own_earlier (serial_at setting.site place index) (id_in op.op) latest lasts.below;
        recent = not_collected setting.ticked setting.now order;
        lives = well.lives;
        fits = fits setting.ticked setting.now op.op latest well (op_range passes);
      }

  op_lasts : rules_before setting.now (kept_object setting.ticked latest) op.op ≡ None → Lasts setting.now (serial_at setting.site place (suc index)) (entering setting place index op ∷ latest)
  op_lasts passes =
      let well = op_fine passes in
      record {
        lives = (well.lives, lasts.lives);
        times = (record { past = omega arith; near = well.near }, lasts.times);
        below = (next_index setting.site place index, earlier_more (serial_at setting.site place index) (serial_at setting.site place (suc index)) (serials latest) (next_index setting.site place index) lasts.below);
      }

  before_passes : entering_rule setting place index latest op ≡ None → rules_before setting.now (kept_object setting.ticked latest) op.op ≡ None
  before_passes passes =
      let more = entering setting place index op ∷ latest in
      let target = kept_object setting.ticked more (id_in op.op) in
      let after = kept_objects setting.ticked more in
      first_none (rules_before setting.now (kept_object setting.ticked latest) op.op) (pool_rule target after) (sym (whole setting.now (kept_object setting.ticked latest) target after op.op) ∙ passes)

-- THE OPERATIONS OF AN ENTRY

pub entries_follow : EntriesFollow
entries_follow setting place index latest [] order lasts = tt
entries_follow setting place index latest (op ∷ ops) order lasts = (
  op_follows setting place index op latest order lasts,
  λ passes. entries_follow setting place (suc index) (entering setting place index op ∷ latest) ops order (op_lasts setting place index op latest order lasts (before_passes setting place index op latest order lasts passes)),
)

pub entries_last : EntriesLast
entries_last setting place index latest [] order lasts passes =
    record {
      lives = lasts.lives;
      times = lasts.times;
      below = earlier_more (serial_at setting.site place index) (serial_at setting.site (suc place) 0) (serials latest) (next_place setting.site place index) lasts.below;
    }
entries_last setting place index latest (op ∷ ops) order lasts passes =
    let own_rule = entering_rule setting place index latest op in
    let rest = ops_rule setting place (suc index) (entering setting place index op ∷ latest) ops in
    entries_last setting place (suc index) (entering setting place index op ∷ latest) ops order
    (op_lasts setting place index op latest order lasts (before_passes setting place index op latest order lasts (first_none own_rule rest passes)))
    (next_none own_rule rest passes)

-- THE CLOCK

times_later : (now later : ℕ) → now ≤ later → (latest : List Stamped) → AreInTime now latest → AreInTime later latest
times_later now later order [] times = tt
times_later now later order (one ∷ latest) times =
    (record { past = let e = times.0.past in omega (arith, order, e); near = times.0.near }, times_later now later order latest times.1)

pub lasting_longer : LastingLonger
lasting_longer now later serial latest order lasts = record { lives = lasts.lives; times = times_later now later order latest lasts.times; below = lasts.below }

-- an entry without operations
pub below_place : (now : ℕ) (site : List ℕ) (place : ℕ) (latest : List Stamped) → Lasts now (serial_at site place 0) latest → Lasts now (serial_at site (suc place) 0) latest
below_place now site place latest lasts =
    record { lives = lasts.lives; times = lasts.times; below = earlier_more (serial_at site place 0) (serial_at site (suc place) 0) (serials latest) (next_place site place 0) lasts.below }
