-- What one more operation makes of all that is kept.
use Rattle.std.proofs.Common.{◌≡◌, inl, inr, ℕ, Bool, true, false, cond, List, [], ◌∷◌, refl, ap, sym, subst, ◌∙◌, arith}
use Rattle.std.specs.Prelude.{◌⊎◌, filter_map, find, ◌&&◌, ◌||◌, ◌==◌, not, bytes_eq, unwrap_or, Option, Some, None}
use Rattle.std.specs.List.{list_any, AllByRecursion, cons_option}
use Rattle.std.proofs.lemmas.Bool.{eq-eqb}
use Rattle.std.specs.declared.cmp.Ordering.{Ordering}
use Rattle.std.specs.declared.cmp.Ordering.TheVariants.{Less, Equal, Greater}
use Rattle.std.specs.Ordering.{match_ordering, is_eq}
use Rattle.std.specs.Cmp.{IsTotalOrder}
use Rattle.std.proofs.lemmas.Cmp.{nat_list_cmp_total, on_total, tied_itself}
use Rattle.std.proofs.lemmas.Bool.Decides.{nat_tests}
use Rattle.rl_ids.specs.declared.objects.ObjectKind.{ObjectKind}
use Rattle.rl_ids.specs.declared.objects.ObjectKind.TheVariants as kinds
use Rattle.rl_ids.specs.declared.objects.ObjectId.{ObjectId}
use Rattle.rl_ids.specs.declared.objects.ObjectId.TheVariants.{Root, Made}
use Rattle.rl_ids.specs.declared.serials.OpSerial.{OpSerial}
use Rattle.rl_ids.specs.Objects.{object_id_text, id_cmp, same_id, same_kind, IsIdInRange}
use Rattle.rl_ids.proofs.ObjectTexts.{object_id_texts_differ}
use Rattle.rl_types.specs.declared.objects.Op.{Op}
use Rattle.rl_types.specs.declared.objects.Op.TheVariants.{MapCreate, MapSet, MapRemove, CounterCreate, CounterInc, Delete}
use Rattle.rl_objmodel.specs.declared.plain.Applied.{Applied}
use Rattle.rl_objmodel.specs.Operations.{Stamped, id_in, id_of, own, creates, deletes, is_root}
use Rattle.rl_objmodel.specs.Held.{is_collected, Held}
use Rattle.rl_objmodel.specs.Objects.{with_id, ids_in, standing, tombstone, kept_by, kept, all_kept}
use Rattle.rl_objmodel.specs.Steps.{outcome, held_with, new_held, held_at, target, with_held, pool_if, pool_with}
use Rattle.rl_objmodel.specs.Following.{OneMore}
use Rattle.rl_objmodel.proofs.PlacesHeld.{texts_same, texts_itself, equal_same}
use Rattle.rl_objmodel.proofs.Entering.{put_key, put, KeysRise, rise_with, TiedIn, entered}
use Rattle.rl_objmodel.proofs.FollowingObjects.{one_with, target_of, object_step}

-- IDS

both_true : (a b : Bool) → (a && b) ≡ true → (a ≡ true) × (b ≡ true)
both_true true b h = (refl, h)
both_true false b h = cc

kind_self : (kind : ObjectKind) → same_kind kind kind ≡ true
kind_self kinds.Map = refl
kind_self kinds.Counter = refl

kind_is : (a b : ObjectKind) → same_kind a b ≡ true → a ≡ b
kind_is kinds.Map kinds.Map h = refl
kind_is kinds.Map kinds.Counter h = cc
kind_is kinds.Counter kinds.Map h = cc
kind_is kinds.Counter kinds.Counter h = refl

all_true : (a b c : Bool) → a ≡ true → b ≡ true → c ≡ true → (a && (b && c)) ≡ true
all_true a b c h k l = cc

number_is : (a b : ℕ) → (a == b) ≡ true → a ≡ b
number_is a b h = grind (arith, nat_tests)

self_id : (id : ObjectId) → same_id id id ≡ true
self_id Root = refl
self_id (Made kind hash millis) = all_true (same_kind kind kind) (bytes_eq hash hash) (millis == millis) (kind_self kind) (texts_itself hash) (eq-eqb millis millis refl)

abbrev made : ObjectKind → List ℕ → ℕ → ObjectId
made kind hash millis = Made kind hash millis

pub id_is : (a b : ObjectId) → same_id a b ≡ true → a ≡ b
id_is Root Root h = refl
id_is Root (Made kind hash millis) h = cc
id_is (Made kind hash millis) Root h = cc
id_is (Made kind hash millis) (Made kind2 hash2 millis2) h =
    let first = both_true (same_kind kind kind2) (bytes_eq hash hash2 && millis == millis2) h in
    let rest = both_true (bytes_eq hash hash2) (millis == millis2) first.1 in
    ap (λ (k : ObjectKind). made k hash millis) (kind_is kind kind2 first.0)
    ∙ ap (λ (t : List ℕ). made kind2 t millis) (texts_same hash hash2 rest.0)
    ∙ ap (made kind2 hash2) (number_is millis millis2 rest.1)

pub ids_total : IsTotalOrder id_cmp
ids_total = on_total object_id_text nat_list_cmp_total

equal_id : (a b : ObjectId) → IsIdInRange a → IsIdInRange b → id_cmp a b ≡ Equal → a ≡ b
equal_id a b h k e = object_id_texts_differ a b h k (equal_same (object_id_text a) (object_id_text b) e)

eq_equal : (o : Ordering) → is_eq o ≡ true → o ≡ Equal
eq_equal Less h = cc
eq_equal Equal h = refl
eq_equal Greater h = cc

-- the id of an object
abbrev id_at : Held → ObjectId
id_at held = held.id

abbrev keyed : ObjectId → List ObjectId → List ObjectId
keyed id ids = put_key {T = Held} id_cmp ids_total (λ held. held.id) id ids

abbrev Rise : List ObjectId → Type 0
Rise ids = KeysRise {T = Held} id_cmp ids_total (λ held. held.id) ids

with_is : (id : ObjectId) (ids : List ObjectId) → with_id id ids ≡ put_key {T = Held} id_cmp ids_total (λ held. held.id) id ids
with_is id [] = refl
with_is id (other ∷ ids) = ap (λ more. match_ordering (id_cmp id other) (id ∷ other ∷ ids) (other ∷ ids) (other ∷ more)) (with_is id ids)

held_is : (held : Held) (pool : List Held) → with_held held pool ≡ put id_cmp ids_total (λ (one : Held). one.id) held pool
held_is held [] = refl
held_is held (other ∷ pool) = ap (λ more. match_ordering (id_cmp held.id other.id) (held ∷ other ∷ pool) (held ∷ pool) (other ∷ more)) (held_is held pool)

pub ids_rise : (latest : List Stamped) → KeysRise {T = Held} id_cmp ids_total (λ held. held.id) (ids_in latest)
ids_rise [] = (tt, tt)
ids_rise (x ∷ latest) = subst (λ ids. KeysRise {T = Held} id_cmp ids_total (λ held. held.id) ids) (sym (with_is (id_of x) (ids_in latest))) (rise_with {T = Held} id_cmp ids_total (λ held. held.id) (id_of x) (ids_in latest) (ids_rise latest))

-- RANGES

abbrev AllIn : List ObjectId → Type 0
AllIn ids = AllByRecursion IsIdInRange ids

in_with_at : (id other : ObjectId) (ids : List ObjectId) (o : Ordering) → IsIdInRange id → AllIn (other ∷ ids) → AllIn (with_id id ids) → AllIn (match_ordering o (id ∷ other ∷ ids) (other ∷ ids) (other ∷ with_id id ids))
in_with_at id other ids Less h all rest = (h, all)
in_with_at id other ids Equal h all rest = all
in_with_at id other ids Greater h all rest = (all.0, rest)

in_with : (id : ObjectId) (ids : List ObjectId) → IsIdInRange id → AllIn ids → AllIn (with_id id ids)
in_with id [] h all = (h, tt)
in_with id (other ∷ ids) h all = in_with_at id other ids (id_cmp id other) h all (in_with id ids h all.1)

pub ids_fit : (latest : List Stamped) → AllByRecursion (λ (one : Stamped). IsIdInRange (id_of one)) latest → AllIn (ids_in latest)
ids_fit [] h = (tt, tt)
ids_fit (x ∷ latest) h = in_with (id_of x) (ids_in latest) h.0 (ids_fit latest h.1)

-- WHAT IS KEPT OF AN ID

some_is : (x y : Held) → Some x ≡ Some y → x ≡ y
some_is x y h = cc

kept_id : (ticked : ℕ) (id : ObjectId) (before : List Stamped) (delete : Option Stamped) (held : Held) → kept_by ticked id before delete ≡ Some held → id ≡ held.id
kept_id ticked id before None held h = by (is_root id || list_any creates before) h
  where
    by : (b : Bool) → cond b (Some (standing ticked id before)) None ≡ Some held → id ≡ held.id
    by true e = ap (λ (one : Held). one.id) (some_is (standing ticked id before) held e)
    by false e = cc
kept_id ticked id before (Some delete) held h = by (not (is_root id) && is_collected ticked delete.stamp) h
  where
    by : (b : Bool) → cond b None (Some (tombstone id before delete.stamp)) ≡ Some held → id ≡ held.id
    by true e = cc
    by false e = ap (λ (one : Held). one.id) (some_is (tombstone id before delete.stamp) held e)

pub kept_named : (ticked : ℕ) (latest : List Stamped) (id : ObjectId) (held : Held) → kept ticked latest id ≡ Some held → id ≡ held.id
kept_named ticked latest id held h = kept_id ticked id (own id latest) (find deletes (own id latest)) held h

abbrev kept_of : ℕ → ObjectId → List Stamped → Option Held
kept_of ticked id before = kept_by ticked id before (find deletes before)

kept_here : (ticked : ℕ) (one : Stamped) (latest : List Stamped) → kept ticked (one ∷ latest) (id_of one) ≡ kept_of ticked (id_of one) (one ∷ own (id_of one) latest)
kept_here ticked one latest = ap (λ (b : Bool). kept_of ticked (id_of one) (cond b (one ∷ own (id_of one) latest) (own (id_of one) latest))) (self_id (id_of one))

not_same : (id other : ObjectId) (b : Bool) → same_id other id ≡ b → is_eq (id_cmp id other) ≡ false → b ≡ false
not_same id other true e h = cc (sym h ∙ ap (λ (i : ObjectId). is_eq (id_cmp id i)) (id_is other id e) ∙ ap is_eq (tied_itself ids_total id))
not_same id other false e h = refl

kept_elsewhere : (ticked : ℕ) (one : Stamped) (latest : List Stamped) (other : ObjectId) → is_eq (id_cmp (id_of one) other) ≡ false → kept ticked (one ∷ latest) other ≡ kept ticked latest other
kept_elsewhere ticked one latest other h =
    ap (λ (b : Bool). kept_of ticked other (cond b (one ∷ own other latest) (own other latest))) (not_same (id_of one) other (same_id other (id_of one)) refl h)

-- LOOKING IT UP

abbrev is_it : ObjectId → ObjectId → Bool
is_it id other = is_eq (id_cmp id other)

or_right : (a b : Bool) → b ≡ true → (a || b) ≡ true
or_right true b h = refl
or_right false b h = h

or_left : (a b : Bool) → a ≡ true → (a || b) ≡ true
or_left true b h = refl
or_left false b h = cc

new_at : (id other : ObjectId) (ids : List ObjectId) (o : Ordering) → id_cmp id other ≡ o → list_any (is_it id) (with_id id ids) ≡ true → list_any (is_it id) (match_ordering o (id ∷ other ∷ ids) (other ∷ ids) (other ∷ with_id id ids)) ≡ true
new_at id other ids Less e rest = or_left (is_it id id) (is_it id other || list_any (is_it id) ids) (ap is_eq (tied_itself ids_total id))
new_at id other ids Equal e rest = or_left (is_it id other) (list_any (is_it id) ids) (ap is_eq e)
new_at id other ids Greater e rest = or_right (is_it id other) (list_any (is_it id) (with_id id ids)) rest

new_id : (id : ObjectId) (ids : List ObjectId) → list_any (is_it id) (with_id id ids) ≡ true
new_id id [] = or_left (is_it id id) false (ap is_eq (tied_itself ids_total id))
new_id id (other ∷ ids) = new_at id other ids (id_cmp id other) refl (new_id id ids)

old_at : (test : ObjectId → Bool) (id other : ObjectId) (ids : List ObjectId) (o : Ordering) → (test other || list_any test ids) ≡ true → (test other || list_any test (with_id id ids)) ≡ true → list_any test (match_ordering o (id ∷ other ∷ ids) (other ∷ ids) (other ∷ with_id id ids)) ≡ true
old_at test id other ids Less h rest = or_right (test id) (test other || list_any test ids) h
old_at test id other ids Equal h rest = h
old_at test id other ids Greater h rest = rest

or_more : (a b c : Bool) → (a || b) ≡ true → (b ≡ true → c ≡ true) → (a || c) ≡ true
or_more true b c h more = refl
or_more false b c h more = more h

old_id : (test : ObjectId → Bool) (id : ObjectId) (ids : List ObjectId) → list_any test ids ≡ true → list_any test (with_id id ids) ≡ true
old_id test id [] h = cc
old_id test id (other ∷ ids) h = old_at test id other ids (id_cmp id other) h (or_more (test other) (list_any test ids) (list_any test (with_id id ids)) h (old_id test id ids))

abbrev Covered : ObjectId → List Stamped → Type 0
Covered id latest = (list_any (is_it id) (ids_in latest) ≡ true) ⊎ ((is_root id ≡ false) × (own id latest ≡ []))

covered_more : (id : ObjectId) (x : Stamped) (latest : List Stamped) (b : Bool) → same_id id (id_of x) ≡ b → Covered id latest → Covered id (x ∷ latest)
covered_more id x latest true e h = inl (subst (λ (i : ObjectId). list_any (is_it id) (with_id i (ids_in latest)) ≡ true) (id_is id (id_of x) e) (new_id id (ids_in latest)))
covered_more id x latest false e (inl old) = inl (old_id (is_it id) (id_of x) (ids_in latest) old)
covered_more id x latest false e (inr none) = inr (none.0, ap (λ (b : Bool). cond b (x ∷ own id latest) (own id latest)) e ∙ none.1)

covered : (id : ObjectId) (latest : List Stamped) → Covered id latest
covered Root [] = inl (or_left (is_it Root Root) false (ap is_eq (tied_itself ids_total Root)))
covered (Made kind hash millis) [] = inr (refl, refl)
covered id (x ∷ latest) = covered_more id x latest (same_id id (id_of x)) refl (covered id latest)

none_kept : (ticked : ℕ) (id : ObjectId) (latest : List Stamped) → is_root id ≡ false → own id latest ≡ [] → kept ticked latest id ≡ None
none_kept ticked id latest h e = ap (kept_of ticked id) e ∙ ap (λ (b : Bool). cond (b || false) (Some (standing ticked id [])) None) h

abbrev There : ObjectId → (ObjectId → Option Held) → List ObjectId → Type 0
There id g ids = (list_any (is_it id) ids ≡ true) ⊎ (g id ≡ None)

there_next : (id k : ObjectId) (g : ObjectId → Option Held) (ids : List ObjectId) → is_it id k ≡ false → There id g (k ∷ ids) → There id g ids
there_next id k g ids e (inl h) = inl (sym (ap (λ (b : Bool). b || list_any (is_it id) ids) e) ∙ h)
there_next id k g ids e (inr h) = inr h

module _ (id : ObjectId) (g : ObjectId → Option Held) (of : (k : ObjectId) (held : Held) → g k ≡ Some held → k ≡ held.id) where
  looked_here : (k : ObjectId) (ids : List ObjectId) (o : Option Held) → id ≡ k → g k ≡ o → (There id g ids → held_at id (filter_map g ids) ≡ g id) → held_at id (cons_option o (filter_map g ids)) ≡ g id
  looked_here k ids None same e more = more (inr (ap g same ∙ e))
  looked_here k ids (Some held) same e more =
      ap (λ (b : Bool). cond b (Some held) (held_at id (filter_map g ids))) (ap (λ (i : ObjectId). is_it id i) (sym (of k held e) ∙ sym same) ∙ ap is_eq (tied_itself ids_total id))
      ∙ sym (ap g same ∙ e)

  looked_past : (k : ObjectId) (ids : List ObjectId) (o : Option Held) → is_it id k ≡ false → g k ≡ o → held_at id (filter_map g ids) ≡ g id → held_at id (cons_option o (filter_map g ids)) ≡ g id
  looked_past k ids None other e more = more
  looked_past k ids (Some held) other e more =
      ap (λ (b : Bool). cond b (Some held) (held_at id (filter_map g ids))) (ap (λ (i : ObjectId). is_it id i) (sym (of k held e)) ∙ other) ∙ more

  looked_by : (k : ObjectId) (ids : List ObjectId) (b : Bool) → is_it id k ≡ b → IsIdInRange id → IsIdInRange k → There id g (k ∷ ids) → (There id g ids → held_at id (filter_map g ids) ≡ g id) → held_at id (cons_option (g k) (filter_map g ids)) ≡ g id
  looked_by k ids true e fits fits2 there more = looked_here k ids (g k) (equal_id id k fits fits2 (eq_equal (id_cmp id k) e)) refl more
  looked_by k ids false e fits fits2 there more = looked_past k ids (g k) e refl (more (there_next id k g ids e there))

  looked : (ids : List ObjectId) → IsIdInRange id → AllIn ids → There id g ids → held_at id (filter_map g ids) ≡ g id
  looked [] fits all (inl h) = cc
  looked [] fits all (inr h) = sym h
  looked (k ∷ ids) fits all there = looked_by k ids (is_it id k) refl fits all.0 there (looked ids fits all.1)

there_kept : (ticked : ℕ) (id : ObjectId) (latest : List Stamped) → Covered id latest → There id (kept ticked latest) (ids_in latest)
there_kept ticked id latest (inl h) = inl h
there_kept ticked id latest (inr h) = inr (none_kept ticked id latest h.0 h.1)

pub found_kept : (ticked : ℕ) (id : ObjectId) (latest : List Stamped) → IsIdInRange id → AllIn (ids_in latest) → held_at id (all_kept ticked latest) ≡ kept ticked latest id
found_kept ticked id latest fits all = looked id (kept ticked latest) (kept_named ticked latest) (ids_in latest) fits all (there_kept ticked id latest (covered id latest))

-- ONE MORE

target_id : (ticked stamp : ℕ) (serial : OpSerial) (op : Op) (before : List Stamped) → (held_with stamp serial op (target_of ticked op before)).id ≡ id_in op
target_id ticked stamp serial (MapCreate id es) before = refl
target_id ticked stamp serial (MapSet id key value) before = refl
target_id ticked stamp serial (MapRemove id key) before = refl
target_id ticked stamp serial (CounterCreate id n) before = refl
target_id ticked stamp serial (CounterInc id n) before = refl
target_id ticked stamp serial (Delete id) before = refl

tied_ids : (new : Held) (id : ObjectId) (f : ObjectId → Option Held) (ids : List ObjectId) → new.id ≡ id → f id ≡ Some new → IsIdInRange id → AllIn ids → TiedIn id_cmp ids_total (λ (held : Held). held.id) new f ids
tied_ids new id f [] same h fits all = tt
tied_ids new id f (k ∷ ids) same h fits all =
    ((λ e. ap f (sym (equal_id id k fits all.0 (ap (λ (i : ObjectId). id_cmp i k) (sym same) ∙ e))) ∙ h), tied_ids new id f ids same h fits all.1)

put_kept : (ticked : ℕ) (one : Stamped) (latest : List Stamped) (new : Held) → new.id ≡ id_of one → kept ticked (one ∷ latest) (id_of one) ≡ Some new → IsIdInRange (id_of one) → AllIn (ids_in latest) → all_kept ticked (one ∷ latest) ≡ with_held new (all_kept ticked latest)
put_kept ticked one latest new same h fits all =
    let f = kept ticked (one ∷ latest) in
    let g = kept ticked latest in
    ap (filter_map f) (with_is (id_of one) (ids_in latest) ∙ ap (λ (i : ObjectId). put_key {T = Held} id_cmp ids_total (λ held. held.id) i (ids_in latest)) (sym same))
    ∙ entered id_cmp ids_total (λ (held : Held). held.id) new f g (ids_in latest)
    (λ other e. kept_elsewhere ticked one latest other (ap (λ (i : ObjectId). is_eq (id_cmp i other)) (sym same) ∙ e))
    (kept_named ticked latest)
    (ap f same ∙ h)
    (tied_ids new (id_of one) f (ids_in latest) same h fits all)
    (ids_rise latest)
    ∙ sym (held_is new (all_kept ticked latest))

pub one_more : OneMore
one_more ticked latest serial op stamp follows fit fits =
    let one = one_with stamp serial op in
    let before = own (id_in op) latest in
    let step = object_step ticked stamp serial op before follows in
    let held = target_of ticked op before in
    let new = held_with stamp serial op held in
    let pool = all_kept ticked latest in
    let there : target (id_in op) pool ≡ held = ap (λ (o : Option Held). unwrap_or o (new_held (id_in op))) (found_kept ticked (id_in op) latest fits (ids_fit latest fit)) ∙ step.found in
    put_kept ticked one latest new (target_id ticked stamp serial op before) (kept_here ticked one latest ∙ step.kept) fits (ids_fit latest fit)
    ∙ sym (ap (λ (one : Held). with_held (held_with stamp serial op one) pool) there)
    ∙ sym (ap (λ (o : Applied). pool_if o (pool_with stamp (Some serial) op pool) pool) (ap (outcome serial op) there ∙ step.applied))
