-- What one operation makes of the objects, and what puts it back.
use Rattle.std.proofs.Common.{◌≡◌, ℕ, zero, suc, ◌<◌, ◌≤◌, Bool, false, true≢false, List, [], ◌∷◌, length, refl, ap, sym, subst, ◌∙◌, ◌↔◌, arith, get_or}
use Rattle.std.specs.Prelude.{insert, remove, slice_set, slice_get, nat_lt, unwrap_or, Option, Some, None, option_map, IsSome, Result, Ok, Err, IfOk, OnOk}
use Rattle.std.specs.Option.{option_map_or}
use Rattle.rl_numbers.specs.declared.limits.TheConstants.{MAX_OBJECT_WEIGHT}
use Rattle.rl_objmodel.specs.Rules.{is_heavy}
use Rattle.std.proofs.lemmas.List.{set-get_or}
use Rattle.std.proofs.lemmas.Option.{unwrap_or-slice_get}
use Rattle.std.specs.declared.cmp.Ordering.TheVariants.{Equal}
use Rattle.rl_ids.specs.declared.objects.ObjectId.{ObjectId}
use Rattle.rl_ids.specs.declared.serials.OpSerial.{OpSerial}
use Rattle.rl_ids.specs.Objects.{id_cmp}
use Rattle.rl_types.specs.declared.objects.Op.{Op}
use Rattle.rl_types.specs.declared.objects.ObjectOp.{ObjectOp}
use Rattle.rl_objmodel.specs.declared.plain.Applied.{Applied}
use Rattle.rl_objmodel.specs.declared.plain.Applied.TheVariants as outcomes
use Rattle.rl_objmodel.specs.Held.{Held, bare_root, shown}
use Rattle.rl_objmodel.specs.Operations.{id_in}
use Rattle.rl_objmodel.specs.Steps.{held_after, held_at, held_by, held_if, held_with, new_held, outcome, pool_if, pool_outcome_by, pool_with, target, with_held}
use Rattle.rl_object.specs.Back.{Stood, CanGoBack, IsBack, StoodIsBack, restored}
use Rattle.rl_objrules.specs.declared.load.Load.{Load}
use Rattle.rl_objrules.specs.declared.load.Shelf.{Shelf}
use Rattle.rl_pool.specs.declared.changes.Change.{Change}
use Rattle.rl_pool.specs.declared.changes.Effect.{Effect}
use Rattle.rl_pool.specs.Changes.{added_effect, changed_at, held_in, refused_effect, op_entered, put_back_by, IsAppliedAt, IsBackBy, IsChanged, IsTaken, IsUndoable}
use Rattle.rl_objrules.specs.Ids.{IsAscending, IsIdHeldAt, IsIdMissedAt}
use Rattle.rl_objrules.specs.Loads.{load_in, load_of, no_load, HasRoot, IsExchanged, IsSound, IsUnder}
use Rattle.rl_objrules.proofs.Limits.{insert_load, set_load, under_all}
use Rattle.rl_objrules.proofs.Places.{inserted_with, replaced_with, is_ascending_with, found_with, held_there, missed_there, same_place, tied_held}
use Rattle.rl_objrules.proofs.Ids.{before_itself}
use Rattle.rl_pool.proofs.Roots.{root_if}

-- LISTS

set_length : (xs : List Held) (at : ℕ) (x : Held) → length (slice_set xs at x) ≡ length xs
set_length [] zero x = refl
set_length [] (suc at) x = refl
set_length (y ∷ xs) zero x = refl
set_length (y ∷ xs) (suc at) x = ap suc (set_length xs at x)

get_set : (xs : List Held) (at : ℕ) (x d : Held) → at < length xs → get_or (slice_set xs at x) at d ≡ x
get_set [] at x d h = absurd (omega arith)
get_set (y ∷ xs) zero x d h = refl
get_set (y ∷ xs) (suc at) x d h = get_set xs at x d (omega arith)

set_set : (xs : List Held) (at : ℕ) (x y : Held) → slice_set (slice_set xs at x) at y ≡ slice_set xs at y
set_set [] zero x y = refl
set_set [] (suc at) x y = refl
set_set (z ∷ xs) zero x y = refl
set_set (z ∷ xs) (suc at) x y = ap (λ (ys : List Held). z ∷ ys) (set_set xs at x y)

remove_insert : (xs : List Held) (at : ℕ) (x : Held) → at ≤ length xs → remove (insert xs at x) at ≡ xs
remove_insert [] zero x h = refl
remove_insert [] (suc at) x h = absurd (omega arith)
remove_insert (y ∷ xs) zero x h = refl
remove_insert (y ∷ xs) (suc at) x h = ap (λ (ys : List Held). y ∷ ys) (remove_insert xs at x (omega arith))

insert_length : (xs : List Held) (at : ℕ) (x : Held) → at ≤ length xs → length (insert xs at x) ≡ suc (length xs)
insert_length [] zero x h = refl
insert_length [] (suc at) x h = absurd (omega arith)
insert_length (y ∷ xs) zero x h = refl
insert_length (y ∷ xs) (suc at) x h = ap suc (insert_length xs at x (omega arith))

pub get_any : (xs : List Held) (at : ℕ) (d e : Held) → at < length xs → get_or xs at d ≡ get_or xs at e
get_any [] at d e h = absurd (omega arith)
get_any (x ∷ xs) zero d e h = refl
get_any (x ∷ xs) (suc at) d e h = get_any xs at d e (omega arith)

-- what is there is what stands in its place
pub in_place : (pool : List Held) (at : ℕ) (old : Held) → slice_get pool at ≡ Some old → held_in pool at ≡ old
in_place pool at old there = sym (unwrap_or-slice_get pool at bare_root) ∙ ap (λ (o : Option Held). unwrap_or o bare_root) there

pub set_same : (pool : List Held) (at : ℕ) (old new : Held) → slice_get pool at ≡ Some old → new ≡ old → slice_set pool at new ≡ pool
set_same pool at old new there is = ap (slice_set pool at) (is ∙ sym (in_place pool at old there)) ∙ set-get_or pool at bare_root

-- THE OBJECT AT A PLACE

abbrev no_stood : Option Stood
no_stood = None

module _ (serial : OpSerial) (op : Op) (before : List Held) (at : ℕ) (old new : Held) (within : at < length before) (there : slice_get before at ≡ Some old) where
  can_back : (stood : Stood) → IsBack serial op stood new old → IsUndoable serial op (record { at = at; stood = Some stood }) (slice_set before at new)
  can_back stood h = record {
    within = omega (arith, set_length before at new, within);
    can = subst (CanGoBack serial op stood) (sym (get_set before at new bare_root within)) h.can;
  }

  goes_back : (stood : Stood) → IsBack serial op stood new old → put_back_by (Some stood) serial op at (slice_set before at new) ≡ before
  goes_back stood h =
      ap (λ (x : Held). slice_set (slice_set before at new) at (restored serial op stood x)) (get_set before at new bare_root within)
      ∙ ap (slice_set (slice_set before at new) at) h.back
      ∙ set_set before at new old
      ∙ set_same before at old old there refl

  back_none : (now : ℕ) (done : Applied) → (IsSome no_stood ↔ (done ≡ outcomes.Applied)) → new ≡ held_if done (held_with now serial op old) old → slice_set before at new ≡ before
  back_none now outcomes.Applied h is = absurd (true≢false (sym (h.1 refl)))
  back_none now outcomes.Skipped h is = set_same before at old new there is
  back_none now outcomes.Range h is = set_same before at old new there is

  back_by : (now : ℕ) (done : Applied) (stood : Option Stood) → (IsSome stood ↔ (done ≡ outcomes.Applied)) → StoodIsBack serial op stood new old → new ≡ held_if done (held_with now serial op old) old → IsBackBy serial op (changed_at at stood) (slice_set before at new) before
  back_by now done None h back is = record { can = tt; back = back_none now done h is }
  back_by now done (Some stood) h back is = record { can = can_back stood back; back = goes_back stood back }

  pub applied_at : (now : ℕ) (done : Applied) (stood : Option Stood) → done ≡ outcome serial op old → (IsSome stood ↔ (done ≡ outcomes.Applied)) → StoodIsBack serial op stood new old → new ≡ held_after now serial op old → IsAppliedAt now serial op at before (slice_set before at new) done (changed_at at stood)
  applied_at now done stood is some back step = record {
    outcome = is ∙ ap (outcome serial op) (sym (in_place before at old there));
    step = ap (slice_set before at) (step ∙ ap (held_after now serial op) (sym (in_place before at old there)));
    back = back_by now done stood some back (step ∙ ap (λ (d : Applied). held_if d (held_with now serial op old) old) (sym is));
  }

  pub applied_step : (now : ℕ) (done : Applied) (stood : Option Stood) (change : Option Change) → done ≡ outcome serial op old → (IsSome stood ↔ (done ≡ outcomes.Applied)) → StoodIsBack serial op stood new old → new ≡ held_after now serial op old → change ≡ changed_at at stood → IsAppliedAt now serial op at before (slice_set before at new) done change
  applied_step now done stood change is some back step change_is =
      subst (λ (x : Option Change). IsAppliedAt now serial op at before (slice_set before at new) done x) (sym change_is) (applied_at now done stood is some back step)

-- AN ID STAYS

by_id : (now : ℕ) (serial : OpSerial) (op : Op) (old : Held) (deleted : Option ℕ) → (held_by deleted now serial op old).id ≡ old.id
by_id now serial op old (Some stamp) = refl
by_id now serial op old None = refl

with_id : (now : ℕ) (serial : OpSerial) (op : Op) (old : Held) → (held_with now serial op old).id ≡ old.id
with_id now serial op old = by_id now serial op old old.deleted

rising_by : (done : Applied) (one : Held) (pool : List Held) → IsAscending pool → IsAscending (pool_if done (with_held one pool) pool)
rising_by outcomes.Applied one pool h = is_ascending_with one pool h
rising_by outcomes.Skipped one pool h = h
rising_by outcomes.Range one pool h = h

-- THE OBJECT OF AN ID

module _ (now : ℕ) (serial : OpSerial) (op : Op) (before : List Held) (at : ℕ) where
  target_there : IsIdHeldAt (id_in op) before at → target (id_in op) before ≡ held_in before at
  target_there place = ap (λ (o : Option Held). unwrap_or o (new_held (id_in op))) (held_there (id_in op) before at bare_root place)

  target_new : IsAscending before → IsIdMissedAt (id_in op) before at → target (id_in op) before ≡ new_held (id_in op)
  target_new ascending place = ap (λ (o : Option Held). unwrap_or o (new_held (id_in op))) (missed_there (id_in op) before at ascending place)

  step_by : (done : Applied) (old : Held) → IsIdHeldAt (id_in op) before at → old ≡ held_in before at → slice_set before at (held_if done (held_with now serial op old) old) ≡ pool_if done (with_held (held_with now serial op old) before) before
  step_by outcomes.Applied old place is =
      let tied : id_cmp (id_in op) (held_with now serial op old).id ≡ Equal = ap (id_cmp (id_in op)) (with_id now serial op old ∙ ap (λ (h : Held). h.id) is) ∙ same_place (id_in op) (held_in before at) (place.same bare_root) in
      replaced_with (held_with now serial op old) before at (tied_held (id_in op) (held_with now serial op old).id before at tied place)
  step_by outcomes.Skipped old place is = ap (slice_set before at) is ∙ set-get_or before at bare_root
  step_by outcomes.Range old place is = ap (slice_set before at) is ∙ set-get_or before at bare_root

  stepped : IsIdHeldAt (id_in op) before at → slice_set before at (held_after now serial op (held_in before at)) ≡ op_entered now serial op before
  stepped place =
      step_by (outcome serial op (held_in before at)) (held_in before at) place refl
      ∙ ap (λ (x : Held). pool_if (outcome serial op x) (with_held (held_with now serial op x) before) before) (sym (target_there place))

  entered_rising : IsAscending before → IsAscending (op_entered now serial op before)
  entered_rising h = rising_by (outcome serial op (target (id_in op) before)) (held_with now serial op (target (id_in op) before)) before h

  entered_rooted : HasRoot before → HasRoot (op_entered now serial op before)
  entered_rooted h = root_if (outcome serial op (target (id_in op) before)) (held_with now serial op (target (id_in op) before)) before h

  -- the operation's own object after it
  own_by : (done : Applied) (old : Held) → IsIdHeldAt (id_in op) before at → old ≡ held_in before at → held_at (id_in op) (pool_if done (with_held (held_with now serial op old) before) before) ≡ Some (held_if done (held_with now serial op old) old)
  own_by outcomes.Applied old place is =
      let tied : id_cmp (id_in op) (held_with now serial op old).id ≡ Equal = ap (id_cmp (id_in op)) (with_id now serial op old ∙ ap (λ (h : Held). h.id) is) ∙ same_place (id_in op) (held_in before at) (place.same bare_root) in
      found_with (id_in op) (held_with now serial op old) before tied
  own_by outcomes.Skipped old place is = held_there (id_in op) before at bare_root place ∙ ap (λ (h : Held). Some h) (sym is)
  own_by outcomes.Range old place is = held_there (id_in op) before at bare_root place ∙ ap (λ (h : Held). Some h) (sym is)

  own_there : IsIdHeldAt (id_in op) before at → held_at (id_in op) (op_entered now serial op before) ≡ Some (held_after now serial op (held_in before at))
  own_there place =
      ap (λ (x : Held). held_at (id_in op) (pool_if (outcome serial op x) (with_held (held_with now serial op x) before) before)) (target_there place)
      ∙ own_by (outcome serial op (held_in before at)) (held_in before at) place refl

abbrev pub effect_of : Applied → Option Change → Bool → Effect
effect_of done change heavy = record { done = done; change = change; heavy = heavy }

abbrev heavy_as : Option Held → Bool
heavy_as o = option_map_or is_heavy (option_map shown o) false

pub changed_there : (now : ℕ) (serial : OpSerial) (op : Op) (old new : Shelf) (at : ℕ) (done : Applied) (change : Option Change) (was is : Load) (d e : Held) → IsIdHeldAt (id_in op) old.objects at → IsSound old → IsAppliedAt now serial op at old.objects new.objects done change → was ≡ load_of d → d ≡ get_or old.objects at d → is ≡ load_of e → e ≡ get_or new.objects at e → IsExchanged old.load was is new.load → IsChanged now serial op old new (effect_of done change (nat_lt MAX_OBJECT_WEIGHT is.weight))
changed_there now serial op old new at done change was is d e place sound h was_is d_is is_is e_is x =
    let entered = held_after now serial op (held_in old.objects at) in
    let there : d ≡ held_in old.objects at = d_is ∙ get_any old.objects at d bare_root place.within in
    let within : at < length new.objects = omega (arith, place.within, set_length old.objects at entered, ap length h.step) in
    let here : e ≡ entered = e_is ∙ get_any new.objects at e bare_root within ∙ ap (λ (xs : List Held). get_or xs at bare_root) h.step ∙ get_set old.objects at entered bare_root place.within in
    let x2 : IsExchanged old.load (load_of (held_in old.objects at)) (load_of entered) new.load = subst (λ (l : Load). IsExchanged old.load l (load_of entered) new.load) (was_is ∙ ap load_of there) (subst (λ (l : Load). IsExchanged old.load was l new.load) (is_is ∙ ap load_of here) x) in
    let step : new.objects ≡ op_entered now serial op old.objects = h.step ∙ stepped now serial op old.objects at place in
    record {
      outcome = h.outcome ∙ ap (outcome serial op) (sym (target_there now serial op old.objects at place));
      step = step;
      sound = record {
        ascending = subst IsAscending (sym step) (entered_rising now serial op old.objects at sound.ascending);
        rooted = subst HasRoot (sym step) (entered_rooted now serial op old.objects at sound.rooted);
        load = set_load old.objects at bare_root entered old.load new.load place.within sound.load x2 ∙ ap load_in (sym h.step);
      };
      back = h.back;
      heavy =
          ap (λ (l : Load). nat_lt MAX_OBJECT_WEIGHT l.weight) (is_is ∙ ap load_of here)
          ∙ ap heavy_as (sym (own_there now serial op old.objects at place))
          ∙ ap (λ (xs : List Held). heavy_as (held_at (id_in op) xs)) (sym step);
    }

pub under_there : (old : Shelf) (at : ℕ) (was : Load) (d : Held) → IsSound old → at < length old.objects → was ≡ load_of d → d ≡ get_or old.objects at d → IsUnder was old.load
under_there old at was d sound within was_is d_is =
    subst (λ (l : Load). IsUnder was l) (sym sound.load) (subst (λ (l : Load). IsUnder l (load_in old.objects)) (sym (was_is ∙ ap load_of d_is)) (under_all old.objects at d within))

-- AN OBJECT THAT IS MADE

pub changed_new : (now : ℕ) (serial : OpSerial) (op : Op) (old new : Shelf) (at : ℕ) (made one : Held) (done : Applied) (effect : Effect) → IsIdMissedAt (id_in op) old.objects at → IsSound old → made ≡ new_held (id_in op) → done ≡ outcome serial op made → done ≡ outcomes.Applied → one ≡ held_after now serial op made → new.objects ≡ insert old.objects at one → IsExchanged old.load no_load (load_of one) new.load → effect ≡ added_effect at (is_heavy (shown one)) → IsChanged now serial op old new effect
changed_new now serial op old new at made one done effect place sound made_is done_is applied one_is step x effect_is =
    let fresh = new_held (id_in op) in
    let result : outcome serial op fresh ≡ outcomes.Applied = ap (outcome serial op) (sym made_is) ∙ sym done_is ∙ applied in
    let target_is = target_new now serial op old.objects at sound.ascending place in
    let one_with : one ≡ held_with now serial op fresh = one_is ∙ ap (held_after now serial op) made_is ∙ ap (λ (d : Applied). held_if d (held_with now serial op fresh) fresh) result in
    let tied : IsIdMissedAt (held_with now serial op fresh).id old.objects at = subst (λ (i : ObjectId). IsIdMissedAt i old.objects at) (sym (with_id now serial op fresh)) place in
    let put : new.objects ≡ with_held (held_with now serial op fresh) old.objects =
    step ∙ ap (insert old.objects at) one_with ∙ inserted_with (held_with now serial op fresh) old.objects at tied in
    let entered : new.objects ≡ op_entered now serial op old.objects =
    put
    ∙ ap (λ (d : Applied). pool_if d (with_held (held_with now serial op fresh) old.objects) old.objects) (sym result)
    ∙ ap (λ (h : Held). pool_if (outcome serial op h) (with_held (held_with now serial op h) old.objects) old.objects) (sym target_is) in
    let own : held_at (id_in op) new.objects ≡ Some one =
    ap (held_at (id_in op)) put
    ∙ found_with (id_in op) (held_with now serial op fresh) old.objects (ap (id_cmp (id_in op)) (with_id now serial op fresh) ∙ before_itself (id_in op))
    ∙ ap (λ (h : Held). Some h) (sym one_with) in
    let whole : IsChanged now serial op old new (added_effect at (is_heavy (shown one))) = record {
      outcome = sym result ∙ ap (outcome serial op) (sym target_is);
      step = entered;
      sound = record {
        ascending = subst IsAscending (sym entered) (entered_rising now serial op old.objects at sound.ascending);
        rooted = subst HasRoot (sym entered) (entered_rooted now serial op old.objects at sound.rooted);
        load = insert_load old.objects at one old.load new.load place.place.within sound.load x ∙ ap load_in (sym step);
      };
      back = record {
        can = record { within = omega (arith, place.place.within, insert_length old.objects at one place.place.within, ap length step); can = tt };
        back = ap (λ (xs : List Held). remove xs at) step ∙ remove_insert old.objects at one place.place.within;
      };
      heavy = ap heavy_as (sym own);
    } in
    subst (IsChanged now serial op old new) (sym effect_is) whole

not_applied : (now : ℕ) (serial : OpSerial) (op : Op) (old : Shelf) (at : ℕ) (done : Applied) → IsIdMissedAt (id_in op) old.objects at → IsSound old → done ≡ outcome serial op (new_held (id_in op)) → pool_if done (with_held (held_with now serial op (target (id_in op) old.objects)) old.objects) old.objects ≡ old.objects → IsChanged now serial op old old (refused_effect done)
not_applied now serial op old at done place sound is same =
    let there : done ≡ outcome serial op (target (id_in op) old.objects) = is ∙ ap (outcome serial op) (sym (target_new now serial op old.objects at sound.ascending place)) in
    record {
      outcome = there;
      step = sym same ∙ ap (λ (d : Applied). pool_if d (with_held (held_with now serial op (target (id_in op) old.objects)) old.objects) old.objects) there;
      sound = sound;
      back = record { can = tt; back = refl };
      heavy = ap heavy_as (sym (missed_there (id_in op) old.objects at sound.ascending place));
    }

pub skipped_new : (now : ℕ) (serial : OpSerial) (op : Op) (old : Shelf) (at : ℕ) (made : Held) (done : Applied) (effect : Effect) → IsIdMissedAt (id_in op) old.objects at → IsSound old → made ≡ new_held (id_in op) → done ≡ outcome serial op made → done ≡ outcomes.Skipped → effect ≡ refused_effect outcomes.Skipped → IsChanged now serial op old old effect
skipped_new now serial op old at made done effect place sound made_is done_is is effect_is =
    subst (IsChanged now serial op old old) (sym effect_is) (not_applied now serial op old at outcomes.Skipped place sound (sym is ∙ done_is ∙ ap (outcome serial op) made_is) refl)

pub range_new : (now : ℕ) (serial : OpSerial) (op : Op) (old : Shelf) (at : ℕ) (made : Held) (done : Applied) (effect : Effect) → IsIdMissedAt (id_in op) old.objects at → IsSound old → made ≡ new_held (id_in op) → done ≡ outcome serial op made → done ≡ outcomes.Range → effect ≡ refused_effect outcomes.Range → IsChanged now serial op old old effect
range_new now serial op old at made done effect place sound made_is done_is is effect_is =
    subst (IsChanged now serial op old old) (sym effect_is) (not_applied now serial op old at outcomes.Range place sound (sym is ∙ done_is ∙ ap (outcome serial op) made_is) refl)

-- ONE OF A LIST

pub taken : (now : ℕ) (one : ObjectOp) (serial : OpSerial) (op : Op) (before after : Shelf) (effect : Effect) → one.serial ≡ Some serial → op ≡ one.op → IsChanged now serial op before after effect → IsTaken now one before after effect.done
taken now one serial op before after effect numbered same h = record {
  outcome = h.outcome ∙ ap (λ (o : Op). pool_outcome_by (Some serial) o before.objects) same ∙ ap (λ (s : Option OpSerial). pool_outcome_by s one.op before.objects) (sym numbered);
  step = h.step
      ∙ ap (λ (o : Op). op_entered now serial o before.objects) same
      ∙ ap (λ (s : Option OpSerial). pool_if (pool_outcome_by s one.op before.objects) (pool_with now s one.op before.objects) before.objects) (sym numbered);
  sound = h.sound;
}

pub passed_over : (now : ℕ) (one : ObjectOp) (shelf : Shelf) → one.serial ≡ None → IsSound shelf → IsTaken now one shelf shelf outcomes.Skipped
passed_over now one shelf none sound = record {
  outcome = ap (λ (s : Option OpSerial). pool_outcome_by s one.op shelf.objects) (sym none);
  step = ap (λ (s : Option OpSerial). pool_if (pool_outcome_by s one.op shelf.objects) (pool_with now s one.op shelf.objects) shelf.objects) (sym none);
  sound = sound;
}

-- what holds where a call succeeds
pub when_ok : {T E A B : Type 0} (P Q : T → Type 0) (result : Result T E) → OnOk result A → OnOk result B → IfOk result Q → (A → B → (x : T) → Q x → P x) → IfOk result P
when_ok {T = T} {E = E} {A = A} {B = B} P Q (Ok x) a b q h = h a b x q
when_ok {T = T} {E = E} {A = A} {B = B} P Q (Err e) a b q h = tt
