-- What is judged, and what it leaves.
use Rattle.std.proofs.Common.{◌≡◌, ℕ, zero, suc, ◌+◌, ◌<◌, Bool, List, [], ◌∷◌, length, drop, refl, ap, sym, subst, ◌∙◌, arith}
use Rattle.std.specs.Prelude.{Option, Some, None, Result, Ok, Err, IfOk}
use Rattle.rl_ids.specs.declared.objects.ObjectId.{ObjectId}
use Rattle.rl_objrules.specs.Ids.{FindsId, IsAscending}
use Rattle.rl_ids.specs.declared.serials.OpSerial.{OpSerial}
use Rattle.rl_types.specs.declared.objects.Op.{Op}
use Rattle.rl_types.specs.declared.objects.ObjectOp.{ObjectOp}
use Rattle.rl_objmodel.specs.Held.{Held}
use Rattle.rl_objmodel.specs.Following.{rules_before}
use Rattle.rl_objmodel.specs.Operations.{id_in}
use Rattle.rl_objmodel.specs.Rules.{or_next}
use Rattle.rl_objmodel.specs.Steps.{pool_after, pool_after_op, pool_if, pool_op_rule, pool_outcome_by, pool_with, state_at, states}
use Rattle.rl_objrules.specs.declared.load.Shelf.{Shelf}
use Rattle.rl_pool.specs.declared.changes.Change.{Change}
use Rattle.rl_pool.specs.Changes.{op_entered}
use Rattle.rl_pool.specs.Journal.{op_in}
use Rattle.rl_objrules.specs.Loads.{is_heavy_in, IsSound}
use Rattle.rl_objrules.specs.Rules.{JudgesPool}
use Rattle.rl_pool.specs.Admitting.{admitted_rule, after_rule, IsAdmitted, IsEntered, IsJudged, IsPut}
use Rattle.rl_objmodel.proofs.FollowingRules.{whole}

entered : (code : Option ℕ) (after wanted : List Held) → after ≡ wanted → IsEntered code after wanted
entered (Some code) after wanted h = tt
entered None after wanted h = h

-- ONE OPERATION

module _ (now : ℕ) (serial : OpSerial) (op : Op) (before : Shelf) where
  abbrev seen : List Held
  seen = op_entered now serial op before.objects

  pub broken : (code : ℕ) → Some code ≡ rules_before now (state_at before.objects) op → IsSound before → IsJudged now serial op before before (Some code) None
  broken code is sound = record {
    rule = ap (λ (r : Option ℕ). or_next r (after_rule seen op)) is ∙ sym (whole now (state_at before.objects) (state_at seen (id_in op)) (states seen) op);
    step = tt;
    sound = sound;
    back = record { can = tt; back = refl };
  }

  pub put : (after : Shelf) (code : Option ℕ) (change : Option Change) → None ≡ rules_before now (state_at before.objects) op → IsPut now serial op before after code change → IsJudged now serial op before after code change
  put after code change is h = record {
    rule = h.rule ∙ ap (λ (r : Option ℕ). or_next r (after_rule seen op)) is ∙ sym (whole now (state_at before.objects) (state_at seen (id_in op)) (states seen) op);
    step = entered code after.objects seen h.step;
    sound = h.sound;
    back = h.back;
  }

-- ONE OF A LIST

pub admitted_numbered : (now : ℕ) (one : ObjectOp) (serial : OpSerial) (op : Op) (before after : Shelf) (code : Option ℕ) (change : Option Change) → one.serial ≡ Some serial → op ≡ one.op → IsJudged now serial op before after code change → IsAdmitted now one before after code
admitted_numbered now one serial op before after code change numbered same h =
    let is : op_entered now serial op before.objects ≡ pool_after_op now one before.objects =
    ap (λ (o : Op). op_entered now serial o before.objects) same
    ∙ ap (λ (s : Option OpSerial). pool_if (pool_outcome_by s one.op before.objects) (pool_with now s one.op before.objects) before.objects) (sym numbered) in
    record {
      rule = h.rule ∙ ap (λ (xs : List Held). pool_op_rule now before.objects xs op) is ∙ ap (pool_op_rule now before.objects (pool_after_op now one before.objects)) same;
      step = subst (IsEntered code after.objects) is h.step;
      sound = h.sound;
    }

pub admitted_plain : (now : ℕ) (one : ObjectOp) (op : Op) (shelf : Shelf) (code : Option ℕ) → one.serial ≡ None → op ≡ one.op → IsSound shelf → code ≡ pool_op_rule now shelf.objects shelf.objects op → IsAdmitted now one shelf shelf code
admitted_plain now one op shelf code none same sound is =
    let stays : shelf.objects ≡ pool_after_op now one shelf.objects = ap (λ (s : Option OpSerial). pool_if (pool_outcome_by s one.op shelf.objects) (pool_with now s one.op shelf.objects) shelf.objects) (sym none) in
    record {
      rule = is ∙ ap (λ (xs : List Held). pool_op_rule now shelf.objects xs op) stays ∙ ap (pool_op_rule now shelf.objects (pool_after_op now one shelf.objects)) same;
      step = entered code shelf.objects (pool_after_op now one shelf.objects) stays;
      sound = sound;
    }

-- A LIST

pub first_of : (ops : List ObjectOp) (at : ℕ) → at < length ops → drop at ops ≡ op_in ops at ∷ drop (suc at) ops
first_of [] at h = absurd (omega arith)
first_of (op ∷ ops) zero h = refl
first_of (op ∷ ops) (suc at) h = first_of ops at (omega arith)

pub none_left : (ops : List ObjectOp) (at : ℕ) → length ops ≡ at → drop at ops ≡ []
none_left [] zero h = refl
none_left [] (suc at) h = refl
none_left (op ∷ ops) zero h = absurd (omega arith)
none_left (op ∷ ops) (suc at) h = none_left ops at (omega arith)

module _ (now : ℕ) (ops : List ObjectOp) (at : ℕ) (old new : Shelf) (within : at < length ops) where
  next : at + 1 ≡ suc at
  next = omega arith

  rule_more : (wanted : Option ℕ) → IsAdmitted now (op_in ops at) old new None → admitted_rule now (drop at ops) old.objects ≡ wanted → admitted_rule now (drop (at + 1) ops) new.objects ≡ wanted
  rule_more wanted h before =
      ap (λ (n : ℕ). admitted_rule now (drop n ops) new.objects) next
      ∙ ap (admitted_rule now (drop (suc at) ops)) h.step
      ∙ ap (λ (r : Option ℕ). or_next r (admitted_rule now (drop (suc at) ops) (pool_after_op now (op_in ops at) old.objects))) h.rule
      ∙ ap (λ (xs : List ObjectOp). admitted_rule now xs old.objects) (sym (first_of ops at within))
      ∙ before

  left_more : (wanted : List Held) → IsAdmitted now (op_in ops at) old new None → pool_after now (drop at ops) old.objects ≡ wanted → pool_after now (drop (at + 1) ops) new.objects ≡ wanted
  left_more wanted h before =
      ap (λ (n : ℕ). pool_after now (drop n ops) new.objects) next
      ∙ ap (pool_after now (drop (suc at) ops)) h.step
      ∙ ap (λ (xs : List ObjectOp). pool_after now xs old.objects) (sym (first_of ops at within))
      ∙ before

  pub rule_on : (code : Option ℕ) (wanted : Option ℕ) → code ≡ None → IsAdmitted now (op_in ops at) old new code → admitted_rule now (drop at ops) old.objects ≡ wanted → admitted_rule now (drop (at + 1) ops) new.objects ≡ wanted
  rule_on code wanted is h before = rule_more wanted (subst (IsAdmitted now (op_in ops at) old new) is h) before

  pub left_on : (code : Option ℕ) (wanted : List Held) → code ≡ None → IsAdmitted now (op_in ops at) old new code → pool_after now (drop at ops) old.objects ≡ wanted → pool_after now (drop (at + 1) ops) new.objects ≡ wanted
  left_on code wanted is h before = left_more wanted (subst (IsAdmitted now (op_in ops at) old new) is h) before

-- AFTER A SEARCH

pub none_broken : (now : ℕ) (op : Op) (objects seen seen2 : List Held) (id : ObjectId) (found : Result ℕ ℕ) (result : Option ℕ) → IsAscending objects → seen ≡ objects → seen2 ≡ objects → id ≡ id_in op → (IsAscending seen → FindsId id seen found) → (IsAscending seen2 → FindsId (id_in op) seen2 found → result ≡ rules_before now (state_at seen2) op) → result ≡ None → None ≡ rules_before now (state_at objects) op
none_broken now op objects seen1 seen2 id found result asc same same2 is place rules none =
    let there : FindsId (id_in op) objects found = subst (λ (i : ObjectId). FindsId i objects found) is (subst (λ (xs : List Held). FindsId id xs found) same (place (subst IsAscending (sym same) asc))) in
    sym none ∙ rules (subst IsAscending (sym same2) asc) (subst (λ (xs : List Held). FindsId (id_in op) xs found) (sym same2) there) ∙ ap (λ (xs : List Held). rules_before now (state_at xs) op) same2

pub put_all : {E : Type 0} (now : ℕ) (serial : OpSerial) (op : Op) (before after : Shelf) (r : Result (Option ℕ × Option Change) E) → None ≡ rules_before now (state_at before.objects) op → IfOk r (λ done. IsPut now serial op before after done.0 done.1) → IfOk r (λ done. IsJudged now serial op before after done.0 done.1)
put_all now serial op before after (Ok done) is h = put now serial op before after done.0 done.1 is h
put_all now serial op before after (Err e) is h = tt

pub plain_judged : (now : ℕ) (op : Op) (shelf : Shelf) (seen1 seen2 seen3 : List Held) (id : ObjectId) (found : Result ℕ ℕ) (heavy : Bool) (before code result : Option ℕ) → IsSound shelf → seen1 ≡ shelf.objects → seen2 ≡ shelf.objects → seen3 ≡ shelf.objects → id ≡ id_in op → (IsAscending seen1 → FindsId id seen1 found) → ((i : ObjectId) → IsAscending seen2 → FindsId i seen2 found → heavy ≡ is_heavy_in seen2 i) → (IsAscending seen3 → FindsId (id_in op) seen3 found → before ≡ rules_before now (state_at seen3) op) → JudgesPool shelf heavy code → result ≡ or_next before code → result ≡ pool_op_rule now shelf.objects shelf.objects op
plain_judged now op shelf seen1 seen2 seen3 id found heavy before code result sound same1 same2 same3 is place heavy_is rules rule result_is =
    let asc : (xs : List Held) → xs ≡ shelf.objects → IsAscending xs = λ xs e. subst IsAscending (sym e) sound.ascending in
    let there : FindsId (id_in op) shelf.objects found = subst (λ (i : ObjectId). FindsId i shelf.objects found) is (subst (λ (xs : List Held). FindsId id xs found) same1 (place (asc seen1 same1))) in
    let found_in : (xs : List Held) → xs ≡ shelf.objects → FindsId (id_in op) xs found = λ xs e. subst (λ (ys : List Held). FindsId (id_in op) ys found) (sym e) there in
    let own : heavy ≡ is_heavy_in shelf.objects (id_in op) = heavy_is (id_in op) (asc seen2 same2) (found_in seen2 same2) ∙ ap (λ (xs : List Held). is_heavy_in xs (id_in op)) same2 in
    let first : before ≡ rules_before now (state_at shelf.objects) op = rules (asc seen3 same3) (found_in seen3 same3) ∙ ap (λ (xs : List Held). rules_before now (state_at xs) op) same3 in
    result_is
    ∙ ap (λ (r : Option ℕ). or_next r code) first
    ∙ ap (or_next (rules_before now (state_at shelf.objects) op)) (rule (state_at shelf.objects (id_in op)) own sound.load)
    ∙ sym (whole now (state_at shelf.objects) (state_at shelf.objects (id_in op)) (states shelf.objects) op)
