-- Operations that may follow are judged alike by the log and by what is kept of it.
use Rattle.std.proofs.Common.{◌≡◌, ℕ, suc, List, [], ◌∷◌, refl, ap, sym, ◌∙◌}
use Rattle.std.specs.Prelude.{◌||◌, option_map, Option, Some, None, ◌+ℤ◌}
use Rattle.std.specs.List.{AllByRecursion}
use Rattle.rl_numbers.specs.declared.codes.TheConstants.{RANGE}
use Rattle.rl_ids.specs.declared.objects.ObjectKind.TheVariants as kinds
use Rattle.rl_ids.specs.declared.objects.ObjectId.{ObjectId}
use Rattle.rl_ids.specs.declared.objects.MapValue.{MapValue}
use Rattle.rl_ids.specs.declared.objects.MapValue.TheVariants as values
use Rattle.rl_ids.specs.Objects.{IsIdInRange}
use Rattle.rl_types.specs.declared.objects.Op.{Op}
use Rattle.rl_types.specs.declared.objects.Op.TheVariants.{MapCreate, MapSet, MapRemove, CounterCreate, CounterInc, Delete}
use Rattle.rl_types.specs.declared.objects.ObjectOp.{ObjectOp}
use Rattle.rl_types.specs.declared.objects.ObjectState.{ObjectState}
use Rattle.rl_objmodel.specs.Operations.{Stamped, id_in, id_of, own, values_of}
use Rattle.rl_objmodel.specs.Held.{Held, shown}
use Rattle.rl_objmodel.specs.Objects.{kept_object, kept_objects, all_kept}
use Rattle.rl_objmodel.specs.Rules.{Setting, or_next, fails_if, length_rule, create_rule, change_rule, delete_rule, target_rule, missing_rule, value_rule, values_rule, is_wide, sum_in, range_rule, pool_rule, op_rule, serial_at, entering, entering_rule, ops_rule}
use Rattle.rl_objmodel.specs.Steps.{state_at, states, pool_after, pool_after_op, numbered, pool_op_rule, pool_ops_rule}
use Rattle.rl_objmodel.specs.Following.{Follows, rules_before, IsValueInRange, IsOpInRange, RulesAgree}
use Rattle.rl_objmodel.specs.Lasting.{numbered_all, EntriesKept}
use Rattle.rl_objmodel.proofs.FollowingPools.{ids_fit, found_kept, one_more}

first_next : (a b c : Option ℕ) → or_next (or_next a b) c ≡ or_next a (or_next b c)
first_next (Some code) b c = refl
first_next None b c = refl

pub whole : (now : ℕ) (found : ObjectId → Option ObjectState) (target : Option ObjectState) (after : List ObjectState) (op : Op) → op_rule now found target after op ≡ or_next (rules_before now found op) (pool_rule target after)
whole now found target after op =
    ap (λ (o : Option ℕ). or_next (length_rule op) (or_next (target_rule now found op) o)) (sym (first_next (values_rule found (values_of op)) (range_rule found op) (pool_rule target after)))
    ∙ ap (or_next (length_rule op)) (sym (first_next (target_rule now found op) (or_next (values_rule found (values_of op)) (range_rule found op)) (pool_rule target after)))
    ∙ sym (first_next (length_rule op) (or_next (target_rule now found op) (or_next (values_rule found (values_of op)) (range_rule found op))) (pool_rule target after))

-- WHERE THE SAME IS FOUND

module _ (f g : ObjectId → Option ObjectState) where
  same_target : (now : ℕ) (op : Op) → f (id_in op) ≡ g (id_in op) → target_rule now f op ≡ target_rule now g op
  same_target now (MapCreate id es) h = ap (create_rule now kinds.Map id) h
  same_target now (MapSet id key value) h = ap (change_rule kinds.Map id) h
  same_target now (MapRemove id key) h = ap (change_rule kinds.Map id) h
  same_target now (CounterCreate id n) h = ap (create_rule now kinds.Counter id) h
  same_target now (CounterInc id n) h = ap (change_rule kinds.Counter id) h
  same_target now (Delete id) h = ap (delete_rule id) h

  same_range : (op : Op) → f (id_in op) ≡ g (id_in op) → range_rule f op ≡ range_rule g op
  same_range (MapCreate id es) h = refl
  same_range (MapSet id key value) h = refl
  same_range (MapRemove id key) h = refl
  same_range (CounterCreate id n) h = refl
  same_range (CounterInc id n) h = ap (λ (o : Option ObjectState). fails_if RANGE (is_wide n || is_wide (sum_in o +ℤ n))) h
  same_range (Delete id) h = refl

  same_value : (value : MapValue) → ((id : ObjectId) → IsIdInRange id → f id ≡ g id) → IsValueInRange value → value_rule f value ≡ value_rule g value
  same_value (values.Ref id) h fits = ap missing_rule (h id fits)
  same_value (values.Text text) h fits = refl
  same_value (values.Whole n) h fits = refl
  same_value (values.Bool b) h fits = refl
  same_value (values.Bytes bytes) h fits = refl

  same_values : (more : List MapValue) → ((id : ObjectId) → IsIdInRange id → f id ≡ g id) → AllByRecursion IsValueInRange more → values_rule f more ≡ values_rule g more
  same_values [] h fits = refl
  same_values (value ∷ more) h fits =
      ap (λ (o : Option ℕ). or_next o (values_rule f more)) (same_value value h fits.0) ∙ ap (or_next (value_rule g value)) (same_values more h fits.1)

  same_rules : (now : ℕ) (op : Op) → ((id : ObjectId) → IsIdInRange id → f id ≡ g id) → IsIdInRange (id_in op) → AllByRecursion IsValueInRange (values_of op) → rules_before now f op ≡ rules_before now g op
  same_rules now op h fits refs =
      ap (λ (o : Option ℕ). or_next (length_rule op) (or_next o (or_next (values_rule f (values_of op)) (range_rule f op)))) (same_target now op (h (id_in op) fits))
      ∙ ap (λ (o : Option ℕ). or_next (length_rule op) (or_next (target_rule now g op) (or_next o (range_rule f op)))) (same_values (values_of op) h refs)
      ∙ ap (λ (o : Option ℕ). or_next (length_rule op) (or_next (target_rule now g op) (or_next (values_rule g (values_of op)) o))) (same_range op (h (id_in op) fits))

-- ONE OPERATION

abbrev Fit : List Stamped → Type 0
Fit latest = AllByRecursion (λ (one : Stamped). IsIdInRange (id_of one)) latest

found_same : (ticked : ℕ) (latest : List Stamped) → Fit latest → (id : ObjectId) → IsIdInRange id → kept_object ticked latest id ≡ state_at (all_kept ticked latest) id
found_same ticked latest fit id fits = ap (option_map shown) (sym (found_kept ticked id latest fits (ids_fit latest fit)))

-- an id's object and all objects, as they are shown
abbrev shown_in : ObjectId → List Held → Option ℕ
shown_in id pool = pool_rule (state_at pool id) (states pool)

same_after : (b : Option ℕ) (id : ObjectId) (target : Option ObjectState) (x y : List Held) → (b ≡ None → x ≡ y) → target ≡ state_at x id → or_next b (pool_rule target (states x)) ≡ or_next b (pool_rule (state_at y id) (states y))
same_after (Some code) id target x y h same = refl
same_after None id target x y h same = ap (λ (t : Option ObjectState). pool_rule t (states x)) same ∙ ap (shown_in id) (h refl)

module _ (setting : Setting) (place index : ℕ) (latest : List Stamped) (op : ObjectOp) (fit : Fit latest) (fits : IsOpInRange op) (follows : rules_before setting.now (kept_object setting.ticked latest) op.op ≡ None → Follows setting.ticked (serial_at setting.site place index) op.op setting.now (own (id_in op.op) latest)) where
  abbrev pool : List Held
  pool = all_kept setting.ticked latest

  abbrev rules : Option ℕ
  rules = rules_before setting.now (kept_object setting.ticked latest) op.op

  next_kept : rules_before setting.now (kept_object setting.ticked latest) op.op ≡ None → all_kept setting.ticked (entering setting place index op ∷ latest) ≡ pool_after_op setting.now (numbered setting place index op) (all_kept setting.ticked latest)
  next_kept h = one_more setting.ticked latest (serial_at setting.site place index) op.op setting.now (follows h) fit fits.target

  one_rule : entering_rule setting place index latest op ≡ pool_op_rule setting.now (all_kept setting.ticked latest) (pool_after_op setting.now (numbered setting place index op) (all_kept setting.ticked latest)) op.op
  one_rule =
      let id = id_in op.op in
      let found = kept_object setting.ticked latest in
      let held = all_kept setting.ticked latest in
      let more = entering setting place index op ∷ latest in
      whole setting.now found (kept_object setting.ticked more id) (kept_objects setting.ticked more) op.op
      ∙ same_after (rules_before setting.now found op.op) id (kept_object setting.ticked more id) (all_kept setting.ticked more) (pool_after_op setting.now (numbered setting place index op) held) next_kept (found_same setting.ticked more (fits.target, fit) id fits.target)
      ∙ ap (λ (o : Option ℕ). or_next o (shown_in id (pool_after_op setting.now (numbered setting place index op) held))) (same_rules found (state_at held) setting.now op.op (found_same setting.ticked latest fit) fits.target fits.refs)
      ∙ sym (whole setting.now (state_at held) (state_at (pool_after_op setting.now (numbered setting place index op) held) id) (states (pool_after_op setting.now (numbered setting place index op) held)) op.op)

none_first : (a b : Option ℕ) → or_next a b ≡ None → a ≡ None
none_first (Some code) b h = h
none_first None b h = refl

none_next : (a b : Option ℕ) → or_next a b ≡ None → b ≡ None
none_next (Some code) b h = cc
none_next None b h = h

next_rule : (a b : Option ℕ) (x y : Option ℕ) → a ≡ b → (a ≡ None → x ≡ y) → or_next a x ≡ or_next b y
next_rule (Some code) b x y e h = ap (λ (o : Option ℕ). or_next o y) e
next_rule None b x y e h = h refl ∙ ap (λ (o : Option ℕ). or_next o y) e

pub rules_agree : RulesAgree
rules_agree setting place index latest [] may fit fits = refl
rules_agree setting place index latest (op ∷ ops) may fit fits =
    let more = entering setting place index op ∷ latest in
    let target = kept_object setting.ticked more (id_in op.op) in
    let after = kept_objects setting.ticked more in
    let found = kept_object setting.ticked latest in
    next_rule _ _ _ _ (one_rule setting place index latest op fit fits.0 may.0)
    (λ passed.
    let before : rules_before setting.now found op.op ≡ None = none_first (rules_before setting.now found op.op) (pool_rule target after) (sym (whole setting.now found target after op.op) ∙ passed) in
    rules_agree setting place (suc index) (entering setting place index op ∷ latest) ops (may.1 passed) (fits.0.target, fit) fits.1
    ∙ ap (λ (pool : List Held). pool_ops_rule setting place (suc index) pool ops) (next_kept setting place index latest op fit fits.0 may.0 before))

-- what is kept after an entry
pub entries_kept : EntriesKept
entries_kept setting place index latest [] may fit fits passed = refl
entries_kept setting place index latest (op ∷ ops) may fit fits passed =
    let more = entering setting place index op ∷ latest in
    let target = kept_object setting.ticked more (id_in op.op) in
    let after = kept_objects setting.ticked more in
    let found = kept_object setting.ticked latest in
    let one = none_first (entering_rule setting place index latest op) (ops_rule setting place (suc index) more ops) passed in
    let before : rules_before setting.now found op.op ≡ None = none_first (rules_before setting.now found op.op) (pool_rule target after) (sym (whole setting.now found target after op.op) ∙ one) in
    entries_kept setting place (suc index) more ops (may.1 one) (fits.0.target, fit) fits.1 (none_next (entering_rule setting place index latest op) (ops_rule setting place (suc index) more ops) passed)
    ∙ ap (pool_after setting.now (numbered_all setting place (suc index) ops)) (next_kept setting place index latest op fit fits.0 may.0 before)
