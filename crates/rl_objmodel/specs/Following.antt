-- What one more operation of a log makes of what is kept: the steps are what the definitions say.
use Rattle.std.specs.Prelude.{⊤, ◌≡◌, ℕ, suc, true, false, ◌||◌, List, [], ◌∷◌, Option, Some, None, pos, ◌+ℤ◌}
use Rattle.std.specs.List.{list_any, AllByRecursion}
use Rattle.rl_ids.specs.declared.objects.ObjectId.{ObjectId}
use Rattle.rl_ids.specs.declared.objects.MapValue.{MapValue}
use Rattle.rl_ids.specs.declared.objects.MapValue.TheVariants as values
use Rattle.rl_ids.specs.declared.serials.OpSerial.{OpSerial}
use Rattle.rl_ids.specs.Objects.{kind_of, is_below, IsIdInRange}
use Rattle.rl_types.specs.declared.objects.Op.{Op}
use Rattle.rl_types.specs.declared.objects.Op.TheVariants.{MapCreate, MapSet, MapRemove, CounterCreate, CounterInc, Delete}
use Rattle.rl_types.specs.declared.objects.ObjectOp.{ObjectOp}
use Rattle.rl_types.specs.declared.objects.ObjectState.{ObjectState}
use Rattle.rl_objmodel.specs.Operations.{Stamped, stamped_at, id_in, id_of, own, creates, deletes, values_of, suits, is_root}
use Rattle.rl_objmodel.specs.Held.{is_collected}
use Rattle.rl_objmodel.specs.Objects.{sum_of, serials, all_kept, kept_object}
use Rattle.rl_objmodel.specs.Rules.{Setting, or_next, length_rule, target_rule, values_rule, range_rule, serial_at, entering, entering_rule, ops_rule}
use Rattle.rl_objmodel.specs.Steps.{is_past_range, pool_after_op, pool_ops_rule}

-- the object was not named before, and is not the root
pub record Begins (id : ObjectId) (before : List Stamped) : Type 0 where
  pub other : is_root id ≡ false
  pub first : before ≡ []

-- the object is there
pub record Stands (id : ObjectId) (before : List Stamped) : Type 0 where
  pub made : (is_root id || list_any creates before) ≡ true
  pub lasts : list_any deletes before ≡ false

abbrev pub Lives : Op → List Stamped → Type 0
Lives (MapCreate id entries) before = Begins id before
Lives (CounterCreate id count) before = Begins id before
Lives (Delete id) before = (is_root id ≡ false) × Stands id before
Lives (MapSet id key value) before = Stands id before
Lives (MapRemove id key) before = Stands id before
Lives (CounterInc id amount) before = Stands id before

abbrev pub SumFits : Op → List Stamped → Type 0
SumFits (CounterCreate id count) before = is_past_range (pos 0 +ℤ count) ≡ false
SumFits (CounterInc id amount) before = is_past_range (sum_of before +ℤ amount) ≡ false
SumFits _ before = ⊤

-- an operation may follow those on its object: it is for its kind, its serial is greater than all of theirs, it makes the
-- object or finds it there, a sum stays in its range, and its stamp is not so old that it is collected already
pub record Follows (ticked : ℕ) (serial : OpSerial) (op : Op) (stamp : ℕ) (before : List Stamped) : Type 0 where
  pub kind : suits (kind_of (id_in op)) op ≡ true
  pub above : AllByRecursion (λ (earlier : OpSerial). is_below earlier serial ≡ true) (serials before)
  pub recent : is_collected ticked stamp ≡ false
  pub lives : Lives op before
  pub fits : SumFits op before

abbrev pub op_with : OpSerial → Op → ObjectOp
op_with serial op = record { op = op; serial = Some serial }

-- what is kept of a log with one more operation is what the step makes of what was kept
abbrev pub OneMore : Type 0
OneMore = (ticked : ℕ) (latest : List Stamped) (serial : OpSerial) (op : Op) (stamp : ℕ) → Follows ticked serial op stamp (own (id_in op) latest)
    → AllByRecursion (λ (one : Stamped). IsIdInRange (id_of one)) latest → IsIdInRange (id_in op)
    → all_kept ticked (stamped_at stamp (op_with serial op) ∷ latest) ≡ pool_after_op stamp (op_with serial op) (all_kept ticked latest)

-- RULES

-- the rules before the last, which looks at all objects
abbrev pub rules_before : ℕ → (ObjectId → Option ObjectState) → Op → Option ℕ
rules_before now found op =
    or_next (length_rule op) (or_next (target_rule now found op) (or_next (values_rule found (values_of op)) (range_rule found op)))

-- each operation that keeps these rules may follow what is there, as long as all rules were kept
abbrev pub MayFollow : Setting → ℕ → ℕ → List Stamped → List ObjectOp → Type 0
MayFollow setting place index latest [] = ⊤
MayFollow setting place index latest (op ∷ ops) =
    (rules_before setting.now (kept_object setting.ticked latest) op.op ≡ None → Follows setting.ticked (serial_at setting.site place index) op.op setting.now (own (id_in op.op) latest))
    × (entering_rule setting place index latest op ≡ None → MayFollow setting place (suc index) (entering setting place index op ∷ latest) ops)

abbrev pub IsValueInRange : MapValue → Type 0
IsValueInRange (values.Ref id) = IsIdInRange id
IsValueInRange _ = ⊤

-- the ids that an operation names fit, those in its values among them
pub record IsOpInRange (op : ObjectOp) : Type 0 where
  pub target : IsIdInRange (id_in op.op)
  pub refs : AllByRecursion IsValueInRange (values_of op.op)

-- operations that may follow are judged alike by the log and by what is kept of it
abbrev pub RulesAgree : Type 0
RulesAgree = (setting : Setting) (place index : ℕ) (latest : List Stamped) (ops : List ObjectOp) → MayFollow setting place index latest ops
    → AllByRecursion (λ (one : Stamped). IsIdInRange (id_of one)) latest → AllByRecursion IsOpInRange ops
    → ops_rule setting place index latest ops ≡ pool_ops_rule setting place index (all_kept setting.ticked latest) ops
