-- Operations with their serials that are judged one after another, each against the objects as the earlier ones left them.
use Rattle.std.specs.Prelude.{◌≡◌, ℕ, List, [], ◌∷◌, Option, Some, None}
use Rattle.rl_ids.specs.declared.serials.OpSerial.{OpSerial}
use Rattle.rl_types.specs.declared.objects.Op.{Op}
use Rattle.rl_types.specs.declared.objects.ObjectOp.{ObjectOp}
use Rattle.rl_objmodel.specs.Held.{Held}
use Rattle.rl_objmodel.specs.Operations.{id_in}
use Rattle.rl_objmodel.specs.Lasting.{numbered_all}
use Rattle.rl_objmodel.specs.Rules.{Setting, or_next, pool_rule}
use Rattle.rl_objmodel.specs.Steps.{pool_after, pool_after_op, pool_op_rule, pool_ops_rule, state_at, states}
use Rattle.rl_objrules.specs.declared.load.Shelf.{Shelf}
use Rattle.rl_pool.specs.declared.changes.Change.{Change}
use Rattle.rl_pool.specs.Changes.{IsBackBy, op_entered}
use Rattle.rl_objrules.specs.Loads.{IsSound}

-- the code of the rule that one operation breaks
abbrev pub admitted_op : ℕ → ObjectOp → List Held → Option ℕ
admitted_op now op pool = pool_op_rule now pool (pool_after_op now op pool) op.op

-- the code of the first rule that operations break
abbrev pub admitted_rule : ℕ → List ObjectOp → List Held → Option ℕ
admitted_rule now [] pool = None
admitted_rule now (op ∷ ops) pool = or_next (admitted_op now op pool) (admitted_rule now ops (pool_after_op now op pool))

-- operations that an entry numbers are judged as the model judges them
abbrev pub NumberedAreJudged : Type 0
NumberedAreJudged = (setting : Setting) (place index : ℕ) (pool : List Held) (ops : List ObjectOp) → admitted_rule setting.now (numbered_all setting place index ops) pool ≡ pool_ops_rule setting place index pool ops

-- HOW IT IS DONE

-- what an operation that breaks no rule leaves
abbrev pub IsEntered : Option ℕ → List Held → List Held → Type 0
IsEntered (Some code) after wanted = Unit {0}
IsEntered None after wanted = after ≡ wanted

-- one operation with its serial was judged, and applied where it broke no rule on the objects before it
pub record IsJudged (now : ℕ) (serial : OpSerial) (op : Op) (before : Shelf) (after : Shelf) (code : Option ℕ) (change : Option Change) : Type 0 where
  pub rule : code ≡ pool_op_rule now before.objects (op_entered now serial op before.objects) op
  pub step : IsEntered code after.objects (op_entered now serial op before.objects)
  pub sound : IsSound after
  pub back : IsBackBy serial op change after.objects before.objects

-- the rule on the objects after an operation
abbrev pub after_rule : List Held → Op → Option ℕ
after_rule pool op = pool_rule (state_at pool (id_in op)) (states pool)

-- one that breaks no rule on the objects before it was applied
pub record IsPut (now : ℕ) (serial : OpSerial) (op : Op) (before : Shelf) (after : Shelf) (code : Option ℕ) (change : Option Change) : Type 0 where
  pub rule : code ≡ after_rule (op_entered now serial op before.objects) op
  pub step : after.objects ≡ op_entered now serial op before.objects
  pub sound : IsSound after
  pub back : IsBackBy serial op change after.objects before.objects

-- one of a list was judged
pub record IsAdmitted (now : ℕ) (op : ObjectOp) (before : Shelf) (after : Shelf) (code : Option ℕ) : Type 0 where
  pub rule : code ≡ admitted_op now op before.objects
  pub step : IsEntered code after.objects (pool_after_op now op before.objects)
  pub sound : IsSound after

-- a list was judged, up to the first that breaks a rule
pub record AreAdmitted (now : ℕ) (ops : List ObjectOp) (before : Shelf) (after : Shelf) (code : Option ℕ) : Type 0 where
  pub rule : code ≡ admitted_rule now ops before.objects
  pub step : IsEntered code after.objects (pool_after now ops before.objects)
  pub sound : IsSound after

-- where a rule is broken all is as before
abbrev pub IsEnteredOr : Option ℕ → Shelf → Shelf → List Held → Type 0
IsEnteredOr (Some code) after before wanted = after ≡ before
IsEnteredOr None after before wanted = after.objects ≡ wanted

-- the same of the pool
abbrev pub IsAdmittedOr : Option ℕ → List Held → List Held → List Held → Type 0
IsAdmittedOr (Some code) after before wanted = after ≡ before
IsAdmittedOr None after before wanted = after ≡ wanted
