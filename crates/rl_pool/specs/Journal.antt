-- The steps that operations took, each with what stood before it, and the objects with all of it put back.
use Rattle.std.specs.Prelude.{◌≡◌, ℕ, ◌<◌, List, [], ◌∷◌, ◌++◌, length, ⊤, slice_index_or, Option, Some, None}
use Rattle.rl_ids.specs.declared.serials.OpSerial.{OpSerial}
use Rattle.rl_ids.specs.declared.objects.ObjectId.TheVariants.{Root}
use Rattle.rl_types.specs.declared.objects.Op.TheVariants.{Delete}
use Rattle.rl_types.specs.declared.objects.ObjectOp.{ObjectOp}
use Rattle.rl_objmodel.specs.Held.{Held}
use Rattle.rl_pool.specs.declared.changes.Change.{Change}
use Rattle.rl_pool.specs.declared.journal.Step.{Step}
use Rattle.rl_pool.specs.Changes.{IsUndoable, put_back_by}

abbrev pub no_op : ObjectOp
no_op = record { op = Delete Root; serial = None }

-- the operation at a place
abbrev pub op_in : List ObjectOp → ℕ → ObjectOp
op_in ops at = slice_index_or ops at no_op

-- the objects with one step put back
abbrev pub undone : List ObjectOp → Step → List Held → List Held
undone ops step pool = put_back_by step.change.stood step.serial (op_in ops step.op).op step.change.at pool

pub record CanUndo (ops : List ObjectOp) (step : Step) (pool : List Held) : Type 0 where
  pub op : step.op < length ops
  pub can : IsUndoable step.serial (op_in ops step.op).op step.change pool

-- with all of them put back, the last first
abbrev pub all_undone : List ObjectOp → List Step → List Held → List Held
all_undone ops [] pool = pool
all_undone ops (step ∷ steps) pool = undone ops step (all_undone ops steps pool)

abbrev pub CanUndoAll : List ObjectOp → List Step → List Held → Type 0
CanUndoAll ops [] pool = ⊤
CanUndoAll ops (step ∷ steps) pool = CanUndo ops step (all_undone ops steps pool) × CanUndoAll ops steps pool

-- they can all be put back, and leave the objects as before
pub record LeadsBack (ops : List ObjectOp) (steps : List Step) (pool : List Held) (before : List Held) : Type 0 where
  pub can : CanUndoAll ops steps pool
  pub back : all_undone ops steps pool ≡ before

-- the steps with that of an operation that changed something
abbrev pub recorded : ℕ → OpSerial → Option Change → List Step → List Step
recorded op serial None steps = steps
recorded op serial (Some change) steps = steps ++ record { op = op; serial = serial; change = change } ∷ []
