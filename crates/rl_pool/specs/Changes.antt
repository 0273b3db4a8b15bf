-- What an operation with a serial makes of the objects, and how it is put back.
use Rattle.std.specs.Prelude.{◌≡◌, ℕ, ◌<◌, Bool, false, List, length, ⊤, remove, slice_set, slice_index_or, Option, Some, None}
use Rattle.rl_ids.specs.declared.serials.OpSerial.{OpSerial}
use Rattle.rl_types.specs.declared.objects.Op.{Op}
use Rattle.rl_types.specs.declared.objects.ObjectOp.{ObjectOp}
use Rattle.rl_objmodel.specs.declared.plain.Applied.{Applied}
use Rattle.rl_objmodel.specs.declared.plain.Applied.TheVariants as outcomes
use Rattle.rl_objmodel.specs.Held.{Held, bare_root}
use Rattle.rl_objmodel.specs.Operations.{id_in}
use Rattle.rl_objmodel.specs.Steps.{held_after, outcome, pool_after_op, pool_if, pool_outcome, pool_outcome_by, pool_with}
use Rattle.rl_object.specs.Back.{Stood, CanGoBack, restored}
use Rattle.rl_objrules.specs.declared.load.Shelf.{Shelf}
use Rattle.rl_pool.specs.declared.changes.Change.{Change}
use Rattle.rl_pool.specs.declared.changes.Effect.{Effect}
use Rattle.rl_objrules.specs.Loads.{is_heavy_in, IsSound}

-- the object at a place
abbrev pub held_in : List Held → ℕ → Held
held_in pool at = slice_index_or pool at bare_root

-- WHAT IS PUT BACK

-- the objects with what stood at a place put back; nothing stood where an object was made
abbrev pub put_back_by : Option Stood → OpSerial → Op → ℕ → List Held → List Held
put_back_by None serial op at pool = remove pool at
put_back_by (Some stood) serial op at pool = slice_set pool at (restored serial op stood (held_in pool at))

abbrev pub CanPutBack : Option Stood → OpSerial → Op → Held → Type 0
CanPutBack None serial op held = ⊤
CanPutBack (Some stood) serial op held = CanGoBack serial op stood held

-- what was changed can be put back
pub record IsUndoable (serial : OpSerial) (op : Op) (change : Change) (pool : List Held) : Type 0 where
  pub within : change.at < length pool
  pub can : CanPutBack change.stood serial op (held_in pool change.at)

-- the same of a change, where there is one

abbrev pub IsUndoableIf : OpSerial → Op → Option Change → List Held → Type 0
IsUndoableIf serial op None pool = ⊤
IsUndoableIf serial op (Some change) pool = IsUndoable serial op change pool

abbrev pub put_back_if : OpSerial → Op → Option Change → List Held → List Held
put_back_if serial op None pool = pool
put_back_if serial op (Some change) pool = put_back_by change.stood serial op change.at pool

pub record IsBackBy (serial : OpSerial) (op : Op) (change : Option Change) (after : List Held) (before : List Held) : Type 0 where
  pub can : IsUndoableIf serial op change after
  pub back : put_back_if serial op change after ≡ before

-- the change of an object in its place
abbrev pub changed_at : ℕ → Option Stood → Option Change
changed_at at None = None
changed_at at (Some stood) = Some (record { at = at; stood = Some stood })

-- AN OPERATION

-- the objects after an operation with this serial
abbrev pub op_entered : ℕ → OpSerial → Op → List Held → List Held
op_entered now serial op pool = pool_if (pool_outcome_by (Some serial) op pool) (pool_with now (Some serial) op pool) pool

-- it was applied to the object at a place, and what it changed can be put back
pub record IsAppliedAt (now : ℕ) (serial : OpSerial) (op : Op) (at : ℕ) (before : List Held) (after : List Held) (done : Applied) (change : Option Change) : Type 0 where
  pub outcome : done ≡ outcome serial op (held_in before at)
  pub step : after ≡ slice_set before at (held_after now serial op (held_in before at))
  pub back : IsBackBy serial op change after before

-- it was applied to the object that it names, and what it changed can be put back
pub record IsChanged (now : ℕ) (serial : OpSerial) (op : Op) (before : Shelf) (after : Shelf) (effect : Effect) : Type 0 where
  pub outcome : effect.done ≡ pool_outcome_by (Some serial) op before.objects
  pub step : after.objects ≡ op_entered now serial op before.objects
  pub sound : IsSound after
  pub back : IsBackBy serial op effect.change after.objects before.objects
  pub heavy : effect.heavy ≡ is_heavy_in after.objects (id_in op)

-- an operation of a list was applied, or passed over
pub record IsTaken (now : ℕ) (op : ObjectOp) (before : Shelf) (after : Shelf) (done : Applied) : Type 0 where
  pub outcome : done ≡ pool_outcome op before.objects
  pub step : after.objects ≡ pool_after_op now op before.objects
  pub sound : IsSound after

-- what becomes of an operation that made an object, and of one that made none and was not applied

abbrev pub added_effect : ℕ → Bool → Effect
added_effect at heavy = record { done = outcomes.Applied; change = Some (record { at = at; stood = None }); heavy = heavy }

abbrev pub refused_effect : Applied → Effect
refused_effect done = record { done = done; change = None; heavy = false }
