-- Operations on objects (RTO8), as a channel's log has them. Lists of them are given the latest first.
use Rattle.std.specs.Prelude.{ℕ, Bool, true, false, List, [], ◌∷◌, filter, map}
use Rattle.rl_ids.specs.declared.objects.ObjectKind.{ObjectKind}
use Rattle.rl_ids.specs.declared.objects.ObjectKind.TheVariants as kinds
use Rattle.rl_ids.specs.declared.objects.ObjectId.{ObjectId}
use Rattle.rl_ids.specs.declared.objects.ObjectId.TheVariants.{Root, Made}
use Rattle.rl_ids.specs.declared.objects.MapValue.{MapValue}
use Rattle.rl_ids.specs.Objects.{same_id}
use Rattle.rl_types.specs.declared.objects.Op.{Op}
use Rattle.rl_types.specs.declared.objects.Op.TheVariants.{MapCreate, MapSet, MapRemove, CounterCreate, CounterInc, Delete}
use Rattle.rl_types.specs.declared.objects.ObjectOp.{ObjectOp}

-- an operation of the log, with the stamp of its entry
pub record Stamped : Type 0 where
  pub op : ObjectOp
  pub stamp : ℕ

abbrev pub stamped_at : ℕ → ObjectOp → Stamped
stamped_at stamp op = record { op = op; stamp = stamp }

abbrev pub id_in : Op → ObjectId
id_in (MapCreate id entries) = id
id_in (MapSet id key value) = id
id_in (MapRemove id key) = id
id_in (CounterCreate id count) = id
id_in (CounterInc id amount) = id
id_in (Delete id) = id

abbrev pub id_of : Stamped → ObjectId
id_of one = id_in one.op.op

abbrev pub names : ObjectId → Stamped → Bool
names id one = same_id id (id_of one)

-- the operations on an object
abbrev pub own : ObjectId → List Stamped → List Stamped
own id latest = filter (names id) latest

abbrev pub is_create : Op → Bool
is_create (MapCreate id entries) = true
is_create (CounterCreate id count) = true
is_create _ = false

abbrev pub is_delete : Op → Bool
is_delete (Delete id) = true
is_delete _ = false

abbrev pub creates : Stamped → Bool
creates one = is_create one.op.op

abbrev pub deletes : Stamped → Bool
deletes one = is_delete one.op.op

-- the keys that an operation writes
abbrev pub keys_of : Op → List (List ℕ)
keys_of (MapCreate id entries) = map (λ (entry : List ℕ × MapValue). entry.0) entries
keys_of (MapSet id key value) = key ∷ []
keys_of (MapRemove id key) = key ∷ []
keys_of _ = []

-- the values that it brings
abbrev pub values_of : Op → List MapValue
values_of (MapCreate id entries) = map (λ (entry : List ℕ × MapValue). entry.1) entries
values_of (MapSet id key value) = value ∷ []
values_of _ = []

-- an operation is for objects of this kind
abbrev pub suits : ObjectKind → Op → Bool
suits kinds.Map (MapCreate id entries) = true
suits kinds.Map (MapSet id key value) = true
suits kinds.Map (MapRemove id key) = true
suits kinds.Counter (CounterCreate id count) = true
suits kinds.Counter (CounterInc id amount) = true
suits kind (Delete id) = true
suits kind _ = false

abbrev pub is_root : ObjectId → Bool
is_root Root = true
is_root (Made kind hash millis) = false
