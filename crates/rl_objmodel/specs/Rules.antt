-- The rules that operations on objects pass, one after another. Each operation is judged against the objects as they
-- are after the earlier ones of its frame. (The rules and their limits are this project's own.)
use Rattle.std.specs.Prelude.{ℕ, suc, ◌+◌, Bool, true, false, ◌||◌, not, nat_lt, List, [], ◌∷◌, length, sum_by, Option, Some, None, is_some, ℤ, pos, ◌+ℤ◌, unsigned_abs}
use Rattle.std.specs.List.{list_any}
use Rattle.std.specs.Option.{option_map_or}
use Rattle.rl_numbers.specs.declared.codes.TheConstants.{TOO_LONG, UNKNOWN_OBJECT, DUPLICATE_OBJECT, STALE_ID, RANGE, WRONG_KIND, TOMBSTONED, POOL_LIMIT}
use Rattle.rl_numbers.specs.declared.limits.TheConstants.{MAX_VALUE_SIZE, MAX_ID_SKEW, MAX_OBJECT_NUMBER, MAX_OBJECTS, MAX_MAP_CELLS, MAX_OBJECT_WEIGHT, MAX_POOL_WEIGHT}
use Rattle.rl_ids.specs.declared.objects.ObjectKind.{ObjectKind}
use Rattle.rl_ids.specs.declared.objects.ObjectKind.TheVariants as kinds
use Rattle.rl_ids.specs.declared.objects.ObjectId.{ObjectId}
use Rattle.rl_ids.specs.declared.objects.ObjectId.TheVariants.{Root, Made}
use Rattle.rl_ids.specs.declared.objects.MapValue.{MapValue}
use Rattle.rl_ids.specs.declared.objects.MapValue.TheVariants as values
use Rattle.rl_ids.specs.declared.serials.OpSerial.{OpSerial}
use Rattle.rl_ids.specs.Objects.{kind_of, same_kind}
use Rattle.rl_types.specs.declared.objects.Op.{Op}
use Rattle.rl_types.specs.declared.objects.Op.TheVariants.{MapCreate, MapSet, MapRemove, CounterCreate, CounterInc, Delete}
use Rattle.rl_types.specs.declared.objects.ObjectOp.{ObjectOp}
use Rattle.rl_types.specs.declared.objects.ObjectBody.{ObjectBody}
use Rattle.rl_types.specs.declared.objects.ObjectBody.TheVariants as bodies
use Rattle.rl_types.specs.declared.objects.ObjectState.{ObjectState}
use Rattle.rl_types.specs.Weight.{state_weight}
use Rattle.rl_objmodel.specs.Operations.{Stamped, stamped_at, id_in, keys_of, values_of, is_root}
use Rattle.rl_objmodel.specs.Objects.{kept_object, kept_objects}

-- where operations are judged: the channel's site, and what its clock shows, now and at the last Tick
pub record Setting : Type 0 where
  pub site : List ℕ
  pub now : ℕ
  pub ticked : ℕ

-- the code of the first rule that is broken
abbrev pub or_next : Option ℕ → Option ℕ → Option ℕ
or_next (Some code) next = Some code
or_next None next = next

abbrev pub fails_if : ℕ → Bool → Option ℕ
fails_if code true = Some code
fails_if code false = None

-- TOO_LONG: a key, a text or bytes that are too long

abbrev pub is_long_text : List ℕ → Bool
is_long_text text = nat_lt MAX_VALUE_SIZE (length text)

abbrev pub is_long_value : MapValue → Bool
is_long_value (values.Text text) = is_long_text text
is_long_value (values.Bytes bytes) = is_long_text bytes
is_long_value _ = false

abbrev pub length_rule : Op → Option ℕ
length_rule op = fails_if TOO_LONG (list_any is_long_text (keys_of op) || list_any is_long_value (values_of op))

-- THE TARGET: of a create WRONG_KIND, DUPLICATE_OBJECT, STALE_ID; of another UNKNOWN_OBJECT, TOMBSTONED, WRONG_KIND

-- a moment is too far from the clock
abbrev pub is_far : ℕ → ℕ → Bool
is_far now millis = nat_lt (now + MAX_ID_SKEW) millis || nat_lt (millis + MAX_ID_SKEW) now

abbrev pub is_stale : ℕ → ObjectId → Bool
is_stale now Root = false
is_stale now (Made kind hash millis) = is_far now millis

abbrev pub create_rule : ℕ → ObjectKind → ObjectId → Option ObjectState → Option ℕ
create_rule now kind id found =
    or_next (fails_if WRONG_KIND (is_root id || not (same_kind kind (kind_of id))))
    (or_next (fails_if DUPLICATE_OBJECT (is_some found))
    (fails_if STALE_ID (is_stale now id)))

abbrev pub missing_rule : Option ObjectState → Option ℕ
missing_rule None = Some UNKNOWN_OBJECT
missing_rule (Some state) = fails_if TOMBSTONED state.tombstone

abbrev pub change_rule : ObjectKind → ObjectId → Option ObjectState → Option ℕ
change_rule kind id found = or_next (missing_rule found) (fails_if WRONG_KIND (not (same_kind kind (kind_of id))))

abbrev pub delete_rule : ObjectId → Option ObjectState → Option ℕ
delete_rule id found = or_next (missing_rule found) (fails_if WRONG_KIND (is_root id))

abbrev pub target_rule : ℕ → (ObjectId → Option ObjectState) → Op → Option ℕ
target_rule now found (MapCreate id entries) = create_rule now kinds.Map id (found id)
target_rule now found (CounterCreate id count) = create_rule now kinds.Counter id (found id)
target_rule now found (MapSet id key value) = change_rule kinds.Map id (found id)
target_rule now found (MapRemove id key) = change_rule kinds.Map id (found id)
target_rule now found (CounterInc id amount) = change_rule kinds.Counter id (found id)
target_rule now found (Delete id) = delete_rule id (found id)

-- REFERENCES, IN ORDER: UNKNOWN_OBJECT, TOMBSTONED

abbrev pub value_rule : (ObjectId → Option ObjectState) → MapValue → Option ℕ
value_rule found (values.Ref id) = missing_rule (found id)
value_rule found _ = None

abbrev pub values_rule : (ObjectId → Option ObjectState) → List MapValue → Option ℕ
values_rule found [] = None
values_rule found (value ∷ more) = or_next (value_rule found value) (values_rule found more)

-- RANGE: a whole number, a count, an amount or a counter's sum that is too great, or too small

abbrev pub is_wide : ℤ → Bool
is_wide n = nat_lt MAX_OBJECT_NUMBER (unsigned_abs n)

abbrev pub is_wide_value : MapValue → Bool
is_wide_value (values.Whole n) = is_wide n
is_wide_value _ = false

abbrev pub sum_held : ObjectBody → ℤ
sum_held (bodies.Counter sum) = sum
sum_held (bodies.Map cells) = pos 0

abbrev pub sum_in : Option ObjectState → ℤ
sum_in None = pos 0
sum_in (Some state) = sum_held state.body

abbrev pub range_rule : (ObjectId → Option ObjectState) → Op → Option ℕ
range_rule found (CounterCreate id count) = fails_if RANGE (is_wide count)
range_rule found (CounterInc id amount) = fails_if RANGE (is_wide amount || is_wide (sum_in (found id) +ℤ amount))
range_rule found op = fails_if RANGE (list_any is_wide_value (values_of op))

-- POOL_LIMIT, by the objects as they are after the operation, the root and tombstones among them. Of one object's
-- weight, that of the operation's own object counts

abbrev pub cells_held : ObjectBody → ℕ
cells_held (bodies.Counter sum) = 0
cells_held (bodies.Map cells) = length cells

abbrev pub cells_in : ObjectState → ℕ
cells_in state = cells_held state.body

abbrev pub is_heavy : ObjectState → Bool
is_heavy state = nat_lt MAX_OBJECT_WEIGHT (state_weight state)

abbrev pub pool_rule : Option ObjectState → List ObjectState → Option ℕ
pool_rule target states =
    fails_if POOL_LIMIT
    (nat_lt MAX_OBJECTS (length states)
    || nat_lt MAX_MAP_CELLS (sum_by cells_in states)
    || option_map_or is_heavy target false
    || nat_lt MAX_POOL_WEIGHT (sum_by state_weight states))

-- ALL OF THEM

-- by the clock, what is found of each id, and the operation's own object and all objects as they are after it
abbrev pub op_rule : ℕ → (ObjectId → Option ObjectState) → Option ObjectState → List ObjectState → Op → Option ℕ
op_rule now found target after op =
    or_next (length_rule op)
    (or_next (target_rule now found op)
    (or_next (values_rule found (values_of op))
    (or_next (range_rule found op)
    (pool_rule target after))))

-- the serial of an operation that is added: the place of its entry, its index there, and the site
abbrev pub serial_at : List ℕ → ℕ → ℕ → OpSerial
serial_at site place index = record { place = place; index = index; site = site }

abbrev pub with_serial : OpSerial → ObjectOp → ObjectOp
with_serial serial op = record op { serial = Some serial }

-- an operation as the entry that adds it has it
abbrev pub entering : Setting → ℕ → ℕ → ObjectOp → Stamped
entering setting place index op = stamped_at setting.now (with_serial (serial_at setting.site place index) op)

-- the code of the first rule that an operation breaks, as the one of this index of the entry at this place, after these
abbrev pub entering_rule : Setting → ℕ → ℕ → List Stamped → ObjectOp → Option ℕ
entering_rule setting place index latest op =
    op_rule setting.now (kept_object setting.ticked latest)
    (kept_object setting.ticked (entering setting place index op ∷ latest) (id_in op.op))
    (kept_objects setting.ticked (entering setting place index op ∷ latest))
    op.op

-- the code of the first rule that operations break: those of the entry at a place, from an index on, after these
abbrev pub ops_rule : Setting → ℕ → ℕ → List Stamped → List ObjectOp → Option ℕ
ops_rule setting place index latest [] = None
ops_rule setting place index latest (op ∷ ops) =
    or_next (entering_rule setting place index latest op)
    (ops_rule setting place (suc index) (entering setting place index op ∷ latest) ops)
