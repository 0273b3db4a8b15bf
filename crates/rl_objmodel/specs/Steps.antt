-- What one operation makes of the objects that are held: the form that the machines cite.
use Rattle.std.specs.Prelude.{ℕ, suc, Bool, true, false, ◌&&◌, ◌||◌, not, if◌then◌else◌, nat_lt, List, [], ◌∷◌, filter, filter_map, find, map, Option, Some, None, is_none, is_some, option_map, unwrap_or, ℤ, pos, ◌+ℤ◌, unsigned_abs}
use Rattle.std.specs.Option.{option_map_or}
use Rattle.std.specs.Ordering.{match_ordering, is_eq}
use Rattle.rl_numbers.specs.declared.limits.TheConstants.{MAX_COUNTER_SUM}
use Rattle.rl_ids.specs.declared.objects.ObjectKind.{ObjectKind}
use Rattle.rl_ids.specs.declared.objects.ObjectKind.TheVariants as kinds
use Rattle.rl_ids.specs.declared.objects.ObjectId.{ObjectId}
use Rattle.rl_ids.specs.declared.objects.ObjectId.TheVariants.{Root}
use Rattle.rl_ids.specs.declared.objects.MapValue.{MapValue}
use Rattle.rl_ids.specs.declared.serials.OpSerial.{OpSerial}
use Rattle.rl_ids.specs.Objects.{id_cmp, kind_of, is_below}
use Rattle.rl_types.specs.declared.objects.Op.{Op}
use Rattle.rl_types.specs.declared.objects.Op.TheVariants.{MapCreate, MapSet, MapRemove, CounterCreate, CounterInc, Delete}
use Rattle.rl_types.specs.declared.objects.ObjectOp.{ObjectOp}
use Rattle.rl_types.specs.declared.objects.MapCell.{MapCell}
use Rattle.rl_types.specs.declared.objects.ObjectBody.{ObjectBody}
use Rattle.rl_types.specs.declared.objects.ObjectBody.TheVariants as bodies
use Rattle.rl_types.specs.declared.objects.ObjectState.{ObjectState}
use Rattle.rl_objmodel.specs.declared.plain.Applied.{Applied}
use Rattle.rl_objmodel.specs.declared.plain.Applied.TheVariants as outcomes
use Rattle.rl_objmodel.specs.Places.{at_text, with_at}
use Rattle.rl_objmodel.specs.Operations.{id_in, is_create, is_delete, suits, is_root}
use Rattle.rl_objmodel.specs.Held.{Written, Value, Removed, Write, value_written, removal, value_in, Cells, is_collected, is_collected_write, HeldBody, Sum, Keys, Held, empty_body, bare_root, shown}
use Rattle.rl_objmodel.specs.Objects.{greater, greater_serial, read_value}
use Rattle.rl_objmodel.specs.Rules.{Setting, or_next, op_rule, serial_at, with_serial, sum_held}

-- SITES (RTLO4a)

-- a serial is greater than this one, or there is none
abbrev pub is_above : Option OpSerial → OpSerial → Bool
is_above None serial = true
is_above (Some last) serial = is_below last serial

-- the site test: the operation's site has no serial, or a smaller one
abbrev pub passes : OpSerial → List (List ℕ × OpSerial) → Bool
passes serial sites = is_above (at_text serial.site sites) serial

-- the sites with this serial as that of its site
abbrev pub with_site : OpSerial → List (List ℕ × OpSerial) → List (List ℕ × OpSerial)
with_site serial sites = with_at serial.site serial sites

-- a site as it was told, where it has no greater serial
abbrev pub with_told_site : List ℕ × OpSerial → List (List ℕ × OpSerial) → List (List ℕ × OpSerial)
with_told_site one sites = with_at one.0 (greater_serial (at_text one.0 sites) one.1) sites

-- sites in whatever order they were told, put in order; of one site the greatest serial stays
abbrev pub told_sites : List (List ℕ × OpSerial) → List (List ℕ × OpSerial) → List (List ℕ × OpSerial)
told_sites [] sites = sites
told_sites (one ∷ more) sites = told_sites more (with_told_site one sites)

abbrev pub sites_of : List (List ℕ × OpSerial) → List (List ℕ × OpSerial)
sites_of told = told_sites told []

-- A COUNTER'S SUM (RTLC)

-- an amount that is added: the sum passes its range, or it does not
abbrev pub is_past_range : ℤ → Bool
is_past_range sum = nat_lt (unsigned_abs MAX_COUNTER_SUM) (unsigned_abs sum)

-- what an operation adds to a counter, by whether it was created: a create adds its count once
abbrev pub added : Op → Bool → Option ℤ
added (CounterCreate id count) true = None
added (CounterCreate id count) false = Some count
added (CounterInc id amount) created = Some amount
added _ created = None

abbrev pub sum_after : ℤ → Option ℤ → ℤ
sum_after sum None = sum
sum_after sum (Some amount) = sum +ℤ amount

-- it adds something, and the sum would pass its range
abbrev pub passes_range : ℤ → Option ℤ → Bool
passes_range sum None = false
passes_range sum (Some amount) = is_past_range (sum +ℤ amount)

abbrev pub is_counter_create : Op → Bool
is_counter_create (CounterCreate id count) = true
is_counter_create _ = false

abbrev pub is_counter_op : Op → Bool
is_counter_op (CounterCreate id count) = true
is_counter_op (CounterInc id amount) = true
is_counter_op _ = false

-- a counter that is held
pub record Tally : Type 0 where
  pub sites : List (List ℕ × OpSerial)
  pub created : Bool
  pub sum : ℤ

abbrev pub zero_tally : Tally
zero_tally = record { sites = []; created = false; sum = pos 0 }

-- the sum that an operation makes, where it does not pass its range
abbrev pub sum_made : ℤ → Option ℤ → Option ℤ
sum_made sum more = if passes_range sum more then None else Some (sum_after sum more)

-- what becomes of an operation on a counter
abbrev pub tally_outcome : OpSerial → Op → Tally → Applied
tally_outcome serial op tally =
    if not (passes serial tally.sites) then outcomes.Skipped
    else if passes_range tally.sum (added op tally.created) then outcomes.Range
    else outcomes.Applied

-- a counter to which an operation was applied
abbrev pub tally_with : OpSerial → Op → Tally → Tally
tally_with serial op tally =
    record {
      sites = with_site serial tally.sites;
      created = is_counter_create op || tally.created;
      sum = sum_after tally.sum (added op tally.created);
    }

abbrev pub tally_if : Applied → Tally → Tally → Tally
tally_if outcomes.Applied new old = new
tally_if _ new old = old

-- what it makes of a counter: one that is not applied changes nothing
abbrev pub tally_after : OpSerial → Op → Tally → Tally
tally_after serial op tally = tally_if (tally_outcome serial op tally) (tally_with serial op tally) tally

-- THE CELLS OF A MAP (RTLM)

-- a write of this serial changes what stands at a key: nothing stands there, or what has a smaller serial
abbrev pub changes : List ℕ → OpSerial → Cells → Bool
changes key serial cells = is_above (option_map (λ (w : Write). w.serial) (at_text key cells)) serial

-- the cells with a write at a key; of two writes at one key the one of the greater serial stays
abbrev pub with_write : List ℕ → Write → Cells → Cells
with_write key write cells = with_at key (greater (at_text key cells) write) cells

-- with several writes, one after another
abbrev pub with_writes : Cells → Cells → Cells
with_writes [] cells = cells
with_writes (one ∷ more) cells = with_writes more (with_write one.0 one.1 cells)

-- what a create writes
abbrev pub entry_write : OpSerial → List ℕ × MapValue → List ℕ × Write
entry_write serial entry = (entry.0, value_written serial entry.1)

abbrev pub entry_writes : OpSerial → List (List ℕ × MapValue) → Cells
entry_writes serial entries = map (entry_write serial) entries

-- what a page told: a tombstone cell has the moment at which it was told
abbrev pub told_written : ℕ → Option MapValue → Written
told_written now None = Removed now
told_written now (Some value) = Value value

abbrev pub told_write : ℕ → List ℕ × MapCell → List ℕ × Write
told_write now cell = (cell.0, record { serial = cell.1.serial; written = told_written now cell.1.value })

abbrev pub with_told : ℕ → List ℕ × MapCell → Cells → Cells
with_told now cell cells = with_write (told_write now cell).0 (told_write now cell).1 cells

abbrev pub told_cells : ℕ → List (List ℕ × MapCell) → Cells
told_cells now cells = with_writes (map (told_write now) cells) []

-- without the tombstone cells that are collected
abbrev pub collected_cells : ℕ → Cells → Cells
collected_cells now cells = filter (λ (cell : List ℕ × Write). not (is_collected_write now cell.1.written)) cells

-- a map that is held
pub record MapHeld : Type 0 where
  pub created : Bool
  pub cells : Cells

abbrev pub empty_map : MapHeld
empty_map = record { created = false; cells = [] }

-- a map's create is merged once
abbrev pub merged : OpSerial → List (List ℕ × MapValue) → MapHeld → MapHeld
merged serial entries held =
    if held.created then held else record { created = true; cells = with_writes (entry_writes serial entries) held.cells }

-- AN OBJECT

abbrev pub on_cells : (Cells → Cells) → HeldBody → HeldBody
on_cells change (Sum sum) = Sum sum
on_cells change (Keys cells) = Keys (change cells)

abbrev pub on_sum : (ℤ → ℤ) → HeldBody → HeldBody
on_sum change (Sum sum) = Sum (change sum)
on_sum change (Keys cells) = Keys cells

abbrev pub body_passes_range : HeldBody → Option ℤ → Bool
body_passes_range (Sum sum) more = passes_range sum more
body_passes_range (Keys cells) more = false

-- it is for another kind than the object's, whose kind is that of its id
abbrev pub is_misplaced : Op → Held → Bool
is_misplaced op held = not (suits (kind_of held.id) op)

-- what becomes of an operation on an object. A tombstone takes its serial, and nothing more
abbrev pub outcome : OpSerial → Op → Held → Applied
outcome serial op held =
    if is_misplaced op held || not (passes serial held.sites) then outcomes.Skipped
    else if is_none held.deleted && body_passes_range held.body (added op held.created) then outcomes.Range
    else outcomes.Applied

-- nothing of what it held (RTLO4e)
abbrev pub emptied : HeldBody → HeldBody
emptied (Sum sum) = Sum (pos 0)
emptied (Keys cells) = Keys []

-- what it changes in the body of an object that stands
abbrev pub changed : ℕ → OpSerial → Op → HeldBody → HeldBody
changed stamp serial (MapCreate id entries) body = on_cells (with_writes (entry_writes serial entries)) body
changed stamp serial (MapSet id key value) body = on_cells (with_write key (value_written serial value)) body
changed stamp serial (MapRemove id key) body = on_cells (with_write key (removal serial stamp)) body
changed stamp serial (CounterCreate id count) body = on_sum (λ sum. sum +ℤ count) body
changed stamp serial (CounterInc id amount) body = on_sum (λ sum. sum +ℤ amount) body
changed stamp serial (Delete id) body = emptied body

-- a create is merged once
abbrev pub body_after : ℕ → OpSerial → Op → Bool → HeldBody → HeldBody
body_after stamp serial op created body = if is_create op && created then body else changed stamp serial op body

abbrev pub created_after : Op → Bool → Bool
created_after op created = not (is_delete op) && (is_create op || created)

abbrev pub deleted_after : ℕ → Op → Option ℕ
deleted_after stamp op = if is_delete op then Some stamp else None

-- an object to which an operation was applied: of a tombstone only the sites change
abbrev pub held_by : Option ℕ → ℕ → OpSerial → Op → Held → Held
held_by (Some deleted) stamp serial op held = record held { sites = with_site serial held.sites }
held_by None stamp serial op held =
    record {
      id = held.id;
      sites = with_site serial held.sites;
      deleted = deleted_after stamp op;
      created = created_after op held.created;
      body = body_after stamp serial op held.created held.body;
    }

abbrev pub held_with : ℕ → OpSerial → Op → Held → Held
held_with stamp serial op held = held_by held.deleted stamp serial op held

abbrev pub held_if : Applied → Held → Held → Held
held_if outcomes.Applied new old = new
held_if _ new old = old

-- what an operation makes of an object: one that is not applied changes nothing
abbrev pub held_after : ℕ → OpSerial → Op → Held → Held
held_after stamp serial op held = held_if (outcome serial op held) (held_with stamp serial op held) held

-- ALL OBJECTS

-- an object that is missing is made by its id's kind, empty and not created
abbrev pub new_held : ObjectId → Held
new_held id = record { id = id; sites = []; deleted = None; created = false; body = empty_body (kind_of id) }

-- ids are told apart by their texts
abbrev pub is_held_as : ObjectId → Held → Bool
is_held_as id held = is_eq (id_cmp id held.id)

abbrev pub held_at : ObjectId → List Held → Option Held
held_at id pool = find (is_held_as id) pool

abbrev pub target : ObjectId → List Held → Held
target id pool = unwrap_or (held_at id pool) (new_held id)

-- the objects, in order of id, with this one in place of its id's, or among them
abbrev pub with_held : Held → List Held → List Held
with_held held [] = held ∷ []
with_held held (other ∷ pool) =
    match_ordering (id_cmp held.id other.id) (held ∷ other ∷ pool) (held ∷ pool) (other ∷ with_held held pool)

-- what becomes of an operation; one without a serial is passed over
abbrev pub pool_outcome_by : Option OpSerial → Op → List Held → Applied
pool_outcome_by None op pool = outcomes.Skipped
pool_outcome_by (Some serial) op pool = outcome serial op (target (id_in op) pool)

abbrev pub pool_outcome : ObjectOp → List Held → Applied
pool_outcome op pool = pool_outcome_by op.serial op.op pool

abbrev pub pool_if : Applied → List Held → List Held → List Held
pool_if outcomes.Applied new old = new
pool_if _ new old = old

abbrev pub pool_with : ℕ → Option OpSerial → Op → List Held → List Held
pool_with stamp None op pool = pool
pool_with stamp (Some serial) op pool = with_held (held_with stamp serial op (target (id_in op) pool)) pool

-- what an operation with this stamp makes of all objects: one that is not applied changes nothing
abbrev pub pool_after_op : ℕ → ObjectOp → List Held → List Held
pool_after_op stamp op pool = pool_if (pool_outcome op pool) (pool_with stamp op.serial op.op pool) pool

-- several operations, one after another
abbrev pub pool_after : ℕ → List ObjectOp → List Held → List Held
pool_after stamp [] pool = pool
pool_after stamp (op ∷ ops) pool = pool_after stamp ops (pool_after_op stamp op pool)

abbrev pub pool_outcomes : ℕ → List ObjectOp → List Held → List Applied
pool_outcomes stamp [] pool = []
pool_outcomes stamp (op ∷ ops) pool = pool_outcome op pool ∷ pool_outcomes stamp ops (pool_after_op stamp op pool)

-- A TICK

abbrev pub collected_body : ℕ → HeldBody → HeldBody
collected_body now (Sum sum) = Sum sum
collected_body now (Keys cells) = Keys (collected_cells now cells)

-- a tombstone goes; the root never does
abbrev pub is_gone : ℕ → Held → Bool
is_gone now held = not (is_root held.id) && option_map_or (is_collected now) held.deleted false

abbrev pub collected_held : ℕ → Held → Option Held
collected_held now held = if is_gone now held then None else Some (record held { body = collected_body now held.body })

-- what a Tick leaves
abbrev pub collected : ℕ → List Held → List Held
collected now pool = filter_map (collected_held now) pool

-- WHAT A PAGE TOLD

abbrev pub is_counter_body : ObjectBody → Bool
is_counter_body (bodies.Counter sum) = true
is_counter_body (bodies.Map cells) = false

-- a counter as a page told it
abbrev pub loaded_tally : ObjectState → Tally
loaded_tally state = record { sites = sites_of state.sites; created = state.created; sum = sum_held state.body }

-- a map as a page told it
abbrev pub loaded_map : ℕ → Bool → List (List ℕ × MapCell) → MapHeld
loaded_map now created cells = record { created = created; cells = told_cells now cells }

abbrev pub told_body : ℕ → ObjectBody → HeldBody
told_body now (bodies.Counter sum) = Sum sum
told_body now (bodies.Map cells) = Keys (told_cells now cells)

-- an object as a page told it; a tombstone has the moment at which it was told
abbrev pub told_held : ℕ → ObjectState → Held
told_held now state =
    record {
      id = state.id;
      sites = sites_of state.sites;
      deleted = if state.tombstone then Some now else None;
      created = state.created;
      body = told_body now state.body;
    }

-- objects as a page told them, one after another: of one id the last; one whose body is not of its id's kind is passed
-- over

abbrev pub is_of_kind : ObjectKind → ObjectBody → Bool
is_of_kind kinds.Counter (bodies.Counter sum) = true
is_of_kind kinds.Map (bodies.Map cells) = true
is_of_kind kind _ = false

abbrev pub with_told_state : ℕ → ObjectState → List Held → List Held
with_told_state now state pool = if is_of_kind (kind_of state.id) state.body then with_held (told_held now state) pool else pool

abbrev pub told_pool : ℕ → List ObjectState → List Held → List Held
told_pool now [] pool = pool
told_pool now (state ∷ states) pool = told_pool now states (with_told_state now state pool)

-- with a root that nobody wrote to, where there is none
abbrev pub with_root : List Held → List Held
with_root pool = if is_some (held_at Root pool) then pool else with_held bare_root pool

abbrev pub replaced : ℕ → List ObjectState → List Held
replaced now states = with_root (told_pool now states [])

-- RULES

-- what a page would show of an object
abbrev pub state_at : List Held → ObjectId → Option ObjectState
state_at pool id = option_map shown (held_at id pool)

abbrev pub states : List Held → List ObjectState
states pool = map shown pool

abbrev pub numbered : Setting → ℕ → ℕ → ObjectOp → ObjectOp
numbered setting place index op = with_serial (serial_at setting.site place index) op

-- the code of the first rule that an operation breaks, by the objects before it and after it
abbrev pub pool_op_rule : ℕ → List Held → List Held → Op → Option ℕ
pool_op_rule now pool after op = op_rule now (state_at pool) (state_at after (id_in op)) (states after) op

-- the code of the first rule that operations break, as `ops_rule` says it of the operations that left these objects
abbrev pub pool_ops_rule : Setting → ℕ → ℕ → List Held → List ObjectOp → Option ℕ
pool_ops_rule setting place index pool [] = None
pool_ops_rule setting place index pool (op ∷ ops) =
    or_next (pool_op_rule setting.now pool (pool_after_op setting.now (numbered setting place index op) pool) op.op)
    (pool_ops_rule setting place (suc index) (pool_after_op setting.now (numbered setting place index op) pool) ops)

-- WHAT IS LIVE

-- the root, and each object that was created and not deleted
abbrev pub is_live_held : Held → Bool
is_live_held held = is_root held.id || held.created && is_none held.deleted

abbrev pub lives_in : List Held → ObjectId → Bool
lives_in pool id = option_map_or is_live_held (held_at id pool) false

-- a key that reads as absent is left out
abbrev pub read_cell : (ObjectId → Bool) → List ℕ × Write → Option (List ℕ × MapCell)
read_cell lives cell =
    option_map (λ (value : MapValue). (cell.0, record { serial = cell.1.serial; value = Some value })) (read_value lives (value_in cell.1.written))

abbrev pub read_body : (ObjectId → Bool) → HeldBody → ObjectBody
read_body lives (Sum sum) = bodies.Counter sum
read_body lives (Keys cells) = bodies.Map (filter_map (read_cell lives) cells)

-- the live objects, in order of id
abbrev pub live_states : List Held → List ObjectState
live_states pool = map (λ (held : Held). record (shown held) { body = read_body (lives_in pool) held.body }) (filter is_live_held pool)

-- the pool is an empty root
abbrev pub has_no_cell : HeldBody → Bool
has_no_cell (Keys []) = true
has_no_cell _ = false

abbrev pub is_bare : List Held → Bool
is_bare (held ∷ []) = is_root held.id && has_no_cell held.body
is_bare _ = false
