-- What is held, with its moments forgotten: what operations do does not depend on them.
use Rattle.std.proofs.Common.{◌≡◌, ℕ, Bool, true, false, cond, List, [], ◌∷◌, refl, ap, sym, ◌∙◌}
use Rattle.std.specs.Prelude.{map, option_map, ◌&&◌, ◌||◌, not, is_none, is_some, unwrap_or, bytes_eq, Option, Some, None, ℤ, ◌+ℤ◌}
use Rattle.std.specs.declared.cmp.Ordering.{Ordering}
use Rattle.std.specs.declared.cmp.Ordering.TheVariants.{Less, Equal, Greater}
use Rattle.std.specs.Ordering.{nat_cmp, match_ordering, is_eq}
use Rattle.std.specs.Cmp.Lexicographic.{slice_cmp}
use Rattle.rl_ids.specs.declared.objects.MapValue.{MapValue}
use Rattle.rl_ids.specs.declared.objects.ObjectKind.{ObjectKind}
use Rattle.rl_ids.specs.declared.objects.ObjectKind.TheVariants as kinds
use Rattle.rl_ids.specs.declared.objects.ObjectId.{ObjectId}
use Rattle.rl_ids.specs.declared.serials.OpSerial.{OpSerial}
use Rattle.rl_ids.specs.Objects.{id_cmp, kind_of, is_below}
use Rattle.rl_types.specs.declared.objects.MapCell.{MapCell}
use Rattle.rl_types.specs.declared.objects.ObjectBody.{ObjectBody}
use Rattle.rl_types.specs.declared.objects.ObjectBody.TheVariants as bodies
use Rattle.rl_types.specs.declared.objects.ObjectState.{ObjectState}
use Rattle.rl_types.specs.declared.objects.Op.{Op}
use Rattle.rl_types.specs.declared.objects.Op.TheVariants.{MapCreate, MapSet, MapRemove, CounterCreate, CounterInc, Delete}
use Rattle.rl_types.specs.declared.objects.ObjectOp.{ObjectOp}
use Rattle.rl_objmodel.specs.declared.plain.Applied.{Applied}
use Rattle.rl_objmodel.specs.declared.plain.Applied.TheVariants as outcomes
use Rattle.rl_objmodel.specs.Operations.{id_in, is_create, is_delete}
use Rattle.rl_objmodel.specs.Held.{Written, Value, Removed, Write, value_written, removal, value_in, Cells, shown_cell, HeldBody, Sum, Keys, Held, empty_body, shown_body, shown}
use Rattle.rl_objmodel.specs.Objects.{greater}
use Rattle.rl_objmodel.specs.Places.{at_text, with_at}
use Rattle.rl_objmodel.specs.Steps.{passes, with_site, added, with_write, with_writes, entry_writes, on_cells, on_sum, body_passes_range, is_misplaced, outcome, emptied, changed, body_after, created_after, deleted_after, held_with, new_held, held_at, target, with_held, pool_outcome_by, pool_if, pool_with, pool_after_op, states, told_write}

-- FORGOTTEN

abbrev no_written : Written → Written
no_written (Value value) = Value value
no_written (Removed stamp) = Removed 0

abbrev no_write : Write → Write
no_write write = record { serial = write.serial; written = no_written write.written }

abbrev no_cell : List ℕ × Write → List ℕ × Write
no_cell cell = (cell.0, no_write cell.1)

abbrev no_body : HeldBody → HeldBody
no_body (Sum sum) = Sum sum
no_body (Keys cells) = Keys (map no_cell cells)

abbrev no_deleted : Option ℕ → Option ℕ
no_deleted None = None
no_deleted (Some stamp) = Some 0

abbrev pub unstamped : Held → Held
unstamped held = record { id = held.id; sites = held.sites; deleted = no_deleted held.deleted; created = held.created; body = no_body held.body }

-- CELLS

cons_cell : (one : List ℕ × Write) (xs ys : Cells) → xs ≡ ys → one ∷ xs ≡ one ∷ ys
cons_cell one xs ys h = cc

put_at : (key : List ℕ) (w : Write) (cell : List ℕ × Write) (cells : Cells) (o : Ordering) → map no_cell (with_at key w cells) ≡ with_at key (no_write w) (map no_cell cells)
    → map no_cell (match_ordering o ((key, w) ∷ cell ∷ cells) ((key, w) ∷ cells) (cell ∷ with_at key w cells)) ≡ match_ordering o ((key, no_write w) ∷ no_cell cell ∷ map no_cell cells) ((key, no_write w) ∷ map no_cell cells) (no_cell cell ∷ with_at key (no_write w) (map no_cell cells))
put_at key w cell cells Less h = refl
put_at key w cell cells Equal h = refl
put_at key w cell cells Greater h = cons_cell _ _ _ h

put_cell : (key : List ℕ) (w : Write) (cells : Cells) → map no_cell (with_at key w cells) ≡ with_at key (no_write w) (map no_cell cells)
put_cell key w [] = refl
put_cell key w (cell ∷ cells) = put_at key w cell cells (slice_cmp nat_cmp key cell.0) (put_cell key w cells)

there_at : (b : Bool) (w : Write) (o p : Option Write) → o ≡ option_map no_write p → cond b (Some (no_write w)) o ≡ option_map no_write (cond b (Some w) p)
there_at true w o p h = refl
there_at false w o p h = h

there_cell : (key : List ℕ) (cells : Cells) → at_text key (map no_cell cells) ≡ option_map no_write (at_text key cells)
there_cell key [] = refl
there_cell key (cell ∷ cells) = there_at (bytes_eq key cell.0) cell.1 _ _ (there_cell key cells)

pick : (b : Bool) (v w : Write) → cond b (no_write w) (no_write v) ≡ no_write (cond b w v)
pick true v w = refl
pick false v w = refl

greater_cell : (there : Option Write) (w : Write) → greater (option_map no_write there) (no_write w) ≡ no_write (greater there w)
greater_cell None w = refl
greater_cell (Some v) w = pick (is_below v.serial w.serial) v w

write_cell : (key : List ℕ) (w : Write) (cells : Cells) → map no_cell (with_write key w cells) ≡ with_write key (no_write w) (map no_cell cells)
write_cell key w cells =
    put_cell key (greater (at_text key cells) w) cells
    ∙ ap (λ (one : Write). with_at key one (map no_cell cells)) (sym (greater_cell (at_text key cells) w) ∙ ap (λ (o : Option Write). greater o (no_write w)) (sym (there_cell key cells)))

entries_cell : (serial : OpSerial) (entries : List (List ℕ × MapValue)) (cells : Cells) → map no_cell (with_writes (entry_writes serial entries) cells) ≡ with_writes (entry_writes serial entries) (map no_cell cells)
entries_cell serial [] cells = refl
entries_cell serial (entry ∷ entries) cells =
    entries_cell serial entries (with_write entry.0 (value_written serial entry.1) cells)
    ∙ ap (with_writes (entry_writes serial entries)) (write_cell entry.0 (value_written serial entry.1) cells)

-- BODIES

cells_body : (f g : Cells → Cells) → ((cells : Cells) → map no_cell (f cells) ≡ g (map no_cell cells)) → (body : HeldBody) → no_body (on_cells f body) ≡ on_cells g (no_body body)
cells_body f g h (Sum sum) = refl
cells_body f g h (Keys cells) = ap Keys (h cells)

sum_body : (n : ℤ) (body : HeldBody) → no_body (on_sum (λ sum. sum +ℤ n) body) ≡ on_sum (λ sum. sum +ℤ n) (no_body body)
sum_body n (Sum sum) = refl
sum_body n (Keys cells) = refl

emptied_body : (body : HeldBody) → no_body (emptied body) ≡ emptied (no_body body)
emptied_body (Sum sum) = refl
emptied_body (Keys cells) = refl

changed_body : (stamp : ℕ) (s : OpSerial) (op : Op) (body : HeldBody) → no_body (changed stamp s op body) ≡ changed 0 s op (no_body body)
changed_body stamp s (MapCreate id es) body = cells_body _ _ (λ cells. entries_cell s es cells) body
changed_body stamp s (MapSet id key value) body = cells_body _ _ (λ cells. write_cell key (value_written s value) cells) body
changed_body stamp s (MapRemove id key) body = cells_body _ _ (λ cells. write_cell key (removal s stamp) cells) body
changed_body stamp s (CounterCreate id n) body = sum_body n body
changed_body stamp s (CounterInc id n) body = sum_body n body
changed_body stamp s (Delete id) body = emptied_body body

if_body : (b : Bool) (old new new2 : HeldBody) → no_body new ≡ new2 → no_body (cond b old new) ≡ cond b (no_body old) new2
if_body true old new new2 h = refl
if_body false old new new2 h = h

if_deleted : (b : Bool) (stamp : ℕ) → no_deleted (cond b (Some stamp) None) ≡ cond b (Some 0) None
if_deleted true stamp = refl
if_deleted false stamp = refl

-- OBJECTS

abbrev object_with : ObjectId → List (List ℕ × OpSerial) → Option ℕ → Bool → HeldBody → Held
object_with id sites deleted created body = record { id = id; sites = sites; deleted = deleted; created = created; body = body }

with_by : (stamp : ℕ) (s : OpSerial) (op : Op) (id : ObjectId) (sites : List (List ℕ × OpSerial)) (deleted : Option ℕ) (created : Bool) (body : HeldBody) → unstamped (held_with stamp s op (object_with id sites deleted created body)) ≡ held_with 0 s op (unstamped (object_with id sites deleted created body))
with_by stamp s op id sites (Some d) created body = refl
with_by stamp s op id sites None created body =
    ap (λ (d : Option ℕ). object_with id (with_site s sites) d (created_after op created) (no_body (body_after stamp s op created body))) (if_deleted (is_delete op) stamp)
    ∙ ap (object_with id (with_site s sites) (deleted_after 0 op) (created_after op created)) (if_body (is_create op && created) body (changed stamp s op body) (changed 0 s op (no_body body)) (changed_body stamp s op body))

with_object : (stamp : ℕ) (s : OpSerial) (op : Op) (held : Held) → unstamped (held_with stamp s op held) ≡ held_with 0 s op (unstamped held)
with_object stamp s op held = with_by stamp s op held.id held.sites held.deleted held.created held.body

none_same : (deleted : Option ℕ) → is_none (no_deleted deleted) ≡ is_none deleted
none_same None = refl
none_same (Some d) = refl

passes_same : (body : HeldBody) (more : Option ℤ) → body_passes_range (no_body body) more ≡ body_passes_range body more
passes_same (Sum sum) more = refl
passes_same (Keys cells) more = refl

outcome_same : (s : OpSerial) (op : Op) (held : Held) → outcome s op (unstamped held) ≡ outcome s op held
outcome_same s op held =
    ap (λ (b : Bool). cond (is_misplaced op held || not (passes s held.sites)) outcomes.Skipped (cond (b && body_passes_range (no_body held.body) (added op held.created)) outcomes.Range outcomes.Applied)) (none_same held.deleted)
    ∙ ap (λ (b : Bool). cond (is_misplaced op held || not (passes s held.sites)) outcomes.Skipped (cond (is_none held.deleted && b) outcomes.Range outcomes.Applied)) (passes_same held.body (added op held.created))

-- POOLS

abbrev Pool : Type 0
Pool = List Held

abbrev pub no_stamps : Pool → Pool
no_stamps pool = map unstamped pool

cons_held : (one : Held) (xs ys : Pool) → xs ≡ ys → one ∷ xs ≡ one ∷ ys
cons_held one xs ys h = cc

hold_at : (held other : Held) (pool : Pool) (o : Ordering) → no_stamps (with_held held pool) ≡ with_held (unstamped held) (no_stamps pool)
    → no_stamps (match_ordering o (held ∷ other ∷ pool) (held ∷ pool) (other ∷ with_held held pool)) ≡ match_ordering o (unstamped held ∷ unstamped other ∷ no_stamps pool) (unstamped held ∷ no_stamps pool) (unstamped other ∷ with_held (unstamped held) (no_stamps pool))
hold_at held other pool Less h = refl
hold_at held other pool Equal h = refl
hold_at held other pool Greater h = cons_held _ _ _ h

hold : (held : Held) (pool : Pool) → no_stamps (with_held held pool) ≡ with_held (unstamped held) (no_stamps pool)
hold held [] = refl
hold held (other ∷ pool) = hold_at held other pool (id_cmp held.id other.id) (hold held pool)

found_at : (b : Bool) (held : Held) (o p : Option Held) → o ≡ option_map unstamped p → cond b (Some (unstamped held)) o ≡ option_map unstamped (cond b (Some held) p)
found_at true held o p h = refl
found_at false held o p h = h

found : (id : ObjectId) (pool : Pool) → held_at id (no_stamps pool) ≡ option_map unstamped (held_at id pool)
found id [] = refl
found id (held ∷ pool) = found_at (is_eq (id_cmp id held.id)) held _ _ (found id pool)

empty_same : (kind : ObjectKind) → no_body (empty_body kind) ≡ empty_body kind
empty_same kinds.Map = refl
empty_same kinds.Counter = refl

or_new : (id : ObjectId) (o : Option Held) → unwrap_or (option_map unstamped o) (new_held id) ≡ unstamped (unwrap_or o (new_held id))
or_new id None = ap (object_with id [] None false) (sym (empty_same (kind_of id)))
or_new id (Some held) = refl

target_same : (id : ObjectId) (pool : Pool) → target id (no_stamps pool) ≡ unstamped (target id pool)
target_same id pool = ap (λ (o : Option Held). unwrap_or o (new_held id)) (found id pool) ∙ or_new id (held_at id pool)

outcomes_same : (serial : Option OpSerial) (op : Op) (pool : Pool) → pool_outcome_by serial op (no_stamps pool) ≡ pool_outcome_by serial op pool
outcomes_same None op pool = refl
outcomes_same (Some s) op pool = ap (outcome s op) (target_same (id_in op) pool) ∙ outcome_same s op (target (id_in op) pool)

with_same : (stamp : ℕ) (serial : Option OpSerial) (op : Op) (pool : Pool) → no_stamps (pool_with stamp serial op pool) ≡ pool_with 0 serial op (no_stamps pool)
with_same stamp None op pool = refl
with_same stamp (Some s) op pool =
    hold (held_with stamp s op (target (id_in op) pool)) pool
    ∙ ap (λ (one : Held). with_held one (no_stamps pool)) (with_object stamp s op (target (id_in op) pool) ∙ ap (held_with 0 s op) (sym (target_same (id_in op) pool)))

if_same : (outcome : Applied) (new old : Pool) → no_stamps (pool_if outcome new old) ≡ pool_if outcome (no_stamps new) (no_stamps old)
if_same outcomes.Applied new old = refl
if_same outcomes.Skipped new old = refl
if_same outcomes.Range new old = refl

by_same : (stamp : ℕ) (serial : Option OpSerial) (op : Op) (pool : Pool) → no_stamps (pool_if (pool_outcome_by serial op pool) (pool_with stamp serial op pool) pool) ≡ pool_if (pool_outcome_by serial op (no_stamps pool)) (pool_with 0 serial op (no_stamps pool)) (no_stamps pool)
by_same stamp serial op pool =
    if_same (pool_outcome_by serial op pool) (pool_with stamp serial op pool) pool
    ∙ ap (λ (new : Pool). pool_if (pool_outcome_by serial op pool) new (no_stamps pool)) (with_same stamp serial op pool)
    ∙ ap (λ (o : Applied). pool_if o (pool_with 0 serial op (no_stamps pool)) (no_stamps pool)) (sym (outcomes_same serial op pool))

pub one_same : (stamp : ℕ) (op : ObjectOp) (pool : Pool) → no_stamps (pool_after_op stamp op pool) ≡ pool_after_op 0 op (no_stamps pool)
one_same stamp op pool = by_same stamp op.serial op.op pool

pub outcome_of : (op : ObjectOp) (pool : Pool) → pool_outcome_by op.serial op.op (no_stamps pool) ≡ pool_outcome_by op.serial op.op pool
outcome_of op pool = outcomes_same op.serial op.op pool

-- WHAT IS SHOWN

value_same : (written : Written) → value_in (no_written written) ≡ value_in written
value_same (Value value) = refl
value_same (Removed stamp) = refl

abbrev cell_with : List ℕ × Write → Option MapValue → List ℕ × MapCell
cell_with cell value = (cell.0, record { serial = cell.1.serial; value = value })

cons_shown : (x y : List ℕ × MapCell) (xs ys : List (List ℕ × MapCell)) → x ≡ y → xs ≡ ys → x ∷ xs ≡ y ∷ ys
cons_shown x y xs ys h k = cc

cells_shown : (cells : Cells) → map shown_cell (map no_cell cells) ≡ map shown_cell cells
cells_shown [] = refl
cells_shown (cell ∷ cells) = cons_shown _ _ _ _ (ap (cell_with cell) (value_same cell.1.written)) (cells_shown cells)

body_shown : (body : HeldBody) → shown_body (no_body body) ≡ shown_body body
body_shown (Sum sum) = refl
body_shown (Keys cells) = ap bodies.Map (cells_shown cells)

some_same : (deleted : Option ℕ) → is_some (no_deleted deleted) ≡ is_some deleted
some_same None = refl
some_same (Some d) = refl

abbrev state_with : Held → Bool → ObjectBody → ObjectState
state_with held tombstone body = record { id = held.id; sites = held.sites; tombstone = tombstone; created = held.created; body = body }

held_shown : (held : Held) → shown (unstamped held) ≡ shown held
held_shown held =
    ap (λ (b : Bool). state_with held b (shown_body (no_body held.body))) (some_same held.deleted) ∙ ap (state_with held (is_some held.deleted)) (body_shown held.body)

cons_state : (x y : ObjectState) (xs ys : List ObjectState) → x ≡ y → xs ≡ ys → x ∷ xs ≡ y ∷ ys
cons_state x y xs ys h k = cc

pub states_same : (pool : Pool) → states (no_stamps pool) ≡ states pool
states_same [] = refl
states_same (held ∷ pool) = cons_state _ _ _ _ (held_shown held) (states_same pool)

-- PAGES TELL ALL BUT THE MOMENTS

abbrev body_told : ObjectBody → HeldBody
body_told (bodies.Counter sum) = Sum sum
body_told (bodies.Map cells) = Keys (map (told_write 0) cells)

abbrev deleted_told : Bool → Option ℕ
deleted_told true = Some 0
deleted_told false = None

abbrev told : ObjectState → Held
told state = record { id = state.id; sites = state.sites; deleted = deleted_told state.tombstone; created = state.created; body = body_told state.body }

cell_told : (serial : OpSerial) (key : List ℕ) (written : Written) → no_cell (key, record { serial = serial; written = written }) ≡ told_write 0 (shown_cell (key, record { serial = serial; written = written }))
cell_told serial key (Value value) = refl
cell_told serial key (Removed stamp) = refl

cells_told : (cells : Cells) → map no_cell cells ≡ map (told_write 0) (map shown_cell cells)
cells_told [] = refl
cells_told (cell ∷ cells) = ap (λ (c : List ℕ × Write). c ∷ map no_cell cells) (cell_told cell.1.serial cell.0 cell.1.written) ∙ ap (λ (cs : Cells). told_write 0 (shown_cell cell) ∷ cs) (cells_told cells)

all_told : (body : HeldBody) → no_body body ≡ body_told (shown_body body)
all_told (Sum sum) = refl
all_told (Keys cells) = ap Keys (cells_told cells)

when_told : (deleted : Option ℕ) → no_deleted deleted ≡ deleted_told (is_some deleted)
when_told None = refl
when_told (Some stamp) = refl

held_told : (held : Held) → unstamped held ≡ told (shown held)
held_told held =
    ap (λ (deleted : Option ℕ). record (unstamped held) { deleted = deleted }) (when_told held.deleted)
    ∙ ap (λ (body : HeldBody). record (told (shown held)) { body = body }) (all_told held.body)

pool_told : (pool : Pool) → no_stamps pool ≡ map told (states pool)
pool_told [] = refl
pool_told (held ∷ pool) = ap (λ (h : Held). h ∷ no_stamps pool) (held_told held) ∙ ap (λ (p : Pool). told (shown held) ∷ p) (pool_told pool)

pub shown_alike : (pool other : Pool) → states pool ≡ states other → no_stamps pool ≡ no_stamps other
shown_alike pool other same = pool_told pool ∙ ap (map told) same ∙ sym (pool_told other)
