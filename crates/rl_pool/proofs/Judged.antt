-- Operations that enter as the newest are judged by what a pool shows but for its serials.
use Rattle.std.proofs.Common.{◌≡◌, ℕ, suc, ◌+◌, ◌<◌, Bool, true, false, List, [], ◌∷◌, length, refl, ap, sym, subst, ◌∙◌, arith, sum_by}
use Rattle.std.specs.Prelude.{map, is_some, not, ◌||◌, nat_lt, Option, Some, None, ℤ, ◌+ℤ◌, Result, Ok, Err, IfOk}
use Rattle.std.specs.List.{AllByRecursion}
use Rattle.std.specs.Option.{option_map_or}
use Rattle.std.specs.Cmp.{nat_cmp_is}
use Rattle.std.specs.declared.cmp.Ordering.{Ordering}
use Rattle.std.specs.declared.cmp.Ordering.TheVariants.{Less, Equal}
use Rattle.std.specs.Ordering.{nat_cmp, is_lt, ordering_then}
use Rattle.std.specs.Cmp.Lexicographic.{slice_cmp}
use Rattle.std.proofs.lemmas.List.Sums.{sum_by-cons}
use Rattle.rl_numbers.specs.declared.codes.TheConstants.{POOL_LIMIT, RANGE, WRONG_KIND, DUPLICATE_OBJECT, STALE_ID, TOMBSTONED}
use Rattle.rl_numbers.specs.declared.limits.TheConstants.{MAX_OBJECTS, MAX_MAP_CELLS, MAX_POOL_WEIGHT, MAX_OBJECT_WEIGHT, CELL_WEIGHT, OBJECT_WEIGHT}
use Rattle.rl_ids.specs.declared.objects.ObjectKind.{ObjectKind}
use Rattle.rl_ids.specs.declared.objects.ObjectKind.TheVariants as kinds
use Rattle.rl_ids.specs.declared.objects.ObjectId.{ObjectId}
use Rattle.rl_ids.specs.declared.objects.MapValue.{MapValue}
use Rattle.rl_ids.specs.declared.objects.MapValue.TheVariants as values
use Rattle.rl_ids.specs.declared.serials.OpSerial.{OpSerial}
use Rattle.rl_ids.specs.Objects.{is_below, same_kind, kind_of}
use Rattle.rl_types.specs.declared.objects.Op.{Op}
use Rattle.rl_types.specs.declared.objects.Op.TheVariants.{MapCreate, MapSet, MapRemove, CounterCreate, CounterInc, Delete}
use Rattle.rl_types.specs.declared.objects.ObjectOp.{ObjectOp}
use Rattle.rl_types.specs.Weight.{cell_weight, held_weight, held_in, state_weight}
use Rattle.rl_objmodel.specs.Held.{Written, Write, Cells, HeldBody, Sum, Keys, Held, value_in, shown, shown_body, shown_cell}
use Rattle.rl_objmodel.specs.Operations.{id_in, values_of, is_root}
use Rattle.rl_objmodel.specs.Rules.{Setting, cells_held, cells_in, sum_held, create_rule, change_rule, delete_rule, fails_if, is_heavy, is_stale, is_wide, length_rule, missing_rule, or_next, pool_rule, range_rule, serial_at, sum_in, target_rule, value_rule, values_rule}
use Rattle.rl_objmodel.specs.Steps.{held_at, pool_op_rule, pool_ops_rule, state_at, states}
use Rattle.rl_livemap.specs.Stamps.{unnumbered, unnumbered_cell}
use Rattle.rl_objrules.specs.Ids.{AreAscending, IsAscending}
use Rattle.rl_object.specs.Unnumbered.{unnumbered_body}
use Rattle.rl_pool.specs.Changes.{op_entered}
use Rattle.rl_pool.specs.Checks.{AreBelow, HoldsBelow, cells_of, numbered_rules, unnumbered_pool}
use Rattle.rl_objrules.specs.declared.load.Shelf.{Shelf}
use Rattle.rl_objrules.specs.Loads.{load_in, HasRoot, IsSound}
use Rattle.rl_pool.proofs.Roots.{root_copied}
use Rattle.rl_objrules.specs.Rules.{shown_at}
use Rattle.rl_objrules.proofs.Places.{AllAfter}
use Rattle.rl_pool.proofs.Alike.{SitesUnder, CellsUnder, PoolUnder, CellsLike, BodyLike, HeldLike, PoolLike, OptLike, found_like, entered_like, entered_under}

-- ONE OBJECT THAT IS FOUND OR NOT

some_like : (o p : Option Held) → OptLike o p → is_some (shown_at o) ≡ is_some (shown_at p)
some_like None None h = refl
some_like None (Some b) h = absurd h
some_like (Some a) None h = absurd h
some_like (Some a) (Some b) h = refl

missing_like : (o p : Option Held) → OptLike o p → missing_rule (shown_at o) ≡ missing_rule (shown_at p)
missing_like None None h = refl
missing_like None (Some b) h = absurd h
missing_like (Some a) None h = absurd h
missing_like (Some a) (Some b) h = ap (λ (d : Option ℕ). fails_if TOMBSTONED (is_some d)) h.deleted

sums_like : (x y : HeldBody) → BodyLike x y → sum_held (shown_body x) ≡ sum_held (shown_body y)
sums_like (Sum a) (Sum b) h = h
sums_like (Sum a) (Keys vs) h = absurd h
sums_like (Keys us) (Sum b) h = absurd h
sums_like (Keys us) (Keys vs) h = refl

sum_like : (o p : Option Held) → OptLike o p → sum_in (shown_at o) ≡ sum_in (shown_at p)
sum_like None None h = refl
sum_like None (Some b) h = absurd h
sum_like (Some a) None h = absurd h
sum_like (Some a) (Some b) h = sums_like a.body b.body h.body

create_like : (now : ℕ) (kind : ObjectKind) (id : ObjectId) (o p : Option Held) → OptLike o p → create_rule now kind id (shown_at o) ≡ create_rule now kind id (shown_at p)
create_like now kind id o p h =
    ap (λ (b : Bool). or_next (fails_if WRONG_KIND (is_root id || not (same_kind kind (kind_of id)))) (or_next (fails_if DUPLICATE_OBJECT b) (fails_if STALE_ID (is_stale now id)))) (some_like o p h)

change_like : (kind : ObjectKind) (id : ObjectId) (o p : Option Held) → OptLike o p → change_rule kind id (shown_at o) ≡ change_rule kind id (shown_at p)
change_like kind id o p h = ap (λ (r : Option ℕ). or_next r (fails_if WRONG_KIND (not (same_kind kind (kind_of id))))) (missing_like o p h)

delete_like : (id : ObjectId) (o p : Option Held) → OptLike o p → delete_rule id (shown_at o) ≡ delete_rule id (shown_at p)
delete_like id o p h = ap (λ (r : Option ℕ). or_next r (fails_if WRONG_KIND (is_root id))) (missing_like o p h)

-- ALL OBJECTS

cells_like : (us vs : Cells) → CellsLike us vs → length (map shown_cell us) ≡ length (map shown_cell vs)
cells_like [] [] h = refl
cells_like [] (b ∷ vs) h = absurd h
cells_like (a ∷ us) [] h = absurd h
cells_like (a ∷ us) (b ∷ vs) h = ap suc (cells_like us vs h.2)

count_like : (x y : HeldBody) → BodyLike x y → cells_held (shown_body x) ≡ cells_held (shown_body y)
count_like (Sum a) (Sum b) h = refl
count_like (Sum a) (Keys vs) h = absurd h
count_like (Keys us) (Sum b) h = absurd h
count_like (Keys us) (Keys vs) h = cells_like us vs h

abbrev weighed : List ℕ → Written → ℕ
weighed key written = CELL_WEIGHT + length key + held_weight (value_in written)

weight_like : (a b : List ℕ × Write) → a.0 ≡ b.0 → a.1.written ≡ b.1.written → cell_weight (shown_cell a) ≡ cell_weight (shown_cell b)
weight_like a b h k = ap (λ (key : List ℕ). weighed key a.1.written) h ∙ ap (weighed b.0) k

weights_like : (us vs : Cells) → CellsLike us vs → sum_by cell_weight (map shown_cell us) ≡ sum_by cell_weight (map shown_cell vs)
weights_like [] [] h = refl
weights_like [] (b ∷ vs) h = absurd h
weights_like (a ∷ us) [] h = absurd h
weights_like (a ∷ us) (b ∷ vs) h =
    omega (arith, sum_by-cons cell_weight (shown_cell a) (map shown_cell us), sum_by-cons cell_weight (shown_cell b) (map shown_cell vs), weight_like a b h.0 h.1, weights_like us vs h.2)

held_in_like : (x y : HeldBody) → BodyLike x y → held_in (shown_body x) ≡ held_in (shown_body y)
held_in_like (Sum a) (Sum b) h = refl
held_in_like (Sum a) (Keys vs) h = absurd h
held_in_like (Keys us) (Sum b) h = absurd h
held_in_like (Keys us) (Keys vs) h = weights_like us vs h

state_like : (a b : Held) → HeldLike a b → state_weight (shown a) ≡ state_weight (shown b)
state_like a b h = ap (λ (n : ℕ). OBJECT_WEIGHT + n) (held_in_like a.body b.body h.body)

lengths_like : (us vs : List Held) → PoolLike us vs → length (states us) ≡ length (states vs)
lengths_like [] [] h = refl
lengths_like [] (b ∷ vs) h = absurd h
lengths_like (a ∷ us) [] h = absurd h
lengths_like (a ∷ us) (b ∷ vs) h = ap suc (lengths_like us vs h.1)

counts_like : (us vs : List Held) → PoolLike us vs → sum_by cells_in (states us) ≡ sum_by cells_in (states vs)
counts_like [] [] h = refl
counts_like [] (b ∷ vs) h = absurd h
counts_like (a ∷ us) [] h = absurd h
counts_like (a ∷ us) (b ∷ vs) h =
    omega (arith, sum_by-cons cells_in (shown a) (states us), sum_by-cons cells_in (shown b) (states vs), count_like a.body b.body h.0.body, counts_like us vs h.1)

all_weights_like : (us vs : List Held) → PoolLike us vs → sum_by state_weight (states us) ≡ sum_by state_weight (states vs)
all_weights_like [] [] h = refl
all_weights_like [] (b ∷ vs) h = absurd h
all_weights_like (a ∷ us) [] h = absurd h
all_weights_like (a ∷ us) (b ∷ vs) h =
    omega (arith, sum_by-cons state_weight (shown a) (states us), sum_by-cons state_weight (shown b) (states vs), state_like a b h.0, all_weights_like us vs h.1)

heavy_like : (o p : Option Held) → OptLike o p → option_map_or is_heavy (shown_at o) false ≡ option_map_or is_heavy (shown_at p) false
heavy_like None None h = refl
heavy_like None (Some b) h = absurd h
heavy_like (Some a) None h = absurd h
heavy_like (Some a) (Some b) h = ap (nat_lt MAX_OBJECT_WEIGHT) (state_like a b h)

four : (a b c d e f g h : Bool) → a ≡ e → b ≡ f → c ≡ g → d ≡ h → (a || b || c || d) ≡ (e || f || g || h)
four a b c d e f g h p q r s = cc

pool_like : (id : ObjectId) (us vs : List Held) → PoolLike us vs → pool_rule (state_at us id) (states us) ≡ pool_rule (state_at vs id) (states vs)
pool_like id us vs h =
    ap (fails_if POOL_LIMIT) (four _ _ _ _ _ _ _ _
    (ap (nat_lt MAX_OBJECTS) (lengths_like us vs h))
    (ap (nat_lt MAX_MAP_CELLS) (counts_like us vs h))
    (heavy_like (held_at id us) (held_at id vs) (found_like id us vs h))
    (ap (nat_lt MAX_POOL_WEIGHT) (all_weights_like us vs h)))

-- ONE OPERATION

module _ (us vs : List Held) (same : PoolLike us vs) where
  found : (id : ObjectId) → OptLike (held_at id us) (held_at id vs)
  found id = found_like id us vs same

  target_like : (now : ℕ) (op : Op) → target_rule now (state_at us) op ≡ target_rule now (state_at vs) op
  target_like now (MapCreate id entries) = create_like now kinds.Map id _ _ (found id)
  target_like now (CounterCreate id count) = create_like now kinds.Counter id _ _ (found id)
  target_like now (MapSet id key value) = change_like kinds.Map id _ _ (found id)
  target_like now (MapRemove id key) = change_like kinds.Map id _ _ (found id)
  target_like now (CounterInc id amount) = change_like kinds.Counter id _ _ (found id)
  target_like now (Delete id) = delete_like id _ _ (found id)

  value_like : (value : MapValue) → value_rule (state_at us) value ≡ value_rule (state_at vs) value
  value_like (values.Ref id) = missing_like _ _ (found id)
  value_like (values.Text text) = refl
  value_like (values.Whole n) = refl
  value_like (values.Bool b) = refl
  value_like (values.Bytes bytes) = refl

  values_like : (all : List MapValue) → values_rule (state_at us) all ≡ values_rule (state_at vs) all
  values_like [] = refl
  values_like (value ∷ all) = ap (λ (r : Option ℕ). or_next r (values_rule (state_at us) all)) (value_like value) ∙ ap (or_next (value_rule (state_at vs) value)) (values_like all)

  range_like : (op : Op) → range_rule (state_at us) op ≡ range_rule (state_at vs) op
  range_like (CounterInc id amount) = ap (λ (sum : ℤ). fails_if RANGE (is_wide amount || is_wide (sum +ℤ amount))) (sum_like _ _ (found id))
  range_like (CounterCreate id count) = refl
  range_like (MapCreate id entries) = refl
  range_like (MapSet id key value) = refl
  range_like (MapRemove id key) = refl
  range_like (Delete id) = refl

  three : (l t t2 v v2 r r2 p p2 : Option ℕ) → t ≡ t2 → v ≡ v2 → r ≡ r2 → p ≡ p2 → or_next l (or_next t (or_next v (or_next r p))) ≡ or_next l (or_next t2 (or_next v2 (or_next r2 p2)))
  three l t t2 v v2 r r2 p p2 e f g h = cc

  rules_like : (now : ℕ) (op : Op) (xs ys : List Held) → PoolLike xs ys → pool_op_rule now us xs op ≡ pool_op_rule now vs ys op
  rules_like now op xs ys after = three (length_rule op) _ _ _ _ _ _ _ _ (target_like now op) (values_like (values_of op)) (range_like op) (pool_like (id_in op) xs ys after)

-- ALL OPERATIONS

lt_by : (o p q : Ordering) → Less ≡ o → is_lt (ordering_then o (ordering_then p q)) ≡ true
lt_by o p q e = rw (sym e) refl

lt_then : (o p q : Ordering) → Equal ≡ o → Less ≡ p → is_lt (ordering_then o (ordering_then p q)) ≡ true
lt_then o p q e f = rw (sym e) (rw (sym f) refl)

before_place : (x : OpSerial) (site : List ℕ) (place index : ℕ) → x.place < place → is_below x (serial_at site place index) ≡ true
before_place x site place index h = lt_by (nat_cmp x.place place) (nat_cmp x.index index) (slice_cmp nat_cmp x.site site) (nat_cmp_is x.place place Less h)

before_index : (site : List ℕ) (place index : ℕ) → is_below (serial_at site place index) (serial_at site place (suc index)) ≡ true
before_index site place index = lt_then (nat_cmp place place) (nat_cmp index (suc index)) (slice_cmp nat_cmp site site) (nat_cmp_is place place Equal refl) (nat_cmp_is index (suc index) Less (omega arith))

before_next : (site : List ℕ) (n : ℕ) → is_below (serial_at site (n + 1) 0) (serial_at site (n + 1 + 1) 0) ≡ true
before_next site n = before_place (serial_at site (n + 1) 0) site (n + 1 + 1) 0 (omega arith)

next_both : (a b c d : Option ℕ) → a ≡ b → c ≡ d → or_next a c ≡ or_next b d
next_both a b c d e f = cc

pub judged_like : (setting : Setting) (place index : ℕ) (site : List ℕ) (n : ℕ) (ops : List ObjectOp) (us vs : List Held) → PoolLike us vs → PoolUnder (serial_at setting.site place index) us → PoolUnder (serial_at site (n + 1) 0) vs → pool_ops_rule setting place index us ops ≡ numbered_rules site setting.now n vs ops
judged_like setting place index site n [] us vs h k l = refl
judged_like setting place index site n (op ∷ ops) us vs h k l =
    let s = serial_at setting.site place index in
    let t = serial_at site (n + 1) 0 in
    let after = entered_like s t setting.now op.op us vs h k l in
    next_both _ _ _ _
    (rules_like us vs h setting.now op.op (op_entered setting.now s op.op us) (op_entered setting.now t op.op vs) after)
    (judged_like setting place (suc index) site (n + 1) ops (op_entered setting.now s op.op us) (op_entered setting.now t op.op vs) after
    (entered_under s (serial_at setting.site place (suc index)) setting.now op.op us (before_index setting.site place index) k)
    (entered_under t (serial_at site (n + 1 + 1) 0) setting.now op.op vs (before_next site n) l))

-- A POOL AND ITS COPY

cells_copied : (cells : Cells) → CellsLike cells (unnumbered cells)
cells_copied [] = tt
cells_copied (one ∷ cells) = (refl, refl, cells_copied cells)

body_copied : (body : HeldBody) → BodyLike body (unnumbered_body body)
body_copied (Sum sum) = refl
body_copied (Keys cells) = cells_copied cells

pool_copied : (pool : List Held) → PoolLike pool (unnumbered_pool pool)
pool_copied [] = tt
pool_copied (held ∷ pool) = (record { id = refl; deleted = refl; created = refl; body = body_copied held.body }, pool_copied pool)

copied_cells : (site : List ℕ) (cells : Cells) → CellsUnder (serial_at site (0 + 1) 0) (unnumbered cells)
copied_cells site [] = tt
copied_cells site (one ∷ cells) = (before_place (unnumbered_cell one).1.serial site (0 + 1) 0 (omega arith), copied_cells site cells)

copied_body : (site : List ℕ) (body : HeldBody) → CellsUnder (serial_at site (0 + 1) 0) (cells_of (unnumbered_body body))
copied_body site (Sum sum) = tt
copied_body site (Keys cells) = copied_cells site cells

copied_under : (site : List ℕ) (pool : List Held) → PoolUnder (serial_at site (0 + 1) 0) (unnumbered_pool pool)
copied_under site [] = tt
copied_under site (held ∷ pool) = (record { sites = tt; cells = copied_body site held.body }, copied_under site pool)

sites_below : (site : List ℕ) (place : ℕ) (sites : List (List ℕ × OpSerial)) → AllByRecursion (λ (one : List ℕ × OpSerial). one.1.place < place) sites → SitesUnder (serial_at site place 0) sites
sites_below site place [] h = tt
sites_below site place (one ∷ sites) h = (before_place one.1 site place 0 h.0, sites_below site place sites h.1)

cells_below : (site : List ℕ) (place : ℕ) (cells : Cells) → AllByRecursion (λ (one : List ℕ × Write). one.1.serial.place < place) cells → CellsUnder (serial_at site place 0) cells
cells_below site place [] h = tt
cells_below site place (one ∷ cells) h = (before_place one.1.serial site place 0 h.0, cells_below site place cells h.1)

pool_below : (site : List ℕ) (place : ℕ) (pool : List Held) → AllByRecursion (HoldsBelow place) pool → PoolUnder (serial_at site place 0) pool
pool_below site place [] h = tt
pool_below site place (held ∷ pool) h = (record { sites = sites_below site place held.sites h.0.sites; cells = cells_below site place (cells_of held.body) h.0.cells }, pool_below site place pool h.1)

later_copied : (id : ObjectId) (pool : List Held) → AllAfter id pool → AllAfter id (unnumbered_pool pool)
later_copied id [] h = tt
later_copied id (held ∷ pool) h = (h.0, later_copied id pool h.1)

ascending_copied : (pool : List Held) → AreAscending pool → AreAscending (unnumbered_pool pool)
ascending_copied [] h = tt
ascending_copied (held ∷ pool) h = (later_copied held.id pool h.0, ascending_copied pool h.1)

pub copy_ascending : (pool made : List Held) → made ≡ unnumbered_pool pool → IsAscending pool → IsAscending made
copy_ascending pool made is h = subst IsAscending (sym is) (record { ascending = ascending_copied pool h.ascending })

pub copy_judged : (site : List ℕ) (now : ℕ) (pool made : List Held) (ops : List ObjectOp) (code : Option ℕ) → made ≡ unnumbered_pool pool → code ≡ numbered_rules site now 0 made ops → (setting : Setting) (place : ℕ) → setting.now ≡ now → AreBelow place pool → code ≡ pool_ops_rule setting place 0 pool ops
copy_judged site now pool made ops code is judged setting place same below =
    judged
    ∙ ap (λ (xs : List Held). numbered_rules site now 0 xs ops) is
    ∙ ap (λ (n : ℕ). numbered_rules site n 0 (unnumbered_pool pool) ops) (sym same)
    ∙ sym (judged_like setting place 0 site 0 ops pool (unnumbered_pool pool) (pool_copied pool) (pool_below setting.site place pool below.all) (copied_under site pool))

pub pool_checked : {E : Type 0} (r : Result (Option ℕ) E) (site : List ℕ) (now : ℕ) (pool inside made : List Held) (ops seen_ops : List ObjectOp) → inside ≡ pool → made ≡ unnumbered_pool inside → seen_ops ≡ ops → IfOk r (λ code. code ≡ numbered_rules site now 0 made seen_ops) → IfOk r (λ code. (setting : Setting) → (place : ℕ) → setting.now ≡ now → AreBelow place pool → code ≡ pool_ops_rule setting place 0 pool ops)
pool_checked (Err e) site now pool inside made ops seen_ops view copied ops_same judged = tt
pool_checked (Ok code) site now pool inside made ops seen_ops view copied ops_same judged =
    λ setting place at below.
    copy_judged site now pool made ops code (copied ∙ ap unnumbered_pool view) (judged ∙ ap (numbered_rules site now 0 made) ops_same) setting place at below

pub copied_sound : {E : Type 0} (r : Result Shelf E) (shelf : Shelf) (seen copies : List Held) → IsSound shelf → seen ≡ shelf.objects → copies ≡ unnumbered_pool seen → IfOk r (λ made. made.objects ≡ copies) → IfOk r (λ made. made.load ≡ load_in copies) → IfOk r (λ made. IsSound made)
copied_sound (Err e) shelf seen copies sound same is objects load = tt
copied_sound (Ok made) shelf seen copies sound same is objects load = record {
  ascending = copy_ascending shelf.objects made.objects (objects ∙ is ∙ ap unnumbered_pool same) sound.ascending;
  rooted = subst HasRoot (sym (objects ∙ is ∙ ap unnumbered_pool same)) (root_copied shelf.objects sound.rooted);
  load = load ∙ ap load_in (sym objects);
}
