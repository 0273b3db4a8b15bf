-- Small worked examples, with which the definitions are tried.
use Rattle.std.specs.Prelude.{ℕ, suc, ◌+◌, ◌≡◌, true, false, List, [], ◌∷◌, ◌++◌, replicate, Option, Some, None, codes, ℤ, pos, negsuc}
use Rattle.rl_numbers.specs.declared.limits.TheConstants.{TOMBSTONE_GRACE}
use Rattle.rl_ids.specs.declared.objects.ObjectKind.TheVariants.{Map, Counter}
use Rattle.rl_ids.specs.declared.objects.ObjectId.{ObjectId}
use Rattle.rl_ids.specs.declared.objects.ObjectId.TheVariants.{Root, Made}
use Rattle.rl_ids.specs.declared.objects.MapValue.{MapValue}
use Rattle.rl_ids.specs.declared.objects.MapValue.TheVariants as values
use Rattle.rl_ids.specs.declared.serials.OpSerial.{OpSerial}
use Rattle.rl_types.specs.declared.objects.Op.{Op}
use Rattle.rl_types.specs.declared.objects.Op.TheVariants.{MapCreate, MapSet, MapRemove, CounterCreate, CounterInc, Delete}
use Rattle.rl_types.specs.declared.objects.ObjectOp.{ObjectOp}
use Rattle.rl_types.specs.declared.objects.MapCell.{MapCell}
use Rattle.rl_types.specs.declared.objects.ObjectBody.TheVariants as bodies
use Rattle.rl_types.specs.declared.objects.ObjectState.{ObjectState}
use Rattle.rl_objmodel.specs.declared.plain.Applied.{Applied}
use Rattle.rl_objmodel.specs.declared.plain.Applied.TheVariants as outcomes
use Rattle.rl_objmodel.specs.Operations.{Stamped, stamped_at}
use Rattle.rl_objmodel.specs.Held.{Write, value_written, removal, Sum, Keys, Held, bare_root, shown}
use Rattle.rl_objmodel.specs.Objects.{counter, cell, Count, Entries, objects, kept, all_kept}
use Rattle.rl_objmodel.specs.Rules.{serial_at, ops_rule, pool_rule}
use Rattle.rl_objmodel.specs.Steps.{pool_after, pool_after_op, pool_outcome, pool_outcomes, pool_ops_rule, collected, told_cells, sites_of, replaced}

abbrev pub s1 : List ℕ
s1 = codes "s1"

abbrev pub s2 : List ℕ
s2 = codes "s2"

abbrev pub k : List ℕ
k = codes "k"

abbrev pub text : List ℕ → MapValue
text bytes = values.Text bytes

-- a counter and a map that were made at the moment 0
abbrev pub a : ObjectId
a = Made Counter (codes "a") 0

abbrev pub m : ObjectId
m = Made Map (codes "m") 0

abbrev pub op_with : OpSerial → Op → ObjectOp
op_with serial op = record { op = op; serial = Some serial }

abbrev pub op_at : List ℕ → ℕ → Op → ObjectOp
op_at site place op = op_with (serial_at site place 0) op

abbrev pub plain : Op → ObjectOp
plain op = record { op = op; serial = None }

-- operations with their stamps, as entries of one operation at the places 1, 2 and so on have them, the latest first
abbrev pub logged_from : ℕ → List Stamped → List (ℕ × Op) → List Stamped
logged_from place latest [] = latest
logged_from place latest (one ∷ more) = logged_from (suc place) (stamped_at one.0 (op_at s1 place one.1) ∷ latest) more

abbrev pub logged : List (ℕ × Op) → List Stamped
logged ops = logged_from 1 [] ops

-- the same, applied one after another to a root that nobody wrote to
abbrev pub folded_from : ℕ → List Held → List (ℕ × Op) → List Held
folded_from place pool [] = pool
folded_from place pool (one ∷ more) = folded_from (suc place) (pool_after_op one.0 (op_at s1 place one.1) pool) more

abbrev pub folded : List (ℕ × Op) → List Held
folded ops = folded_from 1 (bare_root ∷ []) ops

-- COUNTERS

pub record CountersCount : Type 0 where
  pub adds : counter a (logged ((0, CounterCreate a (pos 5)) ∷ (0, CounterInc a (pos 2)) ∷ [])) ≡ Some (pos 7)
  pub falls : counter a (logged ((0, CounterCreate a (pos 5)) ∷ (0, CounterInc a (negsuc 7)) ∷ [])) ≡ Some (negsuc 2)
  pub missing : counter a (logged ((0, CounterInc a (pos 2)) ∷ [])) ≡ None
  pub deleted : counter a (logged ((0, CounterCreate a (pos 5)) ∷ (0, Delete a) ∷ [])) ≡ None

-- CELLS

abbrev pub sets : List ℕ → ℕ → ℕ → List ℕ → Stamped
sets site place index value = stamped_at 0 (op_with (serial_at site place index) (MapSet Root k (text value)))

abbrev pub value_set : List ℕ → ℕ → ℕ → List ℕ → Write
value_set site place index value = value_written (serial_at site place index) (text value)

pub record CellsAreGreatest : Type 0 where
  -- an equal serial and a smaller one change nothing
  pub equal : cell Root k (sets s1 3 0 (codes "y") ∷ sets s1 3 0 (codes "x") ∷ []) ≡ Some (value_set s1 3 0 (codes "x"))
  pub smaller : cell Root k (sets s1 2 9 (codes "y") ∷ sets s1 3 0 (codes "x") ∷ []) ≡ Some (value_set s1 3 0 (codes "x"))
  -- serials are compared by place, then index, then site
  pub index : cell Root k (sets s1 3 1 (codes "y") ∷ sets s2 3 0 (codes "x") ∷ []) ≡ Some (value_set s1 3 1 (codes "y"))
  pub site : cell Root k (sets s2 3 0 (codes "y") ∷ sets s1 3 0 (codes "x") ∷ []) ≡ Some (value_set s2 3 0 (codes "y"))
  -- of a create's entries at one key the first stays
  pub first : cell m k (logged ((0, MapCreate m ((k, text (codes "x")) ∷ (k, text (codes "y")) ∷ [])) ∷ [])) ≡ Some (value_set s1 1 0 (codes "x"))
  -- a removal stands as a tombstone cell, with its moment
  pub removed : cell Root k (logged ((0, MapSet Root k (text (codes "x"))) ∷ (7, MapRemove Root k) ∷ [])) ≡ Some (removal (serial_at s1 2 0) 7)
  pub other : cell Root (codes "l") (logged ((0, MapSet Root k (text (codes "x"))) ∷ [])) ≡ None

-- RULES

-- the first rule that operations break at the clock, after these, where nothing was collected
abbrev pub broken_at : ℕ → List (ℕ × Op) → List ObjectOp → Option ℕ
broken_at now before ops = ops_rule (record { site = s1; now = now; ticked = 0 }) 100 0 (logged before) ops

abbrev pub breaks : List (ℕ × Op) → Op → Option ℕ
breaks before op = broken_at 0 before (plain op ∷ [])

abbrev pub counted : ℤ → List (ℕ × Op)
counted count = (0, CounterCreate a count) ∷ []

abbrev pub deleted_a : List (ℕ × Op)
deleted_a = (0, CounterCreate a (pos 5)) ∷ (0, Delete a) ∷ []

abbrev pub long : ℕ → List ℕ
long size = replicate size 97

abbrev pub refers : ObjectId → Op
refers id = MapSet Root k (values.Ref id)

pub record LengthsAreBounded : Type 0 where
  pub key : breaks [] (MapSet Root (long 1024) (text [])) ≡ None
  pub long_key : breaks [] (MapSet Root (long 1025) (text [])) ≡ Some 104
  pub removed_key : breaks [] (MapRemove Root (long 1025)) ≡ Some 104
  pub value : breaks [] (MapSet Root k (text (long 1024))) ≡ None
  pub long_value : breaks [] (MapSet Root k (text (long 1025))) ≡ Some 104
  pub long_bytes : breaks [] (MapSet Root k (values.Bytes (long 1025))) ≡ Some 104
  pub entry : breaks [] (MapCreate m ((k, text []) ∷ (k, text (long 1025)) ∷ [])) ≡ Some 104

pub record TargetsAreJudged : Type 0 where
  pub made : breaks [] (CounterCreate a (pos 5)) ≡ None
  pub root : breaks [] (MapCreate Root []) ≡ Some 110
  pub of_other_kind : breaks [] (MapCreate a []) ≡ Some 110
  pub again : breaks (counted (pos 5)) (CounterCreate a (pos 5)) ≡ Some 107
  pub deleted_again : breaks deleted_a (CounterCreate a (pos 5)) ≡ Some 107
  pub near : broken_at 600000 [] (plain (CounterCreate a (pos 5)) ∷ []) ≡ None
  pub stale : broken_at 600001 [] (plain (CounterCreate a (pos 5)) ∷ []) ≡ Some 108
  pub ahead : breaks [] (CounterCreate (Made Counter (codes "a") 600000) (pos 5)) ≡ None
  pub far_ahead : breaks [] (CounterCreate (Made Counter (codes "a") 600001) (pos 5)) ≡ Some 108
  pub unknown : breaks [] (CounterInc a (pos 1)) ≡ Some 106
  pub tombstone : breaks deleted_a (CounterInc a (pos 1)) ≡ Some 111
  pub for_maps : breaks (counted (pos 5)) (MapSet a k (text [])) ≡ Some 110
  pub for_counters : breaks [] (CounterInc Root (pos 1)) ≡ Some 110
  pub root_deleted : breaks [] (Delete Root) ≡ Some 110
  pub deleted : breaks (counted (pos 5)) (Delete a) ≡ None

pub record ReferencesAreJudged : Type 0 where
  pub unknown : breaks [] (refers a) ≡ Some 106
  pub tombstone : breaks deleted_a (refers a) ≡ Some 111
  pub known : breaks (counted (pos 5)) (refers a) ≡ None
  -- to what an earlier operation of the frame makes, to what this one makes, to what a later one makes
  pub earlier : broken_at 0 [] (plain (CounterCreate a (pos 5)) ∷ plain (refers a) ∷ []) ≡ None
  pub itself : breaks [] (MapCreate m ((k, values.Ref m) ∷ [])) ≡ Some 106
  pub later : broken_at 0 [] (plain (refers a) ∷ plain (CounterCreate a (pos 5)) ∷ []) ≡ Some 106
  -- the first of several references, and the target before them
  pub first : breaks deleted_a (MapCreate m ((k, values.Ref a) ∷ (k, values.Ref m) ∷ [])) ≡ Some 111
  pub target : breaks deleted_a (MapSet a k (values.Ref m)) ≡ Some 111

pub record NumbersAreBounded : Type 0 where
  pub count : breaks [] (CounterCreate a (pos 9007199254740991)) ≡ None
  pub great_count : breaks [] (CounterCreate a (pos 9007199254740992)) ≡ Some 109
  pub low_count : breaks [] (CounterCreate a (negsuc 9007199254740990)) ≡ None
  pub lower_count : breaks [] (CounterCreate a (negsuc 9007199254740991)) ≡ Some 109
  pub amount : breaks (counted (negsuc 0)) (CounterInc a (pos 9007199254740991)) ≡ None
  pub great_amount : breaks (counted (negsuc 1)) (CounterInc a (pos 9007199254740992)) ≡ Some 109
  pub sum : breaks (counted (pos 9007199254740990)) (CounterInc a (pos 1)) ≡ None
  pub great_sum : breaks (counted (pos 9007199254740991)) (CounterInc a (pos 1)) ≡ Some 109
  pub whole : breaks [] (MapSet Root k (values.Whole (pos 9007199254740991))) ≡ None
  pub great_whole : breaks [] (MapSet Root k (values.Whole (pos 9007199254740992))) ≡ Some 109
  -- lengths, targets and references come first
  pub long_first : breaks [] (MapCreate m ((long 1025, values.Whole (pos 9007199254740992)) ∷ [])) ≡ Some 104
  pub references_first : breaks [] (MapCreate m ((k, values.Whole (pos 9007199254740992)) ∷ (k, values.Ref a) ∷ [])) ≡ Some 106

-- of `key` bytes, with a value of `value` bytes: 128 and these
abbrev pub heavy_cell : ℕ → ℕ → List ℕ × MapCell
heavy_cell key value = (long key, record { serial = serial_at s1 1 0; value = Some (text (long value)) })

abbrev pub map_of : List (List ℕ × MapCell) → ObjectState
map_of cells = record { id = m; sites = []; tombstone = false; created = true; body = bodies.Map cells }

abbrev pub removed_cell : List ℕ × MapCell
removed_cell = ([], record { serial = serial_at s1 1 0; value = None })

abbrev pub cells_of : ℕ → ObjectState
cells_of count = map_of (replicate count (heavy_cell 0 0))

-- of the weight 524,288, an eighth of what a pool may weigh
abbrev pub heavy_map : ObjectState
heavy_map = map_of (heavy_cell 0 7936 ∷ replicate 63 (heavy_cell 0 8064))

pub record PoolsAreBounded : Type 0 where
  pub objects : pool_rule None (replicate 2000 (map_of [])) ≡ None
  pub more_objects : pool_rule None (replicate 2001 (map_of [])) ≡ Some 112
  -- tombstones count
  pub tombstones : pool_rule None (replicate 2001 (record (map_of []) { tombstone = true })) ≡ Some 112
  pub cells : pool_rule None (replicate 5 (cells_of 2000)) ≡ None
  pub more_cells : pool_rule None (cells_of 1 ∷ replicate 5 (cells_of 2000)) ≡ Some 112
  -- 128, and 2,046 cells of 128, and one of 128
  pub weight : pool_rule (Some (cells_of 2047)) [] ≡ None
  pub more_weight : pool_rule (Some (map_of (heavy_cell 1 0 ∷ replicate 2046 (heavy_cell 0 0)))) [] ≡ Some 112
  pub value_weight : pool_rule (Some (map_of (heavy_cell 0 1 ∷ replicate 2046 (heavy_cell 0 0)))) [] ≡ Some 112
  -- tombstone cells weigh 128 and their keys
  pub removed_weight : pool_rule (Some (map_of (replicate 2047 removed_cell))) [] ≡ None
  pub more_removed : pool_rule (Some (map_of (replicate 2048 removed_cell))) [] ≡ Some 112
  -- of one object's weight the operation's own counts, and no other
  pub other_weight : pool_rule (Some (map_of [])) (cells_of 2048 ∷ []) ≡ None
  -- the weight of all
  pub all_weight : pool_rule None (replicate 8 heavy_map) ≡ None
  pub more_all_weight : pool_rule None (map_of [] ∷ replicate 8 heavy_map) ≡ Some 112

-- WHAT IS COLLECTED

abbrev pub deleted_at_7 : List (ℕ × Op)
deleted_at_7 = (0, CounterCreate a (pos 5)) ∷ (7, Delete a) ∷ (9, MapSet Root k (text [])) ∷ (9, MapRemove Root k) ∷ []

-- the first rule that a create breaks at the clock of a Tick
abbrev pub created_at : ℕ → ObjectId → Option ℕ
created_at now id = ops_rule (record { site = s1; now = now; ticked = now }) 100 0 (logged deleted_at_7) (plain (CounterCreate id (pos 5)) ∷ [])

pub record TombstonesAreCollected : Type 0 where
  pub stands : kept (6 + TOMBSTONE_GRACE) (logged deleted_at_7) a ≡ Some (record { id = a; sites = (s1, serial_at s1 2 0) ∷ []; deleted = Some 7; created = false; body = Sum (pos 0) })
  pub gone : kept (7 + TOMBSTONE_GRACE) (logged deleted_at_7) a ≡ None
  -- then the id is too old to be made again; another may be made
  pub again : created_at (7 + TOMBSTONE_GRACE) a ≡ Some 108
  pub another : created_at (7 + TOMBSTONE_GRACE) (Made Counter (codes "a") 86400000) ≡ None
  -- a tombstone cell goes, and its map stays with its sites
  pub cell_stands : kept (8 + TOMBSTONE_GRACE) (logged deleted_at_7) Root ≡ Some (record { id = Root; sites = (s1, serial_at s1 4 0) ∷ []; deleted = None; created = true; body = Keys ((k, removal (serial_at s1 4 0) 9) ∷ []) })
  pub cell_gone : kept (9 + TOMBSTONE_GRACE) (logged deleted_at_7) Root ≡ Some (record { id = Root; sites = (s1, serial_at s1 4 0) ∷ []; deleted = None; created = true; body = Keys [] })

-- WHAT IS LIVE

abbrev pub referred : List (ℕ × Op)
referred = (0, CounterCreate a (pos 5)) ∷ (0, refers a) ∷ (0, MapSet Root (codes "l") (text (codes "x"))) ∷ []

pub record LiveObjectsRead : Type 0 where
  pub none : objects [] ≡ record { id = Root; body = Entries [] } ∷ []
  pub live : objects (logged referred)
      ≡ record { id = a; body = Count (pos 5) }
      ∷ record { id = Root; body = Entries ((k, values.Ref a) ∷ (codes "l", text (codes "x")) ∷ []) }
      ∷ []
  -- a value that names an object that is dead, or that is not there, reads as absent
  pub dead : objects (logged (referred ++ (0, Delete a) ∷ [])) ≡ record { id = Root; body = Entries ((codes "l", text (codes "x")) ∷ []) } ∷ []
  pub missing : objects (logged ((0, refers a) ∷ [])) ≡ record { id = Root; body = Entries [] } ∷ []
  pub removed : objects (logged ((0, MapSet Root k (text [])) ∷ (0, MapRemove Root k) ∷ [])) ≡ record { id = Root; body = Entries [] } ∷ []

-- STEPS

-- what the definitions say of operations that were judged, and what the steps make of them
pub record StepsAreDefined : Type 0 where
  pub none : all_kept 0 [] ≡ folded []
  pub counts : all_kept 0 (logged ((0, CounterCreate a (pos 5)) ∷ (0, CounterInc a (pos 2)) ∷ [])) ≡ folded ((0, CounterCreate a (pos 5)) ∷ (0, CounterInc a (pos 2)) ∷ [])
  pub keys : all_kept 0 (logged referred) ≡ folded referred
  pub tombstones : all_kept 0 (logged deleted_at_7) ≡ folded deleted_at_7
  pub collects : all_kept (8 + TOMBSTONE_GRACE) (logged deleted_at_7) ≡ collected (8 + TOMBSTONE_GRACE) (folded deleted_at_7)
  pub creates : all_kept 0 (logged ((0, MapCreate m ((k, text (codes "x")) ∷ (k, text (codes "y")) ∷ (codes "j", text []) ∷ [])) ∷ [])) ≡ folded ((0, MapCreate m ((k, text (codes "x")) ∷ (k, text (codes "y")) ∷ (codes "j", text []) ∷ [])) ∷ [])
  pub judges : pool_ops_rule (record { site = s1; now = 0; ticked = 0 }) 100 0 (folded deleted_a) (plain (MapSet Root k (text [])) ∷ plain (refers a) ∷ []) ≡ Some 111

abbrev pub held_counter : List ℕ → ℕ → ℤ → Held
held_counter site place sum = record { id = a; sites = (site, serial_at site place 0) ∷ []; deleted = None; created = true; body = Sum sum }

abbrev pub applied_to : List Held → List ObjectOp → List Applied
applied_to pool ops = pool_outcomes 0 ops pool

abbrev pub two_sites : ObjectOp
two_sites = op_at s2 4 (MapSet Root k (text s2))

-- as a page tells it
abbrev pub told_counter : ℕ → ObjectState
told_counter sum = shown (held_counter s1 1 (pos sum))

pub record StepsAreTaken : Type 0 where
  -- a site's serial has to be greater than the one that it has; another site's does not
  pub equal : applied_to (held_counter s1 3 (pos 5) ∷ []) (op_at s1 3 (CounterInc a (pos 1)) ∷ op_at s1 2 (CounterInc a (pos 1)) ∷ op_at s2 1 (CounterInc a (pos 1)) ∷ op_at s1 4 (CounterInc a (pos 1)) ∷ [])
      ≡ outcomes.Skipped ∷ outcomes.Skipped ∷ outcomes.Applied ∷ outcomes.Applied ∷ []
  -- one for another kind is passed over, and makes no object
  pub misplaced : pool_outcome (op_at s1 1 (MapSet a k (text []))) (bare_root ∷ []) ≡ outcomes.Skipped
  pub none_made : pool_after_op 0 (op_at s1 1 (MapSet a k (text []))) (bare_root ∷ []) ≡ bare_root ∷ []
  -- a missing object is made, not created
  pub made : pool_after_op 0 (op_at s1 1 (CounterInc a (pos 2))) (bare_root ∷ []) ≡ record (held_counter s1 1 (pos 2)) { created = false } ∷ bare_root ∷ []
  -- a second create sets the site's serial and adds nothing
  pub create_again : pool_after_op 0 (op_at s2 9 (CounterCreate a (pos 2))) (held_counter s1 1 (pos 5) ∷ [])
      ≡ record (held_counter s1 1 (pos 5)) { sites = (s1, serial_at s1 1 0) ∷ (s2, serial_at s2 9 0) ∷ [] } ∷ []
  -- a tombstone takes serials, and nothing more
  pub tombstone : pool_after 7 (op_at s1 2 (Delete a) ∷ op_at s1 3 (CounterInc a (pos 2)) ∷ []) (held_counter s1 1 (pos 5) ∷ [])
      ≡ record { id = a; sites = (s1, serial_at s1 3 0) ∷ []; deleted = Some 7; created = false; body = Sum (pos 0) } ∷ []
  -- one that would pass the range of sums changes nothing
  pub range : pool_outcome (op_at s1 2 (CounterInc a (pos 1))) (held_counter s1 1 (pos 1267650600228229401496703205376) ∷ []) ≡ outcomes.Range
  pub unranged : pool_after_op 0 (op_at s1 2 (CounterInc a (pos 1))) (held_counter s1 1 (pos 1267650600228229401496703205376) ∷ []) ≡ held_counter s1 1 (pos 1267650600228229401496703205376) ∷ []
  pub greatest : pool_outcome (op_at s1 2 (CounterInc a (pos 1))) (held_counter s1 1 (pos 1267650600228229401496703205375) ∷ []) ≡ outcomes.Applied
  -- of two sites' values at one key the one of the greater serial stays, in whatever order they come
  pub either : pool_after 0 (op_at s1 3 (MapSet Root k (text s1)) ∷ two_sites ∷ []) (bare_root ∷ []) ≡ pool_after 0 (two_sites ∷ op_at s1 3 (MapSet Root k (text s1)) ∷ []) (bare_root ∷ [])
  -- what a page tells is put in order; of two of one key the one of the greater serial stays
  pub told : told_cells 9 ((codes "l", record { serial = serial_at s1 2 0; value = None }) ∷ (k, record { serial = serial_at s1 1 0; value = Some (text []) }) ∷ [])
      ≡ (k, value_written (serial_at s1 1 0) (text [])) ∷ (codes "l", removal (serial_at s1 2 0) 9) ∷ []
  pub told_twice : told_cells 9 ((k, record { serial = serial_at s1 2 0; value = None }) ∷ (k, record { serial = serial_at s1 1 0; value = Some (text []) }) ∷ [])
      ≡ (k, removal (serial_at s1 2 0) 9) ∷ []
  -- an object whose body is not of its id's kind is passed over, of two of one id the last counts, and there is a root
  pub replaces : replaced 9 (told_counter 1 ∷ told_counter 2 ∷ record (told_counter 3) { id = m } ∷ []) ≡ held_counter s1 1 (pos 2) ∷ bare_root ∷ []
  pub sites : sites_of ((s2, serial_at s2 2 0) ∷ (s1, serial_at s1 1 0) ∷ (s2, serial_at s2 1 0) ∷ []) ≡ (s1, serial_at s1 1 0) ∷ (s2, serial_at s2 2 0) ∷ []
