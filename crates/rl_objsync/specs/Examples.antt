-- Small syncs, with which the definitions are tried.
use Rattle.std.specs.Prelude.{◌≡◌, ℕ, true, false, List, [], ◌∷◌, Option, Some, None, codes, ℤ, pos}
use Rattle.rl_types.specs.declared.frames.Cursor.{Cursor}
use Rattle.rl_types.specs.declared.objects.Op.TheVariants.{CounterInc, Delete}
use Rattle.rl_types.specs.declared.objects.ObjectBody.TheVariants as bodies
use Rattle.rl_types.specs.declared.objects.ObjectState.{ObjectState}
use Rattle.rl_objmodel.specs.Held.{Held, HeldBody, Sum}
use Rattle.rl_objmodel.specs.Examples.{a, op_at, s1}
use Rattle.rl_objmodel.specs.Rules.{serial_at}
use Rattle.rl_objmodel.specs.Steps.{held_at}
use Rattle.rl_objsync.specs.Steps.{ObjectView, bare_view}
use Rattle.rl_objsync.specs.Histories.{Call, Attached, Shows, Gives, Ticks, known_after}

abbrev pub cursor_at : List ℕ → List ℕ → Option Cursor
cursor_at sequence cursor = Some (record { sequence = sequence; cursor = cursor })

-- a page of a sequence after which more come, and its last
abbrev pub page_of : List ℕ → List ObjectState → Call
page_of sequence states = Shows (record { at = cursor_at sequence (codes "x"); states = states }) 9

abbrev pub last_of : List ℕ → List ObjectState → Call
last_of sequence states = Shows (record { at = cursor_at sequence []; states = states }) 9

abbrev pub only : List ObjectState → Call
only states = Shows (record { at = None; states = states }) 9

-- a counter with this sum, as a page at this place shows it
abbrev pub counter_at : ℕ → ℤ → ObjectState
counter_at place sum =
    record { id = a; sites = (s1, serial_at s1 place 0) ∷ []; tombstone = false; created = true; body = bodies.Counter sum }

-- an increment of it at this place
abbrev pub inc_at : ℕ → ℤ → Call
inc_at place amount = Gives (op_at s1 place (CounterInc a amount) ∷ []) 5

abbrev pub body_in : Option Held → Option HeldBody
body_in None = None
body_in (Some held) = Some held.body

abbrev pub known_by : List Call → ObjectView
known_by calls = known_after calls bare_view

abbrev pub body_by : List Call → Option HeldBody
body_by calls = body_in (held_at a (known_by calls).pool)

-- calls come the latest first
pub record SyncsGo : Type 0 where
  pub alone : known_by (only [] ∷ Attached true ∷ []) ≡ bare_view
  pub shown : body_by (only (counter_at 1 (pos 5) ∷ []) ∷ Attached true ∷ []) ≡ Some (Sum (pos 5))
  pub two_pages : body_by (last_of (codes "1") [] ∷ page_of (codes "1") (counter_at 1 (pos 5) ∷ []) ∷ Attached true ∷ []) ≡ Some (Sum (pos 5))
  pub latest : body_by (last_of (codes "1") (counter_at 2 (pos 6) ∷ []) ∷ page_of (codes "1") (counter_at 1 (pos 5) ∷ []) ∷ Attached true ∷ []) ≡ Some (Sum (pos 6))
  pub meanwhile : body_by (page_of (codes "1") (counter_at 1 (pos 5) ∷ []) ∷ Attached true ∷ []) ≡ None
  pub outside : known_by (only (counter_at 1 (pos 5) ∷ []) ∷ []) ≡ bare_view
  pub over : body_by (only [] ∷ only (counter_at 1 (pos 5) ∷ []) ∷ Attached true ∷ []) ≡ Some (Sum (pos 5))
  pub again : body_by (only [] ∷ Attached true ∷ only (counter_at 1 (pos 5) ∷ []) ∷ Attached true ∷ []) ≡ None
  pub none : known_by (Attached false ∷ only (counter_at 1 (pos 5) ∷ []) ∷ Attached true ∷ []) ≡ bare_view

-- another sequence, or no cursor, drops what was received
pub record SequencesChange : Type 0 where
  pub other : body_by (last_of (codes "2") [] ∷ page_of (codes "1") (counter_at 1 (pos 5) ∷ []) ∷ Attached true ∷ []) ≡ None
  pub no_cursor : body_by (only [] ∷ page_of (codes "1") (counter_at 1 (pos 5) ∷ []) ∷ Attached true ∷ []) ≡ None
  pub back : body_by (last_of (codes "1") [] ∷ page_of (codes "2") [] ∷ page_of (codes "1") (counter_at 1 (pos 5) ∷ []) ∷ Attached true ∷ []) ≡ None
  pub kept : body_by (last_of (codes "2") (counter_at 1 (pos 5) ∷ []) ∷ inc_at 2 (pos 1) ∷ page_of (codes "1") [] ∷ Attached true ∷ []) ≡ Some (Sum (pos 6))

-- kept operations are applied by the site test, behind the objects
pub record OpsAreKept : Type 0 where
  pub outside : body_by (inc_at 2 (pos 1) ∷ only (counter_at 1 (pos 5) ∷ []) ∷ Attached true ∷ []) ≡ Some (Sum (pos 6))
  pub later : body_by (only (counter_at 1 (pos 5) ∷ []) ∷ inc_at 2 (pos 1) ∷ Attached true ∷ []) ≡ Some (Sum (pos 6))
  pub shown : body_by (only (counter_at 2 (pos 6) ∷ []) ∷ inc_at 2 (pos 1) ∷ Attached true ∷ []) ≡ Some (Sum (pos 6))
  pub some : body_by (only (counter_at 2 (pos 6) ∷ []) ∷ inc_at 3 (pos 1) ∷ inc_at 2 (pos 1) ∷ Attached true ∷ []) ≡ Some (Sum (pos 7))
  pub cleared : body_by (only (counter_at 1 (pos 5) ∷ []) ∷ Attached true ∷ inc_at 2 (pos 1) ∷ Attached true ∷ []) ≡ Some (Sum (pos 5))
  pub forgotten : body_by (inc_at 3 (pos 1) ∷ Attached false ∷ inc_at 2 (pos 1) ∷ Attached true ∷ []) ≡ Some (Sum (pos 1))
  pub meanwhile : body_by (inc_at 2 (pos 1) ∷ Attached true ∷ []) ≡ None

-- a deletion that was kept leaves a tombstone of the moment at which the sync ended, here 9; it is collected its grace
-- after that, and not during a sync
abbrev pub deleted : List Call
deleted = only (counter_at 1 (pos 5) ∷ []) ∷ Gives (op_at s1 2 (Delete a) ∷ []) 5 ∷ Attached true ∷ []

abbrev pub deleted_in : Option Held → Option ℕ
deleted_in None = None
deleted_in (Some held) = held.deleted

abbrev pub deleted_by : List Call → Option ℕ
deleted_by calls = deleted_in (held_at a (known_by calls).pool)

pub record TombstonesStay : Type 0 where
  pub stamped : deleted_by deleted ≡ Some 9
  pub early : deleted_by (Ticks 86400008 ∷ deleted) ≡ Some 9
  pub gone : known_by (Ticks 86400009 ∷ deleted) ≡ bare_view
  pub meanwhile : deleted_by (Ticks 86400009 ∷ Attached true ∷ deleted) ≡ Some 9
