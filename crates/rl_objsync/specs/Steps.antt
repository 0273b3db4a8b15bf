-- What a client knows of a channel's objects, and what each call makes of that (RTO4, RTO5, RTO7, RTO8).
use Rattle.std.specs.Prelude.{ℕ, Bool, true, false, if◌then◌else◌, List, [], ◌∷◌, ◌++◌, Option, Some, None, option_map, is_some, bytes_eq}
use Rattle.rl_types.specs.declared.frames.Cursor.{Cursor}
use Rattle.rl_types.specs.declared.objects.ObjectOp.{ObjectOp}
use Rattle.rl_types.specs.declared.objects.ObjectState.{ObjectState}
use Rattle.rl_objmodel.specs.Held.{Held, bare_root}
use Rattle.rl_objmodel.specs.Steps.{collected, pool_after, replaced}
use Rattle.rl_objsync.specs.declared.sync.OpenSync.{OpenSync}

-- what a client knows of a channel's objects: the pool, and the sync that is open
pub record ObjectView : Type 0 where
  pub pool : List Held
  pub sync : Option OpenSync

abbrev pub is_open : Option OpenSync → Bool
is_open sync = is_some sync

-- an empty root alone, and no sync
abbrev pub bare_view : ObjectView
bare_view = record { pool = bare_root ∷ []; sync = None }

-- ATTACHED (RTO4)

-- a sync that opens: nothing was received, no operations are kept, and no page came
abbrev pub opened : OpenSync
opened = record { received = []; kept = []; sequence = None }

-- with objects a sync opens, and the pool stays meanwhile; without them the pool is an empty root
abbrev pub attached : Bool → ObjectView → ObjectView
attached true known = record { pool = known.pool; sync = Some opened }
attached false known = bare_view

-- OPERATIONS (RTO7, RTO8)

abbrev pub keeping : List ObjectOp → OpenSync → OpenSync
keeping ops sync = record { received = sync.received; kept = sync.kept ++ ops; sequence = sync.sequence }

abbrev pub ops_by : Option OpenSync → List ObjectOp → ℕ → List Held → ObjectView
ops_by None ops now pool = record { pool = pool_after now ops pool; sync = None }
ops_by (Some sync) ops now pool = record { pool = pool; sync = Some (keeping ops sync) }

-- outside a sync they are applied, each by the site test; during one they are kept, behind those kept before
abbrev pub ops_taken : List ObjectOp → ℕ → ObjectView → ObjectView
ops_taken ops now known = ops_by known.sync ops now known.pool

-- PAGES (RTO5)

abbrev pub sequence_in : Option Cursor → Option (List ℕ)
sequence_in at = option_map (λ (at : Cursor). at.sequence) at

-- the second sequence is the first one
abbrev pub is_same_sequence : Option (List ℕ) → Option (List ℕ) → Bool
is_same_sequence None sequence = false
is_same_sequence (Some before) None = false
is_same_sequence (Some before) (Some sequence) = bytes_eq before sequence

abbrev pub is_empty : List ℕ → Bool
is_empty [] = true
is_empty (byte ∷ text) = false

-- no cursor, or an empty one, ends the sync
abbrev pub ends_sync : Option Cursor → Bool
ends_sync None = true
ends_sync (Some at) = is_empty at.cursor

-- a page of the same sequence as the page before adds its objects to what was received; another one drops that first
abbrev pub received_with : Option Cursor → List ObjectState → OpenSync → List ObjectState
received_with at states sync =
    (if is_same_sequence sync.sequence (sequence_in at) then sync.received else []) ++ states

abbrev pub receiving : Option Cursor → List ObjectState → OpenSync → OpenSync
receiving at states sync =
    record { received = received_with at states sync; kept = sync.kept; sequence = sequence_in at }

-- the pool that a sync leaves at the moment of its end: that of the received objects, with the root, to which the kept
-- operations were applied in order, each by the site test
abbrev pub synced : ℕ → List ObjectState → List ObjectOp → List Held
synced now received kept = pool_after now kept (replaced now received)

abbrev pub page_in : OpenSync → Option Cursor → List ObjectState → ℕ → List Held → ObjectView
page_in sync at states now pool =
    if ends_sync at then record { pool = synced now (received_with at states sync) sync.kept; sync = None }
    else record { pool = pool; sync = Some (receiving at states sync) }

abbrev pub page_by : Option OpenSync → Option Cursor → List ObjectState → ℕ → List Held → ObjectView
page_by None at states now pool = record { pool = pool; sync = None }
page_by (Some sync) at states now pool = page_in sync at states now pool

-- outside a sync nothing changes
abbrev pub page_taken : Option Cursor → List ObjectState → ℕ → ObjectView → ObjectView
page_taken at states now known = page_by known.sync at states now known.pool

-- A TICK (RTO10)

abbrev pub tick_by : Option OpenSync → ℕ → List Held → ObjectView
tick_by None now pool = record { pool = collected now pool; sync = None }
tick_by (Some sync) now pool = record { pool = pool; sync = Some sync }

-- during a sync nothing changes
abbrev pub ticked : ℕ → ObjectView → ObjectView
ticked now known = tick_by known.sync now known.pool
