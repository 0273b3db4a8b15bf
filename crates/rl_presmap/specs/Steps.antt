-- What a presence map makes of each call, and what it tells (RTP2, RTP18, RTP19).
use Rattle.std.specs.Prelude.{ℕ, Bool, true, false, if◌then◌else◌, List, [], ◌∷◌, ◌++◌, filter, map, Option, Some, None, option_map, option_to_list, bytes_eq}
use Rattle.rl_types.specs.declared.frames.Cursor.{Cursor}
use Rattle.rl_types.specs.declared.presence.PresenceItem.{PresenceItem}
use Rattle.rl_types.specs.declared.presence.PresenceAction.{PresenceAction}
use Rattle.rl_types.specs.declared.presence.PresenceAction.TheVariants as presence
use Rattle.rl_model.specs.Members.{key_of, as_present}
use Rattle.rl_presmap.specs.declared.held.Held.{Held}
use Rattle.rl_presmap.specs.declared.held.Standing.{Standing}
use Rattle.rl_presmap.specs.declared.held.Standing.TheVariants as standing
use Rattle.rl_presmap.specs.declared.held.SyncState.{SyncState}
use Rattle.rl_presmap.specs.declared.held.SyncState.TheVariants.{Closed, Opened, Numbered}
use Rattle.rl_presmap.specs.declared.events.PresenceEvent.{PresenceEvent}
use Rattle.rl_presmap.specs.declared.events.PresenceEvent.TheVariants.{Entered, Updated, Left}
use Rattle.rl_presmap.specs.Newness.{is_newer}
use Rattle.rl_presmap.specs.Held.{PresenceMap, is_residual, is_plain, is_member, is_open, slot, with_slot}

-- ONE ITEM

abbrev pub is_absent : PresenceAction → Bool
is_absent presence.Absent = true
is_absent _ = false

-- a member that left during a sync
abbrev pub as_absent : PresenceItem → PresenceItem
as_absent item = record item { action = presence.Absent }

abbrev pub held_as : Standing → PresenceItem → Held
held_as stands item = record { item = item; standing = stands }

-- nothing is held of its key, or it is newer than what is
abbrev pub is_taken : PresenceItem → Option Held → Bool
is_taken item None = true
is_taken item (Some held) = is_newer item held.item

-- what an item that is taken leaves at its key, during a sync or not (RTP2d, RTP2e, RTP2f)
abbrev pub stored : PresenceAction → Bool → PresenceItem → Option Held
stored presence.Leave true item = Some (held_as standing.Absent (as_absent item))
stored presence.Leave false item = None
stored _ syncing item = Some (held_as standing.Member (as_present item))

abbrev pub named_as : Standing → Standing
named_as standing.Residual = standing.Member
named_as stands = stands

-- it was named: it is residual no more
abbrev pub named : Held → Held
named held = record held { standing = named_as held.standing }

-- what stands at an item's key after it
abbrev pub slot_after : Bool → PresenceItem → Option Held → Option Held
slot_after syncing item before =
    if is_taken item before then stored item.action syncing item else option_map named before

abbrev pub has_member : Option Held → Bool
has_member None = false
has_member (Some held) = is_member held

-- what an item that is taken tells, where a member was held of its key or none was
abbrev pub told_as : PresenceAction → Bool → PresenceItem → Option PresenceEvent
told_as presence.Leave true item = Some (Left item)
told_as presence.Leave false item = None
told_as _ true item = Some (Updated item)
told_as _ false item = Some (Entered item)

-- what an item tells
abbrev pub told : PresenceItem → Option Held → Option PresenceEvent
told item before = if is_taken item before then told_as item.action (has_member before) item else None

-- what is held after an item. An ABSENT one changes nothing
abbrev pub with_item : Bool → PresenceItem → List Held → List Held
with_item syncing item held =
    if is_absent item.action then held
    else with_slot (key_of item) (slot_after syncing item (slot (key_of item) held)) held

abbrev pub event_of : PresenceItem → List Held → Option PresenceEvent
event_of item held = if is_absent item.action then None else told item (slot (key_of item) held)

abbrev pub applied : PresenceItem → PresenceMap → PresenceMap
applied item known = record known { held = with_item (is_open known.sync) item known.held }

-- SEVERAL ITEMS

-- what is held after items, one after another
abbrev pub with_each : Bool → List PresenceItem → List Held → List Held
with_each syncing [] held = held
with_each syncing (item ∷ items) held = with_each syncing items (with_item syncing item held)

abbrev pub all_applied : List PresenceItem → PresenceMap → PresenceMap
all_applied items known = record known { held = with_each (is_open known.sync) items known.held }

-- during a sync
abbrev pub with_items : List PresenceItem → List Held → List Held
with_items items held = with_each true items held

abbrev pub events_of : List PresenceItem → List Held → List PresenceEvent
events_of [] held = []
events_of (item ∷ items) held = option_to_list (event_of item held) ++ events_of items (with_item true item held)

-- A SYNC OPENS

-- ABSENT ones are dropped, all others are residual
abbrev pub all_residual : List Held → List Held
all_residual held = map (λ one. held_as standing.Residual one.item) (filter is_member held)

abbrev pub opened : PresenceMap → PresenceMap
opened known = record { held = all_residual known.held; sync = Opened }

-- A SYNC ENDS

-- residual and ABSENT ones are dropped
abbrev pub all_plain : List Held → List Held
all_plain held = filter (λ one. is_plain one.standing) held

abbrev pub ended : List Held → PresenceMap
ended held = record { held = all_plain held; sync = Closed }

abbrev pub leaves : List Held → List PresenceEvent
leaves held = map (λ one. Left one.item) held

-- the residual ones leave
abbrev pub end_events : List Held → List PresenceEvent
end_events held = leaves (filter (λ one. is_residual one.standing) held)

-- A SYNC FRAME

-- it goes on in the sync that is open: it is the first SYNC in it, or has no cursor, or the sequence of the SYNC before
abbrev pub goes_on : SyncState → Option Cursor → Bool
goes_on Closed at = false
goes_on Opened at = true
goes_on (Numbered sequence) None = true
goes_on (Numbered sequence) (Some at) = bytes_eq sequence at.sequence

abbrev pub is_empty : List ℕ → Bool
is_empty [] = true
is_empty (byte ∷ text) = false

-- no cursor, or an empty one, ends the sync
abbrev pub ends_sync : Option Cursor → Bool
ends_sync None = true
ends_sync (Some at) = is_empty at.cursor

-- what is held as the items of a SYNC frame begin
abbrev pub begun : Option Cursor → PresenceMap → List Held
begun at known = if goes_on known.sync at then known.held else all_residual known.held

-- what is held after them
abbrev pub paged : Option Cursor → List PresenceItem → PresenceMap → List Held
paged at items known = with_items items (begun at known)

abbrev pub page_taken : Option Cursor → List PresenceItem → PresenceMap → PresenceMap
page_taken None items known = ended (paged None items known)
page_taken (Some at) items known =
    if is_empty at.cursor then ended (paged (Some at) items known)
    else record { held = paged (Some at) items known; sync = Numbered at.sequence }

abbrev pub page_events : Option Cursor → List PresenceItem → PresenceMap → List PresenceEvent
page_events at items known =
    events_of items (begun at known) ++ (if ends_sync at then end_events (paged at items known) else [])

-- ALL MEMBERS

abbrev pub members : PresenceMap → List PresenceItem
members known = map (λ one. one.item) (filter is_member known.held)
