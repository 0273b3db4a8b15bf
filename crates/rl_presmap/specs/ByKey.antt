-- What stands at one key: after each call a function of what stood there, of the sync, and of what the call was given.
use Rattle.std.specs.Prelude.{◌≡◌, Bool, true, ◌&&◌, not, if◌then◌else◌, List, [], ◌∷◌, find, Option, Some, None, option_map}
use Rattle.rl_ids.specs.declared.members.MemberKey.{MemberKey}
use Rattle.rl_types.specs.declared.frames.Cursor.{Cursor}
use Rattle.rl_types.specs.declared.presence.PresenceItem.{PresenceItem}
use Rattle.rl_model.specs.Members.{is_of}
use Rattle.rl_presmap.specs.declared.held.Held.{Held}
use Rattle.rl_presmap.specs.declared.held.Standing.TheVariants as standing
use Rattle.rl_presmap.specs.declared.held.SyncState.{SyncState}
use Rattle.rl_presmap.specs.Held.{PresenceMap, AreRising, is_plain, is_member, is_open, slot}
use Rattle.rl_presmap.specs.Steps.{is_absent, slot_after, held_as, applied, opened, ended, goes_on, ends_sync, page_taken, members}

-- what stands there where it passes a test
abbrev pub only : (Held → Bool) → Option Held → Option Held
only test None = None
only test (Some held) = if test held then Some held else None

-- after an item, which changes the key's own slot alone
abbrev pub slot_applied : MemberKey → Bool → PresenceItem → Option Held → Option Held
slot_applied key syncing item before =
    if is_of key item && not (is_absent item.action) then slot_after syncing item before else before

-- after the items of a page, in order
abbrev pub slot_applied_all : MemberKey → List PresenceItem → Option Held → Option Held
slot_applied_all key [] before = before
slot_applied_all key (item ∷ items) before = slot_applied_all key items (slot_applied key true item before)

-- as a sync opens: what is ABSENT is dropped, what is a member is residual
abbrev pub slot_opened : Option Held → Option Held
slot_opened before = option_map (λ one. held_as standing.Residual one.item) (only is_member before)

-- as a sync ends: what is ABSENT or residual is dropped
abbrev pub slot_ended : Option Held → Option Held
slot_ended before = only (λ one. is_plain one.standing) before

-- after a SYNC frame
abbrev pub slot_begun : SyncState → Option Cursor → Option Held → Option Held
slot_begun sync at before = if goes_on sync at then before else slot_opened before

abbrev pub slot_closed : Bool → Option Held → Option Held
slot_closed ends before = if ends then slot_ended before else before

abbrev pub slot_paged : MemberKey → SyncState → Option Cursor → List PresenceItem → Option Held → Option Held
slot_paged key sync at items before = slot_closed (ends_sync at) (slot_applied_all key items (slot_begun sync at before))

-- what each call makes of what stands at a key, in a map whose keys rise
pub record GoesByKey (key : MemberKey) (known : PresenceMap) : Type 0 where
  pub item : (item : PresenceItem) → slot key (applied item known).held ≡ slot_applied key (is_open known.sync) item (slot key known.held)
  pub opens : slot key (opened known).held ≡ slot_opened (slot key known.held)
  pub page : (at : Option Cursor) → (items : List PresenceItem)
      → slot key (page_taken at items known).held ≡ slot_paged key known.sync at items (slot key known.held)
  pub ends : slot key (ended known.held).held ≡ slot_ended (slot key known.held)
  pub member : find (is_of key) (members known) ≡ option_map (λ one. one.item) (only is_member (slot key known.held))

abbrev pub AllGoByKey : Type 0
AllGoByKey = (known : PresenceMap) → AreRising known.held → (key : MemberKey) → GoesByKey key known
