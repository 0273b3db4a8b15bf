-- Small presence maps whose members and events are known, with which the definitions are tried.
use Rattle.std.specs.Prelude.{◌≡◌, ℕ, true, false, map, find, reverse, List, [], ◌∷◌, Option, Some, None, codes}
use Rattle.rl_types.specs.declared.frames.Cursor.{Cursor}
use Rattle.rl_ids.specs.declared.members.MemberKey.{MemberKey}
use Rattle.rl_events.specs.declared.channel.ChannelEvent.{ChannelEvent}
use Rattle.rl_events.specs.declared.channel.ChannelEvent.TheVariants.{Put, Gone}
use Rattle.rl_types.specs.declared.messages.Body.TheVariants.{Presence}
use Rattle.rl_types.specs.declared.presence.PresenceItem.{PresenceItem}
use Rattle.rl_types.specs.declared.presence.PresenceAction.{PresenceAction}
use Rattle.rl_types.specs.declared.presence.PresenceAction.TheVariants as presence
use Rattle.rl_presmap.specs.declared.held.Held.{Held}
use Rattle.rl_presmap.specs.declared.held.Standing.{Standing}
use Rattle.rl_presmap.specs.declared.held.Standing.TheVariants as standing
use Rattle.rl_presmap.specs.declared.held.SyncState.TheVariants.{Closed, Opened, Numbered}
use Rattle.rl_presmap.specs.declared.events.PresenceEvent.TheVariants.{Entered, Updated, Left}
use Rattle.rl_model.specs.Members.{is_of, items_of}
use Rattle.rl_model.specs.Verdict.{log}
use Rattle.rl_presmap.specs.Renewing.{IsOrderly, items_of_key}
use Rattle.rl_presmap.specs.Newness.{numbers_of, is_newer}
use Rattle.rl_presmap.specs.Held.{PresenceMap}
use Rattle.rl_presmap.specs.Steps.{applied, event_of, opened, ended, end_events, page_taken, page_events, members}

-- an item of client `a` on connection 1, by its action, its id, its stamp and its data
abbrev pub item_of : PresenceAction → List ℕ → ℕ → List ℕ → PresenceItem
item_of action id stamp text =
    record { action = action; client = codes "a"; conn = codes "c1"; id = id; stamp = stamp; payload = Some text; encoding = None }

-- the same on connection 2
abbrev pub other_of : PresenceAction → List ℕ → PresenceItem
other_of action id =
    record { action = action; client = codes "b"; conn = codes "c2"; id = id; stamp = 0; payload = None; encoding = None }

abbrev pub with_id : List ℕ → PresenceItem
with_id id = item_of presence.Enter id 0 []

-- which ids are regular
pub record IdsRead : Type 0 where
  pub plain : numbers_of (with_id (codes "c1:12:3")) ≡ Some (12, 3)
  pub zeros : numbers_of (with_id (codes "c1:007:1")) ≡ Some (7, 1)
  pub widest : numbers_of (with_id (codes "c1:00000000000000000000000000000000000009:1")) ≡ Some (9, 1)
  pub wider : numbers_of (with_id (codes "c1:000000000000000000000000000000000000009:1")) ≡ None
  pub more : numbers_of (with_id (codes "c1:1:2:3")) ≡ None
  pub one_number : numbers_of (with_id (codes "c1:1")) ≡ None
  pub no_number : numbers_of (with_id (codes "c1::1")) ≡ None
  pub no_index : numbers_of (with_id (codes "c1:1:")) ≡ None
  pub signed : numbers_of (with_id (codes "c1:+1:1")) ≡ None
  pub other : numbers_of (with_id (codes "c2:1:1")) ≡ None
  pub longer : numbers_of (with_id (codes "c11:1:1")) ≡ None
  pub nothing : numbers_of (with_id []) ≡ None

pub record NewnessIs : Type 0 where
  pub by_serial : is_newer (with_id (codes "c1:2:0")) (with_id (codes "c1:1:9")) ≡ true
  pub not_back : is_newer (with_id (codes "c1:1:9")) (with_id (codes "c1:2:0")) ≡ false
  pub by_index : is_newer (with_id (codes "c1:2:10")) (with_id (codes "c1:2:9")) ≡ true
  pub not_itself : is_newer (with_id (codes "c1:2:9")) (with_id (codes "c1:02:9")) ≡ false
  pub tie : is_newer (with_id (codes "gone:5:0")) (with_id (codes "c1:1:0")) ≡ true
  pub tie_back : is_newer (with_id (codes "c1:1:0")) (with_id (codes "gone:5:0")) ≡ true
  pub by_stamp : is_newer (item_of presence.Leave (codes "gone:5:0") 4 []) (item_of presence.Enter (codes "c1:1:0") 5 []) ≡ false
  pub whatever_stamp : is_newer (item_of presence.Update (codes "c1:2:0") 4 []) (item_of presence.Enter (codes "c1:1:0") 5 []) ≡ true

-- MAPS

abbrev pub nothing_held : PresenceMap
nothing_held = record { held = []; sync = Closed }

abbrev pub entering : PresenceItem
entering = item_of presence.Enter (codes "c1:0:0") 1 (codes "x")

abbrev pub updating : PresenceItem
updating = item_of presence.Update (codes "c1:1:0") 2 (codes "y")

abbrev pub leaving : PresenceItem
leaving = item_of presence.Leave (codes "c1:2:0") 3 (codes "z")

abbrev pub present : PresenceItem → PresenceItem
present item = record item { action = presence.Present }

abbrev pub absent : PresenceItem → PresenceItem
absent item = record item { action = presence.Absent }

abbrev pub held_as : PresenceItem → Standing → Held
held_as item stands = record { item = item; standing = stands }

abbrev pub one_member : PresenceMap
one_member = applied entering nothing_held

abbrev pub b_entering : PresenceItem
b_entering = other_of presence.Present (codes "c2:0:0")

abbrev pub two_members : PresenceMap
two_members = applied b_entering one_member

abbrev pub page_at : List ℕ → List ℕ → Option Cursor
page_at sequence cursor = Some (record { sequence = sequence; cursor = cursor })

pub record ItemsAreTaken : Type 0 where
  pub enters : event_of entering [] ≡ Some (Entered entering)
  pub held : one_member.held ≡ held_as (present entering) standing.Member ∷ []
  pub in_order : members (applied entering (applied b_entering nothing_held)) ≡ present entering ∷ b_entering ∷ []
  pub updates : event_of updating one_member.held ≡ Some (Updated updating)
  pub updated : members (applied updating one_member) ≡ present updating ∷ []
  pub late : applied entering (applied updating one_member) ≡ applied updating one_member
  pub late_told : event_of entering (applied updating one_member).held ≡ None
  pub leaves : event_of leaving one_member.held ≡ Some (Left leaving)
  pub left : applied leaving two_members ≡ applied b_entering nothing_held
  pub left_twice : event_of leaving [] ≡ None
  pub absent_item : applied (absent leaving) two_members ≡ two_members
  pub absent_told : event_of (absent leaving) two_members.held ≡ None

abbrev pub in_sync : PresenceMap
in_sync = opened two_members

abbrev pub left_in_sync : PresenceMap
left_in_sync = applied leaving in_sync

pub record SyncsGo : Type 0 where
  pub opens : in_sync.held ≡ held_as (present entering) standing.Residual ∷ held_as b_entering standing.Residual ∷ []
  pub still_members : members in_sync ≡ members two_members
  pub named : (applied entering in_sync).held ≡ held_as (present entering) standing.Member ∷ held_as b_entering standing.Residual ∷ []
  pub not_named : applied (absent entering) in_sync ≡ in_sync
  pub absent_held : left_in_sync.held ≡ held_as (absent leaving) standing.Absent ∷ held_as b_entering standing.Residual ∷ []
  pub absent_told : event_of leaving in_sync.held ≡ Some (Left leaving)
  pub absent_is_none : members left_in_sync ≡ b_entering ∷ []
  pub older_stays_out : event_of updating left_in_sync.held ≡ None
  pub newer_comes_back : event_of (item_of presence.Enter (codes "c1:3:0") 4 (codes "w")) left_in_sync.held ≡ Some (Entered (item_of presence.Enter (codes "c1:3:0") 4 (codes "w")))
  pub ends : ended left_in_sync.held ≡ nothing_held
  pub end_told : end_events left_in_sync.held ≡ Left b_entering ∷ []
  pub ends_outside : ended two_members.held ≡ two_members
  pub outside_told : end_events two_members.held ≡ []
  pub reopens : opened left_in_sync ≡ record { held = held_as b_entering standing.Residual ∷ []; sync = Opened }

pub record PagesGo : Type 0 where
  pub empty_page : page_events None [] (opened one_member) ≡ Left (present entering) ∷ []
  pub empty_page_after : page_taken None [] (opened one_member) ≡ nothing_held
  pub opens : page_taken (page_at (codes "1") (codes "1")) [] one_member
      ≡ record { held = held_as (present entering) standing.Residual ∷ []; sync = Numbered (codes "1") }
  pub first_goes_on : page_taken (page_at (codes "2") (codes "1")) [] (opened one_member)
      ≡ page_taken (page_at (codes "2") (codes "1")) [] one_member
  pub goes_on : members (page_taken (page_at (codes "1") []) [] (page_taken (page_at (codes "1") (codes "1")) (present entering ∷ []) one_member))
      ≡ present entering ∷ []
  pub another_opens : members (page_taken (page_at (codes "2") []) [] (page_taken (page_at (codes "1") (codes "1")) (present entering ∷ []) one_member))
      ≡ []
  pub no_cursor_goes_on : members (page_taken None [] (page_taken (page_at (codes "1") (codes "1")) (present entering ∷ []) one_member))
      ≡ present entering ∷ []
  pub told_in_order : page_events (page_at (codes "1") []) (updating ∷ []) two_members ≡ Updated updating ∷ Left b_entering ∷ []

-- WHY HISTORIES HAVE TO BE ORDERLY

-- a client enters by a serial, as a Put gives it
abbrev pub put_of : ℕ → ℕ → ChannelEvent
put_of serial now = Put 1 serial (Presence (item_of presence.Enter [] 0 [] ∷ [])) now

-- connection 1 puts, is gone for good, and puts once more, from serial 0 on
abbrev pub disorderly : List ChannelEvent
disorderly = put_of 0 2 ∷ Gone 1 1 ∷ put_of 5 0 ∷ []

abbrev pub site : List ℕ
site = codes "s1"

-- as the log has it
abbrev pub entered_by : List ℕ → ℕ → PresenceItem
entered_by id stamp = record (item_of presence.Enter id stamp []) { conn = codes "c00000001" }

abbrev pub the_key : MemberKey
the_key = record { conn = codes "c00000001"; client = codes "a" }

-- the last item of the key is not newer than the first
pub record OrderMatters : Type 0 where
  pub gone_before : IsOrderly site disorderly → ⊥
  pub ids : map (λ item. item.id) (items_of_key the_key (log site disorderly)) ≡ codes "c00000001:5:0" ∷ codes "gone:2:0" ∷ codes "c00000001:0:0" ∷ []
  pub first : find (is_of the_key) (items_of (log site disorderly)) ≡ Some (entered_by (codes "c00000001:5:0") 0)
  pub last : find (is_of the_key) (reverse (items_of (log site disorderly))) ≡ Some (entered_by (codes "c00000001:0:0") 2)
  pub older : is_newer (entered_by (codes "c00000001:0:0") 2) (entered_by (codes "c00000001:5:0") 0) ≡ false
