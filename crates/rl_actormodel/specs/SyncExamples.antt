-- Worked examples on a session's pages and reads, on rests, and on ends.
use Rattle.std.specs.Prelude.{◌≡◌, ℕ, zero, suc, Bool, true, false, List, [], ◌∷◌, ◌++◌, map, Option, Some, None, codes}
use Rattle.rl_ids.specs.declared.objects.ObjectId.TheVariants.{Root}
use Rattle.rl_types.specs.declared.messages.Entry.{Entry}
use Rattle.rl_types.specs.declared.messages.Body.TheVariants as bodies
use Rattle.rl_types.specs.declared.objects.ObjectBody.TheVariants.{Map}
use Rattle.rl_types.specs.declared.objects.ObjectState.{ObjectState}
use Rattle.rl_types.specs.declared.presence.PresenceItem.{PresenceItem}
use Rattle.rl_types.specs.declared.presence.PresenceAction.TheVariants.{Present}
use Rattle.rl_types.specs.declared.frames.Head.{Head}
use Rattle.rl_types.specs.declared.frames.Frame.{Frame}
use Rattle.rl_types.specs.declared.frames.Frame.TheVariants as frames
use Rattle.rl_events.specs.declared.book.BookReply.TheVariants as book
use Rattle.rl_events.specs.declared.channel.ChannelEvent.TheVariants as events
use Rattle.rl_events.specs.declared.channel.ChannelReply.TheVariants as channel
use Rattle.rl_events.specs.declared.channel.ReadReply.{ReadReply}
use Rattle.rl_events.specs.declared.channel.ReadReply.TheVariants.{Run, NotRetained}
use Rattle.rl_events.specs.declared.calls.Call.{Call}
use Rattle.rl_events.specs.declared.calls.Call.TheVariants as calls
use Rattle.rl_events.specs.declared.calls.Reply.TheVariants as replies
use Rattle.rl_events.specs.declared.calls.End.TheVariants as ends
use Rattle.rl_actormodel.specs.State.{State, has_room, session_names}
use Rattle.rl_actormodel.specs.Wishes.{next_call, poll_call, page_call}
use Rattle.rl_actormodel.specs.Ends.{farewell}
use Rattle.rl_actormodel.specs.Rests.{does_rest, rested}
use Rattle.rl_actormodel.specs.Inputs.{Input, Took, Absorbed, Rested, Ended, Gave, after, put_out}
use Rattle.rl_actormodel.specs.Takes.{A}
use Rattle.rl_actormodel.specs.Examples.{room, key, plain, says, ready, took_frame, wants, waits, connected_as, disconnected, lost}
use Rattle.rl_actormodel.specs.ChannelExamples.{serial_at, directory_says, attach, attached, publish}
use Rattle.rl_events.specs.declared.calls.DirReply.TheVariants.{At}

-- A SESSION WITH MEMBERS AND OBJECTS

-- it begins at this place, and ATTACHED was taken
abbrev pub session_at : ℕ → Bool → Bool → List Input
session_at place presence objects =
    Gave
    ∷ Absorbed (calls.Chan 4 (events.Join None)) (replies.Chan (channel.Joined (serial_at place) false presence objects)) 0
    ∷ directory_says (At 4)
    ∷ attach None
    ∷ []

abbrev pub member : List ℕ → PresenceItem
member client = record { action = Present; client = client; conn = codes "c00000001"; id = []; stamp = 0; payload = None; encoding = None }

abbrev pub root : ObjectState
root = record { id = Root; sites = []; tombstone = false; created = true; body = Map [] }

-- a page of members, and one of objects, made at this head
abbrev pub members_say : List PresenceItem → Bool → ℕ → Input
members_say items last head = Absorbed (calls.Chan 4 (events.MemberPage None 64)) (replies.Chan (channel.Members items last head)) 0

abbrev pub objects_say : List ObjectState → Bool → ℕ → Input
objects_say states last head = Absorbed (calls.Chan 4 (events.ObjectPage None 4)) (replies.Chan (channel.Objects states last head)) 0

-- one entry of connection 2 at this place, and so many from this place on
abbrev pub entry : ℕ → Entry
entry place = record { place = place; stamp = 5; conn = 2; serial = Some 0; body = bodies.Messages [] }

abbrev pub entries : ℕ → ℕ → List Entry
entries place zero = []
entries place (suc count) = entry place ∷ entries (suc place) count

abbrev pub reads : ReadReply → Input
reads reply = Absorbed (calls.Chan 4 (events.Read 0 16)) (replies.Chan (channel.Read reply)) 0

abbrev pub head_at : ℕ → Head
head_at place = record { channel = room; msg = None; serial = Some (serial_at place); conn = Some (codes "c00000002"); id = None; stamp = Some 5 }

abbrev pub shown : ℕ → Frame
shown place = frames.Message (head_at place) []

abbrev pub sync : List ℕ → List PresenceItem → Frame
sync cursor items = frames.Sync room (Some (record { sequence = codes "1"; cursor = cursor })) items

abbrev pub object_sync : List ℕ → List ObjectState → Frame
object_sync cursor states = frames.ObjectSync room (Some (record { sequence = codes "1"; cursor = cursor })) states

abbrev pub pages_of : List Input → Option Call
pages_of inputs = page_call room (after plain 0 (inputs ++ ready))

abbrev pub polls_of : List Input → Option Call
polls_of inputs = poll_call room (after plain 0 (inputs ++ ready))

-- both kinds of page came, made at 5 and 6, and were taken
abbrev pub both_paged : List Input
both_paged = Gave ∷ Gave ∷ objects_say (root ∷ []) true 6 ∷ members_say (member (codes "a") ∷ []) true 5 ∷ session_at 2 true true

-- then entries 3 to 5 were read and taken
abbrev pub almost : List Input
almost = Gave ∷ Gave ∷ Gave ∷ reads (Run (entries 3 3)) ∷ both_paged

pub record ShowsPages : Type 0 where
  pub members_first : pages_of (session_at 2 true true) ≡ Some (calls.Chan 4 (events.MemberPage None 64))
  pub member_page : waits (members_say (member (codes "a") ∷ []) true 5 ∷ session_at 2 true true) ≡ sync (codes "1") (member (codes "a") ∷ []) ∷ []
  pub next_members : pages_of (members_say (member (codes "a") ∷ []) false 5 ∷ session_at 2 true true)
      ≡ Some (calls.Chan 4 (events.MemberPage (Some (record { conn = codes "c00000001"; client = codes "a" })) 64))
  pub objects_then : pages_of (members_say (member (codes "a") ∷ []) true 5 ∷ session_at 2 true true) ≡ Some (calls.Chan 4 (events.ObjectPage None 4))
  pub object_page : waits (objects_say (root ∷ []) true 6 ∷ Gave ∷ members_say [] true 5 ∷ session_at 2 true true) ≡ object_sync (codes "1") (root ∷ []) ∷ []
  pub none_left : pages_of both_paged ≡ None
  pub position_stays : polls_of both_paged ≡ Some (calls.Chan 4 (events.Read 2 16))
  pub no_members : pages_of (session_at 2 false true) ≡ Some (calls.Chan 4 (events.ObjectPage None 4))
  pub nothing : pages_of (session_at 2 false false) ≡ None
  pub while_calling : pages_of (publish ∷ session_at 2 true true) ≡ None
  pub once_ended : pages_of (Ended ends.LinkEnded ∷ session_at 2 true true) ≡ None

pub record ShowsReads : Type 0 where
  pub shows : waits (reads (Run (entries 3 2)) ∷ session_at 2 false false) ≡ shown 3 ∷ shown 4 ∷ []
  pub moves : polls_of (reads (Run (entries 3 2)) ∷ session_at 2 false false) ≡ Some (calls.Chan 4 (events.Read 4 16))
  pub none : waits (reads (Run []) ∷ session_at 2 false false) ≡ []
  pub presence : waits (reads (Run (record (entry 3) { body = bodies.Presence (member (codes "a") ∷ []) } ∷ [])) ∷ session_at 2 false false)
      ≡ frames.Presence (head_at 3) (member (codes "a") ∷ []) ∷ []
  pub objects : waits (reads (Run (record (entry 3) { body = bodies.Objects [] } ∷ [])) ∷ session_at 2 false false) ≡ frames.Object (head_at 3) [] ∷ []
  pub not_reached : waits (reads (Run (entries 3 3)) ∷ both_paged) ≡ shown 3 ∷ shown 4 ∷ shown 5 ∷ []
  pub reached : waits (reads (Run (entries 6 1)) ∷ almost) ≡ shown 6 ∷ sync [] [] ∷ object_sync [] [] ∷ []
  pub once : waits (reads (Run (entries 7 1)) ∷ Gave ∷ Gave ∷ Gave ∷ reads (Run (entries 6 1)) ∷ almost) ≡ shown 7 ∷ []
  pub none_read : waits (reads (Run []) ∷ Gave ∷ objects_say (root ∷ []) true 2 ∷ session_at 2 false true) ≡ object_sync [] [] ∷ []
  pub after_a_read : waits (objects_say (root ∷ []) true 2 ∷ session_at 2 false true) ≡ object_sync (codes "1") (root ∷ []) ∷ []
  pub pages_left : waits (reads (Run []) ∷ Gave ∷ members_say (member (codes "a") ∷ []) true 2 ∷ session_at 2 true true) ≡ []
  pub lagged : (after plain 0 (reads (NotRetained 9) ∷ session_at 2 false false ++ ready)).ended ≡ Some (ends.Lagged 2 9)
  pub lagged_told : waits (reads (NotRetained 9) ∷ session_at 2 false false) ≡ disconnected 124 ∷ []
  pub lagged_lost : wants (reads (NotRetained 9) ∷ session_at 2 false false) ≡ lost

-- END PAGES THAT WOULD COME TOO EARLY

-- a session begins at 1, where there are objects; 18 entries come behind it, and the page of objects is made at 19
abbrev pub early : List Input
early = Gave ∷ objects_say (root ∷ []) true 19 ∷ session_at 1 false true

abbrev pub shown_from : ℕ → ℕ → List Frame
shown_from place count = map (λ (e : Entry). shown e.place) (entries place count)

-- 16 of them are read, which end nothing, and then the other two, which do
pub record ShowsEndsInTime : Type 0 where
  pub sixteen : waits (reads (Run (entries 2 16)) ∷ early) ≡ shown_from 2 16
  pub position : polls_of (reads (Run (entries 2 16)) ∷ early) ≡ Some (calls.Chan 4 (events.Read 17 16))
  pub all : (after plain 0 (reads (Run (entries 18 2)) ∷ reads (Run (entries 2 16)) ∷ early ++ ready)).waiting ≡ shown_from 2 18 ++ (object_sync [] [] ∷ [])

-- A SECOND SYNC

-- the channel, whose number is known, was joined again at this place, with members
abbrev pub again_at : ℕ → List Input
again_at place =
    Gave ∷ Absorbed (calls.Chan 4 (events.Join None)) (replies.Chan (channel.Joined (serial_at place) false true false)) 0 ∷ attach None ∷ []

-- the syncs of an actor are numbered from 1, and the new session begins where it was told
pub record ShowsSequences : Type 0 where
  pub place : polls_of (again_at 8 ++ session_at 2 true true) ≡ Some (calls.Chan 4 (events.Read 8 16))
  pub second : waits (members_say [] true 3 ∷ again_at 8 ++ session_at 2 true true) ≡ frames.Sync room (Some (record { sequence = codes "2"; cursor = codes "1" })) [] ∷ []

-- RESTS

abbrev pub rests : ℕ → List Input → State
rests now inputs = rested now (after plain 0 (inputs ++ ready))

pub record ShowsRests : Type 0 where
  pub idle : (rests 600000 []).ended ≡ Some (ends.Idle 0 600000)
  pub idle_told : (rests 600000 []).waiting ≡ disconnected 126 ∷ []
  pub idle_lost : next_call 9 (rests 600000 []) ≡ lost
  pub early : (rests 599999 []).ended ≡ None
  pub after_frame : (rests 1099999 (Took (A frames.Auth) 500000 ∷ [])).ended ≡ None
  pub long_after : (rests 1100000 (Took (A frames.Auth) 500000 ∷ [])).ended ≡ Some (ends.Idle 500000 1100000)
  pub listens : (rests 600000 attached).ended ≡ None
  pub shows : (rests 600000 attached).waiting ≡ frames.Heartbeat ∷ []
  pub quiet : (rests 10000 []).waiting ≡ frames.Heartbeat ∷ []
  pub soon : (rests 9999 []).waiting ≡ []
  pub again : (rests 19999 (Gave ∷ Rested 10000 ∷ [])).waiting ≡ []
  pub later : (rests 20000 (Gave ∷ Rested 10000 ∷ [])).waiting ≡ frames.Heartbeat ∷ []
  pub waiting : (rests 10000 (took_frame (frames.Detach room) ∷ [])).waiting ≡ frames.Detached room None ∷ []
  pub calling : (rests 600000 (publish ∷ [])).waiting ≡ []
  pub calling_goes_on : (rests 600000 (publish ∷ [])).ended ≡ None
  pub ended : (rests 600000 (Ended ends.LinkEnded ∷ [])).ended ≡ Some ends.LinkEnded
  pub told : does_rest 10000 (after plain 0 ready) ≡ true
  pub told_idle : does_rest 600000 (after plain 0 ready) ≡ true
  pub told_not : does_rest 9999 (after plain 0 ready) ≡ false
  pub told_ended : does_rest 600000 (after plain 0 (Ended ends.LinkEnded ∷ ready)) ≡ false

-- ENDS

pub record ShowsFarewells : Type 0 where
  pub closed : farewell ends.Closed ≡ None
  pub link_ended : farewell ends.LinkEnded ≡ None
  pub link_fault : farewell ends.LinkFault ≡ None
  pub no_memory : farewell ends.NoMemory ≡ None
  pub stopped : farewell ends.Stopped ≡ Some (frames.Disconnected None)
  pub superseded : farewell (ends.Superseded 1 2) ≡ Some (frames.Disconnected (Some 123))
  pub forgotten : farewell ends.Forgotten ≡ Some (frames.Disconnected (Some 123))
  pub lagged : farewell (ends.Lagged 0 2) ≡ Some (frames.Disconnected (Some 124))
  pub bad_frame : farewell (ends.BadFrame []) ≡ Some (frames.Disconnected (Some 120))
  pub serial_gap : farewell (ends.SerialGap 4 0) ≡ Some (frames.Disconnected (Some 121))
  pub serial_old : farewell (ends.SerialOld 0 4) ≡ Some (frames.Disconnected (Some 122))
  pub idle : farewell (ends.Idle 0 600000) ≡ Some (frames.Disconnected (Some 126))
  pub limit : farewell (ends.ConnectionLimit 1024 2000) ≡ Some (frames.Disconnected (Some 125))

abbrev pub heartbeats : ℕ → List Frame
heartbeats zero = []
heartbeats (suc count) = frames.Heartbeat ∷ heartbeats count

abbrev pub full : ℕ → State
full count = record (after plain 0 ready) { waiting = heartbeats count }

pub record ShowsEnds : Type 0 where
  pub link_lost : wants (Ended ends.LinkEnded ∷ []) ≡ lost
  pub link_silent : waits (Ended ends.LinkEnded ∷ []) ≡ []
  pub fault_lost : wants (Ended ends.LinkFault ∷ []) ≡ lost
  pub memory_lost : wants (Ended ends.NoMemory ∷ []) ≡ lost
  pub memory_silent : waits (Ended ends.NoMemory ∷ []) ≡ []
  pub stop_lost : wants (Ended ends.Stopped ∷ []) ≡ lost
  pub stop_told : waits (Ended ends.Stopped ∷ []) ≡ frames.Disconnected None ∷ []
  pub lost_told : wants (says book.Done ∷ Ended ends.LinkEnded ∷ []) ≡ None
  pub lost_late : wants (says (book.Superseded 2) ∷ Ended ends.LinkEnded ∷ []) ≡ None
  pub gives_up : wants (Ended ends.LinkEnded ∷ publish ∷ []) ≡ lost
  pub behind : waits (Ended ends.Stopped ∷ took_frame frames.Heartbeat ∷ []) ≡ frames.Heartbeat ∷ frames.Disconnected None ∷ []
  pub no_connection : next_call 9 (after plain 0 (Ended ends.LinkEnded ∷ [])) ≡ None
  pub stop_without_connection : (after plain 0 (Ended ends.Stopped ∷ [])).waiting ≡ frames.Disconnected None ∷ []
  pub stop_calls_not : next_call 9 (after plain 0 (Ended ends.Stopped ∷ [])) ≡ None
  pub sessions_stay : session_names (after plain 0 (Ended ends.LinkEnded ∷ attached ++ ready)) ≡ room ∷ []
  pub first_end : (after plain 0 (Ended ends.Stopped ∷ Ended ends.LinkEnded ∷ ready)).ended ≡ Some ends.LinkEnded
  pub first_wish : wants (Ended ends.Stopped ∷ says book.Done ∷ Ended ends.LinkEnded ∷ []) ≡ None
  pub first_silent : waits (Ended ends.Stopped ∷ Ended ends.LinkEnded ∷ []) ≡ []
  pub room_left : has_room (full 224) ≡ true
  pub no_room : has_room (full 225) ≡ false
  pub all_out : put_out plain 0 (took_frame frames.Heartbeat ∷ ready) ≡ connected_as (codes "c00000001") key None ∷ frames.Heartbeat ∷ []
