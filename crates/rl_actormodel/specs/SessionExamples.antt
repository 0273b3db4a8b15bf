-- Worked examples on several sessions, on sessions that begin anew, and a whole session with the calls that it makes.
use Rattle.std.specs.Prelude.{◌≡◌, ℕ, true, false, List, [], ◌∷◌, ◌++◌, Option, Some, None, codes}
use Rattle.rl_ids.specs.declared.serials.ChannelSerial.{ChannelSerial}
use Rattle.rl_types.specs.declared.messages.Body.TheVariants.{Messages}
use Rattle.rl_types.specs.declared.presence.PresenceItem.{PresenceItem}
use Rattle.rl_types.specs.declared.objects.ObjectState.{ObjectState}
use Rattle.rl_types.specs.declared.frames.Cursor.{Cursor}
use Rattle.rl_types.specs.declared.frames.Head.{Head}
use Rattle.rl_types.specs.declared.frames.Frame.{Frame}
use Rattle.rl_types.specs.declared.frames.Frame.TheVariants as frames
use Rattle.rl_events.specs.declared.book.BookEvent.TheVariants as book_events
use Rattle.rl_events.specs.declared.book.BookReply.TheVariants as book
use Rattle.rl_events.specs.declared.channel.Outcome.TheVariants.{Taken}
use Rattle.rl_events.specs.declared.channel.Verdict.TheVariants.{Done}
use Rattle.rl_events.specs.declared.channel.ChannelEvent.TheVariants as events
use Rattle.rl_events.specs.declared.channel.ChannelReply.TheVariants as channel
use Rattle.rl_events.specs.declared.channel.ReadReply.TheVariants.{Run}
use Rattle.rl_events.specs.declared.calls.Call.{Call}
use Rattle.rl_events.specs.declared.calls.Call.TheVariants as calls
use Rattle.rl_events.specs.declared.calls.Reply.{Reply}
use Rattle.rl_events.specs.declared.calls.Reply.TheVariants as replies
use Rattle.rl_events.specs.declared.calls.DirEvent.TheVariants.{Ask}
use Rattle.rl_events.specs.declared.calls.DirReply.TheVariants.{At, Full, Names}
use Rattle.rl_events.specs.declared.calls.End.TheVariants as ends
use Rattle.rl_actormodel.specs.State.{State, begun}
use Rattle.rl_actormodel.specs.Wishes.{poll_call, page_call}
use Rattle.rl_actormodel.specs.Takes.{A, Unknown, took}
use Rattle.rl_actormodel.specs.Inputs.{Input, Took, Absorbed, Rested, Gave, after, put_out}
use Rattle.rl_actormodel.specs.Conditions.{AreAllowed}
use Rattle.rl_actormodel.specs.Examples.{room, key, plain, keyed, says, ready, took_frame, waits, connected_as}
use Rattle.rl_actormodel.specs.ChannelExamples.{serial_at, directory_says, attach, hall, both_attached, head_of, message, publish, put_call, put_made}
use Rattle.rl_actormodel.specs.SyncExamples.{session_at, member, members_say, entry, entries, reads, sync, pages_of, again_at}

-- WHAT IS PASSED OVER

-- a frame that changes nothing but the moment of the last one that came
abbrev pub IsPassedOver : Frame → Type 0
IsPassedOver frame = (now : ℕ) (s : State) → took (A frame) now s ≡ took Unknown now s

pub record ShowsPassedOver : Type 0 where
  pub ack : (serial count : ℕ) → IsPassedOver (frames.Ack serial count)
  pub nack : (serial count code : ℕ) → IsPassedOver (frames.Nack serial count code)
  pub connect : IsPassedOver frames.Connect
  pub connected : (conn key : List ℕ) (ttl idle size : ℕ) (code : Option ℕ) → IsPassedOver (frames.Connected conn key ttl idle size code)
  pub disconnect : IsPassedOver frames.Disconnect
  pub disconnected : (code : Option ℕ) → IsPassedOver (frames.Disconnected code)
  pub closed : IsPassedOver frames.Closed
  pub error : (channel : Option (List ℕ)) (code : ℕ) → IsPassedOver (frames.Error channel code)
  pub attached : (channel : List ℕ) (serial : ChannelSerial) (flags : ℕ) (code : Option ℕ) → IsPassedOver (frames.Attached channel serial flags code)
  pub detached : (channel : List ℕ) (code : Option ℕ) → IsPassedOver (frames.Detached channel code)
  pub sync : (channel : List ℕ) (at : Option Cursor) (items : List PresenceItem) → IsPassedOver (frames.Sync channel at items)
  pub object_sync : (channel : List ℕ) (at : Option Cursor) (states : List ObjectState) → IsPassedOver (frames.ObjectSync channel at states)
  pub auth : IsPassedOver frames.Auth

-- REPLIES OF ANOTHER KIND

-- a reply to the call that is wanted after these inputs leaves the actor as it is
abbrev pub LeavesAll : List Input → Call → Reply → Type 0
LeavesAll inputs call reply = after plain 0 (Absorbed call reply 5 ∷ inputs ++ ready) ≡ after plain 0 (inputs ++ ready)

abbrev pub begin_call : Call
begin_call = calls.Book (book_events.Begin 1 1 0)

-- no machine gives such a reply
pub record ShowsOtherKinds : Type 0 where
  pub resume : after keyed 0 (Absorbed (calls.Book (book_events.Resume key 0)) (replies.Book book.Done) 5 ∷ []) ≡ after keyed 0 []
  pub first_open : after plain 0 (Absorbed (calls.Book (book_events.Open 7 0)) (replies.Book book.KeyUnknown) 5 ∷ []) ≡ after plain 0 []
  pub ask : LeavesAll (attach None ∷ []) (calls.Dir (Ask room)) (replies.Dir (Names []))
  pub join : LeavesAll (directory_says (At 4) ∷ attach None ∷ []) (calls.Chan 4 (events.Join None)) (replies.Chan channel.Ticked)
  pub begin : LeavesAll (publish ∷ []) begin_call (replies.Book book.Done)
  pub ask_to_put : LeavesAll (says book.Go ∷ publish ∷ []) (calls.Dir (Ask room)) (replies.Book book.Done)
  pub put : LeavesAll (directory_says (At 4) ∷ says book.Go ∷ publish ∷ []) put_call (replies.Chan channel.Ticked)
  pub end : LeavesAll (put_made (Done (Taken 5))) (calls.Book (book_events.End 1 1 0 (Some (Taken 5)))) (replies.Book book.Go)
  pub close : LeavesAll (took_frame frames.Close ∷ []) (calls.Book (book_events.Close 1 1)) (replies.Book book.Go)

-- TWO SESSIONS

-- the calls of both channels after these inputs
abbrev pub polls : List ℕ → List Input → Option Call
polls name inputs = poll_call name (after plain 0 (inputs ++ ready))

abbrev pub pages : List ℕ → List Input → Option Call
pages name inputs = page_call name (after plain 0 (inputs ++ ready))

-- two entries of the room were read, and one of the hall
abbrev pub room_read : Input
room_read = Absorbed (calls.Chan 4 (events.Read 6 16)) (replies.Chan (channel.Read (Run (entries 7 2)))) 0

abbrev pub hall_read : Input
hall_read = Absorbed (calls.Chan 5 (events.Read 0 16)) (replies.Chan (channel.Read (Run (entries 1 1)))) 0

-- both sessions have members
abbrev pub both_with_members : List Input
both_with_members =
    Absorbed (calls.Chan 5 (events.Join None)) (replies.Chan (channel.Joined (serial_at 0) false true false)) 0
    ∷ Absorbed (calls.Dir (Ask hall)) (replies.Dir (At 5)) 0
    ∷ took_frame (frames.Attach hall None)
    ∷ session_at 6 true false

abbrev pub hall_page : Input
hall_page = Absorbed (calls.Chan 5 (events.MemberPage None 64)) (replies.Chan (channel.Members (member (codes "a") ∷ []) true 0)) 0

-- a read and a page move their own session alone
pub record ShowsApart : Type 0 where
  pub room_moves : polls room (room_read ∷ both_attached) ≡ Some (calls.Chan 4 (events.Read 8 16))
  pub hall_stays : polls hall (room_read ∷ both_attached) ≡ Some (calls.Chan 5 (events.Read 0 16))
  pub hall_moves : polls hall (hall_read ∷ both_attached) ≡ Some (calls.Chan 5 (events.Read 1 16))
  pub room_stays : polls room (hall_read ∷ both_attached) ≡ Some (calls.Chan 4 (events.Read 6 16))
  pub hall_paged : pages hall (hall_page ∷ both_with_members) ≡ None
  pub room_wants : pages room (hall_page ∷ both_with_members) ≡ Some (calls.Chan 4 (events.MemberPage None 64))
  pub room_paged : pages room (members_say (member (codes "a") ∷ []) true 6 ∷ both_with_members) ≡ None
  pub hall_wants : pages hall (members_say (member (codes "a") ∷ []) true 6 ∷ both_with_members) ≡ Some (calls.Chan 5 (events.MemberPage None 64))

-- HOW A SESSION BEGINS

-- the channel was joined at 6 under epoch 2
abbrev pub second_epoch : List Input
second_epoch =
    Gave
    ∷ Absorbed (calls.Chan 4 (events.Join None)) (replies.Chan (channel.Joined (record { epoch = 2; place = 6 }) false false false)) 0
    ∷ directory_says (At 4)
    ∷ attach None
    ∷ []

abbrev pub second_head : Head
second_head = record { channel = room; msg = None; serial = Some (record { epoch = 2; place = 7 }); conn = Some (codes "c00000002"); id = None; stamp = Some 5 }

-- the first page of members came, and more are to come
abbrev pub half_paged : List Input
half_paged = Gave ∷ members_say (member (codes "a") ∷ []) false 5 ∷ session_at 2 true false

-- the directory was full for the hall, and ERROR was taken
abbrev pub refused : List Input
refused = Gave ∷ Absorbed (calls.Dir (Ask hall)) (replies.Dir (Full 256)) 0 ∷ took_frame (frames.Attach hall None) ∷ []

-- entries have the epoch that was told; a new session begins its pages anew, with a number of its own; an ERROR uses no
-- number; where there are members alone, one SYNC ends the sync
pub record ShowsBeginnings : Type 0 where
  pub epoch : waits (Absorbed (calls.Chan 4 (events.Read 6 16)) (replies.Chan (channel.Read (Run (entries 7 1)))) 0 ∷ second_epoch) ≡ frames.Message second_head [] ∷ []
  pub from_first : pages_of (again_at 8 ++ half_paged) ≡ Some (calls.Chan 4 (events.MemberPage None 64))
  pub numbered : waits (members_say [] true 8 ∷ again_at 8 ++ half_paged) ≡ frames.Sync room (Some (record { sequence = codes "2"; cursor = codes "1" })) [] ∷ []
  pub error_uses_none : waits (members_say [] true 2 ∷ session_at 2 true false ++ refused) ≡ sync (codes "1") [] ∷ []
  pub members_alone : waits (reads (Run []) ∷ Gave ∷ members_say (member (codes "a") ∷ []) true 2 ∷ session_at 2 true false) ≡ sync [] [] ∷ []

-- A WHOLE SESSION

-- a client opens, attaches, publishes, is shown its message, is at rest, and closes. The latest stands first
abbrev pub whole : List Input
whole =
    Gave
    ∷ Absorbed (calls.Book (book_events.Close 1 1)) (replies.Book book.Done) 10004
    ∷ Took (A frames.Close) 10004
    ∷ Gave
    ∷ Rested 10003
    ∷ Gave
    ∷ Absorbed (calls.Chan 4 (events.Read 6 16)) (replies.Chan (channel.Read (Run (entry 7 ∷ [])))) 3
    ∷ Gave
    ∷ Absorbed (calls.Book (book_events.End 1 1 0 (Some (Taken 7)))) (replies.Book book.Done) 2
    ∷ Absorbed (calls.Chan 4 (events.Put 1 0 (Messages (message None ∷ [])) 2)) (replies.Chan (channel.Put (Done (Taken 7)))) 2
    ∷ Absorbed (calls.Book (book_events.Begin 1 1 0)) (replies.Book book.Go) 2
    ∷ Took (A (frames.Message (head_of 0) (message None ∷ []))) 2
    ∷ Gave
    ∷ Absorbed (calls.Chan 4 (events.Join None)) (replies.Chan (channel.Joined (serial_at 6) false false false)) 1
    ∷ Absorbed (calls.Dir (Ask room)) (replies.Dir (At 4)) 1
    ∷ Took (A (frames.Attach room None)) 1
    ∷ Gave
    ∷ Absorbed (calls.Book (book_events.Open 7 0)) (replies.Book (book.Opened 1 1 key)) 0
    ∷ []

abbrev pub head_of_seventh : Head
head_of_seventh = record { channel = room; msg = None; serial = Some (serial_at 7); conn = Some (codes "c00000002"); id = None; stamp = Some 5 }

-- all that was put out
abbrev pub whole_out : List Frame
whole_out =
    connected_as (codes "c00000001") key None
    ∷ frames.Attached room (serial_at 6) 0 None
    ∷ frames.Ack 0 1
    ∷ frames.Message head_of_seventh []
    ∷ frames.Heartbeat
    ∷ frames.Closed
    ∷ []

-- each of its inputs meets the conditions of its call
pub record ShowsWhole : Type 0 where
  pub allowed : AreAllowed whole (begun plain 0)
  pub out : put_out plain 0 whole ≡ whole_out
  pub none_waits : (after plain 0 whole).waiting ≡ []
  pub ended : (after plain 0 whole).ended ≡ Some ends.Closed
