-- Worked examples on channels: attaching and detaching, publishing.
use Rattle.std.specs.Prelude.{◌≡◌, ℕ, Bool, true, false, List, [], ◌∷◌, ◌++◌, Option, Some, None, codes}
use Rattle.rl_ids.specs.declared.serials.ChannelSerial.{ChannelSerial}
use Rattle.rl_ids.specs.declared.objects.ObjectId.TheVariants.{Root}
use Rattle.rl_types.specs.declared.messages.Given.{Given}
use Rattle.rl_types.specs.declared.messages.Given.TheVariants as given
use Rattle.rl_types.specs.declared.messages.Item.{Item}
use Rattle.rl_types.specs.declared.messages.Body.TheVariants as bodies
use Rattle.rl_types.specs.declared.objects.Op.TheVariants.{Delete}
use Rattle.rl_types.specs.declared.objects.ObjectOp.{ObjectOp}
use Rattle.rl_types.specs.declared.presence.PresenceItem.{PresenceItem}
use Rattle.rl_types.specs.declared.presence.PresenceAction.TheVariants.{Enter}
use Rattle.rl_types.specs.declared.frames.Head.{Head}
use Rattle.rl_types.specs.declared.frames.Frame.{Frame}
use Rattle.rl_types.specs.declared.frames.Frame.TheVariants as frames
use Rattle.rl_runs.specs.declared.commands.Hello.{Hello}
use Rattle.rl_events.specs.declared.book.BookEvent.TheVariants as book_events
use Rattle.rl_events.specs.declared.book.BookReply.TheVariants as book
use Rattle.rl_events.specs.declared.channel.Outcome.TheVariants.{Taken, Refused}
use Rattle.rl_events.specs.declared.channel.Verdict.{Verdict}
use Rattle.rl_events.specs.declared.channel.Verdict.TheVariants.{Done, Old}
use Rattle.rl_events.specs.declared.channel.ChannelEvent.TheVariants as events
use Rattle.rl_events.specs.declared.channel.ChannelReply.TheVariants as channel
use Rattle.rl_events.specs.declared.calls.Call.{Call}
use Rattle.rl_events.specs.declared.calls.Call.TheVariants as calls
use Rattle.rl_events.specs.declared.calls.Reply.TheVariants as replies
use Rattle.rl_events.specs.declared.calls.DirEvent.TheVariants.{Ask}
use Rattle.rl_events.specs.declared.calls.DirReply.{DirReply}
use Rattle.rl_events.specs.declared.calls.DirReply.TheVariants.{At, Full}
use Rattle.rl_events.specs.declared.calls.End.TheVariants as ends
use Rattle.rl_actormodel.specs.State.{session_names, session_name}
use Rattle.rl_actormodel.specs.Wishes.{next_call, poll_call, page_call}
use Rattle.rl_actormodel.specs.Inputs.{Input, Absorbed, Gave, after}
use Rattle.rl_actormodel.specs.Examples.{room, plain, named, says, ready, took_frame, wants, waits, disconnected, lost}

-- ATTACHING

abbrev pub directory_says : DirReply → Input
directory_says reply = Absorbed (calls.Dir (Ask room)) (replies.Dir reply) 0

abbrev pub attach : Option Given → Input
attach serial = took_frame (frames.Attach room serial)

-- the place of this run
abbrev pub serial_at : ℕ → ChannelSerial
serial_at place = record { epoch = 1; place = place }

-- the channel was joined at 6
abbrev pub joined : Bool → Bool → Bool → Input
joined resumed presence objects = Absorbed (calls.Chan 4 (events.Join None)) (replies.Chan (channel.Joined (serial_at 6) resumed presence objects)) 0

-- a session at 6, of which ATTACHED was taken
abbrev pub attached : List Input
attached = Gave ∷ joined false false false ∷ directory_says (At 4) ∷ attach None ∷ []

-- the name of another channel, before this one
abbrev pub hall : List ℕ
hall = codes "hall"

abbrev pub both_attached : List Input
both_attached =
    Absorbed (calls.Chan 5 (events.Join None)) (replies.Chan (channel.Joined (serial_at 0) false false false)) 0
    ∷ Absorbed (calls.Dir (Ask hall)) (replies.Dir (At 5)) 0
    ∷ took_frame (frames.Attach hall None)
    ∷ attached

pub record ShowsAttach : Type 0 where
  pub asks : wants (attach None ∷ []) ≡ Some (calls.Dir (Ask room))
  pub joins : wants (directory_says (At 4) ∷ attach None ∷ []) ≡ Some (calls.Chan 4 (events.Join None))
  pub gives : wants (directory_says (At 4) ∷ attach (Some (given.Ours (serial_at 3))) ∷ []) ≡ Some (calls.Chan 4 (events.Join (Some (given.Ours (serial_at 3)))))
  pub told : waits (joined false false false ∷ directory_says (At 4) ∷ attach None ∷ []) ≡ frames.Attached room (serial_at 6) 0 None ∷ []
  pub members : waits (joined false true false ∷ directory_says (At 4) ∷ attach None ∷ []) ≡ frames.Attached room (serial_at 6) 1 None ∷ []
  pub objects : waits (joined false false true ∷ directory_says (At 4) ∷ attach None ∷ []) ≡ frames.Attached room (serial_at 6) 128 None ∷ []
  pub resumed : waits (joined true true true ∷ directory_says (At 4) ∷ attach (Some (given.Ours (serial_at 6))) ∷ []) ≡ frames.Attached room (serial_at 6) 133 None ∷ []
  pub ours_not_retained : waits (joined false false false ∷ directory_says (At 4) ∷ attach (Some (given.Ours (serial_at 3))) ∷ []) ≡ frames.Attached room (serial_at 6) 0 (Some 101) ∷ []
  pub reads_from_told : poll_call room (after plain 0 (joined false false false ∷ directory_says (At 4) ∷ attach (Some (given.Ours (serial_at 3))) ∷ ready))
      ≡ Some (calls.Chan 4 (events.Read 6 16))
  pub not_retained : waits (joined false false false ∷ directory_says (At 4) ∷ attach (Some (given.Other (codes "abc"))) ∷ []) ≡ frames.Attached room (serial_at 6) 0 (Some 101) ∷ []
  pub done : wants attached ≡ None
  pub full : waits (directory_says (Full 256) ∷ attach None ∷ []) ≡ frames.Error (Some room) 103 ∷ []
  pub full_done : wants (directory_says (Full 256) ∷ attach None ∷ []) ≡ None
  pub full_none : session_names (after plain 0 (directory_says (Full 256) ∷ attach None ∷ ready)) ≡ []
  pub full_asks_again : wants (attach None ∷ directory_says (Full 256) ∷ attach None ∷ []) ≡ Some (calls.Dir (Ask room))

-- A SECOND ATTACH

pub record ShowsAttachAgain : Type 0 where
  pub asks_not : wants (attach None ∷ attached) ≡ Some (calls.Chan 4 (events.Join None))
  pub other_asks : wants (took_frame (frames.Attach hall None) ∷ attached) ≡ Some (calls.Dir (Ask hall))
  pub keeps : session_names (after plain 0 (attach None ∷ attached ++ ready)) ≡ room ∷ []
  pub reads : poll_call room (after plain 0 (attached ++ ready)) ≡ Some (calls.Chan 4 (events.Read 6 16))
  pub reads_not : poll_call room (after plain 0 (attach None ∷ attached ++ ready)) ≡ None
  pub reads_no_other : poll_call hall (after plain 0 (attached ++ ready)) ≡ None
  pub new_sync : page_call room (after plain 0 (joined false true false ∷ attach None ∷ attached ++ ready)) ≡ Some (calls.Chan 4 (events.MemberPage None 64))
  pub no_sync : page_call room (after plain 0 (attached ++ ready)) ≡ None
  pub counted : (after plain 0 (joined false true false ∷ attach None ∷ attached ++ ready)).sequence ≡ 2
  pub by_name : session_names (after plain 0 (both_attached ++ ready)) ≡ hall ∷ room ∷ []
  pub first_name : session_name 0 (after plain 0 (both_attached ++ ready)) ≡ Some hall
  pub second_name : session_name 1 (after plain 0 (both_attached ++ ready)) ≡ Some room
  pub no_third : session_name 2 (after plain 0 (both_attached ++ ready)) ≡ None

-- DETACHING

abbrev pub detach : Input
detach = took_frame (frames.Detach room)

pub record ShowsDetach : Type 0 where
  pub told : waits (detach ∷ attached) ≡ frames.Detached room None ∷ []
  pub ends : session_names (after plain 0 (detach ∷ attached ++ ready)) ≡ []
  pub other_stays : session_names (after plain 0 (detach ∷ both_attached ++ ready)) ≡ hall ∷ []
  pub without_session : waits (detach ∷ []) ≡ frames.Detached room None ∷ []
  pub done : wants (detach ∷ attached) ≡ None
  pub keeps_number : wants (attach None ∷ detach ∷ attached) ≡ Some (calls.Chan 4 (events.Join None))

-- PUBLISHING

abbrev pub head_of : ℕ → Head
head_of serial = record { channel = room; msg = Some serial; serial = None; conn = None; id = None; stamp = None }

abbrev pub message : Option (List ℕ) → Item
message client = record { id = None; name = None; payload = Some (codes "hi"); encoding = None; client = client }

abbrev pub publish : Input
publish = took_frame (frames.Message (head_of 0) (message None ∷ []))

abbrev pub put_call : Call
put_call = calls.Chan 4 (events.Put 1 0 (bodies.Messages []) 0)

abbrev pub put_says : Verdict → Input
put_says verdict = Absorbed put_call (replies.Chan (channel.Put verdict)) 0

-- the put was made and answered
abbrev pub put_made : Verdict → List Input
put_made verdict = put_says verdict ∷ directory_says (At 4) ∷ says book.Go ∷ publish ∷ []

pub record ShowsPublish : Type 0 where
  pub begins : wants (publish ∷ []) ≡ Some (calls.Book (book_events.Begin 1 1 0))
  pub asks : wants (says book.Go ∷ publish ∷ []) ≡ Some (calls.Dir (Ask room))
  pub asks_not : wants (says book.Go ∷ publish ∷ attached) ≡ Some (calls.Chan 4 (events.Put 1 0 (bodies.Messages (message None ∷ [])) 9))
  pub puts : wants (directory_says (At 4) ∷ says book.Go ∷ publish ∷ []) ≡ Some (calls.Chan 4 (events.Put 1 0 (bodies.Messages (message None ∷ [])) 9))
  pub ends : wants (put_made (Done (Taken 5))) ≡ Some (calls.Book (book_events.End 1 1 0 (Some (Taken 5))))
  pub waits_for_end : waits (put_made (Done (Taken 5))) ≡ []
  pub taken : waits (says book.Done ∷ put_made (Done (Taken 5))) ≡ frames.Ack 0 1 ∷ []
  pub refused : waits (says book.Done ∷ put_made (Done (Refused 106))) ≡ frames.Nack 0 1 106 ∷ []
  pub done : wants (says book.Done ∷ put_made (Done (Taken 5))) ≡ None
  pub old_ends : wants (put_made Old) ≡ Some (calls.Book (book_events.End 1 1 0 None))
  pub old_silent : waits (says book.Done ∷ put_made Old) ≡ []
  pub old_done : wants (says book.Done ∷ put_made Old) ≡ None
  pub known : waits (says (book.Known (Taken 5)) ∷ publish ∷ []) ≡ frames.Ack 0 1 ∷ []
  pub known_refused : waits (says (book.Known (Refused 109)) ∷ publish ∷ []) ≡ frames.Nack 0 1 109 ∷ []
  pub known_done : wants (says (book.Known (Taken 5)) ∷ publish ∷ []) ≡ None
  pub full_ends : wants (directory_says (Full 256) ∷ says book.Go ∷ publish ∷ []) ≡ Some (calls.Book (book_events.End 1 1 0 (Some (Refused 103))))
  pub full_refused : waits (says book.Done ∷ directory_says (Full 256) ∷ says book.Go ∷ publish ∷ []) ≡ frames.Nack 0 1 103 ∷ []

pub record ShowsSerials : Type 0 where
  pub gap : (after plain 0 (says (book.SerialGap 4 0) ∷ publish ∷ ready)).ended ≡ Some (ends.SerialGap 4 0)
  pub gap_told : waits (says (book.SerialGap 4 0) ∷ publish ∷ []) ≡ disconnected 121 ∷ []
  pub gap_lost : wants (says (book.SerialGap 4 0) ∷ publish ∷ []) ≡ lost
  pub old : (after plain 0 (says (book.SerialOld 0 4) ∷ publish ∷ ready)).ended ≡ Some (ends.SerialOld 0 4)
  pub old_told : waits (says (book.SerialOld 0 4) ∷ publish ∷ []) ≡ disconnected 122 ∷ []
  pub old_lost : wants (says (book.SerialOld 0 4) ∷ publish ∷ []) ≡ lost
  pub superseded : (after plain 0 (says (book.Superseded 2) ∷ publish ∷ ready)).ended ≡ Some (ends.Superseded 1 2)
  pub superseded_told : waits (says (book.Superseded 2) ∷ publish ∷ []) ≡ disconnected 123 ∷ []
  pub superseded_done : wants (says (book.Superseded 2) ∷ publish ∷ []) ≡ None
  pub forgotten : (after plain 0 (says book.NoRecord ∷ publish ∷ ready)).ended ≡ Some ends.Forgotten
  pub forgotten_told : waits (says book.NoRecord ∷ publish ∷ []) ≡ disconnected 123 ∷ []
  pub forgotten_done : wants (says book.NoRecord ∷ publish ∷ []) ≡ None
  pub late : (after plain 0 (says (book.Superseded 2) ∷ put_made (Done (Taken 5)) ++ ready)).ended ≡ Some (ends.Superseded 1 2)
  pub late_told : waits (says (book.Superseded 2) ∷ put_made (Done (Taken 5))) ≡ disconnected 123 ∷ []
  pub late_done : wants (says (book.Superseded 2) ∷ put_made (Done (Taken 5))) ≡ None
  pub late_forgotten : (after plain 0 (says book.NoRecord ∷ put_made (Done (Taken 5)) ++ ready)).ended ≡ Some ends.Forgotten
  pub late_forgotten_told : waits (says book.NoRecord ∷ put_made (Done (Taken 5))) ≡ disconnected 123 ∷ []
  pub late_forgotten_done : wants (says book.NoRecord ∷ put_made (Done (Taken 5))) ≡ None

-- WHO PUBLISHES

-- what is put of this frame, where the client came with this hello
abbrev pub put_by : Hello → Frame → Option Call
put_by hello frame = next_call 9 (after hello 0 (directory_says (At 4) ∷ says book.Go ∷ took_frame frame ∷ ready))

abbrev pub member : List ℕ → PresenceItem
member client = record { action = Enter; client = client; conn = []; id = []; stamp = 0; payload = Some (codes "x"); encoding = None }

abbrev pub operation : ObjectOp
operation = record { op = Delete Root; serial = None }

pub record ShowsClientIds : Type 0 where
  pub own_message : put_by named (frames.Message (head_of 0) (message (Some (codes "bob")) ∷ [])) ≡ Some (calls.Chan 4 (events.Put 1 0 (bodies.Messages (message (Some (codes "bob")) ∷ [])) 9))
  pub signed_message : put_by named (frames.Message (head_of 0) (message None ∷ [])) ≡ Some (calls.Chan 4 (events.Put 1 0 (bodies.Messages (message (Some (codes "ann")) ∷ [])) 9))
  pub unsigned_message : put_by plain (frames.Message (head_of 0) (message None ∷ [])) ≡ Some (calls.Chan 4 (events.Put 1 0 (bodies.Messages (message None ∷ [])) 9))
  pub own_member : put_by named (frames.Presence (head_of 0) (member (codes "bob") ∷ [])) ≡ Some (calls.Chan 4 (events.Put 1 0 (bodies.Presence (member (codes "bob") ∷ [])) 9))
  pub signed_member : put_by named (frames.Presence (head_of 0) (member [] ∷ [])) ≡ Some (calls.Chan 4 (events.Put 1 0 (bodies.Presence (member (codes "ann") ∷ [])) 9))
  pub unsigned_member : put_by plain (frames.Presence (head_of 0) (member [] ∷ [])) ≡ Some (calls.Chan 4 (events.Put 1 0 (bodies.Presence (member [] ∷ [])) 9))
  pub two_messages : put_by named (frames.Message (head_of 0) (message None ∷ message (Some (codes "bob")) ∷ message None ∷ []))
      ≡ Some (calls.Chan 4 (events.Put 1 0 (bodies.Messages (message (Some (codes "ann")) ∷ message (Some (codes "bob")) ∷ message (Some (codes "ann")) ∷ [])) 9))
  pub two_members : put_by named (frames.Presence (head_of 0) (member [] ∷ member (codes "bob") ∷ member [] ∷ []))
      ≡ Some (calls.Chan 4 (events.Put 1 0 (bodies.Presence (member (codes "ann") ∷ member (codes "bob") ∷ member (codes "ann") ∷ [])) 9))
  pub operations : put_by named (frames.Object (head_of 0) (operation ∷ [])) ≡ Some (calls.Chan 4 (events.Put 1 0 (bodies.Objects (operation ∷ [])) 9))
