-- Worked examples, of which each answer was written down from what an actor is to do. Here the values that they share, and
-- the connection: how it begins, comes back, is refused and closed.
use Rattle.std.specs.Prelude.{◌≡◌, ℕ, List, [], ◌∷◌, ◌++◌, Option, Some, None, codes, Ok, Err}
use Rattle.rl_types.specs.declared.frames.Head.{Head}
use Rattle.rl_types.specs.declared.frames.Frame.{Frame}
use Rattle.rl_types.specs.declared.frames.Frame.TheVariants as frames
use Rattle.rl_types.specs.declared.frames.WireFault.TheVariants.{NotJson, NoMemory}
use Rattle.rl_runs.specs.declared.commands.Hello.{Hello}
use Rattle.rl_events.specs.declared.book.BookEvent.TheVariants as book_events
use Rattle.rl_events.specs.declared.book.BookReply.{BookReply}
use Rattle.rl_events.specs.declared.book.BookReply.TheVariants as book
use Rattle.rl_events.specs.declared.calls.Call.{Call}
use Rattle.rl_events.specs.declared.calls.Call.TheVariants.{Book}
use Rattle.rl_events.specs.declared.calls.Reply.TheVariants as replies
use Rattle.rl_events.specs.declared.calls.End.TheVariants as ends
use Rattle.rl_actormodel.specs.Wishes.{next_call}
use Rattle.rl_actormodel.specs.Takes.{A, Unknown, Bad, came_in}
use Rattle.rl_actormodel.specs.Inputs.{Input, Took, Absorbed, Gave, after}

-- WHAT IS SHARED

abbrev pub room : List ℕ
room = codes "room"

abbrev pub key : List ℕ
key = codes "c00000001!0000000000000007"

-- a client without a client id and a key, one with a client id, one with a key
abbrev pub plain : Hello
plain = record { client = None; resume = None; word = 7 }

abbrev pub named : Hello
named = record { client = Some (codes "ann"); resume = None; word = 7 }

abbrev pub keyed : Hello
keyed = record { client = None; resume = Some key; word = 8 }

-- the book replies
abbrev pub says : BookReply → Input
says reply = Absorbed (Book (book_events.Begin 1 1 0)) (replies.Book reply) 0

-- connection 1 was opened, and CONNECTED was taken
abbrev pub ready : List Input
ready = Gave ∷ says (book.Opened 1 1 key) ∷ []

-- the frame that came
abbrev pub took_frame : Frame → Input
took_frame frame = Took (A frame) 0

-- after these inputs, and those that made the actor ready: what it wants at 9, and what waits
abbrev pub wants : List Input → Option Call
wants inputs = next_call 9 (after plain 0 (inputs ++ ready))

abbrev pub waits : List Input → List Frame
waits inputs = (after plain 0 (inputs ++ ready)).waiting

abbrev pub connected_as : List ℕ → List ℕ → Option ℕ → Frame
connected_as conn key code = frames.Connected conn key 120000 15000 65536 code

abbrev pub disconnected : ℕ → Frame
disconnected code = frames.Disconnected (Some code)

-- the loss of connection 1 is told
abbrev pub lost : Option Call
lost = Some (Book (book_events.Lost 1 1 9))

-- THE START

pub record ShowsStart : Type 0 where
  pub opens : next_call 5 (after plain 0 []) ≡ Some (Book (book_events.Open 7 5))
  pub silent : (after plain 0 []).waiting ≡ []
  pub opened : (after plain 0 (says (book.Opened 1 1 key) ∷ [])).waiting ≡ connected_as (codes "c00000001") key None ∷ []
  pub content : next_call 5 (after plain 0 (says (book.Opened 1 1 key) ∷ [])) ≡ None
  pub comes_back : next_call 5 (after keyed 0 []) ≡ Some (Book (book_events.Resume key 5))
  pub resumed : (after keyed 0 (says (book.Resumed 3 2) ∷ [])).waiting ≡ connected_as (codes "c00000003") key None ∷ []
  pub unknown : next_call 5 (after keyed 0 (says book.KeyUnknown ∷ [])) ≡ Some (Book (book_events.Open 8 5))
  pub unknown_silent : (after keyed 0 (says book.KeyUnknown ∷ [])).waiting ≡ []
  pub opened_anew : (after keyed 0 (says (book.Opened 17 1 (codes "k")) ∷ says book.KeyUnknown ∷ [])).waiting ≡ connected_as (codes "c00000011") (codes "k") (Some 102) ∷ []
  pub limited : (after plain 0 (says (book.Limit 1024 2000) ∷ [])).ended ≡ Some (ends.ConnectionLimit 1024 2000)
  pub limited_told : (after plain 0 (says (book.Limit 1024 2000) ∷ [])).waiting ≡ disconnected 125 ∷ []
  pub limited_done : next_call 5 (after plain 0 (says (book.Limit 1024 2000) ∷ [])) ≡ None

-- CLOSE AND HEARTBEAT, AND WHAT IS PASSED OVER

pub record ShowsClose : Type 0 where
  pub asks : wants (took_frame frames.Close ∷ []) ≡ Some (Book (book_events.Close 1 1))
  pub asks_first : waits (took_frame frames.Close ∷ []) ≡ []
  pub closed : waits (says book.Done ∷ took_frame frames.Close ∷ []) ≡ frames.Closed ∷ []
  pub closed_end : (after plain 0 (says book.Done ∷ took_frame frames.Close ∷ ready)).ended ≡ Some ends.Closed
  pub closed_done : wants (says book.Done ∷ took_frame frames.Close ∷ []) ≡ None
  pub superseded : waits (says (book.Superseded 2) ∷ took_frame frames.Close ∷ []) ≡ disconnected 123 ∷ []
  pub superseded_end : (after plain 0 (says (book.Superseded 2) ∷ took_frame frames.Close ∷ ready)).ended ≡ Some (ends.Superseded 1 2)
  pub superseded_done : wants (says (book.Superseded 2) ∷ took_frame frames.Close ∷ []) ≡ None
  pub forgotten_end : (after plain 0 (says book.NoRecord ∷ took_frame frames.Close ∷ ready)).ended ≡ Some ends.Forgotten
  pub forgotten_done : wants (says book.NoRecord ∷ took_frame frames.Close ∷ []) ≡ None

pub record ShowsOthers : Type 0 where
  pub heartbeat : waits (took_frame frames.Heartbeat ∷ []) ≡ frames.Heartbeat ∷ []
  pub heartbeat_done : wants (took_frame frames.Heartbeat ∷ []) ≡ None
  pub connect : waits (took_frame frames.Connect ∷ []) ≡ []
  pub disconnect : waits (took_frame frames.Disconnect ∷ []) ≡ []
  pub auth : wants (took_frame frames.Auth ∷ []) ≡ None
  pub ack : waits (took_frame (frames.Ack 0 1) ∷ []) ≡ []
  pub sync : wants (took_frame (frames.Sync room None []) ∷ []) ≡ None
  pub unknown : waits (Took Unknown 0 ∷ []) ≡ []
  pub unknown_goes_on : (after plain 0 (Took Unknown 3 ∷ ready)).ended ≡ None
  pub unknown_came : (after plain 0 (Took Unknown 3 ∷ ready)).last_in ≡ 3

-- BAD FRAMES

-- a head without a message serial
abbrev pub bare : Head
bare = record { channel = room; msg = None; serial = None; conn = None; id = None; stamp = None }

abbrev pub without_serial : Frame
without_serial = frames.Message bare []

abbrev pub with_serial : Frame
with_serial = frames.Message (record bare { msg = Some 0 }) []

pub record ShowsBadFrames : Type 0 where
  pub fault : came_in (codes "{") (Err NotJson) ≡ Some (Bad (codes "{"))
  pub no_memory : came_in (codes "{") (Err NoMemory) ≡ None
  pub lacks : came_in (codes "x") (Ok (Some without_serial)) ≡ Some (Bad (codes "x"))
  pub presence_lacks : came_in (codes "x") (Ok (Some (frames.Presence bare []))) ≡ Some (Bad (codes "x"))
  pub object_lacks : came_in (codes "x") (Ok (Some (frames.Object bare []))) ≡ Some (Bad (codes "x"))
  pub fine : came_in (codes "x") (Ok (Some with_serial)) ≡ Some (A with_serial)
  pub needs_none : came_in (codes "x") (Ok (Some frames.Heartbeat)) ≡ Some (A frames.Heartbeat)
  pub attach_needs_none : came_in (codes "x") (Ok (Some (frames.Attach room None))) ≡ Some (A (frames.Attach room None))
  pub other : came_in (codes "x") (Ok None) ≡ Some Unknown
  pub told : waits (Took (Bad (codes "{")) 0 ∷ []) ≡ disconnected 120 ∷ []
  pub ended : (after plain 0 (Took (Bad (codes "{")) 0 ∷ ready)).ended ≡ Some (ends.BadFrame (codes "{"))
  pub wants_lost : wants (Took (Bad (codes "{")) 0 ∷ []) ≡ lost
  pub lost_told : wants (says book.Done ∷ Took (Bad (codes "{")) 0 ∷ []) ≡ None
