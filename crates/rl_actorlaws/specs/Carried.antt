-- What holds of an actor's inputs: what a frame has that bytes are, and what a machine replies.
use Rattle.std.specs.Prelude.{⊤, ℕ, ◌≤◌, ◌<◌, ◌^◌, List, length}
use Rattle.std.specs.List.{AllByRecursion}
use Rattle.rl_ids.specs.Forms.{IsSerial}
use Rattle.rl_types.specs.declared.messages.Entry.{Entry}
use Rattle.rl_types.specs.declared.objects.ObjectState.{ObjectState}
use Rattle.rl_types.specs.declared.presence.PresenceItem.{PresenceItem}
use Rattle.rl_types.specs.declared.frames.Cursor.{Cursor}
use Rattle.rl_types.specs.declared.frames.Frame.{Frame}
use Rattle.rl_events.specs.declared.book.BookEvent.TheVariants.{Resume}
use Rattle.rl_events.specs.declared.book.BookReply.{BookReply}
use Rattle.rl_events.specs.declared.book.BookReply.TheVariants.{Opened, Resumed, Known}
use Rattle.rl_events.specs.declared.channel.Outcome.{Outcome}
use Rattle.rl_events.specs.declared.channel.Outcome.TheVariants.{Taken, Refused}
use Rattle.rl_events.specs.declared.channel.Verdict.{Verdict}
use Rattle.rl_events.specs.declared.channel.Verdict.TheVariants.{Done, Old}
use Rattle.rl_events.specs.declared.channel.ReadReply.{ReadReply}
use Rattle.rl_events.specs.declared.channel.ReadReply.TheVariants.{Run, NotRetained}
use Rattle.rl_events.specs.declared.channel.ChannelReply.{ChannelReply}
use Rattle.rl_events.specs.declared.channel.ChannelReply.TheVariants.{Put, Joined, Read, Members, Objects}
use Rattle.rl_events.specs.declared.calls.Call.{Call}
use Rattle.rl_events.specs.declared.calls.Call.TheVariants as calls
use Rattle.rl_events.specs.declared.calls.Reply.{Reply}
use Rattle.rl_events.specs.declared.calls.Reply.TheVariants as replies
use Rattle.rl_pages.specs.Frames.{member_frame, object_frame}
use Rattle.rl_wire.specs.PutOut.{IsPutOut}
use Rattle.rl_wire.specs.Sendable.{IsName, Fits32, IsCursor, IsSendable}
use Rattle.rl_actormodel.specs.Takes.{Came, A}
use Rattle.rl_actormodel.specs.Reads.{entry_frame}
use Rattle.rl_actormodel.specs.Inputs.{Input, Took, Absorbed}

-- FRAMES TAKEN UP

-- a frame that is taken up can be sent, as each can that bytes are
abbrev pub IsTakenUp : Came → Type 0
IsTakenUp (A frame) = IsSendable frame
IsTakenUp came = ⊤

-- OF THE BOOK

-- the most bytes of a connection's key. The book makes keys of 26 bytes
abbrev pub most_key : ℕ
most_key = 256

-- a connection's key is short
abbrev pub IsKey : List ℕ → Type 0
IsKey key = length key ≤ most_key

-- so is the key by which a connection was asked for
abbrev pub IsAskedByKey : Call → Type 0
IsAskedByKey (calls.Book (Resume key now)) = IsKey key
IsAskedByKey call = ⊤

-- the code of a refused put has 32 bits
abbrev pub IsOutcome : Outcome → Type 0
IsOutcome (Taken place) = ⊤
IsOutcome (Refused code) = Fits32 code

-- what the book replies to this call: the key of a connection that was opened or came back is short, and an outcome
-- that it kept is one of a put
abbrev pub IsBookCarried : Call → BookReply → Type 0
IsBookCarried call (Opened conn generation key) = IsKey key
IsBookCarried call (Resumed conn generation) = IsAskedByKey call
IsBookCarried call (Known outcome) = IsOutcome outcome
IsBookCarried call reply = ⊤

-- OF A CHANNEL

-- what became of a put
abbrev pub IsVerdict : Verdict → Type 0
IsVerdict (Done outcome) = IsOutcome outcome
IsVerdict Old = ⊤

-- a frame can be sent, and holds what stands in an entry or in a page
abbrev pub IsOutgoing : Frame → Type 0
IsOutgoing frame = IsSendable frame × IsPutOut frame

-- the frame of an entry is such, whatever the channel's name and the epoch
abbrev pub IsEntry : Entry → Type 0
IsEntry e = (name : List ℕ) (epoch : ℕ) → IsName name → epoch < 2 ^ 128 → IsOutgoing (entry_frame name epoch e)

-- each entry that is read is such
abbrev pub IsRead : ReadReply → Type 0
IsRead (Run entries) = AllByRecursion IsEntry entries
IsRead (NotRetained first) = ⊤

-- the frame of a page of these members is such, whatever the channel's name and the page's place in its sync
abbrev pub AreMembers : List PresenceItem → Type 0
AreMembers items =
    (name : List ℕ) (place : Cursor) → IsName name → IsCursor place → IsOutgoing (member_frame name place items)

-- so is that of a page of these objects
abbrev pub AreObjects : List ObjectState → Type 0
AreObjects states =
    (name : List ℕ) (place : Cursor) → IsName name → IsCursor place → IsOutgoing (object_frame name place states)

-- what a channel replies: what became of a put, where a session begins, what was read, and pages
abbrev pub IsChannelCarried : ChannelReply → Type 0
IsChannelCarried (Put verdict) = IsVerdict verdict
IsChannelCarried (Joined serial resumed presence objects) = IsSerial serial
IsChannelCarried (Read reply) = IsRead reply
IsChannelCarried (Members items last head) = AreMembers items
IsChannelCarried (Objects states last head) = AreObjects states
IsChannelCarried reply = ⊤

-- INPUTS

-- what is replied to this call is what machines give
abbrev pub IsReplyCarried : Call → Reply → Type 0
IsReplyCarried call (replies.Book reply) = IsBookCarried call reply
IsReplyCarried call (replies.Dir reply) = ⊤
IsReplyCarried call (replies.Chan reply) = IsChannelCarried reply

-- what is taken up is what bytes are, and what is replied is what machines give
abbrev pub IsCarried : Input → Type 0
IsCarried (Took came now) = IsTakenUp came
IsCarried (Absorbed call reply now) = IsReplyCarried call reply
IsCarried input = ⊤
