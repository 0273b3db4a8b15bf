-- What a reply says to each question. Each has a case for a reply of another kind, which leaves an actor as it is.
use Rattle.std.specs.Prelude.{ℕ, Bool, List, Option, Some, None}
use Rattle.rl_ids.specs.declared.serials.ChannelSerial.{ChannelSerial}
use Rattle.rl_types.specs.declared.messages.Entry.{Entry}
use Rattle.rl_events.specs.declared.channel.Outcome.{Outcome}
use Rattle.rl_events.specs.declared.channel.Verdict.{Verdict}
use Rattle.rl_events.specs.declared.channel.Verdict.TheVariants.{Done, Old}
use Rattle.rl_events.specs.declared.channel.ChannelReply.{ChannelReply}
use Rattle.rl_events.specs.declared.channel.ChannelReply.TheVariants as channel
use Rattle.rl_events.specs.declared.channel.ReadReply.TheVariants.{Run, NotRetained}
use Rattle.rl_events.specs.declared.book.BookReply.TheVariants as book
use Rattle.rl_events.specs.declared.calls.DirReply.TheVariants.{At, Full}
use Rattle.rl_events.specs.declared.calls.Reply.{Reply}
use Rattle.rl_events.specs.declared.calls.Reply.TheVariants.{Book, Dir, Chan}
use Rattle.rl_actormodel.specs.declared.parts.Holder.{Holder}

-- OF THE BOOK

-- is the connection still this actor's?
pub data Standing : Type 0 where
  Passed : (newer : ℕ) → Standing  -- a later transport has it, under this generation
  Gone : Standing  -- it is forgotten
  Holds : Standing
  Unsaid : Standing

-- what a reply says of that. (This project's own.)
abbrev pub standing : Reply → Standing
standing (Book (book.Superseded newer)) = Passed newer
standing (Book book.NoRecord) = Gone
standing (Book book.Done) = Holds
standing reply = Unsaid

-- may the put go on?
pub data Beginning : Type 0 where
  Overtaken : (newer : ℕ) → Beginning
  Missing : Beginning
  Knows : (outcome : Outcome) → Beginning  -- it has ended so already
  Above : (got expected : ℕ) → Beginning  -- its serial leaves others out
  Below : (got expected : ℕ) → Beginning  -- its serial is past, and its outcome is not kept
  Goes : Beginning
  Unbegun : Beginning

-- what the book says of a put's serial (RTN7b, RTN19a)
abbrev pub beginning : Reply → Beginning
beginning (Book (book.Superseded newer)) = Overtaken newer
beginning (Book book.NoRecord) = Missing
beginning (Book (book.Known outcome)) = Knows outcome
beginning (Book (book.SerialGap got expected)) = Above got expected
beginning (Book (book.SerialOld got expected)) = Below got expected
beginning (Book book.Go) = Goes
beginning reply = Unbegun

-- was a connection opened?
pub data Opening : Type 0 where
  Opens : (holder : Holder) (key : List ℕ) → Opening
  Limited : (count given : ℕ) → Opening
  Unopened : Opening

-- the connection that was opened, with its key (RTN8, RTN9)
abbrev pub opening : Reply → Opening
opening (Book (book.Opened conn generation key)) = Opens (record { conn = conn; generation = generation }) key
opening (Book (book.Limit count given)) = Limited count given
opening reply = Unopened

-- did the connection come back?
pub data Resuming : Type 0 where
  Back : (holder : Holder) → Resuming
  NotKnown : Resuming  -- its key is not known
  Unresumed : Resuming

-- what a Resume was replied (RTN15c)
abbrev pub resuming : Reply → Resuming
resuming (Book (book.Resumed conn generation)) = Back (record { conn = conn; generation = generation })
resuming (Book book.KeyUnknown) = NotKnown
resuming reply = Unresumed

-- OF THE DIRECTORY

-- which number has the channel?
pub data Numbering : Type 0 where
  Has : (number : ℕ) → Numbering
  HasNone : Numbering  -- the directory is full
  Unnumbered : Numbering

-- what the directory replied. (This project's own.)
abbrev pub numbering : Reply → Numbering
numbering (Dir (At number)) = Has number
numbering (Dir (Full count)) = HasNone
numbering reply = Unnumbered

-- OF A CHANNEL

-- where does the session begin, and what may be there?
pub record Joining : Type 0 where
  pub serial : ChannelSerial
  pub resumed : Bool
  pub presence : Bool
  pub objects : Bool

-- what a Join was replied (RTL4)
abbrev pub joining_in : Reply → Option Joining
joining_in (Chan (channel.Joined serial resumed presence objects)) =
    Some (record { serial = serial; resumed = resumed; presence = presence; objects = objects })
joining_in reply = None

-- how did the put end? None where it was old
abbrev pub outcome_of : Verdict → Option Outcome
outcome_of (Done outcome) = Some outcome
outcome_of Old = None

-- what a Put was replied (RTN7a)
abbrev pub verdict_in : Reply → Option Verdict
verdict_in (Chan (channel.Put verdict)) = Some verdict
verdict_in reply = None

-- what was read?
pub data Reading : Type 0 where
  Came : (entries : List Entry) → Reading
  Behind : (first : ℕ) → Reading  -- what follows the position is not retained any more
  Unread : Reading

-- what a Read was replied (RTL7)
abbrev pub reading : Reply → Reading
reading (Chan (channel.Read (Run entries))) = Came entries
reading (Chan (channel.Read (NotRetained first))) = Behind first
reading reply = Unread

-- what did the channel reply?
abbrev pub channel_reply : Reply → Option ChannelReply
channel_reply (Chan reply) = Some reply
channel_reply reply = None
