-- Worked examples on moments: which inputs count as a frame that came, and which as one that was put out.
use Rattle.std.specs.Prelude.{◌≡◌, true, false, List, [], ◌∷◌, Some, None, codes}
use Rattle.rl_types.specs.declared.messages.Entry.{Entry}
use Rattle.rl_types.specs.declared.frames.Frame.TheVariants as frames
use Rattle.rl_events.specs.declared.book.BookEvent.TheVariants.{Open}
use Rattle.rl_events.specs.declared.book.BookReply.TheVariants.{Opened}
use Rattle.rl_events.specs.declared.channel.ChannelEvent.TheVariants as events
use Rattle.rl_events.specs.declared.channel.ChannelReply.TheVariants as channel
use Rattle.rl_events.specs.declared.channel.ReadReply.TheVariants.{Run}
use Rattle.rl_events.specs.declared.calls.Call.TheVariants as calls
use Rattle.rl_events.specs.declared.calls.Reply.TheVariants as replies
use Rattle.rl_events.specs.declared.calls.End.TheVariants as ends
use Rattle.rl_actormodel.specs.Rests.{rested}
use Rattle.rl_actormodel.specs.Inputs.{Input, Absorbed, Rested, Gave, after}
use Rattle.rl_actormodel.specs.Examples.{key, plain, ready, took_frame, disconnected}
use Rattle.rl_actormodel.specs.ChannelExamples.{attached, detach}
use Rattle.rl_actormodel.specs.SyncExamples.{session_at, member, entries, rests}

-- THE LAST FRAME THAT CAME

-- the connection was opened at 5000
abbrev pub opened_late : List Input
opened_late = Gave ∷ Absorbed (calls.Book (Open 7 0)) (replies.Book (Opened 1 1 key)) 5000 ∷ []

-- neither a HEARTBEAT that is put out nor a reply is a frame that came; that a channel was attached before, and that a
-- frame waits, keeps no actor from being idle
pub record ShowsLastIn : Type 0 where
  pub reply : (after plain 0 opened_late).last_in ≡ 0
  pub heartbeat : (after plain 0 (Rested 10000 ∷ ready)).last_in ≡ 0
  pub after_reply : (rested 600000 (after plain 0 opened_late)).ended ≡ Some (ends.Idle 0 600000)
  pub after_heartbeat : (rests 600000 (Gave ∷ Rested 10000 ∷ [])).ended ≡ Some (ends.Idle 0 600000)
  pub detached : (rests 600000 (detach ∷ attached)).ended ≡ Some (ends.Idle 0 600000)
  pub waiting : (rests 600000 (took_frame frames.Heartbeat ∷ [])).waiting ≡ frames.Heartbeat ∷ disconnected 126 ∷ []
  pub from_start : (rested 601000 (after plain 1000 ready)).ended ≡ Some (ends.Idle 1000 601000)
  pub early : (rested 600999 (after plain 1000 ready)).ended ≡ None

-- THE LAST FRAME THAT WAS PUT OUT

-- these entries were read at 5000, and a page of these members came then
abbrev pub read_late : List Entry → Input
read_late run = Absorbed (calls.Chan 4 (events.Read 2 16)) (replies.Chan (channel.Read (Run run))) 5000

abbrev pub page_late : Input
page_late = Absorbed (calls.Chan 4 (events.MemberPage None 64)) (replies.Chan (channel.Members (member (codes "a") ∷ []) true 2)) 5000

-- an entry and a page are put out, a read of no entries puts out nothing
pub record ShowsLastOut : Type 0 where
  pub read : (rests 14999 (Gave ∷ read_late (entries 3 1) ∷ session_at 2 false false)).waiting ≡ []
  pub read_later : (rests 15000 (Gave ∷ read_late (entries 3 1) ∷ session_at 2 false false)).waiting ≡ frames.Heartbeat ∷ []
  pub empty_early : (rests 9999 (read_late [] ∷ session_at 2 false false)).waiting ≡ []
  pub empty : (rests 10000 (read_late [] ∷ session_at 2 false false)).waiting ≡ frames.Heartbeat ∷ []
  pub page : (rests 14999 (Gave ∷ page_late ∷ session_at 2 true false)).waiting ≡ []
  pub page_later : (rests 15000 (Gave ∷ page_late ∷ session_at 2 true false)).waiting ≡ frames.Heartbeat ∷ []
