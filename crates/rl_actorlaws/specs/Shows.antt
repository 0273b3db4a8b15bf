-- A session whose inputs are allowed and hold what frames and machines give: so the law speaks of some.
use Rattle.std.specs.Prelude.{◌≡◌, true, List, [], ◌∷◌, ◌++◌, length, Some, None, codes}
use Rattle.std.specs.List.{AllByRecursion}
use Rattle.rl_types.specs.declared.messages.Body.TheVariants.{Messages}
use Rattle.rl_types.specs.declared.messages.Entry.{Entry}
use Rattle.rl_events.specs.declared.book.BookEvent.TheVariants as book_events
use Rattle.rl_events.specs.declared.book.BookReply.TheVariants as book
use Rattle.rl_events.specs.declared.channel.ChannelEvent.TheVariants as events
use Rattle.rl_events.specs.declared.channel.ChannelReply.TheVariants as channel
use Rattle.rl_events.specs.declared.channel.ReadReply.TheVariants.{Run}
use Rattle.rl_events.specs.declared.calls.Call.TheVariants as calls
use Rattle.rl_events.specs.declared.calls.Reply.TheVariants as replies
use Rattle.rl_actormodel.specs.State.{begun}
use Rattle.rl_actormodel.specs.Inputs.{Input, Absorbed, Gave, put_out}
use Rattle.rl_actormodel.specs.Conditions.{AreAllowed}
use Rattle.rl_actormodel.specs.Examples.{key, plain}
use Rattle.rl_actormodel.specs.ChannelExamples.{message}
use Rattle.rl_actormodel.specs.SyncExamples.{session_at, member, root, members_say, objects_say}
use Rattle.rl_actorlaws.specs.Carried.{IsCarried}

-- an entry with one message
abbrev pub said : Entry
said = record { place = 7; stamp = 5; conn = 2; serial = Some 0; body = Messages (message None ∷ []) }

-- a connection was opened, and CONNECTED was taken
abbrev pub opened : List Input
opened = Gave ∷ Absorbed (calls.Book (book_events.Open 7 0)) (replies.Book (book.Opened 1 1 key)) 0 ∷ []

-- a session with a page of one member, a page of one object and an entry. The latest stands first
abbrev pub session : List Input
session =
    Absorbed (calls.Chan 4 (events.Read 6 16)) (replies.Chan (channel.Read (Run (said ∷ [])))) 3
    ∷ objects_say (root ∷ []) true 7
    ∷ members_say (member (codes "a") ∷ []) true 7
    ∷ session_at 6 true true ++ opened

-- CONNECTED, ATTACHED, the two pages, the entry and the two end pages are put out
pub record ShowsSession : Type 0 where
  pub allowed : AreAllowed session (begun plain 0)
  pub carried : AllByRecursion IsCarried session
  pub out : length (put_out plain 0 session) ≡ 7
