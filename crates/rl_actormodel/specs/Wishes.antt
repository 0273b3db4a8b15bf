-- What an actor calls.
use Rattle.std.specs.Prelude.{ℕ, if◌then◌else◌, List, Option, Some, None, option_map}
use Rattle.rl_numbers.specs.declared.limits.TheConstants.{READ_ENTRIES}
use Rattle.rl_events.specs.declared.book.BookEvent.TheVariants as book
use Rattle.rl_events.specs.declared.channel.ChannelEvent.{ChannelEvent}
use Rattle.rl_events.specs.declared.channel.ChannelEvent.TheVariants as channel
use Rattle.rl_events.specs.declared.calls.Call.{Call}
use Rattle.rl_events.specs.declared.calls.Call.TheVariants.{Book, Dir, Chan}
use Rattle.rl_events.specs.declared.calls.DirEvent.TheVariants.{Ask}
use Rattle.rl_runs.specs.declared.commands.Hello.{Hello}
use Rattle.rl_pages.specs.State.{next_event}
use Rattle.rl_actormodel.specs.declared.parts.Wish.{Wish}
use Rattle.rl_actormodel.specs.declared.parts.Wish.TheVariants as wishes
use Rattle.rl_actormodel.specs.declared.parts.Session.{Session}
use Rattle.rl_names.specs.Names.{at}
use Rattle.rl_actormodel.specs.State.{State, is_free}

-- THE CALL THAT IS WANTED

-- the call of each wish. (This project's own.)
abbrev pub wanted : Wish → Hello → ℕ → Option Call
wanted wishes.Nothing hello now = None
wanted (wishes.Resume key) hello now = Some (Book (book.Resume key now))
wanted wishes.Open hello now = Some (Book (book.Open hello.word now))
wanted (wishes.Lost holder) hello now = Some (Book (book.Lost holder.conn holder.generation now))
wanted (wishes.Close holder) hello now = Some (Book (book.Close holder.conn holder.generation))
wanted (wishes.AskToAttach asked) hello now = Some (Dir (Ask asked.channel))
wanted (wishes.Join asked number) hello now = Some (Chan number (channel.Join asked.serial))
wanted (wishes.Begin p holder) hello now = Some (Book (book.Begin holder.conn holder.generation p.serial))
wanted (wishes.AskToPut p holder) hello now = Some (Dir (Ask p.channel))
wanted (wishes.Put p holder number) hello now = Some (Chan number (channel.Put holder.conn p.serial p.body now))
wanted (wishes.Finish p holder outcome) hello now = Some (Book (book.End holder.conn holder.generation p.serial outcome))

-- the call that an actor wants; none exactly where none is wanted. (This project's own.)
abbrev pub next_call : ℕ → State → Option Call
next_call now s = wanted s.wish s.hello now

-- CALLS OF A SESSION

-- what is called of a session, where there is one
abbrev pub call_of : (Session → Option Call) → Option Session → Option Call
call_of call None = None
call_of call (Some session) = call session

-- none where the actor is ended or wants a call, or the channel has no session. (This project's own.)
abbrev pub session_call : (Session → Option Call) → List ℕ → State → Option Call
session_call call name s = if is_free s then call_of call (at name s.sessions) else None

-- the next page of the session's sync: none where every page was absorbed (RTP18, RTO5)
abbrev pub page_of : Session → Option Call
page_of session = option_map (λ (event : ChannelEvent). Chan session.number event) (next_event session.pages)

-- the page call of a channel. (The form is RTP18 and RTO5; how many at once is this project's own.)
abbrev pub page_call : List ℕ → State → Option Call
page_call name s = session_call page_of name s

-- the entries after the session's position (RTL7; how many at once is this project's own)
abbrev pub read_of : Session → Option Call
read_of session = Some (Chan session.number (channel.Read session.position READ_ENTRIES))

-- the read of a channel. (This project's own.)
abbrev pub poll_call : List ℕ → State → Option Call
poll_call name s = session_call read_of name s
