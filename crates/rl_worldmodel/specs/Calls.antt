-- The machines of the service in a world: what each call is answered, and what it leaves.
use Rattle.std.specs.Prelude.{ℕ, ◌≡◌, if◌then◌else◌, List, [], ◌∷◌, ◌++◌, length, Option, Some, None}
use Rattle.rl_events.specs.declared.book.BookEvent.{BookEvent}
use Rattle.rl_events.specs.declared.channel.ChannelEvent.{ChannelEvent}
use Rattle.rl_events.specs.declared.calls.Call.{Call}
use Rattle.rl_events.specs.declared.calls.Call.TheVariants as calls
use Rattle.rl_events.specs.declared.calls.Reply.{Reply}
use Rattle.rl_events.specs.declared.calls.Reply.TheVariants as replies
use Rattle.rl_events.specs.declared.calls.DirEvent.{DirEvent}
use Rattle.rl_events.specs.declared.calls.DirEvent.TheVariants.{Ask, Names}
use Rattle.rl_connbook.specs.Book as book
use Rattle.rl_directory.specs.Directory as directory
use Rattle.rl_model.specs.Reply as channel
use Rattle.rl_worldmodel.specs.World.{World, the_epoch, the_site, the_range, changed_at, history, names}

-- REPLIES

-- what a call is answered: by the book's history, by the directory's names, by a channel's history
abbrev pub reply_to : Call → World → Reply
reply_to (calls.Book event) world = replies.Book (book.told (book.book_of the_range world.book) event)
reply_to (calls.Dir event) world = replies.Dir (directory.told (names world) event)
reply_to (calls.Chan number event) world = replies.Chan (channel.reply the_epoch the_site (history number world) event)

-- how many events the machine of a call took before it. The directory keeps no events: of it, how many names
abbrev pub taken_before : Call → World → ℕ
taken_before (calls.Book event) world = length world.book
taken_before (calls.Dir event) world = length world.channels
taken_before (calls.Chan number event) world = length (history number world)

-- WHAT A CALL LEAVES

-- the book takes an event
abbrev pub with_book_event : BookEvent → World → World
with_book_event event world = record world { book = book.answered the_range event world.book ∷ world.book }

-- a name that gets a number is a channel from then on, which took nothing yet
abbrev pub named_by : Option ℕ → List ℕ → World → World
named_by (Some number) name world = world
named_by None name world =
    record world {
      channels = if directory.is_full (names world) then world.channels else world.channels ++ (name, []) ∷ [];
    }

-- the directory is asked for a name
abbrev pub with_name : List ℕ → World → World
with_name name world = named_by (directory.number_of name (names world)) name world

abbrev pub event_onto : ChannelEvent → List ℕ × List ChannelEvent → List ℕ × List ChannelEvent
event_onto event c = (c.0, event ∷ c.1)

-- the channel of this number takes an event
abbrev pub with_event : ℕ → ChannelEvent → World → World
with_event number event world = record world { channels = changed_at number (event_onto event) world.channels }

-- the world after a call
abbrev pub called : Call → World → World
called (calls.Book event) world = with_book_event event world
called (calls.Dir (Ask name)) world = with_name name world
called (calls.Dir Names) world = world
called (calls.Chan number event) world = with_event number event world

-- a call of the directory leaves the names that the directory has after it, by its own words
abbrev pub NamesFollow : Type 0
NamesFollow = (world : World) (event : DirEvent) → names (called (calls.Dir event) world) ≡ directory.after (names world) event
