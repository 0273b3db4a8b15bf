-- What is done to the machines of the service beside the calls of actors: expiry, channels that age, entries that no client
-- puts. (This project's own.)
use Rattle.std.specs.Prelude.{ℕ, zero, suc, ◌+◌, Bool, true, false, List, [], ◌∷◌, ◌++◌, map, flat_map, length, Option, Some, None}
use Rattle.rl_types.specs.declared.messages.Body.{Body}
use Rattle.rl_types.specs.declared.messages.Body.TheVariants.{Messages}
use Rattle.rl_types.specs.declared.messages.Item.{Item}
use Rattle.rl_events.specs.declared.book.BookEvent.TheVariants.{Expire}
use Rattle.rl_events.specs.declared.book.BookReply.{BookReply}
use Rattle.rl_events.specs.declared.book.BookReply.TheVariants.{Expired}
use Rattle.rl_events.specs.declared.channel.ChannelEvent.{ChannelEvent}
use Rattle.rl_events.specs.declared.channel.ChannelEvent.TheVariants.{Put, Gone, Tick}
use Rattle.rl_connbook.specs.Book.{told, book_of}
use Rattle.rl_directory.specs.Directory.{number_of}
use Rattle.rl_worldmodel.specs.World.{World, the_range, names}
use Rattle.rl_worldmodel.specs.Calls.{with_book_event, with_event}

-- EXPIRY: each connection that is given up is paired with each channel

abbrev pub given_up : BookReply → List ℕ
given_up (Expired conns) = conns
given_up reply = []

-- so many numbers, from this one on
abbrev pub numbers_from : ℕ → ℕ → List ℕ
numbers_from from zero = []
numbers_from from (suc count) = from ∷ numbers_from (suc from) count

abbrev pub with_each : List ℕ → ℕ → List (ℕ × ℕ)
with_each numbers conn = map (λ number. (conn, number)) numbers

-- the pairs, in order of connection, then of channel number
abbrev pub pairs : World → List (ℕ × ℕ)
pairs world =
    flat_map (with_each (numbers_from 0 (length world.channels))) (given_up (told (book_of the_range world.book) (Expire world.now)))

-- connections that are closed, or were lost too long ago, are given up, and their pairs are queued
abbrev pub expires : World → World
expires world = record (with_book_event (Expire world.now) world) { queue = world.queue ++ pairs world }

-- ONE CHANNEL IS TOLD OF ONE CONNECTION THAT WAS GIVEN UP

abbrev pub reaped : List (ℕ × ℕ) → World → World
reaped [] world = world
reaped (pair ∷ more) world = with_event pair.1 (Gone pair.0 world.now) (record world { queue = more })

-- the first pair that is queued
abbrev pub reaps : World → World
reaps world = reaped world.queue world

abbrev pub is_queued : List (ℕ × ℕ) → Bool
is_queued [] = false
is_queued (pair ∷ more) = true

-- whether there is one
abbrev pub has_queued : World → Bool
has_queued world = is_queued world.queue

-- ONE CHANNEL BY ITS NAME

abbrev pub event_at : Option ℕ → ChannelEvent → World → World
event_at None event world = world
event_at (Some number) event world = with_event number event world

-- the channel looks at the time, where the directory has it
abbrev pub ages : List ℕ → World → World
ages name world = event_at (number_of name (names world)) (Tick world.now) world

-- AN ENTRY THAT NO CLIENT PUTS

-- it is put by a connection that no client has
abbrev pub feed_conn : ℕ
feed_conn = 0

-- one message, with an id or without
abbrev pub one_item : Option (List ℕ) → List ℕ → List Item
one_item id text = record { id = id; name = None; payload = Some text; encoding = None; client = None } ∷ []

abbrev pub message : Option (List ℕ) → List ℕ → Body
message id text = Messages (one_item id text)

abbrev pub fed_at : Option ℕ → Body → World → World
fed_at None body world = world
fed_at (Some number) body world =
    record (with_event number (Put feed_conn world.fed body world.now) world) { fed = world.fed + 1 }

-- with the next serial, on the channel of this name, where the directory has it
abbrev pub feeds : List ℕ → Body → World → World
feeds name body world = fed_at (number_of name (names world)) body world
