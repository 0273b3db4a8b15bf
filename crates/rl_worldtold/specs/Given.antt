-- What the book of a world gives: each number once, and each generation of a connection once.
use Rattle.std.specs.Prelude.{◌≡◌, ℕ, ◌<◌, ⊤, List, [], ◌∷◌, map}
use Rattle.std.specs.List.{AllByRecursion}
use Rattle.rl_events.specs.declared.book.BookEvent.{BookEvent}
use Rattle.rl_events.specs.declared.book.BookReply.{BookReply}
use Rattle.rl_events.specs.declared.book.BookReply.TheVariants.{Opened, Resumed}
use Rattle.rl_connbook.specs.Records.{Answered}
use Rattle.rl_connbook.specs.Book.{decided}
use Rattle.rl_connbook.specs.Laws.{Gives, IsWithin}
use Rattle.rl_worldmodel.specs.World.{the_range}
use Rattle.rl_worldtold.specs.Runs.{HoldsOfRuns}

-- THE BOOK

abbrev pub events_of : List Answered → List BookEvent
events_of book = map (λ (a : Answered). a.event) book

-- each event was answered as the book answers it after those before it. So every law of the book holds of a world's book
abbrev pub IsDecided : List Answered → Type 0
IsDecided book = book ≡ decided the_range (events_of book)

abbrev pub BooksAreDecided : Type 0
BooksAreDecided = HoldsOfRuns (λ world. IsDecided world.book)

-- NUMBERS

-- each number that was given is one of the range, and above each that was given before. The latest event stands first
abbrev pub AreNumbersNew : List Answered → Type 0
AreNumbersNew [] = ⊤
AreNumbersNew (a ∷ before) =
    ((conn : ℕ) → Gives conn a.reply → IsWithin the_range conn × AllByRecursion (λ (b : Answered). (earlier : ℕ) → Gives earlier b.reply → earlier < conn) before)
    × AreNumbersNew before

-- no connection number is given twice
abbrev pub NumbersAreGivenOnce : Type 0
NumbersAreGivenOnce = HoldsOfRuns (λ world. AreNumbersNew world.book)

-- GENERATIONS

-- the reply gives a transport this connection under this generation: it was opened, or came back
abbrev pub GivesUnder : ℕ → ℕ → BookReply → Type 0
GivesUnder conn generation (Opened c g key) = (c ≡ conn) × (g ≡ generation)
GivesUnder conn generation (Resumed c g) = (c ≡ conn) × (g ≡ generation)
GivesUnder conn generation reply = ⊥

-- each generation of a connection is above those under which it was given before
abbrev pub AreGenerationsNew : List Answered → Type 0
AreGenerationsNew [] = ⊤
AreGenerationsNew (a ∷ before) =
    ((conn generation : ℕ) → GivesUnder conn generation a.reply → AllByRecursion (λ (b : Answered). (earlier : ℕ) → GivesUnder conn earlier b.reply → earlier < generation) before)
    × AreGenerationsNew before

-- no connection is given to two transports under one generation
abbrev pub GenerationsAreGivenOnce : Type 0
GenerationsAreGivenOnce = HoldsOfRuns (λ world. AreGenerationsNew world.book)
