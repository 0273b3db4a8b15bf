-- What the book of a world gives it gives once.
use Rattle.std.proofs.Common.{ℕ, ◌≤◌, List, [], ◌∷◌, refl, sym, ap, subst, arith}
use Rattle.std.specs.Prelude.{Option, Some, None}
use Rattle.std.specs.List.{AllByRecursion}
use Rattle.rl_events.specs.declared.book.BookEvent.{BookEvent}
use Rattle.rl_events.specs.declared.book.BookEvent.TheVariants.{Expire}
use Rattle.rl_events.specs.declared.calls.Call.{Call}
use Rattle.rl_events.specs.declared.calls.Call.TheVariants as calls
use Rattle.rl_events.specs.declared.calls.DirEvent.TheVariants.{Ask, Names}
use Rattle.rl_types.specs.declared.messages.Body.{Body}
use Rattle.rl_connbook.specs.Records.{Answered}
use Rattle.rl_connbook.specs.Book.{book_of, decided, answered, last_number}
use Rattle.rl_connbook.specs.Laws.{Gives}
use Rattle.rl_connbook.proofs.Each.{all_weaker}
use Rattle.rl_connbook.proofs.History.{last_grows}
use Rattle.rl_connbook.proofs.Numbers.{new_number, last_given}
use Rattle.rl_directory.specs.Directory.{number_of}
use Rattle.rl_worldmodel.specs.World.{World, the_range, names}
use Rattle.rl_worldmodel.specs.Calls.{called}
use Rattle.rl_worldmodel.specs.Actors.{Deed, Calls, Notices, TakesUp, Rests, Waits, done, next_deed, performs_if, next_page, next_poll}
use Rattle.rl_worldmodel.specs.Services.{reaped, event_at, fed_at}
use Rattle.rl_worldtold.specs.Runs.{HoldsOfRuns}
use Rattle.rl_worldtold.specs.Given.{events_of, IsDecided, BooksAreDecided, AreNumbersNew, NumbersAreGivenOnce}
use Rattle.rl_worldtold.proofs.Shape.{name_beside}
use Rattle.rl_worldtold.proofs.Quiet.{IsQuiet}
use Rattle.rl_worldtold.proofs.Runs.{runs_hold, runs_so, IsServed, each_keeps}

-- WHAT EACH EVENT OF A BOOK KEEPS

module _ (Q : List Answered → Type 0) (step : (event : BookEvent) (book : List Answered) → Q book → Q (answered the_range event book ∷ book)) where
  called_book : (call : Call) (world : World) → Q world.book → Q (called call world).book
  called_book (calls.Book event) world h = step event world.book h
  called_book (calls.Dir (Ask name)) world h = subst Q (sym (name_beside name world).book) h
  called_book (calls.Dir Names) world h = h
  called_book (calls.Chan number event) world h = h

  done_book : (k : ℕ) (deed : Deed) (world : World) → Q world.book → Q (done k deed world).book
  done_book k (Calls call) world h = called_book call world h
  done_book k Notices world h = h
  done_book k (TakesUp frame) world h = h
  done_book k Rests world h = h
  done_book k Waits world h = h

  called_if : (k : ℕ) (o : Option Call) (world : World) → Q world.book → Q (performs_if k o world).book
  called_if k None world h = h
  called_if k (Some call) world h = called_book call world h

  reaped_book : (queue : List (ℕ × ℕ)) (world : World) → Q world.book → Q (reaped queue world).book
  reaped_book [] world h = h
  reaped_book (pair ∷ more) world h = h

  aged_book : (o : Option ℕ) (event : _) (world : World) → Q world.book → Q (event_at o event world).book
  aged_book None event world h = h
  aged_book (Some number) event world h = h

  fed_book : (o : Option ℕ) (body : Body) (world : World) → Q world.book → Q (fed_at o body world).book
  fed_book None body world h = h
  fed_book (Some number) body world h = h

  quiet_book : IsQuiet (λ world. Q world.book)
  quiet_book = record {
    of_client = λ world name change h. h;
    of_new = λ world name h. h;
    of_cut = λ world k h. h;
    of_sent = λ world k frames h. h;
    of_got = λ world k frame is h. h;
    of_opened = λ world name hello h. h;
    of_time = λ world span h. h;
  }

  served_book : IsServed (λ world. Q world.book)
  served_book = record {
    stepping = λ world k h. done_book k (next_deed k world) world h;
    paging = λ world k channel h. called_if k (next_page k channel world) world h;
    polling = λ world k channel h. called_if k (next_poll k channel world) world h;
    expiring = λ world h. step (Expire world.now) world.book h;
    reaping = λ world h. reaped_book world.queue world h;
    ageing = λ world channel h. aged_book (number_of channel (names world)) _ world h;
    naming = λ world channel h. subst Q (sym (name_beside channel world).book) h;
    feeding = λ world channel body h. fed_book (number_of channel (names world)) body world h;
  }

  -- holds of the book of every run
  pub book_runs : Q [] → HoldsOfRuns (λ world. Q world.book)
  book_runs begins = runs_hold (λ world. Q world.book) (each_keeps (λ world. Q world.book) quiet_book served_book) begins

-- A WORLD'S BOOK IS A BOOK

pub books_are_decided : BooksAreDecided
books_are_decided = book_runs IsDecided (λ event book is. ap (λ (b : List Answered). answered the_range event b ∷ b) is) refl

-- what holds of every book holds of a world's
pub of_books : (Q : List Answered → Type 0) → ((past : List BookEvent) → Q (decided the_range past)) → HoldsOfRuns (λ world. Q world.book)
of_books Q each = runs_so (λ world. IsDecided world.book) (λ world. Q world.book) (λ world is. subst Q (sym is) (each (events_of world.book))) books_are_decided

-- NUMBERS

numbers_below : (past : List BookEvent) → AllByRecursion (λ (a : Answered). (conn : ℕ) → Gives conn a.reply → conn ≤ last_number the_range (decided the_range past)) (decided the_range past)
numbers_below [] = tt
numbers_below (event ∷ past) =
    let d = decided the_range past in (
      λ conn gives. let is = last_given the_range event (decided the_range past) conn gives in omega (arith, is),
      all_weaker _ _ (λ a below conn gives. omega (arith, below conn gives, last_grows the_range (answered the_range event (decided the_range past)) (decided the_range past))) (decided the_range past) (numbers_below past),
    )

numbers_new : (past : List BookEvent) → AreNumbersNew (decided the_range past)
numbers_new [] = tt
numbers_new (event ∷ past) = (
  λ conn gives.
      let new = new_number conn event (book_of the_range (decided the_range past)) gives in (
        (omega (arith, new.0), omega (arith, new.0, new.1)),
        all_weaker _ _ (λ a below earlier given. omega (arith, new.0, below earlier given)) (decided the_range past) (numbers_below past),
      ),
  numbers_new past,
)

pub numbers_are_given_once : NumbersAreGivenOnce
numbers_are_given_once = of_books AreNumbersNew numbers_new
