-- What one event makes of a book, by the book alone.
use Rattle.std.specs.Prelude.{ℕ, ◌+◌, false, not, if◌then◌else◌, List, [], ◌∷◌, ◌++◌, map, fold}
use Rattle.std.specs.Map.{remove_entry}
use Rattle.std.specs.BTreeMap.{is_at}
use Rattle.std.specs.Ordering.{nat_cmp}
use Rattle.std.specs.List.{filter}
use Rattle.rl_events.specs.declared.book.BookEvent.{BookEvent}
use Rattle.rl_events.specs.declared.book.BookEvent.TheVariants.{Open, Expire}
use Rattle.rl_events.specs.declared.book.BookReply.{BookReply}
use Rattle.rl_events.specs.declared.book.BookReply.TheVariants.{Opened}
use Rattle.rl_connbook.specs.declared.record.Record.{Record}
use Rattle.rl_connbook.specs.declared.record.Standing.TheVariants.{Live}
use Rattle.rl_connbook.specs.Records.{standing_after, generation_after, begun_after, expected_after, outcomes_after, busy_after, key_after, is_of}
use Rattle.rl_connbook.specs.Book.{Book, is_over, is_opened, told}

-- the record after an answered event that concerns it
abbrev pub record_after : BookEvent → BookReply → Record → Record
record_after event reply r =
    record {
      key = key_after reply r.key;
      generation = generation_after event reply r.standing r.generation;
      standing = standing_after event reply r.standing;
      expected = expected_after event reply r.expected;
      outcomes = outcomes_after event reply r.expected r.outcomes;
      busy = busy_after event reply r.busy;
      begun = begun_after event reply r.standing r.begun;
    }

abbrev pub entry_after : BookEvent → BookReply → ℕ × Record → ℕ × Record
entry_after event reply e = (e.0, if is_of e.0 event reply then record_after event reply e.1 else e.1)

-- a new connection's record
abbrev pub new_record : List ℕ → Record
new_record key = record { key = key; generation = 1; standing = Live; expected = 0; outcomes = []; busy = 0; begun = false }

abbrev pub records_after : BookEvent → BookReply → List (ℕ × Record) → List (ℕ × Record)
records_after (Open word now) (Opened conn generation key) es = es ++ (conn, new_record key) ∷ []
records_after (Expire now) reply es = filter (λ e. not (is_over now e.1)) es
records_after event reply es = map (entry_after event reply) es

abbrev pub after : Book → BookEvent → Book
after book event =
    record {
      range = book.range;
      last_given = if is_opened (told book event) then book.last_given + 1 else book.last_given;
      records = records_after event (told book event) book.records;
    }

abbrev pub without : List (ℕ × Record) → ℕ → List (ℕ × Record)
without es conn = remove_entry (is_at (nat_cmp conn)) es

-- without the records of these connections
abbrev pub without_all : List (ℕ × Record) → List ℕ → List (ℕ × Record)
without_all es conns = fold without es conns
