-- What a connection's record is, by the answered events that concern the connection.
use Rattle.std.specs.Prelude.{ℕ, ◌+◌, ◌-◌, ◌^◌, min, Bool, true, false, ◌&&◌, ◌==◌, nat_le, nat_lt, if◌then◌else◌, List, [], ◌∷◌, ◌++◌, length, drop, Some}
use Rattle.std.specs.List.{filter}
use Rattle.rl_events.specs.declared.book.BookEvent.{BookEvent}
use Rattle.rl_events.specs.declared.book.BookEvent.TheVariants.{Open, Resume, Begin, End, Lost, Close}
use Rattle.rl_events.specs.declared.book.BookReply.{BookReply}
use Rattle.rl_events.specs.declared.book.BookReply.TheVariants.{Opened, Resumed, Go, Superseded, NoRecord, Done}
use Rattle.rl_events.specs.declared.channel.Outcome.{Outcome}
use Rattle.rl_numbers.specs.declared.limits.TheConstants.{MAX_MESSAGE_SERIAL, MAX_KEPT_OUTCOMES}
use Rattle.rl_connbook.specs.declared.record.Record.{Record}
use Rattle.rl_connbook.specs.declared.record.Standing.{Standing}
use Rattle.rl_connbook.specs.declared.record.Standing.TheVariants.{Live, LostSince, Closed}

-- an event of the book, and what it was answered
pub record Answered : Type 0 where
  pub event : BookEvent
  pub reply : BookReply

-- WHICH EVENTS CONCERN A CONNECTION

-- the event made the connection with this number, brought it back or names it
abbrev pub is_of : ℕ → BookEvent → BookReply → Bool
is_of n (Open word now) (Opened conn generation key) = conn == n
is_of n (Resume key now) (Resumed conn generation) = conn == n
is_of n (Begin conn generation serial) reply = conn == n
is_of n (End conn generation serial outcome) reply = conn == n
is_of n (Lost conn generation now) reply = conn == n
is_of n (Close conn generation) reply = conn == n
is_of n _ _ = false

abbrev pub concerns : ℕ → Answered → Bool
concerns n a = is_of n a.event a.reply

-- those of the answered events that concern a connection are its story. In all lists here the latest event
-- comes first
abbrev pub story : ℕ → List Answered → List Answered
story n before = filter (concerns n) before

-- COUNTS

-- a count that rises by one, and stands still at its type's end
abbrev pub raised : ℕ → ℕ
raised n = min (n + 1) (2 ^ 64 - 1)

-- a count that falls by one above 0. One that stands at its type's end is no count any more, and stays
abbrev pub lowered : ℕ → ℕ
lowered n = if nat_lt n (2 ^ 64 - 1) then n - 1 else n

-- THE STANDING

-- a connection is live once it was opened, and after each return; it is lost since the first loss while it was
-- live, and stays closed once it was closed
abbrev pub standing_after : BookEvent → BookReply → Standing → Standing
standing_after (Open word now) reply earlier = Live
standing_after (Resume key now) reply earlier = Live
standing_after (Lost conn generation now) Done Live = LostSince now
standing_after (Close conn generation) Done earlier = Closed
standing_after event reply earlier = earlier

abbrev pub standing_of : List Answered → Standing
standing_of [] = Live
standing_of (a ∷ story) = standing_after a.event a.reply (standing_of story)

-- a connection that is live or lost
abbrev pub is_open : Standing → Bool
is_open Closed = false
is_open standing = true

-- THE GENERATION

-- 1, and one more for each return and for the closing
abbrev pub generation_after : BookEvent → BookReply → Standing → ℕ → ℕ
generation_after (Open word now) reply standing earlier = 1
generation_after (Resume key now) reply standing earlier = raised earlier
generation_after (Close conn generation) Done standing earlier = if is_open standing then raised earlier else earlier
generation_after event reply standing earlier = earlier

abbrev pub generation_of : List Answered → ℕ
generation_of [] = 0
generation_of (a ∷ story) = generation_after a.event a.reply (standing_of story) (generation_of story)

-- whether there was a Begin at this generation, whatever it was answered
abbrev pub begun_after : BookEvent → BookReply → Standing → Bool → Bool
begun_after (Open word now) reply standing earlier = false
begun_after (Resume key now) reply standing earlier = false
begun_after (Close conn generation) Done standing earlier = if is_open standing then false else earlier
begun_after (Begin conn generation serial) NoRecord standing earlier = earlier
begun_after (Begin conn generation serial) (Superseded newer) standing earlier = earlier
begun_after (Begin conn generation serial) reply standing earlier = true
begun_after event reply standing earlier = earlier

abbrev pub had_begin : List Answered → Bool
had_begin [] = false
had_begin (a ∷ story) = begun_after a.event a.reply (standing_of story) (had_begin story)

-- OUTCOMES

-- an End keeps its outcome at a serial not below the expected one; one of an earlier generation keeps it at
-- the expected serial alone
abbrev pub keeps : BookReply → ℕ → ℕ → Bool
keeps Done serial expected = nat_le expected serial && nat_le serial (MAX_MESSAGE_SERIAL)
keeps (Superseded newer) serial expected = (serial == expected) && nat_le serial (MAX_MESSAGE_SERIAL)
keeps reply serial expected = false

-- the serial that is expected: 0, and after a kept outcome one more than its serial
abbrev pub expected_after : BookEvent → BookReply → ℕ → ℕ
expected_after (Open word now) reply earlier = 0
expected_after (End conn generation serial (Some outcome)) reply earlier = if keeps reply serial earlier then serial + 1 else earlier
expected_after event reply earlier = earlier

abbrev pub expected_of : List Answered → ℕ
expected_of [] = 0
expected_of (a ∷ story) = expected_after a.event a.reply (expected_of story)

-- without the oldest, where they are too many
abbrev pub latest : List (ℕ × Outcome) → List (ℕ × Outcome)
latest outcomes = if nat_lt MAX_KEPT_OUTCOMES (length outcomes) then drop 1 outcomes else outcomes

-- the latest outcomes that were kept, each with its serial, in order
abbrev pub outcomes_after : BookEvent → BookReply → ℕ → List (ℕ × Outcome) → List (ℕ × Outcome)
outcomes_after (Open word now) reply expected earlier = []
outcomes_after (End conn generation serial (Some outcome)) reply expected earlier = if keeps reply serial expected then latest (earlier ++ (serial, outcome) ∷ []) else earlier
outcomes_after event reply expected earlier = earlier

abbrev pub outcomes_of : List Answered → List (ℕ × Outcome)
outcomes_of [] = []
outcomes_of (a ∷ story) = outcomes_after a.event a.reply (expected_of story) (outcomes_of story)

-- CALLS IN FLIGHT

-- the Begins answered Go that had no End yet
abbrev pub busy_after : BookEvent → BookReply → ℕ → ℕ
busy_after (Open word now) reply earlier = 0
busy_after (Begin conn generation serial) Go earlier = raised earlier
busy_after (End conn generation serial outcome) Done earlier = lowered earlier
busy_after (End conn generation serial outcome) (Superseded newer) earlier = lowered earlier
busy_after event reply earlier = earlier

abbrev pub busy_of : List Answered → ℕ
busy_of [] = 0
busy_of (a ∷ story) = busy_after a.event a.reply (busy_of story)

-- THE KEY

abbrev pub key_after : BookReply → List ℕ → List ℕ
key_after (Opened conn generation key) earlier = key
key_after reply earlier = earlier

-- the key with which it was opened
abbrev pub key_of : List Answered → List ℕ
key_of [] = []
key_of (a ∷ story) = key_after a.reply (key_of story)

-- THE RECORD

abbrev pub record_of_story : List Answered → Record
record_of_story story =
    record {
      key = key_of story;
      generation = generation_of story;
      standing = standing_of story;
      expected = expected_of story;
      outcomes = outcomes_of story;
      busy = busy_of story;
      begun = had_begin story;
    }

abbrev pub record_of : ℕ → List Answered → Record
record_of n before = record_of_story (story n before)
