-- The book of connections: what it replies to an event after a history, where it gives the numbers of a range.
use Rattle.std.specs.Prelude.{ℕ, ◌+◌, Bool, true, false, not, ◌&&◌, ◌||◌, ◌==◌, nat_le, nat_lt, if◌then◌else◌, List, [], ◌∷◌, ◌++◌, length, map, reverse, find, bytes_eq, Option, Some, None}
use Rattle.std.specs.List.{filter}
use Rattle.std.specs.Map.{lookup}
use Rattle.std.specs.BTreeMap.{is_at}
use Rattle.std.specs.Ordering.{nat_cmp}
use Rattle.rl_numbers.specs.declared.limits.TheConstants.{MAX_CONNECTIONS, MAX_RESUMED_GENERATION, CONNECTION_STATE_TTL}
use Rattle.rl_base.specs.Digits.{fixed_text}
use Rattle.rl_ids.specs.Forms.{conn_text}
use Rattle.rl_events.specs.declared.book.BookEvent.{BookEvent}
use Rattle.rl_events.specs.declared.book.BookEvent.TheVariants.{Open, Resume, Begin, End, Lost, Close, Expire}
use Rattle.rl_events.specs.declared.book.BookReply.{BookReply}
use Rattle.rl_events.specs.declared.book.BookReply.TheVariants.{Opened, Limit, Resumed, KeyUnknown, Go, Known, SerialGap, SerialOld, Superseded, NoRecord, Done, Expired}
use Rattle.rl_events.specs.declared.channel.Outcome.{Outcome}
use Rattle.rl_connbook.specs.declared.range.NumberRange.{NumberRange}
use Rattle.rl_connbook.specs.declared.record.Record.{Record}
use Rattle.rl_connbook.specs.declared.record.Standing.{Standing}
use Rattle.rl_connbook.specs.declared.record.Standing.TheVariants.{Live, LostSince, Closed}
use Rattle.rl_connbook.specs.Records.{Answered, raised, is_open, record_of}

-- WHAT STANDS

-- the numbers that it may give, the last one given (`after` where none was), and the records that stand, in order of
-- number
pub record Book : Type 0 where
  pub range : NumberRange
  pub last_given : ℕ
  pub records : List (ℕ × Record)

abbrev pub is_opened : BookReply → Bool
is_opened (Opened conn generation key) = true
is_opened reply = false

-- as many numbers were given as Opens were answered Opened
abbrev pub numbers_given : List Answered → ℕ
numbers_given before = length (filter (λ (a : Answered). is_opened a.reply) before)

-- they were `after + 1`, `after + 2` and so on
abbrev pub last_number : NumberRange → List Answered → ℕ
last_number range before = range.after + numbers_given before

-- a connection is over once it is closed, or was lost long enough ago
abbrev pub is_over_by : ℕ → Standing → Bool
is_over_by now Live = false
is_over_by now (LostSince since) = nat_le (since + CONNECTION_STATE_TTL) now
is_over_by now Closed = true

-- and no call of it is in flight
abbrev pub is_over : ℕ → Record → Bool
is_over now r = (r.busy == 0) && is_over_by now r.standing

-- a connection stands from its opening to the first Expire at which it is over
abbrev pub numbers_after : BookEvent → BookReply → List Answered → List ℕ → List ℕ
numbers_after (Open word now) (Opened conn generation key) before earlier = earlier ++ conn ∷ []
numbers_after (Expire now) reply before earlier = filter (λ n. not (is_over now (record_of n before))) earlier
numbers_after event reply before earlier = earlier

-- the numbers of the connections that stand, in order
abbrev pub numbers : List Answered → List ℕ
numbers [] = []
numbers (a ∷ before) = numbers_after a.event a.reply before (numbers before)

abbrev pub book_of : NumberRange → List Answered → Book
book_of range before =
    record {
      range = range;
      last_given = last_number range before;
      records = map (λ n. (n, record_of n before)) (numbers before);
    }

-- REPLIES

-- a connection's key: its id, `!` and 16 lower-case hexadecimal digits of a word
abbrev pub key_text : ℕ → ℕ → List ℕ
key_text conn word = conn_text conn ++ 33 ∷ fixed_text 16 16 word

abbrev pub record_at : ℕ → Book → Option Record
record_at conn book = lookup (is_at (nat_cmp conn)) book.records

-- as many connections stand as may, or no number is left
abbrev pub is_full : Book → Bool
is_full book = nat_le MAX_CONNECTIONS (length book.records) || nat_le book.range.last book.last_given

-- a connection gets the next number, generation 1 and a key
abbrev pub opened_as : ℕ → ℕ → BookReply
opened_as conn word = Opened conn 1 (key_text conn word)

abbrev pub opened : ℕ → Book → BookReply
opened word book = if is_full book then Limit (length book.records) book.last_given else opened_as (book.last_given + 1) word

-- a connection that is live or lost, and has this key
abbrev pub has_key : List ℕ → ℕ × Record → Bool
has_key key e = bytes_eq key e.1.key && is_open e.1.standing

-- a connection comes back until it has its last generation. A Close may raise that one by one more
abbrev pub may_resume : Record → Bool
may_resume r = not (r.generation == MAX_RESUMED_GENERATION)

abbrev pub resumed : Option (ℕ × Record) → BookReply
resumed None = KeyUnknown
resumed (Some e) = if may_resume e.1 then Resumed e.0 (raised e.1.generation) else KeyUnknown

abbrev pub known : ℕ → ℕ → Option Outcome → BookReply
known serial expected (Some outcome) = Known outcome
known serial expected None = SerialOld serial expected

abbrev pub kept_outcome : ℕ → List (ℕ × Outcome) → Option Outcome
kept_outcome serial outcomes = lookup (λ s. s == serial) outcomes

-- a Begin at the current generation
abbrev pub begun : ℕ → Record → BookReply
begun serial r =
    if serial == r.expected then Go
    else if nat_lt serial r.expected then known serial r.expected (kept_outcome serial r.outcomes)
    else if r.begun then SerialGap serial r.expected
    else Go

-- the reply where the connection's record is there and its generation isn't greater
abbrev pub at_record : ℕ → (Record → BookReply) → Option Record → BookReply
at_record generation reply None = NoRecord
at_record generation reply (Some r) = if nat_lt generation r.generation then Superseded r.generation else reply r

abbrev pub told : Book → BookEvent → BookReply
told book (Open word now) = opened word book
told book (Resume key now) = resumed (find (has_key key) book.records)
told book (Begin conn generation serial) = at_record generation (begun serial) (record_at conn book)
told book (End conn generation serial outcome) = at_record generation (λ _. Done) (record_at conn book)
told book (Lost conn generation now) = at_record generation (λ _. Done) (record_at conn book)
told book (Close conn generation) = at_record generation (λ _. Done) (record_at conn book)
told book (Expire now) = Expired (map (λ e. e.0) (filter (λ e. is_over now e.1) book.records))

-- HISTORIES

abbrev pub answered : NumberRange → BookEvent → List Answered → Answered
answered range event before = record { event = event; reply = told (book_of range before) event }

-- the events with their replies, the latest first
abbrev pub decided : NumberRange → List BookEvent → List Answered
decided range [] = []
decided range (event ∷ past) = answered range event (decided range past) ∷ decided range past

-- the events, the earliest first, with their replies, the latest first
abbrev pub history : NumberRange → List BookEvent → List Answered
history range past = decided range (reverse past)

-- the book after these events, the earliest first
abbrev pub book_after : NumberRange → List BookEvent → Book
book_after range past = book_of range (history range past)

-- the reply to an event after these events, the earliest first
abbrev pub reply_after : NumberRange → List BookEvent → BookEvent → BookReply
reply_after range past event = told (book_after range past) event

-- the events that take no memory
abbrev pub is_spare : BookEvent → Bool
is_spare (Resume key now) = true
is_spare (Begin conn generation serial) = true
is_spare (Lost conn generation now) = true
is_spare (Close conn generation) = true
is_spare event = false
