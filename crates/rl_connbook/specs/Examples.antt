-- Examples of what the book replies.
use Rattle.std.specs.Prelude.{◌≡◌, ℕ, List, [], ◌∷◌, map, reverse, codes, Some}
use Rattle.rl_events.specs.declared.book.BookEvent.{BookEvent}
use Rattle.rl_events.specs.declared.book.BookEvent.TheVariants.{Open, Resume, Begin, End, Lost, Close, Expire}
use Rattle.rl_events.specs.declared.book.BookReply.{BookReply}
use Rattle.rl_events.specs.declared.book.BookReply.TheVariants.{Opened, Limit, Resumed, KeyUnknown, Go, Known, SerialGap, SerialOld, Superseded, NoRecord, Done, Expired}
use Rattle.rl_events.specs.declared.channel.Outcome.TheVariants.{Taken}
use Rattle.rl_numbers.specs.declared.limits.TheConstants.{MAX_CONNECTION}
use Rattle.rl_connbook.specs.Records.{Answered}
use Rattle.rl_connbook.specs.Book.{history}

-- the replies to these events in turn, of a book that gives the numbers above `after`, up to `last`
abbrev pub replies_between : ℕ → ℕ → List BookEvent → List BookReply
replies_between after last events = reverse (map (λ (a : Answered). a.reply) (history (record { after = after; last = last }) events))

-- of a book of all numbers
abbrev pub replies : List BookEvent → List BookReply
replies events = replies_between 0 MAX_CONNECTION events

abbrev pub key : List ℕ
key = codes "c00000001!0000000000000007"

pub record Replies : Type 0 where
  -- one connection through all kinds of events
  pub once : replies (Open 7 0 ∷ Begin 1 1 5 ∷ Begin 1 1 7 ∷ End 1 1 5 (Some (Taken 1)) ∷ Begin 1 1 5 ∷ Resume key 0 ∷ Begin 1 1 6 ∷ Begin 1 2 3 ∷ Close 1 2 ∷ Expire 0 ∷ Lost 1 3 0 ∷ [])
      ≡ Opened 1 1 key ∷ Go ∷ SerialGap 7 0 ∷ Done ∷ Known (Taken 1) ∷ Resumed 1 2 ∷ Superseded 2 ∷ SerialOld 3 6 ∷ Done ∷ Expired (1 ∷ []) ∷ NoRecord ∷ []
  -- a lost connection is given up after 120 seconds, and not one millisecond earlier
  pub given_up : replies (Open 7 0 ∷ Lost 1 1 0 ∷ Expire 119999 ∷ Expire 120000 ∷ Resume key 120000 ∷ Open 7 120000 ∷ [])
      ≡ Opened 1 1 key ∷ Done ∷ Expired [] ∷ Expired (1 ∷ []) ∷ KeyUnknown ∷ Opened 2 1 (codes "c00000002!0000000000000007") ∷ []
  -- one that came back in time stays
  pub came_back : replies (Open 7 0 ∷ Lost 1 1 0 ∷ Resume key 120000 ∷ Expire 120000 ∷ Resume key 120000 ∷ [])
      ≡ Opened 1 1 key ∷ Done ∷ Resumed 1 2 ∷ Expired [] ∷ Resumed 1 3 ∷ []
  -- one with a call in flight stays until the call has ended, and an earlier generation's call ends it
  pub in_flight : replies (Open 7 0 ∷ Begin 1 1 0 ∷ Lost 1 1 0 ∷ Resume key 0 ∷ Lost 1 2 0 ∷ Expire 120000 ∷ End 1 1 0 (Some (Taken 1)) ∷ Expire 120000 ∷ Resume key 120000 ∷ [])
      ≡ Opened 1 1 key ∷ Go ∷ Done ∷ Resumed 1 2 ∷ Done ∷ Expired [] ∷ Superseded 2 ∷ Expired (1 ∷ []) ∷ KeyUnknown ∷ []
  -- an outcome that an earlier generation's call left is known to the next one
  pub left_behind : replies (Open 7 0 ∷ Begin 1 1 0 ∷ Lost 1 1 0 ∷ Resume key 0 ∷ Begin 1 2 0 ∷ End 1 1 0 (Some (Taken 1)) ∷ Begin 1 2 0 ∷ End 1 1 5 (Some (Taken 2)) ∷ Begin 1 2 5 ∷ [])
      ≡ Opened 1 1 key ∷ Go ∷ Done ∷ Resumed 1 2 ∷ Go ∷ Superseded 2 ∷ Known (Taken 1) ∷ Superseded 2 ∷ SerialGap 5 1 ∷ []
  -- closing begins a generation that has had no call yet, so a first one above the expected serial is let through
  pub closed : replies (Open 7 0 ∷ Close 1 1 ∷ Begin 1 2 9 ∷ Begin 1 2 11 ∷ []) ≡ Opened 1 1 key ∷ Done ∷ Go ∷ SerialGap 11 0 ∷ []
  -- the second of two ranges that lie side by side: its first number, and a key with that number
  pub range_begins : replies_between 2097152 4194303 (Open 7 0 ∷ Begin 2097153 1 0 ∷ Begin 1 1 0 ∷ Resume (codes "c00200001!0000000000000007") 0 ∷ [])
      ≡ Opened 2097153 1 (codes "c00200001!0000000000000007") ∷ Go ∷ NoRecord ∷ Resumed 2097153 2 ∷ []
  -- the last number of a range is given, and none after it, also where connections have gone
  pub range_ends : replies_between 4194301 4194303 (Open 7 0 ∷ Open 8 0 ∷ Open 9 0 ∷ Close 4194302 1 ∷ Expire 0 ∷ Open 9 0 ∷ [])
      ≡ Opened 4194302 1 (codes "c003ffffe!0000000000000007") ∷ Opened 4194303 1 (codes "c003fffff!0000000000000008") ∷ Limit 2 4194303 ∷ Done ∷ Expired (4194302 ∷ []) ∷ Limit 1 4194303 ∷ []
