-- Numbers are given once, rise, and never come back. All but the last section is said of one event after any list of
-- answered events, where its reply is the one that the definitions give.
use Rattle.std.proofs.Common.{◌≡◌, ◌⊎◌, inl, inr, ℕ, ◌+◌, ◌≤◌, ◌<◌, max, Bool, true, false, true≢false, cond, List, [], ◌∷◌, ◌++◌, length, map, refl, ap, sym, subst, ◌∙◌, arith}
use Rattle.std.specs.Prelude.{Option, Some, None, not, ◌==◌, ◌&&◌, ◌||◌, if◌then◌else◌, nat_lt, nat_le, find}
use Rattle.std.specs.List.{AllByRecursion, filter}
use Rattle.std.proofs.lemmas.Bool.Decides.{nat_tests}
use Rattle.std.proofs.lemmas.List.{length-append, length-map}
use Rattle.rl_events.specs.declared.book.BookEvent.{BookEvent}
use Rattle.rl_events.specs.declared.book.BookEvent.TheVariants.{Open, Resume, Begin, End, Lost, Close, Expire}
use Rattle.rl_events.specs.declared.book.BookReply.{BookReply}
use Rattle.rl_events.specs.declared.book.BookReply.TheVariants.{Opened, Limit, Resumed, KeyUnknown, Go, Known, SerialGap, SerialOld, Superseded, NoRecord, Done, Expired}
use Rattle.rl_events.specs.declared.channel.Outcome.{Outcome}
use Rattle.rl_numbers.specs.declared.limits.TheConstants.{MAX_CONNECTIONS}
use Rattle.rl_connbook.specs.declared.range.NumberRange.{NumberRange}
use Rattle.rl_connbook.specs.declared.record.Record.{Record}
use Rattle.rl_connbook.specs.Records.{Answered, record_of, raised}
use Rattle.rl_connbook.specs.Book.{Book, book_of, numbers, numbers_after, last_number, is_opened, is_over, is_over_by, told, answered, decided, is_full, opened_as, record_at, at_record, begun, known, kept_outcome, may_resume, resumed, has_key}
use Rattle.rl_connbook.specs.Laws.{IsIn, AreRising, Gives, given_up}
use Rattle.rl_connbook.proofs.Each.{all_weaker, all_append, all_filter, all_some, some_weaker, some_split, some_filter}
use Rattle.rl_connbook.proofs.History.{Follows, follows, last_more, last_step, last_grows}
use Rattle.rl_connbook.proofs.Changes.{begun_opens}
use Rattle.rl_connbook.proofs.Opening.{room_left}

-- NUMBERS THAT STAND

-- the numbers that stand were given
abbrev pub AreGiven : NumberRange → List Answered → Type 0
AreGiven range before = AllByRecursion (λ n. (range.after < n) × (n ≤ last_number range before)) (numbers before)

given_more : (range : NumberRange) (a : Answered) (before : List Answered) → AreGiven range before → AllByRecursion (λ n. (range.after < n) × (n ≤ last_number range (a ∷ before))) (numbers before)
given_more range a before all = all_weaker _ _ (λ n h. (h.0, omega (arith, h.1, last_grows range a before))) (numbers before) all

given_by : (after last more : ℕ) (event : BookEvent) (reply : BookReply) (before : List Answered) → after ≤ last → Follows event reply last → (is_opened reply ≡ true → more ≡ last + 1)
    → AllByRecursion (λ n. (after < n) × (n ≤ more)) (numbers before)
    → AllByRecursion (λ n. (after < n) × (n ≤ more)) (numbers_after event reply before (numbers before))
given_by after last more (Open word now) (Opened n generation key) before low is up all = all_append _ (numbers before) (n ∷ []) all ((omega (arith, is, low), omega (arith, is, up refl)), tt)
given_by after last more (Open word now) reply before low is up all = all
given_by after last more (Expire now) reply before low is up all = all_filter _ (λ n. not (is_over now (record_of n before))) (numbers before) all
given_by after last more event reply before low is up all = all

pub given_stays : (range : NumberRange) (event : BookEvent) (before : List Answered) → AreGiven range before → AreGiven range (answered range event before ∷ before)
given_stays range event before all =
    let a = answered range event before in
    given_by range.after (last_number range before) (last_number range (a ∷ before)) event a.reply before (omega arith) (follows event (book_of range before)) (last_more range a before) (given_more range a before all)

-- RISING

rising_last : (n : ℕ) (ns : List ℕ) → AllByRecursion (λ m. m < n) ns → AreRising ns → AreRising (ns ++ n ∷ [])
rising_last n [] below rise = (tt, tt)
rising_last n (m ∷ ns) below rise = (above m ns below.0 rise.0, rising_last n ns below.1 rise.1)
  where
    above : (m : ℕ) (ns : List ℕ) → m < n → AllByRecursion (λ k. m < k) ns → AllByRecursion (λ k. m < k) (ns ++ n ∷ [])
    above m [] less all = (less, tt)
    above m (k ∷ ns) less all = (all.0, above m ns less all.1)

rising_by : (n : ℕ) (rest : List ℕ) (b : Bool) → AllByRecursion (λ m. n < m) rest → AreRising rest → AreRising (cond b (n ∷ rest) rest)
rising_by n rest true above rise = (above, rise)
rising_by n rest false above rise = rise

rising_filter : (test : ℕ → Bool) (ns : List ℕ) → AreRising ns → AreRising (filter test ns)
rising_filter test [] rise = tt
rising_filter test (n ∷ ns) rise = rising_by n (filter test ns) (test n) (all_filter (λ m. n < m) test ns rise.0) (rising_filter test ns rise.1)

rising_after : (after last : ℕ) (event : BookEvent) (reply : BookReply) (before : List Answered) → Follows event reply last → AllByRecursion (λ n. (after < n) × (n ≤ last)) (numbers before) → AreRising (numbers before) → AreRising (numbers_after event reply before (numbers before))
rising_after after last (Open word now) (Opened n generation key) before is all rise = rising_last n (numbers before) (all_weaker _ _ (λ m h. omega (arith, is, h.1)) (numbers before) all) rise
rising_after after last (Open word now) reply before is all rise = rise
rising_after after last (Expire now) reply before is all rise = rising_filter (λ n. not (is_over now (record_of n before))) (numbers before) rise
rising_after after last event reply before is all rise = rise

pub rising_stays : (range : NumberRange) (event : BookEvent) (before : List Answered) → AreGiven range before → AreRising (numbers before) → AreRising (numbers (answered range event before ∷ before))
rising_stays range event before all rise =
    rising_after range.after (last_number range before) event (told (book_of range before) event) before (follows event (book_of range before)) all rise

-- WHAT AN OPEN GIVES

gives_opened : (conn : ℕ) (reply : BookReply) → Gives conn reply → is_opened reply ≡ true
gives_opened conn (Opened n generation key) gives = refl
gives_opened conn reply gives = absurd gives

resumed_opens : (found : Option (ℕ × Record)) → is_opened (resumed found) ≡ false
resumed_opens None = refl
resumed_opens (Some e) = by_may (may_resume e.1)
  where
    by_may : (b : Bool) → is_opened (if b then Resumed e.0 (raised e.1.generation) else KeyUnknown) ≡ false
    by_may true = refl
    by_may false = refl

record_opens : (generation : ℕ) (reply : Record → BookReply) (found : Option Record) → ((r : Record) → is_opened (reply r) ≡ false) → is_opened (at_record generation reply found) ≡ false
record_opens generation reply None each = refl
record_opens generation reply (Some r) each = by_late (nat_lt generation r.generation)
  where
    by_late : (b : Bool) → is_opened (if b then Superseded r.generation else reply r) ≡ false
    by_late true = refl
    by_late false = each r

never : (conn : ℕ) (reply : BookReply) → is_opened reply ≡ false → Gives conn reply → ⊥
never conn reply opens gives = true≢false (sym (gives_opened conn reply gives) ∙ opens)

new_by : (conn word last most count given : ℕ) (b : Bool) → (b ≡ false → last < most) → Gives conn (if b then Limit count given else opened_as (last + 1) word) → (conn ≡ last + 1) × (last < most)
new_by conn word last most count given true room gives = absurd gives
new_by conn word last most count given false room gives = (sym gives, room refl)

-- what is given is the next number, and one of the range
pub new_number : (conn : ℕ) (event : BookEvent) (book : Book) → Gives conn (told book event) → (conn ≡ book.last_given + 1) × (book.last_given < book.range.last)
new_number conn (Open word now) book gives = new_by conn word book.last_given book.range.last (length book.records) book.last_given (is_full book) (room_left book) gives
new_number conn (Resume key now) book gives = absurd (never conn _ (resumed_opens (find (has_key key) book.records)) gives)
new_number conn (Begin n generation serial) book gives = absurd (never conn _ (record_opens generation (begun serial) (record_at n book) (begun_opens serial)) gives)
new_number conn (End n generation serial outcome) book gives = absurd (never conn _ (record_opens generation (λ _. Done) (record_at n book) (λ r. refl)) gives)
new_number conn (Lost n generation now) book gives = absurd (never conn _ (record_opens generation (λ _. Done) (record_at n book) (λ r. refl)) gives)
new_number conn (Close n generation) book gives = absurd (never conn _ (record_opens generation (λ _. Done) (record_at n book) (λ r. refl)) gives)
new_number conn (Expire now) book gives = absurd gives

pub last_given : (range : NumberRange) (event : BookEvent) (before : List Answered) (conn : ℕ) → Gives conn (told (book_of range before) event) → conn ≡ last_number range (answered range event before ∷ before)
last_given range event before conn gives =
    (new_number conn event (book_of range before) gives).0
    ∙ sym (last_more range (answered range event before) before (gives_opened conn (told (book_of range before) event) gives))

opened_gives : (reply : BookReply) → is_opened reply ≡ true → (conn : ℕ) × Gives conn reply
opened_gives (Opened n generation key) is = (n, refl)
opened_gives (Limit count most) is = absurd (cc)
opened_gives (Resumed n generation) is = absurd (cc)
opened_gives KeyUnknown is = absurd (cc)
opened_gives Go is = absurd (cc)
opened_gives (Known outcome) is = absurd (cc)
opened_gives (SerialGap got expected) is = absurd (cc)
opened_gives (SerialOld got expected) is = absurd (cc)
opened_gives (Superseded newer) is = absurd (cc)
opened_gives NoRecord is = absurd (cc)
opened_gives Done is = absurd (cc)
opened_gives (Expired conns) is = absurd (cc)

room_by : (event : BookEvent) (book : Book) → is_opened (told book event) ≡ true → book.last_given < book.range.last
room_by event book is = let gives = opened_gives (told book event) is in (new_number gives.0 event book gives.1).1

bound_by : (b : Bool) (last most : ℕ) → (b ≡ true → last < most) → last ≤ most → cond b (last + 1) last ≤ most
bound_by true last most room low = omega (arith, room refl)
bound_by false last most room low = low

-- the last number given is not above the range
pub bound_stays : (range : NumberRange) (event : BookEvent) (before : List Answered) → last_number range before ≤ max range.after range.last → last_number range (answered range event before ∷ before) ≤ max range.after range.last
bound_stays range event before low =
    let a = answered range event before in
    rw (last_step range a before)
    (bound_by (is_opened a.reply) (last_number range before) (max range.after range.last) (λ is. omega (arith, room_by event (book_of range before) is)) low)

-- HOW MANY STAND

no_longer_by : (b : Bool) (n : ℕ) (ms : List ℕ) → length (cond b (n ∷ ms) ms) ≤ length ms + 1
no_longer_by true n ms = omega arith
no_longer_by false n ms = omega arith

no_longer : (test : ℕ → Bool) (ns : List ℕ) → length (filter test ns) ≤ length ns
no_longer test [] = omega arith
no_longer test (n ∷ ns) = omega (arith, no_longer_by (test n) n (filter test ns), no_longer test ns)

count_after : (most : ℕ) (event : BookEvent) (reply : BookReply) (before : List Answered) → (is_opened reply ≡ true → length (numbers before) < most) → length (numbers before) ≤ most → length (numbers_after event reply before (numbers before)) ≤ most
count_after most (Open word now) (Opened n generation key) before room low = omega (arith, room refl, length-append (numbers before) (n ∷ []))
count_after most (Open word now) reply before room low = low
count_after most (Expire now) reply before room low = omega (arith, low, no_longer (λ n. not (is_over now (record_of n before))) (numbers before))
count_after most event reply before room low = low

as_many : (before : List Answered) (ns : List ℕ) → length {A = ℕ × Record} (map (λ n. (n, record_of n before)) ns) ≡ length ns
as_many before ns = length-map {B = ℕ × Record} ns (λ n. (n, record_of n before))

place_by : (conn word last count given : ℕ) (b : Bool) → (b ≡ false → count < MAX_CONNECTIONS) → Gives conn (if b then Limit count given else opened_as (last + 1) word) → count < MAX_CONNECTIONS
place_by conn word last count given true free gives = absurd gives
place_by conn word last count given false free gives = free refl

place_left : (book : Book) → is_full book ≡ false → length book.records < MAX_CONNECTIONS
place_left book h = grind (arith, nat_tests, h)

-- where a connection is opened, fewer stand than may
new_place : (conn : ℕ) (event : BookEvent) (book : Book) → Gives conn (told book event) → length book.records < MAX_CONNECTIONS
new_place conn (Open word now) book gives = place_by conn word book.last_given (length book.records) book.last_given (is_full book) (place_left book) gives
new_place conn (Resume key now) book gives = absurd (never conn _ (resumed_opens (find (has_key key) book.records)) gives)
new_place conn (Begin n generation serial) book gives = absurd (never conn _ (record_opens generation (begun serial) (record_at n book) (begun_opens serial)) gives)
new_place conn (End n generation serial outcome) book gives = absurd (never conn _ (record_opens generation (λ _. Done) (record_at n book) (λ r. refl)) gives)
new_place conn (Lost n generation now) book gives = absurd (never conn _ (record_opens generation (λ _. Done) (record_at n book) (λ r. refl)) gives)
new_place conn (Close n generation) book gives = absurd (never conn _ (record_opens generation (λ _. Done) (record_at n book) (λ r. refl)) gives)
new_place conn (Expire now) book gives = absurd gives

pub count_stays : (range : NumberRange) (event : BookEvent) (before : List Answered) → length (numbers before) ≤ MAX_CONNECTIONS → length (numbers (answered range event before ∷ before)) ≤ MAX_CONNECTIONS
count_stays range event before low =
    let book = book_of range before in
    count_after MAX_CONNECTIONS event (told book event) before
    (λ is. let gives = opened_gives (told book event) is in omega (arith, new_place gives.0 event book gives.1, as_many before (numbers before))) low

-- WHAT A LIMIT SAYS

limit_by : (word last count given count_told given_told : ℕ) (b : Bool) → (if b then Limit count given else opened_as (last + 1) word) ≡ Limit count_told given_told → (b ≡ true) × (count_told ≡ count) × (given_told ≡ given)
limit_by word last count given count_told given_told true is =
    let one : count ≡ count_told = cc in
    let two : given ≡ given_told = cc in
    (refl, sym one, sym two)
limit_by word last count given count_told given_told false is = absurd (cc)

full_by : (a b : Bool) (count last most : ℕ) → nat_le MAX_CONNECTIONS count ≡ a → nat_le most last ≡ b → (a || b) ≡ true → (MAX_CONNECTIONS ≤ count) ⊎ (most ≤ last)
full_by true b count last most one two is = inl (grind (arith, nat_tests, one))
full_by false true count last most one two is = inr (grind (arith, nat_tests, two))
full_by false false count last most one two is = absurd (cc)

limit_of : (range : NumberRange) (count given last : ℕ) → range.after ≤ last → last ≤ max range.after range.last → count ≤ MAX_CONNECTIONS → given ≡ last → range.after ≤ range.last → (MAX_CONNECTIONS ≤ count) ⊎ (range.last ≤ last) → (count ≡ MAX_CONNECTIONS) ⊎ (given ≡ range.last)
limit_of range count given last low high few is some (inl full) = inl (omega (arith, few, full))
limit_of range count given last low high few is some (inr none) = inr (omega (arith, high, is, some, none))

no_limit_record : (generation count given : ℕ) (reply : Record → BookReply) (found : Option Record) → ((r : Record) → reply r ≡ Limit count given → ⊥) → at_record generation reply found ≡ Limit count given → ⊥
no_limit_record generation count given reply None each is = cc
no_limit_record generation count given reply (Some r) each is = by_late (nat_lt generation r.generation) is
  where
    by_late : (b : Bool) → (if b then Superseded r.generation else reply r) ≡ Limit count given → ⊥
    by_late true is = cc
    by_late false is = each r is

no_limit_resumed : (count given : ℕ) (found : Option (ℕ × Record)) → resumed found ≡ Limit count given → ⊥
no_limit_resumed count given None is = cc
no_limit_resumed count given (Some e) is = by_may (may_resume e.1) is
  where
    by_may : (b : Bool) → (if b then Resumed e.0 (raised e.1.generation) else KeyUnknown) ≡ Limit count given → ⊥
    by_may true is = cc
    by_may false is = cc

no_limit_known : (serial expected count given : ℕ) (kept : Option Outcome) → known serial expected kept ≡ Limit count given → ⊥
no_limit_known serial expected count given None is = cc
no_limit_known serial expected count given (Some outcome) is = cc

no_limit_begun : (serial count given : ℕ) (r : Record) → begun serial r ≡ Limit count given → ⊥
no_limit_begun serial count given r is = by_serial (serial == r.expected) (nat_lt serial r.expected) r.begun is
  where
    by_serial : (a b c : Bool) → (if a then Go else if b then known serial r.expected (kept_outcome serial r.outcomes) else if c then SerialGap serial r.expected else Go) ≡ Limit count given → ⊥
    by_serial true b c is = cc
    by_serial false true c is = no_limit_known serial r.expected count given (kept_outcome serial r.outcomes) is
    by_serial false false true is = cc
    by_serial false false false is = cc

-- a Limit comes where no connection more can be opened, and says how many stand and the last number given
limit_told : (event : BookEvent) (book : Book) (count_told given_told : ℕ) → told book event ≡ Limit count_told given_told → (is_full book ≡ true) × (count_told ≡ length book.records) × (given_told ≡ book.last_given)
limit_told (Open word now) book count given_told is = limit_by word book.last_given (length book.records) book.last_given count given_told (is_full book) is
limit_told (Resume key now) book count given_told is = absurd (no_limit_resumed count given_told (find (has_key key) book.records) is)
limit_told (Begin n generation serial) book count given_told is = absurd (no_limit_record generation count given_told (begun serial) (record_at n book) (λ r here. no_limit_begun serial count given_told r here) is)
limit_told (End n generation serial outcome) book count given_told is = absurd (no_limit_record generation count given_told (λ _. Done) (record_at n book) (λ r here. cc) is)
limit_told (Lost n generation now) book count given_told is = absurd (no_limit_record generation count given_told (λ _. Done) (record_at n book) (λ r here. cc) is)
limit_told (Close n generation) book count given_told is = absurd (no_limit_record generation count given_told (λ _. Done) (record_at n book) (λ r here. cc) is)
limit_told (Expire now) book count given_told is = absurd (cc)

pub limit_reached : (range : NumberRange) (event : BookEvent) (before : List Answered) (count_told given_told : ℕ) → last_number range before ≤ max range.after range.last → length (numbers before) ≤ MAX_CONNECTIONS → range.after ≤ range.last
    → told (book_of range before) event ≡ Limit count_told given_told → (count_told ≡ MAX_CONNECTIONS) ⊎ (given_told ≡ range.last)
limit_reached range event before count_told given_told high few some is =
    let book = book_of range before in
    let told_so = limit_told event book count_told given_told is in
    let count : count_told ≡ length (numbers before) = told_so.1 ∙ as_many before (numbers before) in
    let full : (MAX_CONNECTIONS ≤ length book.records) ⊎ (range.last ≤ last_number range before) =
    full_by (nat_le MAX_CONNECTIONS (length book.records)) (nat_le range.last (last_number range before)) (length book.records) (last_number range before) range.last refl refl told_so.0 in
    limit_of range count_told given_told (last_number range before) (omega arith) high (omega (arith, count, few)) told_so.2 some
    (elim full [ inl many ↦ inl (omega (arith, many, told_so.1)) | inr none ↦ inr none ])

-- A NUMBER THAT DOES NOT STAND ANY MORE NEVER COMES BACK

-- a number that was given and does not stand any more
pub record IsGone (range : NumberRange) (before : List Answered) (conn : ℕ) : Type 0 where
  pub given : conn ≤ last_number range before
  pub away : IsIn conn (numbers before) → ⊥

came_by : (conn n last : ℕ) (ns : List ℕ) → n ≡ last + 1 → IsIn conn ns ⊎ IsIn conn (n ∷ []) → IsIn conn ns ⊎ (conn ≡ last + 1)
came_by conn n last ns is (inl old) = inl old
came_by conn n last ns is (inr (inl same)) = inr (sym same ∙ is)
came_by conn n last ns is (inr (inr none)) = absurd none

-- a number that stands after an event stood before it, or is the next one
came : (conn : ℕ) (event : BookEvent) (reply : BookReply) (before : List Answered) (last : ℕ) → Follows event reply last → IsIn conn (numbers_after event reply before (numbers before)) → IsIn conn (numbers before) ⊎ (conn ≡ last + 1)
came conn (Open word now) (Opened n generation key) before last is in_ = came_by conn n last (numbers before) is (some_split (λ m. m ≡ conn) (numbers before) (n ∷ []) in_)
came conn (Open word now) reply before last is in_ = inl in_
came conn (Expire now) reply before last is in_ = inl (some_weaker _ _ (λ n p. p.0) (numbers before) (some_filter (λ n. n ≡ conn) (λ n. not (is_over now (record_of n before))) (numbers before) in_))
came conn event reply before last is in_ = inl in_

stays_away : (conn last : ℕ) (ns : List ℕ) → conn ≤ last → (IsIn conn ns → ⊥) → IsIn conn ns ⊎ (conn ≡ last + 1) → ⊥
stays_away conn last ns low away (inl old) = away old
stays_away conn last ns low away (inr new) = omega (arith, new, low)

pub gone_stays : (range : NumberRange) (event : BookEvent) (before : List Answered) (conn : ℕ) → IsGone range before conn → IsGone range (answered range event before ∷ before) conn
gone_stays range event before conn gone = record {
  given = omega (arith, gone.given, last_grows range (answered range event before) before);
  away = λ in_. stays_away conn (last_number range before) (numbers before) gone.given gone.away (came conn event (told (book_of range before) event) before (last_number range before) (follows event (book_of range before)) in_);
}

-- WHAT AN EXPIRE GIVES UP

over_by : (P : ℕ → Type 0) (n : ℕ) (r : Record) (rest : List (ℕ × Record)) (b : Bool) → (b ≡ true → P n) → AllByRecursion P (map (λ e. e.0) rest) → AllByRecursion P (map (λ e. e.0) (cond b ((n, r) ∷ rest) rest))
over_by P n r rest true here more = (here refl, more)
over_by P n r rest false here more = more

over_all : (P : ℕ → Type 0) (now : ℕ) (before : List Answered) (ns : List ℕ) → ((n : ℕ) → IsIn n ns → is_over now (record_of n before) ≡ true → P n)
    → AllByRecursion P (map (λ (e : ℕ × Record). e.0) (filter (λ e. is_over now e.1) (map (λ n. (n, record_of n before)) ns)))
over_all P now before [] each = tt
over_all P now before (n ∷ ns) each =
    over_by P n (record_of n before) (filter (λ e. is_over now e.1) (map (λ n. (n, record_of n before)) ns)) (is_over now (record_of n before)) (each n (inl refl)) (over_all P now before ns (λ m in_. each m (inr in_)))

not_both : (b : Bool) → b ≡ true → not b ≡ true → ⊥
not_both true is wrong = true≢false (sym wrong)
not_both false is wrong = true≢false (sym is)

given_at : (range : NumberRange) (conn : ℕ) (before : List Answered) → AreGiven range before → IsIn conn (numbers before) → conn ≤ last_number range before
given_at range conn before all in_ = all_some (λ n. (range.after < n) × (n ≤ last_number range before)) (λ n. n ≡ conn) (conn ≤ last_number range before) (numbers before) (λ n h same. subst (λ m. m ≤ last_number range before) same h.1) all in_

-- one that is over at an Expire does not stand after it
gone_now : (range : NumberRange) (now conn : ℕ) (before : List Answered) → AreGiven range before → IsIn conn (numbers before) → is_over now (record_of conn before) ≡ true → IsGone range (answered range (Expire now) before ∷ before) conn
gone_now range now conn before all in_ over = record {
  given = omega (arith, given_at range conn before all in_, last_grows range (answered range (Expire now) before) before);
  away = λ still. all_some (λ n. Unit {0}) (λ n. (n ≡ conn) × (not (is_over now (record_of n before)) ≡ true)) ⊥ (numbers before)
      (λ n _ p. not_both (is_over now (record_of n before)) (ap (λ m. is_over now (record_of m before)) p.0 ∙ over) p.1)
      (all_weaker (λ n. (range.after < n) × (n ≤ last_number range before)) _ (λ n _. tt) (numbers before) all)
      (some_filter (λ n. n ≡ conn) (λ n. not (is_over now (record_of n before))) (numbers before) still);
}

pub expired_gone : (range : NumberRange) (now : ℕ) (before : List Answered) → AreGiven range before
    → AllByRecursion (IsGone range (answered range (Expire now) before ∷ before)) (given_up (told (book_of range before) (Expire now)))
expired_gone range now before all = over_all (IsGone range (answered range (Expire now) before ∷ before)) now before (numbers before) (λ n in_ over. gone_now range now n before all in_ over)

idle_by : (busy : ℕ) (b over : Bool) → (busy == 0) ≡ b → (b && over) ≡ true → busy ≡ 0
idle_by busy true over is both = grind (arith, nat_tests, is)
idle_by busy false over is both = absurd (cc)

pub expired_idle : (range : NumberRange) (now : ℕ) (before : List Answered) → AllByRecursion (λ n. (record_of n before).busy ≡ 0) (given_up (told (book_of range before) (Expire now)))
expired_idle range now before =
    over_all (λ n. (record_of n before).busy ≡ 0) now before (numbers before)
    (λ n _ over. idle_by (record_of n before).busy ((record_of n before).busy == 0) (is_over_by now (record_of n before).standing) refl over)

-- OVER MANY EVENTS, the latest first

pub given_all : (range : NumberRange) (past : List BookEvent) → AreGiven range (decided range past)
given_all range [] = tt
given_all range (event ∷ past) = given_stays range event (decided range past) (given_all range past)

pub rising_all : (range : NumberRange) (past : List BookEvent) → AreRising (numbers (decided range past))
rising_all range [] = tt
rising_all range (event ∷ past) = rising_stays range event (decided range past) (given_all range past) (rising_all range past)

pub bound_all : (range : NumberRange) (past : List BookEvent) → last_number range (decided range past) ≤ max range.after range.last
bound_all range [] = omega arith
bound_all range (event ∷ past) = bound_stays range event (decided range past) (bound_all range past)

pub count_all : (range : NumberRange) (past : List BookEvent) → length (numbers (decided range past)) ≤ MAX_CONNECTIONS
count_all range [] = omega arith
count_all range (event ∷ past) = count_stays range event (decided range past) (count_all range past)

pub last_all : (range : NumberRange) (past more : List BookEvent) → last_number range (decided range past) ≤ last_number range (decided range (more ++ past))
last_all range past [] = omega arith
last_all range past (event ∷ more) =
    let d = decided range (more ++ past) in
    omega (arith, last_all range past more, last_grows range (answered range event d) d)

pub gone_all : (range : NumberRange) (past more : List BookEvent) (conn : ℕ) → IsGone range (decided range past) conn → IsGone range (decided range (more ++ past)) conn
gone_all range past [] conn gone = gone
gone_all range past (event ∷ more) conn gone = gone_stays range event (decided range (more ++ past)) conn (gone_all range past more conn gone)
