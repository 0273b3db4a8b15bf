-- One event of the book: numbers that were given up stay away, and a connection with a put in flight stands.
use Rattle.std.proofs.Common.{◌≡◌, inl, inr, ℕ, zero, suc, ◌+◌, ◌-◌, ◌^◌, ◌≤◌, ◌<◌, Bool, true, false, List, [], ◌∷◌, map, refl, sym, ◌∙◌, ap, subst, arith, cond}
use Rattle.std.specs.Prelude.{Option, Some, None, not, ◌==◌, ◌&&◌, if◌then◌else◌, nat_lt, ⊤}
use Rattle.std.specs.List.{AllByRecursion, filter}
use Rattle.std.specs.Map.{lookup}
use Rattle.std.specs.BTreeMap.{is_at}
use Rattle.std.specs.Ordering.{nat_cmp}
use Rattle.std.proofs.lemmas.Bool.Decides.{nat_tests}
use Rattle.rl_events.specs.declared.book.BookEvent.{BookEvent}
use Rattle.rl_events.specs.declared.book.BookEvent.TheVariants.{Open, Resume, Begin, End, Lost, Close, Expire}
use Rattle.rl_events.specs.declared.book.BookReply.{BookReply}
use Rattle.rl_events.specs.declared.book.BookReply.TheVariants.{Opened, Go, Superseded, Done}
use Rattle.rl_events.specs.declared.channel.Outcome.{Outcome}
use Rattle.rl_connbook.specs.declared.record.Record.{Record}
use Rattle.rl_connbook.specs.Records.{Answered, concerns, is_of, story, record_of, busy_of, busy_after, raised, lowered}
use Rattle.rl_connbook.specs.Book.{book_of, numbers, numbers_after, last_number, is_over, is_over_by, told, answered, record_at, at_record, begun}
use Rattle.rl_connbook.specs.Laws.{IsIn}
use Rattle.rl_connbook.proofs.Each.{all_weaker, all_filter, all_some}
use Rattle.rl_connbook.proofs.History.{Follows, follows}
use Rattle.rl_connbook.proofs.Numbers.{IsGone, given_stays, gone_stays, expired_gone}
use Rattle.rl_worldmodel.specs.World.{the_range}
use Rattle.rl_worldmodel.specs.Services.{given_up}
use Rattle.rl_worldtold.specs.Orders.{one, IsSpent, AreWithin, Counts, IsHolding}
use Rattle.rl_worldtold.proofs.Shape.{all_both, all_map, some_append, filter_some}

-- A NUMBER THAT WAS GIVEN UP STAYS AWAY

pub spent_stays : (event : BookEvent) (book : List Answered) (conn : ℕ) → IsSpent book conn → IsSpent (answered the_range event book ∷ book) conn
spent_stays event book conn spent =
    let gone : IsGone the_range (answered the_range event book ∷ book) conn = gone_stays the_range event book conn (record { given = spent.given; away = spent.away }) in
    record { real = spent.real; given = gone.given; away = gone.away }

over_numbers : (now : ℕ) (book : List Answered) → AreWithin book → AllByRecursion (λ n. 1 ≤ n) (given_up (told (book_of the_range book) (Expire now)))
over_numbers now book within =
    all_map (λ n. 1 ≤ n) (λ (e : ℕ × Record). e.0) (filter (λ (e : ℕ × Record). is_over now e.1) (map (λ n. (n, record_of n book)) (numbers book)))
    (all_filter (λ (e : ℕ × Record). 1 ≤ e.0) (λ (e : ℕ × Record). is_over now e.1) (map (λ n. (n, record_of n book)) (numbers book))
    (all_map (λ (e : ℕ × Record). 1 ≤ e.0) (λ n. (n, record_of n book)) (numbers book) (all_weaker _ _ (λ n h. omega (arith, h.0)) (numbers book) within)))

-- those that an Expire gives up are spent
pub expired_spent : (now : ℕ) (book : List Answered) → AreWithin book → AllByRecursion (IsSpent (answered the_range (Expire now) book ∷ book)) (given_up (told (book_of the_range book) (Expire now)))
expired_spent now book within =
    let numbers_ = given_up (told (book_of the_range book) (Expire now)) in
    all_weaker _ (IsSpent (answered the_range (Expire now) book ∷ book)) (λ n h. record { real = h.0; given = h.1.given; away = h.1.away }) numbers_
    (all_both (λ n. 1 ≤ n) (IsGone the_range (answered the_range (Expire now) book ∷ book)) numbers_ (over_numbers now book within) (expired_gone the_range now book within))

-- A NUMBER THAT STANDS GOES ON TO STAND, but where it is over at an Expire

abbrev pub Lasts : BookEvent → List Answered → ℕ → Type 0
Lasts (Expire now) before conn = is_over now (record_of conn before) ≡ false
Lasts event before conn = ⊤

stands_by : (conn : ℕ) (event : BookEvent) (reply : BookReply) (before : List Answered) → Lasts event before conn → IsIn conn (numbers before) → IsIn conn (numbers_after event reply before (numbers before))
stands_by conn (Open word now) (Opened n generation key) before lasts in_ = some_append _ (numbers before) (n ∷ []) in_
stands_by conn (Open word now) reply before lasts in_ = in_
stands_by conn (Expire now) reply before lasts in_ =
    filter_some (λ n. n ≡ conn) (λ n. not (is_over now (record_of n before))) (numbers before) (λ n same. ap (λ m. not (is_over now (record_of m before))) same ∙ ap not lasts) in_
stands_by conn event reply before lasts in_ = in_

pub stands_on : (conn : ℕ) (event : BookEvent) (book : List Answered) → Lasts event book conn → IsIn conn (numbers book) → IsIn conn (numbers (answered the_range event book ∷ book))
stands_on conn event book lasts in_ = stands_by conn event (told (book_of the_range book) event) book lasts in_

pub within_at : (conn : ℕ) (book : List Answered) → AreWithin book → IsIn conn (numbers book) → conn ≤ last_number the_range book
within_at conn book all in_ = all_some (λ n. (the_range.after < n) × (n ≤ last_number the_range book)) (λ n. n ≡ conn) _ (numbers book) (λ n h same. subst (λ m. m ≤ last_number the_range book) same h.1) all in_

-- BUSY COUNTS

busy_cond : (b : Bool) (a : Answered) (s : List Answered) → busy_of (cond b (a ∷ s) s) ≡ cond b (busy_after a.event a.reply (busy_of s)) (busy_of s)
busy_cond true a s = refl
busy_cond false a s = refl

busy_step : (conn : ℕ) (a : Answered) (before : List Answered) → busy_of (story conn (a ∷ before)) ≡ cond (concerns conn a) (busy_after a.event a.reply (busy_of (story conn before))) (busy_of (story conn before))
busy_step conn a before = busy_cond (concerns conn a) a (story conn before)

counts_raised : (flights more busy : ℕ) → more ≤ flights + 1 → Counts flights busy → Counts more (raised busy)
counts_raised flights more busy least h = λ small. let low : flights ≤ busy = h (omega (arith, small)) in omega (arith, small, least, low)

lowered_by : (b : Bool) (flights more busy : ℕ) → nat_lt busy (2 ^ 64 - 1) ≡ b → more + 1 ≤ flights → Counts flights busy → Counts more (if b then busy - 1 else busy)
lowered_by true flights more busy is least h = λ small. let less : busy < 2 ^ 64 - 1 = grind (arith, nat_tests, is) in let low : flights ≤ busy = h less in omega (arith, low, least)
lowered_by false flights more busy is least h = λ small. let low : flights ≤ busy = h small in omega (arith, low, least)

counts_lowered : (flights more busy : ℕ) → more + 1 ≤ flights → Counts flights busy → Counts more (lowered busy)
counts_lowered flights more busy least h = lowered_by (nat_lt busy (2 ^ 64 - 1)) flights more busy refl least h

counts_less : (flights less busy : ℕ) → less ≤ flights → Counts flights busy → Counts less busy
counts_less flights less busy least h = λ small. omega (arith, least, h small)

-- a put in flight makes the connection busy
is_busy : (flights busy : ℕ) → 1 ≤ flights → Counts flights busy → (busy == 0) ≡ false
is_busy flights zero some h = let none : flights ≤ 0 = h (omega arith) in absurd (omega (arith, none, some))
is_busy flights (suc n) some h = grind (arith, nat_tests)

-- ONE EVENT

counts_cond : (b : Bool) (flights more busy after : ℕ) → (b ≡ true → Counts flights busy → Counts more after) → (b ≡ false → more ≤ flights) → Counts flights busy → Counts more (cond b after busy)
counts_cond true flights more busy after here there h = here refl h
counts_cond false flights more busy after here there h = counts_less flights more busy (there refl) h

-- the puts in flight after an event: those of one connection may rise by one where a Begin is answered Go, and fall by
-- one by an End
abbrev pub May : BookEvent → BookReply → (ℕ → ℕ) → (ℕ → ℕ) → Type 0
May (Begin n generation serial) Go flights more = (conn : ℕ) → more conn ≤ flights conn + one conn (Some n)
May (End n generation serial outcome) reply flights more = (conn : ℕ) → more conn + one conn (Some n) ≤ flights conn
May event reply flights more = (conn : ℕ) → more conn ≤ flights conn

same_is : (n conn : ℕ) → (n == conn) ≡ true → n ≡ conn
same_is n conn is = grind (arith, nat_tests)

one_here : (n conn : ℕ) → (n == conn) ≡ true → one conn (Some n) ≡ 1
one_here n conn is = ap (λ (b : Bool). if b then 1 else 0) is

one_there : (n conn : ℕ) → (n == conn) ≡ false → one conn (Some n) ≡ 0
one_there n conn is = ap (λ (b : Bool). if b then 1 else 0) is

-- the next number has no put in flight
new_none : (conn n given fl more : ℕ) → n ≡ given + 1 → n ≡ conn → (1 ≤ fl → conn ≤ given) → more ≤ fl → more ≤ 0
new_none conn n given zero more is same low least = least
new_none conn n given (suc k) more is same low least = let below : conn ≤ given = low (omega arith) in absurd (omega (arith, is, same, below))

busy_open : (word now conn : ℕ) (r : BookReply) (given fl more busy : ℕ) → Follows (Open word now) r given → (1 ≤ fl → conn ≤ given) → more ≤ fl → Counts fl busy
    → Counts more (cond (is_of conn (Open word now) r) (busy_after (Open word now) r busy) busy)
busy_open word now conn (Opened n generation key) given fl more busy is low least h =
    counts_cond (n == conn) fl more busy 0 (λ same _ _. new_none conn n given fl more is (same_is n conn same) low least) (λ _. least) h
busy_open word now conn r given fl more busy is low least h = counts_less fl more busy least h

busy_resume : (key : List ℕ) (now conn : ℕ) (r : BookReply) (fl more busy : ℕ) → more ≤ fl → Counts fl busy → Counts more (cond (is_of conn (Resume key now) r) busy busy)
busy_resume key now conn r fl more busy least h = counts_cond (is_of conn (Resume key now) r) fl more busy busy (λ _ c. counts_less fl more busy least c) (λ _. least) h

busy_begin : (n generation serial conn : ℕ) (r : BookReply) (fl more busy : ℕ → ℕ) → May (Begin n generation serial) r fl more → Counts (fl conn) (busy conn)
    → Counts (more conn) (cond (n == conn) (busy_after (Begin n generation serial) r (busy conn)) (busy conn))
busy_begin n generation serial conn Go fl more busy may h =
    counts_cond (n == conn) (fl conn) (more conn) (busy conn) (raised (busy conn))
    (λ same c. counts_raised (fl conn) (more conn) (busy conn) (omega (arith, may conn, one_here n conn same)) c)
    (λ there. omega (arith, may conn, one_there n conn there)) h
busy_begin n generation serial conn r fl more busy may h =
    counts_cond (n == conn) (fl conn) (more conn) (busy conn) (busy conn) (λ _ c. counts_less (fl conn) (more conn) (busy conn) (may conn) c) (λ _. may conn) h

busy_end : (n generation serial : ℕ) (outcome : Option Outcome) (conn : ℕ) (r : BookReply) (fl more busy : ℕ → ℕ) → ((conn : ℕ) → more conn + one conn (Some n) ≤ fl conn) → Counts (fl conn) (busy conn)
    → Counts (more conn) (cond (n == conn) (busy_after (End n generation serial outcome) r (busy conn)) (busy conn))
busy_end n generation serial outcome conn Done fl more busy may h =
    counts_cond (n == conn) (fl conn) (more conn) (busy conn) (lowered (busy conn))
    (λ same c. counts_lowered (fl conn) (more conn) (busy conn) (omega (arith, may conn, one_here n conn same)) c)
    (λ there. omega (arith, may conn)) h
busy_end n generation serial outcome conn (Superseded newer) fl more busy may h =
    counts_cond (n == conn) (fl conn) (more conn) (busy conn) (lowered (busy conn))
    (λ same c. counts_lowered (fl conn) (more conn) (busy conn) (omega (arith, may conn, one_here n conn same)) c)
    (λ there. omega (arith, may conn)) h
busy_end n generation serial outcome conn r fl more busy may h =
    counts_cond (n == conn) (fl conn) (more conn) (busy conn) (busy conn) (λ _ c. counts_less (fl conn) (more conn) (busy conn) (omega (arith, may conn)) c) (λ _. omega (arith, may conn)) h

busy_any : (event : BookEvent) (r : BookReply) (conn given : ℕ) (fl more busy : ℕ → ℕ) → Follows event r given → (1 ≤ fl conn → conn ≤ given) → May event r fl more → Counts (fl conn) (busy conn)
    → Counts (more conn) (cond (is_of conn event r) (busy_after event r (busy conn)) (busy conn))
busy_any (Open word now) r conn given fl more busy is low may h = busy_open word now conn r given (fl conn) (more conn) (busy conn) is low (may conn) h
busy_any (Resume key now) r conn given fl more busy is low may h = busy_resume key now conn r (fl conn) (more conn) (busy conn) (may conn) h
busy_any (Begin n generation serial) r conn given fl more busy is low may h = busy_begin n generation serial conn r fl more busy may h
busy_any (End n generation serial outcome) r conn given fl more busy is low may h = busy_end n generation serial outcome conn r fl more busy may h
busy_any (Lost n generation now) r conn given fl more busy is low may h =
    counts_cond (n == conn) (fl conn) (more conn) (busy conn) (busy conn) (λ _ c. counts_less (fl conn) (more conn) (busy conn) (may conn) c) (λ _. may conn) h
busy_any (Close n generation) r conn given fl more busy is low may h =
    counts_cond (n == conn) (fl conn) (more conn) (busy conn) (busy conn) (λ _ c. counts_less (fl conn) (more conn) (busy conn) (may conn) c) (λ _. may conn) h
busy_any (Expire now) r conn given fl more busy is low may h = counts_less (fl conn) (more conn) (busy conn) (may conn) h

-- A RECORD THAT IS FOUND STANDS

found_by : (conn n : ℕ) (before : List Answered) (ns : List ℕ) (r : Record) (b : Bool) → is_at (nat_cmp conn) n ≡ b → (lookup (is_at (nat_cmp conn)) (map (λ n. (n, record_of n before)) ns) ≡ Some r → IsIn conn ns)
    → cond b (Some (record_of n before)) (lookup (is_at (nat_cmp conn)) (map (λ n. (n, record_of n before)) ns)) ≡ Some r → IsIn conn (n ∷ ns)
found_by conn n before ns r true is more found = let same : n ≡ conn = grind (arith, nat_tests, is) in inl same
found_by conn n before ns r false is more found = inr (more found)

found_in : (conn : ℕ) (before : List Answered) (ns : List ℕ) (r : Record) → lookup (is_at (nat_cmp conn)) (map (λ n. (n, record_of n before)) ns) ≡ Some r → IsIn conn ns
found_in conn before [] r found = absurd (cc)
found_in conn before (n ∷ ns) r found = found_by conn n before ns r (is_at (nat_cmp conn) n) refl (found_in conn before ns r) found

some_record : (generation : ℕ) (reply : Record → BookReply) (o : Option Record) → at_record generation reply o ≡ Go → (r : Record) × (o ≡ Some r)
some_record generation reply None is = absurd (cc)
some_record generation reply (Some r) is = (r, refl)

begun_stands : (conn generation serial : ℕ) (book : List Answered) → told (book_of the_range book) (Begin conn generation serial) ≡ Go → IsIn conn (numbers book)
begun_stands conn generation serial book is =
    let some = some_record generation (begun serial) (record_at conn (book_of the_range book)) is in
    found_in conn book (numbers book) some.0 some.1

-- ONE EVENT KEEPS THAT CONNECTIONS WITH PUTS IN FLIGHT STAND

stands_begin : (n generation serial conn : ℕ) (r : BookReply) (fl more : ℕ → ℕ) (In : ℕ → Type 0) → May (Begin n generation serial) r fl more → (r ≡ Go → In n) → (1 ≤ fl conn → In conn) → 1 ≤ more conn → In conn
stands_begin n generation serial conn Go fl more In may here old some = stands_or (n == conn) refl
  where
    stands_or : (b : Bool) → (n == conn) ≡ b → In conn
    stands_or true same = subst In (same_is n conn same) (here refl)
    stands_or false there = old (omega (arith, some, may conn, one_there n conn there))
stands_begin n generation serial conn r fl more In may here old some = old (omega (arith, some, may conn))

stood : (event : BookEvent) (book : List Answered) (conn : ℕ) (fl more : ℕ → ℕ) → May event (told (book_of the_range book) event) fl more → IsHolding book fl → 1 ≤ more conn → IsIn conn (numbers book)
stood (Begin n generation serial) book conn fl more may h some =
    stands_begin n generation serial conn (told (book_of the_range book) (Begin n generation serial)) fl more (λ m. IsIn m (numbers book)) may (begun_stands n generation serial book) (h.standing conn) some
stood (End n generation serial outcome) book conn fl more may h some = h.standing conn (omega (arith, some, may conn))
stood (Open word now) book conn fl more may h some = h.standing conn (omega (arith, some, may conn))
stood (Resume key now) book conn fl more may h some = h.standing conn (omega (arith, some, may conn))
stood (Lost n generation now) book conn fl more may h some = h.standing conn (omega (arith, some, may conn))
stood (Close n generation) book conn fl more may h some = h.standing conn (omega (arith, some, may conn))
stood (Expire now) book conn fl more may h some = h.standing conn (omega (arith, some, may conn))

and_false : (a b : Bool) → a ≡ false → (a && b) ≡ false
and_false true b is = absurd (cc)
and_false false b is = refl

lasts : (event : BookEvent) (book : List Answered) (conn : ℕ) (fl more : ℕ → ℕ) → May event (told (book_of the_range book) event) fl more → IsHolding book fl → 1 ≤ more conn → Lasts event book conn
lasts (Begin n generation serial) book conn fl more may h some = tt
lasts (End n generation serial outcome) book conn fl more may h some = tt
lasts (Open word now) book conn fl more may h some = tt
lasts (Resume key now) book conn fl more may h some = tt
lasts (Lost n generation now) book conn fl more may h some = tt
lasts (Close n generation) book conn fl more may h some = tt
lasts (Expire now) book conn fl more may h some =
    and_false (busy_of (story conn book) == 0) (is_over_by now (record_of conn book).standing) (is_busy (fl conn) (busy_of (story conn book)) (omega (arith, some, may conn)) (h.busy conn))

pub holding_on : (event : BookEvent) (book : List Answered) (fl more : ℕ → ℕ) → May event (told (book_of the_range book) event) fl more → IsHolding book fl → IsHolding (answered the_range event book ∷ book) more
holding_on event book fl more may h = record {
  within = given_stays the_range event book h.within;
  standing = λ conn some. stands_on conn event book (lasts event book conn fl more may h some) (stood event book conn fl more may h some);
  busy = λ conn. subst (Counts (more conn)) (sym (busy_step conn (answered the_range event book) book))
      (busy_any event (told (book_of the_range book) event) conn (last_number the_range book) fl more (λ c. busy_of (story c book)) (follows event (book_of the_range book)) (λ some. within_at conn book h.within (h.standing conn some)) may (h.busy conn));
}

pub holding_less : (book : List Answered) (fl less : ℕ → ℕ) → ((conn : ℕ) → less conn ≤ fl conn) → IsHolding book fl → IsHolding book less
holding_less book fl less least h = record {
  within = h.within;
  standing = λ conn some. h.standing conn (omega (arith, some, least conn));
  busy = λ conn. counts_less (fl conn) (less conn) (busy_of (story conn book)) (least conn) (h.busy conn);
}
