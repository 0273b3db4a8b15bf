-- What one more event makes of the book after a history.
use Rattle.std.proofs.Common.{◌≡◌, ℕ, ◌+◌, ◌≤◌, Bool, true, false, cond, List, [], ◌∷◌, ◌++◌, length, reverse, map, refl, ap, sym, ◌∙◌, arith}
use Rattle.std.specs.Prelude.{not, ◌==◌, if◌then◌else◌}
use Rattle.std.specs.List.{AllByRecursion, filter}
use Rattle.std.proofs.lemmas.List.{reverse-append}
use Rattle.std.proofs.lemmas.Bool.Decides.{nat_tests}
use Rattle.rl_events.specs.declared.book.BookEvent.{BookEvent}
use Rattle.rl_events.specs.declared.book.BookEvent.TheVariants.{Open, Resume, Begin, End, Lost, Close, Expire}
use Rattle.rl_events.specs.declared.book.BookReply.{BookReply}
use Rattle.rl_events.specs.declared.book.BookReply.TheVariants.{Opened, Limit}
use Rattle.rl_connbook.specs.declared.range.NumberRange.{NumberRange}
use Rattle.rl_connbook.specs.declared.record.Record.{Record}
use Rattle.rl_connbook.specs.Records.{Answered, concerns, story, record_of, record_of_story}
use Rattle.rl_connbook.specs.Book.{Book, book_of, numbers, numbers_after, last_number, is_opened, is_over, told, answered, decided, book_after, is_full, opened_as}
use Rattle.rl_connbook.specs.Steps.{after, record_after, entry_after, records_after, new_record}

-- ONE RECORD

step_by : (b : Bool) (a : Answered) (s : List Answered) → record_of_story (cond b (a ∷ s) s) ≡ cond b (record_after a.event a.reply (record_of_story s)) (record_of_story s)
step_by true a s = refl
step_by false a s = refl

record_step : (n : ℕ) (a : Answered) (before : List Answered) → record_of n (a ∷ before) ≡ cond (concerns n a) (record_after a.event a.reply (record_of n before)) (record_of n before)
record_step n a before = step_by (concerns n a) a (story n before)

record_same : (n : ℕ) (a : Answered) (before : List Answered) → concerns n a ≡ false → record_of n (a ∷ before) ≡ record_of n before
record_same n a before h = record_step n a before ∙ ap (λ (b : Bool). cond b (record_after a.event a.reply (record_of n before)) (record_of n before)) h

record_new : (n : ℕ) (a : Answered) (before : List Answered) → concerns n a ≡ true → record_of n (a ∷ before) ≡ record_after a.event a.reply (record_of n before)
record_new n a before h = record_step n a before ∙ ap (λ (b : Bool). cond b (record_after a.event a.reply (record_of n before)) (record_of n before)) h

-- ALL RECORDS

abbrev records_of : List Answered → List ℕ → List (ℕ × Record)
records_of before ns = map (λ n. (n, record_of n before)) ns

mapped : (a : Answered) (before : List Answered) (ns : List ℕ) → records_of (a ∷ before) ns ≡ map (entry_after a.event a.reply) (records_of before ns)
mapped a before [] = refl
mapped a before (n ∷ ns) =
    ap (λ (r : Record). (n, r) ∷ records_of (a ∷ before) ns) (record_step n a before)
    ∙ ap (λ (es : List (ℕ × Record)). (n, cond (concerns n a) (record_after a.event a.reply (record_of n before)) (record_of n before)) ∷ es) (mapped a before ns)

kept_by : (now n : ℕ) (b : Bool) (before : List Answered) (ns : List ℕ) (es : List (ℕ × Record)) → records_of before ns ≡ es → records_of before (cond b (n ∷ ns) ns) ≡ cond b ((n, record_of n before) ∷ es) es
kept_by now n true before ns es same = ap (λ (rest : List (ℕ × Record)). (n, record_of n before) ∷ rest) same
kept_by now n false before ns es same = same

kept : (now : ℕ) (before : List Answered) (ns : List ℕ) → records_of before (filter (λ n. not (is_over now (record_of n before))) ns) ≡ filter (λ e. not (is_over now e.1)) (records_of before ns)
kept now before [] = refl
kept now before (n ∷ ns) = kept_by now n (not (is_over now (record_of n before))) before _ _ (kept now before ns)

expired_same : (now : ℕ) (reply : BookReply) (before : List Answered) (ns : List ℕ) → records_of (record { event = Expire now; reply = reply } ∷ before) ns ≡ records_of before ns
expired_same now reply before [] = refl
expired_same now reply before (n ∷ ns) = ap (λ (rest : List (ℕ × Record)). (n, record_of n before) ∷ rest) (expired_same now reply before ns)

other : (conn n last : ℕ) → n ≤ last → conn ≡ last + 1 → (conn == n) ≡ false
other conn n last h is = grind (arith, nat_tests)

opened_same : (word now conn generation last : ℕ) (key : List ℕ) (before : List Answered) (ns : List ℕ) → conn ≡ last + 1 → AllByRecursion (λ n. n ≤ last) ns → records_of (record { event = Open word now; reply = Opened conn generation key } ∷ before) ns ≡ records_of before ns
opened_same word now conn generation last key before [] is below = refl
opened_same word now conn generation last key before (n ∷ ns) is below =
    let a : Answered = record { event = Open word now; reply = Opened conn generation key } in
    ap (λ (r : Record). (n, r) ∷ records_of (a ∷ before) ns) (record_same n a before (other conn n last below.0 is))
    ∙ ap (λ (rest : List (ℕ × Record)). (n, record_of n before) ∷ rest) (opened_same word now conn generation last key before ns is below.1)

map_append : {A B : Type 0} (f : A → B) (xs ys : List A) → map f (xs ++ ys) ≡ map f xs ++ map f ys
map_append f [] ys = refl
map_append f (x ∷ xs) ys = ap (λ (zs : List _). f x ∷ zs) (map_append f xs ys)

self_same : (n : ℕ) → (n == n) ≡ true
self_same n = grind (arith, nat_tests)

opened_more : (word now conn generation last : ℕ) (key : List ℕ) (before : List Answered) (ns : List ℕ) → conn ≡ last + 1 → AllByRecursion (λ n. n ≤ last) ns → records_of (record { event = Open word now; reply = Opened conn generation key } ∷ before) (ns ++ conn ∷ []) ≡ records_of before ns ++ (conn, new_record key) ∷ []
opened_more word now conn generation last key before ns is below =
    let a : Answered = record { event = Open word now; reply = Opened conn generation key } in
    map_append (λ n. (n, record_of n (a ∷ before))) ns (conn ∷ [])
    ∙ ap (λ (es : List (ℕ × Record)). es ++ (conn, record_of conn (a ∷ before)) ∷ []) (opened_same word now conn generation last key before ns is below)
    ∙ ap (λ (r : Record). records_of before ns ++ (conn, r) ∷ []) (record_new conn a before (self_same conn))

-- what an Opened says is the next number
abbrev pub Follows : BookEvent → BookReply → ℕ → Type 0
Follows (Open word now) (Opened conn generation key) last = conn ≡ last + 1
Follows event reply last = Unit {0}

stay : (event : BookEvent) (reply : BookReply) (before : List Answered) → records_of (record { event = event; reply = reply } ∷ before) (numbers before) ≡ map (entry_after event reply) (records_of before (numbers before))
stay event reply before = mapped (record { event = event; reply = reply }) before (numbers before)

records_step : (event : BookEvent) (reply : BookReply) (before : List Answered) (last : ℕ) → Follows event reply last → AllByRecursion (λ n. n ≤ last) (numbers before) → records_of (record { event = event; reply = reply } ∷ before) (numbers_after event reply before (numbers before)) ≡ records_after event reply (records_of before (numbers before))
records_step (Open word now) (Opened conn generation key) before last is below = opened_more word now conn generation last key before (numbers before) is below
records_step (Open word now) reply before last is below = stay (Open word now) reply before
records_step (Expire now) reply before last is below = expired_same now reply before (numbers_after (Expire now) reply before (numbers before)) ∙ kept now before (numbers before)
records_step event reply before last is below = stay event reply before

last_by : (after : ℕ) (b : Bool) (a : Answered) (s : List Answered) → after + length (cond b (a ∷ s) s) ≡ cond b (after + length s + 1) (after + length s)
last_by after true a s = omega arith
last_by after false a s = refl

pub last_step : (range : NumberRange) (a : Answered) (before : List Answered) → last_number range (a ∷ before) ≡ cond (is_opened a.reply) (last_number range before + 1) (last_number range before)
last_step range a before = last_by range.after (is_opened a.reply) a _

pub last_more : (range : NumberRange) (a : Answered) (before : List Answered) → is_opened a.reply ≡ true → last_number range (a ∷ before) ≡ last_number range before + 1
last_more range a before opened = last_step range a before ∙ ap (λ (b : Bool). cond b (last_number range before + 1) (last_number range before)) opened

-- THE NUMBERS

grows_by : (b : Bool) (last : ℕ) → last ≤ cond b (last + 1) last
grows_by true last = omega arith
grows_by false last = omega arith

pub last_grows : (range : NumberRange) (a : Answered) (before : List Answered) → last_number range before ≤ last_number range (a ∷ before)
last_grows range a before = rw (last_step range a before) (grows_by (is_opened a.reply) (last_number range before))

pub all_below : (m k : ℕ) (ns : List ℕ) → m ≤ k → AllByRecursion (λ n. n ≤ m) ns → AllByRecursion (λ n. n ≤ k) ns
all_below m k [] h all = tt
all_below m k (n ∷ ns) h all = (omega (arith, all.0, h), all_below m k ns h all.1)

all_more : (k n : ℕ) (ns : List ℕ) → n ≤ k → AllByRecursion (λ n. n ≤ k) ns → AllByRecursion (λ n. n ≤ k) (ns ++ n ∷ [])
all_more k n [] h all = (h, tt)
all_more k n (m ∷ ns) h all = (all.0, all_more k n ns h all.1)

all_kept_by : (k n : ℕ) (ns ms : List ℕ) (b : Bool) → n ≤ k → AllByRecursion (λ n. n ≤ k) ms → AllByRecursion (λ n. n ≤ k) (cond b (n ∷ ms) ms)
all_kept_by k n ns ms true h all = (h, all)
all_kept_by k n ns ms false h all = all

all_kept : (k : ℕ) (test : ℕ → Bool) (ns : List ℕ) → AllByRecursion (λ n. n ≤ k) ns → AllByRecursion (λ n. n ≤ k) (filter test ns)
all_kept k test [] all = tt
all_kept k test (n ∷ ns) all = all_kept_by k n ns (filter test ns) (test n) all.0 (all_kept k test ns all.1)

below_step : (event : BookEvent) (reply : BookReply) (before : List Answered) (last more : ℕ) → Follows event reply last → (is_opened reply ≡ true → more ≡ last + 1) → AllByRecursion (λ n. n ≤ more) (numbers before) → AllByRecursion (λ n. n ≤ more) (numbers_after event reply before (numbers before))
below_step (Open word now) (Opened conn generation key) before last more is up all = all_more more conn (numbers before) (omega (arith, up refl, is)) all
below_step (Open word now) reply before last more is up all = all
below_step (Expire now) reply before last more is up all = all_kept more (λ n. not (is_over now (record_of n before))) (numbers before) all
below_step event reply before last more is up all = all

follows_by : (word now last count given : ℕ) (b : Bool) → Follows (Open word now) (if b then Limit count given else opened_as (last + 1) word) last
follows_by word now last count given true = tt
follows_by word now last count given false = refl

pub follows : (event : BookEvent) (book : Book) → Follows event (told book event) book.last_given
follows (Open word now) book = follows_by word now book.last_given (length book.records) book.last_given (is_full book)
follows (Resume key now) book = tt
follows (Begin conn generation serial) book = tt
follows (End conn generation serial outcome) book = tt
follows (Lost conn generation now) book = tt
follows (Close conn generation) book = tt
follows (Expire now) book = tt

numbers_below : (range : NumberRange) (past : List BookEvent) → AllByRecursion (λ n. n ≤ last_number range (decided range past)) (numbers (decided range past))
numbers_below range [] = tt
numbers_below range (event ∷ past) =
    let d = decided range past in
    let a = answered range event d in
    let more = last_number range (a ∷ d) in
    below_step event a.reply d (last_number range d) more (follows event (book_of range d)) (last_more range a d) (all_below (last_number range d) more (numbers d) (last_grows range a d) (numbers_below range past))

-- THE BOOK

book_step : (range : NumberRange) (past : List BookEvent) (event : BookEvent) → book_of range (decided range (event ∷ past)) ≡ after (book_of range (decided range past)) event
book_step range past event =
    let d = decided range past in
    let a = answered range event d in
    let made : List (ℕ × Record) = records_of (a ∷ d) (numbers (a ∷ d)) in
    let same : made ≡ records_after event a.reply (records_of d (numbers d)) = records_step event a.reply d (last_number range d) (follows event (book_of range d)) (numbers_below range past) in
    ap (λ (last : ℕ). record { range = range; last_given = last; records = made }) (last_step range a d)
    ∙ ap (λ (es : List (ℕ × Record)). record { range = range; last_given = cond (is_opened a.reply) (last_number range d + 1) (last_number range d); records = es }) same

one_more : (range : NumberRange) (past : List BookEvent) (event : BookEvent) → book_after range (past ++ event ∷ []) ≡ after (book_after range past) event
one_more range past event = ap (λ (events : List BookEvent). book_of range (decided range events)) (reverse-append past (event ∷ [])) ∙ book_step range (reverse past) event

-- a book that stands for a history stands for it with one more event after it
pub stands_more : (old new : Book) (past : List BookEvent) (event : BookEvent) → old ≡ book_after old.range past → new ≡ after old event → new ≡ book_after new.range (past ++ event ∷ [])
stands_more old new past event stands is =
    let same : new.range ≡ old.range = ap (λ (b : Book). b.range) is in
    is
    ∙ ap (λ (b : Book). after b event) stands
    ∙ sym (one_more old.range past event)
    ∙ ap (λ (range : NumberRange). book_after range (past ++ event ∷ [])) (sym same)
