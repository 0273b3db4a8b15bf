-- No connection is given to two transports under one generation.
use Rattle.std.proofs.Common.{◌≡◌, inl, inr, ℕ, ◌+◌, ◌≤◌, ◌<◌, Bool, true, false, cond, List, [], ◌∷◌, map, refl, sym, ◌∙◌, ap, subst, arith, length}
use Rattle.std.specs.Prelude.{Option, Some, None, if◌then◌else◌, not, ◌==◌, ◌&&◌, find, ⊤, bytes_eq}
use Rattle.std.specs.List.{AllByRecursion}
use Rattle.std.proofs.lemmas.Bool.Decides.{nat_tests}
use Rattle.rl_numbers.specs.declared.limits.TheConstants.{MAX_RESUMED_GENERATION}
use Rattle.rl_events.specs.declared.book.BookEvent.{BookEvent}
use Rattle.rl_events.specs.declared.book.BookEvent.TheVariants.{Open, Resume, Begin, End, Lost, Close, Expire}
use Rattle.rl_events.specs.declared.book.BookReply.{BookReply}
use Rattle.rl_events.specs.declared.book.BookReply.TheVariants.{Opened, Limit, Resumed, KeyUnknown, Done}
use Rattle.rl_connbook.specs.declared.record.Record.{Record}
use Rattle.rl_connbook.specs.declared.record.Standing.{Standing}
use Rattle.rl_connbook.specs.declared.record.Standing.TheVariants.{Live}
use Rattle.rl_connbook.specs.Records.{Answered, concerns, is_of, story, record_of, generation_of, generation_after, standing_of, standing_after, raised, is_open}
use Rattle.rl_connbook.specs.Book.{Book, book_of, decided, answered, numbers, last_number, told, is_full, key_text, opened, opened_as, resumed, has_key, may_resume}
use Rattle.rl_connbook.specs.Laws.{IsIn}
use Rattle.rl_connbook.proofs.Each.{all_weaker, all_some}
use Rattle.rl_connbook.proofs.History.{last_grows, last_more}
use Rattle.rl_connbook.proofs.Numbers.{AreGiven, given_all}
use Rattle.rl_connbook.proofs.BookLaws.{generation_stays}
use Rattle.rl_worldmodel.specs.World.{the_range}
use Rattle.rl_worldtold.specs.Given.{GivesUnder, AreGenerationsNew, GenerationsAreGivenOnce}
use Rattle.rl_worldtold.proofs.Flights.{IsBegin, told_begin, IsEnding, told_ending}
use Rattle.rl_worldtold.proofs.Given.{of_books}

-- WHAT OPEN AND RESUME ARE TOLD

begin_gives : (conn generation : ℕ) (r : BookReply) → IsBegin r → GivesUnder conn generation r → ⊥
begin_gives conn generation (Opened c g key) is gives = is
begin_gives conn generation (Resumed c g) is gives = is
begin_gives conn generation r is gives = gives

ending_gives : (conn generation : ℕ) (r : BookReply) → IsEnding r → GivesUnder conn generation r → ⊥
ending_gives conn generation (Opened c g key) is gives = is
ending_gives conn generation (Resumed c g) is gives = is
ending_gives conn generation r is gives = gives

-- an Open gives the next number, under the first generation
abbrev IsNew : ℕ → ℕ → ℕ → BookReply → Type 0
IsNew conn generation last reply = (key : List ℕ) × (reply ≡ Opened conn 1 key) × (conn ≡ last + 1) × (1 ≡ generation)

open_by : (b : Bool) (word last count given conn generation : ℕ) → GivesUnder conn generation (if b then Limit count given else opened_as (last + 1) word) → IsNew conn generation last (if b then Limit count given else opened_as (last + 1) word)
open_by true word last count given conn generation gives = absurd gives
open_by false word last count given conn generation gives = (key_text (last + 1) word, ap (λ c. Opened c 1 (key_text (last + 1) word)) gives.0, sym gives.0, gives.1)

open_new : (word conn generation : ℕ) (book : Book) → GivesUnder conn generation (opened word book) → IsNew conn generation book.last_given (opened word book)
open_new word conn generation book gives = open_by (is_full book) word book.last_given (length book.records) book.last_given conn generation gives

-- a Resume gives a connection that stands, and is not closed, under one generation more
abbrev IsBack : ℕ → ℕ → List Answered → BookReply → Type 0
IsBack conn generation before reply =
    (reply ≡ Resumed conn generation) × IsIn conn (numbers before) × (is_open (standing_of (story conn before)) ≡ true)
    × (may_resume (record_of conn before) ≡ true) × (generation ≡ raised (generation_of (story conn before)))

and_right : (a b : Bool) → (a && b) ≡ true → b ≡ true
and_right true b is = is
and_right false b is = absurd (cc)

found_by : (key : List ℕ) (before : List Answered) (n : ℕ) (rest : Option (ℕ × Record)) (ns : List ℕ) (e : ℕ × Record) (b : Bool) → has_key key (n, record_of n before) ≡ b
    → (rest ≡ Some e → IsIn e.0 ns × (record_of e.0 before ≡ e.1) × (is_open (standing_of (story e.0 before)) ≡ true)) → cond b (Some (n, record_of n before)) rest ≡ Some e
    → IsIn e.0 (n ∷ ns) × (record_of e.0 before ≡ e.1) × (is_open (standing_of (story e.0 before)) ≡ true)
found_by key before n rest ns e true is more found =
    let pair : ◌≡◌ {A = ℕ × Record} (n, record_of n before) e = cc in
    let same : n ≡ e.0 = ap (λ (p : ℕ × Record). p.0) pair in
    let open_ : is_open (standing_of (story n before)) ≡ true = and_right (bytes_eq key (record_of n before).key) (is_open (record_of n before).standing) is in (
      inl same,
      ap (λ m. record_of m before) (sym same) ∙ ap (λ (p : ℕ × Record). p.1) pair,
      ap (λ m. is_open (standing_of (story m before))) (sym same) ∙ open_,
    )
found_by key before n rest ns e false is more found = let h = more found in (inr h.0, h.1, h.2)

found_in : (key : List ℕ) (before : List Answered) (ns : List ℕ) (e : ℕ × Record) → find (has_key key) (map (λ n. (n, record_of n before)) ns) ≡ Some e → IsIn e.0 ns × (record_of e.0 before ≡ e.1) × (is_open (standing_of (story e.0 before)) ≡ true)
found_in key before [] e found = absurd (cc)
found_in key before (n ∷ ns) e found = found_by key before n (find (has_key key) (map (λ n. (n, record_of n before)) ns)) ns e (has_key key (n, record_of n before)) refl (found_in key before ns e) found

back_by : (b : Bool) (e : ℕ × Record) (before : List Answered) (conn generation : ℕ) → may_resume e.1 ≡ b → IsIn e.0 (numbers before) × (record_of e.0 before ≡ e.1) × (is_open (standing_of (story e.0 before)) ≡ true)
    → GivesUnder conn generation (if b then Resumed e.0 (raised e.1.generation) else KeyUnknown) → IsBack conn generation before (if b then Resumed e.0 (raised e.1.generation) else KeyUnknown)
back_by true e before conn generation may found gives =
    let here : generation_of (story conn before) ≡ e.1.generation = ap (λ m. generation_of (story m before)) (sym gives.0) ∙ ap (λ (r : Record). r.generation) found.1 in (
      ap (λ c. Resumed c (raised e.1.generation)) gives.0 ∙ ap (λ g. Resumed conn g) gives.1,
      subst (λ m. IsIn m (numbers before)) gives.0 found.0,
      subst (λ m. is_open (standing_of (story m before)) ≡ true) gives.0 found.2,
      subst (λ m. may_resume (record_of m before) ≡ true) gives.0 (ap may_resume found.1 ∙ may),
      sym gives.1 ∙ ap raised (sym here),
    )
back_by false e before conn generation may found gives = absurd gives

back_of : (key : List ℕ) (before : List Answered) (conn generation : ℕ) (o : Option (ℕ × Record)) → find (has_key key) (map (λ n. (n, record_of n before)) (numbers before)) ≡ o → GivesUnder conn generation (resumed o) → IsBack conn generation before (resumed o)
back_of key before conn generation None found gives = absurd gives
back_of key before conn generation (Some e) found gives = back_by (may_resume e.1) e before conn generation refl (found_in key before (numbers before) e found) gives

resume_back : (key : List ℕ) (now conn generation : ℕ) (before : List Answered) → GivesUnder conn generation (told (book_of the_range before) (Resume key now)) → IsBack conn generation before (told (book_of the_range before) (Resume key now))
resume_back key now conn generation before gives = back_of key before conn generation (find (has_key key) (book_of the_range before).records) refl gives

-- A CONNECTION THAT IS NOT CLOSED HAS A GENERATION UP TO THE LAST THAT COMES BACK

abbrev AreLow : List Answered → Type 0
AreLow before = (n : ℕ) → is_open (standing_of (story n before)) ≡ true → generation_of (story n before) ≤ MAX_RESUMED_GENERATION

raised_by : (g : ℕ) → g ≤ MAX_RESUMED_GENERATION → not (g == MAX_RESUMED_GENERATION) ≡ true → (raised g ≡ g + 1) × (raised g ≤ MAX_RESUMED_GENERATION)
raised_by g low other = let less : g < MAX_RESUMED_GENERATION = grind (arith, nat_tests, low, other) in (omega (arith, less), omega (arith, less))

abbrev Allows : BookEvent → ℕ → Type 0
Allows (Resume key now) g = raised g ≤ MAX_RESUMED_GENERATION
Allows event g = ⊤

low_after : (event : BookEvent) (reply : BookReply) (s : Standing) (g : ℕ) → Allows event g → (is_open s ≡ true → g ≤ MAX_RESUMED_GENERATION) → is_open (standing_after event reply s) ≡ true → generation_after event reply s g ≤ MAX_RESUMED_GENERATION
low_after (Open word now) reply s g may low is = omega arith
low_after (Resume key now) reply s g may low is = may
low_after (Lost conn generation now) Done Live g may low is = low refl
low_after (Lost conn generation now) Done s g may low is = low is
low_after (Lost conn generation now) reply s g may low is = low is
low_after (Close conn generation) Done s g may low is = absurd (cc)
low_after (Close conn generation) reply s g may low is = low is
low_after event reply s g may low is = low is

low_by : (b : Bool) (a : Answered) (st : List Answered) → (b ≡ true → Allows a.event (generation_of st)) → (is_open (standing_of st) ≡ true → generation_of st ≤ MAX_RESUMED_GENERATION) → is_open (standing_of (cond b (a ∷ st) st)) ≡ true → generation_of (cond b (a ∷ st) st) ≤ MAX_RESUMED_GENERATION
low_by true a st may low is = low_after a.event a.reply (standing_of st) (generation_of st) (may refl) low is
low_by false a st may low is = low is

same_is : (n conn : ℕ) → (n == conn) ≡ true → n ≡ conn
same_is n conn is = grind (arith, nat_tests)

resumed_gives : (n : ℕ) (key : List ℕ) (now : ℕ) (reply : BookReply) → is_of n (Resume key now) reply ≡ true → (g : ℕ) × GivesUnder n g reply
resumed_gives n key now (Resumed c g) is = (g, (same_is c n is, refl))
resumed_gives n key now reply is = absurd (cc)

allowed : (event : BookEvent) (before : List Answered) (n : ℕ) → AreLow before → concerns n (answered the_range event before) ≡ true → Allows event (generation_of (story n before))
allowed (Resume key now) before n low is =
    let some = resumed_gives n key now (told (book_of the_range before) (Resume key now)) is in
    let back = resume_back key now n some.0 before some.1 in
    (raised_by (generation_of (story n before)) (low n back.2) back.3).1
allowed event before n low is = tt

low_stays : (event : BookEvent) (before : List Answered) → AreLow before → AreLow (answered the_range event before ∷ before)
low_stays event before low n is =
    low_by (concerns n (answered the_range event before)) (answered the_range event before) (story n before) (allowed event before n low) (low n) is

low_all : (past : List BookEvent) → AreLow (decided the_range past)
low_all [] n is = omega arith
low_all (event ∷ past) n is = low_stays event (decided the_range past) (low_all past) n is

-- EACH GENERATION THAT WAS GIVEN IS NOT ABOVE THE CONNECTION'S

abbrev IsNotAbove : List Answered → Answered → Type 0
IsNotAbove before a = (conn generation : ℕ) → GivesUnder conn generation a.reply → (conn ≤ last_number the_range before) × (generation ≤ generation_of (story conn before))

generation_cond : (b : Bool) (a : Answered) (st : List Answered) → b ≡ true → generation_of (cond b (a ∷ st) st) ≡ generation_after a.event a.reply (standing_of st) (generation_of st)
generation_cond true a st is = refl
generation_cond false a st is = absurd (cc)

self_is : (n : ℕ) → (n == n) ≡ true
self_is n = grind (arith, nat_tests)

abbrev made : BookEvent → BookReply → Answered
made event reply = record { event = event; reply = reply }

open_after : (word now conn : ℕ) (key : List ℕ) (before : List Answered) → generation_of (story conn (made (Open word now) (Opened conn 1 key) ∷ before)) ≡ 1
open_after word now conn key before = generation_cond (conn == conn) (made (Open word now) (Opened conn 1 key)) (story conn before) (self_is conn)

resume_after : (key : List ℕ) (now conn generation : ℕ) (before : List Answered) → generation_of (story conn (made (Resume key now) (Resumed conn generation) ∷ before)) ≡ raised (generation_of (story conn before))
resume_after key now conn generation before = generation_cond (conn == conn) (made (Resume key now) (Resumed conn generation)) (story conn before) (self_is conn)

pub standing_given : (conn : ℕ) (before : List Answered) → AreGiven the_range before → IsIn conn (numbers before) → conn ≤ last_number the_range before
standing_given conn before all in_ = all_some (λ n. (the_range.after < n) × (n ≤ last_number the_range before)) (λ n. n ≡ conn) _ (numbers before) (λ n h same. subst (λ m. m ≤ last_number the_range before) same h.1) all in_

-- what one event gives, by what was there before it
record Given (event : BookEvent) (before : List Answered) (conn generation : ℕ) : Type 0 where
  low : conn ≤ last_number the_range (answered the_range event before ∷ before)
  there : generation ≤ generation_of (story conn (answered the_range event before ∷ before))
  above : (earlier : ℕ) → (conn ≤ last_number the_range before) × (earlier ≤ generation_of (story conn before)) → earlier < generation

open_given : (word now conn generation : ℕ) (before : List Answered) → GivesUnder conn generation (told (book_of the_range before) (Open word now)) → Given (Open word now) before conn generation
open_given word now conn generation before gives =
    let new = open_new word conn generation (book_of the_range before) gives in
    let after : generation_of (story conn (answered the_range (Open word now) before ∷ before)) ≡ 1 =
    ap (λ (r : BookReply). generation_of (story conn (made (Open word now) r ∷ before))) new.1 ∙ open_after word now conn new.0 before in
    let last : last_number the_range (answered the_range (Open word now) before ∷ before) ≡ last_number the_range before + 1 =
    ap (λ (r : BookReply). last_number the_range (made (Open word now) r ∷ before)) new.1 ∙ last_more the_range (made (Open word now) (Opened conn 1 new.0)) before refl in
    record {
      low = omega (arith, new.2, last);
      there = omega (arith, new.3, after);
      above = λ earlier h. absurd (omega (arith, h.0, new.2));
    }

resume_given : (key : List ℕ) (now conn generation : ℕ) (before : List Answered) → AreGiven the_range before → AreLow before → GivesUnder conn generation (told (book_of the_range before) (Resume key now)) → Given (Resume key now) before conn generation
resume_given key now conn generation before all low gives =
    let back = resume_back key now conn generation before gives in
    let after : generation_of (story conn (answered the_range (Resume key now) before ∷ before)) ≡ raised (generation_of (story conn before)) =
    ap (λ (r : BookReply). generation_of (story conn (made (Resume key now) r ∷ before))) back.0 ∙ resume_after key now conn generation before in
    let more = raised_by (generation_of (story conn before)) (low conn back.2) back.3 in
    record {
      low = omega (arith, standing_given conn before all back.1, last_grows the_range (answered the_range (Resume key now) before) before);
      there = omega (arith, after, back.4);
      above = λ earlier h. omega (arith, h.1, back.4, more.0);
    }

given_by : (event : BookEvent) (before : List Answered) (conn generation : ℕ) → AreGiven the_range before → AreLow before → GivesUnder conn generation (told (book_of the_range before) event) → Given event before conn generation
given_by (Open word now) before conn generation all low gives = open_given word now conn generation before gives
given_by (Resume key now) before conn generation all low gives = resume_given key now conn generation before all low gives
given_by (Begin c g serial) before conn generation all low gives = absurd (begin_gives conn generation _ (told_begin (book_of the_range before) c g serial) gives)
given_by (End c g serial outcome) before conn generation all low gives = absurd (ending_gives conn generation _ (told_ending (book_of the_range before) c g serial outcome) gives)
given_by (Lost c g now) before conn generation all low gives = absurd (ending_gives conn generation _ (told_ending (book_of the_range before) c g 0 None) gives)
given_by (Close c g) before conn generation all low gives = absurd (ending_gives conn generation _ (told_ending (book_of the_range before) c g 0 None) gives)
given_by (Expire now) before conn generation all low gives = absurd gives

not_above_stays : (event : BookEvent) (before : List Answered) (a : Answered) → IsNotAbove before a → IsNotAbove (answered the_range event before ∷ before) a
not_above_stays event before a h conn generation gives =
    let old = h conn generation gives in
    (omega (arith, old.0, last_grows the_range (answered the_range event before) before), omega (arith, old.1, generation_stays the_range conn event before old.0))

not_above : (past : List BookEvent) → AllByRecursion (IsNotAbove (decided the_range past)) (decided the_range past)
not_above [] = tt
not_above (event ∷ past) = (
  λ conn generation gives. let given = given_by event (decided the_range past) conn generation (given_all the_range past) (low_all past) gives in (given.low, given.there),
  all_weaker _ _ (not_above_stays event (decided the_range past)) (decided the_range past) (not_above past),
)

generations_new : (past : List BookEvent) → AreGenerationsNew (decided the_range past)
generations_new [] = tt
generations_new (event ∷ past) = (
  λ conn generation gives.
      let given = given_by event (decided the_range past) conn generation (given_all the_range past) (low_all past) gives in
      all_weaker _ _ (λ a h earlier was. given.above earlier (h conn earlier was)) (decided the_range past) (not_above past),
  generations_new past,
)

pub generations_are_given_once : GenerationsAreGivenOnce
generations_are_given_once = of_books AreGenerationsNew generations_new
