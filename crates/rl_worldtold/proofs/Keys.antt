-- A connection's key begins with its id, and no two connections have one id.
use Rattle.std.proofs.Common.{◌≡◌, inl, inr, ℕ, zero, suc, ◌+◌, ◌^◌, ◌/◌, ◌%◌, ◌≤◌, ◌<◌, Bool, true, false, List, [], ◌∷◌, ◌++◌, length, map, refl, sym, ◌∙◌, ap, subst, arith, cond, mod-lt}
use Rattle.std.specs.Prelude.{Option, Some, None, ◌==◌, if◌then◌else◌, find, ⊤, bytes_eq, ◌&&◌, not}
use Rattle.std.specs.List.{AllByRecursion}
use Rattle.std.proofs.lemmas.Bool.Decides.{nat_tests}
use Rattle.rl_numbers.specs.declared.limits.TheConstants.{MAX_CONNECTION}
use Rattle.rl_base.specs.Digits.{fixed_text, digit_glyph}
use Rattle.rl_ids.specs.Forms.{conn_text}
use Rattle.rl_events.specs.declared.book.BookEvent.{BookEvent}
use Rattle.rl_events.specs.declared.book.BookEvent.TheVariants.{Open, Resume, Begin, End, Lost, Close, Expire}
use Rattle.rl_events.specs.declared.book.BookReply.{BookReply}
use Rattle.rl_events.specs.declared.book.BookReply.TheVariants.{Opened, Limit, Resumed, KeyUnknown}
use Rattle.rl_connbook.specs.declared.record.Record.{Record}
use Rattle.rl_connbook.specs.Records.{Answered, is_of, story, record_of, key_of, key_after, is_open, raised}
use Rattle.rl_connbook.specs.Book.{book_of, decided, told, answered, numbers, numbers_after, last_number, key_text, has_key, resumed, may_resume, is_full, opened_as, is_over}
use Rattle.rl_connbook.specs.Laws.{IsIn}
use Rattle.rl_connbook.proofs.Each.{all_weaker, all_append, all_filter}
use Rattle.rl_connbook.proofs.Numbers.{AreGiven, given_all}
use Rattle.rl_connbook.proofs.Opening.{room_left}
use Rattle.rl_clientmodel.specs.Keys.{before_mark}
use Rattle.rl_worldmodel.specs.World.{the_range}
use Rattle.rl_worldtold.specs.Given.{events_of, IsDecided}
use Rattle.rl_worldtold.proofs.Shape.{same_bytes}
use Rattle.rl_worldtold.proofs.Flights.{IsBegin, told_begin, IsEnding, told_ending}
use Rattle.rl_worldtold.proofs.Generations.{standing_given}

-- TEXTS

abbrev IsPlain : ℕ → Type 0
IsPlain c = (c == 33) ≡ false

glyph_plain : (d : ℕ) → d < 16 → IsPlain (digit_glyph d)
glyph_plain d small = grind (arith, nat_tests, small)

fixed_plain : (k n : ℕ) → AllByRecursion IsPlain (fixed_text 16 k n)
fixed_plain zero n = tt
fixed_plain (suc k) n = all_append IsPlain (fixed_text 16 k (n / 16)) (digit_glyph (n % 16) ∷ []) (fixed_plain k (n / 16)) (glyph_plain (n % 16) (mod-lt n (omega arith)), tt)

before_by : (c : ℕ) (rest out : List ℕ) (b : Bool) → (c == 33) ≡ b → b ≡ false → rest ≡ out → (if b then [] else c ∷ rest) ≡ c ∷ out
before_by c rest out true is not same = absurd (cc)
before_by c rest out false is not same = ap (λ (xs : List ℕ). c ∷ xs) same

before_plain : (xs ys : List ℕ) → AllByRecursion IsPlain xs → before_mark (xs ++ 33 ∷ ys) ≡ xs
before_plain [] ys plain = refl
before_plain (c ∷ xs) ys plain = before_by c (before_mark (xs ++ 33 ∷ ys)) xs (c == 33) refl plain.0 (before_plain xs ys plain.1)

-- the id in a key
id_in_key : (n word : ℕ) → before_mark (key_text n word) ≡ conn_text n
id_in_key n word = before_plain (conn_text n) (fixed_text 16 16 word) (refl, fixed_plain 8 n)

-- THE KEYS OF A BOOK

abbrev HasKey : List Answered → ℕ → Type 0
HasKey book n = before_mark (record_of n book).key ≡ conn_text n

-- each record's key is its connection's
abbrev AreKeys : List Answered → Type 0
AreKeys book = AllByRecursion (HasKey book) (numbers book)

key_cond : (b : Bool) (a : Answered) (s : List Answered) → key_of (cond b (a ∷ s) s) ≡ cond b (key_after a.reply (key_of s)) (key_of s)
key_cond true a s = refl
key_cond false a s = refl

abbrev IsNotOpened : BookReply → Type 0
IsNotOpened (Opened conn generation key) = ⊥
IsNotOpened reply = ⊤

kept_key : (b : Bool) (r : BookReply) (key : List ℕ) → IsNotOpened r → cond b (key_after r key) key ≡ key
kept_key false r key not = refl
kept_key true (Opened conn generation k) key not = absurd not
kept_key true r key not = refl

found_not : (o : Option (ℕ × Record)) → IsNotOpened (resumed o)
found_not None = tt
found_not (Some e) = by_may (may_resume e.1)
  where
    by_may : (b : Bool) → IsNotOpened (if b then Resumed e.0 (raised e.1.generation) else KeyUnknown)
    by_may true = tt
    by_may false = tt

begin_not : (r : BookReply) → IsBegin r → IsNotOpened r
begin_not (Opened conn generation key) is = is
begin_not r is = tt

ending_not : (r : BookReply) → IsEnding r → IsNotOpened r
ending_not (Opened conn generation key) is = is
ending_not r is = tt

plain_key : (event : BookEvent) (reply : BookReply) (before : List Answered) → IsNotOpened reply → (n : ℕ) → HasKey before n → HasKey (record { event = event; reply = reply } ∷ before) n
plain_key event reply before not n is =
    ap before_mark (key_cond (is_of n event reply) (record { event = event; reply = reply }) (story n before) ∙ kept_key (is_of n event reply) reply (key_of (story n before)) not) ∙ is

open_old : (word now conn generation last : ℕ) (key : List ℕ) (before : List Answered) (n : ℕ) → conn ≡ last + 1 → n ≤ last → HasKey before n → HasKey (record { event = Open word now; reply = Opened conn generation key } ∷ before) n
open_old word now conn generation last key before n is low has =
    let other : (conn == n) ≡ false = grind (arith, nat_tests, is, low) in
    ap before_mark (key_cond (conn == n) (record { event = Open word now; reply = Opened conn generation key }) (story n before) ∙ ap (λ (b : Bool). cond b key (key_of (story n before))) other) ∙ has

open_new : (word now conn generation : ℕ) (key : List ℕ) (before : List Answered) → before_mark key ≡ conn_text conn → HasKey (record { event = Open word now; reply = Opened conn generation key } ∷ before) conn
open_new word now conn generation key before is =
    let self : (conn == conn) ≡ true = grind (arith, nat_tests) in
    ap before_mark (key_cond (conn == conn) (record { event = Open word now; reply = Opened conn generation key }) (story conn before) ∙ ap (λ (b : Bool). cond b key (key_of (story conn before))) self) ∙ is

-- what an Opened says is the next number, with its key
abbrev KeyFits : BookReply → ℕ → Type 0
KeyFits (Opened conn generation key) last = (conn ≡ last + 1) × (before_mark key ≡ conn_text conn)
KeyFits reply last = ⊤

key_fits : (b : Bool) (word last count given : ℕ) → KeyFits (if b then Limit count given else opened_as (last + 1) word) last
key_fits true word last count given = tt
key_fits false word last count given = (refl, id_in_key (last + 1) word)

keys_open : (word now : ℕ) (reply : BookReply) (before : List Answered) → KeyFits reply (last_number the_range before) → AreGiven the_range before → AreKeys before → AreKeys (record { event = Open word now; reply = reply } ∷ before)
keys_open word now (Opened conn generation key) before fits within keys =
    all_append _ (numbers before) (conn ∷ []) (all_old (numbers before) within keys) (open_new word now conn generation key before fits.1, tt)
  where
    all_old : (ns : List ℕ) → AllByRecursion (λ n. (the_range.after < n) × (n ≤ last_number the_range before)) ns → AllByRecursion (HasKey before) ns → AllByRecursion (HasKey (record { event = Open word now; reply = Opened conn generation key } ∷ before)) ns
    all_old [] w k = tt
    all_old (n ∷ ns) w k = (open_old word now conn generation (last_number the_range before) key before n fits.0 w.0.1 k.0, all_old ns w.1 k.1)
keys_open word now reply before fits within keys = all_weaker _ _ (plain_key (Open word now) reply before tt) (numbers before) keys

keys_stay : (event : BookEvent) (book : List Answered) → AreGiven the_range book → AreKeys book → AreKeys (answered the_range event book ∷ book)
keys_stay (Open word now) book within keys = keys_open word now (told (book_of the_range book) (Open word now)) book (key_fits (is_full (book_of the_range book)) word (last_number the_range book) _ _) within keys
keys_stay (Resume key now) book within keys = all_weaker _ _ (plain_key (Resume key now) _ book (found_not (find (has_key key) (book_of the_range book).records))) (numbers book) keys
keys_stay (Begin conn generation serial) book within keys = all_weaker _ _ (plain_key (Begin conn generation serial) _ book (begin_not _ (told_begin (book_of the_range book) conn generation serial))) (numbers book) keys
keys_stay (End conn generation serial outcome) book within keys = all_weaker _ _ (plain_key (End conn generation serial outcome) _ book (ending_not _ (told_ending (book_of the_range book) conn generation serial outcome))) (numbers book) keys
keys_stay (Lost conn generation now) book within keys = all_weaker _ _ (plain_key (Lost conn generation now) _ book (ending_not _ (told_ending (book_of the_range book) conn generation 0 None))) (numbers book) keys
keys_stay (Close conn generation) book within keys = all_weaker _ _ (plain_key (Close conn generation) _ book (ending_not _ (told_ending (book_of the_range book) conn generation 0 None))) (numbers book) keys
keys_stay (Expire now) book within keys =
    all_weaker _ _ (plain_key (Expire now) (told (book_of the_range book) (Expire now)) book tt) (numbers_after (Expire now) (told (book_of the_range book) (Expire now)) book (numbers book)) (all_filter _ (λ n. not (is_over now (record_of n book))) (numbers book) keys)

keys_all : (past : List BookEvent) → AreKeys (decided the_range past)
keys_all [] = tt
keys_all (event ∷ past) = keys_stay event (decided the_range past) (given_all the_range past) (keys_all past)

-- WHAT A RESUME AND AN OPEN ARE TOLD

and_left : (a b : Bool) → (a && b) ≡ true → a ≡ true
and_left true b h = refl
and_left false b h = absurd (cc)

find_by : (key : List ℕ) (book : List Answered) (n : ℕ) (rest : Option (ℕ × Record)) (ns : List ℕ) (c : ℕ) (r : Record) (b : Bool) → has_key key (n, record_of n book) ≡ b → HasKey book n
    → (rest ≡ Some (c, r) → IsIn c ns × (before_mark key ≡ conn_text c)) → cond b (Some (n, record_of n book)) rest ≡ Some (c, r) → IsIn c (n ∷ ns) × (before_mark key ≡ conn_text c)
find_by key book n rest ns c r true is has more found =
    let pair : ◌≡◌ {A = ℕ × Record} (n, record_of n book) (c, r) = cc in
    let same : n ≡ c = ap (λ (p : ℕ × Record). p.0) pair in
    let text : key ≡ (record_of n book).key = same_bytes key (record_of n book).key (and_left (bytes_eq key (record_of n book).key) (is_open (record_of n book).standing) is) in
    (inl same, ap before_mark text ∙ has ∙ ap conn_text same)
find_by key book n rest ns c r false is has more found = let h = more found in (inr h.0, h.1)

find_in : (key : List ℕ) (book : List Answered) (ns : List ℕ) (c : ℕ) (r : Record) → AllByRecursion (HasKey book) ns → find (has_key key) (map (λ n. (n, record_of n book)) ns) ≡ Some (c, r) → IsIn c ns × (before_mark key ≡ conn_text c)
find_in key book [] c r keys found = absurd (cc)
find_in key book (n ∷ ns) c r keys found = find_by key book n (find (has_key key) (map (λ n. (n, record_of n book)) ns)) ns c r (has_key key (n, record_of n book)) refl keys.0 (find_in key book ns c r keys.1) found

may_by : (b : Bool) (n c g raised_ : ℕ) → (if b then Resumed n raised_ else KeyUnknown) ≡ Resumed c g → n ≡ c
may_by true n c g raised_ is = cc
may_by false n c g raised_ is = absurd (cc)

resumed_of : (key : List ℕ) (book : List Answered) (c g : ℕ) (o : Option (ℕ × Record)) → find (has_key key) (map (λ n. (n, record_of n book)) (numbers book)) ≡ o → AreKeys book → resumed o ≡ Resumed c g → IsIn c (numbers book) × (before_mark key ≡ conn_text c)
resumed_of key book c g None found keys is = absurd (cc)
resumed_of key book c g (Some e) found keys is =
    let h = find_in key book (numbers book) e.0 e.1 keys found in
    subst (λ m. IsIn m (numbers book) × (before_mark key ≡ conn_text m)) (may_by (may_resume e.1) e.0 c g (raised e.1.generation) is) h

-- a connection that is brought back was given, and the key has its id
pub resume_key : (key : List ℕ) (now c g : ℕ) (book : List Answered) → IsDecided book → told (book_of the_range book) (Resume key now) ≡ Resumed c g → (c ≤ last_number the_range book) × (before_mark key ≡ conn_text c)
resume_key key now c g book decided_ is =
    let keys = subst AreKeys (sym decided_) (keys_all (events_of book)) in
    let within = subst (AreGiven the_range) (sym decided_) (given_all the_range (events_of book)) in
    let got = resumed_of key book c g (find (has_key key) (map (λ n. (n, record_of n book)) (numbers book))) refl keys is in
    (standing_given c book within got.0, got.1)

open_by : (b : Bool) (word last count given c g : ℕ) (key : List ℕ) → (b ≡ false → last < MAX_CONNECTION) → (if b then Limit count given else opened_as (last + 1) word) ≡ Opened c g key → (c ≡ last + 1) × (c < 2 ^ 32) × (before_mark key ≡ conn_text c)
open_by true word last count given c g key room is = absurd (cc)
open_by false word last count given c g key room is =
    let one : last + 1 ≡ c = cc in
    let text : key_text (last + 1) word ≡ key = cc in
    (sym one, omega (arith, one, room refl), sym (ap before_mark text) ∙ id_in_key (last + 1) word ∙ ap conn_text one)

-- a connection that is opened has the next number, and the key has its id
pub open_key : (word now c g : ℕ) (key : List ℕ) (book : List Answered) → told (book_of the_range book) (Open word now) ≡ Opened c g key → (c ≡ last_number the_range book + 1) × (c < 2 ^ 32) × (before_mark key ≡ conn_text c)
open_key word now c g key book is = open_by (is_full (book_of the_range book)) word (last_number the_range book) (length (book_of the_range book).records) (last_number the_range book) c g key (room_left (book_of the_range book)) is
