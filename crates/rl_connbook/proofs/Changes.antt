-- One record changed in its place, or none.
use Rattle.std.proofs.Common.{◌≡◌, ℕ, ◌+◌, ◌≤◌, Bool, true, false, cond, List, [], ◌∷◌, map, refl, ap, sym, subst, ◌∙◌, arith, ◌<◌}
use Rattle.std.specs.Prelude.{◌==◌, nat_lt, Option, Some, None, if◌then◌else◌}
use Rattle.std.specs.List.{AllByRecursion}
use Rattle.std.specs.List.Sorted.{IsStrictlySortedBy}
use Rattle.std.specs.Ordering.{nat_cmp}
use Rattle.std.specs.declared.cmp.Ordering.TheVariants.{Less}
use Rattle.std.specs.Map.{lookup, set_value, keys_of}
use Rattle.std.specs.BTreeMap.{is_at}
use Rattle.std.proofs.lemmas.Bool.Decides.{nat_tests}
use Rattle.std.proofs.lemmas.Map.Steps.{set_value_same}
use Rattle.rl_events.specs.declared.book.BookEvent.{BookEvent}
use Rattle.rl_events.specs.declared.book.BookReply.{BookReply}
use Rattle.rl_events.specs.declared.book.BookReply.TheVariants.{Opened, Limit, Resumed, KeyUnknown, Go, Known, SerialGap, SerialOld, Superseded, NoRecord, Done, Expired}
use Rattle.rl_events.specs.declared.channel.Outcome.{Outcome}
use Rattle.rl_connbook.specs.declared.record.Record.{Record}
use Rattle.rl_connbook.specs.Records.{is_of, key_after}
use Rattle.rl_connbook.specs.Book.{Book, is_opened, told, record_at, at_record, begun, known, kept_outcome}
use Rattle.rl_connbook.specs.Steps.{after, record_after, entry_after, records_after}
use Rattle.rl_connbook.specs.Sound.{IsSound, IsNumbered}

at_is : (conn q : ℕ) → is_at (nat_cmp conn) q ≡ (conn == q)
at_is conn q = grind (arith, nat_tests)

less_is_not : (conn q : ℕ) → nat_cmp conn q ≡ Less → (conn == q) ≡ false
less_is_not conn q h = grind (arith, nat_tests)

same_is : (conn q : ℕ) → (conn == q) ≡ true → conn ≡ q
same_is conn q h = grind (arith, nat_tests)

-- THE OTHERS

entry_kept : (event : BookEvent) (reply : BookReply) (e : ℕ × Record) → is_of e.0 event reply ≡ false → entry_after event reply e ≡ e
entry_kept event reply e h = ap (λ (b : Bool). (e.0, cond b (record_after event reply e.1) e.1)) h

entry_changed : (event : BookEvent) (reply : BookReply) (e : ℕ × Record) → is_of e.0 event reply ≡ true → entry_after event reply e ≡ (e.0, record_after event reply e.1)
entry_changed event reply e h = ap (λ (b : Bool). (e.0, cond b (record_after event reply e.1) e.1)) h

above_kept : (event : BookEvent) (reply : BookReply) (conn : ℕ) (es : List (ℕ × Record)) → ((n : ℕ) → is_of n event reply ≡ (conn == n)) → AllByRecursion (λ q. nat_cmp conn q ≡ Less) (keys_of es) → map (entry_after event reply) es ≡ es
above_kept event reply conn [] of all = refl
above_kept event reply conn (e ∷ es) of all =
    ap (λ (x : ℕ × Record). x ∷ map (entry_after event reply) es) (entry_kept event reply e (of e.0 ∙ less_is_not conn e.0 all.0))
    ∙ ap (λ (xs : List (ℕ × Record)). e ∷ xs) (above_kept event reply conn es of all.1)

-- THE ONE

abbrev set_at : ℕ → List (ℕ × Record) → Record → List (ℕ × Record)
set_at conn es r = set_value (is_at (nat_cmp conn)) es r

set_by : (event : BookEvent) (reply : BookReply) (conn : ℕ) (r : Record) (e : ℕ × Record) (es : List (ℕ × Record)) (b : Bool) → is_at (nat_cmp conn) e.0 ≡ b → ((n : ℕ) → is_of n event reply ≡ (conn == n)) → AllByRecursion (λ q. nat_cmp e.0 q ≡ Less) (keys_of es) → cond b (Some e.1) (lookup (is_at (nat_cmp conn)) es) ≡ Some r → (lookup (is_at (nat_cmp conn)) es ≡ Some r → set_at conn es (record_after event reply r) ≡ map (entry_after event reply) es) → cond b ((e.0, record_after event reply r) ∷ es) (e ∷ set_at conn es (record_after event reply r)) ≡ entry_after event reply e ∷ map (entry_after event reply) es
set_by event reply conn r e es true is of rises found rest =
    let here : (conn == e.0) ≡ true = sym (at_is conn e.0) ∙ is in
    let number : conn ≡ e.0 = same_is conn e.0 here in
    let value : e.1 ≡ r = cc in
    let above : AllByRecursion (λ q. nat_cmp conn q ≡ Less) (keys_of es) = rw number rises in
    ap (λ (x : Record). (e.0, record_after event reply x) ∷ es) (sym value)
    ∙ ap (λ (x : ℕ × Record). x ∷ es) (sym (entry_changed event reply e (of e.0 ∙ here)))
    ∙ ap (λ (xs : List (ℕ × Record)). entry_after event reply e ∷ xs) (sym (above_kept event reply conn es of above))
set_by event reply conn r e es false is of rises found rest =
    let there : (conn == e.0) ≡ false = sym (at_is conn e.0) ∙ is in
    ap (λ (xs : List (ℕ × Record)). e ∷ xs) (rest found)
    ∙ ap (λ (x : ℕ × Record). x ∷ map (entry_after event reply) es) (sym (entry_kept event reply e (of e.0 ∙ there)))

set_is_mapped : (event : BookEvent) (reply : BookReply) (conn : ℕ) (r : Record) (es : List (ℕ × Record)) → ((n : ℕ) → is_of n event reply ≡ (conn == n)) → IsStrictlySortedBy nat_cmp (keys_of es) → lookup (is_at (nat_cmp conn)) es ≡ Some r → set_at conn es (record_after event reply r) ≡ map (entry_after event reply) es
unfolding IsStrictlySortedBy
set_is_mapped event reply conn r [] of rises found = cc
set_is_mapped event reply conn r (e ∷ es) of rises found = set_by event reply conn r e es (is_at (nat_cmp conn) e.0) refl of rises.0 found (set_is_mapped event reply conn r es of rises.1)

-- THE BOOK

-- an event of one connection, which opens none
pub record IsPlain (event : BookEvent) (reply : BookReply) (conn : ℕ) : Type 0 where
  pub of : (n : ℕ) → is_of n event reply ≡ (conn == n)
  pub opens : is_opened reply ≡ false
  pub stays : (es : List (ℕ × Record)) → records_after event reply es ≡ map (entry_after event reply) es

after_plain : (event : BookEvent) (reply : BookReply) (book : Book) → told book event ≡ reply → is_opened reply ≡ false → ((es : List (ℕ × Record)) → records_after event reply es ≡ map (entry_after event reply) es) → after book event ≡ record book { records = map (entry_after event reply) book.records }
after_plain event reply book is opens stays =
    ap (λ (told : BookReply). record book { last_given = if is_opened told then book.last_given + 1 else book.last_given; records = records_after event told book.records }) is
    ∙ ap (λ (b : Bool). record book { last_given = if b then book.last_given + 1 else book.last_given; records = records_after event reply book.records }) opens
    ∙ ap (λ (es : List (ℕ × Record)). record book { records = es }) (stays book.records)

-- one record is changed
pub changed : (event : BookEvent) (reply : BookReply) (conn : ℕ) (book : Book) (r : Record) → IsPlain event reply conn → told book event ≡ reply → IsStrictlySortedBy nat_cmp (keys_of book.records) → record_at conn book ≡ Some r → record book { records = set_at conn book.records (record_after event reply r) } ≡ after book event
changed event reply conn book r plain is rises found =
    ap (λ (es : List (ℕ × Record)). record book { records = es }) (set_is_mapped event reply conn r book.records plain.of rises found)
    ∙ sym (after_plain event reply book is plain.opens plain.stays)

same_by : (b : Bool) (n : ℕ) (x y : Record) (es : List (ℕ × Record)) → x ≡ y → (n, cond b x y) ∷ es ≡ (n, y) ∷ es
same_by true n x y es h = ap (λ (z : Record). (n, z) ∷ es) h
same_by false n x y es h = refl

all_same : (event : BookEvent) (reply : BookReply) (es : List (ℕ × Record)) → ((r : Record) → record_after event reply r ≡ r) → map (entry_after event reply) es ≡ es
all_same event reply [] same = refl
all_same event reply (e ∷ es) same =
    same_by (is_of e.0 event reply) e.0 (record_after event reply e.1) e.1 (map (entry_after event reply) es) (same e.1)
    ∙ ap (λ (xs : List (ℕ × Record)). e ∷ xs) (all_same event reply es same)

-- no record is changed
pub unchanged : (event : BookEvent) (reply : BookReply) (book : Book) → told book event ≡ reply → is_opened reply ≡ false → ((es : List (ℕ × Record)) → records_after event reply es ≡ map (entry_after event reply) es) → ((r : Record) → record_after event reply r ≡ r) → book ≡ after book event
unchanged event reply book is opens stays same =
    ap (λ (es : List (ℕ × Record)). record book { records = es }) (sym (all_same event reply book.records same))
    ∙ sym (after_plain event reply book is opens stays)

-- SOUNDNESS

below_by : (last conn : ℕ) (r : Record) (e : ℕ × Record) (es : List (ℕ × Record)) (b : Bool) → e.0 ≤ last → AllByRecursion (λ e. e.0 ≤ last) es → AllByRecursion (λ e. e.0 ≤ last) (set_at conn es r) → AllByRecursion (λ e. e.0 ≤ last) (cond b ((e.0, r) ∷ es) (e ∷ set_at conn es r))
below_by last conn r e es true here all rest = (here, all)
below_by last conn r e es false here all rest = (here, rest)

below_set : (last conn : ℕ) (r : Record) (es : List (ℕ × Record)) → AllByRecursion (λ e. e.0 ≤ last) es → AllByRecursion (λ e. e.0 ≤ last) (set_at conn es r)
below_set last conn r [] all = tt
below_set last conn r (e ∷ es) all = below_by last conn r e es (is_at (nat_cmp conn) e.0) all.0 all.1 (below_set last conn r es all.1)

keyed_by : (conn : ℕ) (old new : Record) (e : ℕ × Record) (es : List (ℕ × Record)) (b : Bool) → new.key ≡ old.key → cond b (Some e.1) (lookup (is_at (nat_cmp conn)) es) ≡ Some old → IsNumbered e.0 e.1.key → AllByRecursion (λ e. IsNumbered e.0 e.1.key) es → (lookup (is_at (nat_cmp conn)) es ≡ Some old → AllByRecursion (λ e. IsNumbered e.0 e.1.key) (set_at conn es new)) → AllByRecursion (λ e. IsNumbered e.0 e.1.key) (cond b ((e.0, new) ∷ es) (e ∷ set_at conn es new))
keyed_by conn old new e es true key found here all rest =
    let value : e.1 ≡ old = cc in
    (subst (IsNumbered e.0) (ap (λ (x : Record). x.key) value ∙ sym key) here, all)
keyed_by conn old new e es false key found here all rest = (here, rest found)

keyed_set : (conn : ℕ) (old new : Record) (es : List (ℕ × Record)) → new.key ≡ old.key → lookup (is_at (nat_cmp conn)) es ≡ Some old → AllByRecursion (λ e. IsNumbered e.0 e.1.key) es → AllByRecursion (λ e. IsNumbered e.0 e.1.key) (set_at conn es new)
keyed_set conn old new [] key found all = tt
keyed_set conn old new (e ∷ es) key found all = keyed_by conn old new e es (is_at (nat_cmp conn) e.0) key found all.0 all.1 (λ later. keyed_set conn old new es key later all.1)

pub sound_set : (last conn : ℕ) (old new : Record) (es : List (ℕ × Record)) → new.key ≡ old.key → lookup (is_at (nat_cmp conn)) es ≡ Some old → IsSound last es → IsSound last (set_at conn es new)
sound_set last conn old new es key found sound = record {
  below = below_set last conn new es sound.below;
  keyed = keyed_set conn old new es key found sound.keyed;
}

-- AS CALLS USE IT

-- one record was replaced by what it is after the event
pub written : (event : BookEvent) (reply : BookReply) (conn : ℕ) (book : Book) (r new : Record) (es : List (ℕ × Record)) → IsPlain event reply conn → told book event ≡ reply → IsStrictlySortedBy nat_cmp (keys_of book.records) → record_at conn book ≡ Some r → new ≡ record_after event reply r → es ≡ set_at conn book.records new → record book { records = es } ≡ after book event
written event reply conn book r new es plain is rises found made set =
    ap (λ (xs : List (ℕ × Record)). record book { records = xs }) (set ∙ ap (set_at conn book.records) made)
    ∙ changed event reply conn book r plain is rises found

key_kept : (reply : BookReply) (key : List ℕ) → is_opened reply ≡ false → key_after reply key ≡ key
key_kept (Opened conn generation k) key h = cc
key_kept (Limit count most) key h = refl
key_kept (Resumed conn generation) key h = refl
key_kept KeyUnknown key h = refl
key_kept Go key h = refl
key_kept (Known outcome) key h = refl
key_kept (SerialGap got expected) key h = refl
key_kept (SerialOld got expected) key h = refl
key_kept (Superseded newer) key h = refl
key_kept NoRecord key h = refl
key_kept Done key h = refl
key_kept (Expired conns) key h = refl

pub sound_after : (event : BookEvent) (reply : BookReply) (conn last : ℕ) (r new : Record) (old es : List (ℕ × Record)) → is_opened reply ≡ false → lookup (is_at (nat_cmp conn)) old ≡ Some r → new ≡ record_after event reply r → es ≡ set_at conn old new → IsSound last old → IsSound last es
sound_after event reply conn last r new old es opens found made set sound =
    let key : new.key ≡ r.key = ap (λ (x : Record). x.key) made ∙ key_kept reply r.key opens in
    subst (IsSound last) (sym set) (sound_set last conn r new old key found sound)

pub at_none : (generation : ℕ) (reply : Record → BookReply) (found : Option Record) → found ≡ None → at_record generation reply found ≡ NoRecord
at_none generation reply found h = ap (at_record generation reply) h

lt_true : (a b : ℕ) → a < b → nat_lt a b ≡ true
lt_true a b h = grind (arith, nat_tests)

lt_false : (a b : ℕ) → b ≤ a → nat_lt a b ≡ false
lt_false a b h = grind (arith, nat_tests)

pub at_late : (generation : ℕ) (reply : Record → BookReply) (found : Option Record) (r : Record) → found ≡ Some r → generation < r.generation → at_record generation reply found ≡ Superseded r.generation
at_late generation reply found r h late = ap (at_record generation reply) h ∙ ap (λ (b : Bool). if b then Superseded r.generation else reply r) (lt_true generation r.generation late)

pub at_now : (generation : ℕ) (reply : Record → BookReply) (found : Option Record) (r : Record) → found ≡ Some r → r.generation ≤ generation → at_record generation reply found ≡ reply r
at_now generation reply found r h now = ap (at_record generation reply) h ∙ ap (λ (b : Bool). if b then Superseded r.generation else reply r) (lt_false generation r.generation now)

known_opens : (serial expected : ℕ) (kept : Option Outcome) → is_opened (known serial expected kept) ≡ false
known_opens serial expected None = refl
known_opens serial expected (Some outcome) = refl

begun_by : (serial expected : ℕ) (kept : Option Outcome) (a b c : Bool) → is_opened (if a then Go else if b then known serial expected kept else if c then SerialGap serial expected else Go) ≡ false
begun_by serial expected kept true b c = refl
begun_by serial expected kept false true c = known_opens serial expected kept
begun_by serial expected kept false false true = refl
begun_by serial expected kept false false false = refl

pub begun_opens : (serial : ℕ) (r : Record) → is_opened (begun serial r) ≡ false
begun_opens serial r = begun_by serial r.expected (kept_outcome serial r.outcomes) (serial == r.expected) (nat_lt serial r.expected) r.begun

none_of : (event : BookEvent) (reply : BookReply) (es : List (ℕ × Record)) → ((n : ℕ) → is_of n event reply ≡ false) → map (entry_after event reply) es ≡ es
none_of event reply [] of = refl
none_of event reply (e ∷ es) of =
    ap (λ (x : ℕ × Record). x ∷ map (entry_after event reply) es) (entry_kept event reply e (of e.0))
    ∙ ap (λ (xs : List (ℕ × Record)). e ∷ xs) (none_of event reply es of)

-- the event is of no connection
pub untouched : (event : BookEvent) (reply : BookReply) (book : Book) → told book event ≡ reply → is_opened reply ≡ false → ((es : List (ℕ × Record)) → records_after event reply es ≡ map (entry_after event reply) es) → ((n : ℕ) → is_of n event reply ≡ false) → book ≡ after book event
untouched event reply book is opens stays of =
    ap (λ (es : List (ℕ × Record)). record book { records = es }) (sym (none_of event reply book.records of))
    ∙ sym (after_plain event reply book is opens stays)

-- what was lent came back as it was
pub same_back : (conn : ℕ) (r new : Record) (old es : List (ℕ × Record)) → lookup (is_at (nat_cmp conn)) old ≡ Some r → new ≡ r → es ≡ set_at conn old new → es ≡ old
same_back conn r new old es found same set = set ∙ ap (set_at conn old) same ∙ set_value_same (is_at (nat_cmp conn)) old r found
