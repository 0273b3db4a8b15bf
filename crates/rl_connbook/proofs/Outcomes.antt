-- A kept outcome is that of an End of the connection and serial.
use Rattle.std.proofs.Common.{◌≡◌, ◌⊎◌, inl, inr, ℕ, Bool, true, false, List, [], ◌∷◌, ◌++◌, length, drop, map, refl, ap, sym, subst, ◌∙◌, arith, cond}
use Rattle.std.specs.Prelude.{Option, Some, None, ◌==◌, if◌then◌else◌, nat_lt}
use Rattle.std.specs.Map.{lookup}
use Rattle.std.specs.BTreeMap.{is_at}
use Rattle.std.specs.Ordering.{nat_cmp}
use Rattle.std.proofs.lemmas.Bool.Decides.{nat_tests}
use Rattle.rl_events.specs.declared.book.BookEvent.{BookEvent}
use Rattle.rl_events.specs.declared.book.BookEvent.TheVariants.{Open, Resume, Begin, End, Lost, Close, Expire}
use Rattle.rl_events.specs.declared.book.BookReply.{BookReply}
use Rattle.rl_events.specs.declared.book.BookReply.TheVariants.{Go, Known, SerialGap, Superseded}
use Rattle.rl_events.specs.declared.channel.Outcome.{Outcome}
use Rattle.rl_numbers.specs.declared.limits.TheConstants.{MAX_KEPT_OUTCOMES}
use Rattle.rl_connbook.specs.declared.range.NumberRange.{NumberRange}
use Rattle.rl_connbook.specs.declared.record.Record.{Record}
use Rattle.rl_connbook.specs.Records.{Answered, concerns, is_of, story, record_of, outcomes_of, outcomes_after, expected_of, keeps, latest}
use Rattle.rl_connbook.specs.Book.{book_of, numbers, told, at_record, record_at, begun, known, kept_outcome}
use Rattle.rl_connbook.specs.Laws.{SomeOf, IsEndOf}
use Rattle.rl_connbook.proofs.Each.{some_filter, some_split, some_weaker}

abbrev pub IsEndWith : ℕ → Outcome → BookEvent → Type 0
IsEndWith serial outcome (End conn generation s (Some o)) = (s ≡ serial) × (o ≡ outcome)
IsEndWith serial outcome event = ⊥

abbrev Kept : ℕ → Outcome → List (ℕ × Outcome) → Type 0
Kept serial outcome xs = SomeOf (λ (p : ℕ × Outcome). (p.0 ≡ serial) × (p.1 ≡ outcome)) xs

kept_by : (serial : ℕ) (outcome : Outcome) (p : ℕ × Outcome) (xs : List (ℕ × Outcome)) (b : Bool) → (p.0 == serial) ≡ b → (lookup (λ s. s == serial) xs ≡ Some outcome → Kept serial outcome xs)
    → cond b (Some p.1) (lookup (λ s. s == serial) xs) ≡ Some outcome → Kept serial outcome (p ∷ xs)
kept_by serial outcome p xs true is more found = let same : p.0 ≡ serial = grind (arith, nat_tests, is) in let it : p.1 ≡ outcome = cc in inl (same, it)
kept_by serial outcome p xs false is more found = inr (more found)

kept_some : (serial : ℕ) (outcome : Outcome) (xs : List (ℕ × Outcome)) → kept_outcome serial xs ≡ Some outcome → Kept serial outcome xs
kept_some serial outcome [] found = absurd (cc)
kept_some serial outcome (p ∷ xs) found = kept_by serial outcome p xs (p.0 == serial) refl (kept_some serial outcome xs) found

kept_drop : (serial : ℕ) (outcome : Outcome) (xs : List (ℕ × Outcome)) → Kept serial outcome (drop 1 xs) → Kept serial outcome xs
kept_drop serial outcome [] kept = kept
kept_drop serial outcome (p ∷ xs) kept = inr kept

kept_latest : (b : Bool) (serial : ℕ) (outcome : Outcome) (xs : List (ℕ × Outcome)) → Kept serial outcome (if b then drop 1 xs else xs) → Kept serial outcome xs
kept_latest true serial outcome xs kept = kept_drop serial outcome xs kept
kept_latest false serial outcome xs kept = kept

kept_end : (b : Bool) (serial : ℕ) (outcome : Outcome) (s : ℕ) (o : Outcome) (earlier : List (ℕ × Outcome)) → Kept serial outcome (if b then latest (earlier ++ (s, o) ∷ []) else earlier) → Kept serial outcome earlier ⊎ ((s ≡ serial) × (o ≡ outcome))
kept_end true serial outcome s o earlier kept =
    elim (some_split (λ (p : ℕ × Outcome). (p.0 ≡ serial) × (p.1 ≡ outcome)) earlier ((s, o) ∷ []) (kept_latest (nat_lt MAX_KEPT_OUTCOMES (length (earlier ++ (s, o) ∷ []))) serial outcome (earlier ++ (s, o) ∷ []) kept))
    [ inl old ↦ inl old | inr new ↦ inr (elim new [ inl here ↦ here | inr none ↦ absurd none ]) ]
kept_end false serial outcome s o earlier kept = inl kept

-- by one event
kept_after : (serial : ℕ) (outcome : Outcome) (event : BookEvent) (reply : BookReply) (expected : ℕ) (earlier : List (ℕ × Outcome)) → Kept serial outcome (outcomes_after event reply expected earlier) → Kept serial outcome earlier ⊎ IsEndWith serial outcome event
kept_after serial outcome (Open word now) reply expected earlier kept = absurd kept
kept_after serial outcome (End conn generation s (Some o)) reply expected earlier kept = kept_end (keeps reply s expected) serial outcome s o earlier kept
kept_after serial outcome (End conn generation s None) reply expected earlier kept = inl kept
kept_after serial outcome (Resume key now) reply expected earlier kept = inl kept
kept_after serial outcome (Begin conn generation s) reply expected earlier kept = inl kept
kept_after serial outcome (Lost conn generation now) reply expected earlier kept = inl kept
kept_after serial outcome (Close conn generation) reply expected earlier kept = inl kept
kept_after serial outcome (Expire now) reply expected earlier kept = inl kept

kept_in : (serial : ℕ) (outcome : Outcome) (st : List Answered) → Kept serial outcome (outcomes_of st) → SomeOf (λ (a : Answered). IsEndWith serial outcome a.event) st
kept_in serial outcome [] kept = absurd kept
kept_in serial outcome (a ∷ st) kept =
    elim (kept_after serial outcome a.event a.reply (expected_of st) (outcomes_of st) kept) [ inl old ↦ inr (kept_in serial outcome st old) | inr new ↦ inl new ]

end_of : (conn serial : ℕ) (outcome : Outcome) (event : BookEvent) (reply : BookReply) → IsEndWith serial outcome event → is_of conn event reply ≡ true → IsEndOf conn serial outcome event
end_of conn serial outcome (End c generation s (Some o)) reply is of = (grind (arith, nat_tests, of), is.0, is.1)
end_of conn serial outcome (End c generation s None) reply is of = absurd is
end_of conn serial outcome (Open word now) reply is of = absurd is
end_of conn serial outcome (Resume key now) reply is of = absurd is
end_of conn serial outcome (Begin c generation s) reply is of = absurd is
end_of conn serial outcome (Lost c generation now) reply is of = absurd is
end_of conn serial outcome (Close c generation) reply is of = absurd is
end_of conn serial outcome (Expire now) reply is of = absurd is

-- an outcome that the book keeps is that of an End of this connection and serial
pub kept_is_end : (conn serial : ℕ) (outcome : Outcome) (book : List Answered) → kept_outcome serial (record_of conn book).outcomes ≡ Some outcome → SomeOf (λ (a : Answered). IsEndOf conn serial outcome a.event) book
kept_is_end conn serial outcome book found =
    some_weaker (λ (a : Answered). IsEndWith serial outcome a.event × (concerns conn a ≡ true)) (λ (a : Answered). IsEndOf conn serial outcome a.event) (λ a p. end_of conn serial outcome a.event a.reply p.0 p.1) book
    (some_filter (λ (a : Answered). IsEndWith serial outcome a.event) (concerns conn) book (kept_in serial outcome (story conn book) (kept_some serial outcome _ found)))

-- WHAT KNOWN SAYS

found_by : (conn n : ℕ) (before : List Answered) (ns : List ℕ) (r : Record) (b : Bool) → is_at (nat_cmp conn) n ≡ b → (lookup (is_at (nat_cmp conn)) (map (λ n. (n, record_of n before)) ns) ≡ Some r → r ≡ record_of conn before)
    → cond b (Some (record_of n before)) (lookup (is_at (nat_cmp conn)) (map (λ n. (n, record_of n before)) ns)) ≡ Some r → r ≡ record_of conn before
found_by conn n before ns r true is more found =
    let same : n ≡ conn = grind (arith, nat_tests, is) in
    let it : record_of n before ≡ r = cc in
    sym it ∙ ap (λ m. record_of m before) same
found_by conn n before ns r false is more found = more found

-- a record that is found is what the story of its connection makes it
found_is : (conn : ℕ) (before : List Answered) (ns : List ℕ) (r : Record) → lookup (is_at (nat_cmp conn)) (map (λ n. (n, record_of n before)) ns) ≡ Some r → r ≡ record_of conn before
found_is conn before [] r found = absurd (cc)
found_is conn before (n ∷ ns) r found = found_by conn n before ns r (is_at (nat_cmp conn) n) refl (found_is conn before ns r) found

known_by : (serial expected : ℕ) (o : Option Outcome) (outcome : Outcome) → known serial expected o ≡ Known outcome → o ≡ Some outcome
known_by serial expected None outcome is = absurd (cc)
known_by serial expected (Some x) outcome is = let same : x ≡ outcome = cc in ap (λ y. Some y) same

begun_by : (a b c : Bool) (serial expected : ℕ) (o : Option Outcome) (outcome : Outcome) → (if a then Go else if b then known serial expected o else if c then SerialGap serial expected else Go) ≡ Known outcome → o ≡ Some outcome
begun_by true b c serial expected o outcome is = absurd (cc)
begun_by false true c serial expected o outcome is = known_by serial expected o outcome is
begun_by false false true serial expected o outcome is = absurd (cc)
begun_by false false false serial expected o outcome is = absurd (cc)

record_by : (b : Bool) (newer serial : ℕ) (r : Record) (outcome : Outcome) → (if b then Superseded newer else begun serial r) ≡ Known outcome → kept_outcome serial r.outcomes ≡ Some outcome
record_by true newer serial r outcome is = absurd (cc)
record_by false newer serial r outcome is = begun_by (serial == r.expected) (nat_lt serial r.expected) r.begun serial r.expected (kept_outcome serial r.outcomes) outcome is

at_record_by : (range : NumberRange) (conn generation serial : ℕ) (book : List Answered) (o : Option Record) (outcome : Outcome) → record_at conn (book_of range book) ≡ o → at_record generation (begun serial) o ≡ Known outcome → kept_outcome serial (record_of conn book).outcomes ≡ Some outcome
at_record_by range conn generation serial book None outcome at is = absurd (cc)
at_record_by range conn generation serial book (Some r) outcome at is =
    subst (λ (x : Record). kept_outcome serial x.outcomes ≡ Some outcome) (found_is conn book (numbers book) r at) (record_by (nat_lt generation r.generation) r.generation serial r outcome is)

pub known_is_end : (range : NumberRange) (conn generation serial : ℕ) (outcome : Outcome) (book : List Answered) → told (book_of range book) (Begin conn generation serial) ≡ Known outcome → SomeOf (λ (a : Answered). IsEndOf conn serial outcome a.event) book
known_is_end range conn generation serial outcome book is =
    kept_is_end conn serial outcome book (at_record_by range conn generation serial book (record_at conn (book_of range book)) outcome refl is)
