-- The deadlines of the records, where a record changes, comes or goes.
use Rattle.std.proofs.Common.{◌≡◌, ℕ, ◌+◌, ◌^◌, ◌<◌, ◌≤◌, Bool, true, false, cond, List, [], ◌∷◌, ◌++◌, refl, ap, sym, subst, ◌∙◌, arith}
use Rattle.std.specs.Prelude.{Option, Some, None, IsSome, is_some, not}
use Rattle.std.specs.List.{AllByRecursion, filter}
use Rattle.std.specs.List.Sorted.{IsStrictlySortedBy}
use Rattle.std.specs.Ordering.{nat_cmp, match_ordering, is_eq}
use Rattle.std.specs.declared.cmp.Ordering.{Ordering}
use Rattle.std.specs.declared.cmp.Ordering.TheVariants.{Less, Equal, Greater}
use Rattle.std.specs.Map.{lookup, set_value, keys_of}
use Rattle.std.specs.BTreeMap.{is_at, insert_entry}
use Rattle.std.proofs.lemmas.Map.{keys-set_value}
use Rattle.std.proofs.lemmas.Bool.Decides.{nat_tests}
use Rattle.rl_events.specs.declared.book.BookEvent.{BookEvent}
use Rattle.rl_events.specs.declared.book.BookReply.{BookReply}
use Rattle.rl_connbook.specs.declared.record.Record.{Record}
use Rattle.rl_connbook.specs.Records.{standing_after}
use Rattle.rl_connbook.specs.Book.{is_opened, is_over, key_text}
use Rattle.rl_connbook.specs.Steps.{record_after, without, without_all}
use Rattle.rl_connbook.specs.Sound.{IsSound}
use Rattle.rl_connbook.specs.Due.{IsKept, due_at, deadlines_of, without_deadline, without_deadlines}
use Rattle.rl_connbook.proofs.Changes.{sound_after, same_back}
use Rattle.rl_connbook.proofs.Finding.{numbers_over, inserted_last, sound_more}
use Rattle.rl_connbook.proofs.Expiring.{left_over}
use Rattle.rl_connbook.proofs.Opening.{sound_kept}

-- a record's deadline
abbrev timed : ℕ × Record → ℕ × ℕ
timed e = (e.0, due_at e.1.standing)

abbrev set_at : ℕ → List (ℕ × Record) → Record → List (ℕ × Record)
set_at conn es r = set_value (is_at (nat_cmp conn)) es r

-- FOUND

found_by : (b : Bool) (e : ℕ × Record) (later : Option Record) (times : Option ℕ) → is_some times ≡ is_some later → is_some (cond b (Some (due_at e.1.standing)) times) ≡ is_some (cond b (Some e.1) later)
found_by true e later times h = refl
found_by false e later times h = h

found_both : (n : ℕ) (es : List (ℕ × Record)) → is_some (lookup (is_at (nat_cmp n)) (deadlines_of es)) ≡ is_some (lookup (is_at (nat_cmp n)) es)
found_both n [] = refl
found_both n (e ∷ es) = found_by (is_at (nat_cmp n) e.0) e (lookup (is_at (nat_cmp n)) es) (lookup (is_at (nat_cmp n)) (deadlines_of es)) (found_both n es)

-- a connection that is there has a deadline
pub has_deadline : (n : ℕ) (es : List (ℕ × Record)) (r : Record) (ds : List (ℕ × ℕ)) → ds ≡ deadlines_of es → lookup (is_at (nat_cmp n)) es ≡ Some r → IsSome (lookup (is_at (nat_cmp n)) ds)
has_deadline n es r ds is found = ap (λ (xs : List (ℕ × ℕ)). is_some (lookup (is_at (nat_cmp n)) xs)) is ∙ found_both n es ∙ ap is_some found

-- A RECORD CHANGES

-- where it stands as before
same_by : (b : Bool) (n : ℕ) (old new : Record) (e : ℕ × Record) (es : List (ℕ × Record)) → new.standing ≡ old.standing → cond b (Some e.1) (lookup (is_at (nat_cmp n)) es) ≡ Some old → (lookup (is_at (nat_cmp n)) es ≡ Some old → deadlines_of (set_at n es new) ≡ deadlines_of es) → deadlines_of (cond b ((e.0, new) ∷ es) (e ∷ set_at n es new)) ≡ deadlines_of (e ∷ es)
same_by true n old new e es same found rest =
    let value : old ≡ e.1 = cc in
    ap (λ (d : ℕ). (e.0, d) ∷ deadlines_of es) (ap due_at (same ∙ ap (λ (r : Record). r.standing) value))
same_by false n old new e es same found rest = ap (λ (ds : List (ℕ × ℕ)). timed e ∷ ds) (rest found)

same_set : (n : ℕ) (old new : Record) (es : List (ℕ × Record)) → new.standing ≡ old.standing → lookup (is_at (nat_cmp n)) es ≡ Some old → deadlines_of (set_at n es new) ≡ deadlines_of es
same_set n old new [] same found = refl
same_set n old new (e ∷ es) same found = same_by (is_at (nat_cmp n) e.0) n old new e es same found (same_set n old new es same)

below_all : (n q : ℕ) (ns : List ℕ) → nat_cmp n q ≡ Less → AllByRecursion (λ m. nat_cmp q m ≡ Less) ns → AllByRecursion (λ m. nat_cmp n m ≡ Less) ns
below_all n q [] h all = tt
below_all n q (m ∷ ns) h all = (grind (arith, nat_tests, h, all.0), below_all n q ns h all.1)

none_by : (b : Bool) (r : Record) (later : Option Record) → b ≡ false → later ≡ None → cond b (Some r) later ≡ None
none_by true r later h none = cc
none_by false r later h none = none

less_not : (n q : ℕ) → nat_cmp n q ≡ Less → is_at (nat_cmp n) q ≡ false
less_not n q h = ap is_eq h

pub none_below : (n : ℕ) (es : List (ℕ × Record)) → AllByRecursion (λ m. nat_cmp n m ≡ Less) (keys_of es) → lookup (is_at (nat_cmp n)) es ≡ None
none_below n [] all = refl
none_below n (e ∷ es) all = none_by (is_at (nat_cmp n) e.0) e.1 (lookup (is_at (nat_cmp n)) es) (less_not n e.0 all.0) (none_below n es all.1)

moved_by : (o : Ordering) (n : ℕ) (old new : Record) (e : ℕ × Record) (es : List (ℕ × Record)) → nat_cmp n e.0 ≡ o → AllByRecursion (λ m. nat_cmp e.0 m ≡ Less) (keys_of es) → cond (is_eq o) (Some e.1) (lookup (is_at (nat_cmp n)) es) ≡ Some old → (lookup (is_at (nat_cmp n)) es ≡ Some old → deadlines_of (set_at n es new) ≡ insert_entry nat_cmp (deadlines_of es) n (due_at new.standing)) → deadlines_of (cond (is_eq o) ((e.0, new) ∷ es) (e ∷ set_at n es new)) ≡ match_ordering o ((n, due_at new.standing) ∷ timed e ∷ deadlines_of es) ((e.0, due_at new.standing) ∷ deadlines_of es) (timed e ∷ insert_entry nat_cmp (deadlines_of es) n (due_at new.standing))
moved_by Less n old new e es is above found rest =
    let none = none_below n es (below_all n e.0 (keys_of es) is above) in
    absurd (cc (sym none ∙ found))
moved_by Equal n old new e es is above found rest = refl
moved_by Greater n old new e es is above found rest = ap (λ (ds : List (ℕ × ℕ)). timed e ∷ ds) (rest found)

moved_set : (n : ℕ) (old new : Record) (es : List (ℕ × Record)) → IsStrictlySortedBy nat_cmp (keys_of es) → lookup (is_at (nat_cmp n)) es ≡ Some old → deadlines_of (set_at n es new) ≡ insert_entry nat_cmp (deadlines_of es) n (due_at new.standing)
unfolding IsStrictlySortedBy
moved_set n old new [] rises found = cc
moved_set n old new (e ∷ es) rises found = moved_by (nat_cmp n e.0) n old new e es refl rises.0 found (moved_set n old new es rises.1)

rises_set : (n : ℕ) (new : Record) (old es : List (ℕ × Record)) → es ≡ set_at n old new → IsStrictlySortedBy nat_cmp (keys_of old) → IsStrictlySortedBy nat_cmp (keys_of es)
rises_set n new old es set rises = subst (λ (ns : List ℕ). IsStrictlySortedBy nat_cmp ns) (sym (ap keys_of set ∙ keys-set_value (is_at (nat_cmp n)) old new)) rises

-- an event left a record as it stands
pub kept_after : (event : BookEvent) (reply : BookReply) (conn last : ℕ) (r new : Record) (old es : List (ℕ × Record)) (ds : List (ℕ × ℕ)) → is_opened reply ≡ false → standing_after event reply r.standing ≡ r.standing → lookup (is_at (nat_cmp conn)) old ≡ Some r → new ≡ record_after event reply r → es ≡ set_at conn old new → IsKept last old ds → IsKept last es ds
kept_after event reply conn last r new old es ds opens stands found made set kept = record {
  sound = sound_after event reply conn last r new old es opens found made set kept.sound;
  rises = rises_set conn new old es set kept.rises;
  due = kept.due ∙ sym (ap deadlines_of set ∙ same_set conn r new old (ap (λ (x : Record). x.standing) made ∙ stands) found);
}

-- what was lent came back as it was
pub kept_same : (conn last : ℕ) (r new : Record) (old es : List (ℕ × Record)) (ds : List (ℕ × ℕ)) → lookup (is_at (nat_cmp conn)) old ≡ Some r → new ≡ r → es ≡ set_at conn old new → IsKept last old ds → IsKept last es ds
kept_same conn last r new old es ds found same set kept =
    subst (λ (xs : List (ℕ × Record)). IsKept last xs ds) (sym (same_back conn r new old es found same set)) kept

-- an event changed how a connection stands, and its deadline follows
pub kept_moved : (event : BookEvent) (reply : BookReply) (conn last at : ℕ) (r new : Record) (old es : List (ℕ × Record)) (ds later : List (ℕ × ℕ)) → is_opened reply ≡ false → lookup (is_at (nat_cmp conn)) old ≡ Some r → new ≡ record_after event reply r → es ≡ set_at conn old new → at ≡ due_at new.standing → (IsSome (lookup (is_at (nat_cmp conn)) ds) → later ≡ insert_entry nat_cmp ds conn at) → IsKept last old ds → IsKept last es later
kept_moved event reply conn last at r new old es ds later opens found made set time moved kept = record {
  sound = sound_after event reply conn last r new old es opens found made set kept.sound;
  rises = rises_set conn new old es set kept.rises;
  due =
      moved (has_deadline conn old r ds kept.due found)
      ∙ ap (insert_entry nat_cmp ds conn) time
      ∙ ap (λ (xs : List (ℕ × ℕ)). insert_entry nat_cmp xs conn (due_at new.standing)) kept.due
      ∙ sym (ap deadlines_of set ∙ moved_set conn r new old kept.rises found);
}

-- ONE COMES

new_by : (o : Ordering) (n : ℕ) (r : Record) (e : ℕ × Record) (es : List (ℕ × Record)) → deadlines_of (insert_entry nat_cmp es n r) ≡ insert_entry nat_cmp (deadlines_of es) n (due_at r.standing) → deadlines_of (match_ordering o ((n, r) ∷ e ∷ es) ((e.0, r) ∷ es) (e ∷ insert_entry nat_cmp es n r)) ≡ match_ordering o ((n, due_at r.standing) ∷ timed e ∷ deadlines_of es) ((e.0, due_at r.standing) ∷ deadlines_of es) (timed e ∷ insert_entry nat_cmp (deadlines_of es) n (due_at r.standing))
new_by Less n r e es rest = refl
new_by Equal n r e es rest = refl
new_by Greater n r e es rest = ap (λ (ds : List (ℕ × ℕ)). timed e ∷ ds) rest

pub new_deadline : (n : ℕ) (r : Record) (es : List (ℕ × Record)) → deadlines_of (insert_entry nat_cmp es n r) ≡ insert_entry nat_cmp (deadlines_of es) n (due_at r.standing)
new_deadline n r [] = refl
new_deadline n r (e ∷ es) = new_by (nat_cmp n e.0) n r e es (new_deadline n r es)

at_self : (n : ℕ) → is_at (nat_cmp n) n ≡ true
at_self n = grind (arith, nat_tests)

first_out : (n v : ℕ) (ds : List (ℕ × ℕ)) → without_deadline ((n, v) ∷ ds) n ≡ ds
first_out n v ds = ap (λ (b : Bool). cond b ds ((n, v) ∷ without_deadline ds n)) (at_self n)

back_by : (o : Ordering) (n v : ℕ) (d : ℕ × ℕ) (ds : List (ℕ × ℕ)) → nat_cmp n d.0 ≡ o → cond (is_eq o) (Some d.1) (lookup (is_at (nat_cmp n)) ds) ≡ None → (lookup (is_at (nat_cmp n)) ds ≡ None → without_deadline (insert_entry nat_cmp ds n v) n ≡ ds) → without_deadline (match_ordering o ((n, v) ∷ d ∷ ds) ((d.0, v) ∷ ds) (d ∷ insert_entry nat_cmp ds n v)) n ≡ d ∷ ds
back_by Less n v d ds is none rest = first_out n v (d ∷ ds)
back_by Equal n v d ds is none rest = cc
back_by Greater n v d ds is none rest =
    ap (λ (o : Ordering). cond (is_eq o) (insert_entry nat_cmp ds n v) (d ∷ without_deadline (insert_entry nat_cmp ds n v) n)) is
    ∙ ap (λ (xs : List (ℕ × ℕ)). d ∷ xs) (rest none)

taken_back : (n v : ℕ) (ds : List (ℕ × ℕ)) → lookup (is_at (nat_cmp n)) ds ≡ None → without_deadline (insert_entry nat_cmp ds n v) n ≡ ds
taken_back n v [] none = first_out n v []
taken_back n v (d ∷ ds) none = back_by (nat_cmp n d.0) n v d ds refl none (taken_back n v ds)

is_none_by : (o : Option ℕ) → is_some o ≡ false → o ≡ None
is_none_by None h = refl
is_none_by (Some m) h = cc

-- a new connection's deadline, given and cancelled
pub kept_back : (last n v : ℕ) (es : List (ℕ × Record)) (ds more left : List (ℕ × ℕ)) → lookup (is_at (nat_cmp n)) es ≡ None → more ≡ insert_entry nat_cmp ds n v → left ≡ without_deadline more n → IsKept last es ds → IsKept last es left
kept_back last n v es ds more left none put out kept =
    let absent : lookup (is_at (nat_cmp n)) ds ≡ None = is_none_by (lookup (is_at (nat_cmp n)) ds) (ap (λ (xs : List (ℕ × ℕ)). is_some (lookup (is_at (nat_cmp n)) xs)) kept.due ∙ found_both n es ∙ ap is_some none) in
    record { sound = kept.sound; rises = kept.rises; due = out ∙ ap (λ (xs : List (ℕ × ℕ)). without_deadline xs n) put ∙ taken_back n v ds absent ∙ kept.due }

above_not : (n last m : ℕ) → m ≤ last → last < n → is_at (nat_cmp n) m ≡ false
above_not n last m h k = grind (arith, nat_tests)

-- a number above those that were given is no connection's
pub none_above : (n last : ℕ) (es : List (ℕ × Record)) → last < n → AllByRecursion (λ e. e.0 ≤ last) es → lookup (is_at (nat_cmp n)) es ≡ None
none_above n last [] h all = refl
none_above n last (e ∷ es) h all = none_by (is_at (nat_cmp n) e.0) e.1 (lookup (is_at (nat_cmp n)) es) (above_not n last e.0 all.0 h) (none_above n last es h all.1)

-- ONES GO

gone_by : (b : Bool) (n : ℕ) (e : ℕ × Record) (es : List (ℕ × Record)) → deadlines_of (without es n) ≡ without_deadline (deadlines_of es) n → deadlines_of (cond b es (e ∷ without es n)) ≡ cond b (deadlines_of es) (timed e ∷ without_deadline (deadlines_of es) n)
gone_by true n e es rest = refl
gone_by false n e es rest = ap (λ (ds : List (ℕ × ℕ)). timed e ∷ ds) rest

gone_one : (n : ℕ) (es : List (ℕ × Record)) → deadlines_of (without es n) ≡ without_deadline (deadlines_of es) n
gone_one n [] = refl
gone_one n (e ∷ es) = gone_by (is_at (nat_cmp n) e.0) n e es (gone_one n es)

pub gone_all : (es : List (ℕ × Record)) (ns : List ℕ) → deadlines_of (without_all es ns) ≡ without_deadlines (deadlines_of es) ns
gone_all es [] = refl
gone_all es (n ∷ ns) = gone_all (without es n) ns ∙ ap (λ (ds : List (ℕ × ℕ)). without_deadlines ds ns) (gone_one n es)

above_by : (m : ℕ) (b : Bool) (e : ℕ × Record) (es : List (ℕ × Record)) → nat_cmp m e.0 ≡ Less → AllByRecursion (λ n. nat_cmp m n ≡ Less) (keys_of es) → AllByRecursion (λ n. nat_cmp m n ≡ Less) (keys_of (cond b (e ∷ es) es))
above_by m true e es here rest = (here, rest)
above_by m false e es here rest = rest

above_left : (test : ℕ × Record → Bool) (m : ℕ) (es : List (ℕ × Record)) → AllByRecursion (λ n. nat_cmp m n ≡ Less) (keys_of es) → AllByRecursion (λ n. nat_cmp m n ≡ Less) (keys_of (filter test es))
above_left test m [] all = tt
above_left test m (e ∷ es) all = above_by m (test e) e (filter test es) all.0 (above_left test m es all.1)

rises_by : (b : Bool) (e : ℕ × Record) (es : List (ℕ × Record)) → AllByRecursion (λ n. nat_cmp e.0 n ≡ Less) (keys_of es) → IsStrictlySortedBy nat_cmp (keys_of es) → IsStrictlySortedBy nat_cmp (keys_of (cond b (e ∷ es) es))
unfolding IsStrictlySortedBy
rises_by true e es above rest = (above, rest)
rises_by false e es above rest = rest

rises_left : (test : ℕ × Record → Bool) (es : List (ℕ × Record)) → IsStrictlySortedBy nat_cmp (keys_of es) → IsStrictlySortedBy nat_cmp (keys_of (filter test es))
unfolding IsStrictlySortedBy
rises_left test [] rises = tt
rises_left test (e ∷ es) rises = rises_by (test e) e (filter test es) (above_left test e.0 es rises.0) (rises_left test es rises.1)

-- what is left where those that are over go
pub left_is : (now : ℕ) (es left : List (ℕ × Record)) (conns : List ℕ) → IsStrictlySortedBy nat_cmp (keys_of es) → conns ≡ numbers_over now es → left ≡ without_all es conns → left ≡ filter (λ e. not (is_over now e.1)) es
left_is now es left conns rises are is = is ∙ ap (without_all es) are ∙ left_over now es rises

pub kept_gone : (now last : ℕ) (es left : List (ℕ × Record)) (ds later : List (ℕ × ℕ)) (conns : List ℕ) → conns ≡ numbers_over now es → left ≡ without_all es conns → later ≡ without_deadlines ds conns → IsKept last es ds → IsKept last left later
kept_gone now last es left ds later conns are is gone kept =
    let rest = left_is now es left conns kept.rises are is in
    record {
      sound = subst (IsSound last) (sym rest) (sound_kept now last es kept.sound);
      rises = subst (λ (xs : List (ℕ × Record)). IsStrictlySortedBy nat_cmp (keys_of xs)) (sym rest) (rises_left (λ e. not (is_over now e.1)) es kept.rises);
      due = gone ∙ ap (λ (xs : List (ℕ × ℕ)). without_deadlines xs conns) kept.due ∙ sym (gone_all es conns) ∙ ap deadlines_of (sym is);
    }

last_above : (m last n : ℕ) → m ≤ last → n ≡ last + 1 → nat_cmp m n ≡ Less
last_above m last n h is = grind (arith, nat_tests)

above_last : (m n : ℕ) (r : Record) (es : List (ℕ × Record)) → nat_cmp m n ≡ Less → AllByRecursion (λ q. nat_cmp m q ≡ Less) (keys_of es) → AllByRecursion (λ q. nat_cmp m q ≡ Less) (keys_of (es ++ (n, r) ∷ []))
above_last m n r [] h all = (h, tt)
above_last m n r (e ∷ es) h all = (all.0, above_last m n r es h all.1)

rises_last : (n last : ℕ) (r : Record) (es : List (ℕ × Record)) → n ≡ last + 1 → AllByRecursion (λ e. e.0 ≤ last) es → IsStrictlySortedBy nat_cmp (keys_of es) → IsStrictlySortedBy nat_cmp (keys_of (es ++ (n, r) ∷ []))
unfolding IsStrictlySortedBy
rises_last n last r [] is below rises = (tt, tt)
rises_last n last r (e ∷ es) is below rises = (above_last e.0 n r es (last_above e.0 last n below.0 is) rises.0, rises_last n last r es is below.1 rises.1)

-- a new connection stands after the others
pub kept_new : (n last word at : ℕ) (r : Record) (es more : List (ℕ × Record)) (ds later : List (ℕ × ℕ)) → n ≡ last + 1 → n < 2 ^ 32 → r.key ≡ key_text n word → more ≡ insert_entry nat_cmp es n r → at ≡ due_at r.standing → later ≡ insert_entry nat_cmp ds n at → IsKept last es ds → IsKept n more later
kept_new n last word at r es more ds later next small key put time moved kept =
    let at_end = put ∙ inserted_last n last r es next kept.sound.below in
    record {
      sound = subst (IsSound n) (sym at_end) (sound_more n last word r es next small key kept.sound);
      rises = subst (λ (xs : List (ℕ × Record)). IsStrictlySortedBy nat_cmp (keys_of xs)) (sym at_end) (rises_last n last r es next kept.sound.below kept.rises);
      due =
          moved
          ∙ ap (insert_entry nat_cmp ds n) time
          ∙ ap (λ (xs : List (ℕ × ℕ)). insert_entry nat_cmp xs n (due_at r.standing)) kept.due
          ∙ sym (ap deadlines_of put ∙ new_deadline n r es);
    }
