-- A new connection, and what an End leaves where no record is there.
use Rattle.std.proofs.Common.{◌≡◌, ℕ, ◌+◌, ◌<◌, Bool, true, false, List, [], ◌∷◌, ◌++◌, length, refl, ap, sym, ◌∙◌, arith, ◌≤◌, cond}
use Rattle.std.specs.Prelude.{Option, Some, None, if◌then◌else◌, not}
use Rattle.std.specs.List.{AllByRecursion, filter}
use Rattle.std.proofs.lemmas.Bool.Decides.{nat_tests}
use Rattle.rl_events.specs.declared.book.BookEvent.TheVariants.{Open, End, Expire}
use Rattle.rl_events.specs.declared.book.BookReply.{BookReply}
use Rattle.rl_events.specs.declared.book.BookReply.TheVariants.{Limit, NoRecord}
use Rattle.rl_events.specs.declared.channel.Outcome.{Outcome}
use Rattle.rl_connbook.specs.declared.record.Record.{Record}
use Rattle.rl_connbook.specs.Book.{Book, is_full, opened, opened_as, is_opened, is_over, key_text}
use Rattle.rl_connbook.specs.Sound.{IsSound, IsNumbered}
use Rattle.rl_connbook.specs.Steps.{after, record_after, records_after, new_record}
use Rattle.rl_connbook.proofs.Changes.{untouched}

pub end_none : (conn generation serial : ℕ) (outcome : Option Outcome) (r : Record) → record_after (End conn generation serial outcome) NoRecord r ≡ r
end_none conn generation serial None r = refl
end_none conn generation serial (Some outcome) r = refl

-- where a connection can be opened, a number is left
pub room_left : (book : Book) → is_full book ≡ false → book.last_given < book.range.last
room_left book h = grind (arith, nat_tests, h)

opened_by : (word : ℕ) (book : Book) (b : Bool) → is_full book ≡ b → opened word book ≡ (if b then Limit (length book.records) book.last_given else opened_as (book.last_given + 1) word)
opened_by word book b h = ap (λ (c : Bool). if c then Limit (length book.records) book.last_given else opened_as (book.last_given + 1) word) h

pub full_same : (word now : ℕ) (book : Book) → is_full book ≡ true → book ≡ after book (Open word now)
full_same word now book h = untouched (Open word now) (Limit (length book.records) book.last_given) book (opened_by word book true h) refl (λ es. refl) (λ n. refl)

pub opened_new : (word now : ℕ) (book : Book) (r : Record) (es : List (ℕ × Record)) → is_full book ≡ false → r ≡ new_record (key_text (book.last_given + 1) word) → es ≡ book.records ++ (book.last_given + 1, r) ∷ [] → record book { last_given = book.last_given + 1; records = es } ≡ after book (Open word now)
opened_new word now book r es h made is =
    ap (λ (xs : List (ℕ × Record)). record book { last_given = book.last_given + 1; records = xs }) (is ∙ ap (λ (x : Record). book.records ++ (book.last_given + 1, x) ∷ []) made)
    ∙ ap (λ (told : BookReply). record book { last_given = if is_opened told then book.last_given + 1 else book.last_given; records = records_after (Open word now) told book.records }) (sym (opened_by word book false h))

below_by : (last : ℕ) (e : ℕ × Record) (es : List (ℕ × Record)) (b : Bool) → e.0 ≤ last → AllByRecursion (λ e. e.0 ≤ last) es → AllByRecursion (λ e. e.0 ≤ last) (cond b (e ∷ es) es)
below_by last e es true here rest = (here, rest)
below_by last e es false here rest = rest

below_kept : (now last : ℕ) (es : List (ℕ × Record)) → AllByRecursion (λ e. e.0 ≤ last) es → AllByRecursion (λ e. e.0 ≤ last) (filter (λ e. not (is_over now e.1)) es)
below_kept now last [] all = tt
below_kept now last (e ∷ es) all = below_by last e _ (not (is_over now e.1)) all.0 (below_kept now last es all.1)

keyed_by : (e : ℕ × Record) (es : List (ℕ × Record)) (b : Bool) → IsNumbered e.0 e.1.key → AllByRecursion (λ e. IsNumbered e.0 e.1.key) es → AllByRecursion (λ e. IsNumbered e.0 e.1.key) (cond b (e ∷ es) es)
keyed_by e es true here rest = (here, rest)
keyed_by e es false here rest = rest

keyed_kept : (now : ℕ) (es : List (ℕ × Record)) → AllByRecursion (λ e. IsNumbered e.0 e.1.key) es → AllByRecursion (λ e. IsNumbered e.0 e.1.key) (filter (λ e. not (is_over now e.1)) es)
keyed_kept now [] all = tt
keyed_kept now (e ∷ es) all = keyed_by e _ (not (is_over now e.1)) all.0 (keyed_kept now es all.1)

pub sound_kept : (now last : ℕ) (es : List (ℕ × Record)) → IsSound last es → IsSound last (filter (λ e. not (is_over now e.1)) es)
sound_kept now last es sound = record { below = below_kept now last es sound.below; keyed = keyed_kept now es sound.keyed }

pub expired_same : (now : ℕ) (book : Book) (es : List (ℕ × Record)) → es ≡ filter (λ e. not (is_over now e.1)) book.records → record book { records = es } ≡ after book (Expire now)
expired_same now book es is = ap (λ (xs : List (ℕ × Record)). record book { records = xs }) is
