use Rattle.std.proofs.Common.{rules, ◌≡◌, ℕ, refl, ap, sym, List}
use Rattle.std.specs.Prelude.{Some, None}
use Rattle.rl_events.specs.declared.book.BookEvent.{BookEvent}
use Rattle.rl_events.specs.declared.book.BookEvent.TheVariants.{End}
use Rattle.rl_events.specs.declared.book.BookReply.TheVariants.{Superseded, NoRecord, Done}
use Rattle.rl_connbook.specs.declared.record.Record.{Record}
use Rattle.rl_connbook.specs.Book.{Book, record_at}
use Rattle.rl_connbook.specs.Steps.{record_after}
use Rattle.rl_connbook.proofs.Changes.{IsPlain, written, unchanged, same_back, at_none, at_late, at_now}
use Rattle.rl_connbook.proofs.Opening.{end_none}
use Rattle.rl_connbook.proofs.Timing.{kept_after, kept_same}
use Rattle.rl_connbook.proofs.book.ConnBook.end.Goals as goal

pub returns-in_default-clause-new : goal.returns-in_default-clause-new
returns-in_default-clause-new c =
    let conn = c.conn.inside.0 in
    let book : Book = record { range = c.self.inside.range; last_given = c.self.inside.last_given; records = c.self.inside.records } in
    let event : BookEvent = End conn c.args.generation c.args.serial c.args.outcome in
    let found : record_at conn book ≡ None = sym c.in_default.ensures.value in
    rw (← c.self.view_is, ← c.conn.view_is) (unchanged event NoRecord book (at_none c.args.generation (λ _. Done) (record_at conn book) found) refl (λ es. refl) (end_none conn c.args.generation c.args.serial c.args.outcome))

pub invariant_of-self-in_err-end_late : goal.invariant_of-self-in_err-end_late
invariant_of-self-in_err-end_late c =
    let conn = c.conn.inside.0 in
    let book : Book = record { range = c.self.inside.range; last_given = c.self.inside.last_given; records = c.self.inside.records } in
    let event : BookEvent = End conn c.args.generation c.args.serial c.args.outcome in
    let r = c.in-Some.record.now in
    let found : record_at conn book ≡ Some r = sym c.in-Some.ensures.value in
    kept_same conn c.self.inside.last_given r c.end_late.new.self book.records _ c.self.inside.deadlines found c.in_err-end_late.ensures.err refl c.self.invariant

pub returns-in_err-end_late-clause-err : goal.returns-in_err-end_late-clause-err
returns-in_err-end_late-clause-err c =
    let conn = c.conn.inside.0 in
    let book : Book = record { range = c.self.inside.range; last_given = c.self.inside.last_given; records = c.self.inside.records } in
    let event : BookEvent = End conn c.args.generation c.args.serial c.args.outcome in
    let r = c.in-Some.record.now in
    let found : record_at conn book ≡ Some r = sym c.in-Some.ensures.value in
    let same = same_back conn r c.end_late.new.self book.records _ found c.in_err-end_late.ensures.err refl in
    rw (← c.self.view_is) (let put : List (ℕ × Record) → Book = λ es. record { range = c.self.inside.range; last_given = c.self.inside.last_given; records = es } in let e = ap put same in search (rules, e))

pub invariant_of-self-then-generation-newer : goal.invariant_of-self-then-generation-newer
invariant_of-self-then-generation-newer c =
    let conn = c.conn.inside.0 in
    let book : Book = record { range = c.self.inside.range; last_given = c.self.inside.last_given; records = c.self.inside.records } in
    let event : BookEvent = End conn c.args.generation c.args.serial c.args.outcome in
    let r = c.in-Some.record.now in
    let found : record_at conn book ≡ Some r = sym c.in-Some.ensures.value in
    let made : c.end_late.new.self ≡ record_after event (Superseded r.generation) r = c.in_ok-end_late.ensures.ok conn c.args.generation r.generation in
    kept_after event (Superseded r.generation) conn c.self.inside.last_given r c.end_late.new.self book.records _ c.self.inside.deadlines refl refl found made refl c.self.invariant

pub returns-then-generation-newer-clause-new : goal.returns-then-generation-newer-clause-new
returns-then-generation-newer-clause-new c =
    let conn = c.conn.inside.0 in
    let book : Book = record { range = c.self.inside.range; last_given = c.self.inside.last_given; records = c.self.inside.records } in
    let event : BookEvent = End conn c.args.generation c.args.serial c.args.outcome in
    let r = c.in-Some.record.now in
    let found : record_at conn book ≡ Some r = sym c.in-Some.ensures.value in
    let plain : IsPlain event (Superseded r.generation) conn = record { of = λ n. refl; opens = refl; stays = λ es. refl } in
    let made : c.end_late.new.self ≡ record_after event (Superseded r.generation) r = c.in_ok-end_late.ensures.ok conn c.args.generation r.generation in
    rw (← c.self.view_is, ← c.conn.view_is) (written event (Superseded r.generation) conn book r c.end_late.new.self _ plain (at_late c.args.generation (λ _. Done) (record_at conn book) r found c.if-generation-newer.true) c.get_mut.ensures.ordered found made refl)

pub invariant_of-self-in_err-end : goal.invariant_of-self-in_err-end
invariant_of-self-in_err-end c =
    let conn = c.conn.inside.0 in
    let book : Book = record { range = c.self.inside.range; last_given = c.self.inside.last_given; records = c.self.inside.records } in
    let event : BookEvent = End conn c.args.generation c.args.serial c.args.outcome in
    let r = c.in-Some.record.now in
    let found : record_at conn book ≡ Some r = sym c.in-Some.ensures.value in
    kept_same conn c.self.inside.last_given r c.end.new.self book.records _ c.self.inside.deadlines found c.in_err-end.ensures.err refl c.self.invariant

pub returns-in_err-end-clause-err : goal.returns-in_err-end-clause-err
returns-in_err-end-clause-err c =
    let conn = c.conn.inside.0 in
    let book : Book = record { range = c.self.inside.range; last_given = c.self.inside.last_given; records = c.self.inside.records } in
    let event : BookEvent = End conn c.args.generation c.args.serial c.args.outcome in
    let r = c.in-Some.record.now in
    let found : record_at conn book ≡ Some r = sym c.in-Some.ensures.value in
    let same = same_back conn r c.end.new.self book.records _ found c.in_err-end.ensures.err refl in
    rw (← c.self.view_is) (let put : List (ℕ × Record) → Book = λ es. record { range = c.self.inside.range; last_given = c.self.inside.last_given; records = es } in let e = ap put same in search (rules, e))

pub invariant_of-self-2 : goal.invariant_of-self-2
invariant_of-self-2 c =
    let conn = c.conn.inside.0 in
    let book : Book = record { range = c.self.inside.range; last_given = c.self.inside.last_given; records = c.self.inside.records } in
    let event : BookEvent = End conn c.args.generation c.args.serial c.args.outcome in
    let r = c.in-Some.record.now in
    let found : record_at conn book ≡ Some r = sym c.in-Some.ensures.value in
    let made : c.end.new.self ≡ record_after event Done r = c.in_ok-end.ensures.ok conn c.args.generation in
    kept_after event Done conn c.self.inside.last_given r c.end.new.self book.records _ c.self.inside.deadlines refl refl found made refl c.self.invariant

pub returns-clause-new : goal.returns-clause-new
returns-clause-new c =
    let conn = c.conn.inside.0 in
    let book : Book = record { range = c.self.inside.range; last_given = c.self.inside.last_given; records = c.self.inside.records } in
    let event : BookEvent = End conn c.args.generation c.args.serial c.args.outcome in
    let r = c.in-Some.record.now in
    let found : record_at conn book ≡ Some r = sym c.in-Some.ensures.value in
    let plain : IsPlain event Done conn = record { of = λ n. refl; opens = refl; stays = λ es. refl } in
    let made : c.end.new.self ≡ record_after event Done r = c.in_ok-end.ensures.ok conn c.args.generation in
    rw (← c.self.view_is, ← c.conn.view_is) (written event Done conn book r c.end.new.self _ plain (at_now c.args.generation (λ _. Done) (record_at conn book) r found c.if-generation-newer.false) c.get_mut.ensures.ordered found made refl)
