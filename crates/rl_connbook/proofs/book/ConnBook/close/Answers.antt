use Rattle.std.proofs.Common.{◌≡◌, refl, sym}
use Rattle.std.specs.Prelude.{Some, None}
use Rattle.rl_events.specs.declared.book.BookEvent.{BookEvent}
use Rattle.rl_events.specs.declared.book.BookEvent.TheVariants.{Close}
use Rattle.rl_events.specs.declared.book.BookReply.TheVariants.{Superseded, NoRecord, Done}
use Rattle.rl_connbook.specs.Book.{Book, record_at}
use Rattle.rl_connbook.specs.Steps.{record_after}
use Rattle.rl_connbook.proofs.Changes.{IsPlain, written, unchanged, at_none, at_late, at_now}
use Rattle.rl_connbook.proofs.Timing.{kept_after, kept_moved}
use Rattle.rl_connbook.proofs.book.ConnBook.close.Goals as goal

pub returns-in_default-clause-new : goal.returns-in_default-clause-new
returns-in_default-clause-new c =
    let conn = c.conn.inside.0 in
    let book : Book = record { range = c.self.inside.range; last_given = c.self.inside.last_given; records = c.self.inside.records } in
    let event : BookEvent = Close conn c.args.generation in
    let found : record_at conn book ≡ None = sym c.in_default.ensures.value in
    rw (← c.self.view_is, ← c.conn.view_is) (unchanged event NoRecord book (at_none c.args.generation (λ _. Done) (record_at conn book) found) refl (λ es. refl) (λ r. refl))

pub invariant_of-self-then-generation-record : goal.invariant_of-self-then-generation-record
invariant_of-self-then-generation-record c =
    let conn = c.conn.inside.0 in
    let book : Book = record { range = c.self.inside.range; last_given = c.self.inside.last_given; records = c.self.inside.records } in
    let event : BookEvent = Close conn c.args.generation in
    let r = c.in-Some.record.now in
    let found : record_at conn book ≡ Some r = sym c.in-Some.ensures.value in
    kept_after event (Superseded r.generation) conn c.self.inside.last_given r r book.records _ c.self.inside.deadlines refl refl found refl refl c.self.invariant

pub returns-then-generation-record-clause-new : goal.returns-then-generation-record-clause-new
returns-then-generation-record-clause-new c =
    let conn = c.conn.inside.0 in
    let book : Book = record { range = c.self.inside.range; last_given = c.self.inside.last_given; records = c.self.inside.records } in
    let event : BookEvent = Close conn c.args.generation in
    let r = c.in-Some.record.now in
    let found : record_at conn book ≡ Some r = sym c.in-Some.ensures.value in
    let plain : IsPlain event (Superseded r.generation) conn = record { of = λ n. refl; opens = refl; stays = λ es. refl } in
    rw (← c.self.view_is, ← c.conn.view_is) (written event (Superseded r.generation) conn book r r _ plain (at_late c.args.generation (λ _. Done) (record_at conn book) r found c.if-generation-record.true) c.get_mut.ensures.ordered found refl refl)

pub invariant_of-self-2 : goal.invariant_of-self-2
invariant_of-self-2 c =
    let conn = c.conn.inside.0 in
    let book : Book = record { range = c.self.inside.range; last_given = c.self.inside.last_given; records = c.self.inside.records } in
    let event : BookEvent = Close conn c.args.generation in
    let r = c.in-Some.record.now in
    let found : record_at conn book ≡ Some r = sym c.in-Some.ensures.value in
    let made : c.close.new.self ≡ record_after event Done r = c.close.ensures conn c.args.generation in
    kept_moved event Done conn c.self.inside.last_given c.due-due.result r c.close.new.self book.records _ c.self.inside.deadlines c.postpone.new.deadlines refl found made refl c.due-due.ensures c.postpone.ensures c.self.invariant

pub returns-clause-new : goal.returns-clause-new
returns-clause-new c =
    let conn = c.conn.inside.0 in
    let book : Book = record { range = c.self.inside.range; last_given = c.self.inside.last_given; records = c.self.inside.records } in
    let event : BookEvent = Close conn c.args.generation in
    let r = c.in-Some.record.now in
    let found : record_at conn book ≡ Some r = sym c.in-Some.ensures.value in
    let plain : IsPlain event Done conn = record { of = λ n. refl; opens = refl; stays = λ es. refl } in
    let made : c.close.new.self ≡ record_after event Done r = c.close.ensures conn c.args.generation in
    rw (← c.self.view_is, ← c.conn.view_is) (written event Done conn book r c.close.new.self _ plain (at_now c.args.generation (λ _. Done) (record_at conn book) r found c.if-generation-record.false) c.get_mut.ensures.ordered found made refl)
