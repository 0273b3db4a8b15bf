use Rattle.std.proofs.Common.{rules, ◌≡◌, ◌+◌, ◌<◌, ◌^◌, true, false, refl, ap, sym, subst, ◌∙◌, arith, List, ℕ}
use Rattle.std.specs.Prelude.{is_err}
use Rattle.rl_deadline.proofs.Putting.{ok_of, err_of}
use Rattle.rl_connbook.specs.declared.record.Record.{Record}
use Rattle.rl_connbook.specs.Book.{Book, is_full, key_text}
use Rattle.rl_connbook.specs.Due.{IsKept}
use Rattle.rl_connbook.specs.Steps.{new_record}
use Rattle.rl_connbook.proofs.Finding.{inserted_last}
use Rattle.rl_connbook.proofs.Opening.{room_left, full_same, opened_new}
use Rattle.rl_connbook.proofs.Timing.{none_above, kept_back, kept_new}
use Rattle.rl_connbook.proofs.book.ConnBook.open.Goals as goal

pub returns-then-is_full-clause-new : goal.returns-then-is_full-clause-new
returns-then-is_full-clause-new c = λ now. full_same c.args.word now c.args.self.now (sym c.is_full.ensures ∙ c.if-is_full.true)

pub insert-requires : goal.insert-requires
insert-requires c = none_above (c.self.inside.last_given + 1) c.self.inside.last_given c.self.inside.records (omega arith) c.self.invariant.sound.below

pub invariant_of-self-then-is_err : goal.invariant_of-self-then-is_err
invariant_of-self-then-is_err c =
    let failed : is_err c.insert.result ≡ true = sym c.is_err.ensures.value ∙ c.if-is_err.true in
    let same : c.insert.new.self ≡ c.self.inside.records = err_of _ _ c.insert.ensures.err failed in
    let none = none_above (c.self.inside.last_given + 1) c.self.inside.last_given c.self.inside.records (omega arith) c.self.invariant.sound.below in
    let back = kept_back c.self.inside.last_given (c.self.inside.last_given + 1) c.due.result c.self.inside.records c.self.inside.deadlines c.set.new.self c.cancel.new.self none c.in_ok-set.ensures.ok c.cancel.ensures c.self.invariant in
    subst (λ (es : List (ℕ × Record)). IsKept c.self.inside.last_given es c.cancel.new.self) (sym same) back

pub invariant_of-self-2 : goal.invariant_of-self-2
invariant_of-self-2 c =
    let last = c.self.inside.last_given in
    let room = room_left c.args.self.now (sym c.is_full.ensures ∙ c.if-is_full.false) in
    let small : last + 1 < 2 ^ 32 = search (rules, room) in
    let made : c.new-record.result ≡ new_record c.in_ok-key.key = search rules in
    let key : c.new-record.result.key ≡ key_text (last + 1) c.args.word = ap (λ (r : Record). r.key) made ∙ c.in_ok-key.ensures in
    let done : is_err c.insert.result ≡ false = sym c.is_err.ensures.value ∙ c.if-is_err.false in
    kept_new (last + 1) last c.args.word c.due.result c.new-record.result c.self.inside.records c.insert.new.self c.self.inside.deadlines c.set.new.self refl small key (ok_of _ _ c.insert.ensures.ok done) c.due.ensures c.in_ok-set.ensures.ok c.self.invariant

pub returns-clause-new : goal.returns-clause-new
returns-clause-new c =
    let last = c.self.inside.last_given in
    let book : Book = record { range = c.self.inside.range; last_given = last; records = c.self.inside.records } in
    let full = sym c.is_full.ensures ∙ c.if-is_full.false in
    let room : is_full book ≡ false = rw (← c.self.view_is) at full in
    let made : c.new-record.result ≡ new_record c.in_ok-key.key = search rules in
    let key : c.new-record.result ≡ new_record (key_text (last + 1) c.args.word) = made ∙ ap new_record c.in_ok-key.ensures in
    let done : is_err c.insert.result ≡ false = sym c.is_err.ensures.value ∙ c.if-is_err.false in
    let set = ok_of _ _ c.insert.ensures.ok done ∙ inserted_last (last + 1) last c.new-record.result c.self.inside.records refl c.self.invariant.sound.below in
    rw (← c.self.view_is) (λ now. opened_new c.args.word now book c.new-record.result c.insert.new.self room key set)
