use Rattle.std.proofs.Common.{◌≡◌, ℕ, true, false, refl, ap, sym, subst, ◌∙◌, List}
use Rattle.std.specs.Prelude.{Some, None}
use Rattle.rl_events.specs.declared.book.BookEvent.TheVariants.{Resume}
use Rattle.rl_events.specs.declared.book.BookReply.TheVariants.{Resumed, KeyUnknown}
use Rattle.rl_connbook.specs.declared.record.Record.{Record}
use Rattle.rl_connbook.specs.Records.{raised}
use Rattle.rl_connbook.specs.Sound.{IsNumbered}
use Rattle.rl_connbook.specs.Book.{Book, record_at}
use Rattle.rl_connbook.proofs.Changes.{IsPlain, written, untouched, same_back}
use Rattle.rl_connbook.proofs.Finding.{resumed_none, resumed_one}
use Rattle.rl_connbook.proofs.Timing.{kept_same, kept_moved}
use Rattle.rl_connbook.proofs.book.ConnBook.resume.Goals as goal

pub returns-in_default-clause-reply : goal.returns-in_default-clause-reply
returns-in_default-clause-reply c =
    let number = c.number_in-number.result in
    let key = c.args.key.now in
    let book : Book = record { range = c.self.inside.range; last_given = c.self.inside.last_given; records = c.self.inside.records } in
    let here : (m : ℕ) → IsNumbered m key → number ≡ m = λ m of. c.number_in-number.ensures m (subst (IsNumbered m) (sym c.as_bytes.ensures) of) in
    let found : record_at number book ≡ None = sym c.in_default.ensures.value in
    let told = resumed_none number key book.records here c.self.invariant.sound.keyed c.get_mut.ensures.ordered found in
    rw (← c.self.view_is) (λ now. sym told)

pub returns-in_default-clause-new : goal.returns-in_default-clause-new
returns-in_default-clause-new c =
    let number = c.number_in-number.result in
    let key = c.args.key.now in
    let book : Book = record { range = c.self.inside.range; last_given = c.self.inside.last_given; records = c.self.inside.records } in
    let here : (m : ℕ) → IsNumbered m key → number ≡ m = λ m of. c.number_in-number.ensures m (subst (IsNumbered m) (sym c.as_bytes.ensures) of) in
    let found : record_at number book ≡ None = sym c.in_default.ensures.value in
    let told = resumed_none number key book.records here c.self.invariant.sound.keyed c.get_mut.ensures.ordered found in
    rw (← c.self.view_is) (λ now. untouched (Resume key now) KeyUnknown book told refl (λ es. refl) (λ n. refl))

pub invariant_of-self-then-not-may_resume : goal.invariant_of-self-then-not-may_resume
invariant_of-self-then-not-may_resume c =
    let number = c.number_in-number.result in
    let key = c.args.key.now in
    let book : Book = record { range = c.self.inside.range; last_given = c.self.inside.last_given; records = c.self.inside.records } in
    let here : (m : ℕ) → IsNumbered m key → number ≡ m = λ m of. c.number_in-number.ensures m (subst (IsNumbered m) (sym c.as_bytes.ensures) of) in
    let r = c.in-Some.record.now in
    let found : record_at number book ≡ Some r = sym c.in-Some.ensures.value in
    kept_same number c.self.inside.last_given r r book.records _ c.self.inside.deadlines found refl refl c.self.invariant

pub returns-then-not-may_resume-clause-reply : goal.returns-then-not-may_resume-clause-reply
returns-then-not-may_resume-clause-reply c =
    let number = c.number_in-number.result in
    let key = c.args.key.now in
    let book : Book = record { range = c.self.inside.range; last_given = c.self.inside.last_given; records = c.self.inside.records } in
    let here : (m : ℕ) → IsNumbered m key → number ≡ m = λ m of. c.number_in-number.ensures m (subst (IsNumbered m) (sym c.as_bytes.ensures) of) in
    let r = c.in-Some.record.now in
    let found : record_at number book ≡ Some r = sym c.in-Some.ensures.value in
    let told = resumed_one number key r book.records false here c.self.invariant.sound.keyed c.get_mut.ensures.ordered found (sym c.may_resume.ensures ∙ c.if-not-may_resume.true) in
    rw (← c.self.view_is) (λ now. sym told)

pub returns-then-not-may_resume-clause-new : goal.returns-then-not-may_resume-clause-new
returns-then-not-may_resume-clause-new c =
    let number = c.number_in-number.result in
    let key = c.args.key.now in
    let book : Book = record { range = c.self.inside.range; last_given = c.self.inside.last_given; records = c.self.inside.records } in
    let here : (m : ℕ) → IsNumbered m key → number ≡ m = λ m of. c.number_in-number.ensures m (subst (IsNumbered m) (sym c.as_bytes.ensures) of) in
    let r = c.in-Some.record.now in
    let found : record_at number book ≡ Some r = sym c.in-Some.ensures.value in
    let told = resumed_one number key r book.records false here c.self.invariant.sound.keyed c.get_mut.ensures.ordered found (sym c.may_resume.ensures ∙ c.if-not-may_resume.true) in
    let same = same_back number r r book.records _ found refl refl in
    rw (← c.self.view_is) (λ now. ap (λ (es : List (ℕ × Record)). record { range = c.self.inside.range; last_given = c.self.inside.last_given; records = es }) same ∙ untouched (Resume key now) KeyUnknown book told refl (λ es. refl) (λ n. refl))

pub invariant_of-self-2 : goal.invariant_of-self-2
invariant_of-self-2 c =
    let number = c.number_in-number.result in
    let key = c.args.key.now in
    let book : Book = record { range = c.self.inside.range; last_given = c.self.inside.last_given; records = c.self.inside.records } in
    let here : (m : ℕ) → IsNumbered m key → number ≡ m = λ m of. c.number_in-number.ensures m (subst (IsNumbered m) (sym c.as_bytes.ensures) of) in
    let r = c.in-Some.record.now in
    let found : record_at number book ≡ Some r = sym c.in-Some.ensures.value in
    let made = c.resume.ensures.new key 0 number (raised r.generation) in
    kept_moved (Resume key 0) (Resumed number (raised r.generation)) number c.self.inside.last_given c.due-due.result r c.resume.new.self book.records _ c.self.inside.deadlines c.postpone.new.deadlines refl found made refl c.due-due.ensures c.postpone.ensures c.self.invariant

pub returns-clause-reply : goal.returns-clause-reply
returns-clause-reply c =
    let number = c.number_in-number.result in
    let key = c.args.key.now in
    let book : Book = record { range = c.self.inside.range; last_given = c.self.inside.last_given; records = c.self.inside.records } in
    let here : (m : ℕ) → IsNumbered m key → number ≡ m = λ m of. c.number_in-number.ensures m (subst (IsNumbered m) (sym c.as_bytes.ensures) of) in
    let r = c.in-Some.record.now in
    let found : record_at number book ≡ Some r = sym c.in-Some.ensures.value in
    let told = resumed_one number key r book.records true here c.self.invariant.sound.keyed c.get_mut.ensures.ordered found (sym c.may_resume.ensures ∙ c.if-not-may_resume.false) in
    rw (← c.self.view_is) (λ now. ap (Resumed number) c.resume.ensures.generation ∙ sym told)

pub returns-clause-new : goal.returns-clause-new
returns-clause-new c =
    let number = c.number_in-number.result in
    let key = c.args.key.now in
    let book : Book = record { range = c.self.inside.range; last_given = c.self.inside.last_given; records = c.self.inside.records } in
    let here : (m : ℕ) → IsNumbered m key → number ≡ m = λ m of. c.number_in-number.ensures m (subst (IsNumbered m) (sym c.as_bytes.ensures) of) in
    let r = c.in-Some.record.now in
    let found : record_at number book ≡ Some r = sym c.in-Some.ensures.value in
    let told = resumed_one number key r book.records true here c.self.invariant.sound.keyed c.get_mut.ensures.ordered found (sym c.may_resume.ensures ∙ c.if-not-may_resume.false) in
    rw (← c.self.view_is) (λ now.
    let made = c.resume.ensures.new key now number (raised r.generation) in
    let plain : IsPlain (Resume key now) (Resumed number (raised r.generation)) number = record { of = λ n. refl; opens = refl; stays = λ es. refl } in
    written (Resume key now) (Resumed number (raised r.generation)) number book r c.resume.new.self _ plain told c.get_mut.ensures.ordered found made refl)
