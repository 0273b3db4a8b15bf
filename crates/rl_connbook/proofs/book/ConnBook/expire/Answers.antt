use Rattle.std.proofs.Common.{rules, ◌≡◌, ap, ◌∙◌}
use Rattle.rl_connbook.specs.Book.{Book}
use Rattle.rl_connbook.specs.Steps.{without_all}
use Rattle.rl_connbook.specs.Due.{without_deadlines}
use Rattle.rl_connbook.proofs.Finding.{numbers_over}
use Rattle.rl_connbook.proofs.Opening.{expired_same}
use Rattle.rl_connbook.proofs.Timing.{left_is, kept_gone}
use Rattle.rl_connbook.proofs.book.ConnBook.expire.Goals as goal

pub invariant_of-self : goal.invariant_of-self
invariant_of-self c =
    let es = c.self.inside.records in
    let conns : c.in_ok-conns.conns ≡ numbers_over c.args.now es = search rules in
    let gone : c.remove_all.new.records ≡ without_all es c.in_ok-conns.conns = c.remove_all.ensures ∙ ap (without_all es) c.as_slice.ensures in
    let late : c.cancel_all.new.deadlines ≡ without_deadlines c.self.inside.deadlines c.in_ok-conns.conns = c.cancel_all.ensures ∙ ap (without_deadlines c.self.inside.deadlines) c.as_slice-2.ensures in
    kept_gone c.args.now c.self.inside.last_given es c.remove_all.new.records c.self.inside.deadlines c.cancel_all.new.deadlines c.in_ok-conns.conns conns gone late c.self.invariant

pub returns-clause-new : goal.returns-clause-new
returns-clause-new c =
    let book : Book = record { range = c.self.inside.range; last_given = c.self.inside.last_given; records = c.self.inside.records } in
    let es = book.records in
    let conns : c.in_ok-conns.conns ≡ numbers_over c.args.now es = search rules in
    let gone : c.remove_all.new.records ≡ without_all es c.in_ok-conns.conns = c.remove_all.ensures ∙ ap (without_all es) c.as_slice.ensures in
    rw (← c.self.view_is) (expired_same c.args.now book c.remove_all.new.records (left_is c.args.now es c.remove_all.new.records c.in_ok-conns.conns c.self.invariant.rises conns gone))
