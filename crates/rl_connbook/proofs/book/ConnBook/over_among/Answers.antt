use Rattle.std.proofs.Common.{sym, ◌∙◌}
use Rattle.rl_connbook.specs.Due.{is_over_at}
use Rattle.rl_connbook.proofs.Over.{more_over, more_passed}
use Rattle.rl_connbook.proofs.book.ConnBook.over_among.Goals as goal
use Rattle.rl_connbook.proofs.book.ConnBook.over_among.Goals.{then-is_over+in_ok-push, else-is_over}

pub loop-number-preserved : goal.loop-number-preserved
loop-number-preserved c = elim c.if-is_over.branch [
  | then-is_over+in_ok-push w ↦ w.conns-is ∙ more_over (is_over_at c.args.now c.args.self.now.records) c.args.numbers.now c.loop-number.number-index c.loop-number.conns w.push.new.self c.loop-number-test.true (sym c.is_over.ensures ∙ w.if-is_over.true) c.loop-number.invariant w.in_ok-push.ensures.ok
  | else-is_over w ↦ w.conns-is ∙ more_passed (is_over_at c.args.now c.args.self.now.records) c.args.numbers.now c.loop-number.number-index c.loop-number.conns c.loop-number-test.true (sym c.is_over.ensures ∙ w.if-is_over.false) c.loop-number.invariant
]
