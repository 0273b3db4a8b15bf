use Rattle.rl_connbook.proofs.Over.{numbers_sorted}
use Rattle.rl_connbook.proofs.book.ConnBook.due.Goals as goal

pub returns-clause-numbers : goal.returns-clause-numbers
returns-clause-numbers c = rw (← c.self.view_is) (numbers_sorted c.args.now c.self.inside.last_given c.self.inside.records c.self.inside.deadlines c.in_ok-numbers.numbers c.sort.new.self c.self.invariant c.in_ok-numbers.ensures c.sort.ensures.permutation c.in_ok-sort.ensures.sorted)

pub returns-clause-ordered : goal.returns-clause-ordered
returns-clause-ordered c = rw (← c.self.view_is) c.self.invariant.rises
