use Rattle.std.proofs.Common.{ap, ◌∙◌}
use Rattle.std.specs.List.{filter}
use Rattle.rl_connbook.specs.Due.{is_over_at}
use Rattle.rl_connbook.proofs.Over.{over_is}
use Rattle.rl_connbook.proofs.book.ConnBook.over.Goals as goal

pub returns : goal.returns
returns c =
    let records = c.args.self.now.records in
    let is = ap (filter (is_over_at c.args.now records)) (c.as_slice.ensures ∙ c.in_ok-numbers.ensures.numbers) ∙ over_is c.args.now records c.due.ensures.ordered in
    rw is at c.over_among.ensures
