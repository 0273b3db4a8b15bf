use Rattle.std.proofs.Common.{◌≡◌, take}
use Rattle.std.specs.List.{filter}
use Rattle.rl_connbook.specs.Due.{is_over_at}
use Rattle.rl_connbook.proofs.book.ConnBook.over_among.Given as goal

-- those of the numbers so far
abbrev pub invariant-loop-number : goal.invariant-loop-number
invariant-loop-number l = l.conns ≡ filter (is_over_at l.now l.self.records) (take l.number-index l.numbers)
