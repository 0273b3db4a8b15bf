use Rattle.std.proofs.Common.{arith, ◌/◌, ◌%◌}
use Rattle.std.proofs.lemmas.Nat.{div-add-mod'}
use Rattle.rl_base.proofs.Digits.{found_push, every_push}
use Rattle.rl_base.proofs.numerals.+read_digits.Goals as goal

pub returns-clause-found : goal.returns-clause-found
returns-clause-found m c =
    rw (c.from.ensures, c.from-2.ensures)
    (found_push c.args.base c.args.bytes.now c.in-Some.front.now c.in-Some.last.now c.in_ok-high.high c.in_ok-digit.digit
    c.in-Some.ensures.cases.0 c.in-Some.ensures.cases.1 c.in_ok-high.ensures.found.0 c.in_ok-high.ensures.found.1
    c.in_ok-digit.ensures.found.0 c.in_ok-digit.ensures.found.1)

pub returns-clause-every : goal.returns-clause-every
returns-clause-every m c = λ n small spelled.
    let p = every_push c.args.base c.args.bytes.now c.in-Some.front.now c.in-Some.last.now n c.requires.low
    c.in-Some.ensures.cases.0 c.in-Some.ensures.cases.1 small spelled in
    grind (arith, c.in_ok-high.ensures.every (n / c.args.base) p.0 p.1, c.in_ok-digit.ensures.every (n % c.args.base) p.2 p.3, c.from.ensures, c.from-2.ensures, div-add-mod' n c.args.base)
