use Rattle.std.proofs.Common.{arith, rules}
use Rattle.rl_base.proofs.Digits.{decimal_read}
use Rattle.rl_base.proofs.numerals.read_decimal.Goals as goal

pub returns-then-bytes-gt20-clause-every : goal.returns-then-bytes-gt20-clause-every
returns-then-bytes-gt20-clause-every c = λ n small is.
    let p = decimal_read n c.args.bytes.now small is in
    let short = p.short in
    absurd (omega (arith, short, c.if-bytes-gt20.true))

pub returns-in_err-read_digits-clause-every : goal.returns-in_err-read_digits-clause-every
returns-in_err-read_digits-clause-every c = λ n small is.
    let p = decimal_read n c.args.bytes.now small is in
    let r = c.read_digits.ensures.every n p.below p.spells in
    search (rules, r)

pub returns-in_err-number-clause-every : goal.returns-in_err-number-clause-every
returns-in_err-number-clause-every c = λ n small is.
    let p = decimal_read n c.args.bytes.now small is in
    let r = c.read_digits.ensures.every n p.below p.spells in
    search (rules, r, small)

pub returns-then-eq-clause-every : goal.returns-then-eq-clause-every
returns-then-eq-clause-every c = λ n small is.
    let p = decimal_read n c.args.bytes.now small is in
    let r = c.read_digits.ensures.every n p.below p.spells in
    search (rules, r, small)

pub returns-else-eq-clause-every : goal.returns-else-eq-clause-every
returns-else-eq-clause-every c = λ n small is.
    let p = decimal_read n c.args.bytes.now small is in
    let r = c.read_digits.ensures.every n p.below p.spells in
    search (rules, r, small, is)
