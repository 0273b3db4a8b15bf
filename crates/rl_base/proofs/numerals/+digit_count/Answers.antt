use Rattle.std.proofs.Common.{arith, rules, ap, ◌/◌, ◌∙◌}
use Rattle.rl_base.proofs.Digits.{count_step, count_most}
use Rattle.std.specs.Int.Digits.{digits_of}
use Rattle.std.proofs.Common.{length, ◌≡◌, ◌+◌}
use Rattle.rl_base.proofs.numerals.+digit_count.Goals as goal

pub returns-else-number-eq0-clause-value : goal.returns-else-number-eq0-clause-value
returns-else-number-eq0-clause-value t c =
    count_step c.args.base c.args.number c.digit_count.result c.requires.low (omega (arith, c.if-number-eq0.false))
    (c.digit_count.ensures.value ∙ ap (λ b. length (digits_of c.args.base (c.args.number / b))) c.from.ensures)

pub returns-else-number-eq0-clause-most : goal.returns-else-number-eq0-clause-most
returns-else-number-eq0-clause-most t c =
    let all : c.digit_count.result + 1 ≡ length (digits_of c.args.base c.args.number) = count_step c.args.base c.args.number c.digit_count.result c.requires.low (omega (arith, c.if-number-eq0.false))
    (c.digit_count.ensures.value ∙ ap (λ b. length (digits_of c.args.base (c.args.number / b))) c.from.ensures) in
    let most = count_most c.args.base c.args.number c.requires.low (search rules) in
    omega (arith, all, most)
