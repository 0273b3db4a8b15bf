use Rattle.std.proofs.Common.{rules, arith, sym, ◌∙◌}
use Rattle.rl_scriptlang.proofs.Numbers.{within_yes, within_below, within_above}
use Rattle.rl_scriptlang.proofs.number.number_within.Goals as goal

pub returns-then-value-low : goal.returns-then-value-low
returns-then-value-low c =
    within_below c.args.low c.args.high c.in-Some.value c.args.token.now (search rules) (sym c.as_bytes.ensures.value ∙ c.in-Some.ensures.found) c.if-value-low.true

pub returns-then-value-high : goal.returns-then-value-high
returns-then-value-high c =
    within_above c.args.low c.args.high c.in-Some.value c.args.token.now (search rules) (sym c.as_bytes.ensures.value ∙ c.in-Some.ensures.found) (omega arith) c.if-value-high.true

pub returns : goal.returns
returns c =
    within_yes c.args.low c.args.high c.in-Some.value c.args.token.now (search rules) (sym c.as_bytes.ensures.value ∙ c.in-Some.ensures.found) (omega arith) (omega arith)
