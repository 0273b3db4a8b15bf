use Rattle.std.proofs.Common.{◌<◌, ◌^◌, subst, rules}
use Rattle.rl_jsonread.specs.Places.{IsWordAt}
use Rattle.rl_jsonread.proofs.Lexed.{number_lexed}
use Rattle.rl_jsonread.proofs.numbers.number_at.Goals as goal

pub returns : goal.returns
returns c =
    let n = c.guess_at-number.result in
    let fits : n < 2 ^ 64 = search rules in
    number_lexed c.args.text.now c.args.from c.in_ok-end.end n fits (subst (λ w. IsWordAt c.args.text.now c.args.from w c.in_ok-end.end) c.format.ensures.text c.in_ok-end.ensures)
