use Rattle.std.proofs.Common.{◌≡◌, ◌≤◌, refl, sym, ◌∙◌, arith, rules}
use Rattle.rl_jsonread.proofs.Lexed.{word_found}
use Rattle.rl_jsonread.proofs.runs.word_at.Goals as goal

pub returns : goal.returns
returns c =
    let d = c.args.text.now in
    let from = c.args.from in
    let end = c.in_ok-end.end in
    let cases = c.in_ok-found.ensures.cases in
    let le : from ≤ end = omega (arith, cases.1) in
    let equal : c.in_ok-found.found.now ≡ c.args.word.now = search rules in
    word_found d from end c.args.word.now le (sym cases.0 ∙ equal) (c.if-not-ends_at.ensures refl)
