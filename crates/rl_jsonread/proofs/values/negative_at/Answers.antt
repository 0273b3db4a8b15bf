use Rattle.std.proofs.Common.{◌≡◌, ℤ, pos, true, int_lt, to_z-of_z, sym, ap, ◌∙◌, subst, arith, rules}
use Rattle.std.specs.Fmt.{signed_decimal}
use Rattle.serde_json.specs.Data.{number}
use Rattle.serde_json.specs.Find.{of_integer}
use Rattle.serde_json.specs.View.{view}
use Rattle.rl_jsonread.specs.Places.{IsWordAt, IsValueAt}
use Rattle.rl_jsonread.proofs.Lexed.{negative_lexed}
use Rattle.rl_jsonread.proofs.Begins.{negative_is}
use Rattle.rl_jsonread.proofs.values.negative_at.Goals as goal

pub returns : goal.returns
returns c =
    let d = c.args.text.now in
    let from = c.args.from in
    let z = c.args.number in
    let end = c.in_ok-end.end in
    let digits : c.format.result.now ≡ signed_decimal z = c.format.ensures.text ∙ ap signed_decimal (to_z-of_z c.ranges.number) in
    let below : int_lt z (pos 0) ≡ true = grind arith in
    let lexed = negative_lexed d from end z c.ranges.number (subst (λ w. IsWordAt d from w end) digits c.in_ok-end.ensures) in
    let seen : view c.from.result ≡ number (of_integer z) = search rules in
    subst (λ x. IsValueAt c.args.depth d from x end) (sym seen) (negative_is c.args.depth d from end z below c.ranges.number lexed)
