use Rattle.std.proofs.Common.{◌≡◌, true, false, sym, subst, rules}
use Rattle.serde_json.specs.Data.{boolean, null}
use Rattle.serde_json.specs.View.{view}
use Rattle.serde_json.specs.declared.value.Value.{Bool, Null, the_lemmas}
use Rattle.rl_jsonread.specs.Places.{IsValueAt}
use Rattle.rl_jsonread.proofs.Lexed.{true_lexed, false_lexed, null_lexed}
use Rattle.rl_jsonread.proofs.Begins.{boolean_is, null_is}
use Rattle.rl_jsonread.proofs.values.named_at.Goals as goal

pub returns-in-Some : goal.returns-in-Some
returns-in-Some c =
    let d = c.args.text.now in
    let end = c.in-Some.end in
    let seen : view (Bool true) ≡ boolean true = search (rules, the_lemmas) in
    subst (λ x. IsValueAt c.args.depth d c.args.from x end) (sym seen) (boolean_is c.args.depth d c.args.from end true (true_lexed d c.args.from end c.in-Some.ensures))

pub returns-in-Some-word_at : goal.returns-in-Some-word_at
returns-in-Some-word_at c =
    let d = c.args.text.now in
    let end = c.in-Some-word_at.end in
    let seen : view (Bool false) ≡ boolean false = search (rules, the_lemmas) in
    subst (λ x. IsValueAt c.args.depth d c.args.from x end) (sym seen) (boolean_is c.args.depth d c.args.from end false (false_lexed d c.args.from end c.in-Some-word_at.ensures))

pub returns : goal.returns
returns c =
    let d = c.args.text.now in
    let end = c.in_ok-end.end in
    let seen : view Null ≡ null = search (rules, the_lemmas) in
    subst (λ x. IsValueAt c.args.depth d c.args.from x end) (sym seen) (null_is c.args.depth d c.args.from end (null_lexed d c.args.from end c.in_ok-end.ensures))
