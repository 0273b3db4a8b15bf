use Rattle.std.proofs.Common.{◌≡◌, string_bytes, refl, sym, subst, rules}
use Rattle.serde_json.specs.Data.{string}
use Rattle.serde_json.specs.View.{view}
use Rattle.serde_json.specs.declared.value.Value.{String, the_lemmas}
use Rattle.rl_jsonread.specs.Places.{IsValueAt}
use Rattle.rl_jsonread.proofs.Begins.{text_is}
use Rattle.rl_jsonread.proofs.values.text_at.Goals as goal

pub returns : goal.returns
returns c =
    let found = c.in_ok-found.found in
    let end = c.in_ok-found.end in
    let seen : view (String found) ≡ string (string_bytes found) = search (rules, the_lemmas) in
    subst (λ x. IsValueAt c.args.depth c.args.text.now c.args.from x end) (sym seen) (text_is c.args.depth c.args.text.now c.args.from end (string_bytes found) c.in_ok-found.ensures (c.if-not-ends_at.ensures refl))
