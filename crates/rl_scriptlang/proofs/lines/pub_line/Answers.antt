use Rattle.std.proofs.Common.{sym, subst}
use Rattle.std.specs.List.{after_first}
use Rattle.rl_model.specs.Script.{Said, is_space}
use Rattle.rl_scriptlang.specs.Grammar.{Gives, tokens_after, text_after}
use Rattle.rl_scriptlang.proofs.Texts.{pub_said}
use Rattle.rl_scriptlang.proofs.lines.pub_line.Goals as goal

pub returns-in-Some : goal.returns-in-Some
returns-in-Some c =
    let told = c.in-Some.told in
    subst (λ (said : Said). Gives (λ l. l) c.publish_by.result said)
    (sym (pub_said (tokens_after c.args.rest) (after_first is_space (after_first is_space (text_after c.args.rest))) told.text.now told.first.now told.second.now told.text.now c.in-Some.ensures.0 c.in-Some.ensures.1))
    c.publish_by.ensures
