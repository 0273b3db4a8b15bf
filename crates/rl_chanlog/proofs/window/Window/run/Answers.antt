use Rattle.std.proofs.Common.{◌+◌, ◌<◌, List, [], ◌∷◌, ◌++◌, ap, ◌∙◌, arith}
use Rattle.std.proofs.Common.{length}
use Rattle.std.proofs.lemmas.Grind.{common_steps}
use Rattle.rl_types.specs.declared.messages.Entry.{Entry}
use Rattle.rl_chanlog.proofs.Windows.{copied_next}
use Rattle.rl_chanlog.proofs.window.Window.run.Goals as goal

pub loop-at-preserved : goal.loop-at-preserved
loop-at-preserved c =
    let count = c.min-count.ensures in
    let len = c.len.ensures in
    let long = c.self.inside.entries.ok.0 in
    let at = c.loop-at-test.true in
    let within : c.args.from + c.loop-at.at < length c.self.inside.entries.items = omega (arith, count, len, long, at) in
    c.in_ok-push.ensures.ok
    ∙ ap (λ (run : List Entry). run ++ c.in_ok-copy.field-0 ∷ []) c.loop-at.invariant
    ∙ copied_next c.self.inside.entries.items c.args.from c.loop-at.at c.in_ok-copy.field-0 within (grind (arith, common_steps))
