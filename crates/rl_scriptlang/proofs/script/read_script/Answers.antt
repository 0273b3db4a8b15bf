use Rattle.std.proofs.Common.{◌≡◌, ◌∙◌, List, [], ap, sym, subst, arith, length}
use Rattle.std.specs.Prelude.{Ok}
use Rattle.std.specs.Str.Lines.{lines}
use Rattle.std.proofs.lemmas.Bool.Decides.{nat_tests}
use Rattle.rl_runs.specs.declared.script.Line.{Line}
use Rattle.rl_model.specs.Script.{script_from}
use Rattle.rl_model.specs.Limits.{AreSmallLines}
use Rattle.rl_scriptlang.proofs.Small.{small_lines, no_more}
use Rattle.rl_scriptlang.proofs.script.read_script.Goals as goal

pub returns-clause-small : goal.returns-clause-small
returns-clause-small c =
    let none : length c.loop-rest.rest.now ≡ 0 = grind (arith, nat_tests) in
    subst AreSmallLines (sym c.into_lines.ensures.lines)
    (small_lines c.args.bytes.now c.loop-rest.seen (c.loop-rest.invariant.said ∙ no_more c.loop-rest.rest.now c.loop-rest.number c.loop-rest.seen none))
