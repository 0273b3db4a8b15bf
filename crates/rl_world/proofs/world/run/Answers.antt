use Rattle.std.proofs.Common.{subst, sym, ◌+◌, ◌<◌, ◌^◌, List}
use Rattle.rl_runs.specs.declared.script.Line.{Line}
use Rattle.rl_model.specs.Script.{fed, published}
use Rattle.rl_model.specs.Limits.{AreSmallLines}
use Rattle.rl_world.proofs.Follows.{run_step}
use Rattle.rl_world.proofs.world.run.Goals as goal

pub loop-line-preserved : goal.loop-line-preserved
loop-line-preserved c =
    run_step c.as_slice-line-items.result.now c.loop-line.line-index c.line-item.result c.loop-line.world c.take_line.new.self c.loop-line-test.true
    c.line-item.is (subst (λ (xs : List Line). published xs + fed xs < 2 ^ 53) (sym c.as_slice-line-items.ensures) c.requires.few)
    (subst AreSmallLines (sym c.as_slice-line-items.ensures) c.requires.small) c.loop-line.invariant c.in_ok-take_line.ensures
