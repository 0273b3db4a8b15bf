use Rattle.std.proofs.Common.{◌≡◌, ◌-◌, suc, arith}
use Rattle.rl_objmodel.specs.Held.{bare_root}
use Rattle.rl_pool.proofs.Dropping.{collected_step, collected_all}
use Rattle.rl_pool.proofs.collecting.collect_all.Goals as goal

pub loop-at-preserved : goal.loop-at-preserved
loop-at-preserved c =
    let e : c.loop-at.at ≡ suc (c.loop-at.at - 1) = omega (arith, c.loop-at-test.true) in
    record {
      within = omega (arith, c.loop-at.invariant.within);
      left = collected_step c.args.now c.args.objects.now c.loop-at.objects c.collect_at.new.objects c.loop-at.at (c.loop-at.at - 1) bare_root e c.loop-at.invariant.within c.loop-at.invariant.left c.collect_at.ensures;
    }

pub returns-clause-rising : goal.returns-clause-rising
returns-clause-rising c = λ ascending.
    let none : c.loop-at.at ≡ 0 = omega (arith, c.loop-at-test.false) in
    collected_all c.args.now c.args.objects.now c.loop-at.objects c.loop-at.at none c.loop-at.invariant.left ascending
