use Rattle.rl_pool.proofs.Admitted.{left_on, rule_on}
use Rattle.rl_pool.proofs.admitting.admit_all.Goals as goal

pub loop-at-preserved : goal.loop-at-preserved
loop-at-preserved c = record {
  sound = c.in_ok-code.ensures.ok.sound;
  rule = rule_on c.args.now c.args.ops.now c.loop-at.at c.loop-at.shelf c.admit_next.new.shelf c.loop-at-test.true c.in_ok-code.field-0 _ c.in-None.is c.in_ok-code.ensures.ok c.loop-at.invariant.rule;
  left = left_on c.args.now c.args.ops.now c.loop-at.at c.loop-at.shelf c.admit_next.new.shelf c.loop-at-test.true c.in_ok-code.field-0 _ c.in-None.is c.in_ok-code.ensures.ok c.loop-at.invariant.left;
  back = λ before leads. c.admit_next.ensures.back before (c.loop-at.invariant.back before leads);
}
