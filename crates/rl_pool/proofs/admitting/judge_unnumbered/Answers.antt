use Rattle.rl_pool.proofs.Admitted.{plain_judged}
use Rattle.rl_pool.proofs.admitting.judge_unnumbered.Goals as goal

pub returns : goal.returns
returns c =
    plain_judged c.args.now c.args.op.now c.args.shelf.now c.as_slice.result.now c.as_slice-2.result.now c.as_slice-3.result.now c.target_of.result c.find-found.result c.is_heavy_at-heavy.result c.rules_before.result c.pool_rule.result c.or_next.result
    c.requires c.as_slice.ensures c.as_slice-2.ensures c.as_slice-3.ensures c.target_of.ensures c.find-found.ensures.place c.is_heavy_at-heavy.ensures c.rules_before.ensures c.pool_rule.ensures c.or_next.ensures
