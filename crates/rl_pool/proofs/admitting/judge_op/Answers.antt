use Rattle.rl_pool.proofs.Admitted.{none_broken, put_all}
use Rattle.rl_pool.proofs.admitting.judge_op.Goals as goal

pub returns-in-None-clause-ok : goal.returns-in-None-clause-ok
returns-in-None-clause-ok c =
    put_all c.args.now c.args.serial.now c.args.op.now c.args.shelf.now c.enter.new.shelf c.enter.result
    (none_broken c.args.now c.args.op.now c.args.shelf.now.objects c.as_slice.result.now c.as_slice-2.result.now c.target_of.result c.find-found.result c.rules_before.result c.requires.ascending c.as_slice.ensures c.as_slice-2.ensures c.target_of.ensures c.find-found.ensures.place c.rules_before.ensures c.in-None.is)
    c.enter.ensures.ok
