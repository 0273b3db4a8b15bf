use Rattle.rl_pool.proofs.Changing.{applied_step, set_same}
use Rattle.rl_pool.proofs.changes.apply_at.Goals as goal

pub returns-in-Ok-clause-ok : goal.returns-in-Ok-clause-ok
returns-in-Ok-clause-ok c =
    applied_step c.args.serial.now c.args.op.now c.args.objects.now c.args.at c.at_mut-object.result.now c.apply.new.self c.requires c.at_mut-object.ensures.value c.args.now c.in-Ok.done c.in-Ok.stood c.changed_at.result
    c.in-Ok.ensures.outcome c.in-Ok.ensures.stood c.in-Ok.ensures.back c.in-Ok.ensures.step c.changed_at.ensures

pub returns-in-Err-clause-err : goal.returns-in-Err-clause-err
returns-in-Err-clause-err c = set_same c.args.objects.now c.args.at c.at_mut-object.result.now c.apply.new.self c.at_mut-object.ensures.value c.in-Err.ensures.err
