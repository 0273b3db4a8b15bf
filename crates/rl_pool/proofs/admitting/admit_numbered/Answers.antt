use Rattle.std.proofs.Common.{ap, get_or}
use Rattle.rl_types.specs.declared.objects.ObjectOp.{ObjectOp}
use Rattle.rl_pool.specs.Journal.{no_op}
use Rattle.rl_pool.proofs.Undoing.{leads_on, op_any}
use Rattle.rl_pool.proofs.admitting.admit_numbered.Goals as goal

pub returns-clause-back : goal.returns-clause-back
returns-clause-back c = λ before leads.
    leads_on c.args.ops.now c.args.at c.args.serial.now (get_or c.args.ops.now c.args.at c.index-ops-at.result).op c.requires.within
    (ap (λ (x : ObjectOp). x.op) (op_any c.args.ops.now c.args.at c.index-ops-at.result no_op c.requires.within))
    c.in_ok-code.change c.args.steps.now.0 c.reserve.new.self.0 c.record.new.steps.0 c.judge_op.new.shelf.objects c.args.shelf.now.objects before
    c.reserve.ensures.items c.record.ensures c.in_ok-code.ensures.ok.back leads
