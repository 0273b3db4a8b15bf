use Rattle.rl_pool.proofs.Undoing.{last_can, rest_can, rest_back}
use Rattle.rl_pool.proofs.journal.undo_all.Goals as goal

pub undo-requires : goal.undo-requires
undo-requires c = last_can c.args.ops.now c.in-Some.step c.loop-step.objects c.loop-step.left.items c.pop.new.self.items c.in-Some.ensures.items c.loop-step.invariant.can

pub loop-step-preserved : goal.loop-step-preserved
loop-step-preserved c = record {
  can = rest_can c.args.ops.now c.in-Some.step c.loop-step.objects c.loop-step.left.items c.pop.new.self.items c.undo.new.objects c.in-Some.ensures.items c.undo.ensures c.loop-step.invariant.can;
  back = rest_back c.args.ops.now c.in-Some.step c.loop-step.objects c.loop-step.left.items c.pop.new.self.items c.undo.new.objects _ c.in-Some.ensures.items c.undo.ensures c.loop-step.invariant.back;
}
