use Rattle.std.proofs.Common.{ap}
use Rattle.rl_objmodel.specs.Held.{value_written, removal}
use Rattle.rl_objmodel.specs.Steps.{MapHeld}
use Rattle.rl_object.proofs.Mapped.{set_back, removed_back}
use Rattle.rl_object.proofs.maps.act.Goals as goal

pub returns-in_ok-before-in-MapSet-clause-back : goal.returns-in_ok-before-in-MapSet-clause-back
returns-in_ok-before-in-MapSet-clause-back c = set_back c.args.op.now c.in-MapSet.id c.in-MapSet.key c.as_str.result.now c.in-MapSet.value (value_written c.args.serial.now c.in_ok-value-in-MapSet.value) c.one_or_same.result c.in_ok-before-in-MapSet.before c.args.map.now.cells c.set.new.self.cells c.in-MapSet.is c.as_str.ensures c.one_or_same.ensures c.cells-cells.ensures.order c.in_ok-before-in-MapSet.ensures.before (ap (λ (m : MapHeld). m.cells) c.in_ok-before-in-MapSet.ensures.step)

pub returns-in_ok-before-in-MapRemove-clause-back : goal.returns-in_ok-before-in-MapRemove-clause-back
returns-in_ok-before-in-MapRemove-clause-back c = removed_back c.args.op.now c.in-MapRemove.id c.in-MapRemove.key c.as_str-in-MapRemove.result.now (removal c.args.serial.now c.args.now) c.one_or_same-in-MapRemove.result c.in_ok-before-in-MapRemove.before c.args.map.now.cells c.remove.new.self.cells c.in-MapRemove.is c.as_str-in-MapRemove.ensures c.one_or_same-in-MapRemove.ensures c.cells-cells.ensures.order c.in_ok-before-in-MapRemove.ensures.before (ap (λ (m : MapHeld). m.cells) c.in_ok-before-in-MapRemove.ensures.step)
