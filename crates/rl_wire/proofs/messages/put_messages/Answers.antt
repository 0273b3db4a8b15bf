use Rattle.rl_wire.proofs.Direct.{next_message}
use Rattle.rl_wire.proofs.messages.put_messages.Goals as goal

pub loop-item-preserved : goal.loop-item-preserved
loop-item-preserved c = next_message c.args.items.now c.loop-item.item-index c.item-item.result c.loop-item-test.true c.item-item.is c.loop-item.invariant c.in_ok-put_message.ensures
