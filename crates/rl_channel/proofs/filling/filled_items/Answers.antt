use Rattle.std.proofs.Common.{arith}
use Rattle.rl_channel.proofs.Items.{filled_at_push}
use Rattle.rl_channel.proofs.filling.filled_items.Goals as goal

pub loop-item-preserved : goal.loop-item-preserved
loop-item-preserved c =
    let push = filled_at_push c.args.conn c.args.serial c.loop-item.yielded c.in-Some.item c.len-index.result c.loop-item.made c.loop-item.invariant c.len-index.ensures in
    grind (arith, push)
