use Rattle.rl_presmap.proofs.Taken.{held_in, heard_as, again_items, again_event}
use Rattle.rl_presmap.proofs.taking.take_up.Goals as goal

pub returns-in-Ok-clause-items : goal.returns-in-Ok-clause-items
returns-in-Ok-clause-items c =
    again_items c.args.syncing c.args.ready c.args.held.now.items c.take_again.new.held.items c.in-Ok.at
    (held_in c.args.ready c.item-2.result.now c.args.held.now.items c.as_slice.result.now c.in-Ok.at c.item-2.ensures c.as_slice.ensures.value c.requires.rising c.in-Ok.ensures.place)
    (heard_as c.args.ready c.item.result.now c.is_absent.result c.item.ensures c.is_absent.ensures c.if-is_absent.false) c.take_again.ensures.items

pub returns-in-Ok-clause-event : goal.returns-in-Ok-clause-event
returns-in-Ok-clause-event c =
    again_event c.args.ready c.args.held.now.items c.in-Ok.at c.take_again.result
    (held_in c.args.ready c.item-2.result.now c.args.held.now.items c.as_slice.result.now c.in-Ok.at c.item-2.ensures c.as_slice.ensures.value c.requires.rising c.in-Ok.ensures.place)
    (heard_as c.args.ready c.item.result.now c.is_absent.result c.item.ensures c.is_absent.ensures c.if-is_absent.false) c.take_again.ensures.event
