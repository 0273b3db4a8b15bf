use Rattle.std.proofs.Common.{◌∙◌, ap, sym, ◌++◌, ◌∷◌, []}
use Rattle.rl_channel.proofs.PresenceItems.{presence_at_push}
use Rattle.rl_channel.proofs.filling.filled_presence.Goals as goal

pub loop-item-preserved : goal.loop-item-preserved
loop-item-preserved c =
    c.in_ok-push.ensures.ok
    ∙ ap (λ x. c.loop-item.made ++ x ∷ []) c.in_ok-filled_one.ensures
    ∙ sym (presence_at_push c.args.conn c.args.serial c.args.now c.loop-item.yielded c.in-Some.item c.len-index.result c.loop-item.made c.loop-item.invariant c.len-index.ensures)
