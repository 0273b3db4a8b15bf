use Rattle.std.proofs.Common.{◌∙◌, ap, sym, ◌++◌, ◌∷◌, []}
use Rattle.rl_channel.proofs.Left.{leaves_at_push}
use Rattle.rl_channel.proofs.leaving.leaves_of.Goals as goal

pub loop-client-preserved : goal.loop-client-preserved
loop-client-preserved c =
    c.in_ok-push.ensures.ok
    ∙ ap (λ x. c.loop-client.items ++ x ∷ []) c.in_ok-leave_of.ensures
    ∙ sym (leaves_at_push c.args.place c.args.now c.args.conn.now c.loop-client.yielded c.in-Some.client c.len-index.result c.loop-client.items c.loop-client.invariant c.len-index.ensures)
