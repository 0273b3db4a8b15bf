use Rattle.rl_pool.proofs.Living.{live_there, live_missed}
use Rattle.rl_pool.proofs.live.lives.Goals as goal

pub returns-in-Ok : goal.returns-in-Ok
returns-in-Ok c = λ ascending. live_there c.args.id.now c.args.objects.now c.in-Ok.at _ _ c.is_live.result (c.in-Ok.ensures.place ascending) c.index-objects-at.is c.is_live.ensures

pub returns-in-Err : goal.returns-in-Err
returns-in-Err c = λ ascending. live_missed c.args.id.now c.args.objects.now _ ascending (c.in-Err.ensures.place ascending)
