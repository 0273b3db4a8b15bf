use Rattle.rl_pool.proofs.Judged.{pool_checked}
use Rattle.rl_pool.proofs.pool.Pool.check.Goals as goal

pub returns : goal.returns
returns c = pool_checked c.check_all.result c.in_ok-site.site c.args.clock c.args.self.now c.self.inside.shelf.objects c.in_ok-made.made.objects c.args.ops.now c.as_slice.result.now c.self.view_is c.in_ok-made.ensures.objects c.as_slice.ensures c.check_all.ensures
