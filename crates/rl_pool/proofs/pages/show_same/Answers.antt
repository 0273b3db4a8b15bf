use Rattle.rl_pool.proofs.Showing.{differ}
use Rattle.rl_pool.proofs.pages.show_same.Goals as goal

pub returns-then-not-shows_same : goal.returns-then-not-shows_same
returns-then-not-shows_same c = differ c.args.objects.now c.args.others.now c.loop-one.one-index c.loop-one.at c.one-item.result c.index-others-at.result c.shows_same.result c.loop-one-test.true c.loop-one.invariant.at c.one-item.is c.index-others-at.is c.shows_same.ensures c.if-not-shows_same.true
