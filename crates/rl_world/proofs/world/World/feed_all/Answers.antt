use Rattle.std.proofs.Common.{arith, ◌+◌, ◌≡◌}
use Rattle.rl_model.specs.World.{feed, one_message}
use Rattle.rl_world.proofs.Worlds.{fed_more}
use Rattle.rl_world.proofs.world.World.feed_all.Goals as goal

pub loop-done-preserved : goal.loop-done-preserved
loop-done-preserved c = λ world is fits.
    let before = feed c.loop-done.done (one_message c.args.text.now) c.args.first world.past in
    let serial : c.saturating_add.result ≡ c.args.first + c.loop-done.done = omega arith in
    fed_more _ world c.loop-done.done c.args.first c.saturating_add.result (one_message c.args.text.now) serial
    (c.in_ok-feed_one.ensures (record world { past = before }) (c.loop-done.invariant world is fits))
