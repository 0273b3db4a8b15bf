use Rattle.rl_model.specs.World.{one_message}
use Rattle.rl_world.proofs.Worlds.{fed_one}
use Rattle.rl_world.proofs.world.World.feed_one.Goals as goal

pub returns : goal.returns
returns c = λ world is.
    fed_one world _ c.args.self.now c.put_fed.new.machine c.put_fed.new.entries c.args.serial c.in_ok-body.body (one_message c.args.text.now)
    c.self.view_is is c.in_ok-body.ensures c.in_ok-put_fed.ensures.stands c.put_fed.ensures.setup
