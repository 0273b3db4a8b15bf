use Rattle.rl_model.specs.Client.{new_client}
use Rattle.rl_world.proofs.Worlds.{declared_shown, named_and_fed}
use Rattle.rl_world.proofs.world.World.take_line.Goals as goal

pub returns-in_ok-feed-in-Feed : goal.returns-in_ok-feed-in-Feed
returns-in_ok-feed-in-Feed c = λ world is may.
    rw c.in-Feed.is
    (named_and_fed world c.args.self.now c.name_channel.new.self c.feed.new.self c.in-Feed.channel c.in-Feed.text c.in-Feed.count is
    c.in_ok-name_channel-in-Feed.ensures c.in_ok-feed-in-Feed.ensures (rw c.in-Feed.is at may.countable))

pub returns-in_ok-declare-in-Client : goal.returns-in_ok-declare-in-Client
returns-in_ok-declare-in-Client c = λ world is may.
    rw c.in-Client.is
    (declared_shown c.args.self.now c.declare.new.self world (new_client c.in-Client.name) c.in_ok-declare-in-Client.ensures is)
