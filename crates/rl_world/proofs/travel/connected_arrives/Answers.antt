use Rattle.rl_world.proofs.Carried.{connected_back}
use Rattle.rl_world.proofs.travel.connected_arrives.Goals as goal

pub returns : goal.returns
returns c = connected_back c.in_ok-frame.frame c.in_ok-arrived.arrived c.is_connected.result c.in_ok-frame.ensures c.in_ok-arrived.ensures.whole c.is_connected.ensures
