use Rattle.rl_lanes.proofs.Following.{lanes_hold}
use Rattle.rl_lanes.proofs.laws.lanes_hold.Goals as goal

pub returns : goal.returns
returns c = lanes_hold
