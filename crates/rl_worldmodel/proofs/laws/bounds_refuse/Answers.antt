use Rattle.rl_worldmodel.proofs.Computed.{bounds_refuse}
use Rattle.rl_worldmodel.proofs.laws.bounds_refuse.Goals as goal

pub returns : goal.returns
returns c = bounds_refuse
