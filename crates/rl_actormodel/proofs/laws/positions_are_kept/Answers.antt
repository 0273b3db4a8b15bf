use Rattle.rl_actormodel.proofs.Positions.{positions_are_kept}
use Rattle.rl_actormodel.proofs.laws.positions_are_kept.Goals as goal

pub returns : goal.returns
returns c = positions_are_kept
