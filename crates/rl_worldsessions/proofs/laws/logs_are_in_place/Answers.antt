use Rattle.rl_worldsessions.proofs.Sessions.{logs_are_in_place}
use Rattle.rl_worldsessions.proofs.laws.logs_are_in_place.Goals as goal

pub returns : goal.returns
returns c = logs_are_in_place
