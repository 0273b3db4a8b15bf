use Rattle.rl_worldmodel.proofs.Computed.{refuses_lines}
use Rattle.rl_worldmodel.proofs.laws.refuses_lines.Goals as goal

pub returns : goal.returns
returns c = refuses_lines
