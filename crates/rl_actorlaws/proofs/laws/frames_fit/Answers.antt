use Rattle.rl_actorlaws.proofs.Readable.{frames_fit}
use Rattle.rl_actorlaws.proofs.laws.frames_fit.Goals as goal

pub returns : goal.returns
returns c = frames_fit
