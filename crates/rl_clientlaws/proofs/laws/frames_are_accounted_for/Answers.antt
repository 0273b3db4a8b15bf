use Rattle.rl_clientlaws.proofs.Sums.{accounted_for}
use Rattle.rl_clientlaws.proofs.laws.frames_are_accounted_for.Goals as goal

pub returns : goal.returns
returns c = accounted_for
