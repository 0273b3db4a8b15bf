use Rattle.rl_worldtold.proofs.Accounts.{all_accounted_for}
use Rattle.rl_worldtold.proofs.laws.all_accounted_for.Goals as goal

pub returns : goal.returns
returns c = all_accounted_for
