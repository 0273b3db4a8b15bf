use Rattle.rl_presmap.proofs.Fresh.{orderly_logs_renew}
use Rattle.rl_presmap.proofs.laws.orderly_logs_renew.Goals as goal

pub returns : goal.returns
returns c = orderly_logs_renew
