use Rattle.rl_presmap.proofs.ByKey.{all_go_by_key}
use Rattle.rl_presmap.proofs.laws.all_go_by_key.Goals as goal

pub returns : goal.returns
returns c = all_go_by_key
