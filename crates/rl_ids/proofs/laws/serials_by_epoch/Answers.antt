use Rattle.std.proofs.Common.{refl}
use Rattle.rl_ids.proofs.laws.serials_by_epoch.Goals as goal

pub returns : goal.returns
returns c = λ a b. refl
