use Rattle.std.proofs.Common.{refl}
use Rattle.rl_ids.proofs.laws.op_serials_by_place.Goals as goal

pub returns : goal.returns
returns c = λ a b. refl
