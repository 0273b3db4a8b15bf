use Rattle.std.proofs.Common.{refl}
use Rattle.rl_ids.proofs.laws.keys_by_conn.Goals as goal

pub returns : goal.returns
returns c = λ a b. refl
