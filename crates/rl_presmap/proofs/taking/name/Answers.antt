use Rattle.rl_presmap.proofs.Taken.{named_set}
use Rattle.rl_presmap.proofs.taking.name.Goals as goal

pub returns-clause-items : goal.returns-clause-items
returns-clause-items c = λ was is. named_set c.args.held.now.items c.args.at c.index_mut.result.now c.name.new.self was c.index_mut.ensures.value c.name.ensures is
