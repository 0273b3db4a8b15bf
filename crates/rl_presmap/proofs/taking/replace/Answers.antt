use Rattle.std.proofs.Common.{arith}
use Rattle.rl_presmap.proofs.Taken.{slot_set}
use Rattle.rl_presmap.proofs.taking.replace.Goals as goal

pub returns-in-Some-clause-items : goal.returns-in-Some-clause-items
returns-in-Some-clause-items c = slot_set c.args.held.now.items c.args.at c.in-Some.one c.args.slot c.in-Some.is (omega (arith, c.requires, c.args.held.now.ok.0))
