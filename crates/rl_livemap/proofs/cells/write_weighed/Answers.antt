use Rattle.rl_livemap.proofs.Weighed.{map_written, map_same}
use Rattle.rl_livemap.proofs.cells.write_weighed.Goals as goal

pub returns-clause-kept : goal.returns-clause-kept
returns-clause-kept c = map_written c.args.key.now c.args.cell c.args.stamp c.args.cells.now c.write.new.cells c.args.stamps.now c.write.new.stamps c.in_ok-before.before c.args.weight.now c.in_ok-full.full c.weight_left.result c.requires c.in_ok-full.ensures c.in_ok-before.ensures.before c.in_ok-before.ensures.step c.in_ok-before.ensures.kept c.weight_left.ensures
