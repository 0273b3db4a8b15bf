use Rattle.rl_livemap.proofs.Weighed.{map_collected}
use Rattle.std.proofs.Common.{arith}
use Rattle.rl_livemap.proofs.collecting.collect_weighed.Goals as goal

pub returns-clause-kept : goal.returns-clause-kept
returns-clause-kept c = map_collected c.args.now c.args.cells.now c.drop_collected.new.cells c.as_slice.result.now c.args.stamps.now c.drop_collected.new.stamps c.args.weight.now c.weigh.result c.requires (omega arith) c.drop_collected.ensures.cells c.drop_collected.ensures.kept c.as_slice.ensures c.weigh.ensures
