use Rattle.rl_report.proofs.Joins.{spaced_ops}
use Rattle.rl_report.proofs.bodies.push_ops.Goals as goal

pub returns : goal.returns
returns c = rw (spaced_ops c.args.ops.now) c.push_all.ensures
