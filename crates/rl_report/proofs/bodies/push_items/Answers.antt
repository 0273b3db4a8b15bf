use Rattle.rl_report.proofs.Joins.{spaced_items}
use Rattle.rl_report.proofs.bodies.push_items.Goals as goal

pub returns : goal.returns
returns c = rw (spaced_items c.args.items.now) c.push_all.ensures
