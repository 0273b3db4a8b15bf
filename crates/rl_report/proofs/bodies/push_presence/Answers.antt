use Rattle.rl_report.proofs.Joins.{spaced_presence}
use Rattle.rl_report.proofs.bodies.push_presence.Goals as goal

pub returns : goal.returns
returns c = rw (spaced_presence c.args.items.now) c.push_all.ensures
