use Rattle.std.proofs.Common.{sym}
use Rattle.rl_actorparts.proofs.Put_back.{rising, moves}
use Rattle.rl_actorparts.proofs.sessions.move_in.Goals as goal

pub returns-in-Some : goal.returns-in-Some
returns-in-Some c =
    moves c.args.name.now c.args.position c.args.ends c.in-Some.session.now c.move_one.new.session c.args.map.now.entries _
    (rising c.args.map.now.entries c.get_mut.ensures.ordered) (sym c.in-Some.ensures.value) c.move_one.ensures (c.get_mut.follows.holds c.move_one.new.session).0
