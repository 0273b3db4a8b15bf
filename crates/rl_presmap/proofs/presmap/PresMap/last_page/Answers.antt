use Rattle.rl_presmap.proofs.Calls.{begins_rising, page_rising, ended_sound}
use Rattle.rl_presmap.proofs.presmap.PresMap.last_page.Goals as goal

pub take_all-requires-clause-rising : goal.take_all-requires-clause-rising
take_all-requires-clause-rising c =
    begins_rising c.self.inside.held.items c.reserve.new.self.items c.begin.new.held.items c.self.inside.sync c.goes_on.result c.reserve.ensures.items c.begin.ensures.items c.self.invariant

pub invariant_of-self-2 : goal.invariant_of-self-2
invariant_of-self-2 c =
    ended_sound c.take_all.new.held.items c.end.new.held.items c.end.ensures.kept
    (page_rising c.args.ready c.begin.new.held.items c.take_all.new.held.items c.take_all.ensures.items
    (begins_rising c.self.inside.held.items c.reserve.new.self.items c.begin.new.held.items c.self.inside.sync c.goes_on.result c.reserve.ensures.items c.begin.ensures.items c.self.invariant))
