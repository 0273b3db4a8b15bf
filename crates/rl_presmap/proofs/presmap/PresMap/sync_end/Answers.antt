use Rattle.rl_presmap.proofs.Calls.{ended_sound}
use Rattle.rl_presmap.proofs.Steady.{nothing_changes, nobody_leaves}
use Rattle.rl_presmap.proofs.presmap.PresMap.sync_end.Goals as goal

pub invariant_of-self : goal.invariant_of-self
invariant_of-self c = ended_sound c.self.inside.held.items c.end.new.held.items c.end.ensures.kept c.self.invariant.rising

pub returns-clause-outside : goal.returns-clause-outside
returns-clause-outside c = λ closed.
    nothing_changes c.self.inside.held.items c.self.inside.sync c.args.self.now c.self.view_is c.self.invariant closed c.end.new.held.items c.end.ensures.kept

pub returns-clause-nobody : goal.returns-clause-nobody
returns-clause-nobody c = λ closed.
    nobody_leaves c.self.inside.held.items c.self.inside.sync c.args.self.now c.self.view_is c.self.invariant closed
    c.in_ok-events.events.0 c.end.new.events.0 c.into_list.result c.into_list.ensures c.end.ensures.events c.in_ok-events.ensures.none
