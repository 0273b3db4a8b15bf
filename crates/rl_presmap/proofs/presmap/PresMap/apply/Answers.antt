use Rattle.rl_presmap.proofs.Calls.{applied_sound}
use Rattle.rl_presmap.proofs.presmap.PresMap.apply.Goals as goal

pub invariant_of-self-2 : goal.invariant_of-self-2
invariant_of-self-2 c =
    applied_sound c.in_ok-ready.ready c.self.inside.held.items c.reserve.new.self.items c.take_up.new.held.items c.self.inside.sync c.is_open.result
    c.reserve.ensures.items c.is_open.ensures c.take_up.ensures.items c.self.invariant
