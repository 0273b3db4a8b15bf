use Rattle.rl_presmap.proofs.Calls.{all_sound}
use Rattle.rl_presmap.proofs.presmap.PresMap.apply_all.Goals as goal

pub invariant_of-self-2 : goal.invariant_of-self-2
invariant_of-self-2 c =
    all_sound c.in_ok-ready.ready c.self.inside.held.items c.reserve.new.self.items c.take_each.new.held.items c.self.inside.sync c.is_open.result
    c.reserve.ensures.items c.is_open.ensures c.take_each.ensures c.self.invariant
