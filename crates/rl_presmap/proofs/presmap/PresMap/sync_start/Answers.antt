use Rattle.rl_presmap.proofs.Calls.{opened_sound}
use Rattle.rl_presmap.proofs.presmap.PresMap.sync_start.Goals as goal

pub invariant_of-self : goal.invariant_of-self
invariant_of-self c = opened_sound c.self.inside.held.items c.open.new.held.items c.self.inside.sync c.open.ensures.items c.self.invariant
