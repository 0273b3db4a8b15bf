use Rattle.std.proofs.Common.{sym, subst}
use Rattle.rl_actorparts.specs.Runs.{Sessions}
use Rattle.rl_actorparts.specs.Numbered.{AreNamed}
use Rattle.rl_actorparts.proofs.By_number.{named_moved}
use Rattle.rl_actorparts.proofs.sessions.Sessions.move_on.Goals as goal

pub invariant_of-self : goal.invariant_of-self
invariant_of-self c =
    subst (λ (es : Sessions). AreNamed es c.self.inside.names.entries) (sym c.move_in.ensures)
    (named_moved c.args.name.now c.args.position c.args.ends c.self.inside.by_name.entries c.self.inside.names.entries c.self.invariant)
