use Rattle.std.proofs.Common.{refl, sym, subst}
use Rattle.rl_chanlog.specs.Keeps.{ChanLogView, Keeps}
use Rattle.rl_chanlog.proofs.Kept.{keeps_reserved}
use Rattle.rl_chanlog.proofs.chanlog.ChanLog.reserve.Goals as goal

pub returns-clause-same : goal.returns-clause-same
returns-clause-same c = λ parts keeps.
    let old = subst (λ (v : ChanLogView). Keeps v parts) (sym c.self.view_is) keeps in
    let window = c.reserve.ensures in
    keeps_reserved _ _ parts window.head window.entries window.head c.reserve-2.ensures.same refl old
