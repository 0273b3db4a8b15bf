use Rattle.std.proofs.Common.{refl, sym, subst}
use Rattle.rl_chanlog.specs.Keeps.{ChanLogView, Keeps}
use Rattle.rl_chanlog.proofs.Kept.{keeps_aged}
use Rattle.rl_chanlog.proofs.chanlog.ChanLog.age.Goals as goal

pub returns-clause-aged : goal.returns-clause-aged
returns-clause-aged c = λ parts keeps.
    let old = subst (λ (v : ChanLogView). Keeps v parts) (sym c.self.view_is) keeps in
    keeps_aged _ _ c.args.now parts c.age.ensures.head c.age.ensures.entries c.age.ensures.head refl refl old
