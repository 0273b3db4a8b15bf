use Rattle.std.proofs.Common.{refl, sym, subst}
use Rattle.rl_chanlog.specs.Ids.{IdsView, KeepsIds}
use Rattle.rl_chanlog.proofs.Places.{keeps_same, reordered_places}
use Rattle.rl_chanlog.proofs.ids.Ids.reserve.Goals as goal

pub returns-in_err-reserve-clause-same : goal.returns-in_err-reserve-clause-same
returns-in_err-reserve-clause-same c = λ added keeps.
    let turned = subst (λ (v : IdsView). KeepsIds v added) (sym c.self.view_is) (c.turn.ensures.same added keeps) in
    keeps_same _ _ added refl refl (reordered_places c.self.inside.recent c.reserve.new.self c.reserve.ensures.entries.2) turned

pub returns-clause-same : goal.returns-clause-same
returns-clause-same c = λ added keeps.
    let turned = subst (λ (v : IdsView). KeepsIds v added) (sym c.self.view_is) (c.turn.ensures.same added keeps) in
    keeps_same _ _ added refl refl (reordered_places c.self.inside.recent c.reserve.new.self c.reserve.ensures.entries.2) turned
