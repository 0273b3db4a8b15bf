use Rattle.std.proofs.Common.{◌≡◌, [], refl, ap, sym, subst}
use Rattle.rl_numbers.specs.declared.limits.TheConstants.{MAX_REMEMBERED}
use Rattle.rl_chanlog.specs.Ids.{IdsView, KeepsIds, texts_of}
use Rattle.rl_chanlog.proofs.Places.{keeps_turned}
use Rattle.rl_chanlog.proofs.ids.Ids.turn.Goals as goal

pub returns-then-self-eq-MAX_REMEMBERED-clause-same : goal.returns-then-self-eq-MAX_REMEMBERED-clause-same
returns-then-self-eq-MAX_REMEMBERED-clause-same c = λ added keeps.
    let none : c.replace.new.dest.entries ≡ [] = rw c.replace.ensures.after c.new.ensures.empty in
    let old = subst (λ (v : IdsView). KeepsIds v added) (sym c.self.view_is) keeps in
    keeps_turned _ _ added c.if-self-eq-MAX_REMEMBERED.true refl (ap texts_of none) (rw c.replace.ensures.value refl) old
