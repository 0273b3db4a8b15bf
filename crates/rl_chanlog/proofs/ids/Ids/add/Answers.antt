use Rattle.std.proofs.Common.{refl, sym, subst}
use Rattle.rl_chanlog.specs.Ids.{IdsView, KeepsIds}
use Rattle.rl_chanlog.proofs.Places.{keeps_next}
use Rattle.rl_chanlog.proofs.ids.Ids.add.Goals as goal

pub returns-in-Some : goal.returns-in-Some
returns-in-Some c = λ added keeps.
    let old = subst (λ (v : IdsView). KeepsIds v added) (sym c.self.view_is) keeps in
    keeps_next _ _ (record { id = c.args.id; place = c.args.place }) added refl refl (λ id. rw c.in-Some.is (c.put.ensures id)) old

pub returns-in_default : goal.returns-in_default
returns-in_default c = λ added keeps.
    let old = subst (λ (v : IdsView). KeepsIds v added) (sym c.self.view_is) keeps in
    keeps_next _ _ (record { id = c.args.id; place = c.args.place }) added refl refl (λ id. rw c.in_default.is refl) old
