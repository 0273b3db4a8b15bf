use Rattle.std.proofs.Common.{◌≡◌, ℕ, ◌+◌, List, ◌∷◌, refl, ap, sym, subst}
use Rattle.rl_types.specs.declared.messages.Entry.{Entry}
use Rattle.rl_model.specs.Verdict.{Added}
use Rattle.rl_chanlog.specs.Ids.{KeepsIds}
use Rattle.rl_chanlog.specs.Keeps.{ChanLogView, Keeps}
use Rattle.rl_chanlog.proofs.Kept.{keeps_entry}
use Rattle.rl_chanlog.proofs.chanlog.ChanLog.add.Goals as goal

pub returns-clause-added : goal.returns-clause-added
returns-clause-added c = λ parts keeps.
    let old = subst (λ (v : ChanLogView). Keeps v parts) (sym c.self.view_is) keeps in
    let place = subst (λ (v : ChanLogView). c.args.entry.place ≡ v.head + 1) (sym c.self.view_is) c.requires.place in
    let ids = subst (λ (place : ℕ). (added : List Added) → KeepsIds c.self.inside.ids added → KeepsIds c.add.new.self (record { id = c.args.id; place = place } ∷ added)) (ap (λ (e : Entry). e.place) c.entry.view_is) c.add.ensures in
    keeps_entry _ _ c.args.entry c.args.id parts place c.add-2.ensures.head c.add-2.ensures.entries c.add-2.ensures.head ids refl old
