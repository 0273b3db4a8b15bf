use Rattle.std.proofs.Common.{ℕ, ap, sym, subst, ◌∙◌}
use Rattle.rl_chanlog.specs.Keeps.{ChanLogView, Keeps}
use Rattle.rl_chanlog.specs.Ids.{remembered_at}
use Rattle.rl_chanlog.proofs.Places.{found}
use Rattle.rl_chanlog.proofs.chanlog.ChanLog.holds_id.Goals as goal

pub returns : goal.returns
returns c = λ parts keeps.
    let old = subst (λ (v : ChanLogView). Keeps v parts) (sym c.self.view_is) keeps in
    c.place_of.ensures
    ∙ ap (λ (head : ℕ). remembered_at head c.args.id.now c.self.inside.ids) (c.head.ensures.value ∙ old.head)
    ∙ found _ c.self.inside.ids c.args.id.now parts.added old.ids old.places
