use Rattle.std.proofs.Common.{◌≡◌, ℕ, ap, subst, ◌∙◌}
use Rattle.rl_model.specs.Window.{fits_at}
use Rattle.rl_chanlog.specs.Window.{WindowView, narrowed}
use Rattle.rl_chanlog.proofs.Windows.{aged_entries, aged_window}
use Rattle.rl_chanlog.proofs.window.Window.age.Goals as goal

pub invariant_of-self : goal.invariant_of-self
invariant_of-self c =
    let w = c.self.inside in
    aged_window w.entries.items c.drop_old-self-inside.new.entries.items w.weight c.drop_old-self-inside.result w.head w.newest c.now.inside.0 c.self.invariant c.drop_old-self-inside.ensures.entries c.drop_old-self-inside.ensures.weighed

pub returns-clause-entries : goal.returns-clause-entries
returns-clause-entries c =
    let w = c.self.inside in
    subst (λ (now : ℕ). c.drop_old-self-inside.new.entries.items ≡ narrowed (fits_at now) c.args.self.now.entries) c.now.view_is
    (c.drop_old-self-inside.ensures.entries
    ∙ aged_entries w.entries.items w.weight w.head w.newest c.now.inside.0 c.self.invariant
    ∙ ap (λ (v : WindowView). narrowed (fits_at c.now.inside.0) v.entries) c.self.view_is)
