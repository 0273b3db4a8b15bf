use Rattle.std.proofs.Common.{◌≡◌, ◌+◌, ◌-◌, ◌^◌, ◌≤◌, ap, sym, subst, ◌∙◌, arith}
use Rattle.rl_model.specs.Window.{fits}
use Rattle.rl_chanlog.specs.Window.{WindowView, narrowed}
use Rattle.rl_chanlog.proofs.Windows.{added_window}
use Rattle.rl_chanlog.proofs.window.Window.add.Goals as goal

pub invariant_of-self : goal.invariant_of-self
invariant_of-self c =
    let w = c.self.inside in
    let later : w.newest ≤ c.args.entry.stamp = subst (λ (v : WindowView). v.newest ≤ c.args.entry.stamp) (sym c.self.view_is) c.requires.later in
    let place : c.args.entry.place ≡ w.head + 1 = subst (λ (v : WindowView). c.args.entry.place ≡ v.head + 1) (sym c.self.view_is) c.requires.place in
    let within = c.requires.within in
    let small : w.head + 1 ≤ 2 ^ 64 - 2 = omega (arith, place, within) in
    added_window w.entries.items c.narrow-self-inside.new.entries.items w.weight c.narrow-self-inside.result w.head w.newest c.args.entry c.self.invariant later small (c.narrow-self-inside.ensures.entries ∙ ap (narrowed fits) c.push_back_reserved.ensures.items) c.narrow-self-inside.ensures.weighed
