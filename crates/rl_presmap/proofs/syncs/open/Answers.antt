use Rattle.std.proofs.Common.{rules, ◌≡◌, ◌∙◌, ap}
use Rattle.std.specs.Prelude.{filter, map}
use Rattle.std.proofs.lemmas.Fn.{filter_same}
use Rattle.rl_presmap.specs.declared.held.Held.{Held}
use Rattle.rl_presmap.specs.declared.held.Standing.TheVariants as standing
use Rattle.rl_presmap.specs.Held.{is_member}
use Rattle.rl_presmap.specs.Steps.{held_as}
use Rattle.rl_presmap.proofs.syncs.open.Goals as goal

pub returns-clause-items : goal.returns-clause-items
returns-clause-items c =
    let left : c.retain.new.self.items ≡ filter is_member c.args.held.now.items = filter_same _ is_member _ (λ x b f k. search rules) _ _ c.retain.ensures.filtered in
    c.mark.ensures.items ∙ ap (map (λ (one : Held). held_as standing.Residual one.item)) left
