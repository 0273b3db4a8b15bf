use Rattle.std.proofs.Common.{◌∙◌, ap, sym, arith, set}
use Rattle.std.proofs.lemmas.List.Edits.{map_over_more}
use Rattle.rl_presmap.specs.declared.held.Held.{Held}
use Rattle.rl_presmap.specs.declared.held.Standing.TheVariants as standing
use Rattle.rl_presmap.specs.Steps.{held_as}
use Rattle.rl_presmap.proofs.syncs.mark.Goals as goal

pub loop-one-preserved : goal.loop-one-preserved
loop-one-preserved c =
    let ys = c.loop-one.one-items in
    ap (λ (one : Held). set ys c.loop-one.one-index (held_as standing.Residual one.item)) (sym c.one-item.is)
    ∙ map_over_more (λ (one : Held). held_as standing.Residual one.item) c.deref_mut-one-items.result.now ys c.loop-one.one-index c.one-item.result (omega arith) c.loop-one.invariant c.one-item.is
