use Rattle.std.proofs.Common.{ap, ◌∙◌}
use Rattle.rl_objmodel.specs.Held.{Cells}
use Rattle.rl_objmodel.specs.Steps.{MapHeld}
use Rattle.std.specs.Prelude.{map}
use Rattle.rl_livemap.specs.Stamps.{unnumbered, unnumbered_shown}
use Rattle.rl_livemap.proofs.Unnumbered.{map_copied, copied, made}
use Rattle.rl_livemap.proofs.livemap.LiveMap.unnumbered.Goals as goal

pub invariant_of-result : goal.invariant_of-result
invariant_of-result c = map_copied c.self.inside.weight c.self.inside.cells c.in_ok-unnumbered.field-0 c.self.inside.stamps c.in_ok-copy.field-0 c.self.invariant (c.in_ok-unnumbered.ensures ∙ ap (map unnumbered_shown) c.as_slice.ensures) c.in_ok-copy.ensures

pub returns : goal.returns
returns c =
    ap (λ (cells : Cells). made c.self.inside.created cells) (copied c.self.inside.cells c.in_ok-unnumbered.field-0 c.self.inside.stamps c.in_ok-copy.field-0 (c.in_ok-unnumbered.ensures ∙ ap (map unnumbered_shown) c.as_slice.ensures) c.in_ok-copy.ensures)
    ∙ ap (λ (m : MapHeld). record m { cells = unnumbered m.cells }) c.self.view_is
