use Rattle.std.proofs.Common.{◌∙◌, ap, sym}
use Rattle.std.specs.Prelude.{map}
use Rattle.rl_objmodel.specs.Held.{shown_cell}
use Rattle.rl_objmodel.specs.Steps.{MapHeld}
use Rattle.rl_livemap.proofs.Stamped.{shown_is}
use Rattle.rl_livemap.proofs.livemap.LiveMap.cells.Goals as goal

pub returns-clause-value : goal.returns-clause-value
returns-clause-value c =
    sym (shown_is c.self.inside.cells c.self.inside.stamps c.self.invariant.kept.even) ∙ ap (λ (m : MapHeld). map shown_cell m.cells) c.self.view_is
