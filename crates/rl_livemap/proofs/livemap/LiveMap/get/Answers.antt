use Rattle.std.proofs.Common.{◌∙◌, ap, sym}
use Rattle.std.specs.Prelude.{option_map}
use Rattle.rl_objmodel.specs.Held.{cell_of}
use Rattle.rl_objmodel.specs.Places.{at_text}
use Rattle.rl_objmodel.specs.Steps.{MapHeld}
use Rattle.rl_livemap.specs.Stamps.{stamped}
use Rattle.rl_livemap.proofs.Stamped.{Shown, shown_is, at_shown, rising_cells}
use Rattle.rl_livemap.proofs.livemap.LiveMap.get.Goals as goal

pub returns : goal.returns
returns c =
    let cells = c.self.inside.cells in
    let stamps = c.self.inside.stamps in
    let key = c.args.key.now in
    c.found.ensures (rising_cells cells stamps c.self.invariant.kept)
    ∙ sym (ap (λ (xs : Shown). at_text key xs) (shown_is cells stamps c.self.invariant.kept.even))
    ∙ at_shown key (stamped cells stamps)
    ∙ ap (λ (m : MapHeld). option_map cell_of (at_text key m.cells)) c.self.view_is
