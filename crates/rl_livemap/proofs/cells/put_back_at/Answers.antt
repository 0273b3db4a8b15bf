use Rattle.std.proofs.Common.{ap, sym, ◌∙◌}
use Rattle.std.specs.Prelude.{Option}
use Rattle.rl_objmodel.specs.Held.{Write}
use Rattle.rl_livemap.specs.Stamps.{place_back, stamped}
use Rattle.rl_livemap.proofs.Back.{back_over, even_over, back_out}
use Rattle.rl_livemap.proofs.Dropped.{even_removed}
use Rattle.rl_livemap.proofs.cells.put_back_at.Goals as goal

pub returns-in-Some-clause-step : goal.returns-in-Some-clause-step
returns-in-Some-clause-step c =
    back_over c.args.cells.now c.replace.new.cells c.args.stamps.now c.replace.new.stamps c.args.at c.into_parts-cell.result.0 c.into_parts-cell.result.1 c.in-Some.held c.requires.even c.requires.cell c.replace.ensures.cells c.replace.ensures.stamps c.into_parts-cell.ensures
    ∙ ap (λ (o : Option Write). place_back c.args.at o (stamped c.args.cells.now c.args.stamps.now)) (sym c.in-Some.is)

pub returns-in-Some-clause-even : goal.returns-in-Some-clause-even
returns-in-Some-clause-even c = even_over c.args.cells.now c.replace.new.cells c.args.stamps.now c.replace.new.stamps c.args.at c.into_parts-cell.result.0 c.into_parts-cell.result.1 c.requires.even c.replace.ensures.cells c.replace.ensures.stamps

pub returns-in-None-clause-step : goal.returns-in-None-clause-step
returns-in-None-clause-step c =
    back_out c.args.cells.now c.remove.new.self c.args.stamps.now c.remove-in-None.new.self c.args.at c.requires.even c.requires.cell c.remove.ensures.rest c.remove-in-None.ensures.rest
    ∙ ap (λ (o : Option Write). place_back c.args.at o (stamped c.args.cells.now c.args.stamps.now)) (sym c.in-None.is)

pub returns-in-None-clause-even : goal.returns-in-None-clause-even
returns-in-None-clause-even c = even_removed c.args.cells.now c.remove.new.self c.args.stamps.now c.remove-in-None.new.self c.args.at c.requires.even c.requires.cell c.remove.ensures.rest c.remove-in-None.ensures.rest
