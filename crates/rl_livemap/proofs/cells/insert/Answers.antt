use Rattle.std.proofs.Common.{ℕ, List, ◌∙◌, ap}
use Rattle.std.specs.Prelude.{remove}
use Rattle.rl_livemap.proofs.Stamped.{remove_insert}
use Rattle.rl_livemap.proofs.cells.insert.Goals as goal

pub returns-then-is_err-clause-err_stamps : goal.returns-then-is_err-clause-err_stamps
returns-then-is_err-clause-err_stamps c =
    c.remove.ensures.rest ∙ ap (λ (xs : List ℕ). remove xs c.args.at) c.in_ok-insert.ensures.ok ∙ remove_insert c.args.stamps.now c.args.at c.args.stamp c.requires.stamp
