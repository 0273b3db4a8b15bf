use Rattle.std.proofs.Common.{sym}
use Rattle.rl_objmodel.proofs.PlacesFound.{found, missing}
use Rattle.rl_livemap.proofs.cells.found.Goals as goal

pub returns-in-Ok : goal.returns-in-Ok
returns-in-Ok c = λ rising. sym (found c.args.key.now c.args.cells.now c.as_slice-cells.result.now c.in-Ok.at c.index-cells-at.result c.as_slice-cells.ensures c.in-Ok.ensures.place rising)

pub returns-in-Err : goal.returns-in-Err
returns-in-Err c = λ rising. sym (missing c.args.key.now c.args.cells.now c.as_slice-cells.result.now _ c.as_slice-cells.ensures c.in-Err.ensures.place rising)
