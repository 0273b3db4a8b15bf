use Rattle.std.proofs.Common.{ap, ◌∙◌}
use Rattle.rl_objmodel.specs.Steps.{told_write}
use Rattle.rl_livemap.proofs.Merged.{held_more, pair_is}
use Rattle.rl_livemap.proofs.livemap.LiveMap.tell.Goals as goal

pub loop-cell-preserved : goal.loop-cell-preserved
loop-cell-preserved c =
    let d = c.cell-item.result in
    let i = c.loop-cell.cell-index in
    let cells = c.args.cells.now in
    let same = pair_is c.as_str.result.now c.in_ok-told.told d c.as_str.ensures c.in_ok-told.ensures ∙ c.cell-item.is in
    held_more (told_write c.args.now) cells i d c.args.self.now c.loop-cell.self c.write.new.self (told_write c.args.now (c.as_str.result.now, c.in_ok-told.told)) c.loop-cell-test.true c.loop-cell.invariant (ap (told_write c.args.now) same) c.in_ok-write.ensures.step
