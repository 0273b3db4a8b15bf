use Rattle.rl_objmodel.specs.Steps.{lives_in}
use Rattle.rl_pool.specs.Live.{read_shown}
use Rattle.rl_pool.proofs.Reading.{read_more}
use Rattle.rl_pool.proofs.live.read_cells.Goals as goal

pub loop-cell-preserved : goal.loop-cell-preserved
loop-cell-preserved c = λ ascending.
    read_more (read_shown (lives_in c.args.objects.now)) c.args.cells.now c.loop-cell.cell-index c.cell-item.result _ _ c.loop-cell-test.true (c.loop-cell.invariant ascending) c.cell-item.is (c.in_ok-add_read.ensures ascending)
