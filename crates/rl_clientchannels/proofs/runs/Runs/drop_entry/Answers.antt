use Rattle.rl_clientchannels.proofs.Turns.{entry_dropped}
use Rattle.rl_clientchannels.proofs.runs.Runs.drop_entry.Goals as goal

pub returns : goal.returns
returns c =
    rw (← c.self.view_is) (entry_dropped c.at_mut.result.now c.self.inside.runs c.len-count.result _ c.len-count.ensures c.if-count-eq0.false c.at_mut.ensures.value c.drop_last.ensures)
