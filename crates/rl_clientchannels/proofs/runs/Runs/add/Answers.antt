use Rattle.rl_clientchannels.proofs.Ends.{ok_so, err_so}
use Rattle.rl_clientchannels.proofs.Turns.{added, not_added}
use Rattle.rl_clientchannels.proofs.runs.Runs.add.Goals as goal

pub returns-clause-ok : goal.returns-clause-ok
returns-clause-ok c =
    rw (← c.self.view_is) (ok_so c.push.result c.push.ensures.ok (λ pushed. added (c.args.place, c.args.body) c.at_mut.result.now c.self.inside.runs c.len-count.result _ c.len-count.ensures c.if-count-eq0.false c.at_mut.ensures.value pushed))

pub returns-clause-err : goal.returns-clause-err
returns-clause-err c =
    rw (← c.self.view_is) (err_so c.push.result c.push.ensures.err (λ same. not_added c.at_mut.result.now c.self.inside.runs c.len-count.result _ c.at_mut.ensures.value same))
