use Rattle.rl_livemap.proofs.Back.{back_is, back_kept, nothing_back}
use Rattle.rl_livemap.proofs.cells.put_back.Goals as goal

pub returns-in-Ok-clause-back : goal.returns-in-Ok-clause-back
returns-in-Ok-clause-back c = λ there. back_is c.args.key.now c.args.cells.now c.put_back_at.new.cells c.as_slice.result.now c.args.stamps.now c.put_back_at.new.stamps c.in-Ok.at c.args.before c.requires c.as_slice.ensures c.in-Ok.ensures.place c.put_back_at.ensures.step

pub returns-in-Ok-clause-kept : goal.returns-in-Ok-clause-kept
returns-in-Ok-clause-kept c = back_kept c.args.key.now c.args.cells.now c.put_back_at.new.cells c.as_slice.result.now c.args.stamps.now c.put_back_at.new.stamps c.in-Ok.at c.args.before c.requires c.as_slice.ensures c.in-Ok.ensures.place c.put_back_at.ensures.step c.put_back_at.ensures.even

pub returns-in-Err-clause-back : goal.returns-in-Err-clause-back
returns-in-Err-clause-back c = λ there. nothing_back c.args.key.now c.args.cells.now c.as_slice.result.now c.args.stamps.now _ c.requires c.as_slice.ensures c.in-Err.ensures.place there
