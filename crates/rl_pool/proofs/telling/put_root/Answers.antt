use Rattle.rl_pool.proofs.Rooted.{root_there, root_put, root_rising}
use Rattle.rl_pool.proofs.telling.put_root.Goals as goal

pub returns-in-Ok-clause-ok : goal.returns-in-Ok-clause-ok
returns-in-Ok-clause-ok c = λ ascending. root_there c.args.objects.now c.as_slice.result.now _ c.as_slice.ensures c.in-Ok.ensures.place ascending

pub returns-in_ok-bare_root-in-Err-clause-ok : goal.returns-in_ok-bare_root-in-Err-clause-ok
returns-in_ok-bare_root-in-Err-clause-ok c = λ ascending. root_put c.insert.result c.args.objects.now c.as_slice.result.now c.insert.new.self c.in-Err.at c.in_ok-bare_root-in-Err.field-0 c.as_slice.ensures c.in-Err.ensures.place ascending c.in_ok-bare_root-in-Err.ensures c.insert.ensures.ok

pub returns-in_ok-bare_root-in-Err-clause-rising : goal.returns-in_ok-bare_root-in-Err-clause-rising
returns-in_ok-bare_root-in-Err-clause-rising c = λ ascending. root_rising c.insert.result c.args.objects.now c.insert.new.self ascending (returns-in_ok-bare_root-in-Err-clause-ok c ascending) c.insert.ensures.err
