use Rattle.std.proofs.Common.{◌∙◌}
use Rattle.rl_objmodel.proofs.PlacesFound.{set_with, set_rising, insert_ok, insert_rising, not_missed}
use Rattle.rl_counter.proofs.sites.put_at.Goals as goal

pub returns-in-Ok-clause-ok : goal.returns-in-Ok-clause-ok
returns-in-Ok-clause-ok c = λ rising. c.set.ensures ∙ set_with c.args.site c.args.serial c.args.sites.now c.as_slice.result.now c.in-Ok.at c.as_slice.ensures c.in-Ok.ensures.place rising

pub returns-in-Ok-clause-rising : goal.returns-in-Ok-clause-rising
returns-in-Ok-clause-rising c = λ rising. set_rising c.args.site c.args.serial c.args.sites.now c.as_slice.result.now c.set.new.self c.in-Ok.at c.as_slice.ensures c.in-Ok.ensures.place rising c.set.ensures

pub returns-in-Err-clause-ok : goal.returns-in-Err-clause-ok
returns-in-Err-clause-ok c = λ rising. insert_ok c.insert.result c.args.site c.args.serial c.args.sites.now c.as_slice.result.now c.insert.new.self c.in-Err.at c.as_slice.ensures c.in-Err.ensures.place rising c.insert.ensures.ok

pub returns-in-Err-clause-rising : goal.returns-in-Err-clause-rising
returns-in-Err-clause-rising c = λ rising. insert_rising c.insert.result c.args.site c.args.serial c.args.sites.now c.as_slice.result.now c.insert.new.self c.in-Err.at c.as_slice.ensures c.in-Err.ensures.place rising c.insert.ensures.ok c.insert.ensures.err

pub returns-in-Err-clause-spare : goal.returns-in-Err-clause-spare
returns-in-Err-clause-spare c = λ rising there. not_missed c.args.site c.args.sites.now c.as_slice.result.now c.in-Err.at c.as_slice.ensures c.in-Err.ensures.place rising there
