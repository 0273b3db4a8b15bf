use Rattle.std.proofs.Common.{◌∙◌}
use Rattle.rl_objmodel.proofs.PlacesFound.{set_rising, insert_rising}
use Rattle.rl_counter.proofs.Calls.{told_set, told_kept, told_insert}
use Rattle.rl_counter.proofs.sites.tell.Goals as goal

pub returns-then-is_below-clause-ok : goal.returns-then-is_below-clause-ok
returns-then-is_below-clause-ok c = λ rising. c.set.ensures ∙ told_set c.args.one.now c.args.sites.now c.as_slice.result.now c.as_slice-in-Ok.result.now c.in-Ok.at c.index-as_slice-at.result c.is_below.result c.as_slice.ensures c.as_slice-in-Ok.ensures c.in-Ok.ensures.place c.is_below.ensures c.if-is_below.true rising

pub returns-then-is_below-clause-rising : goal.returns-then-is_below-clause-rising
returns-then-is_below-clause-rising c = λ rising. set_rising c.args.one.now.0 c.args.one.now.1 c.args.sites.now c.as_slice.result.now c.set.new.self c.in-Ok.at c.as_slice.ensures c.in-Ok.ensures.place rising c.set.ensures

pub returns-else-is_below-clause-ok : goal.returns-else-is_below-clause-ok
returns-else-is_below-clause-ok c = λ rising. told_kept c.args.one.now c.args.sites.now c.as_slice.result.now c.as_slice-in-Ok.result.now c.in-Ok.at c.index-as_slice-at.result c.is_below.result c.as_slice.ensures c.as_slice-in-Ok.ensures c.in-Ok.ensures.place c.is_below.ensures c.if-is_below.false rising

pub returns-in-Err-clause-ok : goal.returns-in-Err-clause-ok
returns-in-Err-clause-ok c = λ rising. told_insert c.insert.result c.args.one.now c.args.sites.now c.as_slice.result.now c.insert.new.self c.in-Err.at c.as_slice.ensures c.in-Err.ensures.place rising c.insert.ensures.ok

pub returns-in-Err-clause-rising : goal.returns-in-Err-clause-rising
returns-in-Err-clause-rising c = λ rising. insert_rising c.insert.result c.args.one.now.0 c.args.one.now.1 c.args.sites.now c.as_slice.result.now c.insert.new.self c.in-Err.at c.as_slice.ensures c.in-Err.ensures.place rising c.insert.ensures.ok c.insert.ensures.err
