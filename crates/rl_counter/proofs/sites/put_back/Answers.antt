use Rattle.std.proofs.Common.{◌∙◌}
use Rattle.rl_objmodel.proofs.PlacesFound.{not_missed}
use Rattle.rl_objmodel.proofs.PlacesBack.{placed_restored, placed_rising}
use Rattle.rl_counter.proofs.sites.put_back.Goals as goal

pub returns-in-Ok-clause-back : goal.returns-in-Ok-clause-back
returns-in-Ok-clause-back c = λ rising there. c.put_back_at.ensures ∙ placed_restored c.args.site.now c.args.before c.args.sites.now c.as_slice.result.now c.in-Ok.at c.as_slice.ensures c.in-Ok.ensures.place rising

pub returns-in-Ok-clause-rising : goal.returns-in-Ok-clause-rising
returns-in-Ok-clause-rising c = λ rising. placed_rising c.args.site.now c.args.before c.args.sites.now c.as_slice.result.now c.put_back_at.new.sites c.in-Ok.at c.as_slice.ensures c.in-Ok.ensures.place rising c.put_back_at.ensures

pub returns-in-Err-clause-back : goal.returns-in-Err-clause-back
returns-in-Err-clause-back c = λ rising there. not_missed c.args.site.now c.args.sites.now c.as_slice.result.now _ c.as_slice.ensures c.in-Err.ensures.place rising there
