use Rattle.rl_counter.proofs.Calls.{newer_held, newer_missed}
use Rattle.rl_counter.proofs.sites.is_newer.Goals as goal

pub returns-in-Ok : goal.returns-in-Ok
returns-in-Ok c = λ rising. newer_held c.args.serial.now c.args.sites.now c.in-Ok.at c.index-sites-at.result c.is_below.result c.is_below.ensures c.in-Ok.ensures.place rising

pub returns-in-Err : goal.returns-in-Err
returns-in-Err c = λ rising. newer_missed c.args.serial.now c.args.sites.now _ c.in-Err.ensures.place rising
