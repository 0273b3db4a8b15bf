use Rattle.std.proofs.Common.{refl, sym}
use Rattle.rl_objmodel.proofs.PlacesFound.{found, missing}
use Rattle.rl_counter.proofs.sites.serial_of.Goals as goal

pub returns-in-Ok : goal.returns-in-Ok
returns-in-Ok c = λ rising. sym (found c.args.site.now c.args.sites.now c.args.sites.now c.in-Ok.at c.index-sites-at.result refl c.in-Ok.ensures.place rising)

pub returns-in-Err : goal.returns-in-Err
returns-in-Err c = λ rising. sym (missing c.args.site.now c.args.sites.now c.args.sites.now _ refl c.in-Err.ensures.place rising)
