use Rattle.rl_object.proofs.Backward.{sites_back}
use Rattle.rl_object.proofs.parts.act.Goals as goal

pub returns-in-Err-clause-err_sites : goal.returns-in-Err-clause-err_sites
returns-in-Err-clause-err_sites c = sites_back c.args.serial.now c.in_ok-before.before c.args.sites.now c.put_site.new.sites c.put_back.new.sites c.requires c.in_ok-before.ensures.before c.in_ok-before.ensures.ok c.put_back.ensures.back
