use Rattle.rl_pool.proofs.Lighter.{collected_sound}
use Rattle.rl_pool.proofs.collecting.collect.Goals as goal

pub returns-clause-sound : goal.returns-clause-sound
returns-clause-sound c = collected_sound c.args.now c.args.shelf.now c.collect_all.new.objects c.as_slice.result.now c.all_load-shelf.result c.requires c.load_fits.ensures c.collect_all.ensures.objects c.collect_all.ensures.rising c.as_slice.ensures c.all_load-shelf.ensures
