use Rattle.rl_pool.proofs.Roots.{told_sound}
use Rattle.rl_pool.proofs.telling.told.Goals as goal

pub returns-clause-sound : goal.returns-clause-sound
returns-clause-sound c = told_sound c.shelf_of.result c.in_ok-made.made c.put_root.new.objects (c.in_ok-put_root.ensures.rising c.in_ok-made.ensures.rising) (c.in_ok-put_root.ensures.ok c.in_ok-made.ensures.rising) c.shelf_of.ensures.objects c.shelf_of.ensures.load
