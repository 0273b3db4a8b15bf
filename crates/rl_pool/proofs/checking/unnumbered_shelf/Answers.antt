use Rattle.rl_pool.proofs.Judged.{copied_sound}
use Rattle.rl_pool.proofs.checking.unnumbered_shelf.Goals as goal

pub returns-clause-sound : goal.returns-clause-sound
returns-clause-sound c = copied_sound c.shelf_of.result c.args.shelf.now c.as_slice.result.now c.in_ok-copies.copies c.requires c.as_slice.ensures c.in_ok-copies.ensures c.shelf_of.ensures.objects c.shelf_of.ensures.load
