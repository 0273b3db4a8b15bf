use Rattle.std.proofs.Common.{sym, ◌∙◌}
use Rattle.slab.specs.Slab.{get}
use Rattle.rl_connbook.proofs.Shelves.{length_joined}
use Rattle.rl_connbook.proofs.shelf.Shelf.len.Goals as goal

pub returns : goal.returns
returns g c = rw (← c.self.view_is) (c.len.ensures.len ∙ sym (length_joined c.self.inside.index.entries (get c.self.inside.slots) c.self.invariant.held))
