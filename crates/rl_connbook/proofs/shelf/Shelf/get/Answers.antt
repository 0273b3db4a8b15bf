use Rattle.std.proofs.Common.{rules, sym, ap, ◌∙◌, ◌≡◌}
use Rattle.std.specs.Prelude.{Some, None}
use Rattle.std.specs.Map.{lookup}
use Rattle.std.specs.BTreeMap.{is_at}
use Rattle.std.specs.Ordering.{nat_cmp}
use Rattle.slab.specs.Slab.{get}
use Rattle.rl_connbook.proofs.Shelves.{found, of_slot}
use Rattle.rl_connbook.proofs.shelf.Shelf.get.Goals as goal

pub returns-in_err-slot : goal.returns-in_err-slot
returns-in_err-slot g c =
    let es = c.self.inside.index.entries in
    let at : lookup (is_at (nat_cmp c.args.number)) es ≡ None = search rules in
    let is = found c.args.number es (get c.self.inside.slots) c.self.invariant.held ∙ ap (of_slot (get c.self.inside.slots)) at in
    rw (← c.self.view_is) (rw is (search rules))

pub returns : goal.returns
returns g c =
    let es = c.self.inside.index.entries in
    let at : lookup (is_at (nat_cmp c.args.number)) es ≡ Some c.in_ok-slot.slot.now = search rules in
    let is = found c.args.number es (get c.self.inside.slots) c.self.invariant.held ∙ ap (of_slot (get c.self.inside.slots)) at in
    rw (← c.self.view_is) (c.get-2.ensures ∙ sym is)
