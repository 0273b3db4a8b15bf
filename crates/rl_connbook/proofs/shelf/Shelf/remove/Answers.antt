use Rattle.std.proofs.Common.{sym, ap, ◌∙◌, ◌≡◌, ◌+◌, length}
use Rattle.std.specs.Prelude.{Some, None, cond, is_some}
use Rattle.std.specs.Map.{lookup}
use Rattle.std.specs.BTreeMap.{is_at}
use Rattle.std.specs.Ordering.{nat_cmp}
use Rattle.slab.specs.Slab.{get}
use Rattle.rl_connbook.specs.Shelf.{joined}
use Rattle.rl_connbook.proofs.Shelves.{found, of_slot, held_at, shelved_take, joined_take, absent_taken}
use Rattle.rl_connbook.proofs.shelf.Shelf.remove.Goals as goal

pub remove-requires-in-Some : goal.remove-requires-in-Some
remove-requires-in-Some g c = held_at c.args.number c.in-Some.slot c.self.inside.index.entries (get c.self.inside.slots) c.self.invariant.held (sym c.remove.ensures.value ∙ c.in-Some.is)

pub invariant_of-self : goal.invariant_of-self
invariant_of-self g c =
    let at : lookup (is_at (nat_cmp c.args.number)) c.self.inside.index.entries ≡ Some c.in-Some.slot = sym c.remove.ensures.value ∙ c.in-Some.is in
    let less : length c.remove.new.self.entries + 1 ≡ length c.self.inside.index.entries = ap (λ o. length c.remove.new.self.entries + cond (is_some o) 1 0) (sym c.in-Some.is) ∙ c.remove.ensures.len in
    shelved_take c.args.number c.in-Some.slot c.self.inside.index.entries c.remove.new.self.entries c.self.inside.slots c.remove-in-Some.new.self c.self.invariant at c.remove.ensures.entries c.remove.ensures.ordered less c.remove-in-Some.ensures.updates c.remove-in-Some.ensures.len

pub returns-in-Some : goal.returns-in-Some
returns-in-Some g c =
    let at : lookup (is_at (nat_cmp c.args.number)) c.self.inside.index.entries ≡ Some c.in-Some.slot = sym c.remove.ensures.value ∙ c.in-Some.is in
    rw (← c.self.view_is) (joined_take c.args.number c.in-Some.slot c.self.inside.index.entries c.remove.new.self.entries c.self.inside.slots c.remove-in-Some.new.self c.self.invariant at c.remove.ensures.entries c.remove-in-Some.ensures.updates)

pub returns-in_default : goal.returns-in_default
returns-in_default g c =
    let es = c.self.inside.index.entries in
    let none : lookup (is_at (nat_cmp c.args.number)) es ≡ None = sym c.remove.ensures.value ∙ c.in_default.is in
    let missing = found c.args.number es (get c.self.inside.slots) c.self.invariant.held ∙ ap (of_slot (get c.self.inside.slots)) none in
    rw (← c.self.view_is) (ap (λ xs. joined xs (get c.self.inside.slots)) (c.remove.ensures.entries ∙ absent_taken c.args.number es none) ∙ sym (absent_taken c.args.number (joined es (get c.self.inside.slots)) missing))
