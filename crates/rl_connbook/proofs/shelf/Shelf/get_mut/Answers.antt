use Rattle.std.proofs.Common.{refl, sym, ap, subst, ◌∙◌, ◌≡◌, List, ℕ}
use Rattle.std.specs.Prelude.{Some, None}
use Rattle.std.specs.Option.{ghost_name_of}
use Rattle.std.specs.List.Sorted.{IsStrictlySortedBy}
use Rattle.std.specs.Map.{lookup}
use Rattle.std.specs.BTreeMap.{is_at}
use Rattle.std.specs.Ordering.{nat_cmp}
use Rattle.slab.specs.Slab.{get}
use borrow.Follows.Closed.{read_of}
use Rattle.rl_connbook.specs.Shelf.{joined}
use Rattle.rl_connbook.proofs.Shelves.{keys_joined, found, of_slot, shelved_set, joined_set}
use Rattle.rl_connbook.proofs.shelf.Shelf.get_mut.Goals as goal

pub returns-in_err-slot : goal.returns-in_err-slot
returns-in_err-slot g c =
    let es = c.self.inside.index.entries in
    let at : lookup (is_at (nat_cmp c.args.number)) es ≡ None = sym c.in_err-slot.ensures.value in
    let none = found c.args.number es (get c.self.inside.slots) c.self.invariant.held ∙ ap (of_slot (get c.self.inside.slots)) at in
    let rises = subst (λ (ns : List ℕ). IsStrictlySortedBy nat_cmp ns) (sym (keys_joined es (get c.self.inside.slots) c.self.invariant.held)) c.self.invariant.rises in
    rw (← c.self.view_is) (rw c.from_residual.ensures (refl, record { writes_back = tt; value = sym none; ordered = rises }))

pub invariant_of-self-lent : goal.invariant_of-self-lent
invariant_of-self-lent g c = λ _. (λ w. shelved_set c.args.number c.in_ok-slot.field-0.now w c.self.inside.index.entries c.self.inside.slots c.self.invariant (sym c.in_ok-slot.ensures.value), c.self.invariant)

pub returns : goal.returns
returns g c =
    let es = c.self.inside.index.entries in
    let slot = c.in_ok-slot.field-0.now in
    let at : lookup (is_at (nat_cmp c.args.number)) es ≡ Some slot = sym c.in_ok-slot.ensures.value in
    let is = found c.args.number es (get c.self.inside.slots) c.self.invariant.held ∙ ap (of_slot (get c.self.inside.slots)) at in
    let rises = subst (λ (ns : List ℕ). IsStrictlySortedBy nat_cmp ns) (sym (keys_joined es (get c.self.inside.slots) c.self.invariant.held)) c.self.invariant.rises in
    rw (← c.self.view_is) (
      λ t. read_of (ghost_name_of c.get_mut.result) (λ (w : g.row.T.Denot). joined_set c.args.number slot w es c.self.inside.slots c.self.invariant at t) (joined es (get c.self.inside.slots)),
      record { writes_back = tt; value = c.get_mut.ensures.value ∙ sym is; ordered = rises },
    )
