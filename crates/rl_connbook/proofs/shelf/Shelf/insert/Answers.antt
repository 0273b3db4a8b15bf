use Rattle.std.proofs.Common.{sym, ap, ◌∙◌, ◌≡◌, ◌+◌, length, cond}
use Rattle.std.specs.Prelude.{None, is_some}
use Rattle.std.specs.Map.{lookup}
use Rattle.std.specs.BTreeMap.{is_at, insert_entry}
use Rattle.std.specs.Ordering.{nat_cmp}
use Rattle.slab.specs.Slab.{get}
use Rattle.rl_connbook.specs.Shelf.{joined, IsShelved}
use Rattle.rl_connbook.proofs.Shelves.{no_slot, shelved_room, shelved_insert, joined_insert}
use Rattle.rl_connbook.proofs.shelf.Shelf.insert.Goals as goal

pub invariant_of-self-2 : goal.invariant_of-self-2
invariant_of-self-2 g c =
    let es = c.self.inside.index.entries in
    let old = c.self.inside.slots in
    let room = c.reserve.new.self in
    let shelved : IsShelved es room = shelved_room es old room c.reserve.ensures.rest_kept c.self.invariant in
    let absent : lookup (is_at (nat_cmp c.args.number)) es ≡ None = no_slot c.args.number es old c.self.invariant (rw (← c.self.view_is) at c.requires) in
    let none : c.in_ok-insert.field-0 ≡ None = c.in_ok-insert.ensures.old ∙ absent in
    let one : length c.insert.new.self.entries ≡ length es + 1 = c.in_ok-insert.ensures.len ∙ ap (λ o. length es + cond (is_some o) 0 1) none in
    let slot : c.vacant_key-slot.result ≡ c.insert_reserved.result = c.vacant_key-slot.ensures.value ∙ sym c.insert_reserved.ensures.key in
    let entries : c.insert.new.self.entries ≡ insert_entry nat_cmp es c.args.number c.insert_reserved.result = c.in_ok-insert.ensures.entries ∙ ap (λ k. insert_entry nat_cmp es c.args.number k) slot in
    shelved_insert c.args.number c.insert_reserved.result c.args.value es c.insert.new.self.entries room c.insert_reserved.new.self shelved c.insert_reserved.ensures.was_vacant entries c.insert.ensures.ordered one c.insert_reserved.ensures.updates c.insert_reserved.ensures.len

pub returns-clause-ok : goal.returns-clause-ok
returns-clause-ok g c =
    let es = c.self.inside.index.entries in
    let old = c.self.inside.slots in
    let room = c.reserve.new.self in
    let shelved : IsShelved es room = shelved_room es old room c.reserve.ensures.rest_kept c.self.invariant in
    let slot : c.vacant_key-slot.result ≡ c.insert_reserved.result = c.vacant_key-slot.ensures.value ∙ sym c.insert_reserved.ensures.key in
    let entries : c.insert.new.self.entries ≡ insert_entry nat_cmp es c.args.number c.insert_reserved.result = c.in_ok-insert.ensures.entries ∙ ap (λ k. insert_entry nat_cmp es c.args.number k) slot in
    let same = ap (λ s. insert_entry nat_cmp (joined es (get s)) c.args.number c.args.value) c.reserve.ensures.rest_kept in
    rw (← c.self.view_is) (joined_insert c.args.number c.insert_reserved.result c.args.value es c.insert.new.self.entries room c.insert_reserved.new.self shelved c.insert_reserved.ensures.was_vacant entries c.insert_reserved.ensures.updates ∙ same)
