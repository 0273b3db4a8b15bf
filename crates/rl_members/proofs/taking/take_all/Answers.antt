use Rattle.std.proofs.Common.{◌≡◌, ◌∷◌, false, suc, List, length, ap, sym, subst, ◌∙◌, arith}
use Rattle.std.specs.Prelude.{nat_lt}
use Rattle.std.specs.Vec.{vec_capacity}
use Rattle.rl_numbers.specs.declared.limits.TheConstants.{MAX_MEMBERS}
use Rattle.rl_types.specs.declared.presence.PresenceItem.{PresenceItem}
use Rattle.rl_members.specs.Held.{IsRising}
use Rattle.rl_members.proofs.Undoing.{items_more, limit_more, rising_item, undone_with, undoable_with, undoable_more}
use Rattle.rl_members.proofs.taking.take_all.Goals as goal

pub loop-one-preserved : goal.loop-one-preserved
loop-one-preserved c =
    let rest = c.loop-one.one-iterator.rest.items in
    let more = c.next.new.self.rest.items in
    let held = c.loop-one.held.items in
    let new = c.take_up.new.held.items in
    let is : rest ≡ c.in-Some.one ∷ more = c.in-Some.ensures.steps.0 in
    let few = λ (h : c.are_too_many.result ≡ false). sym (c.are_too_many.ensures ∙ ap (λ (l : List PresenceItem). nat_lt MAX_MEMBERS (length l)) c.as_slice.ensures.value) ∙ h in
    let one : length rest ≡ suc (length more) = ap (λ (items : List PresenceItem). length items) is in
    record {
      items = items_more rest more c.in-Some.one held new _ is c.take_up.ensures.items c.loop-one.invariant.items;
      limit = limit_more rest more c.in-Some.one held new _ is c.take_up.ensures.items (few (c.if-are_too_many.false)) c.loop-one.invariant.limit;
      rising = subst IsRising (sym c.take_up.ensures.items) (rising_item c.in-Some.one held c.loop-one.invariant.rising);
      room = omega (arith, one, c.take_up.ensures.len, c.loop-one.invariant.room);
      capacity = omega (arith, c.take_up.ensures.capacity, c.loop-one.invariant.capacity);
      changes_room = omega (arith, one, c.push_reserved.ensures.len, c.push_reserved.ensures.capacity, c.loop-one.invariant.changes_room);
      undone = undone_with _ _ c.take_up.result _ held new c.push_reserved.ensures.items c.take_up.ensures.undone c.loop-one.invariant.undone;
      undoable = undoable_with _ _ _ c.take_up.result held new c.push_reserved.ensures.items c.take_up.ensures.undone (c.take_up.ensures.undoable _ (omega (arith, one, c.loop-one.invariant.room))) c.loop-one.invariant.undoable;
    }

pub take_all_back-requires : goal.take_all_back-requires
take_all_back-requires c =
    let rest = c.loop-one.one-iterator.rest.items in
    let more = c.next.new.self.rest.items in
    let held = c.loop-one.held.items in
    let new = c.take_up.new.held.items in
    let is : rest ≡ c.in-Some.one ∷ more = c.in-Some.ensures.steps.0 in
    let one : length rest ≡ suc (length more) = ap (λ (items : List PresenceItem). length items) is in
    let room = vec_capacity c.args.held.now in
    let are = undoable_with room c.loop-one.changes.items _ c.take_up.result held new c.push_reserved.ensures.items c.take_up.ensures.undone (c.take_up.ensures.undoable room (omega (arith, one, c.loop-one.invariant.room))) c.loop-one.invariant.undoable in
    undoable_more room (vec_capacity c.take_up.new.held) _ new (omega (arith, c.take_up.ensures.capacity, c.loop-one.invariant.capacity)) are
