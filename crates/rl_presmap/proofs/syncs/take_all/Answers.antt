use Rattle.std.proofs.Common.{◌≡◌, ◌∷◌, true, suc, List, length, ap, sym, subst, arith}
use Rattle.rl_types.specs.declared.presence.PresenceItem.{PresenceItem}
use Rattle.rl_presmap.specs.Held.{AreRising}
use Rattle.rl_presmap.proofs.Sound.{item_rising}
use Rattle.rl_presmap.proofs.Loops.{taken_more, told_more}
use Rattle.rl_presmap.proofs.syncs.take_all.Goals as goal

pub loop-one-preserved : goal.loop-one-preserved
loop-one-preserved c =
    let rest = c.loop-one.one-iterator.rest.items in
    let more = c.next.new.self.rest.items in
    let held = c.loop-one.held.items in
    let new = c.take_up.new.held.items in
    let is : rest ≡ c.in-Some.one ∷ more = c.in-Some.ensures.steps.0 in
    let one : length rest ≡ suc (length more) = ap (λ (items : List PresenceItem). length items) is in
    record {
      items = taken_more rest more c.in-Some.one held new _ is c.take_up.ensures.items c.loop-one.invariant.items;
      events = told_more rest more c.in-Some.one held new c.take_up.result c.loop-one.events.0 c.tell.new.events.0 _ is c.take_up.ensures.items c.take_up.ensures.event c.tell.ensures.items c.loop-one.invariant.events;
      rising = subst AreRising (sym c.take_up.ensures.items) (item_rising true c.in-Some.one held c.loop-one.invariant.rising);
      room = omega (arith, one, c.take_up.ensures.len, c.take_up.ensures.capacity, c.loop-one.invariant.room);
      events_room = omega (arith, one, c.tell.ensures.room, c.loop-one.invariant.events_room);
      len = omega (arith, one, c.take_up.ensures.len, c.loop-one.invariant.len);
      left = omega (arith, one, c.tell.ensures.room, c.loop-one.invariant.left);
    }
