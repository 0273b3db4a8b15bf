use Rattle.std.proofs.Common.{◌≡◌, ◌∷◌, suc, List, length, ap, sym, subst, arith}
use Rattle.rl_types.specs.declared.presence.PresenceItem.{PresenceItem}
use Rattle.rl_presmap.specs.Held.{AreRising}
use Rattle.rl_presmap.proofs.Sound.{item_rising}
use Rattle.rl_presmap.proofs.Loops.{each_more}
use Rattle.rl_presmap.proofs.syncs.take_each.Goals as goal

pub loop-one-preserved : goal.loop-one-preserved
loop-one-preserved c =
    let rest = c.loop-one.one-iterator.rest.items in
    let more = c.next.new.self.rest.items in
    let held = c.loop-one.held.items in
    let new = c.take_one.new.held.items in
    let is : rest ≡ c.in-Some.one ∷ more = c.in-Some.ensures.steps.0 in
    let one : length rest ≡ suc (length more) = ap (λ (items : List PresenceItem). length items) is in
    record {
      items = each_more c.args.syncing rest more c.in-Some.one held new _ is c.take_one.ensures.items c.loop-one.invariant.items;
      rising = subst AreRising (sym c.take_one.ensures.items) (item_rising c.args.syncing c.in-Some.one held c.loop-one.invariant.rising);
      room = omega (arith, one, c.take_one.ensures.len, c.take_one.ensures.capacity, c.loop-one.invariant.room);
    }
