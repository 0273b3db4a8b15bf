use Rattle.std.proofs.Common.{◌≡◌, ◌-◌, suc, refl, ◌∙◌, arith}
use Rattle.rl_livemap.specs.Stamps.{stamped}
use Rattle.rl_livemap.proofs.Stamped.{length-stamped}
use Rattle.rl_livemap.proofs.Dropped.{none_behind, dropped_one, dropped_all, kept_dropped}
use Rattle.rl_livemap.proofs.collecting.drop_collected.Goals as goal

pub loop-at-init : goal.loop-at-init
loop-at-init c =
    let size = length-stamped c.args.cells.now c.args.stamps.now c.requires.even in
    record {
      even = c.requires.even;
      within = omega (arith, size, c.len-at.ensures);
      left = refl;
      behind = none_behind c.args.now (stamped c.args.cells.now c.args.stamps.now) c.len-at.result (omega (arith, size, c.len-at.ensures));
    }

pub drop_at-requires-clause-within : goal.drop_at-requires-clause-within
drop_at-requires-clause-within c =
    let size = length-stamped c.loop-at.cells c.loop-at.stamps c.loop-at.invariant.even in
    omega (arith, size, c.loop-at.invariant.within, c.loop-at-test.true)

pub loop-at-preserved : goal.loop-at-preserved
loop-at-preserved c =
    let xs = stamped c.loop-at.cells c.loop-at.stamps in
    let ys = stamped c.drop_at.new.cells c.drop_at.new.stamps in
    let e : c.loop-at.at ≡ suc (c.loop-at.at - 1) = omega (arith, c.loop-at-test.true) in
    let h = dropped_one c.args.now xs ys c.loop-at.at (c.loop-at.at - 1) e c.loop-at.invariant.within c.drop_at.ensures.step c.loop-at.invariant.behind in
    record {
      even = c.drop_at.ensures.even;
      within = h.within;
      left = h.left ∙ c.loop-at.invariant.left;
      behind = h.behind;
    }

pub returns-clause-kept : goal.returns-clause-kept
returns-clause-kept c =
    let none : c.loop-at.at ≡ 0 = omega arith in
    let is = dropped_all c.args.now (stamped c.args.cells.now c.args.stamps.now) (stamped c.loop-at.cells c.loop-at.stamps) c.loop-at.at none c.loop-at.invariant.left c.loop-at.invariant.behind in
    kept_dropped c.args.now c.args.cells.now c.loop-at.cells c.args.stamps.now c.loop-at.stamps c.requires is c.loop-at.invariant.even
