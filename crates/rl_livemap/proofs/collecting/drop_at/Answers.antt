use Rattle.rl_livemap.proofs.Dropped.{dropped_there, stayed_there, seen_collected, even_removed}
use Rattle.rl_livemap.proofs.collecting.drop_at.Goals as goal

pub returns-then-is_collected-clause-step : goal.returns-then-is_collected-clause-step
returns-then-is_collected-clause-step c = λ d.
    let e = seen_collected c.args.now c.args.cells.now c.args.stamps.now c.args.at c.requires.even c.requires.within c.as_slice.result.now c.as_slice-2.result.now c.index-as_slice-at.result c.index-as_slice-at-2.result c.is_collected.result c.as_slice.ensures c.as_slice-2.ensures c.index-as_slice-at-2.is c.is_collected.ensures in
    dropped_there c.args.now c.args.cells.now c.args.stamps.now c.args.at c.requires.even c.requires.within d c.index-as_slice-at.result c.index-as_slice-at-2.result c.is_collected.result c.remove.new.self c.remove-then-is_collected.new.self e c.if-is_collected.true c.remove.ensures.rest c.remove-then-is_collected.ensures.rest

pub returns-then-is_collected-clause-even : goal.returns-then-is_collected-clause-even
returns-then-is_collected-clause-even c = even_removed c.args.cells.now c.remove.new.self c.args.stamps.now c.remove-then-is_collected.new.self c.args.at c.requires.even c.requires.within c.remove.ensures.rest c.remove-then-is_collected.ensures.rest

pub returns-else-is_collected-clause-step : goal.returns-else-is_collected-clause-step
returns-else-is_collected-clause-step c = λ d.
    let e = seen_collected c.args.now c.args.cells.now c.args.stamps.now c.args.at c.requires.even c.requires.within c.as_slice.result.now c.as_slice-2.result.now c.index-as_slice-at.result c.index-as_slice-at-2.result c.is_collected.result c.as_slice.ensures c.as_slice-2.ensures c.index-as_slice-at-2.is c.is_collected.ensures in
    stayed_there c.args.now c.args.cells.now c.args.stamps.now c.args.at c.requires.even c.requires.within d c.index-as_slice-at.result c.index-as_slice-at-2.result c.is_collected.result e c.if-is_collected.false
