use Rattle.std.specs.Prelude.{is_some}
use Rattle.rl_livemap.proofs.Written.{over_written, new_written, kept_written}
use Rattle.rl_livemap.proofs.Back.{stood_over, stood_new}
use Rattle.rl_livemap.proofs.cells.write.Goals as goal

pub returns-in-Ok-clause-before : goal.returns-in-Ok-clause-before
returns-in-Ok-clause-before c = stood_over c.args.key.now c.args.cell c.args.stamp c.args.cells.now c.as_slice.result.now c.args.stamps.now c.in-Ok.at c.write_over.result c.requires c.as_slice.ensures c.in-Ok.ensures.place (over_written c.args.key.now c.args.cell c.args.stamp c.args.cells.now c.as_slice.result.now c.write_over.new.cells c.args.stamps.now c.write_over.new.stamps c.in-Ok.at (is_some c.write_over.result) c.requires c.as_slice.ensures c.in-Ok.ensures.place c.write_over.ensures.changed c.write_over.ensures.cells c.write_over.ensures.stamps).tells c.write_over.ensures.before

pub returns-in-Ok-clause-step : goal.returns-in-Ok-clause-step
returns-in-Ok-clause-step c = (over_written c.args.key.now c.args.cell c.args.stamp c.args.cells.now c.as_slice.result.now c.write_over.new.cells c.args.stamps.now c.write_over.new.stamps c.in-Ok.at (is_some c.write_over.result) c.requires c.as_slice.ensures c.in-Ok.ensures.place c.write_over.ensures.changed c.write_over.ensures.cells c.write_over.ensures.stamps).step

pub returns-in-Ok-clause-kept : goal.returns-in-Ok-clause-kept
returns-in-Ok-clause-kept c = kept_written c.args.key.now c.args.cell c.args.stamp c.args.cells.now c.args.stamps.now c.write_over.new.cells c.write_over.new.stamps _ c.requires (over_written c.args.key.now c.args.cell c.args.stamp c.args.cells.now c.as_slice.result.now c.write_over.new.cells c.args.stamps.now c.write_over.new.stamps c.in-Ok.at (is_some c.write_over.result) c.requires c.as_slice.ensures c.in-Ok.ensures.place c.write_over.ensures.changed c.write_over.ensures.cells c.write_over.ensures.stamps)

pub returns-in_ok-write_new-in-Err-clause-before : goal.returns-in_ok-write_new-in-Err-clause-before
returns-in_ok-write_new-in-Err-clause-before c = stood_new c.args.key.now c.args.cell c.args.cells.now c.as_slice.result.now c.args.stamps.now c.in-Err.at c.requires c.as_slice.ensures c.in-Err.ensures.place

pub returns-in_ok-write_new-in-Err-clause-step : goal.returns-in_ok-write_new-in-Err-clause-step
returns-in_ok-write_new-in-Err-clause-step c = (new_written c.args.key.now c.args.cell c.args.stamp c.args.cells.now c.as_slice.result.now c.write_new.new.cells c.args.stamps.now c.write_new.new.stamps c.in-Err.at c.requires c.as_slice.ensures c.in-Err.ensures.place c.in_ok-write_new-in-Err.ensures.cells c.in_ok-write_new-in-Err.ensures.stamps).step

pub returns-in_ok-write_new-in-Err-clause-kept : goal.returns-in_ok-write_new-in-Err-clause-kept
returns-in_ok-write_new-in-Err-clause-kept c = kept_written c.args.key.now c.args.cell c.args.stamp c.args.cells.now c.args.stamps.now c.write_new.new.cells c.write_new.new.stamps _ c.requires (new_written c.args.key.now c.args.cell c.args.stamp c.args.cells.now c.as_slice.result.now c.write_new.new.cells c.args.stamps.now c.write_new.new.stamps c.in-Err.at c.requires c.as_slice.ensures c.in-Err.ensures.place c.in_ok-write_new-in-Err.ensures.cells c.in_ok-write_new-in-Err.ensures.stamps)
