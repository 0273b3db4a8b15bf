use Rattle.std.proofs.Common.{ap, ◌∙◌}
use Rattle.rl_objmodel.specs.Steps.{entry_write}
use Rattle.rl_livemap.proofs.Merged.{held_more, pair_is}
use Rattle.rl_livemap.proofs.livemap.LiveMap.set_all.Goals as goal

pub loop-entry-preserved : goal.loop-entry-preserved
loop-entry-preserved c =
    let d = c.entry-item.result in
    let i = c.loop-entry.entry-index in
    let entries = c.args.entries.now in
    let serial = c.args.serial.now in
    let same = pair_is c.as_str.result.now c.in_ok-value.value d c.as_str.ensures c.in_ok-value.ensures ∙ c.entry-item.is in
    held_more (entry_write serial) entries i d c.args.self.now c.loop-entry.self c.set.new.self (entry_write serial (c.as_str.result.now, c.in_ok-value.value)) c.loop-entry-test.true c.loop-entry.invariant (ap (entry_write serial) same) c.in_ok-set.ensures.step
