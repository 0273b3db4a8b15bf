use Rattle.std.proofs.Common.{◌∙◌}
use Rattle.rl_members.proofs.Calls.{set_with, insert_with}
use Rattle.rl_members.proofs.changes.put.Goals as goal

pub returns-in-Ok-clause-items : goal.returns-in-Ok-clause-items
returns-in-Ok-clause-items c = c.replace.ensures.items ∙ set_with c.args.member c.args.held.now.items c.as_slice.result.now c.in-Ok.at c.as_slice.ensures.value c.in-Ok.ensures.place c.requires.rising

pub returns-in-Err-clause-items : goal.returns-in-Err-clause-items
returns-in-Err-clause-items c = c.add.ensures.items ∙ insert_with c.args.member c.args.held.now.items c.as_slice.result.now c.in-Err.at c.as_slice.ensures.value c.in-Err.ensures.place c.requires.rising
