use Rattle.std.proofs.Common.{◌∙◌}
use Rattle.rl_members.specs.Held.{key_at}
use Rattle.rl_members.proofs.Calls.{held_any, missed_any, remove_others, same_others}
use Rattle.rl_members.proofs.changes.take_out.Goals as goal

pub returns-in-Ok-clause-items : goal.returns-in-Ok-clause-items
returns-in-Ok-clause-items c = c.remove.ensures.items ∙ remove_others (key_at c.args.conn.now c.args.client.now) c.args.held.now.items c.as_slice.result.now c.in-Ok.at c.as_slice.ensures.value c.in-Ok.ensures.place c.requires.rising

pub returns-in-Ok-clause-removes : goal.returns-in-Ok-clause-removes
returns-in-Ok-clause-removes c = c.remove.ensures.removes ∙ held_any (key_at c.args.conn.now c.args.client.now) c.args.held.now.items c.as_slice.result.now c.in-Ok.at c.as_slice.ensures.value c.in-Ok.ensures.place c.requires.rising

pub returns-in-Err-clause-items : goal.returns-in-Err-clause-items
returns-in-Err-clause-items c = same_others (key_at c.args.conn.now c.args.client.now) c.args.held.now.items c.as_slice.result.now _ c.as_slice.ensures.value c.in-Err.ensures.place c.requires.rising

pub returns-in-Err-clause-removes : goal.returns-in-Err-clause-removes
returns-in-Err-clause-removes c = missed_any (key_at c.args.conn.now c.args.client.now) c.args.held.now.items c.as_slice.result.now _ c.as_slice.ensures.value c.in-Err.ensures.place c.requires.rising
