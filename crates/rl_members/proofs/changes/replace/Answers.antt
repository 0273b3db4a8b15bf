use Rattle.std.proofs.Common.{arith}
use Rattle.rl_members.proofs.Undoing.{replaced_back}
use Rattle.rl_members.proofs.changes.replace.Goals as goal

pub returns-clause-undone : goal.returns-clause-undone
returns-clause-undone c = replaced_back c.args.held.now.items c.args.at c.replace.result c.index_mut.result.now c.replace.new.dest c.replace.ensures.value c.index_mut.ensures.value (omega (arith, c.requires, c.args.held.now.ok.0))
