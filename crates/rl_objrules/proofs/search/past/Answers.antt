use Rattle.std.proofs.Common.{sym, ◌∙◌}
use Rattle.rl_objrules.proofs.Calls.{past_none, past_some}
use Rattle.rl_objrules.proofs.search.past.Goals as goal

pub returns-in-Some : goal.returns-in-Some
returns-in-Some c = λ ascending. rw c.in-Some.is (past_some c.in-Some.id.now c.args.objects.now _ _ (c.count_upto.ensures.place c.in-Some.id.now (sym (c.as_str.ensures.value ∙ c.object_id_code-code.ensures))) c.split_at.ensures.back ascending)

pub returns-in-None : goal.returns-in-None
returns-in-None c = λ ascending. rw c.in-None.is (past_none c.args.objects.now)
