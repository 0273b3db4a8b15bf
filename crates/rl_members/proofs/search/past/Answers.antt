use Rattle.rl_members.proofs.Calls.{past_none, past_some}
use Rattle.rl_members.proofs.search.past.Goals as goal

pub returns-in-Some : goal.returns-in-Some
returns-in-Some c = λ rising. rw c.in-Some.is (past_some c.in-Some.key.now c.args.held.now _ _ c.count_upto.ensures.place c.split_at.ensures.back rising)

pub returns-in-None : goal.returns-in-None
returns-in-None c = λ rising. rw c.in-None.is (past_none c.args.held.now)
