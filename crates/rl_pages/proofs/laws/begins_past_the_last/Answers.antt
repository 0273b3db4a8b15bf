use Rattle.rl_pages.proofs.Stands.{begins_past_the_last}
use Rattle.rl_pages.proofs.laws.begins_past_the_last.Goals as goal

pub returns-clause-members : goal.returns-clause-members
returns-clause-members c = begins_past_the_last

pub returns-clause-objects : goal.returns-clause-objects
returns-clause-objects c = begins_past_the_last
