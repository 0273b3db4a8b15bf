use Rattle.rl_ids.proofs.Cuts.{cut_every}
use Rattle.rl_ids.proofs.marks.cut_at.Goals as goal

pub returns-clause-every : goal.returns-clause-every
returns-clause-every c = λ front back lacks is.
    cut_every c.args.mark c.args.text.now front back c.split_once.result c.split_once.ensures.cases c.requires lacks is
