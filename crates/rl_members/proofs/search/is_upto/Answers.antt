use Rattle.rl_members.proofs.Keys.{upto_turned}
use Rattle.rl_members.proofs.search.is_upto.Goals as goal

pub returns : goal.returns
returns c = let h = upto_turned c.args.key.now c.args.member.now in cc
