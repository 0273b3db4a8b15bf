use Rattle.rl_worldlanes.proofs.Recording.{opens_again_only_after_leaving}
use Rattle.rl_worldlanes.proofs.laws.opens_again_only_after_leaving.Goals as goal

pub returns : goal.returns
returns c = opens_again_only_after_leaving
