use Rattle.rl_objsync.proofs.Syncing.{syncs_are_exact}
use Rattle.rl_objsync.proofs.laws.syncs_are_exact.Goals as goal

pub returns : goal.returns
returns c = syncs_are_exact
