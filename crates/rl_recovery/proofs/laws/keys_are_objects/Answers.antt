use Rattle.rl_recovery.proofs.Plainly.{exactly}
use Rattle.rl_recovery.proofs.laws.keys_are_objects.Goals as goal

pub returns : goal.returns
returns c = exactly
