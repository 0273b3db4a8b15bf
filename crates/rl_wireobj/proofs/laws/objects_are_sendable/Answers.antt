use Rattle.rl_wireobj.proofs.Fits.{state_fits}
use Rattle.rl_wireobj.proofs.laws.objects_are_sendable.Goals as goal

pub returns : goal.returns
returns c = state_fits
