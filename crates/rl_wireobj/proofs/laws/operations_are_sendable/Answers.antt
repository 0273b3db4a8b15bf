use Rattle.rl_wireobj.proofs.Fits.{op_fits}
use Rattle.rl_wireobj.proofs.laws.operations_are_sendable.Goals as goal

pub returns : goal.returns
returns c = op_fits
