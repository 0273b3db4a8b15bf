use Rattle.rl_wire.proofs.Direct.{one, then}
use Rattle.rl_wire.proofs.messages.put_back.Goals as goal

pub returns : goal.returns
returns c = then c.in_ok-put_some_number.ensures (then c.in_ok-put_some_moment.ensures (one c.in_ok-end_object.ensures))
