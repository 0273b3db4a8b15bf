use Rattle.rl_wire.proofs.Direct.{one, then}
use Rattle.rl_wire.proofs.messages.put_number.Goals as goal

pub returns : goal.returns
returns c = rw (← c.text.ensures.value) (then (one c.in_ok-key.ensures) (one c.in_ok-u64.ensures))
