use Rattle.rl_wire.proofs.Direct.{one, then}
use Rattle.rl_wire.proofs.messages.put_list.Goals as goal

pub returns : goal.returns
returns c = rw (← c.text.ensures.value) (then (one c.in_ok-key.ensures) (then (one c.in_ok-begin_array.ensures) (then c.in_ok-put_messages.ensures (one c.in_ok-end_array.ensures))))
