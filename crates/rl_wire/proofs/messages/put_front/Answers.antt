use Rattle.rl_wire.proofs.Direct.{one, then}
use Rattle.rl_wire.proofs.messages.put_front.Goals as goal

pub returns : goal.returns
returns c =
    rw (← c.as_str.ensures) (then (one c.in_ok-begin_object.ensures) (then c.in_ok-put_number.ensures (then c.in_ok-put_text.ensures (then c.in_ok-put_some_serial.ensures
    (then c.in_ok-put_some_text.ensures c.in_ok-put_some_text-2.ensures)))))
