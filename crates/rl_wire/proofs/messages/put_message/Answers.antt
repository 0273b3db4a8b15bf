use Rattle.rl_wire.proofs.Direct.{one, then}
use Rattle.rl_wire.proofs.messages.put_message.Goals as goal

pub returns : goal.returns
returns c =
    then (one c.in_ok-begin_object.ensures) (then c.in_ok-put_some_text.ensures (then c.in_ok-put_some_text-2.ensures (then c.in_ok-put_some_text-3.ensures
    (then c.in_ok-put_some_text-4.ensures (then c.in_ok-put_some_text-5.ensures (one c.in_ok-end_object.ensures))))))
