use Rattle.rl_ids.proofs.ObjectTexts.{op_serial_value}
use Rattle.rl_ids.proofs.serials.read_op_serial.Goals as goal

pub returns-clause-value : goal.returns-clause-value
returns-clause-value c = op_serial_value c.args.text.now c.op_serial_in.result c.op_serial_in.ensures.found c.op_serial_in.ensures.every
