use Rattle.rl_ids.proofs.ObjectTexts.{op_serial_texts_differ}
use Rattle.rl_ids.proofs.laws.op_serial_texts_differ.Goals as goal

pub returns : goal.returns
returns c = op_serial_texts_differ
