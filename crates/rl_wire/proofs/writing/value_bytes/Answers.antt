use Rattle.rl_wire.proofs.Law.{written}
use Rattle.rl_wire.proofs.writing.value_bytes.Goals as goal

pub returns-clause-text : goal.returns-clause-text
returns-clause-text c = written c.args.frame.now _ _ c.in_ok-value.ensures c.in_ok-to_vec.ensures.text
