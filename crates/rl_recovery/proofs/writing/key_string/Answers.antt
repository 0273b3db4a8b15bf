use Rattle.rl_recovery.proofs.Again.{written}
use Rattle.rl_recovery.proofs.writing.key_string.Goals as goal

pub returns : goal.returns
returns c = written c.args.key.now _ _ c.in_ok-value.ensures c.in_ok-to_string.ensures.text
