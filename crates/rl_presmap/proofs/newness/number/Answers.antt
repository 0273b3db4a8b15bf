use Rattle.rl_presmap.proofs.Numbers.{number_is}
use Rattle.rl_presmap.proofs.newness.number.Goals as goal

pub returns : goal.returns
returns c = number_is c.args.text.now c.read_padded_decimal.result c.read_padded_decimal.ensures.exactly c.read_padded_decimal.ensures.value
