use Rattle.std.proofs.Common.{arith, rules, length, ◌≤◌, ◌^◌}
use Rattle.rl_base.proofs.Digits.{pow_up}
use Rattle.rl_base.proofs.Spelled.{padded_exactly, padded_value}
use Rattle.rl_base.proofs.numerals.read_padded_decimal.Goals as goal

pub read_digits-requires-clause-room : goal.read_digits-requires-clause-room
read_digits-requires-clause-room c =
    let most : 10 ^ length c.args.bytes.now ≤ 10 ^ 38 = pow_up 10 (length c.args.bytes.now) 38 (omega arith) (omega (arith, c.if-bytes-gt-MAX_PADDED_DIGITS.false)) in
    omega (arith, most)

pub returns-clause-exactly : goal.returns-clause-exactly
returns-clause-exactly c =
    padded_exactly c.args.bytes.now c.read_digits.result (search rules) c.if-bytes-gt-MAX_PADDED_DIGITS.false c.read_digits.ensures.found c.read_digits.ensures.every

pub returns-clause-value : goal.returns-clause-value
returns-clause-value c = padded_value c.args.bytes.now c.read_digits.result c.read_digits.ensures.found
