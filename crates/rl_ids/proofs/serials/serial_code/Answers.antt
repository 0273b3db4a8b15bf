use Rattle.std.proofs.Common.{rules, arith, ap, ◌∙◌, length, length-append, ◌+◌}
use Rattle.rl_ids.proofs.SerialTexts.{serial_pieces, epoch_length}
use Rattle.rl_ids.proofs.serials.serial_code.Goals as goal

pub push_digits-requires : goal.push_digits-requires
push_digits-requires c =
    let long = ap length c.push_ascii.ensures ∙ length-append c.epoch_code-code.result _ ∙ ap (λ n. n + 1) (ap length c.epoch_code-code.ensures ∙ epoch_length _) in
    (omega arith, (omega arith, (omega arith, omega (arith, long))))

pub returns : goal.returns
returns c =
    serial_pieces c.args.serial.now c.epoch_code-code.result c.push_ascii.new.self c.push_digits.new.self (search rules) c.push_ascii.ensures (search rules)
