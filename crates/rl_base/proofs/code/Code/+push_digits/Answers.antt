use Rattle.std.proofs.Common.{arith, rules, ap, length, length-append, ◌+◌, ◌-◌, ◌∙◌}
use Rattle.rl_base.proofs.Digits.{fixed_length}
use Rattle.rl_base.proofs.code.Code.+push_digits.Goals as goal

pub push_ascii-requires : goal.push_ascii-requires
push_ascii-requires g t c =
    let a = c.args in
    let long = ap length c.push_digits.ensures ∙ length-append _ _ ∙ ap (λ n. length a.self.now + n) (fixed_length a.base (a.width - 1) _) in
    (search rules, (c.digit_glyph.ensures.ascii, omega (arith, long, c.requires.fits, c.if-width-eq0.false)))
