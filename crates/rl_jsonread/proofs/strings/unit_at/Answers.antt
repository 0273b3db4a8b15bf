use Rattle.std.proofs.Common.{◌≡◌, ◌+◌, ◌*◌, ◌<◌, string_bytes, refl, arith}
use Rattle.rl_jsonread.proofs.Units.{unit_read}
use Rattle.rl_jsonread.proofs.strings.unit_at.Goals as goal

pub returns : goal.returns
returns c =
    let h = c.in_ok-high.high in
    let l = c.in_ok-low.low in
    let small : h * 16 + l < 128 = omega (arith, c.in_ok-low.ensures.below) in
    unit_read c.args.text.now c.args.at c.in_ok-third_byte.third_byte c.in_ok-fourth_byte.fourth_byte h l (h * 16 + l) (string_bytes c.args.found.now) (string_bytes c.push_ascii.new.found)
    (c.if-not-is_at.ensures refl) (c.if-not-is_at-2.ensures refl) (c.if-not-is_at-3.ensures refl) (c.if-not-is_at-4.ensures refl) c.in_ok-third_byte.ensures c.in_ok-fourth_byte.ensures c.in_ok-high.ensures
    c.in_ok-low.ensures refl small c.in_ok-push_ascii.ensures
