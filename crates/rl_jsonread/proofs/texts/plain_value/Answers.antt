use Rattle.std.proofs.Common.{◌≡◌, length, arith}
use Rattle.serde_json.specs.View.{view}
use Rattle.rl_jsonread.proofs.Reading.{text_read}
use Rattle.rl_jsonread.proofs.texts.plain_value.Goals as goal

pub returns : goal.returns
returns c =
    let e : c.in_ok-value.end ≡ length c.args.text.now = grind arith in
    text_read c.args.text.now (view c.in_ok-value.value) c.in_ok-value.end c.in_ok-value.ensures e
