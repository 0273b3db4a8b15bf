use Rattle.std.proofs.Common.{string_bytes, refl}
use Rattle.rl_jsonread.proofs.Lexed.{escape_read}
use Rattle.rl_jsonread.proofs.strings.escape_at.Goals as goal

pub returns : goal.returns
returns c =
    escape_read c.args.text.now c.args.at c.in_ok-byte.byte c.in_ok-meant.meant (string_bytes c.args.found.now) (string_bytes c.push_ascii.new.found) (c.if-not-is_at.ensures refl) c.in_ok-byte.ensures
    c.in_ok-meant.ensures.value c.in_ok-push_ascii.ensures
