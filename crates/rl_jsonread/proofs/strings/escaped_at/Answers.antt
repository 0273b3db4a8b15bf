use Rattle.std.proofs.Common.{string_bytes, refl}
use Rattle.rl_jsonread.proofs.Lexed.{end_read, end_rest}
use Rattle.rl_jsonread.proofs.strings.escaped_at.Goals as goal

pub returns-then-is_at-clause-read : goal.returns-then-is_at-clause-read
returns-then-is_at-clause-read c =
    end_read c.args.text.now c.args.start c.in_ok-stop.stop (string_bytes c.run_at.new.found) (c.in_ok-stop.ensures c.args.start c.loop-turn.invariant) (c.if-is_at.ensures refl)

pub returns-then-is_at-clause-rest : goal.returns-then-is_at-clause-rest
returns-then-is_at-clause-rest c =
    end_rest c.args.text.now c.args.start c.in_ok-stop.stop (string_bytes c.run_at.new.found) (c.in_ok-stop.ensures c.args.start c.loop-turn.invariant) (c.if-is_at.ensures refl)
