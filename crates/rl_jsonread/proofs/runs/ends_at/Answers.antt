use Rattle.std.proofs.Common.{refl}
use Rattle.rl_jsonread.proofs.Bytes.{comma_ends, brace_ends, bracket_ends}
use Rattle.rl_jsonread.proofs.runs.ends_at.Goals as goal

pub returns-then-is_at : goal.returns-then-is_at
returns-then-is_at c = λ t. comma_ends c.args.text.now c.args.at (c.if-is_at.ensures refl)

pub returns-then-is_at-2 : goal.returns-then-is_at-2
returns-then-is_at-2 c = λ t. brace_ends c.args.text.now c.args.at (c.if-is_at-2.ensures refl)

pub returns : goal.returns
returns c = λ t. bracket_ends c.args.text.now c.args.at (c.is_at-3.ensures t)
