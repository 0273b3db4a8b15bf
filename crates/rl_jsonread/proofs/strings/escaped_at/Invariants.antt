use Rattle.std.proofs.Common.{string_bytes}
use Rattle.rl_jsonread.specs.Places.{IsReadTo}
use Rattle.rl_jsonread.proofs.strings.escaped_at.Given as goal

abbrev pub invariant-loop-turn : goal.invariant-loop-turn
invariant-loop-turn l = IsReadTo l.text l.start l.at (string_bytes l.found)
