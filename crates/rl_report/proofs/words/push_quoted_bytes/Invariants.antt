use Rattle.std.proofs.Common.{◌≡◌, ◌++◌, take, flat_map}
use Rattle.rl_model.specs.Report.{quoted_byte}
use Rattle.rl_report.proofs.words.push_quoted_bytes.Given as goal

-- the bytes so far
abbrev pub invariant-loop-byte : goal.invariant-loop-byte
invariant-loop-byte l = l.out ≡ l.initial.out ++ flat_map quoted_byte (take l.byte-index l.bytes)
