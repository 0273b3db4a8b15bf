use Rattle.std.proofs.Common.{◌≡◌, ◌++◌, take, flat_map}
use Rattle.rl_model.specs.Report.{byte_word}
use Rattle.rl_report.proofs.objects.push_hex.Given as goal

-- the bytes so far
abbrev pub invariant-loop-byte : goal.invariant-loop-byte
invariant-loop-byte l = l.out ≡ l.initial.out ++ flat_map byte_word (take l.byte-index l.bytes)
