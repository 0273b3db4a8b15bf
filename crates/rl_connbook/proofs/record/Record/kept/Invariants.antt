use Rattle.std.proofs.Common.{◌≡◌, drop}
use Rattle.rl_connbook.specs.Book.{kept_outcome}
use Rattle.rl_connbook.proofs.record.Record.kept.Given as goal

-- none so far has the serial
abbrev pub invariant-loop-one : goal.invariant-loop-one
invariant-loop-one l = kept_outcome l.serial l.one-items ≡ kept_outcome l.serial (drop l.one-index l.one-items)
