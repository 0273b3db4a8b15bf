use Rattle.std.proofs.Common.{◌≡◌, take}
use Rattle.std.specs.List.{filter}
use Rattle.rl_clientmodel.specs.Entries.{has_serial}
use Rattle.rl_clientchannels.proofs.channel.numbered.Given as goal

-- those of the operations so far
abbrev pub invariant-loop-op : goal.invariant-loop-op
invariant-loop-op l = l.numbered ≡ filter has_serial (take l.op-index l.ops)
