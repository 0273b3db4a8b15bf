use Rattle.std.proofs.Common.{◌≡◌, map, take}
use Rattle.rl_clientmodel.specs.Runs.{segment_of}
use Rattle.rl_clientchannels.proofs.runs.segments.Given as goal

-- the segments of the runs so far
abbrev pub invariant-loop-run : goal.invariant-loop-run
invariant-loop-run l = l.segments ≡ map segment_of (take l.run-index l.runs)
