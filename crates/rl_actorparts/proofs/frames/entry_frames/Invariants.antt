use Rattle.std.proofs.Common.{◌≡◌, map}
use Rattle.rl_actormodel.specs.Reads.{entry_frame}
use Rattle.rl_actorparts.proofs.frames.entry_frames.Given as goal

-- the entries so far are frames
abbrev pub invariant-loop-entry : goal.invariant-loop-entry
invariant-loop-entry l = l.frames.items ≡ map (entry_frame l.name l.epoch) l.yielded
