use Rattle.rl_lanes.proofs.Frames.{frames_are_the_machines}
use Rattle.rl_lanes.proofs.laws.frames_are_the_machines.Goals as goal

pub returns : goal.returns
returns c = frames_are_the_machines
