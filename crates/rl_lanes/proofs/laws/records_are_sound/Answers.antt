use Rattle.rl_lanes.proofs.Following.{records_are_sound}
use Rattle.rl_lanes.proofs.laws.records_are_sound.Goals as goal

pub returns : goal.returns
returns c = records_are_sound
