use Rattle.rl_presmap.proofs.Feeding.{fed_maps_hold_members}
use Rattle.rl_presmap.proofs.laws.fed_maps_hold_members.Goals as goal

pub returns : goal.returns
returns c = fed_maps_hold_members
