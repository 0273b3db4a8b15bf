use Rattle.rl_chanlog.proofs.Places.{room_places}
use Rattle.rl_chanlog.proofs.ids.put.Goals as goal

pub returns : goal.returns
returns c = room_places c.insert.result c.args.ids.now c.insert.new.self c.into_string.result c.args.id c.args.place (c.insert.ensures.succeeds c.requires) c.insert.ensures.updates c.into_string.ensures
