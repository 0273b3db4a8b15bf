use Rattle.rl_model.specs.Records.{got_of}
use Rattle.rl_world.specs.Frames.{entry_frame, entry_in}
use Rattle.rl_world.proofs.Carried.{got_back, entry_carried, entry_back}
use Rattle.rl_world.proofs.travel.entry_arrives.Goals as goal

pub returns : goal.returns
returns c = λ name small.
    got_back entry_in c.in_ok-frame.frame (entry_frame c.args.channel.now c.args.entry.now) (got_of c.args.entry.now) c.in_ok-arrived.arrived c.entry_got.result c.in_ok-frame.ensures.value
    (entry_carried c.args.channel.now c.args.entry.now name small c.in_ok-frame.ensures.range.0 c.in_ok-frame.ensures.range.1) (entry_back c.args.channel.now c.args.entry.now) c.in_ok-arrived.ensures.whole c.entry_got.ensures
