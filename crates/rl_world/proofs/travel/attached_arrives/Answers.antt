use Rattle.rl_world.specs.Frames.{attached_frame, told_by}
use Rattle.rl_world.proofs.Carried.{got_back, attached_carried, attached_back}
use Rattle.rl_world.proofs.travel.attached_arrives.Goals as goal

pub returns : goal.returns
returns c = λ name.
    got_back told_by c.in_ok-frame.frame (attached_frame c.args.channel.now c.args.place c.args.resumed c.args.presence c.args.given) (c.args.place, c.args.resumed) c.in_ok-arrived.arrived c.told_in.result c.in_ok-frame.ensures.value
    (attached_carried c.args.channel.now c.args.place c.args.resumed c.args.presence c.args.given name c.in_ok-frame.ensures.range) (attached_back c.args.channel.now c.args.place c.args.resumed c.args.presence c.args.given) c.in_ok-arrived.ensures.whole c.told_in.ensures
