use Rattle.rl_world.specs.Frames.{sent_frame, asked_by}
use Rattle.rl_world.proofs.Carried.{got_back, sent_carried, sent_back}
use Rattle.rl_world.proofs.travel.sent_arrives.Goals as goal

pub returns : goal.returns
returns c = λ name small.
    got_back asked_by c.in_ok-frame.frame (sent_frame c.args.channel.now c.args.sent) c.args.sent c.in_ok-arrived.arrived c.asked_in.result c.in_ok-frame.ensures.value
    (sent_carried c.args.channel.now c.args.sent name small c.in_ok-frame.ensures.range) (sent_back c.args.channel.now c.args.sent) c.in_ok-arrived.ensures.whole c.asked_in.ensures
