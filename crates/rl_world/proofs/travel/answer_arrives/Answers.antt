use Rattle.rl_world.specs.Frames.{answer_frame, answered_by}
use Rattle.rl_world.proofs.Carried.{got_back, answer_carried, answer_back}
use Rattle.rl_world.proofs.travel.answer_arrives.Goals as goal

pub returns : goal.returns
returns c = λ low.
    got_back answered_by c.answer_frame-frame.result (answer_frame c.args.serial c.args.code) (c.args.serial, c.args.code) c.in_ok-arrived.arrived c.answered_in.result c.answer_frame-frame.ensures.value
    (answer_carried c.args.serial c.args.code low c.answer_frame-frame.ensures.range) (answer_back c.args.serial c.args.code) c.in_ok-arrived.ensures.whole c.answered_in.ensures
