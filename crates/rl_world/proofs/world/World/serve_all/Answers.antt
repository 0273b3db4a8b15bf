use Rattle.std.proofs.Common.{sym, subst}
use Rattle.std.specs.Prelude.{fold}
use Rattle.std.proofs.lemmas.List.Sums.{fold_push}
use Rattle.rl_model.specs.World.{World, serve_next}
use Rattle.rl_world.specs.State.{Shows}
use Rattle.rl_world.specs.Travels.{CanTravel}
use Rattle.rl_world.proofs.Small.{all_served_channel, travel_front}
use Rattle.rl_world.proofs.world.World.serve_all.Goals as goal

pub loop-sent-preserved : goal.loop-sent-preserved
loop-sent-preserved c = λ world is can.
    let both = travel_front world.channel c.loop-sent.yielded c.in-Some.sent can in
    subst (λ (w : World). Shows c.serve.new.self w) (sym (fold_push serve_next world c.loop-sent.yielded c.in-Some.sent))
    (c.in_ok-serve.ensures (fold serve_next world c.loop-sent.yielded) (c.loop-sent.invariant world is both.0)
    (subst (λ channel. CanTravel channel c.in-Some.sent) (sym (all_served_channel c.loop-sent.yielded world)) both.1))
