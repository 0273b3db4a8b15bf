use Rattle.std.proofs.Common.{◌≡◌, Bool, true, subst, refl, rules}
use Rattle.std.proofs.lemmas.Result.{on_ok_weaker}
use Rattle.rl_world.specs.Ready.{MakesReady}
use Rattle.rl_world.proofs.Worlds.{settled}
use Rattle.rl_world.proofs.Small.{settle_ready}
use Rattle.rl_world.proofs.world.World.settle.Goals as goal

pub returns : goal.returns
returns c =
    on_ok_weaker c.finish.result (λ finishes world is sound sends.
    let yes : c.in_ok-make_ready.field-0 ≡ true = search rules in
    settled world c.make_ready.new.self c.take_sent-sent.new.self c.serve_all.new.self c.finish.new.self c.take_sent-sent.result
    sends.most c.take_sent-sent.ensures c.in_ok-serve_all.ensures finishes world.client (settle_ready sends.most world world.client sends.low sends.small refl)
    (subst (λ (b : Bool). MakesReady world world.client c.make_ready.new.self b) yes (c.in_ok-make_ready.ensures world is sound)))
    c.finish.ensures
