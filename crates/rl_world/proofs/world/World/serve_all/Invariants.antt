use Rattle.std.specs.Prelude.{fold}
use Rattle.rl_model.specs.World.{World, serve_next}
use Rattle.rl_world.specs.State.{Shows}
use Rattle.rl_world.specs.Travels.{AllTravel}
use Rattle.rl_world.proofs.world.World.serve_all.Given as goal

-- what was served so far
abbrev pub invariant-loop-sent : goal.invariant-loop-sent
invariant-loop-sent l = (world : World) → Shows l.initial.self world → AllTravel world.channel l.yielded → Shows l.self (fold serve_next world l.yielded)
