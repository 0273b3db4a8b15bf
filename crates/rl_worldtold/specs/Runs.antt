-- What holds of the world after whatever actions, and so after every script.
use Rattle.std.specs.Prelude.{List}
use Rattle.rl_runs.specs.declared.script.Line.{Line}
use Rattle.rl_worldmodel.specs.World.{World, empty_world}
use Rattle.rl_worldmodel.specs.Actions.{Action, all_done}
use Rattle.rl_worldmodel.specs.Lines.{final}

-- it holds of the world that actions make of the empty one, and of the world that a script leaves
pub record HoldsOfRuns (P : World → Type 0) : Type 0 where
  pub actions : (actions : List Action) → P (all_done actions empty_world)
  pub scripts : (script : List Line) → P (final script)
