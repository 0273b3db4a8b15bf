-- What each action keeps holds of all runs, by one case for each action.
use Rattle.std.proofs.Common.{ℕ, List, [], ◌∷◌}
use Rattle.rl_types.specs.declared.messages.Body.{Body}
use Rattle.rl_worldmodel.specs.World.{World, empty_world}
use Rattle.rl_worldmodel.specs.Calls.{with_name}
use Rattle.rl_worldmodel.specs.Actors.{steps, pages, polls}
use Rattle.rl_worldmodel.specs.Services.{expires, reaps, ages, feeds}
use Rattle.rl_worldmodel.specs.Actions.{Action, Declares, Opens, Cuts, Recovers, Obeys, Gets, LooksAtTime, Steps, Pages, Polls, Passes, Expires, Reaps, Ages, Asks, Feeds, does, all_done}
use Rattle.rl_worldmodel.proofs.Acting.{final_keeps}
use Rattle.rl_worldtold.specs.Runs.{HoldsOfRuns}
use Rattle.rl_worldtold.proofs.Quiet.{IsQuiet, declares_keeps, opens_keeps, cuts_keeps, recovers_keeps, obeys_keeps, gets_keeps, looks_keeps}

module _ (P : World → Type 0) (keeps : (action : Action) (world : World) → P world → P (does action world)) where
  all_keep : (actions : List Action) (world : World) → P world → P (all_done actions world)
  all_keep [] world h = h
  all_keep (action ∷ actions) world h = all_keep actions (does action world) (keeps action world h)

  -- what the empty world has and each action keeps
  pub runs_hold : P empty_world → HoldsOfRuns P
  runs_hold begins = record { actions = λ actions. all_keep actions empty_world begins; scripts = λ script. final_keeps P keeps begins script }

-- what follows from it
pub runs_so : (P Q : World → Type 0) → ((world : World) → P world → Q world) → HoldsOfRuns P → HoldsOfRuns Q
runs_so P Q so runs = record { actions = λ actions. so _ (runs.actions actions); scripts = λ script. so _ (runs.scripts script) }

-- what the service's actions keep
pub record IsServed (P : World → Type 0) : Type 0 where
  pub stepping : (world : World) (k : ℕ) → P world → P (steps k world)
  pub paging : (world : World) (k : ℕ) (channel : List ℕ) → P world → P (pages k channel world)
  pub polling : (world : World) (k : ℕ) (channel : List ℕ) → P world → P (polls k channel world)
  pub expiring : (world : World) → P world → P (expires world)
  pub reaping : (world : World) → P world → P (reaps world)
  pub ageing : (world : World) (channel : List ℕ) → P world → P (ages channel world)
  pub naming : (world : World) (channel : List ℕ) → P world → P (with_name channel world)
  pub feeding : (world : World) (channel : List ℕ) (body : Body) → P world → P (feeds channel body world)

-- with what clients do they are all actions
pub each_keeps : (P : World → Type 0) → IsQuiet P → IsServed P → (action : Action) (world : World) → P world → P (does action world)
each_keeps P quiet served (Declares name) world h = declares_keeps P quiet name world h
each_keeps P quiet served (Opens name) world h = opens_keeps P quiet name world h
each_keeps P quiet served (Cuts name) world h = cuts_keeps P quiet name world h
each_keeps P quiet served (Recovers name other) world h = recovers_keeps P quiet name other world h
each_keeps P quiet served (Obeys name command) world h = obeys_keeps P quiet name command world h
each_keeps P quiet served (Gets name) world h = gets_keeps P quiet name world h
each_keeps P quiet served (LooksAtTime name) world h = looks_keeps P quiet name world h
each_keeps P quiet served (Steps k) world h = served.stepping world k h
each_keeps P quiet served (Pages k channel) world h = served.paging world k channel h
each_keeps P quiet served (Polls k channel) world h = served.polling world k channel h
each_keeps P quiet served (Passes span) world h = quiet.of_time world span h
each_keeps P quiet served Expires world h = served.expiring world h
each_keeps P quiet served Reaps world h = served.reaping world h
each_keeps P quiet served (Ages channel) world h = served.ageing world channel h
each_keeps P quiet served (Asks channel) world h = served.naming world channel h
each_keeps P quiet served (Feeds channel body) world h = served.feeding world channel body h
