-- Clients and actors of a world are what inputs make of new ones.
use Rattle.std.specs.Prelude.{ℕ, ◌≡◌, List}
use Rattle.std.specs.List.{AllByRecursion}
use Rattle.rl_runs.specs.declared.commands.Hello.{Hello}
use Rattle.rl_clientmodel.specs.States.{ClientState}
use Rattle.rl_clientmodel.specs.Inputs as client
use Rattle.rl_actormodel.specs.Inputs as actor
use Rattle.rl_worldmodel.specs.World.{Transport, empty_world}
use Rattle.rl_worldmodel.specs.Actions.{Action, all_done}

-- a client of this name, and its inputs, the latest first
abbrev pub IsClient : List ℕ × ClientState → Type 0
IsClient c = (inputs : List client.Input) × (c.1 ≡ client.after c.0 inputs)

-- a transport's actor: what its client brought, the moment at which it was opened, and its inputs, the latest first. What is put
-- on the transport is taken from the actor, one frame after another
abbrev pub HasActor : Transport → Type 0
HasActor t = (hello : Hello) × (start : ℕ) × (inputs : List actor.Input) × (t.actor ≡ actor.after hello start inputs)

-- whatever was done, each client is what some inputs make of a new one
abbrev pub ClientsRun : Type 0
ClientsRun = (actions : List Action) → AllByRecursion IsClient (all_done actions empty_world).clients

-- and so is each actor
abbrev pub ActorsRun : Type 0
ActorsRun = (actions : List Action) → AllByRecursion HasActor (all_done actions empty_world).transports
