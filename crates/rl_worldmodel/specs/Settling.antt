-- What is under way is carried through, in rounds of actions. (This project's own.)
use Rattle.std.specs.Prelude.{ℕ, zero, suc, Bool, true, false, ◌||◌, List, map, fold, length}
use Rattle.rl_numbers.specs.declared.limits.TheConstants.{MAX_ROUNDS, ROUND_GETS}
use Rattle.rl_clientmodel.specs.States.{ClientState}
use Rattle.rl_worldmodel.specs.World.{World}
use Rattle.rl_worldmodel.specs.Actors.{session_names}
use Rattle.rl_worldmodel.specs.Services.{numbers_from}
use Rattle.rl_worldmodel.specs.Actions.{Action, Gets, Steps, Pages, Polls, Reaps, does, carries_on}

-- A ROUND

-- a world in a round, and whether anything was carried on in it
pub record Round : Type 0 where
  pub world : World
  pub acted : Bool

abbrev pub act : Action → Round → Round
act action round = record { world = does action round.world; acted = round.acted || carries_on action round.world }

-- a channel of a session: its next page, and then a read
abbrev pub channel_round : ℕ → Round → List ℕ → Round
channel_round k round name = act (Polls k name) (act (Pages k name) round)

abbrev pub channels_round : ℕ → Round → Round
channels_round k round = fold (channel_round k) round (session_names k round.world)

-- a transport: a step, and then each channel of its sessions, in order of name
abbrev pub transport_round : Round → ℕ → Round
transport_round round k = channels_round k (act (Steps k) round)

module _ {X : Type 0} where
  abbrev pub times : ℕ → (X → X) → X → X
  times zero change x = x
  times (suc n) change x = times n change (change x)

-- a client gets what is there, so many times
abbrev pub client_round : Round → List ℕ → Round
client_round round name = times ROUND_GETS (act (Gets name)) round

abbrev pub client_names : World → List (List ℕ)
client_names world = map (λ (c : List ℕ × ClientState). c.0) world.clients

abbrev pub transport_numbers : World → List ℕ
transport_numbers world = numbers_from 0 (length world.transports)

-- each transport in order of opening, then one channel that is told of a connection given up, then each client in order of
-- declaration
abbrev pub one_round : World → Round
one_round world =
    fold client_round
    (act Reaps (fold transport_round (record { world = world; acted = false }) (transport_numbers world)))
    (client_names world)

-- ROUNDS

abbrev pub go_on : Bool → World → (World → World) → World
go_on false world rest = world
go_on true world rest = rest world

-- until a round in which nothing was carried on, and at most so many
abbrev pub rounds : ℕ → World → World
rounds zero world = world
rounds (suc n) world = go_on (one_round world).acted (one_round world).world (rounds n)

abbrev pub settles : World → World
settles world = rounds MAX_ROUNDS world
