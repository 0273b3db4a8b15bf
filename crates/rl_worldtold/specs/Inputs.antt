-- The inputs that actions give a client: so every law over a client's inputs is a law over runs. (This project's own.)
use Rattle.std.specs.Prelude.{◌≡◌, ℕ, Bool, true, false, if◌then◌else◌, List, [], ◌∷◌, ◌++◌, Option, Some, None, slice_get, bytes_eq}
use Rattle.rl_runs.specs.declared.commands.Command.{Command}
use Rattle.rl_runs.specs.declared.commands.Command.TheVariants.{Connect, Die}
use Rattle.rl_runs.specs.declared.commands.RecoveryKey.{RecoveryKey}
use Rattle.rl_clientmodel.specs.Commands.{acted}
use Rattle.rl_clientmodel.specs.States.{ClientState, Turn}
use Rattle.rl_clientmodel.specs.Keys.{recovery_key, may_recover}
use Rattle.rl_clientmodel.specs.Inputs.{Input, Told, Heard, Unlinked, Ticked, Recovers, step, after}
use Rattle.rl_worldmodel.specs.World.{World, Transport, empty_world, on_transport, on_client, client_at, latest}
use Rattle.rl_worldmodel.specs.Clients.{sends, Arrival, Comes, Ends, Nothing, arrival, gives_frame, takes_turn}
use Rattle.rl_worldmodel.specs.Actions.{Action, Declares, Opens, Cuts, Obeys, Gets, LooksAtTime, does, all_done}
use Rattle.rl_worldmodel.specs.Actions as actions

-- inputs of the client of this name, where the other name is its own. In all lists here the latest input stands first
abbrev pub to_owner : List ℕ → List ℕ → List Input → List Input
to_owner owner name inputs = if bytes_eq name owner then inputs else []

-- A CUT: the transport's owner learns that the link is gone, where it was not cut before

abbrev pub cut_inputs : List ℕ → ℕ → Option Transport → List Input
cut_inputs owner now None = []
cut_inputs owner now (Some t) = if t.cut then [] else to_owner owner t.owner (Unlinked now ∷ [])

abbrev pub at_inputs : List ℕ → Option ℕ → World → List Input
at_inputs owner None world = []
at_inputs owner (Some k) world = cut_inputs owner world.now (slice_get world.transports k)

abbrev pub cuts_inputs : List ℕ → List ℕ → World → List Input
cuts_inputs owner name world = at_inputs owner (latest name world) world

-- A TURN: its input, and then the cut of the link that the client drops

-- the world in which the link is dropped: the client has its new state, and its frames are put
abbrev pub before_drop : List ℕ → Turn → World → World
before_drop name turn world = sends name turn.output.frames (on_client name (λ _. turn.state) world)

abbrev pub drop_inputs : Bool → List ℕ → List ℕ → World → List Input
drop_inputs false owner name world = []
drop_inputs true owner name world = cuts_inputs owner name world

abbrev pub turned_inputs : List ℕ → List ℕ → Input → Option ClientState → World → List Input
turned_inputs owner name input None world = []
turned_inputs owner name input (Some state) world =
    drop_inputs (step input state).output.drop_link owner name (before_drop name (step input state) world) ++ to_owner owner name (input ∷ [])

abbrev pub turn_inputs : List ℕ → List ℕ → Input → World → List Input
turn_inputs owner name input world = turned_inputs owner name input (client_at name world) world

-- A CLIENT CONNECTS

abbrev pub opened_inputs : List ℕ → List ℕ → ℕ → Option ClientState → List Input
opened_inputs owner name now None = []
opened_inputs owner name now (Some state) = to_owner owner name (Told Connect now ∷ [])

abbrev pub opens_inputs : List ℕ → List ℕ → World → List Input
opens_inputs owner name world = opened_inputs owner name world.now (client_at name world)

abbrev pub obeys_inputs : List ℕ → List ℕ → Command → World → List Input
obeys_inputs owner name Connect world = opens_inputs owner name world
obeys_inputs owner name Die world =
    cuts_inputs owner name (takes_turn name (acted Die world.now) world) ++ turn_inputs owner name (Told Die world.now) world
obeys_inputs owner name command world = turn_inputs owner name (Told command world.now) world

-- RECOVERY: the second client dies, its link is cut, and then the first one goes on

abbrev pub with_inputs : List ℕ → List ℕ → List ℕ → Option RecoveryKey → World → List Input
with_inputs owner name other None world = []
with_inputs owner name other (Some key) world =
    to_owner owner name (Recovers key ∷ []) ++ obeys_inputs owner other Die world

abbrev pub recovers_if : Bool → List ℕ → List ℕ → List ℕ → ClientState → World → List Input
recovers_if false owner name other lost world = []
recovers_if true owner name other lost world = with_inputs owner name other (recovery_key lost) world

abbrev pub recovers_inputs : List ℕ → List ℕ → List ℕ → Option ClientState → Option ClientState → World → List Input
recovers_inputs owner name other (Some state) (Some lost) world = recovers_if (may_recover state) owner name other lost world
recovers_inputs owner name other state lost world = []

-- A CLIENT GETS WHAT IS NEXT

abbrev pub got_inputs : List ℕ → List ℕ → ℕ → Arrival → World → List Input
got_inputs owner name k (Comes frame) world = turn_inputs owner name (Heard (Some frame) world.now) (on_transport k gives_frame world)
got_inputs owner name k Ends world = at_inputs owner (Some k) world
got_inputs owner name k Nothing world = []

abbrev pub gets_on : List ℕ → List ℕ → Option ℕ → World → List Input
gets_on owner name None world = []
gets_on owner name (Some k) world = got_inputs owner name k (arrival (slice_get world.transports k)) world

-- ALL ACTIONS

-- what an action gives the client of this name, where it is declared
abbrev pub given_by : List ℕ → Action → World → List Input
given_by owner (Opens name) world = opens_inputs owner name world
given_by owner (Cuts name) world = cuts_inputs owner name world
given_by owner (actions.Recovers name other) world = recovers_inputs owner name other (client_at name world) (client_at other world) world
given_by owner (Obeys name command) world = obeys_inputs owner name command world
given_by owner (Gets name) world = gets_on owner name (latest name world) world
given_by owner (LooksAtTime name) world = turn_inputs owner name (Ticked world.now) world
given_by owner action world = []

abbrev pub if_declared : Option ClientState → List Input → List Input
if_declared None inputs = []
if_declared (Some state) inputs = inputs

abbrev pub inputs_by : List ℕ → Action → World → List Input
inputs_by owner action world = if_declared (client_at owner world) (given_by owner action world)

-- what actions give it, the earliest first, from this world on
abbrev pub inputs_from : List ℕ → List Action → World → List Input
inputs_from owner [] world = []
inputs_from owner (action ∷ more) world = inputs_from owner more (does action world) ++ inputs_by owner action world

-- and from the empty world
abbrev pub inputs_of : List ℕ → List Action → List Input
inputs_of owner done = inputs_from owner done empty_world

-- a client is what its inputs make of a new one
abbrev pub ClientsAreOfTheirInputs : Type 0
ClientsAreOfTheirInputs =
    (done : List Action) (name : List ℕ) (state : ClientState) → client_at name (all_done done empty_world) ≡ Some state
    → state ≡ after name (inputs_of name done)
