-- What clients do in a world: commands, frames that they get, links that go, recovery, time.
use Rattle.std.specs.Prelude.{ℕ, Bool, true, false, List, [], ◌∷◌, ◌++◌, Option, Some, None, slice_get}
use Rattle.rl_types.specs.declared.frames.Frame.{Frame}
use Rattle.rl_runs.specs.declared.commands.Command.{Command}
use Rattle.rl_runs.specs.declared.commands.Command.TheVariants.{Connect, Die}
use Rattle.rl_runs.specs.declared.commands.RecoveryKey.{RecoveryKey}
use Rattle.rl_events.specs.declared.calls.End.{End}
use Rattle.rl_clientmodel.specs.States.{ClientState, Turn, new_state}
use Rattle.rl_clientmodel.specs.Commands.{Refusal, refusal, acted, hello_of}
use Rattle.rl_clientmodel.specs.Hearing.{heard}
use Rattle.rl_clientmodel.specs.Times.{unlinked, ticked}
use Rattle.rl_clientmodel.specs.Keys.{recovery_key, may_recover, recovered}
use Rattle.rl_worldmodel.specs.World.{World, Transport, new_transport, with_put, with_one_got, without_rest, on_transport, on_client, client_at, latest}

-- DECLARING

abbrev pub declared_unless : Option ClientState → List ℕ → World → World
declared_unless (Some state) name world = world
declared_unless None name world = record world { clients = world.clients ++ (name, new_state name) ∷ [] }

-- a client is declared, with its name as its client id. A name is declared once
abbrev pub declares : List ℕ → World → World
declares name world = declared_unless (client_at name world) name world

-- A CUT

-- what was not got is lost in both directions, and nothing more is put
abbrev pub cut_off : Transport → Transport
cut_off t = record t { cut = true; to_service = without_rest t.to_service; to_client = without_rest t.to_client }

-- the client learns it at once (RTN15a)
abbrev pub unlinks : ℕ → ClientState → ClientState
unlinks now state = (unlinked now state).state

abbrev pub cut_unless : Bool → ℕ → Transport → World → World
cut_unless true k t world = world
cut_unless false k t world = on_client t.owner (unlinks world.now) (on_transport k cut_off world)

abbrev pub cut_where : ℕ → Option Transport → World → World
cut_where k None world = world
cut_where k (Some t) world = cut_unless t.cut k t world

abbrev pub cut_at : Option ℕ → World → World
cut_at None world = world
cut_at (Some k) world = cut_where k (slice_get world.transports k) world

-- a client's latest transport is cut
abbrev pub cuts : List ℕ → World → World
cuts name world = cut_at (latest name world) world

-- WHAT A CLIENT WANTS DONE

abbrev pub put_unless : Bool → List Frame → Transport → Transport
put_unless true frames t = t
put_unless false frames t = record t { to_service = with_put frames t.to_service }

-- frames are put on a transport; on one that is cut they are lost
abbrev pub takes_frames : List Frame → Transport → Transport
takes_frames frames t = put_unless t.cut frames t

abbrev pub sent_on : Option ℕ → List Frame → World → World
sent_on None frames world = world
sent_on (Some k) frames world = on_transport k (takes_frames frames) world

-- a client's frames are put on its latest transport
abbrev pub sends : List ℕ → List Frame → World → World
sends name frames world = sent_on (latest name world) frames world

abbrev pub cuts_if : Bool → List ℕ → World → World
cuts_if false name world = world
cuts_if true name world = cuts name world

-- a client's turn: its state, its frames, and the link that it may drop, which is cut
abbrev pub turned : List ℕ → Turn → World → World
turned name turn world =
    cuts_if turn.output.drop_link name (sends name turn.output.frames (on_client name (λ _. turn.state) world))

abbrev pub turned_by : List ℕ → (ClientState → Turn) → Option ClientState → World → World
turned_by name act None world = world
turned_by name act (Some state) world = turned name (act state) world

-- a client that was declared takes a turn
abbrev pub takes_turn : List ℕ → (ClientState → Turn) → World → World
takes_turn name act world = turned_by name act (client_at name world) world

-- CONNECTING (RTN11)

-- a new transport, whose actor has what the client brings
abbrev pub opened_as : List ℕ → ClientState → World → World
opened_as name state world =
    record (on_client name (λ _. state) world) {
      transports = world.transports ++ new_transport name (hello_of state 0) world.now ∷ [];
    }

abbrev pub opened_unless : Option Refusal → List ℕ → ClientState → World → World
opened_unless (Some refusal) name state world = world
opened_unless None name state world = opened_as name (acted Connect world.now state).state world

abbrev pub opened_by : List ℕ → Option ClientState → World → World
opened_by name None world = world
opened_by name (Some state) world = opened_unless (refusal Connect state) name state world

-- a client connects, where it may
abbrev pub opens : List ℕ → World → World
opens name world = opened_by name (client_at name world) world

-- COMMANDS

-- a client is told to do something. To connect is to open a transport; at death the latest one is cut
abbrev pub obeys : List ℕ → Command → World → World
obeys name Connect world = opens name world
obeys name Die world = cuts name (takes_turn name (acted Die world.now) world)
obeys name command world = takes_turn name (acted command world.now) world

-- RECOVERY (RTN16)

abbrev pub recovered_with : List ℕ → List ℕ → Option RecoveryKey → World → World
recovered_with name other None world = world
recovered_with name other (Some key) world = on_client name (recovered key) (obeys other Die world)

abbrev pub recovered_if : Bool → List ℕ → List ℕ → ClientState → World → World
recovered_if false name other lost world = world
recovered_if true name other lost world = recovered_with name other (recovery_key lost) world

abbrev pub recovered_from : List ℕ → List ℕ → Option ClientState → Option ClientState → World → World
recovered_from name other (Some state) (Some lost) world = recovered_if (may_recover state) name other lost world
recovered_from name other state lost world = world

-- the second client dies, and the first goes on where it stood: where the first may, and the second has a recovery key
abbrev pub recovers : List ℕ → List ℕ → World → World
recovers name other world = recovered_from name other (client_at name world) (client_at other world) world

-- GETTING

-- what a client gets of a transport
pub data Arrival : Type 0 where
  Comes : (frame : Frame) → Arrival  -- the next frame
  Ends : Arrival  -- the service has ended it, and no frame is left
  Nothing : Arrival

abbrev pub arrival_by : Bool → Option Frame → Option End → Arrival
arrival_by true frame ended = Nothing
arrival_by false (Some frame) ended = Comes frame
arrival_by false None (Some why) = Ends
arrival_by false None None = Nothing

abbrev pub arrival : Option Transport → Arrival
arrival None = Nothing
arrival (Some t) = arrival_by t.cut (slice_get t.to_client.put t.to_client.got) t.actor.ended

abbrev pub gives_frame : Transport → Transport
gives_frame t = record t { to_client = with_one_got t.to_client }

-- a frame is heard; at the end the transport is cut
abbrev pub got_by : List ℕ → ℕ → Arrival → World → World
got_by name k (Comes frame) world = takes_turn name (heard (Some frame) world.now) (on_transport k gives_frame world)
got_by name k Ends world = cut_at (Some k) world
got_by name k Nothing world = world

abbrev pub got_on : List ℕ → Option ℕ → World → World
got_on name None world = world
got_on name (Some k) world = got_by name k (arrival (slice_get world.transports k)) world

-- a client gets what is next on its latest transport
abbrev pub gets : List ℕ → World → World
gets name world = got_on name (latest name world) world

abbrev pub is_something : Arrival → Bool
is_something Nothing = false
is_something arrival = true

abbrev pub is_there_on : Option ℕ → World → Bool
is_there_on None world = false
is_there_on (Some k) world = is_something (arrival (slice_get world.transports k))

-- whether there is something to be got
abbrev pub is_there : List ℕ → World → Bool
is_there name world = is_there_on (latest name world) world

-- TIME

-- a client looks at the time
abbrev pub looks_at_time : List ℕ → World → World
looks_at_time name world = takes_turn name (ticked world.now) world
