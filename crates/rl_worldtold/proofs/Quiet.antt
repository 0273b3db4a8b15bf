-- What speaks of the service alone is kept by all that clients do, from seven facts.
use Rattle.std.proofs.Common.{◌≡◌, ℕ, ◌+◌, Bool, true, false, List, [], ◌∷◌, ◌++◌, refl}
use Rattle.std.specs.Prelude.{Some, None, slice_get, Option}
use Rattle.rl_types.specs.declared.frames.Frame.{Frame}
use Rattle.rl_runs.specs.declared.commands.Command.{Command}
use Rattle.rl_runs.specs.declared.commands.Command.TheVariants.{Connect, Die}
use Rattle.rl_runs.specs.declared.commands.Hello.{Hello}
use Rattle.rl_runs.specs.declared.commands.RecoveryKey.{RecoveryKey}
use Rattle.rl_clientmodel.specs.States.{ClientState, Turn, new_state}
use Rattle.rl_clientmodel.specs.Commands.{Refusal, refusal, acted, hello_of}
use Rattle.rl_clientmodel.specs.Hearing.{heard}
use Rattle.rl_clientmodel.specs.Times.{ticked}
use Rattle.rl_clientmodel.specs.Keys.{recovery_key, may_recover, recovered}
use Rattle.rl_worldmodel.specs.World.{World, Transport, new_transport, on_transport, on_client, client_at, latest}
use Rattle.rl_worldmodel.specs.Clients.{declared_unless, declares, cut_off, unlinks, cut_unless, cut_where, cut_at, cuts, takes_frames, sent_on, sends, cuts_if, turned, turned_by, takes_turn, opened_unless, opened_by, opens, obeys, recovered_with, recovered_if, recovered_from, recovers, Arrival, Comes, Ends, Nothing, arrival, gives_frame, got_by, got_on, gets, looks_at_time}

-- what it takes that a claim is kept by all that clients do
pub record IsQuiet (P : World → Type 0) : Type 0 where
  pub of_client : (world : World) (name : List ℕ) (change : ClientState → ClientState) → P world → P (on_client name change world)
  pub of_new : (world : World) (name : List ℕ) → P world → P (record world { clients = world.clients ++ (name, new_state name) ∷ [] })
  pub of_cut : (world : World) (k : ℕ) → P world → P (on_transport k cut_off world)
  pub of_sent : (world : World) (k : ℕ) (frames : List Frame) → P world → P (on_transport k (takes_frames frames) world)
  pub of_got : (world : World) (k : ℕ) (frame : Frame) → arrival (slice_get world.transports k) ≡ Comes frame → P world → P (on_transport k gives_frame world)
  pub of_opened : (world : World) (name : List ℕ) (hello : Hello) → P world → P (record world { transports = world.transports ++ new_transport name hello world.now ∷ [] })
  pub of_time : (world : World) (span : ℕ) → P world → P (record world { now = world.now + span })

module _ (P : World → Type 0) (quiet : IsQuiet P) where
  declared_keeps : (o : Option ClientState) (name : List ℕ) (world : World) → P world → P (declared_unless o name world)
  declared_keeps None name world h = quiet.of_new world name h
  declared_keeps (Some state) name world h = h

  pub declares_keeps : (name : List ℕ) (world : World) → P world → P (declares name world)
  declares_keeps name world h = declared_keeps (client_at name world) name world h

  cut_keeps : (b : Bool) (k : ℕ) (t : Transport) (world : World) → P world → P (cut_unless b k t world)
  cut_keeps true k t world h = h
  cut_keeps false k t world h = quiet.of_client (on_transport k cut_off world) t.owner (unlinks world.now) (quiet.of_cut world k h)

  where_keeps : (k : ℕ) (o : Option Transport) (world : World) → P world → P (cut_where k o world)
  where_keeps k None world h = h
  where_keeps k (Some t) world h = cut_keeps t.cut k t world h

  at_keeps : (o : Option ℕ) (world : World) → P world → P (cut_at o world)
  at_keeps None world h = h
  at_keeps (Some k) world h = where_keeps k (slice_get world.transports k) world h

  pub cuts_keeps : (name : List ℕ) (world : World) → P world → P (cuts name world)
  cuts_keeps name world h = at_keeps (latest name world) world h

  sent_keeps : (o : Option ℕ) (frames : List Frame) (world : World) → P world → P (sent_on o frames world)
  sent_keeps None frames world h = h
  sent_keeps (Some k) frames world h = quiet.of_sent world k frames h

  if_keeps : (b : Bool) (name : List ℕ) (world : World) → P world → P (cuts_if b name world)
  if_keeps true name world h = cuts_keeps name world h
  if_keeps false name world h = h

  turned_keeps : (name : List ℕ) (turn : Turn) (world : World) → P world → P (turned name turn world)
  turned_keeps name turn world h =
      if_keeps turn.output.drop_link name (sends name turn.output.frames (on_client name (λ _. turn.state) world))
      (sent_keeps (latest name (on_client name (λ _. turn.state) world)) turn.output.frames (on_client name (λ _. turn.state) world)
      (quiet.of_client world name (λ _. turn.state) h))

  turned_by_keeps : (name : List ℕ) (act : ClientState → Turn) (o : Option ClientState) (world : World) → P world → P (turned_by name act o world)
  turned_by_keeps name act None world h = h
  turned_by_keeps name act (Some state) world h = turned_keeps name (act state) world h

  pub turn_keeps : (name : List ℕ) (act : ClientState → Turn) (world : World) → P world → P (takes_turn name act world)
  turn_keeps name act world h = turned_by_keeps name act (client_at name world) world h

  unless_keeps : (o : Option Refusal) (name : List ℕ) (state : ClientState) (world : World) → P world → P (opened_unless o name state world)
  unless_keeps None name state world h =
      quiet.of_opened (on_client name (λ _. (acted Connect world.now state).state) world) name (hello_of (acted Connect world.now state).state 0)
      (quiet.of_client world name (λ _. (acted Connect world.now state).state) h)
  unless_keeps (Some refused) name state world h = h

  opened_keeps : (name : List ℕ) (o : Option ClientState) (world : World) → P world → P (opened_by name o world)
  opened_keeps name None world h = h
  opened_keeps name (Some state) world h = unless_keeps (refusal Connect state) name state world h

  pub opens_keeps : (name : List ℕ) (world : World) → P world → P (opens name world)
  opens_keeps name world h = opened_keeps name (client_at name world) world h

  pub obeys_keeps : (name : List ℕ) (command : Command) (world : World) → P world → P (obeys name command world)
  obeys_keeps name Connect world h = opens_keeps name world h
  obeys_keeps name Die world h = cuts_keeps name (takes_turn name (acted Die world.now) world) (turn_keeps name (acted Die world.now) world h)
  obeys_keeps name command world h = turn_keeps name (acted command world.now) world h

  with_keeps : (name other : List ℕ) (o : Option RecoveryKey) (world : World) → P world → P (recovered_with name other o world)
  with_keeps name other None world h = h
  with_keeps name other (Some key) world h =
      quiet.of_client (obeys other Die world) name (recovered key) (obeys_keeps other Die world h)

  recovered_if_keeps : (b : Bool) (name other : List ℕ) (lost : ClientState) (world : World) → P world → P (recovered_if b name other lost world)
  recovered_if_keeps true name other lost world h = with_keeps name other (recovery_key lost) world h
  recovered_if_keeps false name other lost world h = h

  from_keeps : (name other : List ℕ) (one two : Option ClientState) (world : World) → P world → P (recovered_from name other one two world)
  from_keeps name other (Some state) (Some lost) world h = recovered_if_keeps (may_recover state) name other lost world h
  from_keeps name other (Some state) None world h = h
  from_keeps name other None two world h = h

  pub recovers_keeps : (name other : List ℕ) (world : World) → P world → P (recovers name other world)
  recovers_keeps name other world h = from_keeps name other (client_at name world) (client_at other world) world h

  got_keeps : (name : List ℕ) (k : ℕ) (a : Arrival) (world : World) → arrival (slice_get world.transports k) ≡ a → P world → P (got_by name k a world)
  got_keeps name k (Comes frame) world is h = turn_keeps name (heard (Some frame) world.now) (on_transport k gives_frame world) (quiet.of_got world k frame is h)
  got_keeps name k Ends world is h = at_keeps (Some k) world h
  got_keeps name k Nothing world is h = h

  got_on_keeps : (name : List ℕ) (o : Option ℕ) (world : World) → P world → P (got_on name o world)
  got_on_keeps name None world h = h
  got_on_keeps name (Some k) world h = got_keeps name k (arrival (slice_get world.transports k)) world refl h

  pub gets_keeps : (name : List ℕ) (world : World) → P world → P (gets name world)
  gets_keeps name world h = got_on_keeps name (latest name world) world h

  pub looks_keeps : (name : List ℕ) (world : World) → P world → P (looks_at_time name world)
  looks_keeps name world h = turn_keeps name (ticked world.now) world h
