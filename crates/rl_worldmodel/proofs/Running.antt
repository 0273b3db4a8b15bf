-- Each action keeps that clients and actors are what inputs make of new ones.
use Rattle.std.proofs.Common.{◌≡◌, refl, sym, ap, subst, ◌∙◌, ℕ, zero, suc, Bool, true, false, if◌then◌else◌, List, [], ◌∷◌, ◌++◌, map, drop, Option, Some, None}
use Rattle.std.specs.Prelude.{⊤, slice_get, bytes_eq}
use Rattle.std.specs.List.{AllByRecursion}
use Rattle.std.proofs.lemmas.Slice.Eq.{bytes_eq-Decides}
use Rattle.rl_types.specs.declared.frames.Frame.{Frame}
use Rattle.rl_runs.specs.declared.commands.Command.{Command}
use Rattle.rl_runs.specs.declared.commands.Command.TheVariants as commands
use Rattle.rl_runs.specs.declared.commands.Hello.{Hello}
use Rattle.rl_runs.specs.declared.commands.RecoveryKey.{RecoveryKey}
use Rattle.rl_types.specs.declared.messages.Body.{Body}
use Rattle.rl_events.specs.declared.channel.ChannelEvent.{ChannelEvent}
use Rattle.rl_events.specs.declared.channel.ChannelEvent.TheVariants.{Tick}
use Rattle.rl_events.specs.declared.calls.Call.{Call}
use Rattle.rl_events.specs.declared.calls.Call.TheVariants as calls
use Rattle.rl_events.specs.declared.calls.DirEvent.TheVariants.{Ask, Names}
use Rattle.rl_events.specs.declared.calls.End.TheVariants.{LinkEnded}
use Rattle.rl_clientmodel.specs.States.{ClientState, Turn, new_state}
use Rattle.rl_clientmodel.specs.Commands.{Refusal, refusal, hello_of}
use Rattle.rl_clientmodel.specs.Keys.{recovery_key, may_recover}
use Rattle.rl_clientmodel.specs.Inputs as client
use Rattle.rl_actormodel.specs.State as actor
use Rattle.rl_actormodel.specs.Inputs as inputs
use Rattle.rl_worldmodel.specs.World.{World, Transport, empty_world, client_in, client_at, latest, changed_at, if_named, on_client, on_transport, new_transport}
use Rattle.rl_worldmodel.specs.World as of_worlds
use Rattle.rl_worldmodel.specs.Calls as of_calls
use Rattle.rl_worldmodel.specs.Clients as of_clients
use Rattle.rl_worldmodel.specs.Actors as of_actors
use Rattle.rl_worldmodel.specs.Services as services
use Rattle.rl_directory.specs.Directory.{number_of}
use Rattle.rl_worldmodel.specs.Actions as of_actions
use Rattle.rl_worldmodel.specs.Running.{IsClient, HasActor, ClientsRun, ActorsRun}
use Rattle.rl_worldmodel.proofs.Acting.{all_keep}

-- LISTS

module _ {X : Type 0} where
  all_and : (P : X → Type 0) (xs : List X) (x : X) → AllByRecursion P xs → P x → AllByRecursion P (xs ++ x ∷ [])
  all_and P [] x all one = (one, tt)
  all_and P (first ∷ xs) x all one = (all.0, all_and P xs x all.1 one)

  all_map : (P : X → Type 0) (f : X → X) → ((x : X) → P x → P (f x)) → (xs : List X) → AllByRecursion P xs → AllByRecursion P (map f xs)
  all_map P f keeps [] all = tt
  all_map P f keeps (x ∷ xs) all = (keeps x all.0, all_map P f keeps xs all.1)

  all_changed : (P : X → Type 0) (f : X → X) → ((x : X) → P x → P (f x)) → (n : ℕ) (xs : List X) → AllByRecursion P xs → AllByRecursion P (changed_at n f xs)
  all_changed P f keeps n [] all = tt
  all_changed P f keeps zero (x ∷ xs) all = (keeps x all.0, all.1)
  all_changed P f keeps (suc n) (x ∷ xs) all = (all.0, all_changed P f keeps n xs all.1)

-- CLIENTS

-- a state of the client of this name
abbrev Runs : List ℕ → ClientState → Type 0
Runs name state = IsClient (name, state)

one_more : (input : client.Input) (name : List ℕ) (state : ClientState) → Runs name state → Runs name (client.step input state).state
one_more input name state run = (input ∷ run.0, ap (λ s. (client.step input s).state) run.1)

abbrev IfRuns : List ℕ → Option ClientState → Type 0
IfRuns name None = ⊤
IfRuns name (Some state) = Runs name state

found_by : (same : Bool) (name : List ℕ) (c : List ℕ × ClientState) (rest : Option ClientState) → (same ≡ true → name ≡ c.0) → IsClient c → IfRuns name rest
    → IfRuns name (if same then Some c.1 else rest)
found_by true name c rest is run more = subst (λ n. Runs n c.1) (sym (is refl)) run
found_by false name c rest is run more = more

found : (name : List ℕ) (clients : List (List ℕ × ClientState)) → AllByRecursion IsClient clients → IfRuns name (client_in name clients)
found name [] all = tt
found name (c ∷ clients) all =
    found_by (bytes_eq name c.0) name c (client_in name clients) (λ same. (bytes_eq-Decides name c.0).0 same) all.0 (found name clients all.1)

changed_by : (same : Bool) (change : ClientState → ClientState) (c : List ℕ × ClientState) → (same ≡ true → IsClient (c.0, change c.1)) → IsClient c
    → IsClient (c.0, if same then change c.1 else c.1)
changed_by true change c changed run = changed refl
changed_by false change c changed run = run

-- WORLDS

pub record Fine (world : World) : Type 0 where
  pub clients : AllByRecursion IsClient world.clients
  pub transports : AllByRecursion HasActor world.transports

-- a client takes an input
takes_input : (input : client.Input) (name : List ℕ) (world : World) → Fine world → Fine (on_client name (λ s. (client.step input s).state) world)
takes_input input name world fine = record {
  clients = all_map IsClient (if_named name (λ s. (client.step input s).state))
      (λ c run. changed_by (bytes_eq name c.0) (λ s. (client.step input s).state) c (λ same. one_more input c.0 c.1 run) run) world.clients fine.clients;
  transports = fine.transports;
}

-- a client gets a state that is its own
takes_state : (state : ClientState) (name : List ℕ) (world : World) → Runs name state → Fine world → Fine (on_client name (λ _. state) world)
takes_state state name world own fine = record {
  clients = all_map IsClient (if_named name (λ _. state))
      (λ c run. changed_by (bytes_eq name c.0) (λ _. state) c (λ same. subst (λ n. Runs n state) ((bytes_eq-Decides name c.0).0 same) own) run) world.clients fine.clients;
  transports = fine.transports;
}

on_its_transport : (k : ℕ) (change : Transport → Transport) → ((t : Transport) → HasActor t → HasActor (change t)) → (world : World) → Fine world → Fine (on_transport k change world)
on_its_transport k change keeps world fine = record {
  clients = fine.clients;
  transports = all_changed HasActor change keeps k world.transports fine.transports;
}

-- CUTS

cut_unless_fine : (cut : Bool) (k : ℕ) (t : Transport) (world : World) → Fine world → Fine (of_clients.cut_unless cut k t world)
cut_unless_fine true k t world fine = fine
cut_unless_fine false k t world fine =
    takes_input (client.Unlinked world.now) t.owner (on_transport k of_clients.cut_off world) (on_its_transport k of_clients.cut_off (λ t has. has) world fine)

cut_where_fine : (k : ℕ) (t : Option Transport) (world : World) → Fine world → Fine (of_clients.cut_where k t world)
cut_where_fine k None world fine = fine
cut_where_fine k (Some t) world fine = cut_unless_fine t.cut k t world fine

cut_at_fine : (k : Option ℕ) (world : World) → Fine world → Fine (of_clients.cut_at k world)
cut_at_fine None world fine = fine
cut_at_fine (Some k) world fine = cut_where_fine k (slice_get world.transports k) world fine

cuts_fine : (name : List ℕ) (world : World) → Fine world → Fine (of_clients.cuts name world)
cuts_fine name world fine = cut_at_fine (latest name world) world fine

-- TURNS

put_unless_has : (cut : Bool) (frames : List Frame) (t : Transport) → HasActor t → HasActor (of_clients.put_unless cut frames t)
put_unless_has true frames t has = has
put_unless_has false frames t has = has

sent_on_fine : (k : Option ℕ) (frames : List Frame) (world : World) → Fine world → Fine (of_clients.sent_on k frames world)
sent_on_fine None frames world fine = fine
sent_on_fine (Some k) frames world fine = on_its_transport k (of_clients.takes_frames frames) (λ t has. put_unless_has t.cut frames t has) world fine

cuts_if_fine : (drops : Bool) (name : List ℕ) (world : World) → Fine world → Fine (of_clients.cuts_if drops name world)
cuts_if_fine false name world fine = fine
cuts_if_fine true name world fine = cuts_fine name world fine

turned_fine : (name : List ℕ) (turn : Turn) (world : World) → Runs name turn.state → Fine world → Fine (of_clients.turned name turn world)
turned_fine name turn world own fine =
    cuts_if_fine turn.output.drop_link name _
    (sent_on_fine (latest name (on_client name (λ _. turn.state) world)) turn.output.frames (on_client name (λ _. turn.state) world)
    (takes_state turn.state name world own fine))

turned_by_fine : (input : client.Input) (name : List ℕ) (state : Option ClientState) (world : World) → IfRuns name state → Fine world
    → Fine (of_clients.turned_by name (client.step input) state world)
turned_by_fine input name None world own fine = fine
turned_by_fine input name (Some state) world own fine = turned_fine name (client.step input state) world (one_more input name state own) fine

takes_turn_fine : (input : client.Input) (name : List ℕ) (world : World) → Fine world → Fine (of_clients.takes_turn name (client.step input) world)
takes_turn_fine input name world fine = turned_by_fine input name (client_at name world) world (found name world.clients fine.clients) fine

-- COMMANDS

opened_unless_fine : (refused : Option Refusal) (name : List ℕ) (state : ClientState) (world : World) → Runs name state → Fine world
    → Fine (of_clients.opened_unless refused name state world)
opened_unless_fine (Some refused) name state world own fine = fine
opened_unless_fine None name state world own fine =
    let after : ClientState = (client.step (client.Told commands.Connect world.now) state).state in
    let told : Fine (on_client name (λ _. after) world) = takes_state after name world (one_more (client.Told commands.Connect world.now) name state own) fine in
    record {
      clients = told.clients;
      transports = all_and HasActor world.transports (new_transport name (hello_of after 0) world.now) fine.transports (hello_of after 0, world.now, [], refl);
    }

opened_by_fine : (name : List ℕ) (state : Option ClientState) (world : World) → IfRuns name state → Fine world → Fine (of_clients.opened_by name state world)
opened_by_fine name None world own fine = fine
opened_by_fine name (Some state) world own fine = opened_unless_fine (refusal commands.Connect state) name state world own fine

opens_fine : (name : List ℕ) (world : World) → Fine world → Fine (of_clients.opens name world)
opens_fine name world fine = opened_by_fine name (client_at name world) world (found name world.clients fine.clients) fine

told_fine : (command : Command) (name : List ℕ) (world : World) → Fine world → Fine (of_clients.takes_turn name (client.step (client.Told command world.now)) world)
told_fine command name world fine = takes_turn_fine (client.Told command world.now) name world fine

obeys_fine : (name : List ℕ) (command : Command) (world : World) → Fine world → Fine (of_clients.obeys name command world)
obeys_fine name commands.Connect world fine = opens_fine name world fine
obeys_fine name commands.Die world fine = cuts_fine name _ (told_fine commands.Die name world fine)
obeys_fine name commands.Close world fine = told_fine commands.Close name world fine
obeys_fine name (commands.Attach channel) world fine = told_fine (commands.Attach channel) name world fine
obeys_fine name (commands.AttachAt channel serial) world fine = told_fine (commands.AttachAt channel serial) name world fine
obeys_fine name (commands.Detach channel) world fine = told_fine (commands.Detach channel) name world fine
obeys_fine name (commands.Publish channel items) world fine = told_fine (commands.Publish channel items) name world fine
obeys_fine name (commands.Enter channel who text) world fine = told_fine (commands.Enter channel who text) name world fine
obeys_fine name (commands.Update channel who text) world fine = told_fine (commands.Update channel who text) name world fine
obeys_fine name (commands.Leave channel who) world fine = told_fine (commands.Leave channel who) name world fine
obeys_fine name (commands.Operate channel ops) world fine = told_fine (commands.Operate channel ops) name world fine

recovered_with_fine : (name other : List ℕ) (key : Option RecoveryKey) (world : World) → Fine world → Fine (of_clients.recovered_with name other key world)
recovered_with_fine name other None world fine = fine
recovered_with_fine name other (Some key) world fine =
    takes_input (client.Recovers key) name (of_clients.obeys other commands.Die world) (obeys_fine other commands.Die world fine)

recovered_if_fine : (may : Bool) (name other : List ℕ) (lost : ClientState) (world : World) → Fine world → Fine (of_clients.recovered_if may name other lost world)
recovered_if_fine false name other lost world fine = fine
recovered_if_fine true name other lost world fine = recovered_with_fine name other (recovery_key lost) world fine

recovered_from_fine : (name other : List ℕ) (state lost : Option ClientState) (world : World) → Fine world → Fine (of_clients.recovered_from name other state lost world)
recovered_from_fine name other (Some state) (Some lost) world fine = recovered_if_fine (may_recover state) name other lost world fine
recovered_from_fine name other None lost world fine = fine
recovered_from_fine name other (Some state) None world fine = fine

-- GETTING

got_by_fine : (name : List ℕ) (k : ℕ) (arrival : of_clients.Arrival) (world : World) → Fine world → Fine (of_clients.got_by name k arrival world)
got_by_fine name k (of_clients.Comes frame) world fine =
    takes_turn_fine (client.Heard (Some frame) world.now) name (on_transport k of_clients.gives_frame world) (on_its_transport k of_clients.gives_frame (λ t has. has) world fine)
got_by_fine name k of_clients.Ends world fine = cut_at_fine (Some k) world fine
got_by_fine name k of_clients.Nothing world fine = fine

got_on_fine : (name : List ℕ) (k : Option ℕ) (world : World) → Fine world → Fine (of_clients.got_on name k world)
got_on_fine name None world fine = fine
got_on_fine name (Some k) world fine = got_by_fine name k (of_clients.arrival (slice_get world.transports k)) world fine

declared_fine : (found : Option ClientState) (name : List ℕ) (world : World) → Fine world → Fine (of_clients.declared_unless found name world)
declared_fine (Some state) name world fine = fine
declared_fine None name world fine = record {
  clients = all_and IsClient world.clients (name, new_state name) fine.clients ([], refl);
  transports = fine.transports;
}

-- ACTORS

-- what an actor of this hello and this moment may be
abbrev RunsFrom : Hello → ℕ → actor.State → Type 0
RunsFrom hello start s = (past : List inputs.Input) × (s ≡ inputs.after hello start past)

actor_one_more : (input : inputs.Input) (hello : Hello) (start : ℕ) (s : actor.State) → RunsFrom hello start s → RunsFrom hello start (inputs.step input s)
actor_one_more input hello start s run = (input ∷ run.0, ap (inputs.step input) run.1)

-- all that waits is taken, one frame after another
all_taken : (frames : List Frame) (hello : Hello) (start : ℕ) (s : actor.State) → s.waiting ≡ frames → RunsFrom hello start s → RunsFrom hello start (record s { waiting = [] })
all_taken [] hello start s none run = (run.0, ap (λ w. record s { waiting = w }) (sym none) ∙ run.1)
all_taken (frame ∷ frames) hello start s some run =
    all_taken frames hello start (inputs.gave s) (ap (drop 1) some) (actor_one_more inputs.Gave hello start s run)

emptied_by : (cut : Bool) (frames : List Frame) (t : Transport) → HasActor t → HasActor (of_actors.emptied (of_actors.put_out_unless cut frames t))
emptied_by true frames t has =
    let run : RunsFrom has.0 has.1 (record t.actor { waiting = [] }) = all_taken t.actor.waiting has.0 has.1 t.actor refl (has.2, has.3) in
    (has.0, has.1, run.0, run.1)
emptied_by false frames t has =
    let run : RunsFrom has.0 has.1 (record t.actor { waiting = [] }) = all_taken t.actor.waiting has.0 has.1 t.actor refl (has.2, has.3) in
    (has.0, has.1, run.0, run.1)

works_has : (input : inputs.Input) (t : Transport) → HasActor t → HasActor (of_actors.works (inputs.step input) t)
works_has input t has =
    let run : RunsFrom has.0 has.1 (inputs.step input t.actor) = actor_one_more input has.0 has.1 t.actor (has.2, has.3) in
    emptied_by t.cut (inputs.step input t.actor).waiting (record t { actor = inputs.step input t.actor }) (has.0, has.1, run.0, run.1)

named_fine : (number : Option ℕ) (name : List ℕ) (world : World) → Fine world → Fine (of_calls.named_by number name world)
named_fine (Some number) name world fine = fine
named_fine None name world fine = record { clients = fine.clients; transports = fine.transports }

called_fine : (call : Call) (world : World) → Fine world → Fine (of_calls.called call world)
called_fine (calls.Book event) world fine = record { clients = fine.clients; transports = fine.transports }
called_fine (calls.Dir (Ask name)) world fine = named_fine (number_of name (of_worlds.names world)) name world fine
called_fine (calls.Dir Names) world fine = fine
called_fine (calls.Chan number event) world fine = record { clients = fine.clients; transports = fine.transports }

performs_fine : (k : ℕ) (call : Call) (world : World) → Fine world → Fine (of_actors.performs k call world)
performs_fine k call world fine =
    on_its_transport k (of_actors.absorbs call world)
    (λ t has. works_has (inputs.Absorbed call (of_calls.reply_to call world) world.now) (of_actors.with_call call world t) has)
    (of_calls.called call world) (called_fine call world fine)

done_fine : (k : ℕ) (deed : of_actors.Deed) (world : World) → Fine world → Fine (of_actors.done k deed world)
done_fine k (of_actors.Calls call) world fine = performs_fine k call world fine
done_fine k of_actors.Notices world fine = on_its_transport k (of_actors.works (inputs.step (inputs.Ended LinkEnded))) (λ t has. works_has (inputs.Ended LinkEnded) t has) world fine
done_fine k (of_actors.TakesUp frame) world fine =
    on_its_transport k (of_actors.takes_up frame world.now)
    (λ t has. works_has (inputs.Took (of_actors.arrives frame) world.now) (record t { to_service = of_worlds.with_one_got t.to_service }) has) world fine
done_fine k of_actors.Rests world fine = on_its_transport k (of_actors.works (inputs.step (inputs.Rested world.now))) (λ t has. works_has (inputs.Rested world.now) t has) world fine
done_fine k of_actors.Waits world fine = fine

performs_if_fine : (k : ℕ) (call : Option Call) (world : World) → Fine world → Fine (of_actors.performs_if k call world)
performs_if_fine k None world fine = fine
performs_if_fine k (Some call) world fine = performs_fine k call world fine

-- SERVICES

reaped_fine : (queue : List (ℕ × ℕ)) (world : World) → Fine world → Fine (services.reaped queue world)
reaped_fine [] world fine = fine
reaped_fine (pair ∷ more) world fine = record { clients = fine.clients; transports = fine.transports }

aged_fine : (number : Option ℕ) (event : ChannelEvent) (world : World) → Fine world → Fine (services.event_at number event world)
aged_fine None event world fine = fine
aged_fine (Some number) event world fine = record { clients = fine.clients; transports = fine.transports }

fed_fine : (number : Option ℕ) (body : Body) (world : World) → Fine world → Fine (services.fed_at number body world)
fed_fine None body world fine = fine
fed_fine (Some number) body world fine = record { clients = fine.clients; transports = fine.transports }

-- ACTIONS

does_fine : (action : of_actions.Action) (world : World) → Fine world → Fine (of_actions.does action world)
does_fine (of_actions.Declares name) world fine = declared_fine (client_at name world) name world fine
does_fine (of_actions.Opens name) world fine = opens_fine name world fine
does_fine (of_actions.Cuts name) world fine = cuts_fine name world fine
does_fine (of_actions.Recovers name other) world fine = recovered_from_fine name other (client_at name world) (client_at other world) world fine
does_fine (of_actions.Obeys name command) world fine = obeys_fine name command world fine
does_fine (of_actions.Gets name) world fine = got_on_fine name (latest name world) world fine
does_fine (of_actions.LooksAtTime name) world fine = takes_turn_fine (client.Ticked world.now) name world fine
does_fine (of_actions.Steps k) world fine = done_fine k (of_actors.next_deed k world) world fine
does_fine (of_actions.Pages k channel) world fine = performs_if_fine k (of_actors.next_page k channel world) world fine
does_fine (of_actions.Polls k channel) world fine = performs_if_fine k (of_actors.next_poll k channel world) world fine
does_fine (of_actions.Passes span) world fine = record { clients = fine.clients; transports = fine.transports }
does_fine of_actions.Expires world fine = record { clients = fine.clients; transports = fine.transports }
does_fine of_actions.Reaps world fine = reaped_fine world.queue world fine
does_fine (of_actions.Ages channel) world fine = aged_fine (number_of channel (of_worlds.names world)) (Tick world.now) world fine
does_fine (of_actions.Asks channel) world fine = named_fine (number_of channel (of_worlds.names world)) channel world fine
does_fine (of_actions.Feeds channel body) world fine = fed_fine (number_of channel (of_worlds.names world)) body world fine

-- whatever was done
done_is_fine : (actions : List of_actions.Action) → Fine (of_actions.all_done actions empty_world)
done_is_fine actions = all_keep Fine does_fine actions empty_world (record { clients = tt; transports = tt })

pub clients_run : ClientsRun
clients_run actions = (done_is_fine actions).clients

pub actors_run : ActorsRun
actors_run actions = (done_is_fine actions).transports
