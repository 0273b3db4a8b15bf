-- A client of a world is what its inputs make of a new one.
use Rattle.std.proofs.Common.{◌≡◌, ℕ, Bool, true, false, List, [], ◌∷◌, ◌++◌, refl, sym, ◌∙◌, ap, subst}
use Rattle.std.specs.Prelude.{Option, Some, None, slice_get, if◌then◌else◌, option_map, bytes_eq}
use Rattle.std.proofs.lemmas.List.{append_assoc}
use Rattle.rl_types.specs.declared.frames.Frame.{Frame}
use Rattle.rl_types.specs.declared.messages.Body.{Body}
use Rattle.rl_events.specs.declared.channel.ChannelEvent.{ChannelEvent}
use Rattle.rl_events.specs.declared.calls.Call.{Call}
use Rattle.rl_events.specs.declared.calls.Call.TheVariants as calls
use Rattle.rl_events.specs.declared.calls.DirEvent.TheVariants as directory
use Rattle.rl_runs.specs.declared.commands.Command.{Command}
use Rattle.rl_runs.specs.declared.commands.Command.TheVariants.{Connect, Die}
use Rattle.rl_runs.specs.declared.commands.RecoveryKey.{RecoveryKey}
use Rattle.rl_directory.specs.Directory.{number_of}
use Rattle.rl_clientmodel.specs.States.{ClientState, new_state}
use Rattle.rl_clientmodel.specs.Commands.{Refusal, refusal, acted, obeyed_unless}
use Rattle.rl_clientmodel.specs.Keys.{recovery_key, may_recover, recovered}
use Rattle.rl_clientmodel.specs.Inputs.{Input, Told, Heard, Unlinked, Ticked, Recovers, step, run, after}
use Rattle.rl_worldmodel.specs.World.{World, Transport, empty_world, on_transport, on_client, client_in, client_at, latest, names}
use Rattle.rl_worldmodel.specs.Calls.{called}
use Rattle.rl_worldmodel.specs.Clients.{declared_unless, cut_off, unlinks, cut_unless, cut_where, cut_at, cuts, sent_on, cuts_if, turned, turned_by, takes_turn, opened_unless, opened_by, opens, obeys, recovered_with, recovered_if, recovered_from, Arrival, Comes, Ends, Nothing, arrival, gives_frame, got_by, got_on}
use Rattle.rl_worldmodel.specs.Actors.{Deed, Calls, Notices, TakesUp, Rests, Waits, done, next_deed, performs_if, next_page, next_poll}
use Rattle.rl_worldmodel.specs.Services.{reaped, event_at, fed_at}
use Rattle.rl_worldmodel.specs.Actions.{Action, Declares, Opens, Cuts, Obeys, Gets, LooksAtTime, Steps, Pages, Polls, Passes, Expires, Reaps, Ages, Asks, Feeds, does, all_done}
use Rattle.rl_worldmodel.specs.Actions as actions
use Rattle.rl_worldtold.specs.Inputs.{to_owner, cut_inputs, at_inputs, cuts_inputs, before_drop, drop_inputs, turned_inputs, turn_inputs, opened_inputs, opens_inputs, obeys_inputs, with_inputs, recovers_if, recovers_inputs, got_inputs, gets_on, if_declared, inputs_by, inputs_from, inputs_of, ClientsAreOfTheirInputs}
use Rattle.rl_worldtold.proofs.Shape.{same_bytes, client_changed, client_added, name_beside}

-- INPUTS ONE AFTER ANOTHER

run_append : (more before : List Input) (s : ClientState) → run (more ++ before) s ≡ run more (run before s)
run_append [] before s = refl
run_append (input ∷ more) before s = ap (λ (x : ClientState). (step input x).state) (run_append more before s)

run_none : (o : Option ClientState) → o ≡ option_map (run []) o
run_none None = refl
run_none (Some s) = refl

run_more : (more before : List Input) (o : Option ClientState) → option_map (run more) (option_map (run before) o) ≡ option_map (run (more ++ before)) o
run_more more before None = refl
run_more more before (Some s) = ap (λ (x : ClientState). Some x) (sym (run_append more before s))

-- the client of this name after a change of the world
abbrev Moves : List ℕ → World → World → List Input → Type 0
Moves owner world after inputs = client_at owner after ≡ option_map (run inputs) (client_at owner world)

moves_same : (owner : List ℕ) (world after : World) → after.clients ≡ world.clients → Moves owner world after []
moves_same owner world after same = ap (client_in owner) same ∙ run_none (client_at owner world)

moves_then : (owner : List ℕ) (one two three : World) (before more : List Input) → Moves owner one two before → Moves owner two three more → Moves owner one three (more ++ before)
moves_then owner one two three before more first second = second ∙ ap (option_map (run more)) first ∙ run_more more before (client_at owner one)

-- where one client is changed as its inputs say
changed_by : (b : Bool) (f : ClientState → ClientState) (inputs : List Input) (o : Option ClientState) → (b ≡ true → (s : ClientState) → o ≡ Some s → f s ≡ run inputs s) → (if b then option_map f o else o) ≡ option_map (run (if b then inputs else [])) o
changed_by true f inputs None same = refl
changed_by true f inputs (Some s) same = ap (λ (x : ClientState). Some x) (same refl s refl)
changed_by false f inputs o same = run_none o

moves_on : (owner name : List ℕ) (f : ClientState → ClientState) (inputs : List Input) (world : World) → (name ≡ owner → (s : ClientState) → client_at owner world ≡ Some s → f s ≡ run inputs s) → Moves owner world (on_client name f world) (to_owner owner name inputs)
moves_on owner name f inputs world same =
    client_changed owner name f world.clients ∙ changed_by (bytes_eq name owner) f inputs (client_at owner world) (λ is. same (same_bytes name owner is))

-- A CUT

moves_unless : (b : Bool) (owner : List ℕ) (k : ℕ) (t : Transport) (world : World) → Moves owner world (cut_unless b k t world) (if b then [] else to_owner owner t.owner (Unlinked world.now ∷ []))
moves_unless true owner k t world = run_none (client_at owner world)
moves_unless false owner k t world = moves_on owner t.owner (unlinks world.now) (Unlinked world.now ∷ []) (on_transport k cut_off world) (λ is s found. refl)

moves_where : (owner : List ℕ) (k : ℕ) (o : Option Transport) (world : World) → Moves owner world (cut_where k o world) (cut_inputs owner world.now o)
moves_where owner k None world = run_none (client_at owner world)
moves_where owner k (Some t) world = moves_unless t.cut owner k t world

moves_at : (owner : List ℕ) (o : Option ℕ) (world : World) → Moves owner world (cut_at o world) (at_inputs owner o world)
moves_at owner None world = run_none (client_at owner world)
moves_at owner (Some k) world = moves_where owner k (slice_get world.transports k) world

moves_cuts : (owner name : List ℕ) (world : World) → Moves owner world (cuts name world) (cuts_inputs owner name world)
moves_cuts owner name world = moves_at owner (latest name world) world

-- A TURN

sent_clients : (o : Option ℕ) (frames : List Frame) (world : World) → (sent_on o frames world).clients ≡ world.clients
sent_clients None frames world = refl
sent_clients (Some k) frames world = refl

moves_drop : (b : Bool) (owner name : List ℕ) (world : World) → Moves owner world (cuts_if b name world) (drop_inputs b owner name world)
moves_drop true owner name world = moves_cuts owner name world
moves_drop false owner name world = run_none (client_at owner world)

-- the state that is found is the client's
found_is : (owner name : List ℕ) (world : World) (state s : ClientState) → client_at name world ≡ Some state → name ≡ owner → client_at owner world ≡ Some s → state ≡ s
found_is owner name world state s at same found =
    let both : Some state ≡ Some s = sym at ∙ ap (λ (n : List ℕ). client_in n world.clients) same ∙ found in cc

moves_turned : (owner name : List ℕ) (input : Input) (state : ClientState) (world : World) → client_at name world ≡ Some state → Moves owner world (turned name (step input state) world) (turned_inputs owner name input (Some state) world)
moves_turned owner name input state world at =
    let told = on_client name (λ _. (step input state).state) world in
    let sent = before_drop name (step input state) world in
    moves_then owner world (before_drop name (step input state) world) (turned name (step input state) world) (to_owner owner name (input ∷ [])) (drop_inputs (step input state).output.drop_link owner name (before_drop name (step input state) world))
    (ap (client_in owner) (sent_clients (latest name (on_client name (λ _. (step input state).state) world)) (step input state).output.frames (on_client name (λ _. (step input state).state) world))
    ∙ moves_on owner name (λ _. (step input state).state) (input ∷ []) world (λ same s found. ap (λ (x : ClientState). (step input x).state) (found_is owner name world state s at same found)))
    (moves_drop (step input state).output.drop_link owner name (before_drop name (step input state) world))

moves_turn_by : (owner name : List ℕ) (input : Input) (o : Option ClientState) (world : World) → client_at name world ≡ o → Moves owner world (turned_by name (step input) o world) (turned_inputs owner name input o world)
moves_turn_by owner name input None world at = run_none (client_at owner world)
moves_turn_by owner name input (Some state) world at = moves_turned owner name input state world at

moves_turn : (owner name : List ℕ) (input : Input) (world : World) → Moves owner world (takes_turn name (step input) world) (turn_inputs owner name input world)
moves_turn owner name input world = moves_turn_by owner name input (client_at name world) world refl

-- A CLIENT CONNECTS

-- one that may not stays as it was
stays_by : (b : Bool) (inputs : List Input) (o : Option ClientState) → (b ≡ true → (s : ClientState) → o ≡ Some s → s ≡ run inputs s) → o ≡ option_map (run (if b then inputs else [])) o
stays_by true inputs None same = refl
stays_by true inputs (Some s) same = ap (λ (x : ClientState). Some x) (same refl s refl)
stays_by false inputs o same = run_none o

refused_same : (o : Option Refusal) (now : ℕ) (state : ClientState) (why : Refusal) → refusal Connect state ≡ o → o ≡ Some why → state ≡ (acted Connect now state).state
refused_same o now state why is refused = sym (ap (λ (r : Option Refusal). (obeyed_unless r Connect now state).state) (is ∙ refused))

moves_unless_refused : (owner name : List ℕ) (o : Option Refusal) (state : ClientState) (world : World) → refusal Connect state ≡ o → client_at name world ≡ Some state → Moves owner world (opened_unless o name state world) (opened_inputs owner name world.now (Some state))
moves_unless_refused owner name (Some why) state world is at =
    stays_by (bytes_eq name owner) (Told Connect world.now ∷ []) (client_at owner world)
    (λ same s found.
    let it = found_is owner name world state s at (same_bytes name owner same) found in
    subst (λ (x : ClientState). x ≡ (acted Connect world.now x).state) it (refused_same (Some why) world.now state why is refl))
moves_unless_refused owner name None state world is at =
    moves_on owner name (λ _. (acted Connect world.now state).state) (Told Connect world.now ∷ []) world
    (λ same s found. ap (λ (x : ClientState). (acted Connect world.now x).state) (found_is owner name world state s at same found))

moves_opened : (owner name : List ℕ) (o : Option ClientState) (world : World) → client_at name world ≡ o → Moves owner world (opened_by name o world) (opened_inputs owner name world.now o)
moves_opened owner name None world at = run_none (client_at owner world)
moves_opened owner name (Some state) world at = moves_unless_refused owner name (refusal Connect state) state world refl at

moves_opens : (owner name : List ℕ) (world : World) → Moves owner world (opens name world) (opens_inputs owner name world)
moves_opens owner name world = moves_opened owner name (client_at name world) world refl

moves_obeys : (owner name : List ℕ) (command : Command) (world : World) → Moves owner world (obeys name command world) (obeys_inputs owner name command world)
moves_obeys owner name Connect world = moves_opens owner name world
moves_obeys owner name Die world =
    moves_then owner world (takes_turn name (acted Die world.now) world) (obeys name Die world) (turn_inputs owner name (Told Die world.now) world) (cuts_inputs owner name (takes_turn name (acted Die world.now) world))
    (moves_turn owner name (Told Die world.now) world) (moves_cuts owner name (takes_turn name (acted Die world.now) world))
moves_obeys owner name command world = moves_turn owner name (Told command world.now) world

-- RECOVERY

moves_with : (owner name other : List ℕ) (o : Option RecoveryKey) (world : World) → Moves owner world (recovered_with name other o world) (with_inputs owner name other o world)
moves_with owner name other None world = run_none (client_at owner world)
moves_with owner name other (Some key) world =
    moves_then owner world (obeys other Die world) (recovered_with name other (Some key) world)
    (obeys_inputs owner other Die world) (to_owner owner name (Recovers key ∷ []))
    (moves_obeys owner other Die world)
    (moves_on owner name (recovered key) (Recovers key ∷ []) (obeys other Die world) (λ same s found. refl))

moves_recovered : (b : Bool) (owner name other : List ℕ) (lost : ClientState) (world : World) → Moves owner world (recovered_if b name other lost world) (recovers_if b owner name other lost world)
moves_recovered true owner name other lost world = moves_with owner name other (recovery_key lost) world
moves_recovered false owner name other lost world = run_none (client_at owner world)

moves_from : (owner name other : List ℕ) (one two : Option ClientState) (world : World) → Moves owner world (recovered_from name other one two world) (recovers_inputs owner name other one two world)
moves_from owner name other (Some state) (Some lost) world = moves_recovered (may_recover state) owner name other lost world
moves_from owner name other (Some state) None world = run_none (client_at owner world)
moves_from owner name other None two world = run_none (client_at owner world)

-- GETTING

moves_got : (owner name : List ℕ) (k : ℕ) (a : Arrival) (world : World) → Moves owner world (got_by name k a world) (got_inputs owner name k a world)
moves_got owner name k (Comes frame) world = moves_turn owner name (Heard (Some frame) world.now) (on_transport k gives_frame world)
moves_got owner name k Ends world = moves_at owner (Some k) world
moves_got owner name k Nothing world = run_none (client_at owner world)

moves_gets : (owner name : List ℕ) (o : Option ℕ) (world : World) → Moves owner world (got_on name o world) (gets_on owner name o world)
moves_gets owner name None world = run_none (client_at owner world)
moves_gets owner name (Some k) world = moves_got owner name k (arrival (slice_get world.transports k)) world

-- THE SERVICE LEAVES CLIENTS AS THEY ARE

pub called_clients : (call : Call) (world : World) → (called call world).clients ≡ world.clients
called_clients (calls.Book event) world = refl
called_clients (calls.Dir (directory.Ask name)) world = (name_beside name world).clients
called_clients (calls.Dir directory.Names) world = refl
called_clients (calls.Chan number event) world = refl

done_clients : (k : ℕ) (deed : Deed) (world : World) → (done k deed world).clients ≡ world.clients
done_clients k (Calls call) world = called_clients call world
done_clients k Notices world = refl
done_clients k (TakesUp frame) world = refl
done_clients k Rests world = refl
done_clients k Waits world = refl

if_clients : (k : ℕ) (o : Option Call) (world : World) → (performs_if k o world).clients ≡ world.clients
if_clients k None world = refl
if_clients k (Some call) world = called_clients call world

reaped_clients : (queue : List (ℕ × ℕ)) (world : World) → (reaped queue world).clients ≡ world.clients
reaped_clients [] world = refl
reaped_clients (pair ∷ more) world = refl

event_clients : (o : Option ℕ) (event : ChannelEvent) (world : World) → (event_at o event world).clients ≡ world.clients
event_clients None event world = refl
event_clients (Some number) event world = refl

fed_clients : (o : Option ℕ) (body : Body) (world : World) → (fed_at o body world).clients ≡ world.clients
fed_clients None body world = refl
fed_clients (Some number) body world = refl

-- ALL ACTIONS

-- the inputs of a client that is there or is not
abbrev Is : List ℕ → List Input → Option ClientState → Type 0
Is owner inputs None = inputs ≡ []
Is owner inputs (Some s) = s ≡ after owner inputs

is_moved : (owner : List ℕ) (before more : List Input) (o : Option ClientState) → Is owner before o → Is owner (if_declared o more ++ before) (option_map (run more) o)
is_moved owner before more None is = is
is_moved owner before more (Some s) is = ap (run more) is ∙ sym (run_append more before (new_state owner))

moved : (owner : List ℕ) (world next : World) (before more : List Input) → Moves owner world next more → Is owner before (client_at owner world) → Is owner (if_declared (client_at owner world) more ++ before) (client_at owner next)
moved owner world next before more moves is = subst (Is owner (if_declared (client_at owner world) more ++ before)) (sym moves) (is_moved owner before more (client_at owner world) is)

-- a client that is declared is new
new_is : (owner name : List ℕ) (b : Bool) (before : List Input) → bytes_eq owner name ≡ b → before ≡ [] → Is owner before (if b then Some (new_state name) else None)
new_is owner name true before same none = ap new_state (sym (same_bytes owner name same)) ∙ sym (ap (after owner) none)
new_is owner name false before same none = none

declared_none : (owner name : List ℕ) (before : List Input) (world : World) (o : Option ClientState) → client_at owner world ≡ o → Is owner before o → Is owner (if_declared o [] ++ before) (client_in owner (world.clients ++ (name, new_state name) ∷ []))
declared_none owner name before world None at is =
    subst (Is owner before) (sym ((client_added owner world.clients ((name, new_state name) ∷ [])).0 at)) (new_is owner name (bytes_eq owner name) before refl is)
declared_none owner name before world (Some s) at is =
    subst (Is owner before) (sym ((client_added owner world.clients ((name, new_state name) ∷ [])).1 s at)) is

declared_is : (owner name : List ℕ) (before : List Input) (o : Option ClientState) (world : World) → Is owner before (client_at owner world) → Is owner (if_declared (client_at owner world) [] ++ before) (client_at owner (declared_unless o name world))
declared_is owner name before (Some state) world is = moved owner world world before [] (run_none (client_at owner world)) is
declared_is owner name before None world is = declared_none owner name before world (client_at owner world) refl is

left_is : (owner : List ℕ) (before : List Input) (world next : World) → next.clients ≡ world.clients → Is owner before (client_at owner world) → Is owner (if_declared (client_at owner world) [] ++ before) (client_at owner next)
left_is owner before world next same is = moved owner world next before [] (moves_same owner world next same) is

step_is : (owner : List ℕ) (before : List Input) (action : Action) (world : World) → Is owner before (client_at owner world) → Is owner (inputs_by owner action world ++ before) (client_at owner (does action world))
step_is owner before (Declares name) world is = declared_is owner name before (client_at name world) world is
step_is owner before (Opens name) world is = moved owner world (does (Opens name) world) before _ (moves_opens owner name world) is
step_is owner before (Cuts name) world is = moved owner world (does (Cuts name) world) before _ (moves_cuts owner name world) is
step_is owner before (actions.Recovers name other) world is = moved owner world (does (actions.Recovers name other) world) before _ (moves_from owner name other (client_at name world) (client_at other world) world) is
step_is owner before (Obeys name command) world is = moved owner world (does (Obeys name command) world) before _ (moves_obeys owner name command world) is
step_is owner before (Gets name) world is = moved owner world (does (Gets name) world) before _ (moves_gets owner name (latest name world) world) is
step_is owner before (LooksAtTime name) world is = moved owner world (does (LooksAtTime name) world) before _ (moves_turn owner name (Ticked world.now) world) is
step_is owner before (Steps k) world is = left_is owner before world (does (Steps k) world) (done_clients k (next_deed k world) world) is
step_is owner before (Pages k name) world is = left_is owner before world (does (Pages k name) world) (if_clients k (next_page k name world) world) is
step_is owner before (Polls k name) world is = left_is owner before world (does (Polls k name) world) (if_clients k (next_poll k name world) world) is
step_is owner before (Passes span) world is = left_is owner before world (does (Passes span) world) refl is
step_is owner before Expires world is = left_is owner before world (does Expires world) refl is
step_is owner before Reaps world is = left_is owner before world (does Reaps world) (reaped_clients world.queue world) is
step_is owner before (Ages name) world is = left_is owner before world (does (Ages name) world) (event_clients (number_of name (names world)) _ world) is
step_is owner before (Asks name) world is = left_is owner before world (does (Asks name) world) (name_beside name world).clients is
step_is owner before (Feeds name body) world is = left_is owner before world (does (Feeds name body) world) (fed_clients (number_of name (names world)) body world) is

all_is : (owner : List ℕ) (before : List Input) (list : List Action) (world : World) → Is owner before (client_at owner world) → Is owner (inputs_from owner list world ++ before) (client_at owner (all_done list world))
all_is owner before [] world is = is
all_is owner before (action ∷ more) world is =
    subst (λ (inputs : List Input). Is owner inputs (client_at owner (all_done more (does action world)))) (sym (append_assoc (inputs_from owner more (does action world)) (inputs_by owner action world) before))
    (all_is owner (inputs_by owner action world ++ before) more (does action world) (step_is owner before action world is))

append_none : (inputs : List Input) → inputs ++ [] ≡ inputs
append_none [] = refl
append_none (input ∷ inputs) = ap (λ (rest : List Input). input ∷ rest) (append_none inputs)

pub clients_are_of_their_inputs : ClientsAreOfTheirInputs
clients_are_of_their_inputs list name state found =
    subst (λ (inputs : List Input). state ≡ after name inputs) (append_none (inputs_of name list))
    (subst (Is name (inputs_of name list ++ [])) found (all_is name [] list empty_world refl))
