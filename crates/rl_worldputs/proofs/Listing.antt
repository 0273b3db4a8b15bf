-- What clients list is of refusals that are so: each action keeps it.
use Rattle.std.proofs.Common.{◌≡◌, ℕ, Bool, true, false, List, [], ◌∷◌, map, refl, sym, ◌∙◌, ap, subst}
use Rattle.std.specs.Prelude.{Option, Some, None, slice_get, if◌then◌else◌}
use Rattle.std.specs.List.{AllByRecursion}
use Rattle.rl_ids.specs.Forms.{conn_text}
use Rattle.rl_types.specs.declared.frames.Frame.{Frame}
use Rattle.rl_types.specs.declared.frames.Frame.TheVariants as frames
use Rattle.rl_runs.specs.declared.commands.Command.{Command}
use Rattle.rl_runs.specs.declared.commands.Command.TheVariants.{Connect, Die}
use Rattle.rl_runs.specs.declared.commands.RecoveryKey.{RecoveryKey}
use Rattle.rl_runs.specs.declared.findings.Answer.{Answer}
use Rattle.rl_connsm.specs.Rules.{awaits_connected, takes_acknowledgements}
use Rattle.rl_connsm.specs.declared.table.ConnEvent.TheVariants as events
use Rattle.rl_connbook.proofs.Each.{all_weaker, all_append}
use Rattle.rl_actormodel.specs.declared.parts.Holder.{Holder}
use Rattle.rl_clientmodel.specs.States.{ClientState, Turn, new_state}
use Rattle.rl_clientmodel.specs.Commands.{Refusal, refusal, acted, hello_of}
use Rattle.rl_clientmodel.specs.Hearing.{hears, heard, settle}
use Rattle.rl_clientmodel.specs.Keys.{recovery_key, may_recover, recovered}
use Rattle.rl_worldmodel.specs.World.{World, Transport, changed_at, on_transport, on_client, client_at, latest}
use Rattle.rl_worldmodel.specs.Clients.{declared_unless, cut_off, unlinks, cut_unless, cut_where, cut_at, cuts, takes_frames, sent_on, sends, cuts_if, turned, turned_by, takes_turn, opened_as, opened_unless, opened_by, opens, obeys, recovered_with, recovered_if, recovered_from, Arrival, Comes, Ends, Nothing, arrival, gives_frame, got_by, got_on}
use Rattle.rl_worldtold.specs.Truth.{Channels, OnHolder, IsOn, IsTrueFrame, IsTrueTransport, IsTrueWorld}
use Rattle.rl_worldtold.proofs.Shape.{all_at, get_changed}
use Rattle.rl_worldtold.proofs.Answers.{arrives}
use Rattle.rl_worldtold.proofs.Telling.{named_all, in_all}
use Rattle.rl_worldputs.proofs.Clients.{linked_at}
use Rattle.rl_runs.specs.declared.findings.Answer.TheVariants.{Ack, Nack}
use Rattle.rl_ackq.specs.Queue.{settled_serials}
use Rattle.rl_clientmodel.specs.Hearing.{id_of, stands_with}
use Rattle.rl_clientmodel.specs.Times.{ticked}
use Rattle.rl_worldtold.proofs.Shape.{all_map}
use Rattle.rl_worldtold.proofs.Calm.{calm_unlinked, calm_acted, calm_hears, calm_ticked, calm_recovered}
use Rattle.rl_worldtold.proofs.Answers.{settled_one}
use Rattle.rl_worldtold.proofs.Lists.{takes_on}
use Rattle.rl_worldtold.proofs.Moves.{rests_moved}
use Rattle.rl_worldputs.specs.Refusals.{IsRefusal, IsTakenUp, IsFrameSo, IsLinkSo, IsRefusing, IsAnswerSo, AreAnswersSo}
use Rattle.rl_worldputs.proofs.Lasting.{Lasts}
use Rattle.rl_worldputs.proofs.Elsewhere.{cut_lasts, sent_lasts, gives_lasts, opened_lasts, quiet_refusing}

-- WHAT IS SO STAYS SO

answer_stays : (R Q : ℕ → ℕ → ℕ → Type 0) → ((conn serial code : ℕ) → R conn serial code → Q conn serial code) → (a : Answer) → IsAnswerSo R a → IsAnswerSo Q a
answer_stays R Q so (Ack id serial) is = tt
answer_stays R Q so (Nack id serial code) is = (is.0, is.1, so is.0 serial code is.2)

abbrev Lists : World → List ℕ × ClientState → Type 0
Lists world c = AllByRecursion (IsAnswerSo (IsRefusal world.channels world.transports)) c.1.answers

pub answers_last : (world after : World) → Lasts world after → after.clients ≡ world.clients → AreAnswersSo world → AreAnswersSo after
answers_last world after l same h =
    subst (AllByRecursion (Lists after)) (sym same)
    (all_weaker _ _ (λ c is. all_weaker _ _ (answer_stays (IsRefusal world.channels world.transports) (IsRefusal after.channels after.transports) l.so) c.1.answers is) world.clients h)

client_answers : (world : World) (name : List ℕ) (f : ClientState → ClientState) → ((c : List ℕ × ClientState) → name ≡ c.0 → Lists world c → Lists world (c.0, f c.1)) → AreAnswersSo world → AreAnswersSo (on_client name f world)
client_answers world name f step h = named_all (Lists world) name f step world.clients h

-- A TURN

cut_answers : (b : Bool) (k : ℕ) (t : Transport) (world : World) → AreAnswersSo world → AreAnswersSo (cut_unless b k t world)
cut_answers true k t world h = h
cut_answers false k t world h =
    client_answers (on_transport k cut_off world) t.owner (unlinks world.now) (λ c same is. subst (AllByRecursion (IsAnswerSo _)) (sym (calm_unlinked world.now c.1).answers) is)
    (answers_last world (on_transport k cut_off world) (cut_lasts world k) refl h)

where_answers : (k : ℕ) (o : Option Transport) (world : World) → AreAnswersSo world → AreAnswersSo (cut_where k o world)
where_answers k None world h = h
where_answers k (Some t) world h = cut_answers t.cut k t world h

at_answers : (o : Option ℕ) (world : World) → AreAnswersSo world → AreAnswersSo (cut_at o world)
at_answers None world h = h
at_answers (Some k) world h = where_answers k (slice_get world.transports k) world h

pub cuts_answers : (name : List ℕ) (world : World) → AreAnswersSo world → AreAnswersSo (cuts name world)
cuts_answers name world h = at_answers (latest name world) world h

if_answers : (b : Bool) (name : List ℕ) (world : World) → AreAnswersSo world → AreAnswersSo (cuts_if b name world)
if_answers true name world h = cuts_answers name world h
if_answers false name world h = h

sent_answers : (o : Option ℕ) (list : List Frame) (world : World) → AreAnswersSo world → AreAnswersSo (sent_on o list world)
sent_answers None list world h = h
sent_answers (Some k) list world h = answers_last world (on_transport k (takes_frames list) world) (sent_lasts world k list) refl h

turned_answers : (name : List ℕ) (turn : Turn) (world : World) → Lists world (name, turn.state) → AreAnswersSo world → AreAnswersSo (turned name turn world)
turned_answers name turn world good h =
    if_answers turn.output.drop_link name (sends name turn.output.frames (on_client name (λ _. turn.state) world))
    (sent_answers (latest name (on_client name (λ _. turn.state) world)) turn.output.frames (on_client name (λ _. turn.state) world)
    (client_answers world name (λ _. turn.state) (λ c same is. good) h))

turned_by_answers : (name : List ℕ) (act : ClientState → Turn) (o : Option ClientState) (world : World) → client_at name world ≡ o → ((state : ClientState) → client_at name world ≡ Some state → Lists world (name, state) → Lists world (name, (act state).state)) → AreAnswersSo world → AreAnswersSo (turned_by name act o world)
turned_by_answers name act None world at step h = h
turned_by_answers name act (Some state) world at step h = turned_answers name (act state) world (step state at (in_all (Lists world) name world.clients state h at)) h

turn_answers : (name : List ℕ) (act : ClientState → Turn) (world : World) → ((state : ClientState) → client_at name world ≡ Some state → Lists world (name, state) → Lists world (name, (act state).state)) → AreAnswersSo world → AreAnswersSo (takes_turn name act world)
turn_answers name act world step h = turned_by_answers name act (client_at name world) world refl step h

told_answers : (name : List ℕ) (command : Command) (world : World) → AreAnswersSo world → AreAnswersSo (takes_turn name (acted command world.now) world)
told_answers name command world h =
    turn_answers name (acted command world.now) world (λ state at is. subst (AllByRecursion (IsAnswerSo (IsRefusal world.channels world.transports))) (sym (calm_acted command world.now state).answers) is) h

pub looks_answers : (name : List ℕ) (world : World) → AreAnswersSo world → AreAnswersSo (takes_turn name (ticked world.now) world)
looks_answers name world h =
    turn_answers name (ticked world.now) world (λ state at is. subst (AllByRecursion (IsAnswerSo (IsRefusal world.channels world.transports))) (sym (calm_ticked world.now state).answers) is) h

-- A FRAME IS HEARD

every : (P : ℕ → Type 0) → ((n : ℕ) → P n) → (ns : List ℕ) → AllByRecursion P ns
every P each [] = tt
every P each (n ∷ ns) = (each n, every P each ns)

-- an acknowledgement is of one serial
settle_answers : (R : ℕ → ℕ → ℕ → Type 0) (b : Bool) (serial count : ℕ) (answer : ℕ → Answer) (s : ClientState) → (b ≡ true → AllByRecursion (λ n. IsAnswerSo R (answer n)) (settled_serials serial count s.queue)) → AllByRecursion (IsAnswerSo R) s.answers → AllByRecursion (IsAnswerSo R) (if b then settle serial count answer s else s).answers
settle_answers R true serial count answer s new h = all_append (IsAnswerSo R) s.answers (map answer (settled_serials serial count s.queue)) h (all_map (IsAnswerSo R) answer (settled_serials serial count s.queue) (new refl))
settle_answers R false serial count answer s new h = h

nack_so : (R : ℕ → ℕ → ℕ → Type 0) (channels : Channels) (serial count code : ℕ) (holder : Option Holder) (id : Option (List ℕ)) → IsTrueFrame channels holder (frames.Nack serial count code) → IsFrameSo R holder (frames.Nack serial count code) → OnHolder holder (λ h. id ≡ Some (conn_text h.conn))
    → (count ≡ 1) × IsAnswerSo R (Nack (id_of id) serial code)
nack_so R channels serial count code None id is so on = absurd is
nack_so R channels serial count code (Some h) id is so on = (is.0, (h.conn, sym (ap id_of on), so))

connected_same : (b : Bool) (id key : List ℕ) (now : ℕ) (s : ClientState) → (if b then stands_with id key now s else record { state = s; output = record { frames = []; drop_link = false } }).state.answers ≡ s.answers
connected_same true id key now s = (rests_moved events.Connected now s).answers
connected_same false id key now s = refl

hears_answers : (R : ℕ → ℕ → ℕ → Type 0) (channels : Channels) (frame : Frame) (holder : Option Holder) (now : ℕ) (s : ClientState) → IsTrueFrame channels holder frame → IsFrameSo R holder frame → (IsOn s.conn → OnHolder holder (λ h. s.id ≡ Some (conn_text h.conn)))
    → AllByRecursion (IsAnswerSo R) s.answers → AllByRecursion (IsAnswerSo R) (hears frame now s).state.answers
hears_answers R channels (frames.Connected id key ttl idle size code) holder now s is so linked h = subst (AllByRecursion (IsAnswerSo R)) (sym (connected_same (awaits_connected s.conn) id key now s)) h
hears_answers R channels (frames.Ack serial count) holder now s is so linked h =
    settle_answers R (takes_acknowledgements s.conn) serial count (λ n. Ack (id_of s.id) n) s (λ takes. every _ (λ n. tt) (settled_serials serial count s.queue)) h
hears_answers R channels (frames.Nack serial count code) holder now s is so linked h =
    settle_answers R (takes_acknowledgements s.conn) serial count (λ n. Nack (id_of s.id) n code) s
    (λ takes. let n = nack_so R channels serial count code holder s.id is so (linked (takes_on s.conn takes)) in settled_one serial count (λ n. IsAnswerSo R (Nack (id_of s.id) n code)) n.0 n.1 s.queue.pending) h
hears_answers R channels frame holder now s is so linked h = subst (AllByRecursion (IsAnswerSo R)) (sym (calm_hears frame now s tt).answers) h

comes_answers : (name : List ℕ) (k : ℕ) (frame : Frame) (o : Option Transport) (world : World) → latest name world ≡ Some k → slice_get world.transports k ≡ o → arrival o ≡ Comes frame → IsTrueWorld world → IsRefusing world → AreAnswersSo world
    → AreAnswersSo (takes_turn name (heard (Some frame) world.now) (on_transport k gives_frame world))
comes_answers name k frame None world at found is true_ refusing h = absurd (cc)
comes_answers name k frame (Some t) world at found is true_ refusing h =
    let here = all_at (IsTrueTransport world.channels) k t world.transports found true_.service.each in
    let came = arrives t.cut (slice_get t.to_client.put t.to_client.got) t.actor.ended frame is in
    let is_found : arrival (slice_get world.transports k) ≡ Comes frame = ap arrival found ∙ is in
    let link = all_at (IsLinkSo (IsRefusal world.channels (changed_at k gives_frame world.transports)) (IsTakenUp (changed_at k gives_frame world.transports))) k (gives_frame t) (changed_at k gives_frame world.transports) (get_changed k gives_frame t world.transports found) (quiet_refusing.of_got world k frame is_found refusing).links in
    turn_answers name (heard (Some frame) world.now) (on_transport k gives_frame world)
    (λ state at_state listed.
    hears_answers (IsRefusal world.channels (changed_at k gives_frame world.transports)) world.channels frame t.actor.holder world.now (record state { got_at = world.now })
    (all_at (IsTrueFrame world.channels t.actor.holder) t.to_client.got frame t.to_client.put came.1 here.on_way)
    (all_at (IsFrameSo (IsRefusal world.channels (changed_at k gives_frame world.transports)) t.actor.holder) t.to_client.got frame t.to_client.put came.1 link.on_way)
    (λ on. linked_at world name state true_ at_state on k t at found came.0) listed)
    (answers_last world (on_transport k gives_frame world) (gives_lasts world k) refl h)

got_answers : (name : List ℕ) (k : ℕ) (a : Arrival) (world : World) → latest name world ≡ Some k → arrival (slice_get world.transports k) ≡ a → IsTrueWorld world → IsRefusing world → AreAnswersSo world → AreAnswersSo (got_by name k a world)
got_answers name k (Comes frame) world at is true_ refusing h = comes_answers name k frame (slice_get world.transports k) world at refl is true_ refusing h
got_answers name k Ends world at is true_ refusing h = at_answers (Some k) world h
got_answers name k Nothing world at is true_ refusing h = h

pub got_on_answers : (name : List ℕ) (o : Option ℕ) (world : World) → latest name world ≡ o → IsTrueWorld world → IsRefusing world → AreAnswersSo world → AreAnswersSo (got_on name o world)
got_on_answers name None world at true_ refusing h = h
got_on_answers name (Some k) world at true_ refusing h = got_answers name k (arrival (slice_get world.transports k)) world at refl true_ refusing h

-- A CLIENT OPENS, GOES ON AND IS DECLARED

unless_answers : (o : Option Refusal) (name : List ℕ) (state : ClientState) (world : World) → client_at name world ≡ Some state → AreAnswersSo world → AreAnswersSo (opened_unless o name state world)
unless_answers None name state world at h =
    let good = in_all (Lists world) name world.clients state h at in
    answers_last (on_client name (λ _. (acted Connect world.now state).state) world) (opened_as name (acted Connect world.now state).state world) (opened_lasts (on_client name (λ _. (acted Connect world.now state).state) world) name (hello_of (acted Connect world.now state).state 0)) refl
    (client_answers world name (λ _. (acted Connect world.now state).state) (λ c same is. subst (AllByRecursion (IsAnswerSo (IsRefusal world.channels world.transports))) (sym (calm_acted Connect world.now state).answers) good) h)
unless_answers (Some why) name state world at h = h

opened_answers : (name : List ℕ) (o : Option ClientState) (world : World) → client_at name world ≡ o → AreAnswersSo world → AreAnswersSo (opened_by name o world)
opened_answers name None world at h = h
opened_answers name (Some state) world at h = unless_answers (refusal Connect state) name state world at h

pub opens_answers : (name : List ℕ) (world : World) → AreAnswersSo world → AreAnswersSo (opens name world)
opens_answers name world h = opened_answers name (client_at name world) world refl h

pub obeys_answers : (name : List ℕ) (command : Command) (world : World) → AreAnswersSo world → AreAnswersSo (obeys name command world)
obeys_answers name Connect world h = opens_answers name world h
obeys_answers name Die world h = cuts_answers name (takes_turn name (acted Die world.now) world) (told_answers name Die world h)
obeys_answers name command world h = told_answers name command world h

with_answers : (name other : List ℕ) (o : Option RecoveryKey) (world : World) → AreAnswersSo world → AreAnswersSo (recovered_with name other o world)
with_answers name other None world h = h
with_answers name other (Some key) world h =
    client_answers (obeys other Die world) name (recovered key) (λ c same is. subst (AllByRecursion (IsAnswerSo _)) (sym (calm_recovered key c.1).answers) is) (obeys_answers other Die world h)

recovered_if_answers : (b : Bool) (name other : List ℕ) (lost : ClientState) (world : World) → AreAnswersSo world → AreAnswersSo (recovered_if b name other lost world)
recovered_if_answers true name other lost world h = with_answers name other (recovery_key lost) world h
recovered_if_answers false name other lost world h = h

pub from_answers : (name other : List ℕ) (one two : Option ClientState) (world : World) → AreAnswersSo world → AreAnswersSo (recovered_from name other one two world)
from_answers name other (Some state) (Some lost) world h = recovered_if_answers (may_recover state) name other lost world h
from_answers name other (Some state) None world h = h
from_answers name other None two world h = h

pub declared_answers : (o : Option ClientState) (name : List ℕ) (world : World) → AreAnswersSo world → AreAnswersSo (declared_unless o name world)
declared_answers (Some state) name world h = h
declared_answers None name world h = all_append (Lists world) world.clients ((name, new_state name) ∷ []) h (tt, tt)
