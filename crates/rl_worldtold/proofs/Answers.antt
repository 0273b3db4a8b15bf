-- Acknowledgements that clients list are of Puts that channels decided so.
use Rattle.std.proofs.Common.{◌≡◌, inl, inr, ℕ, ◌+◌, Bool, true, false, List, [], ◌∷◌, ◌++◌, map, refl, sym, ◌∙◌, ap, subst, arith, cond, true≢false}
use Rattle.std.specs.Prelude.{Option, Some, None, slice_get, if◌then◌else◌, bytes_eq, nat_le, nat_lt, ◌&&◌, filter}
use Rattle.std.specs.List.{AllByRecursion}
use Rattle.std.proofs.lemmas.Bool.Decides.{nat_tests}
use Rattle.rl_ids.specs.Forms.{conn_text}
use Rattle.rl_types.specs.declared.frames.Frame.{Frame}
use Rattle.rl_types.specs.declared.frames.Frame.TheVariants as frames
use Rattle.rl_types.specs.declared.states.ConnState.{ConnState}
use Rattle.rl_types.specs.declared.states.ConnState.TheVariants as conn
use Rattle.rl_events.specs.declared.channel.ChannelEvent.{ChannelEvent}
use Rattle.rl_events.specs.declared.channel.ChannelEvent.TheVariants.{Put}
use Rattle.rl_events.specs.declared.channel.Outcome.TheVariants.{Taken, Refused}
use Rattle.rl_events.specs.declared.channel.Verdict.{Verdict}
use Rattle.rl_events.specs.declared.calls.End.{End}
use Rattle.rl_runs.specs.declared.commands.Command.{Command}
use Rattle.rl_runs.specs.declared.commands.Command.TheVariants.{Connect, Die}
use Rattle.rl_runs.specs.declared.commands.RecoveryKey.{RecoveryKey}
use Rattle.rl_runs.specs.declared.findings.Answer.{Answer}
use Rattle.rl_runs.specs.declared.findings.Answer.TheVariants.{Ack, Nack}
use Rattle.rl_connsm.specs.Rules.{connect_refused, takes_acknowledgements, awaits_connected, forgets_connection}
use Rattle.rl_connsm.specs.declared.table.ConnEvent.TheVariants as events
use Rattle.rl_ackq.specs.declared.pending.Pending.{Pending}
use Rattle.rl_ackq.specs.Queue.{is_covered, serials, settled_serials}
use Rattle.rl_connbook.specs.Laws.{SomeOf}
use Rattle.rl_connbook.proofs.Each.{all_weaker, all_append, some_weaker}
use Rattle.rl_model.specs.Verdict.{Decision, decisions}
use Rattle.rl_actormodel.specs.declared.parts.Holder.{Holder}
use Rattle.rl_clientmodel.specs.States.{ClientState, Turn, new_state, forgotten, state_after}
use Rattle.rl_clientmodel.specs.Commands.{Refusal, refusal, by_connection, acted, hello_of}
use Rattle.rl_clientmodel.specs.Hearing.{id_of, settle, stands_with, hears, heard}
use Rattle.rl_clientmodel.specs.Times.{ticked}
use Rattle.rl_clientmodel.specs.Keys.{recovery_key, may_recover, recovered}
use Rattle.rl_worldmodel.specs.World.{World, Transport, empty_world, the_site, new_transport, on_transport, on_client, client_in, client_at, if_named, latest, last_of}
use Rattle.rl_worldmodel.specs.Clients.{declared_unless, cut_off, unlinks, cut_unless, cut_where, cut_at, cuts, put_unless, takes_frames, sent_on, sends, cuts_if, turned, turned_by, takes_turn, opened_as, opened_unless, opened_by, opens, obeys, recovered_with, recovered_if, recovered_from, Arrival, Comes, Ends, Nothing, arrival, arrival_by, gives_frame, got_by, got_on}
use Rattle.rl_worldmodel.specs.Actions.{Action, Declares, Opens, Cuts, Recovers, Obeys, Gets, LooksAtTime, Steps, Pages, Polls, Passes, Expires, Reaps, Ages, Asks, Feeds, does}
use Rattle.rl_worldtold.specs.Runs.{HoldsOfRuns}
use Rattle.rl_worldtold.specs.Told.{IsPutOf, IsTaken, IsRefused, IsTold, AllTold, AnswersAreTold}
use Rattle.rl_worldtold.specs.Truth.{Channels, IsPutBy, Decides, OnHolder, IsTrueFrame, IsTrueTransport, IsTrueService, IsOn, IsTrueAnswer, IsLinked, IsTrueClient, IsTrueWorld}
use Rattle.rl_worldtold.proofs.Shape.{all_at, all_map, get_append, get_changed, same_bytes, other_by, owned_append, owned_changed, latest_there}
use Rattle.rl_worldtold.proofs.Runs.{runs_hold, runs_so}
use Rattle.rl_worldtold.proofs.Calm.{Calm, calm_unlinked, calm_acted, calm_hears, calm_ticked, calm_recovered, calm_same}
use Rattle.rl_worldtold.proofs.Truths.{Grows}
use Rattle.rl_worldtold.proofs.Service.{Goes, linked_on, begins_service, quiet_service, steps_true, pages_true, polls_true, expires_true, reaps_true, ages_true, names_true, feeds_true}

-- ONE CLIENT IS CHANGED

linked_calm : (world : World) (name : List ℕ) (before after : ClientState) → Calm before after → IsLinked world name before → IsLinked world name after
linked_calm world name before after calm linked on k t at found uncut =
    let was = calm.on on in
    on_same t.actor.holder (linked was.0 k t at found uncut) was.1
  where
    on_same : (holder : Option Holder) → OnHolder holder (λ h. before.id ≡ Some (conn_text h.conn)) → after.id ≡ before.id → OnHolder holder (λ h. after.id ≡ Some (conn_text h.conn))
    on_same None is same = absurd is
    on_same (Some h) is same = same ∙ is

client_calm : (world : World) (name : List ℕ) (before after : ClientState) → Calm before after → IsTrueClient world (name, before) → IsTrueClient world (name, after)
client_calm world name before after calm h = record {
  answers = subst (AllByRecursion (IsTrueAnswer world.channels)) (sym calm.answers) h.answers;
  linked = linked_calm world name before after calm h.linked;
}

-- the truth of a client speaks of channels and transports alone
same_world : (before after : World) (c : List ℕ × ClientState) → after.channels ≡ before.channels → ((name : List ℕ) (state : ClientState) → IsLinked before name state → IsLinked after name state) → IsTrueClient before c → IsTrueClient after c
same_world before after c same linked h = record { answers = subst (λ (channels : Channels). AllByRecursion (IsTrueAnswer channels) c.1.answers) (sym same) h.answers; linked = linked c.0 c.1 h.linked }

named_by : (world : World) (name : List ℕ) (f : ClientState → ClientState) (c : List ℕ × ClientState) (b : Bool) → bytes_eq name c.0 ≡ b → (name ≡ c.0 → IsTrueClient world c → IsTrueClient world (c.0, f c.1)) → IsTrueClient world c → IsTrueClient world (c.0, if b then f c.1 else c.1)
named_by world name f c true is step h = step (same_bytes name c.0 is) h
named_by world name f c false is step h = record { answers = h.answers; linked = h.linked }

named_all : (world : World) (name : List ℕ) (f : ClientState → ClientState) → ((c : List ℕ × ClientState) → name ≡ c.0 → IsTrueClient world c → IsTrueClient world (c.0, f c.1)) → (cs : List (List ℕ × ClientState)) → AllByRecursion (IsTrueClient world) cs → AllByRecursion (IsTrueClient world) (map (if_named name f) cs)
named_all world name f step [] each = tt
named_all world name f step (c ∷ cs) each = (named_by world name f c (bytes_eq name c.0) refl (step c) each.0, named_all world name f step cs each.1)

each_same : (before after : World) → after.channels ≡ before.channels → ((name : List ℕ) (state : ClientState) → IsLinked before name state → IsLinked after name state) → (cs : List (List ℕ × ClientState)) → AllByRecursion (IsTrueClient before) cs → AllByRecursion (IsTrueClient after) cs
each_same before after same linked cs each = all_weaker _ _ (λ c h. same_world before after c same linked h) cs each

on_client_true : (world : World) (name : List ℕ) (f : ClientState → ClientState) → ((c : List ℕ × ClientState) → name ≡ c.0 → IsTrueClient world c → IsTrueClient world (c.0, f c.1)) → IsTrueWorld world → IsTrueWorld (on_client name f world)
on_client_true world name f step h = record {
  service = quiet_service.of_client world name f h.service;
  clients = each_same world (on_client name f world) refl (λ name state linked. linked) (map (if_named name f) world.clients) (named_all world name f step world.clients h.clients);
}

-- a client that is found is a true one
found_by : (world : World) (name : List ℕ) (c : List ℕ × ClientState) (rest : Option ClientState) (s : ClientState) (b : Bool) → bytes_eq name c.0 ≡ b → IsTrueClient world c → (rest ≡ Some s → IsTrueClient world (name, s)) → cond b (Some c.1) rest ≡ Some s → IsTrueClient world (name, s)
found_by world name c rest s true is here more found =
    let it : c.1 ≡ s = cc in
    let same : c.0 ≡ name = sym (same_bytes name c.0 is) in
    subst (λ (x : ClientState). IsTrueClient world (name, x)) it (subst (λ (n : List ℕ). IsTrueClient world (n, c.1)) same (record { answers = here.answers; linked = here.linked }))
found_by world name c rest s false is here more found = more found

pub found_in : (world : World) (name : List ℕ) (cs : List (List ℕ × ClientState)) (s : ClientState) → AllByRecursion (IsTrueClient world) cs → client_in name cs ≡ Some s → IsTrueClient world (name, s)
found_in world name [] s each found = absurd (cc)
found_in world name (c ∷ cs) s each found = found_by world name c (client_in name cs) s (bytes_eq name c.0) refl each.0 (found_in world name cs s each.1) found

-- TRANSPORTS ARE CHANGED

on_transport_true : (world : World) (k : ℕ) (f : Transport → Transport) → IsTrueService (on_transport k f world) → ((t : Transport) → (f t).owner ≡ t.owner) → ((t : Transport) → (f t).cut ≡ false → t.cut ≡ false) → ((t : Transport) → (f t).actor.holder ≡ t.actor.holder) → IsTrueWorld world → IsTrueWorld (on_transport k f world)
on_transport_true world k f service owners cuts_ holders h = record {
  service = service;
  clients = each_same world (on_transport k f world) refl (linked_on world (on_transport k f world) k f refl owners cuts_ (λ t found. inr (holders t))) world.clients h.clients;
}

cut_true : (b : Bool) (k : ℕ) (t : Transport) (world : World) → IsTrueWorld world → IsTrueWorld (cut_unless b k t world)
cut_true true k t world h = h
cut_true false k t world h =
    on_client_true (on_transport k cut_off world) t.owner (unlinks world.now) (λ c same is. client_calm (on_transport k cut_off world) c.0 c.1 (unlinks world.now c.1) (calm_unlinked world.now c.1) (record { answers = is.answers; linked = is.linked }))
    (on_transport_true world k cut_off (quiet_service.of_cut world k h.service) (λ t. refl) (λ t cut. absurd (true≢false cut)) (λ t. refl) h)

where_true : (k : ℕ) (o : Option Transport) (world : World) → IsTrueWorld world → IsTrueWorld (cut_where k o world)
where_true k None world h = h
where_true k (Some t) world h = cut_true t.cut k t world h

at_true : (o : Option ℕ) (world : World) → IsTrueWorld world → IsTrueWorld (cut_at o world)
at_true None world h = h
at_true (Some k) world h = where_true k (slice_get world.transports k) world h

cuts_true : (name : List ℕ) (world : World) → IsTrueWorld world → IsTrueWorld (cuts name world)
cuts_true name world h = at_true (latest name world) world h

sent_owner : (list : List Frame) (cut : Bool) (t : Transport) → (put_unless cut list t).owner ≡ t.owner
sent_owner list true t = refl
sent_owner list false t = refl

sent_cut : (list : List Frame) (cut : Bool) (t : Transport) → (put_unless cut list t).cut ≡ t.cut
sent_cut list true t = refl
sent_cut list false t = refl

sent_holder : (list : List Frame) (cut : Bool) (t : Transport) → (put_unless cut list t).actor.holder ≡ t.actor.holder
sent_holder list true t = refl
sent_holder list false t = refl

sent_true : (o : Option ℕ) (list : List Frame) (world : World) → IsTrueWorld world → IsTrueWorld (sent_on o list world)
sent_true None list world h = h
sent_true (Some k) list world h =
    on_transport_true world k (takes_frames list) (quiet_service.of_sent world k list h.service) (λ t. sent_owner list t.cut t) (λ t uncut. sym (sent_cut list t.cut t) ∙ uncut) (λ t. sent_holder list t.cut t) h

if_true : (b : Bool) (name : List ℕ) (world : World) → IsTrueWorld world → IsTrueWorld (cuts_if b name world)
if_true true name world h = cuts_true name world h
if_true false name world h = h

turned_true : (name : List ℕ) (turn : Turn) (world : World) → IsTrueClient world (name, turn.state) → IsTrueWorld world → IsTrueWorld (turned name turn world)
turned_true name turn world good h =
    if_true turn.output.drop_link name (sends name turn.output.frames (on_client name (λ _. turn.state) world))
    (sent_true (latest name (on_client name (λ _. turn.state) world)) turn.output.frames (on_client name (λ _. turn.state) world)
    (on_client_true world name (λ _. turn.state) (λ c same is. subst (λ (n : List ℕ). IsTrueClient world (n, turn.state)) same good) h))

turned_by_true : (name : List ℕ) (act : ClientState → Turn) (o : Option ClientState) (world : World) → client_at name world ≡ o → ((state : ClientState) → IsTrueClient world (name, state) → IsTrueClient world (name, (act state).state)) → IsTrueWorld world → IsTrueWorld (turned_by name act o world)
turned_by_true name act None world at step h = h
turned_by_true name act (Some state) world at step h = turned_true name (act state) world (step state (found_in world name world.clients state h.clients at)) h

turn_true : (name : List ℕ) (act : ClientState → Turn) (world : World) → ((state : ClientState) → IsTrueClient world (name, state) → IsTrueClient world (name, (act state).state)) → IsTrueWorld world → IsTrueWorld (takes_turn name act world)
turn_true name act world step h = turned_by_true name act (client_at name world) world refl step h

-- A FRAME IS GOT

-- one serial is settled, and each pending frame of it
covered_is : (serial count n : ℕ) → count ≡ 1 → (nat_le serial n && nat_lt n (serial + count)) ≡ true → serial ≡ n
covered_is serial count n one is = grind (arith, nat_tests, one, is)

settled_by_one : (serial count : ℕ) (P : ℕ → Type 0) (p : Pending) (rest : List Pending) (b : Bool) → is_covered serial count p ≡ b → count ≡ 1 → P serial → AllByRecursion P (serials rest) → AllByRecursion P (serials (cond b (p ∷ rest) rest))
settled_by_one serial count P p rest true covered one is more = (subst P (covered_is serial count p.serial one covered) is, more)
settled_by_one serial count P p rest false covered one is more = more

pub settled_one : (serial count : ℕ) (P : ℕ → Type 0) → count ≡ 1 → P serial → (ps : List Pending) → AllByRecursion P (serials (filter (is_covered serial count) ps))
settled_one serial count P one is [] = tt
settled_one serial count P one is (p ∷ ps) = settled_by_one serial count P p (filter (is_covered serial count) ps) (is_covered serial count p) refl one is (settled_one serial count P one is ps)

-- only where the connection stands
settle_true : (world : World) (name : List ℕ) (b : Bool) (serial count : ℕ) (answer : ℕ → Answer) (state : ClientState) → (b ≡ true → (count ≡ 1) × IsTrueAnswer world.channels (answer serial)) → IsTrueClient world (name, state) → IsTrueClient world (name, if b then settle serial count answer state else state)
settle_true world name true serial count answer state is h = record {
  answers = all_append _ state.answers (map answer (settled_serials serial count state.queue)) h.answers
      (all_map (IsTrueAnswer world.channels) answer (settled_serials serial count state.queue) (settled_one serial count (λ n. IsTrueAnswer world.channels (answer n)) (is refl).0 (is refl).1 state.queue.pending));
  linked = λ on k t at found uncut. h.linked on k t at found uncut;
}
settle_true world name false serial count answer state is h = h

takes_on : (c : ConnState) → takes_acknowledgements c ≡ true → IsOn c
takes_on conn.Connected is = tt
takes_on conn.Closing is = tt
takes_on c is = absurd (cc)

-- an acknowledgement on the client's latest transport is of the client's connection
ack_is : (channels : Channels) (serial count : ℕ) (holder : Option Holder) (id : Option (List ℕ)) → IsTrueFrame channels holder (frames.Ack serial count) → OnHolder holder (λ h. id ≡ Some (conn_text h.conn)) → (count ≡ 1) × IsTrueAnswer channels (Ack (id_of id) serial)
ack_is channels serial count None id is on = absurd is
ack_is channels serial count (Some h) id is on = (is.0, (h.conn, sym (ap id_of on), is.1))

nack_is : (channels : Channels) (serial count code : ℕ) (holder : Option Holder) (id : Option (List ℕ)) → IsTrueFrame channels holder (frames.Nack serial count code) → OnHolder holder (λ h. id ≡ Some (conn_text h.conn)) → (count ≡ 1) × IsTrueAnswer channels (Nack (id_of id) serial code)
nack_is channels serial count code None id is on = absurd is
nack_is channels serial count code (Some h) id is on = (is.0, (h.conn, sym (ap id_of on), is.1))

-- CONNECTED
id_is : (channels : Channels) (holder : Option Holder) (id key : List ℕ) (ttl idle size : ℕ) (code : Option ℕ) → IsTrueFrame channels holder (frames.Connected id key ttl idle size code) → OnHolder holder (λ h. Some id ≡ Some (conn_text h.conn))
id_is channels None id key ttl idle size code is = absurd is
id_is channels (Some h) id key ttl idle size code is = ap (λ (x : List ℕ). Some x) is.0

forgot_answers : (b : Bool) (s : ClientState) → (forgotten b s).answers ≡ s.answers
forgot_answers true s = refl
forgot_answers false s = refl

connected_true : (world : World) (name : List ℕ) (b : Bool) (id key : List ℕ) (now : ℕ) (state : ClientState)
    → ((k : ℕ) (t : Transport) → latest name world ≡ Some k → slice_get world.transports k ≡ Some t → t.cut ≡ false → OnHolder t.actor.holder (λ h. Some id ≡ Some (conn_text h.conn)))
    → IsTrueClient world (name, state) → IsTrueClient world (name, (if b then stands_with id key now state else record { state = state; output = record { frames = []; drop_link = false } }).state)
connected_true world name true id key now state link h = record {
  answers = subst (AllByRecursion (IsTrueAnswer world.channels)) (sym (forgot_answers (forgets_connection (state_after events.Connected state)) _)) h.answers;
  linked = λ on k t at found uncut. link k t at found uncut;
}
connected_true world name false id key now state link h = h

-- what a frame on the latest transport makes of the client
hears_true : (world : World) (name : List ℕ) (k : ℕ) (t : Transport) (frame : Frame) (now : ℕ) (state : ClientState) → latest name world ≡ Some k → slice_get world.transports k ≡ Some t → t.cut ≡ false → IsTrueFrame world.channels t.actor.holder frame
    → IsTrueClient world (name, state) → IsTrueClient world (name, (hears frame now state).state)
hears_true world name k t (frames.Connected id key ttl idle size code) now state at found uncut is h =
    connected_true world name (awaits_connected state.conn) id key now state
    (λ j u at_j found_u uncut_u.
    let one : Some k ≡ Some j = sym at ∙ at_j in
    let same : k ≡ j = cc in
    let two : Some t ≡ Some u = sym found ∙ subst (λ i. slice_get world.transports i ≡ Some u) (sym same) found_u in
    let it : t ≡ u = cc in
    subst (λ (v : Transport). OnHolder v.actor.holder (λ h. Some id ≡ Some (conn_text h.conn))) it (id_is world.channels t.actor.holder id key ttl idle size code is)) h
hears_true world name k t (frames.Ack serial count) now state at found uncut is h =
    settle_true world name (takes_acknowledgements state.conn) serial count (λ n. Ack (id_of state.id) n) state (λ takes. ack_is world.channels serial count t.actor.holder state.id is (h.linked (takes_on state.conn takes) k t at found uncut)) h
hears_true world name k t (frames.Nack serial count code) now state at found uncut is h =
    settle_true world name (takes_acknowledgements state.conn) serial count (λ n. Nack (id_of state.id) n code) state (λ takes. nack_is world.channels serial count code t.actor.holder state.id is (h.linked (takes_on state.conn takes) k t at found uncut)) h
hears_true world name k t frame now state at found uncut is h = client_calm world name state (hears frame now state).state (calm_hears frame now state tt) h

heard_true : (world : World) (name : List ℕ) (k : ℕ) (t : Transport) (frame : Frame) (now : ℕ) (state : ClientState) → latest name world ≡ Some k → slice_get world.transports k ≡ Some t → t.cut ≡ false → IsTrueFrame world.channels t.actor.holder frame
    → IsTrueClient world (name, state) → IsTrueClient world (name, (heard (Some frame) now state).state)
heard_true world name k t frame now state at found uncut is h =
    hears_true world name k t frame now (record state { got_at = now }) at found uncut is (client_calm world name state (record state { got_at = now }) (calm_same state (record state { got_at = now }) refl refl refl) h)

-- what arrives was put, on a transport that is not cut
pub arrives : (cut : Bool) (next : Option Frame) (ended : Option End) (frame : Frame) → arrival_by cut next ended ≡ Comes frame → (cut ≡ false) × (next ≡ Some frame)
arrives true next ended frame is = absurd (cc)
arrives false (Some f) ended frame is = let same : f ≡ frame = cc in (refl, ap (λ (x : Frame). Some x) same)
arrives false None (Some why) frame is = absurd (cc)
arrives false None None frame is = absurd (cc)

comes_true : (name : List ℕ) (k : ℕ) (frame : Frame) (o : Option Transport) (world : World) → latest name world ≡ Some k → slice_get world.transports k ≡ o → arrival o ≡ Comes frame → IsTrueWorld world
    → IsTrueWorld (takes_turn name (heard (Some frame) world.now) (on_transport k gives_frame world))
comes_true name k frame None world at found is h = absurd (cc)
comes_true name k frame (Some t) world at found is h =
    let here = all_at (IsTrueTransport world.channels) k t world.transports found h.service.each in
    let came = arrives t.cut (slice_get t.to_client.put t.to_client.got) t.actor.ended frame is in
    let is_found : arrival (slice_get world.transports k) ≡ Comes frame = ap arrival found ∙ is in
    let at_left : latest name (on_transport k gives_frame world) ≡ Some k = ap last_of (owned_changed name 0 k gives_frame (λ u. refl) world.transports) ∙ at in
    turn_true name (heard (Some frame) world.now) (on_transport k gives_frame world)
    (λ state good. heard_true (on_transport k gives_frame world) name k (gives_frame t) frame world.now state at_left (get_changed k gives_frame t world.transports found) came.0
    (all_at (IsTrueFrame world.channels t.actor.holder) t.to_client.got frame t.to_client.put came.1 here.on_way) good)
    (on_transport_true world k gives_frame (quiet_service.of_got world k frame is_found h.service) (λ u. refl) (λ u uncut. uncut) (λ u. refl) h)

got_true : (name : List ℕ) (k : ℕ) (a : Arrival) (world : World) → latest name world ≡ Some k → arrival (slice_get world.transports k) ≡ a → IsTrueWorld world → IsTrueWorld (got_by name k a world)
got_true name k (Comes frame) world at is h = comes_true name k frame (slice_get world.transports k) world at refl is h
got_true name k Ends world at is h = at_true (Some k) world h
got_true name k Nothing world at is h = h

got_on_true : (name : List ℕ) (o : Option ℕ) (world : World) → latest name world ≡ o → IsTrueWorld world → IsTrueWorld (got_on name o world)
got_on_true name None world at h = h
got_on_true name (Some k) world at h = got_true name k (arrival (slice_get world.transports k)) world at refl h

-- A CLIENT OPENS

on_refused : (c : ConnState) → IsOn c → by_connection (connect_refused c) ≡ None → ⊥
on_refused conn.Connected on is = absurd (cc)
on_refused conn.Closing on is = absurd (cc)
on_refused c on is = absurd on

linked_other : (world : World) (name : List ℕ) (t : Transport) (other : List ℕ) (state : ClientState) → t.owner ≡ name → bytes_eq name other ≡ false → IsLinked world other state → IsLinked (record world { transports = world.transports ++ t ∷ [] }) other state
linked_other world name t other state own differ linked on k u at found uncut =
    let back : bytes_eq other t.owner ≡ false = ap (bytes_eq other) own ∙ other_by name other differ (bytes_eq other name) refl in
    let at_before : latest other world ≡ Some k = sym (ap last_of (owned_append other 0 world.transports t back)) ∙ at in
    let there = latest_there other world k at_before in
    let two : Some there.0 ≡ Some u = sym (get_append k there.0 world.transports (t ∷ []) there.1) ∙ found in
    let it : there.0 ≡ u = cc in
    linked on k u at_before (subst (λ (v : Transport). slice_get world.transports k ≡ Some v) it there.1) uncut

opened_one : (world : World) (name : List ℕ) (t : Transport) (state : ClientState) (c : List ℕ × ClientState) (b : Bool) → t.owner ≡ name → (IsOn state.conn → ⊥) → bytes_eq name c.0 ≡ b → AllByRecursion (IsTrueAnswer world.channels) state.answers → IsTrueClient world c
    → IsTrueClient (record world { transports = world.transports ++ t ∷ [] }) (c.0, if b then state else c.1)
opened_one world name t state c true own off is answers h = record { answers = answers; linked = λ on. absurd (off on) }
opened_one world name t state c false own off is answers h = record { answers = h.answers; linked = linked_other world name t c.0 c.1 own is h.linked }

opened_all : (world : World) (name : List ℕ) (t : Transport) (state : ClientState) → t.owner ≡ name → (IsOn state.conn → ⊥) → AllByRecursion (IsTrueAnswer world.channels) state.answers → (cs : List (List ℕ × ClientState)) → AllByRecursion (IsTrueClient world) cs
    → AllByRecursion (IsTrueClient (record world { transports = world.transports ++ t ∷ [] })) (map (if_named name (λ _. state)) cs)
opened_all world name t state own off answers [] each = tt
opened_all world name t state own off answers (c ∷ cs) each = (opened_one world name t state c (bytes_eq name c.0) own off refl answers each.0, opened_all world name t state own off answers cs each.1)

unless_true : (o : Option Refusal) (name : List ℕ) (state : ClientState) (world : World) → refusal Connect state ≡ o → client_at name world ≡ Some state → IsTrueWorld world → IsTrueWorld (opened_unless o name state world)
unless_true None name state world none at h =
    let after : ClientState = (acted Connect world.now state).state in
    let calm = calm_acted Connect world.now state in
    let good = found_in world name world.clients state h.clients at in
    let t : Transport = new_transport name (hello_of after 0) world.now in
    record {
      service = quiet_service.of_opened (on_client name (λ _. after) world) name (hello_of after 0) (quiet_service.of_client world name (λ _. after) h.service);
      clients = each_same (record world { transports = world.transports ++ t ∷ [] }) (opened_as name after world) refl (λ n s linked. linked) (map (if_named name (λ _. after)) world.clients)
          (opened_all world name t after refl (λ on. on_refused state.conn (calm.on on).0 none) (subst (AllByRecursion (IsTrueAnswer world.channels)) (sym calm.answers) good.answers) world.clients h.clients);
    }
unless_true (Some why) name state world none at h = h

opened_true : (name : List ℕ) (o : Option ClientState) (world : World) → client_at name world ≡ o → IsTrueWorld world → IsTrueWorld (opened_by name o world)
opened_true name None world at h = h
opened_true name (Some state) world at h = unless_true (refusal Connect state) name state world refl at h

opens_true : (name : List ℕ) (world : World) → IsTrueWorld world → IsTrueWorld (opens name world)
opens_true name world h = opened_true name (client_at name world) world refl h

told_true : (name : List ℕ) (command : Command) (world : World) → IsTrueWorld world → IsTrueWorld (takes_turn name (acted command world.now) world)
told_true name command world h = turn_true name (acted command world.now) world (λ state is. client_calm world name state (acted command world.now state).state (calm_acted command world.now state) is) h

obeys_true : (name : List ℕ) (command : Command) (world : World) → IsTrueWorld world → IsTrueWorld (obeys name command world)
obeys_true name Connect world h = opens_true name world h
obeys_true name Die world h = cuts_true name (takes_turn name (acted Die world.now) world) (told_true name Die world h)
obeys_true name command world h = told_true name command world h

-- RECOVERY

with_true : (name other : List ℕ) (o : Option RecoveryKey) (world : World) → IsTrueWorld world → IsTrueWorld (recovered_with name other o world)
with_true name other None world h = h
with_true name other (Some key) world h =
    let dead : World = obeys other Die world in
    on_client_true dead name (recovered key) (λ c same is. client_calm dead c.0 c.1 (recovered key c.1) (calm_recovered key c.1) (record { answers = is.answers; linked = is.linked })) (obeys_true other Die world h)

recovered_if_true : (b : Bool) (name other : List ℕ) (lost : ClientState) (world : World) → IsTrueWorld world → IsTrueWorld (recovered_if b name other lost world)
recovered_if_true true name other lost world h = with_true name other (recovery_key lost) world h
recovered_if_true false name other lost world h = h

from_true : (name other : List ℕ) (one two : Option ClientState) (world : World) → IsTrueWorld world → IsTrueWorld (recovered_from name other one two world)
from_true name other (Some state) (Some lost) world h = recovered_if_true (may_recover state) name other lost world h
from_true name other (Some state) None world h = h
from_true name other None two world h = h

-- A CLIENT IS DECLARED

declared_true : (o : Option ClientState) (name : List ℕ) (world : World) → IsTrueWorld world → IsTrueWorld (declared_unless o name world)
declared_true (Some state) name world h = h
declared_true None name world h = record {
  service = quiet_service.of_new world name h.service;
  clients = all_append _ world.clients ((name, new_state name) ∷ [])
      (each_same world (record world { clients = world.clients ++ (name, new_state name) ∷ [] }) refl (λ n s linked. linked) world.clients h.clients)
      (record { answers = tt; linked = λ on. absurd on }, tt);
}

-- ALL ACTIONS

answer_grows : (before after : Channels) → Grows before after → (a : Answer) → IsTrueAnswer before a → IsTrueAnswer after a
answer_grows before after g (Ack id serial) is = (is.0, is.1, g.true_of is.0 serial (Taken 0) is.2)
answer_grows before after g (Nack id serial code) is = (is.0, is.1, g.true_of is.0 serial (Refused code) is.2)

goes_true : (world after : World) → Goes world after → IsTrueWorld world → IsTrueWorld after
goes_true world after g h = record {
  service = g.service;
  clients = subst (AllByRecursion (IsTrueClient after)) (sym g.clients)
      (all_weaker _ _ (λ c is. record { answers = all_weaker _ _ (answer_grows world.channels after.channels g.grows) c.1.answers is.answers; linked = g.linked c.0 c.1 is.linked }) world.clients h.clients);
}

pub keeps_true : (action : Action) (world : World) → IsTrueWorld world → IsTrueWorld (does action world)
keeps_true (Declares name) world h = declared_true (client_at name world) name world h
keeps_true (Opens name) world h = opens_true name world h
keeps_true (Cuts name) world h = cuts_true name world h
keeps_true (Recovers name other) world h = from_true name other (client_at name world) (client_at other world) world h
keeps_true (Obeys name command) world h = obeys_true name command world h
keeps_true (Gets name) world h = got_on_true name (latest name world) world refl h
keeps_true (LooksAtTime name) world h = turn_true name (ticked world.now) world (λ state is. client_calm world name state (ticked world.now state).state (calm_ticked world.now state) is) h
keeps_true (Steps k) world h = goes_true world (does (Steps k) world) (steps_true world k h.service) h
keeps_true (Pages k name) world h = goes_true world (does (Pages k name) world) (pages_true world k name h.service) h
keeps_true (Polls k name) world h = goes_true world (does (Polls k name) world) (polls_true world k name h.service) h
keeps_true (Passes span) world h = record { service = quiet_service.of_time world span h.service; clients = each_same world (record world { now = world.now + span }) refl (λ n s linked. linked) world.clients h.clients }
keeps_true Expires world h = goes_true world (does Expires world) (expires_true world h.service) h
keeps_true Reaps world h = goes_true world (does Reaps world) (reaps_true world h.service) h
keeps_true (Ages name) world h = goes_true world (does (Ages name) world) (ages_true world name h.service) h
keeps_true (Asks name) world h = goes_true world (does (Asks name) world) (names_true world name h.service) h
keeps_true (Feeds name body) world h = goes_true world (does (Feeds name body) world) (feeds_true world name body h.service) h

pub begins_true : IsTrueWorld empty_world
begins_true = record { service = begins_service; clients = tt }

pub always_true : HoldsOfRuns IsTrueWorld
always_true = runs_hold IsTrueWorld keeps_true begins_true

-- THE LAW

decided_text : (channels : Channels) (conn serial : ℕ) (id : List ℕ) (P : Option Verdict → Type 0) → conn_text conn ≡ id → Decides channels conn serial P
    → SomeOf (λ (c : List ℕ × List ChannelEvent). SomeOf (λ (d : Decision). IsPutOf id serial d.event × P d.verdict) (decisions the_site c.1)) channels
decided_text channels conn serial id P same is =
    some_weaker _ _ (λ c some. some_weaker _ _ (λ d p. (put_text d.event p.0, p.1)) (decisions the_site c.1) some) channels is
  where
    put_text : (event : ChannelEvent) → IsPutBy conn serial event → IsPutOf id serial event
    put_text (Put c s body now) p = (ap conn_text p.0 ∙ same, p.1)
    put_text event p = absurd p

told_so : (world : World) (a : Answer) → IsTrueAnswer world.channels a → IsTold world a
told_so world (Ack id serial) is = decided_text world.channels is.0 serial id IsTaken is.1 is.2
told_so world (Nack id serial code) is =
    elim is.2 [ inl decided ↦ inl (decided_text world.channels is.0 serial id (IsRefused code) is.1 decided) | inr full ↦ inr full ]

pub answers_are_told : AnswersAreTold
answers_are_told = runs_so IsTrueWorld AllTold (λ world h. all_weaker _ _ (λ c is. all_weaker _ _ (told_so world) c.1.answers is.answers) world.clients h.clients) always_true
