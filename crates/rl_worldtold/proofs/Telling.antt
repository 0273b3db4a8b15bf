-- No client lists a connection and serial twice: all actions.
use Rattle.std.proofs.Common.{◌≡◌, inl, inr, ℕ, suc, ◌+◌, ◌≤◌, Bool, true, false, List, [], ◌∷◌, ◌++◌, length, map, refl, sym, ◌∙◌, ap, subst, arith, cond, true≢false}
use Rattle.std.specs.Prelude.{Option, Some, None, slice_get, if◌then◌else◌, bytes_eq, ◌&&◌, is_none}
use Rattle.std.specs.List.{AllByRecursion}
use Rattle.rl_types.specs.declared.frames.Frame.{Frame}
use Rattle.rl_types.specs.declared.messages.Body.{Body}
use Rattle.rl_types.specs.declared.states.ConnState.{ConnState}
use Rattle.rl_types.specs.declared.states.ConnState.TheVariants as conn
use Rattle.rl_runs.specs.declared.commands.Command.{Command}
use Rattle.rl_runs.specs.declared.commands.Command.TheVariants.{Connect, Die}
use Rattle.rl_runs.specs.declared.commands.RecoveryKey.{RecoveryKey}
use Rattle.rl_events.specs.declared.book.BookEvent.TheVariants as book
use Rattle.rl_events.specs.declared.channel.ChannelEvent.TheVariants.{Tick}
use Rattle.rl_connsm.specs.Rules as rules
use Rattle.rl_connsm.specs.declared.table.ConnEvent.TheVariants as events
use Rattle.rl_connbook.specs.Records.{Answered}
use Rattle.rl_connbook.specs.Book.{answered, last_number}
use Rattle.rl_connbook.proofs.Each.{all_weaker, all_append}
use Rattle.rl_connbook.proofs.History.{last_grows}
use Rattle.rl_directory.specs.Directory.{number_of}
use Rattle.rl_actormodel.specs.State as actor
use Rattle.rl_clientmodel.specs.States.{ClientState, Turn, new_state}
use Rattle.rl_clientmodel.specs.Commands.{Refusal, refusal, acted, obeyed, obeyed_unless, hello_of}
use Rattle.rl_clientmodel.specs.Hearing.{heard}
use Rattle.rl_clientmodel.specs.Times.{ticked}
use Rattle.rl_clientmodel.specs.Keys.{recovery_key, may_recover, is_empty, recovered, with_key, before_mark}
use Rattle.rl_worldmodel.specs.World.{World, Transport, the_range, empty_world, new_transport, on_transport, on_client, client_in, client_at, if_named, latest, last_of, owned, names}
use Rattle.rl_worldmodel.specs.Clients.{declared_unless, cut_off, unlinks, cut_unless, cut_where, cut_at, cuts, put_unless, takes_frames, sent_on, sends, cuts_if, turned, turned_by, takes_turn, opened_as, opened_unless, opened_by, opens, obeys, recovered_with, recovered_if, recovered_from, Arrival, Comes, Ends, Nothing, arrival, gives_frame, got_by, got_on}
use Rattle.rl_worldmodel.specs.Services.{reaped, event_at, fed_at}
use Rattle.rl_worldmodel.specs.Actions.{Action, Declares, Opens, Cuts, Recovers, Obeys, Gets, LooksAtTime, Steps, Pages, Polls, Passes, Expires, Reaps, Ages, Asks, Feeds, does}
use Rattle.rl_worldtold.specs.Runs.{HoldsOfRuns}
use Rattle.rl_worldtold.specs.Listed.{AllListOnce, NoneIsListedTwice}
use Rattle.rl_worldtold.specs.Tell.{asks, IsBelow, IsGiven, MayTell, IsReady, IsOwn, IsTellable, IsTelling}
use Rattle.rl_worldtold.specs.Truth.{IsTrueFrame, IsTrueTransport, IsTrueWorld}
use Rattle.rl_worldtold.proofs.Shape.{all_at, changed_all, get_append, get_changed, same_bytes, self_bytes, other_by, owned_append, owned_changed, latest_there, name_beside}
use Rattle.rl_worldtold.proofs.Runs.{runs_hold, runs_so}
use Rattle.rl_worldtold.proofs.Moves.{IsNoConnect, steps_same, steps_unlinked, steps_acted, steps_ticked, rests_moved}
use Rattle.rl_worldtold.proofs.Once.{once_unlinked, once_acted, once_moved, once_ticked}
use Rattle.rl_worldtold.proofs.Lists.{told_steps, told_hears}
use Rattle.rl_worldtold.proofs.Serves.{Serves, ready_on, serve_same, steps_serve, pages_serve, polls_serve}
use Rattle.rl_worldtold.proofs.Answers.{found_in, arrives, keeps_true, begins_true}

-- WORLDS THAT ARE THE SAME TO CLIENTS

retold : (before after : World) → after.book ≡ before.book → ((name : List ℕ) (state : ClientState) → IsReady before name state → IsReady after name state) → (c : List ℕ × ClientState) → IsTellable before c → IsTellable after c
retold before after same ready c h = record { own = subst (λ (b : List Answered). IsOwn b c.1) (sym same) h.own; ready = ready c.0 c.1 h.ready }

named_by : (P : List ℕ × ClientState → Type 0) (name : List ℕ) (f : ClientState → ClientState) (c : List ℕ × ClientState) (b : Bool) → bytes_eq name c.0 ≡ b → (name ≡ c.0 → P c → P (c.0, f c.1)) → P c → P (c.0, if b then f c.1 else c.1)
named_by P name f c true is step h = step (same_bytes name c.0 is) h
named_by P name f c false is step h = h

pub named_all : (P : List ℕ × ClientState → Type 0) (name : List ℕ) (f : ClientState → ClientState) → ((c : List ℕ × ClientState) → name ≡ c.0 → P c → P (c.0, f c.1)) → (cs : List (List ℕ × ClientState)) → AllByRecursion P cs → AllByRecursion P (map (if_named name f) cs)
named_all P name f step [] each = tt
named_all P name f step (c ∷ cs) each = (named_by P name f c (bytes_eq name c.0) refl (step c) each.0, named_all P name f step cs each.1)

in_by : (P : List ℕ × ClientState → Type 0) (name : List ℕ) (c : List ℕ × ClientState) (rest : Option ClientState) (s : ClientState) (b : Bool) → bytes_eq name c.0 ≡ b → P c → (rest ≡ Some s → P (name, s)) → cond b (Some c.1) rest ≡ Some s → P (name, s)
in_by P name c rest s true is here more found = let it : c.1 ≡ s = cc in subst (λ (x : ClientState). P (name, x)) it (subst (λ (n : List ℕ). P (n, c.1)) (sym (same_bytes name c.0 is)) here)
in_by P name c rest s false is here more found = more found

pub in_all : (P : List ℕ × ClientState → Type 0) (name : List ℕ) (cs : List (List ℕ × ClientState)) (s : ClientState) → AllByRecursion P cs → client_in name cs ≡ Some s → P (name, s)
in_all P name [] s each found = absurd (cc)
in_all P name (c ∷ cs) s each found = in_by P name c (client_in name cs) s (bytes_eq name c.0) refl each.0 (in_all P name cs s each.1) found

on_client_tells : (world : World) (name : List ℕ) (f : ClientState → ClientState) → ((c : List ℕ × ClientState) → name ≡ c.0 → IsTellable world c → IsTellable world (c.0, f c.1)) → IsTelling world → IsTelling (on_client name f world)
on_client_tells world name f step h = record {
  holders = h.holders;
  clients = all_weaker _ _ (retold world (on_client name f world) refl (λ n s ready. ready)) (map (if_named name f) world.clients) (named_all (IsTellable world) name f step world.clients h.clients);
}

on_transport_tells : (world : World) (k : ℕ) (f : Transport → Transport) → ((t : Transport) → (f t).owner ≡ t.owner) → ((t : Transport) → (f t).cut ≡ false → t.cut ≡ false) → ((t : Transport) → (f t).actor ≡ t.actor) → IsTelling world → IsTelling (on_transport k f world)
on_transport_tells world k f owners cuts_ same h = record {
  holders = changed_all (λ (t : Transport). IsBelow world.book t.actor.holder) k f (λ t is. subst (λ (s : actor.State). IsBelow world.book s.holder) (sym (same t)) is) world.transports h.holders;
  clients = all_weaker _ _ (retold world (on_transport k f world) refl (λ n s ready. ready_on world (on_transport k f world) k f refl owners cuts_ s (λ t found may. subst (MayTell s) (sym (same t)) may) n ready)) world.clients h.clients;
}

-- CUTS AND TURNS

cut_tells : (b : Bool) (k : ℕ) (t : Transport) (world : World) → IsTelling world → IsTelling (cut_unless b k t world)
cut_tells true k t world h = h
cut_tells false k t world h =
    on_client_tells (on_transport k cut_off world) t.owner (unlinks world.now) (λ c same is. told_steps (on_transport k cut_off world) c.0 c.1 (unlinks world.now c.1) (steps_unlinked world.now c.1) (once_unlinked world.now c.1 is.own.once) is)
    (on_transport_tells world k cut_off (λ u. refl) (λ u cut. absurd (true≢false cut)) (λ u. refl) h)

where_tells : (k : ℕ) (o : Option Transport) (world : World) → IsTelling world → IsTelling (cut_where k o world)
where_tells k None world h = h
where_tells k (Some t) world h = cut_tells t.cut k t world h

at_tells : (o : Option ℕ) (world : World) → IsTelling world → IsTelling (cut_at o world)
at_tells None world h = h
at_tells (Some k) world h = where_tells k (slice_get world.transports k) world h

cuts_tells : (name : List ℕ) (world : World) → IsTelling world → IsTelling (cuts name world)
cuts_tells name world h = at_tells (latest name world) world h

pub sent_owner : (list : List Frame) (cut : Bool) (t : Transport) → (put_unless cut list t).owner ≡ t.owner
sent_owner list true t = refl
sent_owner list false t = refl

pub sent_cut : (list : List Frame) (cut : Bool) (t : Transport) → (put_unless cut list t).cut ≡ t.cut
sent_cut list true t = refl
sent_cut list false t = refl

pub sent_actor : (list : List Frame) (cut : Bool) (t : Transport) → (put_unless cut list t).actor ≡ t.actor
sent_actor list true t = refl
sent_actor list false t = refl

sent_tells : (o : Option ℕ) (list : List Frame) (world : World) → IsTelling world → IsTelling (sent_on o list world)
sent_tells None list world h = h
sent_tells (Some k) list world h = on_transport_tells world k (takes_frames list) (λ t. sent_owner list t.cut t) (λ t uncut. sym (sent_cut list t.cut t) ∙ uncut) (λ t. sent_actor list t.cut t) h

if_tells : (b : Bool) (name : List ℕ) (world : World) → IsTelling world → IsTelling (cuts_if b name world)
if_tells true name world h = cuts_tells name world h
if_tells false name world h = h

turned_tells : (name : List ℕ) (turn : Turn) (world : World) → IsTellable world (name, turn.state) → IsTelling world → IsTelling (turned name turn world)
turned_tells name turn world good h =
    if_tells turn.output.drop_link name (sends name turn.output.frames (on_client name (λ _. turn.state) world))
    (sent_tells (latest name (on_client name (λ _. turn.state) world)) turn.output.frames (on_client name (λ _. turn.state) world)
    (on_client_tells world name (λ _. turn.state) (λ c same is. subst (λ (n : List ℕ). IsTellable world (n, turn.state)) same good) h))

turned_by_tells : (name : List ℕ) (act : ClientState → Turn) (o : Option ClientState) (world : World) → client_at name world ≡ o → ((state : ClientState) → client_at name world ≡ Some state → IsTellable world (name, state) → IsTellable world (name, (act state).state)) → IsTelling world → IsTelling (turned_by name act o world)
turned_by_tells name act None world at step h = h
turned_by_tells name act (Some state) world at step h = turned_tells name (act state) world (step state at (in_all (IsTellable world) name world.clients state h.clients at)) h

turn_tells : (name : List ℕ) (act : ClientState → Turn) (world : World) → ((state : ClientState) → client_at name world ≡ Some state → IsTellable world (name, state) → IsTellable world (name, (act state).state)) → IsTelling world → IsTelling (takes_turn name act world)
turn_tells name act world step h = turned_by_tells name act (client_at name world) world refl step h

told_tells : (name : List ℕ) (command : Command) (world : World) → IsNoConnect command → IsTelling world → IsTelling (takes_turn name (acted command world.now) world)
told_tells name command world not h =
    turn_tells name (acted command world.now) world (λ state at is. told_steps world name state (acted command world.now state).state (steps_acted command world.now state not) (once_acted command world.now state is.own.once) is) h

-- GETTING

comes_tells : (name : List ℕ) (k : ℕ) (frame : Frame) (o : Option Transport) (world : World) → latest name world ≡ Some k → slice_get world.transports k ≡ o → arrival o ≡ Comes frame → IsTrueWorld world → IsTelling world
    → IsTelling (takes_turn name (heard (Some frame) world.now) (on_transport k gives_frame world))
comes_tells name k frame None world at found is true_ h = absurd (cc)
comes_tells name k frame (Some t) world at found is true_ h =
    let here = all_at (IsTrueTransport world.channels) k t world.transports found true_.service.each in
    let came = arrives t.cut (slice_get t.to_client.put t.to_client.got) t.actor.ended frame is in
    let at_left : latest name (on_transport k gives_frame world) ≡ Some k = ap last_of (owned_changed name 0 k gives_frame (λ u. refl) world.transports) ∙ at in
    let below = all_at (λ (u : Transport). IsBelow world.book u.actor.holder) k t world.transports found h.holders in
    turn_tells name (heard (Some frame) world.now) (on_transport k gives_frame world)
    (λ state at_state told_it.
    told_hears (on_transport k gives_frame world) name k (gives_frame t) frame world.now (record state { got_at = world.now }) at_left (get_changed k gives_frame t world.transports found) came.0
    (all_at (IsTrueFrame world.channels t.actor.holder) t.to_client.got frame t.to_client.put came.1 here.on_way) below
    (λ on. (found_in world name world.clients state true_.clients at_state).linked on k t at found came.0)
    (told_steps (on_transport k gives_frame world) name state (record state { got_at = world.now }) (steps_same state (record state { got_at = world.now }) refl refl refl refl) told_it.own.once told_it))
    (on_transport_tells world k gives_frame (λ u. refl) (λ u uncut. uncut) (λ u. refl) h)

got_tells : (name : List ℕ) (k : ℕ) (a : Arrival) (world : World) → latest name world ≡ Some k → arrival (slice_get world.transports k) ≡ a → IsTrueWorld world → IsTelling world → IsTelling (got_by name k a world)
got_tells name k (Comes frame) world at is true_ h = comes_tells name k frame (slice_get world.transports k) world at refl is true_ h
got_tells name k Ends world at is true_ h = at_tells (Some k) world h
got_tells name k Nothing world at is true_ h = h

got_on_tells : (name : List ℕ) (o : Option ℕ) (world : World) → latest name world ≡ o → IsTrueWorld world → IsTelling world → IsTelling (got_on name o world)
got_on_tells name None world at true_ h = h
got_on_tells name (Some k) world at true_ h = got_tells name k (arrival (slice_get world.transports k)) world at refl true_ h

-- A CLIENT OPENS

owned_by : (b : Bool) (n m k : ℕ) (xs ys : List ℕ) → xs ≡ ys ++ m ∷ [] → m ≡ k → (if b then n ∷ xs else xs) ≡ (if b then n ∷ ys else ys) ++ k ∷ []
owned_by true n m k xs ys same is = ap (λ (zs : List ℕ). n ∷ zs) (same ∙ ap (λ j. ys ++ j ∷ []) is)
owned_by false n m k xs ys same is = same ∙ ap (λ j. ys ++ j ∷ []) is

pub owned_new : (name : List ℕ) (n : ℕ) (ts : List Transport) (t : Transport) → bytes_eq name t.owner ≡ true → owned name n (ts ++ t ∷ []) ≡ owned name n ts ++ (n + length ts) ∷ []
owned_new name n [] t own = ap (λ (b : Bool). if b then n ∷ [] else []) own ∙ ap (λ m. m ∷ []) (omega arith)
owned_new name n (u ∷ ts) t own = owned_by (bytes_eq name u.owner) n (suc n + length ts) (n + suc (length ts)) (owned name (suc n) (ts ++ t ∷ [])) (owned name (suc n) ts) (owned_new name (suc n) ts t own) (omega arith)

pub last_append : (xs : List ℕ) (x : ℕ) → last_of (xs ++ x ∷ []) ≡ Some x
last_append [] x = refl
last_append (y ∷ []) x = refl
last_append (y ∷ z ∷ zs) x = last_append (z ∷ zs) x

pub get_last : (ts : List Transport) (t : Transport) → slice_get (ts ++ t ∷ []) (length ts) ≡ Some t
get_last [] t = refl
get_last (u ∷ ts) t = get_last ts t

pub first_asks : (o : Option (List ℕ)) → asks (actor.first_wish o) ≡ o
first_asks None = refl
first_asks (Some key) = refl

-- the world with a client's new transport
abbrev pub with_new : List ℕ → ClientState → World → World
with_new name after world = record world { transports = world.transports ++ new_transport name (hello_of after 0) world.now ∷ [] }

new_tell : (name : List ℕ) (after : ClientState) (now : ℕ) → MayTell after (new_transport name (hello_of after 0) now).actor
new_tell name after now = record { held = λ h is. absurd (cc); asked = λ key is. sym (first_asks after.key) ∙ is }

ready_new : (world : World) (name : List ℕ) (after : ClientState) → IsReady (with_new name after world) name after
ready_new world name after is k t at found uncut =
    let new : Transport = new_transport name (hello_of after 0) world.now in
    let last : last_of (owned name 0 (world.transports ++ new_transport name (hello_of after 0) world.now ∷ [])) ≡ Some (0 + length world.transports) = ap last_of (owned_new name 0 world.transports (new_transport name (hello_of after 0) world.now) (self_bytes name)) ∙ last_append (owned name 0 world.transports) (0 + length world.transports) in
    let one : Some (0 + length world.transports) ≡ Some k = sym last ∙ at in
    let same : 0 + length world.transports ≡ k = cc in
    let here : length world.transports ≡ k = omega (arith, same) in
    let two : Some (new_transport name (hello_of after 0) world.now) ≡ Some t = sym (get_last world.transports (new_transport name (hello_of after 0) world.now)) ∙ subst (λ j. slice_get (world.transports ++ new_transport name (hello_of after 0) world.now ∷ []) j ≡ Some t) (sym here) found in
    let it : new_transport name (hello_of after 0) world.now ≡ t = cc in
    subst (λ (v : Transport). MayTell after v.actor) it (new_tell name after world.now)

ready_other : (world : World) (name : List ℕ) (t : Transport) (other : List ℕ) (state : ClientState) → t.owner ≡ name → bytes_eq name other ≡ false → IsReady world other state → IsReady (record world { transports = world.transports ++ t ∷ [] }) other state
ready_other world name t other state own differ ready is k u at found uncut =
    let back : bytes_eq other t.owner ≡ false = ap (bytes_eq other) own ∙ other_by name other differ (bytes_eq other name) refl in
    let at_before : latest other world ≡ Some k = sym (ap last_of (owned_append other 0 world.transports t back)) ∙ at in
    let there = latest_there other world k at_before in
    let two : Some there.0 ≡ Some u = sym (get_append k there.0 world.transports (t ∷ []) there.1) ∙ found in
    let it : there.0 ≡ u = cc in
    ready is k u at_before (subst (λ (v : Transport). slice_get world.transports k ≡ Some v) it there.1) uncut

own_connect : (b : List Answered) (now : ℕ) (state : ClientState) → IsOwn b state → IsOwn b (obeyed Connect now state).state
own_connect b now state own =
    let r = rests_moved events.Connect now state in
    record {
      once = once_moved events.Connect now state own.once;
      keyed = λ key is. elim r.keys [ inl same ↦ same.1 ∙ own.keyed key (sym same.0 ∙ is) | inr none ↦ (let two : None ≡ Some key = sym none ∙ is in absurd (cc)) ];
      new = λ is. r.answers ∙ own.new (r.initial is);
      given = subst (AllByRecursion (IsGiven b)) (sym r.answers) own.given;
    }

opened_one : (world : World) (name : List ℕ) (after : ClientState) (c : List ℕ × ClientState) (b : Bool) → bytes_eq name c.0 ≡ b → IsOwn world.book after → IsTellable world c → IsTellable (with_new name after world) (c.0, if b then after else c.1)
opened_one world name after c true is own h = record { own = own; ready = subst (λ (n : List ℕ). IsReady (with_new name after world) n after) (same_bytes name c.0 is) (ready_new world name after) }
opened_one world name after c false is own h = record { own = h.own; ready = ready_other world name (new_transport name (hello_of after 0) world.now) c.0 c.1 refl is h.ready }

opened_all : (world : World) (name : List ℕ) (after : ClientState) → IsOwn world.book after → (cs : List (List ℕ × ClientState)) → AllByRecursion (IsTellable world) cs → AllByRecursion (IsTellable (with_new name after world)) (map (if_named name (λ _. after)) cs)
opened_all world name after own [] each = tt
opened_all world name after own (c ∷ cs) each = (opened_one world name after c (bytes_eq name c.0) refl own each.0, opened_all world name after own cs each.1)

opened_as_tells : (name : List ℕ) (after : ClientState) (world : World) → IsOwn world.book after → IsTelling world → IsTelling (opened_as name after world)
opened_as_tells name after world own h = record {
  holders = all_append _ world.transports (_ ∷ []) h.holders ((λ g is. absurd (cc)), tt);
  clients = all_weaker _ _ (retold (with_new name after world) (opened_as name after world) refl (λ n s ready. ready)) (map (if_named name (λ _. after)) world.clients) (opened_all world name after own world.clients h.clients);
}

unless_tells : (o : Option Refusal) (name : List ℕ) (state : ClientState) (world : World) → refusal Connect state ≡ o → client_at name world ≡ Some state → IsTelling world → IsTelling (opened_unless o name state world)
unless_tells None name state world none at h =
    let told_it = in_all (IsTellable world) name world.clients state h.clients at in
    let same : (acted Connect world.now state).state ≡ (obeyed Connect world.now state).state = ap (λ (o : Option Refusal). (obeyed_unless o Connect world.now state).state) none in
    opened_as_tells name (acted Connect world.now state).state world (subst (IsOwn world.book) (sym same) (own_connect world.book world.now state told_it.own)) h
unless_tells (Some why) name state world none at h = h

opened_tells : (name : List ℕ) (o : Option ClientState) (world : World) → client_at name world ≡ o → IsTelling world → IsTelling (opened_by name o world)
opened_tells name None world at h = h
opened_tells name (Some state) world at h = unless_tells (refusal Connect state) name state world refl at h

opens_tells : (name : List ℕ) (world : World) → IsTelling world → IsTelling (opens name world)
opens_tells name world h = opened_tells name (client_at name world) world refl h

obeys_tells : (name : List ℕ) (command : Command) (world : World) → IsTelling world → IsTelling (obeys name command world)
obeys_tells name Connect world h = opens_tells name world h
obeys_tells name Die world h = cuts_tells name (takes_turn name (acted Die world.now) world) (told_tells name Die world tt h)
obeys_tells name command world h = told_tells name command world tt h

-- RECOVERY

pub first_is : (c : ConnState) → rules.may_recover c ≡ true → c ≡ conn.Initialized
first_is conn.Initialized is = refl
first_is c is = absurd (cc)

pub and_first : (a b c d : Bool) → (a && b && c && d) ≡ true → a ≡ true
and_first true b c d is = refl
and_first false b c d is = absurd (cc)

recovered_by : (world : World) (name : List ℕ) (key : RecoveryKey) (s : ClientState) (b : Bool) → may_recover s ≡ b → IsTellable world (name, s) → IsTellable world (name, if b then with_key key s else s)
recovered_by world name key s true is h =
    let first : s.conn ≡ conn.Initialized = first_is s.conn (and_first (rules.may_recover s.conn) (is_empty s.channels) (is_none s.key) (is_empty s.queue.pending) is) in
    let nothing : s.answers ≡ [] = h.own.new first in
    record {
      own = record {
        once = record { rise = omega arith; distinct = h.own.once.distinct; old = subst (AllByRecursion _) (sym nothing) tt };
        keyed = λ k same. let it : key.key ≡ k = cc in ap (λ (x : List ℕ). Some (before_mark x)) it;
        new = h.own.new;
        given = h.own.given;
      };
      ready = λ now. let two : conn.Initialized ≡ conn.Connecting = sym first ∙ now in absurd (cc);
    }
recovered_by world name key s false is h = h

with_tells : (name other : List ℕ) (o : Option RecoveryKey) (world : World) → IsTelling world → IsTelling (recovered_with name other o world)
with_tells name other None world h = h
with_tells name other (Some key) world h =
    on_client_tells (obeys other Die world) name (recovered key) (λ c same is. recovered_by (obeys other Die world) c.0 key c.1 (may_recover c.1) refl is)
    (obeys_tells other Die world h)

recovered_if_tells : (b : Bool) (name other : List ℕ) (lost : ClientState) (world : World) → IsTelling world → IsTelling (recovered_if b name other lost world)
recovered_if_tells true name other lost world h = with_tells name other (recovery_key lost) world h
recovered_if_tells false name other lost world h = h

from_tells : (name other : List ℕ) (one two : Option ClientState) (world : World) → IsTelling world → IsTelling (recovered_from name other one two world)
from_tells name other (Some state) (Some lost) world h = recovered_if_tells (may_recover state) name other lost world h
from_tells name other (Some state) None world h = h
from_tells name other None two world h = h

-- A CLIENT IS DECLARED

declared_tells : (o : Option ClientState) (name : List ℕ) (world : World) → IsTelling world → IsTelling (declared_unless o name world)
declared_tells (Some state) name world h = h
declared_tells None name world h = record {
  holders = h.holders;
  clients = all_append _ world.clients ((name, new_state name) ∷ []) (all_weaker _ _ (retold world (record world { clients = world.clients ++ (name, new_state name) ∷ [] }) refl (λ n s ready. ready)) world.clients h.clients)
      (record { own = record { once = record { rise = omega arith; distinct = tt; old = tt }; keyed = λ key is. absurd (cc); new = λ is. refl; given = tt }; ready = λ is. absurd (cc) }, tt);
}

-- THE SERVICE

own_grows : (b later : List Answered) (s : ClientState) → last_number the_range b ≤ last_number the_range later → IsOwn b s → IsOwn later s
own_grows b later s more own = record { once = own.once; keyed = own.keyed; new = own.new; given = all_weaker _ _ (λ a g. (g.0, g.1, omega (arith, g.2, more))) s.answers own.given }

serves_tell : (world after : World) → Serves world after → IsTelling world → IsTelling after
serves_tell world after g h = record {
  holders = g.holders;
  clients = subst (AllByRecursion (IsTellable after)) (sym g.clients)
      (all_weaker _ _ (λ c is. record { own = own_grows world.book after.book c.1 g.given is.own; ready = g.ready c.0 c.1 is.own is.ready }) world.clients h.clients);
}

reaped_tells : (world : World) (queue : List (ℕ × ℕ)) → IsTelling world → IsTelling (reaped queue world)
reaped_tells world [] h = h
reaped_tells world (pair ∷ more) h = serves_tell world _ (serve_same world (reaped (pair ∷ more) world) (omega arith) refl refl h.holders) h

aged_tells : (world : World) (o : Option ℕ) → IsTelling world → IsTelling (event_at o (Tick world.now) world)
aged_tells world None h = h
aged_tells world (Some number) h = serves_tell world _ (serve_same world (event_at (Some number) (Tick world.now) world) (omega arith) refl refl h.holders) h

fed_tells : (world : World) (o : Option ℕ) (body : Body) → IsTelling world → IsTelling (fed_at o body world)
fed_tells world None body h = h
fed_tells world (Some number) body h = serves_tell world _ (serve_same world (fed_at (Some number) body world) (omega arith) refl refl h.holders) h

-- ALL ACTIONS

pub keeps_tells : (action : Action) (world : World) → IsTrueWorld world → IsTelling world → IsTelling (does action world)
keeps_tells (Declares name) world true_ h = declared_tells (client_at name world) name world h
keeps_tells (Opens name) world true_ h = opens_tells name world h
keeps_tells (Cuts name) world true_ h = cuts_tells name world h
keeps_tells (Recovers name other) world true_ h = from_tells name other (client_at name world) (client_at other world) world h
keeps_tells (Obeys name command) world true_ h = obeys_tells name command world h
keeps_tells (Gets name) world true_ h = got_on_tells name (latest name world) world refl true_ h
keeps_tells (LooksAtTime name) world true_ h =
    turn_tells name (ticked world.now) world (λ state at is. told_steps world name state (ticked world.now state).state (steps_ticked world.now state) (once_ticked world.now state is.own.once) is) h
keeps_tells (Steps k) world true_ h = serves_tell world (does (Steps k) world) (steps_serve world k true_.service.book h.holders) h
keeps_tells (Pages k name) world true_ h = serves_tell world (does (Pages k name) world) (pages_serve world k name h.holders) h
keeps_tells (Polls k name) world true_ h = serves_tell world (does (Polls k name) world) (polls_serve world k name h.holders) h
keeps_tells (Passes span) world true_ h = serves_tell world (does (Passes span) world) (serve_same world (does (Passes span) world) (omega arith) refl refl h.holders) h
keeps_tells Expires world true_ h = serves_tell world (does Expires world) (serve_same world (does Expires world) (last_grows the_range (answered the_range (book.Expire world.now) world.book) world.book) refl refl h.holders) h
keeps_tells Reaps world true_ h = reaped_tells world world.queue h
keeps_tells (Ages name) world true_ h = aged_tells world (number_of name (names world)) h
keeps_tells (Asks name) world true_ h =
    let beside = name_beside name world in
    let same = ap (last_number the_range) beside.book in
    serves_tell world (does (Asks name) world) (serve_same world (does (Asks name) world) (omega (arith, same)) beside.transports beside.clients h.holders) h
keeps_tells (Feeds name body) world true_ h = fed_tells world (number_of name (names world)) body h

abbrev Both : World → Type 0
Both world = IsTrueWorld world × IsTelling world

pub begins_tells : IsTelling empty_world
begins_tells = record { holders = tt; clients = tt }

always_both : HoldsOfRuns Both
always_both = runs_hold Both (λ action world h. (keeps_true action world h.0, keeps_tells action world h.0 h.1)) (begins_true, begins_tells)

pub none_is_listed_twice : NoneIsListedTwice
none_is_listed_twice = runs_so Both AllListOnce (λ world h. all_weaker _ _ (λ c is. is.own.once.distinct) world.clients h.1.clients) always_both
