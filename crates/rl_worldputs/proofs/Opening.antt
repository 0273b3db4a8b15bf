-- Uses of serials are kept where a client gets what comes, opens a transport, is declared, and goes on where another stood.
use Rattle.std.proofs.Common.{◌≡◌, ◌⊎◌, inl, inr, ℕ, ◌+◌, Bool, true, false, List, [], ◌∷◌, ◌++◌, length, map, refl, sym, ◌∙◌, ap, subst, arith}
use Rattle.std.specs.Prelude.{Option, Some, None, slice_get, if◌then◌else◌, bytes_eq}
use Rattle.std.specs.List.{AllByRecursion}
use Rattle.rl_ids.specs.Forms.{conn_text}
use Rattle.rl_types.specs.declared.frames.Frame.{Frame}
use Rattle.rl_types.specs.declared.frames.Frame.TheVariants as frames
use Rattle.rl_runs.specs.declared.commands.Command.{Command}
use Rattle.rl_runs.specs.declared.commands.Command.TheVariants.{Connect, Die}
use Rattle.rl_runs.specs.declared.findings.Answer.{Answer}
use Rattle.rl_connsm.specs.Rules.{awaits_connected, takes_acknowledgements}
use Rattle.rl_connsm.specs.declared.table.ConnEvent.TheVariants as events
use Rattle.rl_connbook.proofs.Each.{all_weaker, all_append}
use Rattle.rl_actormodel.specs.declared.parts.Holder.{Holder}
use Rattle.rl_actormodel.specs.State as actor
use Rattle.rl_clientmodel.specs.States.{ClientState, new_state, conn_moved}
use Rattle.rl_clientmodel.specs.Commands.{Refusal, refusal, acted, obeyed_unless, hello_of}
use Rattle.rl_clientmodel.specs.Hearing.{hears, heard, settle}
use Rattle.rl_clientmodel.specs.Keys.{before_mark}
use Rattle.rl_worldmodel.specs.World.{World, Transport, new_transport, on_transport, client_at, if_named, latest, last_of, owned}
use Rattle.rl_worldmodel.specs.Clients.{declared_unless, takes_turn, opened_as, opened_unless, opened_by, opens, obeys, Arrival, Comes, Ends, Nothing, arrival, gives_frame, got_by, got_on}
use Rattle.rl_worldtold.specs.Truth.{Channels, OnHolder, IsLinked, IsTrueFrame, IsTrueTransport, IsTrueWorld, names_of}
use Rattle.rl_worldtold.proofs.Shape.{all_at, get_append, same_bytes, self_bytes, other_by, owned_append, latest_there, owned_changed, get_changed}
use Rattle.rl_runs.specs.declared.findings.Answer.TheVariants.{Ack, Nack}
use Rattle.rl_ackq.specs.declared.pending.Pending.{Pending}
use Rattle.rl_ackq.specs.Queue.{is_covered, settled_serials}
use Rattle.rl_connbook.proofs.Each.{all_filter}
use Rattle.std.specs.List.{filter}
use Rattle.rl_clientmodel.specs.Hearing.{id_of}
use Rattle.rl_worldtold.proofs.Shape.{all_map}
use Rattle.rl_worldtold.proofs.Lists.{takes_on}
use Rattle.rl_worldtold.specs.Listed.{pair_of}
use Rattle.rl_worldputs.proofs.Turning.{AreNumbered}
use Rattle.rl_worldtold.proofs.Moves.{rests_moved, steps_hears}
use Rattle.rl_worldtold.proofs.Answers.{arrives}
use Rattle.rl_worldtold.proofs.Telling.{in_all, owned_new, last_append, get_last}
use Rattle.rl_worldputs.specs.Uses.{Use, IsBy, AreSingle, AreGivenByOne, IsNumbered, IsNew, OnLatest, IsWishUsing, IsClientUsing, IsUsing, HasUses}
use Rattle.rl_worldputs.proofs.Turning.{IsHeld, moved_held, makes_hears}
use Rattle.rl_worldputs.proofs.Turned.{Turns, IsCalmed, changed_latest, turns_made, connected_turns}
use Rattle.rl_worldputs.proofs.Clients.{link_using, calm_steps, at_using, cuts_using, turned_by_using, linked_at, told_using}

-- A FRAME IS HEARD

calm_settled : (b : Bool) (serial count : ℕ) (answer : ℕ → Answer) (s : ClientState) → IsCalmed s (if b then settle serial count answer s else s)
calm_settled true serial count answer s is = (is, refl)
calm_settled false serial count answer s is = (is, refl)

found_same : (world : World) (name : List ℕ) (k : ℕ) (t : Transport) (P : Transport → Type 0) → latest name world ≡ Some k → slice_get world.transports k ≡ Some t → P t → OnLatest world name P
found_same world name k t P at found here j u at_u found_u uncut =
    let one : Some k ≡ Some j = sym at ∙ at_u in
    let same : k ≡ j = cc in
    let two : Some t ≡ Some u = sym found ∙ subst (λ n. slice_get world.transports n ≡ Some u) (sym same) found_u in
    let it : t ≡ u = cc in
    subst P it here

settled_listed : (uses : List Use) (name : List ℕ) (b : Bool) (serial count : ℕ) (answer : ℕ → Answer) (s : ClientState) → (b ≡ true → (id : List ℕ) × (s.id ≡ Some id)) → ((n : ℕ) → pair_of (answer n) ≡ (id_of s.id, n))
    → AreNumbered uses name s → AllByRecursion (λ (a : Answer). IsBy uses (pair_of a).0 (pair_of a).1 name) s.answers → AllByRecursion (λ (a : Answer). IsBy uses (pair_of a).0 (pair_of a).1 name) (if b then settle serial count answer s else s).answers
settled_listed uses name true serial count answer s held pairs numbered listed =
    let id = held refl in
    all_append _ s.answers (map answer (settled_serials serial count s.queue)) listed
    (all_map (λ (a : Answer). IsBy uses (pair_of a).0 (pair_of a).1 name) answer (settled_serials serial count s.queue)
    (all_map (λ n. IsBy uses (pair_of (answer n)).0 (pair_of (answer n)).1 name) (λ (one : Pending). one.serial) (filter (is_covered serial count) s.queue.pending)
    (all_filter _ (is_covered serial count) s.queue.pending (all_weaker _ _ (λ one is. by_pair one.serial is.1) s.queue.pending (numbered id.0 id.1).waiting))))
  where
    by_pair : (n : ℕ) → IsBy uses (held refl).0 n name → IsBy uses (pair_of (answer n)).0 (pair_of (answer n)).1 name
    by_pair n is = subst (λ (p : List ℕ × ℕ). IsBy uses p.0 p.1 name) (sym (pairs n)) (subst (λ (x : List ℕ). IsBy uses x n name) (sym (ap id_of (held refl).1)) is)
settled_listed uses name false serial count answer s held pairs numbered listed = listed

linked_id : (s : ClientState) (holder : Option Holder) → OnHolder holder (λ h. s.id ≡ Some (conn_text h.conn)) → (id : List ℕ) × (s.id ≡ Some id)
linked_id s None on = absurd on
linked_id s (Some h) on = (conn_text h.conn, on)

hears_turns : (uses : List Use) (owner : List ℕ → Option (List ℕ)) (world : World) (name : List ℕ) (k : ℕ) (t : Transport) (channels : Channels) (frame : Frame) (now : ℕ) (s : ClientState) → latest name world ≡ Some k → slice_get world.transports k ≡ Some t → t.cut ≡ false → IsTrueFrame channels t.actor.holder frame → AreSingle uses → AreGivenByOne uses
    → IsLinked world name s → IsClientUsing uses owner world (name, s) → Turns uses owner world name (hears frame now s)
hears_turns uses owner world name k t channels (frames.Connected id key ttl idle size code) now s at found uncut is single givers linked h =
    connected_by t.actor.holder refl is
  where
    connected_by : (o : Option Holder) → t.actor.holder ≡ o → OnHolder o (λ h. (id ≡ conn_text h.conn) × (before_mark key ≡ id)) → Turns uses owner world name (hears (frames.Connected id key ttl idle size code) now s)
    connected_by None same is = absurd is
    connected_by (Some holder) same is =
        connected_turns uses owner world name (awaits_connected s.conn) id key now s single givers refl h
        (λ c. (
          subst (λ (x : List ℕ). (s.id ≡ Some x) ⊎ IsNew uses owner name s.id x) (sym is.0) (h.ready c k t at found uncut holder same),
          found_same world name k t (λ u. OnHolder u.actor.holder (λ g. Some id ≡ Some (conn_text g.conn))) at found
              (subst (λ (o : Option Holder). OnHolder o (λ g. Some id ≡ Some (conn_text g.conn))) (sym same) (ap (λ (x : List ℕ). Some x) is.0)),
        ))
hears_turns uses owner world name k t channels (frames.Ack serial count) now s at found uncut is single givers linked h =
    turns_made uses owner world name s (hears (frames.Ack serial count) now s) h linked (calm_settled (takes_acknowledgements s.conn) serial count _ s) (makes_hears uses name single givers (frames.Ack serial count) now s tt h.numbered)
    (settled_listed uses name (takes_acknowledgements s.conn) serial count (λ n. Ack (id_of s.id) n) s (λ takes. linked_id s t.actor.holder (linked (takes_on s.conn takes) k t at found uncut)) (λ n. refl) h.numbered h.listed)
hears_turns uses owner world name k t channels (frames.Nack serial count code) now s at found uncut is single givers linked h =
    turns_made uses owner world name s (hears (frames.Nack serial count code) now s) h linked (calm_settled (takes_acknowledgements s.conn) serial count _ s) (makes_hears uses name single givers (frames.Nack serial count code) now s tt h.numbered)
    (settled_listed uses name (takes_acknowledgements s.conn) serial count (λ n. Nack (id_of s.id) n code) s (λ takes. linked_id s t.actor.holder (linked (takes_on s.conn takes) k t at found uncut)) (λ n. refl) h.numbered h.listed)
hears_turns uses owner world name k t channels frame now s at found uncut is single givers linked h =
    turns_made uses owner world name s (hears frame now s) h linked (calm_steps s (hears frame now s).state (steps_hears frame now s tt)) (makes_hears uses name single givers frame now s tt h.numbered) (subst (AllByRecursion (λ (a : Answer). IsBy uses (pair_of a).0 (pair_of a).1 name)) (sym (steps_hears frame now s tt).answers) h.listed)

gives_using : (k : ℕ) (world : World) → HasUses world → HasUses (on_transport k gives_frame world)
gives_using k world h = record {
  uses = h.uses;
  owner = h.owner;
  fits = link_using h.uses h.owner world k gives_frame (λ u. refl) (λ u uncut. uncut) (λ u. refl) (λ t found is. record { of_actor = is.of_actor; sent = is.sent }) h.fits;
}

comes_using : (name : List ℕ) (k : ℕ) (frame : Frame) (o : Option Transport) (world : World) → latest name world ≡ Some k → slice_get world.transports k ≡ o → arrival o ≡ Comes frame → IsTrueWorld world → HasUses world
    → HasUses (takes_turn name (heard (Some frame) world.now) (on_transport k gives_frame world))
comes_using name k frame None world at found is true_ h = absurd (cc)
comes_using name k frame (Some t) world at found is true_ h =
    let here = all_at (IsTrueTransport world.channels) k t world.transports found true_.service.each in
    let came = arrives t.cut (slice_get t.to_client.put t.to_client.got) t.actor.ended frame is in
    let at_left : latest name (on_transport k gives_frame world) ≡ Some k = ap last_of (owned_changed name 0 k gives_frame (λ u. refl) world.transports) ∙ at in
    let g = gives_using k world h in
    turned_by_using name (heard (Some frame) world.now) (client_at name world) (on_transport k gives_frame world) g refl
    (λ state at_state is_client.
    hears_turns g.uses g.owner (on_transport k gives_frame world) name k (gives_frame t) world.channels frame world.now (record state { got_at = world.now }) at_left (get_changed k gives_frame t world.transports found) came.0
    (all_at (IsTrueFrame world.channels t.actor.holder) t.to_client.got frame t.to_client.put came.1 here.on_way) g.fits.single g.fits.givers
    (λ on. changed_latest world (on_transport k gives_frame world) k gives_frame refl (λ u. refl) (λ u uncut. uncut) _ _ (λ u p. p) (λ u same p. p) name (linked_at world name state true_ at_state on))
    (record { own = is_client.own; numbered = is_client.numbered; listed = is_client.listed; ready = is_client.ready }))

got_using : (name : List ℕ) (k : ℕ) (a : Arrival) (world : World) → latest name world ≡ Some k → arrival (slice_get world.transports k) ≡ a → IsTrueWorld world → HasUses world → HasUses (got_by name k a world)
got_using name k (Comes frame) world at is true_ h = comes_using name k frame (slice_get world.transports k) world at refl is true_ h
got_using name k Ends world at is true_ h = record { uses = h.uses; owner = h.owner; fits = at_using h.uses h.owner (Some k) world h.fits }
got_using name k Nothing world at is true_ h = h

pub got_on_using : (name : List ℕ) (o : Option ℕ) (world : World) → latest name world ≡ o → IsTrueWorld world → HasUses world → HasUses (got_on name o world)
got_on_using name None world at true_ h = h
got_on_using name (Some k) world at true_ h = got_using name k (arrival (slice_get world.transports k)) world at refl true_ h

-- A CLIENT OPENS

abbrev with_one : Transport → World → World
with_one t world = record world { transports = world.transports ++ t ∷ [] }

-- the new one is the latest of its owner
new_latest : (world : World) (t : Transport) (P : Transport → Type 0) → P t → OnLatest (with_one t world) t.owner P
new_latest world t P here k u at found uncut =
    let last : last_of (owned t.owner 0 (world.transports ++ t ∷ [])) ≡ Some (0 + length world.transports) = ap last_of (owned_new t.owner 0 world.transports t (self_bytes t.owner)) ∙ last_append (owned t.owner 0 world.transports) (0 + length world.transports) in
    let one : Some (0 + length world.transports) ≡ Some k = sym last ∙ at in
    let same : 0 + length world.transports ≡ k = cc in
    let there : length world.transports ≡ k = omega (arith, same) in
    let two : Some t ≡ Some u = sym (get_last world.transports t) ∙ subst (λ j. slice_get (world.transports ++ t ∷ []) j ≡ Some u) (sym there) found in
    let it : t ≡ u = cc in
    subst P it here

other_latest : (world : World) (t : Transport) (other : List ℕ) (P : Transport → Type 0) → bytes_eq t.owner other ≡ false → OnLatest world other P → OnLatest (with_one t world) other P
other_latest world t other P differ on k u at found uncut =
    let back : bytes_eq other t.owner ≡ false = other_by t.owner other differ (bytes_eq other t.owner) refl in
    let at_before : latest other world ≡ Some k = sym (ap last_of (owned_append other 0 world.transports t back)) ∙ at in
    let there = latest_there other world k at_before in
    let two : Some there.0 ≡ Some u = sym (get_append k there.0 world.transports (t ∷ []) there.1) ∙ found in
    let it : there.0 ≡ u = cc in
    on k u at_before (subst (λ (v : Transport). slice_get world.transports k ≡ Some v) it there.1) uncut

first_using : (uses : List Use) (ns : List (List ℕ)) (o : Option (List ℕ)) → IsWishUsing uses ns (actor.first_wish o)
first_using uses ns None = tt
first_using uses ns (Some key) = tt

opened_as_using : (uses : List Use) (owner : List ℕ → Option (List ℕ)) (name : List ℕ) (before after : ClientState) (world : World) → IsHeld before after → after.answers ≡ before.answers → IsClientUsing uses owner world (name, before) → IsUsing uses owner world → IsUsing uses owner (opened_as name after world)
opened_as_using uses owner name before after world held told good h = record {
  single = h.single;
  givers = h.givers;
  given = h.given;
  owned = h.owned;
  fed = h.fed;
  nobody = h.nobody;
  apart = h.apart;
  puts = h.puts;
  links = all_append _ world.transports (new_transport name (hello_of after 0) world.now ∷ []) h.links
      (record { of_actor = record { wishing = first_using uses (names_of world.channels) after.key; known = tt }; sent = tt }, tt);
  each = all_opened world.clients h.each;
}
  where
    new_client : IsHeld before after → IsClientUsing uses owner (opened_as name after world) (name, after)
    new_client (inl none) = record {
      own = λ id is. let wrong : None ≡ Some id = sym none ∙ is in absurd (cc);
      numbered = λ id is. let wrong : None ≡ Some id = sym none ∙ is in absurd (cc);
      listed = subst (AllByRecursion (λ (a : Answer). IsBy uses (pair_of a).0 (pair_of a).1 name)) (sym told) good.listed;
      ready = λ is. new_latest world (new_transport name (hello_of after 0) world.now) _ (λ g wrong. absurd (cc));
    }
    new_client (inr same) = record {
      own = λ id is. good.own id (sym same.0 ∙ is);
      numbered = λ id is. subst (IsNumbered uses id name) (sym same.1) (good.numbered id (sym same.0 ∙ is));
      listed = subst (AllByRecursion (λ (a : Answer). IsBy uses (pair_of a).0 (pair_of a).1 name)) (sym told) good.listed;
      ready = λ is. new_latest world (new_transport name (hello_of after 0) world.now) _ (λ g wrong. absurd (cc));
    }

    one_by : (c : List ℕ × ClientState) (b : Bool) → bytes_eq name c.0 ≡ b → IsClientUsing uses owner world c → IsClientUsing uses owner (opened_as name after world) (c.0, if b then after else c.1)
    one_by c true is g = subst (λ (n : List ℕ). IsClientUsing uses owner (opened_as name after world) (n, after)) (same_bytes name c.0 is) (new_client held)
    one_by c false is g = record { own = g.own; numbered = g.numbered; listed = g.listed; ready = λ on. other_latest world (new_transport name (hello_of after 0) world.now) c.0 _ is (g.ready on) }

    all_opened : (cs : List (List ℕ × ClientState)) → AllByRecursion (IsClientUsing uses owner world) cs → AllByRecursion (IsClientUsing uses owner (opened_as name after world)) (map (if_named name (λ _. after)) cs)
    all_opened [] each = tt
    all_opened (c ∷ cs) each = (one_by c (bytes_eq name c.0) refl each.0, all_opened cs each.1)

unless_using : (o : Option Refusal) (name : List ℕ) (state : ClientState) (world : World) → refusal Connect state ≡ o → client_at name world ≡ Some state → HasUses world → HasUses (opened_unless o name state world)
unless_using None name state world none at h =
    let good = in_all (IsClientUsing h.uses h.owner world) name world.clients state h.fits.each at in
    let same : (acted Connect world.now state).state ≡ conn_moved events.Connect world.now state = ap (λ (o : Option Refusal). (obeyed_unless o Connect world.now state).state) none in
    record {
      uses = h.uses;
      owner = h.owner;
      fits = opened_as_using h.uses h.owner name state (acted Connect world.now state).state world (subst (IsHeld state) (sym same) (moved_held h.uses name h.fits.single h.fits.givers events.Connect world.now state)) (ap (λ (c : ClientState). c.answers) same ∙ (rests_moved events.Connect world.now state).answers) good h.fits;
    }
unless_using (Some why) name state world none at h = h

opened_using : (name : List ℕ) (o : Option ClientState) (world : World) → client_at name world ≡ o → HasUses world → HasUses (opened_by name o world)
opened_using name None world at h = h
opened_using name (Some state) world at h = unless_using (refusal Connect state) name state world refl at h

pub opens_using : (name : List ℕ) (world : World) → HasUses world → HasUses (opens name world)
opens_using name world h = opened_using name (client_at name world) world refl h

pub obeys_using : (name : List ℕ) (command : Command) (world : World) → IsTrueWorld world → HasUses world → HasUses (obeys name command world)
obeys_using name Connect world true_ h = opens_using name world h
obeys_using name Die world true_ h =
    let d = told_using name Die world tt true_ h in
    record { uses = d.uses; owner = d.owner; fits = cuts_using d.uses d.owner name (takes_turn name (acted Die world.now) world) d.fits }
obeys_using name command world true_ h = told_using name command world tt true_ h

-- A CLIENT IS DECLARED

pub declared_using : (o : Option ClientState) (name : List ℕ) (world : World) → HasUses world → HasUses (declared_unless o name world)
declared_using (Some state) name world h = h
declared_using None name world h = record {
  uses = h.uses;
  owner = h.owner;
  fits = record {
    single = h.fits.single;
    givers = h.fits.givers;
    given = h.fits.given;
    owned = h.fits.owned;
    fed = h.fits.fed;
    nobody = h.fits.nobody;
    apart = h.fits.apart;
    puts = h.fits.puts;
    links = h.fits.links;
    each = all_append _ world.clients ((name, new_state name) ∷ []) (all_weaker _ _ (λ c is. record { own = is.own; numbered = is.numbered; listed = is.listed; ready = is.ready }) world.clients h.fits.each)
        (record { own = λ id is. absurd (cc); numbered = λ id is. absurd (cc); listed = tt; ready = λ is. absurd (cc) }, tt);
  };
}
