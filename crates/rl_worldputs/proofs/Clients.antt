-- Uses of serials are kept by all that clients do.
use Rattle.std.proofs.Common.{◌≡◌, inl, inr, ℕ, Bool, true, false, List, [], ◌∷◌, map, refl, sym, ◌∙◌, ap, subst, true≢false}
use Rattle.std.specs.Prelude.{Option, Some, None, slice_get, if◌then◌else◌, bytes_eq}
use Rattle.std.specs.List.{AllByRecursion}
use Rattle.rl_ids.specs.Forms.{conn_text}
use Rattle.rl_types.specs.declared.frames.Frame.{Frame}
use Rattle.rl_runs.specs.declared.commands.Command.{Command}
use Rattle.rl_connsm.specs.declared.table.ConnEvent.TheVariants as events
use Rattle.rl_connbook.proofs.Each.{all_weaker, all_append}
use Rattle.rl_actormodel.specs.State as actor
use Rattle.rl_clientmodel.specs.States.{ClientState, Turn}
use Rattle.rl_clientmodel.specs.Commands.{acted}
use Rattle.rl_clientmodel.specs.Times.{ticked}
use Rattle.rl_worldmodel.specs.World.{World, Transport, changed_at, on_transport, on_client, client_at, if_named, latest}
use Rattle.rl_worldmodel.specs.Clients.{cut_off, unlinks, cut_unless, cut_where, cut_at, cuts, put_unless, takes_frames, sent_on, sends, cuts_if, turned, turned_by, takes_turn}
use Rattle.rl_worldmodel.specs.Services.{feed_conn}
use Rattle.rl_worldtold.specs.Truth.{IsLinked, IsTrueWorld, names_of}
use Rattle.rl_worldtold.proofs.Shape.{all_at, all_take, changed_one, changed_none, same_bytes, self_bytes}
use Rattle.rl_runs.specs.declared.findings.Answer.{Answer}
use Rattle.rl_worldtold.specs.Listed.{pair_of}
use Rattle.rl_worldtold.proofs.Moves.{Steps, IsNoConnect, steps_unlinked, steps_acted, steps_ticked}
use Rattle.rl_worldtold.proofs.Answers.{found_in}
use Rattle.rl_worldtold.proofs.Telling.{named_all, in_all, sent_owner, sent_cut, sent_actor}
use Rattle.rl_worldputs.specs.Uses.{Use, IsBy, IsSent, IsNumbered, MayServe, OnLatest, IsClientUsing, IsLinkUsing, IsUsing, HasUses}
use Rattle.rl_worldputs.proofs.Using.{Grows, use_of_stays, link_stays, channel_stays}
use Rattle.rl_worldputs.proofs.Turning.{IsHeld, moved_held, makes_acted, makes_ticked}
use Rattle.rl_worldputs.proofs.Turned.{Turns, IsCalmed, changed_latest, turns_made}

-- TRANSPORTS AND CLIENTS THAT CHANGE

-- a transport changes but for its actor
pub link_using : (uses : List Use) (owner : List ℕ → Option (List ℕ)) (world : World) (k : ℕ) (f : Transport → Transport) → ((t : Transport) → (f t).owner ≡ t.owner) → ((t : Transport) → (f t).cut ≡ false → t.cut ≡ false) → ((t : Transport) → (f t).actor ≡ t.actor)
    → ((t : Transport) → slice_get world.transports k ≡ Some t → IsLinkUsing uses (names_of world.channels) t → IsLinkUsing uses (names_of world.channels) (f t)) → IsUsing uses owner world → IsUsing uses owner (on_transport k f world)
link_using uses owner world k f owners cuts_ same step h = record {
  single = h.single;
  givers = h.givers;
  given = h.given;
  owned = h.owned;
  fed = h.fed;
  nobody = h.nobody;
  apart = h.apart;
  puts = h.puts;
  links = links_by (slice_get world.transports k) refl;
  each = all_weaker _ _ (λ c is. record {
    own = is.own;
    numbered = is.numbered;
    listed = is.listed;
    ready = λ on. changed_latest world (on_transport k f world) k f refl owners cuts_ _ _ (λ t may. may) (λ t found may. subst (λ (s : actor.State). MayServe uses owner c.0 c.1.id s.holder) (sym (same t)) may) c.0 (is.ready on);
  }) world.clients h.each;
}
  where
    links_by : (o : Option Transport) → slice_get world.transports k ≡ o → AllByRecursion (IsLinkUsing uses (names_of world.channels)) (changed_at k f world.transports)
    links_by None found = subst (AllByRecursion (IsLinkUsing uses (names_of world.channels))) (sym (changed_none k f world.transports found)) h.links
    links_by (Some t) found =
        changed_one (IsLinkUsing uses (names_of world.channels)) k f t (step t found (all_at (IsLinkUsing uses (names_of world.channels)) k t world.transports found h.links)) world.transports found h.links

-- a client whose connection and queue stay, or that forgets it
pub held_client : (uses : List Use) (owner : List ℕ → Option (List ℕ)) (world : World) (name : List ℕ) (before after : ClientState) → IsCalmed before after → after.answers ≡ before.answers → IsHeld before after → IsClientUsing uses owner world (name, before) → IsClientUsing uses owner world (name, after)
held_client uses owner world name before after calm told (inl none) h = record {
  own = λ id is. let wrong : None ≡ Some id = sym none ∙ is in absurd (cc);
  numbered = λ id is. let wrong : None ≡ Some id = sym none ∙ is in absurd (cc);
  listed = subst (AllByRecursion (λ (a : Answer). IsBy uses (pair_of a).0 (pair_of a).1 name)) (sym told) h.listed;
  ready = λ is k t at found uncut. let c = calm is in subst (λ (o : Option (List ℕ)). MayServe uses owner name o t.actor.holder) (sym c.1) (h.ready c.0 k t at found uncut);
}
held_client uses owner world name before after calm told (inr same) h = record {
  own = λ id is. h.own id (sym same.0 ∙ is);
  numbered = λ id is. subst (IsNumbered uses id name) (sym same.1) (h.numbered id (sym same.0 ∙ is));
  listed = subst (AllByRecursion (λ (a : Answer). IsBy uses (pair_of a).0 (pair_of a).1 name)) (sym told) h.listed;
  ready = λ is k t at found uncut. let c = calm is in subst (λ (o : Option (List ℕ)). MayServe uses owner name o t.actor.holder) (sym c.1) (h.ready c.0 k t at found uncut);
}

pub calm_steps : (before after : ClientState) → Steps before after → IsCalmed before after
calm_steps before after steps is = let c = steps.connecting is in (c.0, c.1)

pub client_using : (uses : List Use) (owner : List ℕ → Option (List ℕ)) (world : World) (name : List ℕ) (f : ClientState → ClientState) → ((c : List ℕ × ClientState) → name ≡ c.0 → IsClientUsing uses owner world c → IsClientUsing uses owner world (c.0, f c.1))
    → IsUsing uses owner world → IsUsing uses owner (on_client name f world)
client_using uses owner world name f step h = record {
  single = h.single;
  givers = h.givers;
  given = h.given;
  owned = h.owned;
  fed = h.fed;
  nobody = h.nobody;
  apart = h.apart;
  puts = h.puts;
  links = h.links;
  each = all_weaker _ _ (λ c is. record { own = is.own; numbered = is.numbered; listed = is.listed; ready = is.ready }) (map (if_named name f) world.clients) (named_all (IsClientUsing uses owner world) name f step world.clients h.each);
}

-- CUTS

off_link : (uses : List Use) (names : List (List ℕ)) (t : Transport) → IsLinkUsing uses names t → IsLinkUsing uses names (cut_off t)
off_link uses names t is = record { of_actor = is.of_actor; sent = all_take (IsSent uses t.actor.holder) t.to_service.got t.to_service.put is.sent }

cut_using : (uses : List Use) (owner : List ℕ → Option (List ℕ)) (b : Bool) (k : ℕ) (t : Transport) (world : World) → IsUsing uses owner world → IsUsing uses owner (cut_unless b k t world)
cut_using uses owner true k t world h = h
cut_using uses owner false k t world h =
    client_using uses owner (on_transport k cut_off world) t.owner (unlinks world.now)
    (λ c same is. held_client uses owner (on_transport k cut_off world) c.0 c.1 (unlinks world.now c.1) (calm_steps c.1 (unlinks world.now c.1) (steps_unlinked world.now c.1)) (steps_unlinked world.now c.1).answers (moved_held uses c.0 h.single h.givers events.Down world.now c.1) is)
    (link_using uses owner world k cut_off (λ u. refl) (λ u cut. absurd (true≢false cut)) (λ u. refl) (λ u found is. off_link uses (names_of world.channels) u is) h)

where_using : (uses : List Use) (owner : List ℕ → Option (List ℕ)) (k : ℕ) (o : Option Transport) (world : World) → IsUsing uses owner world → IsUsing uses owner (cut_where k o world)
where_using uses owner k None world h = h
where_using uses owner k (Some t) world h = cut_using uses owner t.cut k t world h

pub at_using : (uses : List Use) (owner : List ℕ → Option (List ℕ)) (o : Option ℕ) (world : World) → IsUsing uses owner world → IsUsing uses owner (cut_at o world)
at_using uses owner None world h = h
at_using uses owner (Some k) world h = where_using uses owner k (slice_get world.transports k) world h

pub cuts_using : (uses : List Use) (owner : List ℕ → Option (List ℕ)) (name : List ℕ) (world : World) → IsUsing uses owner world → IsUsing uses owner (cuts name world)
cuts_using uses owner name world h = at_using uses owner (latest name world) world h

pub if_using : (uses : List Use) (owner : List ℕ → Option (List ℕ)) (b : Bool) (name : List ℕ) (world : World) → IsUsing uses owner world → IsUsing uses owner (cuts_if b name world)
if_using uses owner true name world h = cuts_using uses owner name world h
if_using uses owner false name world h = h

-- FRAMES THAT ARE SENT

put_link : (uses : List Use) (names : List (List ℕ)) (list : List Frame) (cut : Bool) (t : Transport) → (cut ≡ false → AllByRecursion (IsSent uses t.actor.holder) list) → IsLinkUsing uses names t → IsLinkUsing uses names (put_unless cut list t)
put_link uses names list true t sent is = is
put_link uses names list false t sent is = record { of_actor = is.of_actor; sent = all_append (IsSent uses t.actor.holder) t.to_service.put list is.sent (sent refl) }

pub sent_using : (uses : List Use) (owner : List ℕ → Option (List ℕ)) (o : Option ℕ) (list : List Frame) (world : World) → ((k : ℕ) (t : Transport) → o ≡ Some k → slice_get world.transports k ≡ Some t → t.cut ≡ false → AllByRecursion (IsSent uses t.actor.holder) list)
    → IsUsing uses owner world → IsUsing uses owner (sent_on o list world)
sent_using uses owner None list world sent h = h
sent_using uses owner (Some k) list world sent h =
    link_using uses owner world k (takes_frames list) (λ t. sent_owner list t.cut t) (λ t uncut. sym (sent_cut list t.cut t) ∙ uncut) (λ t. sent_actor list t.cut t)
    (λ t found is. put_link uses (names_of world.channels) list t.cut t (λ uncut. sent k t refl found uncut) is) h

-- A TURN

-- a client of another name holds another connection
apart_names : (owner : List ℕ → Option (List ℕ)) (name other id : List ℕ) → bytes_eq name other ≡ false → owner id ≡ Some name → owner id ≡ Some other → ⊥
apart_names owner name other id differ one two =
    let it : Some name ≡ Some other = sym one ∙ two in
    let same : name ≡ other = cc in
    true≢false (sym (self_bytes name) ∙ ap (bytes_eq name) same ∙ differ)

-- a client that holds no connection of which uses are new
pub other_client : (uses later : List Use) (owner : List ℕ → Option (List ℕ)) (world after : World) (held : Option (List ℕ)) (c : List ℕ × ClientState) → ((P : Transport → Type 0) → OnLatest world c.0 P → OnLatest after c.0 P) → ((id : List ℕ) → held ≡ Some id → owner id ≡ Some c.0 → ⊥)
    → Grows uses later held → IsClientUsing uses owner world c → IsClientUsing later owner after c
other_client uses later owner world after held c on apart grown h = record {
  own = h.own;
  numbered = λ id is. let n = h.numbered id is in record {
    below = λ serial channel used. elim (grown.only id serial channel used) [ inl mine ↦ absurd (apart id mine (h.own id is)) | inr old ↦ n.below serial channel old ];
    waiting = all_weaker _ _ (λ one used. (use_of_stays uses later grown.kept id one.frame used.0, grown.by id one.serial c.0 used.1)) c.1.queue.pending n.waiting;
  };
  listed = all_weaker _ _ (λ a used. grown.by (pair_of a).0 (pair_of a).1 c.0 used) c.1.answers h.listed;
  ready = λ is. on _ (λ k t at found uncut g same. elim (h.ready is k t at found uncut g same) [
    | inl mine ↦ inl mine
    | inr new ↦ inr (record {
      mine = new.mine;
      other = new.other;
      unused = λ serial channel used. elim (grown.only (conn_text g.conn) serial channel used) [ inl wrong ↦ apart (conn_text g.conn) wrong new.mine | inr old ↦ new.unused serial channel old ];
    })
  ]);
}

each_turned : (uses later : List Use) (owner : List ℕ → Option (List ℕ)) (world after : World) (name : List ℕ) (state : ClientState) → ((other : List ℕ) (P : Transport → Type 0) → OnLatest world other P → OnLatest after other P) → ((id : List ℕ) → state.id ≡ Some id → owner id ≡ Some name)
    → Grows uses later state.id → IsClientUsing later owner after (name, state) → (cs : List (List ℕ × ClientState)) → AllByRecursion (IsClientUsing uses owner world) cs → AllByRecursion (IsClientUsing later owner after) (map (if_named name (λ _. state)) cs)
each_turned uses later owner world after name state on own grown good [] each = tt
each_turned uses later owner world after name state on own grown good (c ∷ cs) each = (one_by (bytes_eq name c.0) refl, each_turned uses later owner world after name state on own grown good cs each.1)
  where
    one_by : (b : Bool) → bytes_eq name c.0 ≡ b → IsClientUsing later owner after (c.0, if b then state else c.1)
    one_by true is = subst (λ (n : List ℕ). IsClientUsing later owner after (n, state)) (same_bytes name c.0 is) good
    one_by false is = other_client uses later owner world after state.id c (on c.0) (λ id mine theirs. apart_names owner name c.0 id is (own id mine) theirs) grown each.0

turned_client : (uses : List Use) (owner : List ℕ → Option (List ℕ)) (name : List ℕ) (turn : Turn) (world : World) → (t : Turns uses owner world name turn) → IsUsing uses owner world → IsUsing t.later owner (on_client name (λ _. turn.state) world)
turned_client uses owner name turn world t h = record {
  single = t.single;
  givers = t.givers;
  given = λ id serial channel used. elim (t.grown.only id serial channel used) [ inl mine ↦ h.owned id name (t.client.own id mine) | inr old ↦ h.given id serial channel old ];
  owned = h.owned;
  fed = λ serial channel used. elim (t.grown.only (conn_text feed_conn) serial channel used) [ inl mine ↦ absurd (h.nobody name (t.client.own (conn_text feed_conn) mine)) | inr old ↦ h.fed serial channel old ];
  nobody = h.nobody;
  apart = h.apart;
  puts = all_weaker _ _ (channel_stays uses t.later t.grown.kept) world.channels h.puts;
  links = all_weaker _ _ (link_stays uses t.later t.grown.kept (names_of world.channels)) world.transports h.links;
  each = each_turned uses t.later owner world (on_client name (λ _. turn.state) world) name turn.state (λ other P on. on) t.client.own t.grown
      (record { own = t.client.own; numbered = t.client.numbered; listed = t.client.listed; ready = t.client.ready }) world.clients h.each;
}

turned_using : (uses : List Use) (owner : List ℕ → Option (List ℕ)) (name : List ℕ) (turn : Turn) (world : World) → (t : Turns uses owner world name turn) → IsUsing uses owner world → IsUsing t.later owner (turned name turn world)
turned_using uses owner name turn world t h =
    if_using t.later owner turn.output.drop_link name (sends name turn.output.frames (on_client name (λ _. turn.state) world))
    (sent_using t.later owner (latest name (on_client name (λ _. turn.state) world)) turn.output.frames (on_client name (λ _. turn.state) world) (λ k u at found uncut. t.sent k u at found uncut)
    (turned_client uses owner name turn world t h))

pub turned_by_using : (name : List ℕ) (act : ClientState → Turn) (o : Option ClientState) (world : World) (h : HasUses world) → client_at name world ≡ o
    → ((state : ClientState) → client_at name world ≡ Some state → IsClientUsing h.uses h.owner world (name, state) → Turns h.uses h.owner world name (act state)) → HasUses (turned_by name act o world)
turned_by_using name act None world h at step = h
turned_by_using name act (Some state) world h at step =
    let t = step state at (in_all (IsClientUsing h.uses h.owner world) name world.clients state h.fits.each at) in
    record { uses = t.later; owner = h.owner; fits = turned_using h.uses h.owner name (act state) world t h.fits }

pub linked_at : (world : World) (name : List ℕ) (state : ClientState) → IsTrueWorld world → client_at name world ≡ Some state → IsLinked world name state
linked_at world name state true_ at = (found_in world name world.clients state true_.clients at).linked

pub told_using : (name : List ℕ) (command : Command) (world : World) → IsNoConnect command → IsTrueWorld world → HasUses world → HasUses (takes_turn name (acted command world.now) world)
told_using name command world not true_ h =
    turned_by_using name (acted command world.now) (client_at name world) world h refl
    (λ state at is. turns_made h.uses h.owner world name state (acted command world.now state) is (linked_at world name state true_ at) (calm_steps state _ (steps_acted command world.now state not)) (makes_acted h.uses name h.fits.single h.fits.givers command world.now state is.numbered) (subst (AllByRecursion (λ (a : Answer). IsBy h.uses (pair_of a).0 (pair_of a).1 name)) (sym (steps_acted command world.now state not).answers) is.listed))

pub looks_using : (name : List ℕ) (world : World) → IsTrueWorld world → HasUses world → HasUses (takes_turn name (ticked world.now) world)
looks_using name world true_ h =
    turned_by_using name (ticked world.now) (client_at name world) world h refl
    (λ state at is. turns_made h.uses h.owner world name state (ticked world.now state) is (linked_at world name state true_ at) (calm_steps state _ (steps_ticked world.now state)) (makes_ticked h.uses name h.fits.single h.fits.givers world.now state is.numbered) (subst (AllByRecursion (λ (a : Answer). IsBy h.uses (pair_of a).0 (pair_of a).1 name)) (sym (steps_ticked world.now state).answers) is.listed))
