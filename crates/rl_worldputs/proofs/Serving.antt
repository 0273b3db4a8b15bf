-- Uses of serials are kept by what the service does.
use Rattle.std.proofs.Common.{◌≡◌, ◌⊎◌, inl, inr, ℕ, ◌≤◌, ◌<◌, Bool, true, false, List, refl, sym, ◌∙◌, ap, subst, arith}
use Rattle.std.specs.Prelude.{Option, Some, None, slice_get}
use Rattle.std.specs.List.{AllByRecursion}
use Rattle.rl_ids.specs.Forms.{conn_text}
use Rattle.rl_types.specs.declared.frames.Frame.{Frame}
use Rattle.rl_events.specs.declared.calls.Call.{Call}
use Rattle.rl_connbook.specs.Records.{Answered}
use Rattle.rl_connbook.specs.Book.{last_number}
use Rattle.rl_connbook.proofs.Each.{all_weaker}
use Rattle.rl_clientmodel.specs.States.{ClientState}
use Rattle.rl_actormodel.specs.declared.parts.Holder.{Holder}
use Rattle.rl_actormodel.specs.declared.parts.Wish.{Wish}
use Rattle.rl_actormodel.specs.declared.parts.Wish.TheVariants as wishes
use Rattle.rl_actormodel.specs.State as actor
use Rattle.rl_actormodel.specs.Reads as reads
use Rattle.rl_actormodel.specs.Reads.{absorbed, answered_at, replied, read_by}
use Rattle.rl_worldmodel.specs.World.{World, Transport, Way, the_range, on_transport, changed_at, owned}
use Rattle.rl_worldmodel.specs.Calls.{reply_to, called}
use Rattle.rl_worldmodel.specs.Actors.{put_out_unless, works, with_call, performs}
use Rattle.rl_worldmodel.specs.Services.{feed_conn}
use Rattle.rl_worldtold.specs.Truth.{names_of}
use Rattle.rl_worldtold.specs.Tell.{IsTellable, IsTelling}
use Rattle.rl_worldtold.proofs.Shape.{all_at, all_both, changed_one, changed_none, works_actor, works_owner, works_cut}
use Rattle.rl_worldtold.proofs.Asks.{IsSteady, IsLater, replied_steady, absorbed_steady}
use Rattle.rl_worldputs.specs.Uses.{Use, IsUseBy, IsSent, HasNumber, IsWishUsing, IsActorUsing, IsLinkUsing, IsGivenId, MayServe, IsClientUsing, IsUsing}
use Rattle.rl_worldputs.proofs.Using.{frame_weaker}
use Rattle.rl_worldputs.proofs.Turned.{changed_latest}
use Rattle.rl_worldputs.proofs.Hands.{FitsHand, replied_hand, absorbed_hand}
use Rattle.rl_worldputs.proofs.Naming.{Leaves}

-- A TRANSPORT WHOSE ACTOR WORKS

out_service : (b : Bool) (frames : List Frame) (t : Transport) → (put_out_unless b frames t).to_service ≡ t.to_service
out_service true frames t = refl
out_service false frames t = refl

pub works_service : (act : actor.State → actor.State) (t : Transport) → (works act t).to_service ≡ t.to_service
works_service act t = out_service t.cut (act t.actor).waiting (record t { actor = act t.actor })

-- a connection stays, or the first one comes
abbrev pub IsSameOrFirst : Option Holder → Option Holder → Type 0
IsSameOrFirst before after = (before ≡ None) ⊎ (after ≡ before)

sent_first : (uses : List Use) (before after : Option Holder) → IsSameOrFirst before after → (frame : Frame) → IsSent uses before frame → IsSent uses after frame
sent_first uses before after (inl none) frame is =
    frame_weaker (IsUseBy uses None) (IsUseBy uses after) (λ serial channel wrong. absurd wrong) frame (subst (λ (o : Option Holder). IsSent uses o frame) none is)
sent_first uses before after (inr same) frame is = subst (λ (o : Option Holder). IsSent uses o frame) (sym same) is

pub link_works : (uses : List Use) (ns : List (List ℕ)) (act : actor.State → actor.State) (t : Transport) → IsSameOrFirst t.actor.holder (act t.actor).holder → IsActorUsing uses ns (act t.actor) → IsLinkUsing uses ns t → IsLinkUsing uses ns (works act t)
link_works uses ns act t holds good h = record {
  of_actor = subst (IsActorUsing uses ns) (sym (works_actor act t)) (record { wishing = good.wishing; known = good.known });
  sent = subst (λ (way : Way). AllByRecursion (IsSent uses (works act t).actor.holder) way.put) (sym (works_service act t))
      (subst (λ (o : Option Holder). AllByRecursion (IsSent uses o) t.to_service.put) (sym (ap (λ (s : actor.State). s.holder) (works_actor act t)))
      (all_weaker _ _ (sent_first uses t.actor.holder (act t.actor).holder holds) t.to_service.put h.sent));
}

pub works_holder : (act : actor.State → actor.State) (t : Transport) → (works act t).actor.holder ≡ (act t.actor).holder
works_holder act t = ap (λ (s : actor.State). s.holder) (works_actor act t)

-- more names are known

wish_named : (uses : List Use) (before after : List (List ℕ)) → ((name : List ℕ) (n : ℕ) → HasNumber before name n → HasNumber after name n) → (wish : Wish) → IsWishUsing uses before wish → IsWishUsing uses after wish
wish_named uses before after more (wishes.Begin p h) is = is
wish_named uses before after more (wishes.AskToPut p h) is = is
wish_named uses before after more (wishes.Put p h number) is = (is.0, more p.channel number is.1)
wish_named uses before after more wish is = tt

pub link_named : (uses : List Use) (before after : List (List ℕ)) → ((name : List ℕ) (n : ℕ) → HasNumber before name n → HasNumber after name n) → (t : Transport) → IsLinkUsing uses before t → IsLinkUsing uses after t
link_named uses before after more t is = record {
  of_actor = record { wishing = wish_named uses before after more t.actor.wish is.of_actor.wishing; known = all_weaker _ _ (λ e has. more e.0 e.1 has) t.actor.numbers is.of_actor.known };
  sent = is.sent;
}

-- WORLDS

pub given_grows : (before later : List Answered) (id : List ℕ) → last_number the_range before ≤ last_number the_range later → IsGivenId before id → IsGivenId later id
given_grows before later id more g = (g.0, g.1, omega (arith, g.2, more))

-- one transport changes after what a call leaves
pub serve_using : (uses : List Use) (owner owner_after : List ℕ → Option (List ℕ)) (world mid : World) (k : ℕ) (f : Transport → Transport) → Leaves uses world mid
    → ((t : Transport) → slice_get world.transports k ≡ Some t → IsLinkUsing uses (names_of mid.channels) t → IsLinkUsing uses (names_of mid.channels) (f t))
    → ((id name : List ℕ) → owner_after id ≡ Some name → IsGivenId mid.book id) → ((name : List ℕ) → owner_after (conn_text feed_conn) ≡ Some name → ⊥)
    → ((c : List ℕ × ClientState) → IsTellable world c → IsClientUsing uses owner world c → IsClientUsing uses owner_after (on_transport k f mid) c)
    → IsTelling world → IsUsing uses owner world → IsUsing uses owner_after (on_transport k f mid)
serve_using uses owner owner_after world mid k f l step owned nobody each telling h = record {
  single = h.single;
  givers = h.givers;
  given = λ id serial channel used. given_grows world.book mid.book id l.given (h.given id serial channel used);
  owned = owned;
  fed = λ serial channel used. let small : serial < world.fed = h.fed serial channel used in omega (arith, small, l.fed);
  nobody = nobody;
  apart = l.apart;
  puts = l.puts;
  links = subst (λ (ts : List Transport). AllByRecursion (IsLinkUsing uses (names_of mid.channels)) (changed_at k f ts)) (sym l.links) (links_by (slice_get world.transports k) refl);
  each = subst (AllByRecursion (IsClientUsing uses owner_after (on_transport k f mid))) (sym l.clients)
      (all_weaker _ _ (λ c both. each c both.0 both.1) world.clients (all_both (IsTellable world) (IsClientUsing uses owner world) world.clients telling.clients h.each));
}
  where
    before : AllByRecursion (IsLinkUsing uses (names_of mid.channels)) world.transports
    before = all_weaker _ _ (link_named uses (names_of world.channels) (names_of mid.channels) l.known) world.transports h.links

    links_by : (o : Option Transport) → slice_get world.transports k ≡ o → AllByRecursion (IsLinkUsing uses (names_of mid.channels)) (changed_at k f world.transports)
    links_by None found = subst (AllByRecursion (IsLinkUsing uses (names_of mid.channels))) (sym (changed_none k f world.transports found)) before
    links_by (Some t) found =
        changed_one (IsLinkUsing uses (names_of mid.channels)) k f t (step t found (all_at (IsLinkUsing uses (names_of mid.channels)) k t world.transports found before)) world.transports found before

pub steady_each : (uses : List Use) (owner : List ℕ → Option (List ℕ)) (world mid : World) (k : ℕ) (f : Transport → Transport) → Leaves uses world mid → ((t : Transport) → (f t).owner ≡ t.owner) → ((t : Transport) → (f t).cut ≡ false → t.cut ≡ false)
    → ((t : Transport) → slice_get world.transports k ≡ Some t → (f t).actor.holder ≡ t.actor.holder) → (c : List ℕ × ClientState) → IsClientUsing uses owner world c → IsClientUsing uses owner (on_transport k f mid) c
steady_each uses owner world mid k f l owners cuts same c h = record {
  own = h.own;
  numbered = h.numbered;
  listed = h.listed;
  ready = λ on. changed_latest world (on_transport k f mid) k f (ap (changed_at k f) l.links) owners cuts _ _ (λ t may. may) (λ t found may. subst (MayServe uses owner c.0 c.1.id) (sym (same t found)) may) c.0 (h.ready on);
}

-- where the actor keeps its connection
pub serve_steady : (uses : List Use) (owner : List ℕ → Option (List ℕ)) (world mid : World) (k : ℕ) (act : actor.State → actor.State) (on : Transport → Transport) → Leaves uses world mid
    → ((t : Transport) → (on t).actor ≡ t.actor) → ((t : Transport) → (on t).owner ≡ t.owner) → ((t : Transport) → (on t).cut ≡ t.cut) → ((t : Transport) → (on t).to_service.put ≡ t.to_service.put)
    → ((t : Transport) → slice_get world.transports k ≡ Some t → (act t.actor).holder ≡ t.actor.holder)
    → ((t : Transport) → slice_get world.transports k ≡ Some t → IsLinkUsing uses (names_of mid.channels) t → IsActorUsing uses (names_of mid.channels) (act t.actor))
    → IsTelling world → IsUsing uses owner world → IsUsing uses owner (on_transport k (λ t. works act (on t)) mid)
serve_steady uses owner world mid k act on l actors owners cuts puts same step telling h =
    serve_using uses owner owner world mid k (λ t. works act (on t)) l
    (λ t found is. link_works uses (names_of mid.channels) act (on t)
    (inr (subst (λ (s : actor.State). (act s).holder ≡ s.holder) (sym (actors t)) (same t found)))
    (subst (λ (s : actor.State). IsActorUsing uses (names_of mid.channels) (act s)) (sym (actors t)) (step t found is))
    (record {
      of_actor = subst (IsActorUsing uses (names_of mid.channels)) (sym (actors t)) is.of_actor;
      sent = subst (λ (s : actor.State). AllByRecursion (IsSent uses s.holder) (on t).to_service.put) (sym (actors t)) (subst (AllByRecursion (IsSent uses t.actor.holder)) (sym (puts t)) is.sent);
    }))
    (λ id name has. given_grows world.book mid.book id l.given (h.owned id name has)) h.nobody
    (λ c told_it is. steady_each uses owner world mid k (λ t. works act (on t)) l (λ t. works_owner act (on t) ∙ owners t) (λ t uncut. sym (works_cut act (on t) ∙ cuts t) ∙ uncut)
    (λ t found. works_holder act (on t) ∙ subst (λ (s : actor.State). (act s).holder ≡ t.actor.holder) (sym (actors t)) (same t found)) c is)
    telling h

pub call_same : (world : World) (k : ℕ) (t u : Transport) → slice_get world.transports k ≡ Some t → slice_get world.transports k ≡ Some u → t ≡ u
call_same world k t u a b = let two : Some t ≡ Some u = sym a ∙ b in cc

-- a call that leaves the actor its connection
pub serve_call : (uses : List Use) (owner : List ℕ → Option (List ℕ)) (world : World) (k : ℕ) (call : Call) → Leaves uses world (called call world)
    → ((t : Transport) → slice_get world.transports k ≡ Some t → (absorbed call (reply_to call world) world.now t.actor).holder ≡ t.actor.holder)
    → ((t : Transport) → slice_get world.transports k ≡ Some t → IsActorUsing uses (names_of (called call world).channels) t.actor → IsActorUsing uses (names_of (called call world).channels) (absorbed call (reply_to call world) world.now t.actor))
    → IsTelling world → IsUsing uses owner world → IsUsing uses owner (performs k call world)
serve_call uses owner world k call l same step telling h =
    serve_steady uses owner world (called call world) k (absorbed call (reply_to call world) world.now) (with_call call world) l (λ t. refl) (λ t. refl) (λ t. refl) (λ t. refl) same (λ t found is. step t found is.of_actor) telling h

-- the call of a wish for no connection
pub serve_wish : (uses : List Use) (owner : List ℕ → Option (List ℕ)) (world : World) (k : ℕ) (t : Transport) (wish : Wish) (call : Call) → slice_get world.transports k ≡ Some t → t.actor.wish ≡ wish → IsLater wish
    → reads.answered call (reply_to call world) world.now t.actor ≡ replied t.actor.wish (reply_to call world) world.now t.actor → Leaves uses world (called call world) → FitsHand uses (names_of (called call world).channels) wish (reply_to call world)
    → IsTelling world → IsUsing uses owner world → IsUsing uses owner (performs k call world)
serve_wish uses owner world k t wish call found is later same l fits telling h =
    let state : reads.answered call (reply_to call world) world.now t.actor ≡ replied wish (reply_to call world) world.now t.actor = same ∙ ap (λ (w : Wish). replied w (reply_to call world) world.now t.actor) is in
    let steady : IsSteady t.actor (absorbed call (reply_to call world) world.now t.actor) =
    absorbed_steady t.actor.ended call (reply_to call world) world.now t.actor (subst (IsSteady t.actor) (sym state) (replied_steady wish later (reply_to call world) world.now t.actor)) in
    serve_call uses owner world k call l
    (λ u found_u. subst (λ (v : Transport). (absorbed call (reply_to call world) world.now v.actor).holder ≡ v.actor.holder) (call_same world k t u found found_u) steady.holder)
    (λ u found_u good. subst (λ (v : Transport). IsActorUsing uses (names_of (called call world).channels) v.actor → IsActorUsing uses (names_of (called call world).channels) (absorbed call (reply_to call world) world.now v.actor)) (call_same world k t u found found_u)
    (λ g. absorbed_hand uses (names_of (called call world).channels) t.actor.ended call (reply_to call world) world.now t.actor
    (subst (IsActorUsing uses (names_of (called call world).channels)) (sym state)
    (replied_hand uses (names_of (called call world).channels) wish (reply_to call world) world.now t.actor fits (subst (IsWishUsing uses (names_of (called call world).channels)) is g.wishing) g)) g) good)
    telling h
