-- Uses of serials are kept by each action of the service.
use Rattle.std.proofs.Common.{◌≡◌, ◌⊎◌, inl, inr, ℕ, suc, ◌+◌, ◌-◌, ◌^◌, ◌≤◌, ◌<◌, Bool, true, false, List, [], ◌∷◌, refl, sym, ◌∙◌, ap, subst, arith}
use Rattle.std.specs.Prelude.{Option, Some, None, slice_get, if◌then◌else◌, bytes_eq}
use Rattle.std.specs.List.{AllByRecursion}
use Rattle.rl_ids.specs.Forms.{conn_text}
use Rattle.rl_ids.proofs.Forms.{conn_texts_differ}
use Rattle.rl_events.specs.declared.book.BookEvent.{BookEvent}
use Rattle.rl_events.specs.declared.book.BookEvent.TheVariants as events
use Rattle.rl_events.specs.declared.calls.End.{End}
use Rattle.rl_events.specs.declared.calls.End.TheVariants as ends
use Rattle.rl_events.specs.declared.calls.Call.TheVariants as calls
use Rattle.rl_events.specs.declared.calls.Reply.{Reply}
use Rattle.rl_connbook.specs.Records.{Answered}
use Rattle.rl_connbook.specs.Book.{last_number}
use Rattle.rl_connbook.proofs.Each.{all_weaker}
use Rattle.rl_clientmodel.specs.States.{ClientState}
use Rattle.rl_clientmodel.specs.Keys.{before_mark}
use Rattle.rl_actormodel.specs.declared.parts.Holder.{Holder}
use Rattle.rl_actormodel.specs.declared.parts.Wish.{Wish}
use Rattle.rl_actormodel.specs.declared.parts.Wish.TheVariants as wishes
use Rattle.rl_actormodel.specs.State as actor
use Rattle.rl_actormodel.specs.Replies.{Resuming, Back, NotKnown, Unresumed, resuming, Opening, Opens, Limited, Unopened, opening}
use Rattle.rl_actormodel.specs.Connects.{resumed_by, opened_by}
use Rattle.rl_actormodel.specs.Reads as reads
use Rattle.rl_actormodel.specs.Reads.{absorbed, answered_at, replied, read_by}
use Rattle.rl_worldmodel.specs.World.{World, Transport, the_range, last_of, owned}
use Rattle.rl_worldmodel.specs.Calls.{reply_to, called}
use Rattle.rl_worldmodel.specs.Actors.{with_call, absorbs, performs}
use Rattle.rl_worldmodel.specs.Services.{feed_conn}
use Rattle.rl_worldtold.specs.Truth.{names_of}
use Rattle.rl_worldtold.specs.Tell.{asks, MayTell, IsTelling}
use Rattle.rl_worldtold.proofs.Shape.{same_bytes, works_owner, works_cut}
use Rattle.rl_worldtold.proofs.Asks.{IsSteady, itself, ended_steady}
use Rattle.rl_worldputs.specs.Uses.{Use, IsActorUsing, IsLinkUsing, IsGivenId, IsNew, MayServe, OnLatest, IsUsing}
use Rattle.rl_worldputs.proofs.Turned.{changed_latest}
use Rattle.rl_worldputs.proofs.Recovery.{owned_by, owned_self, owned_given}
use Rattle.rl_worldputs.proofs.Hands.{replied_hand, absorbed_hand}
use Rattle.rl_worldputs.proofs.Naming.{leaves_book}
use Rattle.rl_worldputs.proofs.Serving.{given_grows, serve_using, call_same, link_works, works_holder}

-- A CONNECTION THAT IS BROUGHT BACK

-- the connection that an actor has after a Resume: the one that it had, or one with the key's id
resumed_holder : (o : Option End) (event : BookEvent) (reply : Reply) (key : List ℕ) (now : ℕ) (s : actor.State) (g : Holder) → s.wish ≡ wishes.Resume key → ((h : Holder) → resuming reply ≡ Back h → before_mark key ≡ conn_text h.conn)
    → (answered_at o (calls.Book event) reply now s).holder ≡ Some g → (s.holder ≡ Some g) ⊎ (before_mark key ≡ conn_text g.conn)
resumed_holder (Some why) event reply key now s g is fits has = inl has
resumed_holder None event reply key now s g is fits has =
    by_reply (resuming reply) fits (subst (λ (w : Wish). (replied w reply now s).holder ≡ Some g) is has)
  where
    by_reply : (o : Resuming) → ((h : Holder) → o ≡ Back h → before_mark key ≡ conn_text h.conn) → (resumed_by key o now s).holder ≡ Some g → (s.holder ≡ Some g) ⊎ (before_mark key ≡ conn_text g.conn)
    by_reply (Back h) fits has = let same : h ≡ g = cc in inr (fits h refl ∙ ap (λ (x : Holder). conn_text x.conn) same)
    by_reply NotKnown fits has = inl has
    by_reply Unresumed fits has = inl has

pub serve_resume : (uses : List Use) (owner : List ℕ → Option (List ℕ)) (world : World) (k : ℕ) (t : Transport) (key : List ℕ) → slice_get world.transports k ≡ Some t → t.actor.wish ≡ wishes.Resume key → t.actor.holder ≡ None
    → ((h : Holder) → resuming (reply_to (calls.Book (events.Resume key world.now)) world) ≡ Back h → before_mark key ≡ conn_text h.conn) → IsTelling world → IsUsing uses owner world → IsUsing uses owner (performs k (calls.Book (events.Resume key world.now)) world)
serve_resume uses owner world k t key found is none fits telling h =
    let l = leaves_book uses owner world h (events.Resume key world.now) in
    serve_using uses owner owner world (called (calls.Book (events.Resume key world.now)) world) k (absorbs (calls.Book (events.Resume key world.now)) world) l
    (λ u found_u link. subst (λ (v : Transport). IsLinkUsing uses (names_of world.channels) v → IsLinkUsing uses (names_of world.channels) (absorbs (calls.Book (events.Resume key world.now)) world v)) (call_same world k t u found found_u)
    (λ g. link_works uses (names_of world.channels) (absorbed (calls.Book (events.Resume key world.now)) (reply_to (calls.Book (events.Resume key world.now)) world) world.now) (with_call (calls.Book (events.Resume key world.now)) world t) (inl none)
    (absorbed_hand uses (names_of world.channels) t.actor.ended (calls.Book (events.Resume key world.now)) (reply_to (calls.Book (events.Resume key world.now)) world) world.now t.actor
    (subst (λ (w : Wish). IsActorUsing uses (names_of world.channels) (replied w (reply_to (calls.Book (events.Resume key world.now)) world) world.now t.actor)) (sym is)
    (replied_hand uses (names_of world.channels) (wishes.Resume key) (reply_to (calls.Book (events.Resume key world.now)) world) world.now t.actor tt tt g.of_actor)) g.of_actor)
    (record { of_actor = g.of_actor; sent = g.sent })) link)
    (λ id name has. given_grows world.book (called (calls.Book (events.Resume key world.now)) world).book id l.given (h.owned id name has)) h.nobody
    (λ c told_it is_client. record {
      own = is_client.own;
      numbered = is_client.numbered;
      listed = is_client.listed;
      ready = λ on. changed_latest world (performs k (calls.Book (events.Resume key world.now)) world) k (absorbs (calls.Book (events.Resume key world.now)) world) refl
          (λ u. works_owner (absorbed (calls.Book (events.Resume key world.now)) (reply_to (calls.Book (events.Resume key world.now)) world) world.now) (with_call (calls.Book (events.Resume key world.now)) world u))
          (λ u uncut. sym (works_cut (absorbed (calls.Book (events.Resume key world.now)) (reply_to (calls.Book (events.Resume key world.now)) world) world.now) (with_call (calls.Book (events.Resume key world.now)) world u)) ∙ uncut)
          (λ u. MayServe uses owner c.0 c.1.id u.actor.holder × MayTell c.1 u.actor) (λ u. MayServe uses owner c.0 c.1.id u.actor.holder) (λ u p. p.0)
          (λ u found_u p g same. elim (resumed_holder u.actor.ended (events.Resume key world.now) (reply_to (calls.Book (events.Resume key world.now)) world) key world.now u.actor g (subst (λ (v : Transport). v.actor.wish ≡ wishes.Resume key) (call_same world k t u found found_u) is) fits
          (sym (works_holder (absorbed (calls.Book (events.Resume key world.now)) (reply_to (calls.Book (events.Resume key world.now)) world) world.now) (with_call (calls.Book (events.Resume key world.now)) world u)) ∙ same)) [
            | inl old ↦ p.0 g old
            | inr mine ↦ inl (told_it.own.keyed key (p.1.asked key (ap asks (subst (λ (v : Transport). v.actor.wish ≡ wishes.Resume key) (call_same world k t u found found_u) is))) ∙ ap (λ (x : List ℕ). Some x) mine)
          ])
          c.0 (λ j u at found_u uncut. (is_client.ready on j u at found_u uncut, told_it.ready on j u at found_u uncut));
    })
    telling h

-- A CONNECTION THAT IS OPENED

-- the owner of a client's latest transport is the client
owned_all : (name : List ℕ) (n : ℕ) (ts : List Transport) → AllByRecursion (λ j. (n ≤ j) × ((t : Transport) → slice_get ts (j - n) ≡ Some t → t.owner ≡ name)) (owned name n ts)
owned_all name n [] = tt
owned_all name n (u ∷ ts) = by_name (bytes_eq name u.owner) refl (all_weaker _ _ (λ j is. (omega (arith, is.0), λ t found. is.1 t (subst (λ m. slice_get (u ∷ ts) m ≡ Some t) (after j is.0) found))) (owned name (suc n) ts) (owned_all name (suc n) ts))
  where
    after : (j : ℕ) → suc n ≤ j → j - n ≡ suc (j - suc n)
    after j more = omega (arith, more)

    by_name : (b : Bool) → bytes_eq name u.owner ≡ b → AllByRecursion (λ j. (n ≤ j) × ((t : Transport) → slice_get (u ∷ ts) (j - n) ≡ Some t → t.owner ≡ name)) (owned name (suc n) ts)
        → AllByRecursion (λ j. (n ≤ j) × ((t : Transport) → slice_get (u ∷ ts) (j - n) ≡ Some t → t.owner ≡ name)) (if b then n ∷ owned name (suc n) ts else owned name (suc n) ts)
    by_name true is rest = ((omega arith, λ t found. let none : n - n ≡ 0 = omega arith in let here : slice_get (u ∷ ts) 0 ≡ Some t = subst (λ m. slice_get (u ∷ ts) m ≡ Some t) none found in let same : u ≡ t = cc in ap (λ (v : Transport). v.owner) (sym same) ∙ sym (same_bytes name u.owner is)), rest)
    by_name false is rest = rest

last_is : (P : ℕ → Type 0) (xs : List ℕ) (j : ℕ) → last_of xs ≡ Some j → AllByRecursion P xs → P j
last_is P [] j is all = absurd (cc)
last_is P (k ∷ []) j is all = let same : k ≡ j = cc in subst P same all.0
last_is P (k ∷ next ∷ more) j is all = last_is P (next ∷ more) j is all.1

latest_owner : (world : World) (name : List ℕ) → OnLatest world name (λ t. t.owner ≡ name)
latest_owner world name k t at found uncut =
    let same : k ≡ k - 0 = omega arith in
    (last_is (λ j. (0 ≤ j) × ((u : Transport) → slice_get world.transports (j - 0) ≡ Some u → u.owner ≡ name)) (owned name 0 world.transports) k at (owned_all name 0 world.transports)).1 t (subst (λ m. slice_get world.transports m ≡ Some t) same found)

-- the connection that an actor has after an Open: the one that it had, or the new one
opened_holder : (o : Option End) (event : BookEvent) (reply : Reply) (now : ℕ) (s : actor.State) (h g : Holder) (key : List ℕ) → s.wish ≡ wishes.Open → opening reply ≡ Opens h key
    → (answered_at o (calls.Book event) reply now s).holder ≡ Some g → (s.holder ≡ Some g) ⊎ (h ≡ g)
opened_holder (Some why) event reply now s h g key is opens has = inl has
opened_holder None event reply now s h g key is opens has =
    let it : (opened_by (Opens h key) now s).holder ≡ Some g = subst (λ (o : Opening). (opened_by o now s).holder ≡ Some g) opens (subst (λ (w : Wish). (replied w reply now s).holder ≡ Some g) is has) in
    inr (let same : h ≡ g = cc in same)

owned_apart : (id name x n : List ℕ) (owner : List ℕ → Option (List ℕ)) (b : Bool) → bytes_eq x id ≡ b → (x ≡ id → ⊥) → owner x ≡ Some n → (if b then Some name else owner x) ≡ Some n
owned_apart id name x n owner true is apart has = absurd (apart (same_bytes x id is))
owned_apart id name x n owner false is apart has = has

-- a connection that is opened had no id yet
fresh : (book : List Answered) (c : ℕ) (id : List ℕ) → c ≡ last_number the_range book + 1 → c < 2 ^ 32 → IsGivenId book id → id ≡ conn_text c → ⊥
fresh book c id next small g same =
    let one : g.0 ≡ c = conn_texts_differ g.0 c (omega (arith, g.2, next, small)) small (g.1 ∙ same) in omega (arith, one, g.2, next)

-- an Open that gave a connection: it is the client's whose transport it is
pub serve_opens : (uses : List Use) (owner : List ℕ → Option (List ℕ)) (world : World) (k : ℕ) (t : Transport) (event : BookEvent) (given_ : Holder) (key : List ℕ) → slice_get world.transports k ≡ Some t → t.actor.wish ≡ wishes.Open → t.actor.holder ≡ None
    → reads.answered (calls.Book event) (reply_to (calls.Book event) world) world.now t.actor ≡ replied t.actor.wish (reply_to (calls.Book event) world) world.now t.actor
    → opening (reply_to (calls.Book event) world) ≡ Opens given_ key → given_.conn ≡ last_number the_range world.book + 1 → given_.conn < 2 ^ 32 → last_number the_range (called (calls.Book event) world).book ≡ last_number the_range world.book + 1
    → IsTelling world → IsUsing uses owner world → IsUsing uses (owned_by (conn_text given_.conn) t.owner owner) (performs k (calls.Book event) world)
serve_opens uses owner world k t event given_ key found is none same_answer opens next small more telling h =
    let l = leaves_book uses owner world h event in
    serve_using uses owner (owned_by (conn_text given_.conn) t.owner owner) world (called (calls.Book event) world) k (absorbs (calls.Book event) world) l
    (λ u found_u link. subst (λ (v : Transport). IsLinkUsing uses (names_of world.channels) v → IsLinkUsing uses (names_of world.channels) (absorbs (calls.Book event) world v)) (call_same world k t u found found_u)
    (λ g. link_works uses (names_of world.channels) (absorbed (calls.Book event) (reply_to (calls.Book event) world) world.now) (with_call (calls.Book event) world t) (inl none)
    (absorbed_hand uses (names_of world.channels) t.actor.ended (calls.Book event) (reply_to (calls.Book event) world) world.now t.actor
    (subst (IsActorUsing uses (names_of world.channels)) (sym (same_answer ∙ ap (λ (w : Wish). replied w (reply_to (calls.Book event) world) world.now t.actor) is))
    (replied_hand uses (names_of world.channels) wishes.Open (reply_to (calls.Book event) world) world.now t.actor tt tt g.of_actor)) g.of_actor)
    (record { of_actor = g.of_actor; sent = g.sent })) link)
    (λ id name has. owned_given (IsGivenId (called (calls.Book event) world).book) (conn_text given_.conn) t.owner id name owner (bytes_eq id (conn_text given_.conn)) refl
    (given_.conn, refl, omega (arith, next, more)) (λ m old. given_grows world.book (called (calls.Book event) world).book id l.given (h.owned id m old)) has)
    (λ name has. owned_given (λ x. x ≡ conn_text feed_conn → ⊥) (conn_text given_.conn) t.owner (conn_text feed_conn) name owner (bytes_eq (conn_text feed_conn) (conn_text given_.conn)) refl
    (λ same. fresh world.book given_.conn (conn_text feed_conn) next small (feed_conn, refl, omega arith) (sym same)) (λ m is same. h.nobody m is) has refl)
    (λ c told_it is_client. record {
      own = λ id held. owned_apart (conn_text given_.conn) t.owner id c.0 owner (bytes_eq id (conn_text given_.conn)) refl (λ same. fresh world.book given_.conn id next small (h.owned id c.0 (is_client.own id held)) same) (is_client.own id held);
      numbered = is_client.numbered;
      listed = is_client.listed;
      ready = λ on. changed_latest world (performs k (calls.Book event) world) k (absorbs (calls.Book event) world) refl
          (λ u. works_owner (absorbed (calls.Book event) (reply_to (calls.Book event) world) world.now) (with_call (calls.Book event) world u))
          (λ u uncut. sym (works_cut (absorbed (calls.Book event) (reply_to (calls.Book event) world) world.now) (with_call (calls.Book event) world u)) ∙ uncut)
          (λ u. MayServe uses owner c.0 c.1.id u.actor.holder × (u.owner ≡ c.0)) (λ u. MayServe uses (owned_by (conn_text given_.conn) t.owner owner) c.0 c.1.id u.actor.holder)
          (λ u p. may_still c u.actor.holder p.0)
          (λ u found_u p g same. elim (opened_holder u.actor.ended event (reply_to (calls.Book event) world) world.now u.actor given_ g key (subst (λ (v : Transport). v.actor.wish ≡ wishes.Open) (call_same world k t u found found_u) is) opens
          (sym (works_holder (absorbed (calls.Book event) (reply_to (calls.Book event) world) world.now) (with_call (calls.Book event) world u)) ∙ same)) [
            | inl old ↦ may_still c u.actor.holder p.0 g old
            | inr one ↦ inr (subst (λ (x : Holder). IsNew uses (owned_by (conn_text given_.conn) t.owner owner) c.0 c.1.id (conn_text x.conn)) one (record {
              mine = owned_self (conn_text given_.conn) t.owner owner ∙ ap (λ (x : List ℕ). Some x) (ap (λ (v : Transport). v.owner) (call_same world k t u found found_u) ∙ p.1);
              other = λ held. fresh world.book given_.conn (conn_text given_.conn) next small (h.owned (conn_text given_.conn) c.0 (is_client.own (conn_text given_.conn) held)) refl;
              unused = λ serial channel used. fresh world.book given_.conn (conn_text given_.conn) next small (h.given (conn_text given_.conn) serial channel used) refl;
            }))
          ])
          c.0 (λ j u at found_u uncut. (is_client.ready on j u at found_u uncut, latest_owner world c.0 j u at found_u uncut));
    })
    telling h
  where
    may_still : (c : List ℕ × ClientState) (holder : Option Holder) → MayServe uses owner c.0 c.1.id holder → MayServe uses (owned_by (conn_text given_.conn) t.owner owner) c.0 c.1.id holder
    may_still c holder may g same = elim (may g same) [
      | inl mine ↦ inl mine
      | inr n ↦ inr (record {
        mine = owned_apart (conn_text given_.conn) t.owner (conn_text g.conn) c.0 owner (bytes_eq (conn_text g.conn) (conn_text given_.conn)) refl (λ one. fresh world.book given_.conn (conn_text g.conn) next small (h.owned (conn_text g.conn) c.0 n.mine) one) n.mine;
        other = n.other;
        unused = n.unused;
      })
    ]

-- one that gave none
pub opened_steady : (o : Opening) (now : ℕ) (s : actor.State) → ((h : Holder) (key : List ℕ) → o ≡ Opens h key → ⊥) → IsSteady s (opened_by o now s)
opened_steady (Opens h key) now s not = absurd (not h key refl)
opened_steady (Limited count given) now s not = ended_steady (ends.ConnectionLimit count given) s
opened_steady Unopened now s not = itself s
