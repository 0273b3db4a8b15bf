-- Uses of serials are kept by each step of an actor, and by all else that the service does.
use Rattle.std.proofs.Common.{◌≡◌, inl, inr, ℕ, ◌+◌, ◌^◌, ◌≤◌, ◌<◌, Bool, true, false, List, [], ◌∷◌, refl, sym, ◌∙◌, ap, subst, arith}
use Rattle.std.specs.Prelude.{Option, Some, None, slice_get, is_some, max}
use Rattle.std.specs.List.{AllByRecursion}
use Rattle.rl_ids.specs.Forms.{conn_text}
use Rattle.rl_types.specs.declared.frames.Frame.{Frame}
use Rattle.rl_types.specs.declared.messages.Body.{Body}
use Rattle.rl_events.specs.declared.book.BookEvent.{BookEvent}
use Rattle.rl_events.specs.declared.book.BookEvent.TheVariants as events
use Rattle.rl_events.specs.declared.channel.ChannelEvent.{ChannelEvent}
use Rattle.rl_events.specs.declared.channel.ChannelEvent.TheVariants.{Put, Gone, Join, Read, MemberPage, ObjectPage, Tick}
use Rattle.rl_events.specs.declared.calls.End.TheVariants as ends
use Rattle.rl_events.specs.declared.calls.Call.{Call}
use Rattle.rl_events.specs.declared.calls.Call.TheVariants as calls
use Rattle.rl_events.specs.declared.calls.DirEvent.TheVariants.{Ask}
use Rattle.rl_connbook.specs.Records.{Answered}
use Rattle.rl_connbook.specs.Book.{book_of, told, answered, last_number, is_opened}
use Rattle.rl_connbook.proofs.Each.{all_weaker}
use Rattle.rl_connbook.proofs.History.{last_grows, last_more}
use Rattle.rl_actormodel.specs.declared.parts.Publish.{Publish}
use Rattle.rl_actormodel.specs.declared.parts.Holder.{Holder}
use Rattle.rl_actormodel.specs.declared.parts.Wish.{Wish}
use Rattle.rl_actormodel.specs.declared.parts.Wish.TheVariants as wishes
use Rattle.rl_actormodel.specs.State as actor
use Rattle.rl_actormodel.specs.Ends.{over}
use Rattle.rl_actormodel.specs.Takes.{took}
use Rattle.rl_actormodel.specs.Wishes.{wanted, next_call}
use Rattle.rl_actormodel.specs.Replies.{Opening, Opens, Limited, Unopened, opening, reading, channel_reply}
use Rattle.rl_actormodel.specs.Pagings.{page_by}
use Rattle.rl_actormodel.specs.Reads as reads
use Rattle.rl_actormodel.specs.Reads.{absorbed, answered_at, replied, read_by}
use Rattle.rl_actormodel.specs.Rests.{rested, does_rest}
use Rattle.rl_worldmodel.specs.World.{World, Transport, the_range, with_one_got, on_transport, last_of, owned}
use Rattle.rl_worldmodel.specs.Calls.{reply_to, called, with_event, with_name}
use Rattle.rl_worldmodel.specs.Actors.{arrives, works, performs, deed_by, deed_of, done, steps, next_page, next_poll, performs_if, pages, polls}
use Rattle.rl_worldmodel.specs.Services.{feed_conn, expires, reaped, event_at, fed_at}
use Rattle.rl_worldtold.specs.Truth.{names_of, IsHeldBy, IsTrueTransport, IsTrueWorld}
use Rattle.rl_worldtold.specs.Tell.{IsTelling}
use Rattle.rl_worldtold.specs.Given.{events_of, IsDecided}
use Rattle.rl_worldtold.specs.Tell.{IsBelow}
use Rattle.rl_connbook.proofs.Numbers.{bound_all}
use Rattle.rl_worldtold.proofs.Shape.{all_at}
use Rattle.rl_worldtold.proofs.Sessions.{IsOfSession, pages_are, polls_are}
use Rattle.rl_worldtold.proofs.Keys.{resume_key, open_key}
use Rattle.rl_worldtold.proofs.Service.{resumed_is, opened_is}
use Rattle.rl_worldtold.proofs.Asks.{IsSteady, IsLater, absorbed_steady, over_steady, took_steady, rested_steady, read_steady, page_steady, session_steady}
use Rattle.rl_worldputs.specs.Uses.{Use, IsUse, IsSent, IsWishUsing, IsActorUsing, IsLinkUsing, IsClientUsing, IsPutUsing, IsUsing, HasUses}
use Rattle.rl_clientmodel.specs.Commands.{head_on}
use Rattle.rl_types.specs.declared.frames.Frame.TheVariants as frames
use Rattle.rl_worldputs.proofs.Using.{push_one, link_stays, channel_stays}
use Rattle.rl_worldputs.proofs.Clients.{other_client}
use Rattle.rl_worldputs.proofs.Recovery.{owned_by}
use Rattle.rl_worldputs.proofs.Hands.{FitsHand, replied_hand, absorbed_hand, over_hand, took_hand, rested_hand, read_hand, page_hand, session_hand}
use Rattle.rl_worldputs.proofs.Naming.{Leaves, leaves_all, leaves_book, leaves_event, leaves_name, name_at, name_fits}
use Rattle.rl_worldputs.proofs.Serving.{given_grows, serve_steady, call_same, serve_call, serve_wish, link_named}
use Rattle.rl_worldputs.proofs.Performing.{serve_resume, serve_opens, opened_steady}

-- CALLS

pub true_held : (world : World) (k : ℕ) (t : Transport) (wish : Wish) → IsTrueWorld world → slice_get world.transports k ≡ Some t → t.actor.wish ≡ wish → IsHeldBy t.actor.holder wish
true_held world k t wish true_ found is = subst (IsHeldBy t.actor.holder) is (all_at (IsTrueTransport world.channels) k t world.transports found true_.service.each).of_actor.held

at_link : (uses : List Use) (owner : List ℕ → Option (List ℕ)) (world : World) (k : ℕ) (t : Transport) → slice_get world.transports k ≡ Some t → IsUsing uses owner world → IsLinkUsing uses (names_of world.channels) t
at_link uses owner world k t found h = all_at (IsLinkUsing uses (names_of world.channels)) k t world.transports found h.links

-- a Put is of a use on the channel of its number
put_fits : (uses : List Use) (world : World) (p : Publish) (holder : Holder) (number : ℕ) → holder.conn < 2 ^ 32 → IsWishUsing uses (names_of world.channels) (wishes.Put p holder number) → (c : List ℕ × List ChannelEvent) → slice_get world.channels number ≡ Some c
    → IsPutUsing uses c.0 (Put holder.conn p.serial p.body world.now)
put_fits uses world p holder number small is c found =
    let two : Some p.channel ≡ Some c.0 = sym is.1 ∙ name_at number world.channels c found in
    let same : p.channel ≡ c.0 = cc in
    (subst (λ (x : List ℕ). IsUse uses (conn_text holder.conn) p.serial x) same is.0, small)

-- a connection that an actor serves was given
holder_small : (world : World) (k : ℕ) (t : Transport) (holder : Holder) → slice_get world.transports k ≡ Some t → t.actor.holder ≡ Some holder → IsDecided world.book → IsTelling world → holder.conn < 2 ^ 32
holder_small world k t holder found is decided_ telling =
    let below : holder.conn ≤ last_number the_range world.book = all_at (λ (u : Transport). IsBelow world.book u.actor.holder) k t world.transports found telling.holders holder is in
    let bound : last_number the_range world.book ≤ max the_range.after the_range.last = subst (λ (b : List Answered). last_number the_range b ≤ max the_range.after the_range.last) (sym decided_) (bound_all the_range (events_of world.book)) in
    omega (arith, below, bound)

stay_open : (world : World) (k : ℕ) (t : Transport) → slice_get world.transports k ≡ Some t → t.actor.wish ≡ wishes.Open → IsTelling world → HasUses world
    → ((g : Holder) (key : List ℕ) → opening (reply_to (calls.Book (events.Open t.actor.hello.word world.now)) world) ≡ Opens g key → ⊥) → HasUses (performs k (calls.Book (events.Open t.actor.hello.word world.now)) world)
stay_open world k t found is telling h not =
    let state : reads.answered (calls.Book (events.Open t.actor.hello.word world.now)) (reply_to (calls.Book (events.Open t.actor.hello.word world.now)) world) world.now t.actor ≡ replied wishes.Open (reply_to (calls.Book (events.Open t.actor.hello.word world.now)) world) world.now t.actor =
    ap (λ (w : Wish). replied w (reply_to (calls.Book (events.Open t.actor.hello.word world.now)) world) world.now t.actor) is in
    let steady = absorbed_steady t.actor.ended (calls.Book (events.Open t.actor.hello.word world.now)) (reply_to (calls.Book (events.Open t.actor.hello.word world.now)) world) world.now t.actor
    (subst (IsSteady t.actor) (sym state) (opened_steady (opening (reply_to (calls.Book (events.Open t.actor.hello.word world.now)) world)) world.now t.actor not)) in
    record {
      uses = h.uses;
      owner = h.owner;
      fits = serve_call h.uses h.owner world k (calls.Book (events.Open t.actor.hello.word world.now)) (leaves_book h.uses h.owner world h.fits (events.Open t.actor.hello.word world.now))
          (λ u found_u. subst (λ (v : Transport). (absorbed (calls.Book (events.Open t.actor.hello.word world.now)) (reply_to (calls.Book (events.Open t.actor.hello.word world.now)) world) world.now v.actor).holder ≡ v.actor.holder) (call_same world k t u found found_u) steady.holder)
          (λ u found_u good. subst (λ (v : Transport). IsActorUsing h.uses (names_of world.channels) v.actor → IsActorUsing h.uses (names_of world.channels) (absorbed (calls.Book (events.Open t.actor.hello.word world.now)) (reply_to (calls.Book (events.Open t.actor.hello.word world.now)) world) world.now v.actor)) (call_same world k t u found found_u)
          (λ g. absorbed_hand h.uses (names_of world.channels) t.actor.ended (calls.Book (events.Open t.actor.hello.word world.now)) (reply_to (calls.Book (events.Open t.actor.hello.word world.now)) world) world.now t.actor
          (subst (IsActorUsing h.uses (names_of world.channels)) (sym state) (replied_hand h.uses (names_of world.channels) wishes.Open (reply_to (calls.Book (events.Open t.actor.hello.word world.now)) world) world.now t.actor tt tt g)) g) good)
          telling h.fits;
    }

serve_open : (world : World) (k : ℕ) (t : Transport) (o : Opening) → opening (reply_to (calls.Book (events.Open t.actor.hello.word world.now)) world) ≡ o → slice_get world.transports k ≡ Some t → t.actor.wish ≡ wishes.Open → t.actor.holder ≡ None → IsTelling world → HasUses world
    → HasUses (performs k (calls.Book (events.Open t.actor.hello.word world.now)) world)
serve_open world k t (Opens given_ key) opens found is none telling h =
    let reply = opened_is (told (book_of the_range world.book) (events.Open t.actor.hello.word world.now)) given_ key opens in
    let got = open_key t.actor.hello.word world.now given_.conn given_.generation key world.book reply in
    let more = last_more the_range (answered the_range (events.Open t.actor.hello.word world.now) world.book) world.book (ap is_opened reply) in
    record {
      uses = h.uses;
      owner = owned_by (conn_text given_.conn) t.owner h.owner;
      fits = serve_opens h.uses h.owner world k t (events.Open t.actor.hello.word world.now) given_ key found is none refl opens got.0 got.1 more telling h.fits;
    }
serve_open world k t (Limited count given) opens found is none telling h = stay_open world k t found is telling h (λ g key wrong. let two : Limited count given ≡ Opens g key = sym opens ∙ wrong in cc)
serve_open world k t Unopened opens found is none telling h = stay_open world k t found is telling h (λ g key wrong. let two : Unopened ≡ Opens g key = sym opens ∙ wrong in cc)

-- the call of a wish, where it leaves the actor its connection
wish_using : (world : World) (k : ℕ) (t : Transport) (wish : Wish) (call : Call) → slice_get world.transports k ≡ Some t → t.actor.wish ≡ wish → IsLater wish → reads.answered call (reply_to call world) world.now t.actor ≡ replied t.actor.wish (reply_to call world) world.now t.actor → IsTelling world
    → (h : HasUses world) → Leaves h.uses world (called call world) → FitsHand h.uses (names_of (called call world).channels) wish (reply_to call world) → HasUses (performs k call world)
wish_using world k t wish call found is later same telling h l fits = record { uses = h.uses; owner = h.owner; fits = serve_wish h.uses h.owner world k t wish call found is later same l fits telling h.fits }

book_using : (world : World) (k : ℕ) (t : Transport) (wish : Wish) (event : BookEvent) → slice_get world.transports k ≡ Some t → t.actor.wish ≡ wish → IsLater wish → IsTelling world → (h : HasUses world) → FitsHand h.uses (names_of world.channels) wish (reply_to (calls.Book event) world)
    → HasUses (performs k (calls.Book event) world)
book_using world k t wish event found is later telling h fits = wish_using world k t wish (calls.Book event) found is later refl telling h (leaves_book h.uses h.owner world h.fits event) fits

performs_by : (world : World) (k : ℕ) (t : Transport) (wish : Wish) (call : Call) → slice_get world.transports k ≡ Some t → t.actor.wish ≡ wish → wanted wish t.actor.hello world.now ≡ Some call → IsTrueWorld world → IsTelling world → HasUses world → HasUses (performs k call world)
performs_by world k t wishes.Nothing call found is wants true_ telling h = absurd (cc)
performs_by world k t (wishes.Resume key) call found is wants true_ telling h =
    let same : calls.Book (events.Resume key world.now) ≡ call = cc in
    subst (λ (c : Call). HasUses (performs k c world)) same
    (record {
      uses = h.uses;
      owner = h.owner;
      fits = serve_resume h.uses h.owner world k t key found is (true_held world k t (wishes.Resume key) true_ found is)
          (λ g back. (resume_key key world.now g.conn g.generation world.book true_.service.book (resumed_is (told (book_of the_range world.book) (events.Resume key world.now)) g back)).1) telling h.fits;
    })
performs_by world k t wishes.Open call found is wants true_ telling h =
    let same : calls.Book (events.Open t.actor.hello.word world.now) ≡ call = cc in
    subst (λ (c : Call). HasUses (performs k c world)) same
    (serve_open world k t (opening (reply_to (calls.Book (events.Open t.actor.hello.word world.now)) world)) refl found is (true_held world k t wishes.Open true_ found is) telling h)
performs_by world k t (wishes.Lost holder) call found is wants true_ telling h =
    let same : calls.Book (events.Lost holder.conn holder.generation world.now) ≡ call = cc in
    subst (λ (c : Call). HasUses (performs k c world)) same (book_using world k t (wishes.Lost holder) (events.Lost holder.conn holder.generation world.now) found is tt telling h tt)
performs_by world k t (wishes.Close holder) call found is wants true_ telling h =
    let same : calls.Book (events.Close holder.conn holder.generation) ≡ call = cc in
    subst (λ (c : Call). HasUses (performs k c world)) same (book_using world k t (wishes.Close holder) (events.Close holder.conn holder.generation) found is tt telling h tt)
performs_by world k t (wishes.AskToAttach asked) call found is wants true_ telling h =
    let same : calls.Dir (Ask asked.channel) ≡ call = cc in
    subst (λ (c : Call). HasUses (performs k c world)) same
    (wish_using world k t (wishes.AskToAttach asked) (calls.Dir (Ask asked.channel)) found is tt refl telling h (leaves_name h.uses h.owner world h.fits asked.channel) (λ n has. name_fits asked.channel world n has))
performs_by world k t (wishes.Join asked number) call found is wants true_ telling h =
    let same : calls.Chan number (Join asked.serial) ≡ call = cc in
    subst (λ (c : Call). HasUses (performs k c world)) same
    (wish_using world k t (wishes.Join asked number) (calls.Chan number (Join asked.serial)) found is tt refl telling h
    (leaves_event h.uses h.owner world h.fits (with_event number (Join asked.serial) world) number (Join asked.serial) (λ c at. tt) (omega arith) refl refl refl refl) tt)
performs_by world k t (wishes.Begin p holder) call found is wants true_ telling h =
    let same : calls.Book (events.Begin holder.conn holder.generation p.serial) ≡ call = cc in
    subst (λ (c : Call). HasUses (performs k c world)) same (book_using world k t (wishes.Begin p holder) (events.Begin holder.conn holder.generation p.serial) found is tt telling h tt)
performs_by world k t (wishes.AskToPut p holder) call found is wants true_ telling h =
    let same : calls.Dir (Ask p.channel) ≡ call = cc in
    subst (λ (c : Call). HasUses (performs k c world)) same
    (wish_using world k t (wishes.AskToPut p holder) (calls.Dir (Ask p.channel)) found is tt refl telling h (leaves_name h.uses h.owner world h.fits p.channel) (λ n has. name_fits p.channel world n has))
performs_by world k t (wishes.Put p holder number) call found is wants true_ telling h =
    let same : calls.Chan number (Put holder.conn p.serial p.body world.now) ≡ call = cc in
    subst (λ (c : Call). HasUses (performs k c world)) same
    (wish_using world k t (wishes.Put p holder number) (calls.Chan number (Put holder.conn p.serial p.body world.now)) found is tt refl telling h
    (leaves_event h.uses h.owner world h.fits (with_event number (Put holder.conn p.serial p.body world.now) world) number (Put holder.conn p.serial p.body world.now)
    (λ c at. put_fits h.uses world p holder number (holder_small world k t holder found (true_held world k t (wishes.Put p holder number) true_ found is) true_.service.book telling) (subst (IsWishUsing h.uses (names_of world.channels)) is (at_link h.uses h.owner world k t found h.fits).of_actor.wishing) c at) (omega arith) refl refl refl refl) tt)
performs_by world k t (wishes.Finish p holder outcome) call found is wants true_ telling h =
    let same : calls.Book (events.End holder.conn holder.generation p.serial outcome) ≡ call = cc in
    subst (λ (c : Call). HasUses (performs k c world)) same (book_using world k t (wishes.Finish p holder outcome) (events.End holder.conn holder.generation p.serial outcome) found is tt telling h tt)

-- ONE STEP

-- an actor does something by itself
works_using : (world : World) (k : ℕ) (act : actor.State → actor.State) (on : Transport → Transport) → ((t : Transport) → (on t).actor ≡ t.actor) → ((t : Transport) → (on t).owner ≡ t.owner) → ((t : Transport) → (on t).cut ≡ t.cut) → ((t : Transport) → (on t).to_service.put ≡ t.to_service.put)
    → ((s : actor.State) → IsSteady s (act s)) → IsTelling world → (h : HasUses world) → ((t : Transport) → slice_get world.transports k ≡ Some t → IsLinkUsing h.uses (names_of world.channels) t → IsActorUsing h.uses (names_of world.channels) (act t.actor))
    → HasUses (on_transport k (λ t. works act (on t)) world)
works_using world k act on actors owners cuts puts steady telling h step = record {
  uses = h.uses;
  owner = h.owner;
  fits = serve_steady h.uses h.owner world world k act on (leaves_all h.uses h.owner world h.fits world (omega arith) refl refl refl refl) actors owners cuts puts (λ t found. (steady t.actor).holder) step telling h.fits;
}

steps_by : (world : World) (k : ℕ) (t : Transport) (o : Option Call) (ended cut : Bool) (next : Option Frame) (rests : Bool) → slice_get world.transports k ≡ Some t → next_call world.now t.actor ≡ o → slice_get t.to_service.put t.to_service.got ≡ next → IsTrueWorld world → IsTelling world → HasUses world
    → HasUses (done k (deed_by o ended cut next rests) world)
steps_by world k t (Some call) ended cut next rests found is came true_ telling h = performs_by world k t t.actor.wish call found refl is true_ telling h
steps_by world k t None true cut next rests found is came true_ telling h = h
steps_by world k t None false true next rests found is came true_ telling h =
    works_using world k (over ends.LinkEnded) (λ u. u) (λ u. refl) (λ u. refl) (λ u. refl) (λ u. refl) (λ s. over_steady ends.LinkEnded s.ended s) telling h (λ u at link. over_hand h.uses (names_of world.channels) ends.LinkEnded u.actor.ended u.actor link.of_actor)
steps_by world k t None false false (Some frame) rests found is came true_ telling h =
    works_using world k (took (arrives frame) world.now) (λ u. record u { to_service = with_one_got u.to_service }) (λ u. refl) (λ u. refl) (λ u. refl) (λ u. refl) (λ s. took_steady (arrives frame) world.now s) telling h
    (λ u at link. took_hand h.uses (names_of world.channels) frame world.now u.actor (subst (λ (v : Transport). IsSent h.uses v.actor.holder frame) (call_same world k t u found at)
    (all_at (IsSent h.uses t.actor.holder) t.to_service.got frame t.to_service.put came (at_link h.uses h.owner world k t found h.fits).sent)) link.of_actor)
steps_by world k t None false false None true found is came true_ telling h =
    works_using world k (rested world.now) (λ u. u) (λ u. refl) (λ u. refl) (λ u. refl) (λ u. refl) (λ s. rested_steady world.now s) telling h (λ u at link. rested_hand h.uses (names_of world.channels) world.now u.actor link.of_actor)
steps_by world k t None false false None false found is came true_ telling h = h

steps_of : (world : World) (k : ℕ) (o : Option Transport) → slice_get world.transports k ≡ o → IsTrueWorld world → IsTelling world → HasUses world → HasUses (done k (deed_of world.now o) world)
steps_of world k None found true_ telling h = h
steps_of world k (Some t) found true_ telling h =
    steps_by world k t (next_call world.now t.actor) (is_some t.actor.ended) t.cut (slice_get t.to_service.put t.to_service.got) (does_rest world.now t.actor) found refl refl true_ telling h

pub steps_using : (world : World) (k : ℕ) → IsTrueWorld world → IsTelling world → HasUses world → HasUses (steps k world)
steps_using world k true_ telling h = steps_of world k (slice_get world.transports k) refl true_ telling h

-- READS AND PAGES

session_using : (world : World) (k number : ℕ) (event : ChannelEvent) → IsTelling world → (h : HasUses world) → ((c : List ℕ × List ChannelEvent) → slice_get world.channels number ≡ Some c → IsPutUsing h.uses c.0 event)
    → ((t : Transport) → IsSteady t.actor (reads.answered (calls.Chan number event) (reply_to (calls.Chan number event) world) world.now t.actor))
    → ((ns : List (List ℕ)) (t : Transport) → IsActorUsing h.uses ns t.actor → IsActorUsing h.uses ns (reads.answered (calls.Chan number event) (reply_to (calls.Chan number event) world) world.now t.actor)) → HasUses (performs k (calls.Chan number event) world)
session_using world k number event telling h fits steady good = record {
  uses = h.uses;
  owner = h.owner;
  fits = serve_call h.uses h.owner world k (calls.Chan number event) (leaves_event h.uses h.owner world h.fits (with_event number event world) number event fits (omega arith) refl refl refl refl)
      (λ t found. (absorbed_steady t.actor.ended (calls.Chan number event) (reply_to (calls.Chan number event) world) world.now t.actor (steady t)).holder)
      (λ t found is. absorbed_hand h.uses (names_of (with_event number event world).channels) t.actor.ended (calls.Chan number event) (reply_to (calls.Chan number event) world) world.now t.actor (good (names_of (with_event number event world).channels) t is) is)
      telling h.fits;
}

session_by : (world : World) (k : ℕ) (call : Call) → IsOfSession call → IsTelling world → HasUses world → HasUses (performs k call world)
session_by world k (calls.Chan number (Read from most)) of telling h =
    session_using world k number (Read from most) telling h (λ c at. tt)
    (λ t. session_steady (λ name session. read_by name session (reading (reply_to (calls.Chan number (Read from most)) world)) world.now) (actor.numbered number t.actor.sessions) t.actor
    (λ name session. read_steady name session (reading (reply_to (calls.Chan number (Read from most)) world)) world.now t.actor))
    (λ ns t is. session_hand h.uses ns (λ name session. read_by name session (reading (reply_to (calls.Chan number (Read from most)) world)) world.now) (actor.numbered number t.actor.sessions) t.actor
    (λ name session. read_hand h.uses ns name session (reading (reply_to (calls.Chan number (Read from most)) world)) world.now t.actor is) is)
session_by world k (calls.Chan number (MemberPage after most)) of telling h =
    session_using world k number (MemberPage after most) telling h (λ c at. tt)
    (λ t. session_steady (λ name session. page_by name session (channel_reply (reply_to (calls.Chan number (MemberPage after most)) world)) world.now) (actor.numbered number t.actor.sessions) t.actor
    (λ name session. page_steady name session (channel_reply (reply_to (calls.Chan number (MemberPage after most)) world)) world.now t.actor))
    (λ ns t is. session_hand h.uses ns (λ name session. page_by name session (channel_reply (reply_to (calls.Chan number (MemberPage after most)) world)) world.now) (actor.numbered number t.actor.sessions) t.actor
    (λ name session. page_hand h.uses ns name session (channel_reply (reply_to (calls.Chan number (MemberPage after most)) world)) world.now t.actor is) is)
session_by world k (calls.Chan number (ObjectPage after most)) of telling h =
    session_using world k number (ObjectPage after most) telling h (λ c at. tt)
    (λ t. session_steady (λ name session. page_by name session (channel_reply (reply_to (calls.Chan number (ObjectPage after most)) world)) world.now) (actor.numbered number t.actor.sessions) t.actor
    (λ name session. page_steady name session (channel_reply (reply_to (calls.Chan number (ObjectPage after most)) world)) world.now t.actor))
    (λ ns t is. session_hand h.uses ns (λ name session. page_by name session (channel_reply (reply_to (calls.Chan number (ObjectPage after most)) world)) world.now) (actor.numbered number t.actor.sessions) t.actor
    (λ name session. page_hand h.uses ns name session (channel_reply (reply_to (calls.Chan number (ObjectPage after most)) world)) world.now t.actor is) is)
session_by world k call of telling h = absurd of

called_if : (world : World) (k : ℕ) (o : Option Call) → ((call : Call) → o ≡ Some call → IsOfSession call) → IsTelling world → HasUses world → HasUses (performs_if k o world)
called_if world k None of telling h = h
called_if world k (Some call) of telling h = session_by world k call (of call refl) telling h

pub pages_using : (world : World) (k : ℕ) (name : List ℕ) → IsTelling world → HasUses world → HasUses (pages k name world)
pages_using world k name telling h = called_if world k (next_page k name world) (pages_are name (slice_get world.transports k)) telling h

pub polls_using : (world : World) (k : ℕ) (name : List ℕ) → IsTelling world → HasUses world → HasUses (polls k name world)
polls_using world k name telling h = called_if world k (next_poll k name world) (polls_are name (slice_get world.transports k)) telling h

-- ALL ELSE

leaves_using : (world after : World) (h : HasUses world) → Leaves h.uses world after → HasUses after
leaves_using world after h l = record {
  uses = h.uses;
  owner = h.owner;
  fits = record {
    single = h.fits.single;
    givers = h.fits.givers;
    given = λ id serial channel used. given_grows world.book after.book id l.given (h.fits.given id serial channel used);
    owned = λ id name has. given_grows world.book after.book id l.given (h.fits.owned id name has);
    fed = λ serial channel used. let small : serial < world.fed = h.fits.fed serial channel used in omega (arith, small, l.fed);
    nobody = h.fits.nobody;
    apart = l.apart;
    puts = l.puts;
    links = subst (AllByRecursion (IsLinkUsing h.uses (names_of after.channels))) (sym l.links) (all_weaker _ _ (link_named h.uses (names_of world.channels) (names_of after.channels) l.known) world.transports h.fits.links);
    each = subst (AllByRecursion (IsClientUsing h.uses h.owner after)) (sym l.clients) (all_weaker _ _ (λ c is. record {
      own = is.own;
      numbered = is.numbered;
      listed = is.listed;
      ready = λ on k t at found uncut. is.ready on k t (sym (ap (λ (ts : List Transport). last_of (owned c.0 0 ts)) l.links) ∙ at) (subst (λ (ts : List Transport). slice_get ts k ≡ Some t) l.links found) uncut;
    }) world.clients h.fits.each);
  };
}

pub passes_using : (world : World) (span : ℕ) → HasUses world → HasUses (record world { now = world.now + span })
passes_using world span h = leaves_using world (record world { now = world.now + span }) h (leaves_all h.uses h.owner world h.fits (record world { now = world.now + span }) (omega arith) refl refl refl refl)

pub expires_using : (world : World) → HasUses world → HasUses (expires world)
expires_using world h = leaves_using world (expires world) h (leaves_all h.uses h.owner world h.fits (expires world) (last_grows the_range (answered the_range (events.Expire world.now) world.book) world.book) refl refl refl refl)

pub reaped_using : (world : World) (queue : List (ℕ × ℕ)) → HasUses world → HasUses (reaped queue world)
reaped_using world [] h = h
reaped_using world (pair ∷ more) h =
    leaves_using world (reaped (pair ∷ more) world) h (leaves_event h.uses h.owner world h.fits (reaped (pair ∷ more) world) pair.1 (Gone pair.0 world.now) (λ c at. tt) (omega arith) refl refl refl refl)

pub aged_using : (world : World) (o : Option ℕ) → HasUses world → HasUses (event_at o (Tick world.now) world)
aged_using world None h = h
aged_using world (Some number) h =
    leaves_using world (event_at (Some number) (Tick world.now) world) h (leaves_event h.uses h.owner world h.fits (event_at (Some number) (Tick world.now) world) number (Tick world.now) (λ c at. tt) (omega arith) refl refl refl refl)

pub names_using : (world : World) (name : List ℕ) → HasUses world → HasUses (with_name name world)
names_using world name h = leaves_using world (with_name name world) h (leaves_name h.uses h.owner world h.fits name)

-- AN ENTRY THAT NO CLIENT PUTS

-- its serial is used on a channel
record IsFedOn (world : World) (name : List ℕ) : Type 0 where
  uses : List Use
  owner : List ℕ → Option (List ℕ)
  fits : IsUsing uses owner (record world { fed = world.fed + 1 })
  used : IsUse uses (conn_text feed_conn) world.fed name

feed_uses : (world : World) (name : List ℕ) → HasUses world → IsFedOn world name
feed_uses world name h =
    let p = push_one h.uses [] (conn_text feed_conn) (record { pending = []; next = world.fed }) (frames.Message (head_on name) []) h.fits.single h.fits.givers (record { below = h.fits.fed; waiting = tt }) in
    record {
      uses = p.later;
      owner = h.owner;
      fits = record {
        single = p.single;
        givers = p.givers;
        given = λ id serial channel used. elim (p.grown.only id serial channel used) [ inl mine ↦ (let same : conn_text feed_conn ≡ id = cc in (feed_conn, same, omega arith)) | inr old ↦ h.fits.given id serial channel old ];
        owned = h.fits.owned;
        fed = p.numbered.below;
        nobody = h.fits.nobody;
        apart = h.fits.apart;
        puts = all_weaker _ _ (channel_stays h.uses p.later p.grown.kept) world.channels h.fits.puts;
        links = all_weaker _ _ (link_stays h.uses p.later p.grown.kept (names_of world.channels)) world.transports h.fits.links;
        each = all_weaker _ _ (λ c is. other_client h.uses p.later h.owner world (record world { fed = world.fed + 1 }) (Some (conn_text feed_conn)) c (λ P on. on)
            (λ id mine theirs. h.fits.nobody c.0 (let same : conn_text feed_conn ≡ id = cc in subst (λ (x : List ℕ). h.owner x ≡ Some c.0) (sym same) theirs)) p.grown is) world.clients h.fits.each;
      };
      used = p.sent.0 world.fed refl;
    }

fed_on : (world : World) (number : ℕ) (body : Body) (o : Option (List ℕ × List ChannelEvent)) → slice_get world.channels number ≡ o → HasUses world → HasUses (fed_at (Some number) body world)
fed_on world number body None found h =
    let g = feed_uses world [] h in
    leaves_using (record world { fed = world.fed + 1 }) (fed_at (Some number) body world) (record { uses = g.uses; owner = g.owner; fits = g.fits })
    (leaves_event g.uses g.owner (record world { fed = world.fed + 1 }) g.fits (fed_at (Some number) body world) number (Put feed_conn world.fed body world.now) (λ c at. let two : None ≡ Some c = sym found ∙ at in absurd (cc)) (omega arith) refl refl refl refl)
fed_on world number body (Some d) found h =
    let g = feed_uses world d.0 h in
    leaves_using (record world { fed = world.fed + 1 }) (fed_at (Some number) body world) (record { uses = g.uses; owner = g.owner; fits = g.fits })
    (leaves_event g.uses g.owner (record world { fed = world.fed + 1 }) g.fits (fed_at (Some number) body world) number (Put feed_conn world.fed body world.now)
    (λ c at. let two : Some d ≡ Some c = sym found ∙ at in let same : d ≡ c = cc in (subst (λ (e : List ℕ × List ChannelEvent). IsUse g.uses (conn_text feed_conn) world.fed e.0) same g.used, omega arith)) (omega arith) refl refl refl refl)

pub fed_using : (world : World) (o : Option ℕ) (body : Body) → HasUses world → HasUses (fed_at o body world)
fed_using world None body h = h
fed_using world (Some number) body h = fed_on world number body (slice_get world.channels number) refl h
