-- Refusals are of what channels decided, or of channels that a full directory has not: each action keeps it.
use Rattle.std.proofs.Common.{◌≡◌, inl, inr, ℕ, ◌<◌, Bool, true, false, List, length, refl, sym, ◌∙◌, ap, subst}
use Rattle.std.specs.Prelude.{Option, Some, None, slice_get, is_some}
use Rattle.std.specs.List.{AllByRecursion}
use Rattle.rl_types.specs.declared.frames.Frame.{Frame}
use Rattle.rl_events.specs.declared.book.BookEvent.{BookEvent}
use Rattle.rl_events.specs.declared.book.BookEvent.TheVariants as events
use Rattle.rl_events.specs.declared.channel.ChannelEvent.{ChannelEvent}
use Rattle.rl_events.specs.declared.channel.ChannelEvent.TheVariants.{Put, Join, Read, MemberPage, ObjectPage}
use Rattle.rl_events.specs.declared.calls.End.TheVariants as ends
use Rattle.rl_events.specs.declared.calls.Call.{Call}
use Rattle.rl_events.specs.declared.calls.Call.TheVariants as calls
use Rattle.rl_events.specs.declared.calls.DirEvent.TheVariants.{Ask}
use Rattle.rl_actormodel.specs.declared.parts.Holder.{Holder}
use Rattle.rl_actormodel.specs.declared.parts.Wish.{Wish}
use Rattle.rl_actormodel.specs.declared.parts.Wish.TheVariants as wishes
use Rattle.rl_actormodel.specs.State as actor
use Rattle.rl_actormodel.specs.Ends.{over}
use Rattle.rl_actormodel.specs.Takes.{took}
use Rattle.rl_actormodel.specs.Wishes.{wanted, next_call}
use Rattle.rl_actormodel.specs.Replies.{reading, channel_reply}
use Rattle.rl_actormodel.specs.Pagings.{page_by}
use Rattle.rl_actormodel.specs.Reads as reads
use Rattle.rl_actormodel.specs.Reads.{absorbed, answered_at, replied, read_by}
use Rattle.rl_actormodel.specs.Rests.{rested, does_rest}
use Rattle.rl_worldmodel.specs.World.{World, Transport, Way, with_one_got, on_transport, changed_at}
use Rattle.rl_worldmodel.specs.Calls.{reply_to}
use Rattle.rl_worldmodel.specs.Actors.{arrives, works, performs, deed_by, deed_of, done, steps, next_page, next_poll, performs_if, pages, polls}
use Rattle.rl_worldtold.specs.Truth.{IsHeldBy, IsTrueTransport, IsTrueWorld}
use Rattle.rl_worldtold.proofs.Shape.{all_at}
use Rattle.rl_worldtold.proofs.Sessions.{IsOfSession, pages_are, polls_are}
use Rattle.rl_worldtold.proofs.Asks.{IsSteady, absorbed_steady, over_steady, took_steady, rested_steady, read_steady, page_steady, session_steady}
use Rattle.rl_worldputs.proofs.Serving.{IsSameOrFirst, call_same}
use Rattle.rl_worldtold.specs.Truth.{OnHolder, IsTrueWish}
use Rattle.rl_worldtold.proofs.Shape.{changed_some, some_changed}
use Rattle.rl_worldputs.specs.Refusals.{IsOf, HasTaken, IsTakenUp, IsRefusal, IsWishSo, IsFrameSo, IsEndSo, IsActorSo, IsLinkSo, IsRefusing}
use Rattle.rl_worldputs.proofs.Refusing.{FitsSo, absorbed_so, over_so, took_so, rested_so, read_so, page_so, session_so}
use Rattle.rl_worldputs.proofs.Lasting.{wish_stays, Lasts, lasts, some_take_next, some_take_new, works_taken, works_so}
use Rattle.rl_worldputs.proofs.Stepping.{true_held}
use Rattle.rl_worldputs.proofs.Calling.{Passes, RefusalAfter, TakenAfter, serve_so, ends_last, call_lasts, perform_so, wish_so, later_holds, known_refused, put_refused, shut_fits, finish_end}

-- A CALL THAT IS WANTED

stay : (world : World) → IsRefusing world → Passes world world
stay world h = record { refusing = h; lasting = record { so = λ conn serial code is. is; got = λ conn serial channel is. is } }

no_end : (R : ℕ → ℕ → ℕ → Type 0) (call : Call) (e : BookEvent) → call ≡ calls.Book e → IsEndSo R e → (event : BookEvent) → call ≡ calls.Book event → IsEndSo R event
no_end R call e is so event same = let one : calls.Book e ≡ calls.Book event = sym is ∙ same in let it : e ≡ event = cc in subst (IsEndSo R) it so

book_so : (world : World) (k : ℕ) (t : Transport) (wish : Wish) (event : BookEvent) → slice_get world.transports k ≡ Some t → t.actor.wish ≡ wish → IsHeldBy t.actor.holder wish → IsSameOrFirst t.actor.holder (absorbed (calls.Book event) (reply_to (calls.Book event) world) world.now t.actor).holder
    → reads.answered (calls.Book event) (reply_to (calls.Book event) world) world.now t.actor ≡ replied t.actor.wish (reply_to (calls.Book event) world) world.now t.actor
    → IsEndSo (RefusalAfter k (calls.Book event) world) event → FitsSo (RefusalAfter k (calls.Book event) world) (TakenAfter k (calls.Book event) world) wish (reply_to (calls.Book event) world) → IsRefusing world → Passes world (performs k (calls.Book event) world)
book_so world k t wish event found is held holds same so fits h = wish_so world k t wish (calls.Book event) found is held holds same (no_end (RefusalAfter k (calls.Book event) world) (calls.Book event) event refl so) fits h

-- the wish's own claim, in the world after
wish_after : (world : World) (k : ℕ) (t : Transport) (wish : Wish) (call : Call) → slice_get world.transports k ≡ Some t → t.actor.wish ≡ wish → IsSameOrFirst t.actor.holder (absorbed call (reply_to call world) world.now t.actor).holder → IsRefusing world → IsWishSo (RefusalAfter k call world) (TakenAfter k call world) wish
wish_after world k t wish call found is holds h =
    let l = call_lasts world k call (λ u found_u. subst (λ (v : Transport). IsSameOrFirst v.actor.holder (absorbed call (reply_to call world) world.now v.actor).holder) (call_same world k t u found found_u) holds) in
    let link = all_at (IsLinkSo (IsRefusal world.channels world.transports) (IsTakenUp world.transports)) k t world.transports found h.links in
    wish_stays (IsRefusal world.channels world.transports) (RefusalAfter k call world) (IsTakenUp world.transports) (TakenAfter k call world) l.so l.got wish (subst (IsWishSo (IsRefusal world.channels world.transports) (IsTakenUp world.transports)) is link.of_actor.wishing)

last_at : (world : World) (k : ℕ) (t : Transport) (call : Call) → slice_get world.transports k ≡ Some t → IsSameOrFirst t.actor.holder (absorbed call (reply_to call world) world.now t.actor).holder → Lasts world (performs k call world)
last_at world k t call found holds = call_lasts world k call (λ u found_u. subst (λ (v : Transport). IsSameOrFirst v.actor.holder (absorbed call (reply_to call world) world.now v.actor).holder) (call_same world k t u found found_u) holds)

performs_by : (world : World) (k : ℕ) (t : Transport) (wish : Wish) (call : Call) → slice_get world.transports k ≡ Some t → t.actor.wish ≡ wish → wanted wish t.actor.hello world.now ≡ Some call → IsTrueWorld world → IsRefusing world → Passes world (performs k call world)
performs_by world k t wishes.Nothing call found is wants true_ h = absurd (cc)
performs_by world k t (wishes.Resume key) call found is wants true_ h =
    let same : calls.Book (events.Resume key world.now) ≡ call = cc in
    let held = true_held world k t (wishes.Resume key) true_ found is in
    subst (λ (c : Call). Passes world (performs k c world)) same (book_so world k t (wishes.Resume key) (events.Resume key world.now) found is held (inl held) refl tt tt h)
performs_by world k t wishes.Open call found is wants true_ h =
    let same : calls.Book (events.Open t.actor.hello.word world.now) ≡ call = cc in
    let held = true_held world k t wishes.Open true_ found is in
    subst (λ (c : Call). Passes world (performs k c world)) same (book_so world k t wishes.Open (events.Open t.actor.hello.word world.now) found is held (inl held) refl tt tt h)
performs_by world k t (wishes.Lost holder) call found is wants true_ h =
    let same : calls.Book (events.Lost holder.conn holder.generation world.now) ≡ call = cc in
    subst (λ (c : Call). Passes world (performs k c world)) same
    (book_so world k t (wishes.Lost holder) (events.Lost holder.conn holder.generation world.now) found is (true_held world k t (wishes.Lost holder) true_ found is)
    (later_holds world t (wishes.Lost holder) (calls.Book (events.Lost holder.conn holder.generation world.now)) is tt refl) refl tt tt h)
performs_by world k t (wishes.Close holder) call found is wants true_ h =
    let same : calls.Book (events.Close holder.conn holder.generation) ≡ call = cc in
    subst (λ (c : Call). Passes world (performs k c world)) same
    (book_so world k t (wishes.Close holder) (events.Close holder.conn holder.generation) found is (true_held world k t (wishes.Close holder) true_ found is)
    (later_holds world t (wishes.Close holder) (calls.Book (events.Close holder.conn holder.generation)) is tt refl) refl tt tt h)
performs_by world k t (wishes.AskToAttach asked) call found is wants true_ h =
    let same : calls.Dir (Ask asked.channel) ≡ call = cc in
    subst (λ (c : Call). Passes world (performs k c world)) same
    (wish_so world k t (wishes.AskToAttach asked) (calls.Dir (Ask asked.channel)) found is tt (later_holds world t (wishes.AskToAttach asked) (calls.Dir (Ask asked.channel)) is tt refl) refl (λ event wrong. absurd (cc)) tt h)
performs_by world k t (wishes.Join asked number) call found is wants true_ h =
    let same : calls.Chan number (Join asked.serial) ≡ call = cc in
    subst (λ (c : Call). Passes world (performs k c world)) same
    (wish_so world k t (wishes.Join asked number) (calls.Chan number (Join asked.serial)) found is tt (later_holds world t (wishes.Join asked number) (calls.Chan number (Join asked.serial)) is tt refl) refl (λ event wrong. absurd (cc)) tt h)
performs_by world k t (wishes.Begin p holder) call found is wants true_ h =
    let same : calls.Book (events.Begin holder.conn holder.generation p.serial) ≡ call = cc in
    let holds = later_holds world t (wishes.Begin p holder) (calls.Book (events.Begin holder.conn holder.generation p.serial)) is tt refl in
    subst (λ (c : Call). Passes world (performs k c world)) same
    (book_so world k t (wishes.Begin p holder) (events.Begin holder.conn holder.generation p.serial) found is (true_held world k t (wishes.Begin p holder) true_ found is) holds refl tt
    (λ code knows. (last_at world k t (calls.Book (events.Begin holder.conn holder.generation p.serial)) found holds).so holder.conn p.serial code (known_refused world holder.conn holder.generation p.serial code h knows)) h)
performs_by world k t (wishes.AskToPut p holder) call found is wants true_ h =
    let same : calls.Dir (Ask p.channel) ≡ call = cc in
    let holds = later_holds world t (wishes.AskToPut p holder) (calls.Dir (Ask p.channel)) is tt refl in
    subst (λ (c : Call). Passes world (performs k c world)) same
    (wish_so world k t (wishes.AskToPut p holder) (calls.Dir (Ask p.channel)) found is (true_held world k t (wishes.AskToPut p holder) true_ found is) holds refl (λ event wrong. absurd (cc))
    (λ none. let shut = shut_fits p.channel world none in inr (record { channel = p.channel; full = shut.0; none = shut.1; taken = wish_after world k t (wishes.AskToPut p holder) (calls.Dir (Ask p.channel)) found is holds h })) h)
performs_by world k t (wishes.Put p holder number) call found is wants true_ h =
    let same : calls.Chan number (Put holder.conn p.serial p.body world.now) ≡ call = cc in
    let below : number < length world.channels = subst (IsTrueWish world.channels) is (all_at (IsTrueTransport world.channels) k t world.transports found true_.service.each).of_actor.wish_true in
    subst (λ (c : Call). Passes world (performs k c world)) same
    (wish_so world k t (wishes.Put p holder number) (calls.Chan number (Put holder.conn p.serial p.body world.now)) found is (true_held world k t (wishes.Put p holder number) true_ found is)
    (later_holds world t (wishes.Put p holder number) (calls.Chan number (Put holder.conn p.serial p.body world.now)) is tt refl) refl (λ event wrong. absurd (cc))
    (λ code said. inl (put_refused world number holder.conn p.serial code p.body below said)) h)
performs_by world k t (wishes.Finish p holder outcome) call found is wants true_ h =
    let same : calls.Book (events.End holder.conn holder.generation p.serial outcome) ≡ call = cc in
    let holds = later_holds world t (wishes.Finish p holder outcome) (calls.Book (events.End holder.conn holder.generation p.serial outcome)) is tt refl in
    subst (λ (c : Call). Passes world (performs k c world)) same
    (book_so world k t (wishes.Finish p holder outcome) (events.End holder.conn holder.generation p.serial outcome) found is (true_held world k t (wishes.Finish p holder outcome) true_ found is) holds refl
    (finish_end (RefusalAfter k (calls.Book (events.End holder.conn holder.generation p.serial outcome)) world) (TakenAfter k (calls.Book (events.End holder.conn holder.generation p.serial outcome)) world) p holder outcome
    (wish_after world k t (wishes.Finish p holder outcome) (calls.Book (events.End holder.conn holder.generation p.serial outcome)) found is holds h)) tt h)

-- ONE STEP

abbrev RefusalOn : World → ℕ → (Transport → Transport) → ℕ → ℕ → ℕ → Type 0
RefusalOn world k f = IsRefusal world.channels (changed_at k f world.transports)

abbrev TakenOn : World → ℕ → (Transport → Transport) → ℕ → ℕ → List ℕ → Type 0
TakenOn world k f = IsTakenUp (changed_at k f world.transports)

-- a transport changes, and no channel
pub change_lasts : (world : World) (k : ℕ) (f : Transport → Transport) → ((t : Transport) (conn serial : ℕ) (channel : List ℕ) → HasTaken conn serial channel t → HasTaken conn serial channel (f t)) → Lasts world (on_transport k f world)
change_lasts world k f step = lasts world (on_transport k f world) (λ conn serial code is. is) (λ full. refl) (λ conn serial channel is. changed_some (HasTaken conn serial channel) k f (λ t has. step t conn serial channel has) world.transports is)

works_refuse : (world : World) (k : ℕ) (act : actor.State → actor.State) (on : Transport → Transport) → ((t : Transport) → (on t).actor ≡ t.actor) → ((t : Transport) → (on t).to_client ≡ t.to_client) → ((t : Transport) (conn serial : ℕ) (channel : List ℕ) → HasTaken conn serial channel t → HasTaken conn serial channel (on t)) → ((s : actor.State) → IsSteady s (act s))
    → ((t : Transport) → slice_get world.transports k ≡ Some t → IsActorSo (RefusalOn world k (λ u. works act (on u))) (TakenOn world k (λ u. works act (on u))) t.actor → IsActorSo (RefusalOn world k (λ u. works act (on u))) (TakenOn world k (λ u. works act (on u))) (act t.actor))
    → IsRefusing world → Passes world (on_transport k (λ t. works act (on t)) world)
works_refuse world k act on actors ways taken steady step h =
    let l = change_lasts world k (λ u. works act (on u)) (λ t conn serial channel has. works_taken act (on t) conn serial channel (inr (steady (on t).actor).holder) (taken t conn serial channel has)) in
    record {
      lasting = l;
      refusing = serve_so world world k (λ t. works act (on t)) refl l (ends_last world (on_transport k (λ t. works act (on t)) world) l h)
          (λ t found link. works_so (RefusalOn world k (λ u. works act (on u))) (TakenOn world k (λ u. works act (on u))) act (on t) (inr (steady (on t).actor).holder)
          (subst (λ (s : actor.State). IsActorSo (RefusalOn world k (λ u. works act (on u))) (TakenOn world k (λ u. works act (on u))) (act s)) (sym (actors t)) (step t found link.of_actor))
          (subst (λ (s : actor.State). AllByRecursion (IsFrameSo (RefusalOn world k (λ u. works act (on u))) s.holder) (on t).to_client.put) (sym (actors t))
          (subst (λ (way : Way). AllByRecursion (IsFrameSo (RefusalOn world k (λ u. works act (on u))) t.actor.holder) way.put) (sym (ways t)) link.on_way))) h;
    }

abbrev one_got : Transport → Transport
one_got t = record t { to_service = with_one_got t.to_service }

-- the frame that is taken up is one that was
taken_new : (world : World) (k : ℕ) (t : Transport) (frame : Frame) → slice_get world.transports k ≡ Some t → slice_get t.to_service.put t.to_service.got ≡ Some frame → (h : Holder) (serial : ℕ) (channel : List ℕ) → t.actor.holder ≡ Some h → IsOf serial channel frame
    → IsTakenUp (changed_at k (λ u. works (took (arrives frame) world.now) (one_got u)) world.transports) h.conn serial channel
taken_new world k t frame found came h serial channel held of =
    some_changed (HasTaken h.conn serial channel) k (λ u. works (took (arrives frame) world.now) (one_got u)) t
    (works_taken (took (arrives frame) world.now) (one_got t) h.conn serial channel (inr (took_steady (arrives frame) world.now t.actor).holder)
    (subst (λ (o : Option Holder). OnHolder o (λ g. g.conn ≡ h.conn)) (sym held) refl, some_take_new (IsOf serial channel) t.to_service.got frame t.to_service.put came of)) world.transports found

steps_by : (world : World) (k : ℕ) (t : Transport) (o : Option Call) (ended cut : Bool) (next : Option Frame) (rests : Bool) → slice_get world.transports k ≡ Some t → next_call world.now t.actor ≡ o → slice_get t.to_service.put t.to_service.got ≡ next → IsTrueWorld world → IsRefusing world → Passes world (done k (deed_by o ended cut next rests) world)
steps_by world k t (Some call) ended cut next rests found is came true_ h = performs_by world k t t.actor.wish call found refl is true_ h
steps_by world k t None true cut next rests found is came true_ h = stay world h
steps_by world k t None false true next rests found is came true_ h =
    works_refuse world k (over ends.LinkEnded) (λ u. u) (λ u. refl) (λ u. refl) (λ u conn serial channel has. has) (λ s. over_steady ends.LinkEnded s.ended s)
    (λ u at good. over_so (RefusalOn world k (λ u. works (over ends.LinkEnded) u)) (TakenOn world k (λ u. works (over ends.LinkEnded) u)) ends.LinkEnded u.actor.ended u.actor good) h
steps_by world k t None false false (Some frame) rests found is came true_ h =
    works_refuse world k (took (arrives frame) world.now) one_got (λ u. refl) (λ u. refl) (λ u conn serial channel has. (has.0, some_take_next (IsOf serial channel) u.to_service.got u.to_service.put has.1)) (λ s. took_steady (arrives frame) world.now s)
    (λ u at good. took_so (RefusalOn world k (λ u. works (took (arrives frame) world.now) (one_got u))) (TakenOn world k (λ u. works (took (arrives frame) world.now) (one_got u))) frame world.now u.actor
    (λ g serial channel held of. taken_new world k t frame found came g serial channel (ap (λ (v : Transport). v.actor.holder) (call_same world k t u found at) ∙ held) of) good) h
steps_by world k t None false false None true found is came true_ h =
    works_refuse world k (rested world.now) (λ u. u) (λ u. refl) (λ u. refl) (λ u conn serial channel has. has) (λ s. rested_steady world.now s)
    (λ u at good. rested_so (RefusalOn world k (λ u. works (rested world.now) u)) (TakenOn world k (λ u. works (rested world.now) u)) world.now u.actor good) h
steps_by world k t None false false None false found is came true_ h = stay world h

steps_of : (world : World) (k : ℕ) (o : Option Transport) → slice_get world.transports k ≡ o → IsTrueWorld world → IsRefusing world → Passes world (done k (deed_of world.now o) world)
steps_of world k None found true_ h = stay world h
steps_of world k (Some t) found true_ h =
    steps_by world k t (next_call world.now t.actor) (is_some t.actor.ended) t.cut (slice_get t.to_service.put t.to_service.got) (does_rest world.now t.actor) found refl refl true_ h

pub steps_refuse : (world : World) (k : ℕ) → IsTrueWorld world → IsRefusing world → Passes world (steps k world)
steps_refuse world k true_ h = steps_of world k (slice_get world.transports k) refl true_ h

-- READS AND PAGES

session_refuse : (world : World) (k number : ℕ) (event : ChannelEvent) → ((t : Transport) → IsSteady t.actor (reads.answered (calls.Chan number event) (reply_to (calls.Chan number event) world) world.now t.actor))
    → ((R : ℕ → ℕ → ℕ → Type 0) (G : ℕ → ℕ → List ℕ → Type 0) (t : Transport) → IsActorSo R G t.actor → IsActorSo R G (reads.answered (calls.Chan number event) (reply_to (calls.Chan number event) world) world.now t.actor)) → IsRefusing world → Passes world (performs k (calls.Chan number event) world)
session_refuse world k number event steady good h =
    perform_so world k (calls.Chan number event)
    (λ t found. inr (absorbed_steady t.actor.ended (calls.Chan number event) (reply_to (calls.Chan number event) world) world.now t.actor (steady t)).holder)
    (λ e wrong. absurd (cc))
    (λ t found is. absorbed_so (RefusalAfter k (calls.Chan number event) world) (TakenAfter k (calls.Chan number event) world) t.actor.ended (calls.Chan number event) (reply_to (calls.Chan number event) world) world.now t.actor
    (good (RefusalAfter k (calls.Chan number event) world) (TakenAfter k (calls.Chan number event) world) t is) is) h

session_by : (world : World) (k : ℕ) (call : Call) → IsOfSession call → IsRefusing world → Passes world (performs k call world)
session_by world k (calls.Chan number (Read from most)) of h =
    session_refuse world k number (Read from most)
    (λ t. session_steady (λ name session. read_by name session (reading (reply_to (calls.Chan number (Read from most)) world)) world.now) (actor.numbered number t.actor.sessions) t.actor
    (λ name session. read_steady name session (reading (reply_to (calls.Chan number (Read from most)) world)) world.now t.actor))
    (λ R G t is. session_so R G (λ name session. read_by name session (reading (reply_to (calls.Chan number (Read from most)) world)) world.now) (actor.numbered number t.actor.sessions) t.actor
    (λ name session. read_so R G name session (reading (reply_to (calls.Chan number (Read from most)) world)) world.now t.actor is) is) h
session_by world k (calls.Chan number (MemberPage after most)) of h =
    session_refuse world k number (MemberPage after most)
    (λ t. session_steady (λ name session. page_by name session (channel_reply (reply_to (calls.Chan number (MemberPage after most)) world)) world.now) (actor.numbered number t.actor.sessions) t.actor
    (λ name session. page_steady name session (channel_reply (reply_to (calls.Chan number (MemberPage after most)) world)) world.now t.actor))
    (λ R G t is. session_so R G (λ name session. page_by name session (channel_reply (reply_to (calls.Chan number (MemberPage after most)) world)) world.now) (actor.numbered number t.actor.sessions) t.actor
    (λ name session. page_so R G name session (channel_reply (reply_to (calls.Chan number (MemberPage after most)) world)) world.now t.actor is) is) h
session_by world k (calls.Chan number (ObjectPage after most)) of h =
    session_refuse world k number (ObjectPage after most)
    (λ t. session_steady (λ name session. page_by name session (channel_reply (reply_to (calls.Chan number (ObjectPage after most)) world)) world.now) (actor.numbered number t.actor.sessions) t.actor
    (λ name session. page_steady name session (channel_reply (reply_to (calls.Chan number (ObjectPage after most)) world)) world.now t.actor))
    (λ R G t is. session_so R G (λ name session. page_by name session (channel_reply (reply_to (calls.Chan number (ObjectPage after most)) world)) world.now) (actor.numbered number t.actor.sessions) t.actor
    (λ name session. page_so R G name session (channel_reply (reply_to (calls.Chan number (ObjectPage after most)) world)) world.now t.actor is) is) h
session_by world k call of h = absurd of

called_if : (world : World) (k : ℕ) (o : Option Call) → ((call : Call) → o ≡ Some call → IsOfSession call) → IsRefusing world → Passes world (performs_if k o world)
called_if world k None of h = stay world h
called_if world k (Some call) of h = session_by world k call (of call refl) h

pub pages_refuse : (world : World) (k : ℕ) (name : List ℕ) → IsRefusing world → Passes world (pages k name world)
pages_refuse world k name h = called_if world k (next_page k name world) (pages_are name (slice_get world.transports k)) h

pub polls_refuse : (world : World) (k : ℕ) (name : List ℕ) → IsRefusing world → Passes world (polls k name world)
polls_refuse world k name h = called_if world k (next_poll k name world) (polls_are name (slice_get world.transports k)) h
