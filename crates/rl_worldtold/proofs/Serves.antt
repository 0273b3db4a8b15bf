-- What the service may tell a client that connects: each action of the service keeps it.
use Rattle.std.proofs.Common.{◌≡◌, inl, inr, ℕ, ◌+◌, ◌^◌, ◌≤◌, ◌<◌, Bool, true, false, List, [], refl, sym, ◌∙◌, ap, subst, arith}
use Rattle.std.specs.Prelude.{Option, Some, None, slice_get, is_some}
use Rattle.std.specs.List.{AllByRecursion}
use Rattle.rl_ids.specs.Forms.{conn_text}
use Rattle.rl_ids.proofs.Forms.{conn_texts_differ}
use Rattle.rl_types.specs.declared.frames.Frame.{Frame}
use Rattle.rl_runs.specs.declared.findings.Answer.{Answer}
use Rattle.rl_events.specs.declared.book.BookEvent.{BookEvent}
use Rattle.rl_events.specs.declared.book.BookEvent.TheVariants as events
use Rattle.rl_events.specs.declared.channel.ChannelEvent.TheVariants.{Put, Join, Read, MemberPage, ObjectPage}
use Rattle.rl_events.specs.declared.calls.End.{End}
use Rattle.rl_events.specs.declared.calls.End.TheVariants as ends
use Rattle.rl_events.specs.declared.calls.Call.{Call}
use Rattle.rl_events.specs.declared.calls.Call.TheVariants as calls
use Rattle.rl_events.specs.declared.calls.DirEvent.TheVariants.{Ask, Names}
use Rattle.rl_events.specs.declared.calls.Reply.{Reply}
use Rattle.rl_connbook.specs.Records.{Answered}
use Rattle.rl_connbook.specs.Book.{book_of, told, answered, last_number, is_opened}
use Rattle.rl_connbook.proofs.Each.{all_weaker}
use Rattle.rl_connbook.proofs.History.{last_grows, last_more}
use Rattle.rl_clientmodel.specs.States.{ClientState}
use Rattle.rl_clientmodel.specs.Keys.{before_mark}
use Rattle.rl_actormodel.specs.declared.parts.Holder.{Holder}
use Rattle.rl_actormodel.specs.declared.parts.Wish.{Wish}
use Rattle.rl_actormodel.specs.declared.parts.Wish.TheVariants as wishes
use Rattle.rl_actormodel.specs.State as actor
use Rattle.rl_actormodel.specs.Ends.{over}
use Rattle.rl_actormodel.specs.Takes.{took}
use Rattle.rl_actormodel.specs.Wishes.{wanted, next_call}
use Rattle.rl_actormodel.specs.Replies.{Resuming, Back, NotKnown, Unresumed, resuming, Opening, Opens, Limited, Unopened, opening, reading, channel_reply}
use Rattle.rl_actormodel.specs.Connects.{resumed_by, opened_by}
use Rattle.rl_actormodel.specs.Pagings.{page_by}
use Rattle.rl_actormodel.specs.Reads as reads
use Rattle.rl_actormodel.specs.Reads.{absorbed, answered_at, replied, read_by}
use Rattle.rl_actormodel.specs.Rests.{rested, does_rest}
use Rattle.rl_worldmodel.specs.World.{World, Transport, the_range, with_one_got, on_transport, changed_at, latest, last_of, owned}
use Rattle.rl_worldmodel.specs.Calls.{reply_to, called}
use Rattle.rl_worldmodel.specs.Actors.{arrives, works, with_call, absorbs, performs, deed_by, deed_of, done, steps, next_page, next_poll, performs_if, pages, polls}
use Rattle.rl_worldtold.specs.Given.{IsDecided}
use Rattle.rl_worldtold.specs.Tell.{asks, IsUnheard, IsBelow, IsGiven, MayTell, IsReady, IsOwn}
use Rattle.rl_worldtold.proofs.Shape.{all_at, changed_one, changed_none, get_after, owned_changed, name_beside, works_actor, works_owner, works_cut}
use Rattle.rl_worldtold.proofs.Sessions.{IsOfSession, pages_are, polls_are}
use Rattle.rl_worldtold.proofs.Inputs.{called_clients}
use Rattle.rl_worldtold.proofs.Keys.{resume_key, open_key}
use Rattle.rl_worldtold.proofs.Service.{resumed_is, opened_is}
use Rattle.rl_worldtold.proofs.Asks.{IsSteady, IsLater, itself, replied_steady, absorbed_steady, over_steady, took_steady, rested_steady, read_steady, page_steady, session_steady, none_asks, ended_steady}

-- what an action of the service makes of what clients may be told
pub record Serves (world after : World) : Type 0 where
  pub given : last_number the_range world.book ≤ last_number the_range after.book
  pub holders : AllByRecursion (λ (t : Transport). IsBelow after.book t.actor.holder) after.transports
  pub clients : after.clients ≡ world.clients
  pub ready : (name : List ℕ) (state : ClientState) → IsOwn world.book state → IsReady world name state → IsReady after name state

pub record Tells (before later : List Answered) (s after : actor.State) : Type 0 where
  pub below : IsBelow later after.holder
  pub tells : (state : ClientState) → IsOwn before state → MayTell state s → MayTell state after

abbrev pub AllBelow : World → Type 0
AllBelow world = AllByRecursion (λ (t : Transport). IsBelow world.book t.actor.holder) world.transports

below_grows : (b later : List Answered) (holder : Option Holder) → last_number the_range b ≤ last_number the_range later → IsBelow b holder → IsBelow later holder
below_grows b later holder more is h same = omega (arith, more, is h same)

pub ready_on : (world after : World) (k : ℕ) (f : Transport → Transport) → after.transports ≡ changed_at k f world.transports → ((t : Transport) → (f t).owner ≡ t.owner) → ((t : Transport) → (f t).cut ≡ false → t.cut ≡ false)
    → (state : ClientState) → ((t : Transport) → slice_get world.transports k ≡ Some t → MayTell state t.actor → MayTell state (f t).actor) → (name : List ℕ) → IsReady world name state → IsReady after name state
ready_on world after k f same owners cuts state tell name ready is j u at found uncut =
    let here : slice_get (changed_at k f world.transports) j ≡ Some u = subst (λ (ts : List Transport). slice_get ts j ≡ Some u) same found in
    let at_before : latest name world ≡ Some j = sym (ap (λ (ts : List Transport). last_of (owned name 0 ts)) same ∙ ap last_of (owned_changed name 0 k f owners world.transports)) ∙ at in
    elim (get_after j k f u world.transports here) [
      | inl old ↦ ready is j u at_before old uncut
      | inr new ↦ subst (λ (v : Transport). MayTell state v.actor) (sym new.2) (tell new.0 new.3 (ready is j new.0 at_before new.1 (cuts new.0 (subst (λ (v : Transport). v.cut ≡ false) new.2 uncut))))
    ]

holders_by : (world : World) (later : List Answered) (k : ℕ) (f : Transport → Transport) (o : Option Transport) → slice_get world.transports k ≡ o → last_number the_range world.book ≤ last_number the_range later → ((t : Transport) → o ≡ Some t → IsBelow later (f t).actor.holder)
    → AllBelow world → AllByRecursion (λ (t : Transport). IsBelow later t.actor.holder) (changed_at k f world.transports)
holders_by world later k f None found more below all =
    subst (AllByRecursion (λ (t : Transport). IsBelow later t.actor.holder)) (sym (changed_none k f world.transports found)) (all_weaker _ _ (λ t is. below_grows world.book later t.actor.holder more is) world.transports all)
holders_by world later k f (Some t) found more below all =
    changed_one (λ (t : Transport). IsBelow later t.actor.holder) k f t (below t refl) world.transports found (all_weaker _ _ (λ t is. below_grows world.book later t.actor.holder more is) world.transports all)

serve_change : (world after : World) (k : ℕ) (f : Transport → Transport) → after.transports ≡ changed_at k f world.transports → ((t : Transport) → (f t).owner ≡ t.owner) → ((t : Transport) → (f t).cut ≡ false → t.cut ≡ false)
    → last_number the_range world.book ≤ last_number the_range after.book → after.clients ≡ world.clients → ((t : Transport) → slice_get world.transports k ≡ Some t → Tells world.book after.book t.actor (f t).actor)
    → AllBelow world → Serves world after
serve_change world after k f same owners cuts more clients tells all = record {
  given = more;
  holders = subst (AllByRecursion (λ (t : Transport). IsBelow after.book t.actor.holder)) (sym same)
      (holders_by world after.book k f (slice_get world.transports k) refl more (λ t found. (tells t found).below) all);
  clients = clients;
  ready = λ name state own ready. ready_on world after k f same owners cuts state (λ t found may. (tells t found).tells state own may) name ready;
}

steady_tells : (b later : List Answered) (s after : actor.State) → IsSteady s after → IsBelow later s.holder → Tells b later s after
steady_tells b later s after steady below = record {
  below = λ h is. below h (sym steady.holder ∙ is);
  tells = λ state own may. record { held = λ h is. may.held h (sym steady.holder ∙ is); asked = λ key is. may.asked key (steady.asked key is) };
}

emptied_tells : (b later : List Answered) (s after : actor.State) → Tells b later s after → Tells b later s (record after { waiting = [] })
emptied_tells b later s after h = record { below = h.below; tells = λ state own may. let m = h.tells state own may in record { held = m.held; asked = m.asked } }

works_tells : (b later : List Answered) (act : actor.State → actor.State) (t : Transport) (s : actor.State) → Tells b later s (act t.actor) → Tells b later s (works act t).actor
works_tells b later act t s h = subst (Tells b later s) (sym (works_actor act t)) (emptied_tells b later s (act t.actor) h)

pub works_uncut : (act : actor.State → actor.State) (t : Transport) → (works act t).cut ≡ false → t.cut ≡ false
works_uncut act t uncut = sym (works_cut act t) ∙ uncut

-- CALLS

pub called_given : (call : Call) (world : World) → last_number the_range world.book ≤ last_number the_range (called call world).book
called_given (calls.Book event) world = last_grows the_range (answered the_range event world.book) world.book
called_given (calls.Dir (Ask name)) world = let same = ap (last_number the_range) (name_beside name world).book in omega (arith, same)
called_given (calls.Dir Names) world = omega arith
called_given (calls.Chan number event) world = omega arith

pub called_transports : (call : Call) (world : World) → (called call world).transports ≡ world.transports
called_transports (calls.Book event) world = refl
called_transports (calls.Dir (Ask name)) world = (name_beside name world).transports
called_transports (calls.Dir Names) world = refl
called_transports (calls.Chan number event) world = refl

serve_call : (world : World) (k : ℕ) (call : Call) → ((t : Transport) → slice_get world.transports k ≡ Some t → Tells world.book (called call world).book t.actor (absorbed call (reply_to call world) world.now t.actor))
    → AllBelow world → Serves world (performs k call world)
serve_call world k call tells all =
    serve_change world (performs k call world) k (absorbs call world) (ap (changed_at k (absorbs call world)) (called_transports call world))
    (λ t. works_owner (absorbed call (reply_to call world) world.now) (with_call call world t)) (λ t uncut. works_uncut (absorbed call (reply_to call world) world.now) (with_call call world t) uncut) (called_given call world) (called_clients call world)
    (λ t found. works_tells world.book (called call world).book (absorbed call (reply_to call world) world.now) (with_call call world t) t.actor (tells t found)) all

below_at : (world : World) (call : Call) (k : ℕ) (t : Transport) → slice_get world.transports k ≡ Some t → AllBelow world → IsBelow (called call world).book t.actor.holder
below_at world call k t found all = below_grows world.book (called call world).book t.actor.holder (called_given call world) (all_at (λ (t : Transport). IsBelow world.book t.actor.holder) k t world.transports found all)

found_same : (world : World) (k : ℕ) (t u : Transport) → slice_get world.transports k ≡ Some t → slice_get world.transports k ≡ Some u → t ≡ u
found_same world k t u a b = let two : Some t ≡ Some u = sym a ∙ b in cc

-- a call of this actor
serve_its : (world : World) (k : ℕ) (t : Transport) (call : Call) → slice_get world.transports k ≡ Some t → Tells world.book (called call world).book t.actor (absorbed call (reply_to call world) world.now t.actor) → AllBelow world → Serves world (performs k call world)
serve_its world k t call found tells all =
    serve_call world k call (λ u found_u. subst (λ (v : Transport). Tells world.book (called call world).book v.actor (absorbed call (reply_to call world) world.now v.actor)) (found_same world k t u found found_u) tells) all

serve_later : (world : World) (k : ℕ) (t : Transport) (wish : Wish) (call : Call) → slice_get world.transports k ≡ Some t → t.actor.wish ≡ wish → IsLater wish → reads.answered call (reply_to call world) world.now t.actor ≡ replied t.actor.wish (reply_to call world) world.now t.actor
    → AllBelow world → Serves world (performs k call world)
serve_later world k t wish call found is later same all =
    serve_its world k t call found
    (steady_tells world.book (called call world).book t.actor (absorbed call (reply_to call world) world.now t.actor)
    (absorbed_steady t.actor.ended call (reply_to call world) world.now t.actor
    (subst (IsSteady t.actor) (sym (same ∙ ap (λ (w : Wish). replied w (reply_to call world) world.now t.actor) is)) (replied_steady wish later (reply_to call world) world.now t.actor)))
    (below_at world call k t found all)) all

-- a connection that was brought back is the client's own
resume_tells : (b later : List Answered) (key : List ℕ) (now : ℕ) (s : actor.State) (o : Resuming) → s.wish ≡ wishes.Resume key → IsBelow later s.holder → ((h : Holder) → o ≡ Back h → (h.conn ≤ last_number the_range later) × (before_mark key ≡ conn_text h.conn)) → Tells b later s (resumed_by key o now s)
resume_tells b later key now s NotKnown is below fits = steady_tells b later s _ (none_asks s _ refl refl) below
resume_tells b later key now s Unresumed is below fits = steady_tells b later s s (itself s) below
resume_tells b later key now s (Back holder) is below fits = record {
  below = λ h same. let it : holder ≡ h = cc in subst (λ (x : Holder). x.conn ≤ last_number the_range later) it (fits holder refl).0;
  tells = λ state own may. record {
    held = λ h same. let it : holder ≡ h = cc in
        let mine : state.id ≡ Some (before_mark key) = own.keyed key (may.asked key (ap asks is)) in
        inl (mine ∙ ap (λ (x : List ℕ). Some x) ((fits holder refl).1 ∙ ap (λ (x : Holder). conn_text x.conn) it));
    asked = λ k wrong. absurd (cc);
  };
}

-- nothing was listed of a connection that is opened
pub unheard : (b : List Answered) (c : ℕ) (answers : List Answer) → c ≡ last_number the_range b + 1 → c < 2 ^ 32 → AllByRecursion (IsGiven b) answers → IsUnheard (conn_text c) answers
unheard b c answers next small given =
    all_weaker _ _ (λ a g same. let one : g.0 ≡ c = conn_texts_differ g.0 c (omega (arith, g.2, next, small)) small (g.1 ∙ same) in omega (arith, one, g.2, next)) answers given

open_tells : (b later : List Answered) (now : ℕ) (s : actor.State) (o : Opening) → IsBelow later s.holder → ((h : Holder) (key : List ℕ) → o ≡ Opens h key → (h.conn ≤ last_number the_range later) × (h.conn ≡ last_number the_range b + 1) × (h.conn < 2 ^ 32)) → Tells b later s (opened_by o now s)
open_tells b later now s Unopened below fits = steady_tells b later s s (itself s) below
open_tells b later now s (Limited count given) below fits = steady_tells b later s _ (ended_steady (ends.ConnectionLimit count given) s) below
open_tells b later now s (Opens holder key) below fits = record {
  below = λ h same. let it : holder ≡ h = cc in subst (λ (x : Holder). x.conn ≤ last_number the_range later) it (fits holder key refl).0;
  tells = λ state own may. record {
    held = λ h same. let it : holder ≡ h = cc in let f = fits holder key refl in
        inr (subst (λ (x : Holder). IsUnheard (conn_text x.conn) state.answers) it (unheard b holder.conn state.answers f.1 f.2 own.given));
    asked = λ k wrong. absurd (cc);
  };
}

absorbed_tells : (b later : List Answered) (o : Option End) (call : Call) (reply : Reply) (now : ℕ) (s : actor.State) → IsBelow later s.holder → Tells b later s (reads.answered call reply now s) → Tells b later s (answered_at o call reply now s)
absorbed_tells b later None call reply now s below h = h
absorbed_tells b later (Some why) call reply now s below h = steady_tells b later s _ (none_asks s _ refl refl) below

serve_resume : (world : World) (k : ℕ) (t : Transport) (key : List ℕ) → slice_get world.transports k ≡ Some t → t.actor.wish ≡ wishes.Resume key → IsDecided world.book → AllBelow world → Serves world (performs k (calls.Book (events.Resume key world.now)) world)
serve_resume world k t key found is decided_ all =
    let event : BookEvent = events.Resume key world.now in
    let below = below_at world (calls.Book (events.Resume key world.now)) k t found all in
    serve_its world k t (calls.Book (events.Resume key world.now)) found
    (absorbed_tells world.book (called (calls.Book (events.Resume key world.now)) world).book t.actor.ended (calls.Book (events.Resume key world.now)) (reply_to (calls.Book (events.Resume key world.now)) world) world.now t.actor below
    (subst (λ (w : Wish). Tells world.book (called (calls.Book (events.Resume key world.now)) world).book t.actor (replied w (reply_to (calls.Book (events.Resume key world.now)) world) world.now t.actor)) (sym is)
    (resume_tells world.book (called (calls.Book (events.Resume key world.now)) world).book key world.now t.actor (resuming (reply_to (calls.Book (events.Resume key world.now)) world)) is below
    (λ h same.
    let got = resume_key key world.now h.conn h.generation world.book decided_ (resumed_is (told (book_of the_range world.book) (events.Resume key world.now)) h same) in
    (omega (arith, got.0, last_grows the_range (answered the_range (events.Resume key world.now) world.book) world.book), got.1))))) all

serve_open : (world : World) (k : ℕ) (t : Transport) → slice_get world.transports k ≡ Some t → t.actor.wish ≡ wishes.Open → AllBelow world → Serves world (performs k (calls.Book (events.Open t.actor.hello.word world.now)) world)
serve_open world k t found is all =
    let event : BookEvent = events.Open t.actor.hello.word world.now in
    let below = below_at world (calls.Book (events.Open t.actor.hello.word world.now)) k t found all in
    serve_its world k t (calls.Book (events.Open t.actor.hello.word world.now)) found
    (absorbed_tells world.book (called (calls.Book (events.Open t.actor.hello.word world.now)) world).book t.actor.ended (calls.Book (events.Open t.actor.hello.word world.now)) (reply_to (calls.Book (events.Open t.actor.hello.word world.now)) world) world.now t.actor below
    (subst (λ (w : Wish). Tells world.book (called (calls.Book (events.Open t.actor.hello.word world.now)) world).book t.actor (replied w (reply_to (calls.Book (events.Open t.actor.hello.word world.now)) world) world.now t.actor)) (sym is)
    (open_tells world.book (called (calls.Book (events.Open t.actor.hello.word world.now)) world).book world.now t.actor (opening (reply_to (calls.Book (events.Open t.actor.hello.word world.now)) world)) below
    (λ h key same.
    let reply = opened_is (told (book_of the_range world.book) (events.Open t.actor.hello.word world.now)) h key same in
    let got = open_key t.actor.hello.word world.now h.conn h.generation key world.book reply in
    let more = last_more the_range (answered the_range (events.Open t.actor.hello.word world.now) world.book) world.book (ap is_opened reply) in
    (omega (arith, got.0, more), got.0, got.1))))) all

performs_by : (world : World) (k : ℕ) (t : Transport) (wish : Wish) (call : Call) → slice_get world.transports k ≡ Some t → t.actor.wish ≡ wish → wanted wish t.actor.hello world.now ≡ Some call → IsDecided world.book → AllBelow world → Serves world (performs k call world)
performs_by world k t wishes.Nothing call found is wants decided_ all = absurd (cc)
performs_by world k t (wishes.Resume key) call found is wants decided_ all = let same : calls.Book (events.Resume key world.now) ≡ call = cc in subst (λ (c : Call). Serves world (performs k c world)) same (serve_resume world k t key found is decided_ all)
performs_by world k t wishes.Open call found is wants decided_ all = let same : calls.Book (events.Open t.actor.hello.word world.now) ≡ call = cc in subst (λ (c : Call). Serves world (performs k c world)) same (serve_open world k t found is all)
performs_by world k t (wishes.Lost holder) call found is wants decided_ all = let same : calls.Book (events.Lost holder.conn holder.generation world.now) ≡ call = cc in subst (λ (c : Call). Serves world (performs k c world)) same (serve_later world k t (wishes.Lost holder) (calls.Book (events.Lost holder.conn holder.generation world.now)) found is tt refl all)
performs_by world k t (wishes.Close holder) call found is wants decided_ all = let same : calls.Book (events.Close holder.conn holder.generation) ≡ call = cc in subst (λ (c : Call). Serves world (performs k c world)) same (serve_later world k t (wishes.Close holder) (calls.Book (events.Close holder.conn holder.generation)) found is tt refl all)
performs_by world k t (wishes.AskToAttach asked) call found is wants decided_ all = let same : calls.Dir (Ask asked.channel) ≡ call = cc in subst (λ (c : Call). Serves world (performs k c world)) same (serve_later world k t (wishes.AskToAttach asked) (calls.Dir (Ask asked.channel)) found is tt refl all)
performs_by world k t (wishes.Join asked number) call found is wants decided_ all = let same : calls.Chan number (Join asked.serial) ≡ call = cc in subst (λ (c : Call). Serves world (performs k c world)) same (serve_later world k t (wishes.Join asked number) (calls.Chan number (Join asked.serial)) found is tt refl all)
performs_by world k t (wishes.Begin p holder) call found is wants decided_ all = let same : calls.Book (events.Begin holder.conn holder.generation p.serial) ≡ call = cc in subst (λ (c : Call). Serves world (performs k c world)) same (serve_later world k t (wishes.Begin p holder) (calls.Book (events.Begin holder.conn holder.generation p.serial)) found is tt refl all)
performs_by world k t (wishes.AskToPut p holder) call found is wants decided_ all = let same : calls.Dir (Ask p.channel) ≡ call = cc in subst (λ (c : Call). Serves world (performs k c world)) same (serve_later world k t (wishes.AskToPut p holder) (calls.Dir (Ask p.channel)) found is tt refl all)
performs_by world k t (wishes.Put p holder number) call found is wants decided_ all = let same : calls.Chan number (Put holder.conn p.serial p.body world.now) ≡ call = cc in subst (λ (c : Call). Serves world (performs k c world)) same (serve_later world k t (wishes.Put p holder number) (calls.Chan number (Put holder.conn p.serial p.body world.now)) found is tt refl all)
performs_by world k t (wishes.Finish p holder outcome) call found is wants decided_ all = let same : calls.Book (events.End holder.conn holder.generation p.serial outcome) ≡ call = cc in subst (λ (c : Call). Serves world (performs k c world)) same (serve_later world k t (wishes.Finish p holder outcome) (calls.Book (events.End holder.conn holder.generation p.serial outcome)) found is tt refl all)

-- STEPS

pub serve_same : (world after : World) → last_number the_range world.book ≤ last_number the_range after.book → after.transports ≡ world.transports → after.clients ≡ world.clients → AllBelow world → Serves world after
serve_same world after more same clients all = record {
  given = more;
  holders = subst (AllByRecursion (λ (t : Transport). IsBelow after.book t.actor.holder)) (sym same) (all_weaker _ _ (λ t is. below_grows world.book after.book t.actor.holder more is) world.transports all);
  clients = clients;
  ready = λ name state own ready is k t at found uncut. ready is k t (sym (ap (λ (ts : List Transport). last_of (owned name 0 ts)) same) ∙ at) (subst (λ (ts : List Transport). slice_get ts k ≡ Some t) same found) uncut;
}

-- an actor does something by itself
serve_works : (world : World) (k : ℕ) (act : actor.State → actor.State) (on : Transport → Transport) → ((t : Transport) → (on t).actor ≡ t.actor) → ((t : Transport) → (on t).owner ≡ t.owner) → ((t : Transport) → (on t).cut ≡ t.cut) → ((s : actor.State) → IsSteady s (act s)) → AllBelow world → Serves world (on_transport k (λ t. works act (on t)) world)
serve_works world k act on same owners cuts steady all =
    serve_change world (on_transport k (λ t. works act (on t)) world) k (λ t. works act (on t)) refl (λ t. works_owner act (on t) ∙ owners t) (λ t uncut. sym (works_cut act (on t) ∙ cuts t) ∙ uncut) (omega arith) refl
    (λ t found. works_tells world.book world.book act (on t) t.actor
    (steady_tells world.book world.book t.actor (act (on t).actor) (subst (λ (s : actor.State). IsSteady s (act (on t).actor)) (same t) (steady (on t).actor)) (all_at (λ (t : Transport). IsBelow world.book t.actor.holder) k t world.transports found all))) all

steps_by : (world : World) (k : ℕ) (t : Transport) (o : Option Call) (ended cut : Bool) (next : Option Frame) (rests : Bool) → slice_get world.transports k ≡ Some t → next_call world.now t.actor ≡ o → IsDecided world.book → AllBelow world → Serves world (done k (deed_by o ended cut next rests) world)
steps_by world k t (Some call) ended cut next rests found is decided_ all = performs_by world k t t.actor.wish call found refl is decided_ all
steps_by world k t None true cut next rests found is decided_ all = serve_same world world (omega arith) refl refl all
steps_by world k t None false true next rests found is decided_ all = serve_works world k (over ends.LinkEnded) (λ u. u) (λ u. refl) (λ u. refl) (λ u. refl) (λ s. over_steady ends.LinkEnded s.ended s) all
steps_by world k t None false false (Some frame) rests found is decided_ all =
    serve_works world k (took (arrives frame) world.now) (λ u. record u { to_service = with_one_got u.to_service }) (λ u. refl) (λ u. refl) (λ u. refl) (λ s. took_steady (arrives frame) world.now s) all
steps_by world k t None false false None true found is decided_ all = serve_works world k (rested world.now) (λ u. u) (λ u. refl) (λ u. refl) (λ u. refl) (λ s. rested_steady world.now s) all
steps_by world k t None false false None false found is decided_ all = serve_same world world (omega arith) refl refl all

steps_of : (world : World) (k : ℕ) (o : Option Transport) → slice_get world.transports k ≡ o → IsDecided world.book → AllBelow world → Serves world (done k (deed_of world.now o) world)
steps_of world k None found decided_ all = serve_same world world (omega arith) refl refl all
steps_of world k (Some t) found decided_ all = steps_by world k t (next_call world.now t.actor) (is_some t.actor.ended) t.cut (slice_get t.to_service.put t.to_service.got) (does_rest world.now t.actor) found refl decided_ all

pub steps_serve : (world : World) (k : ℕ) → IsDecided world.book → AllBelow world → Serves world (steps k world)
steps_serve world k decided_ all = steps_of world k (slice_get world.transports k) refl decided_ all

-- READS AND PAGES

session_serve : (world : World) (k : ℕ) (call : Call) → ((t : Transport) → IsSteady t.actor (reads.answered call (reply_to call world) world.now t.actor)) → AllBelow world → Serves world (performs k call world)
session_serve world k call steady all =
    serve_call world k call (λ t found.
    steady_tells world.book (called call world).book t.actor (absorbed call (reply_to call world) world.now t.actor) (absorbed_steady t.actor.ended call (reply_to call world) world.now t.actor (steady t)) (below_at world call k t found all)) all

session_by : (world : World) (k : ℕ) (call : Call) → IsOfSession call → AllBelow world → Serves world (performs k call world)
session_by world k (calls.Chan number (Read from most)) of all =
    session_serve world k (calls.Chan number (Read from most)) (λ t. session_steady (λ name session. read_by name session (reading (reply_to (calls.Chan number (Read from most)) world)) world.now) (actor.numbered number t.actor.sessions) t.actor
    (λ name session. read_steady name session (reading (reply_to (calls.Chan number (Read from most)) world)) world.now t.actor)) all
session_by world k (calls.Chan number (MemberPage after most)) of all =
    session_serve world k (calls.Chan number (MemberPage after most)) (λ t. session_steady (λ name session. page_by name session (channel_reply (reply_to (calls.Chan number (MemberPage after most)) world)) world.now) (actor.numbered number t.actor.sessions) t.actor
    (λ name session. page_steady name session (channel_reply (reply_to (calls.Chan number (MemberPage after most)) world)) world.now t.actor)) all
session_by world k (calls.Chan number (ObjectPage after most)) of all =
    session_serve world k (calls.Chan number (ObjectPage after most)) (λ t. session_steady (λ name session. page_by name session (channel_reply (reply_to (calls.Chan number (ObjectPage after most)) world)) world.now) (actor.numbered number t.actor.sessions) t.actor
    (λ name session. page_steady name session (channel_reply (reply_to (calls.Chan number (ObjectPage after most)) world)) world.now t.actor)) all
session_by world k call of all = absurd of

called_if : (world : World) (k : ℕ) (o : Option Call) → ((call : Call) → o ≡ Some call → IsOfSession call) → AllBelow world → Serves world (performs_if k o world)
called_if world k None of all = serve_same world world (omega arith) refl refl all
called_if world k (Some call) of all = session_by world k call (of call refl) all

pub pages_serve : (world : World) (k : ℕ) (name : List ℕ) → AllBelow world → Serves world (pages k name world)
pages_serve world k name all = called_if world k (next_page k name world) (pages_are name (slice_get world.transports k)) all

pub polls_serve : (world : World) (k : ℕ) (name : List ℕ) → AllBelow world → Serves world (polls k name world)
polls_serve world k name all = called_if world k (next_poll k name world) (polls_are name (slice_get world.transports k)) all
