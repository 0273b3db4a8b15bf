-- Outcomes that the service has in hand, keeps or sends are true: each action keeps it.
use Rattle.std.proofs.Common.{◌≡◌, inl, inr, ℕ, suc, ◌<◌, Bool, true, false, List, [], ◌∷◌, ◌++◌, length, refl, sym, ◌∙◌, ap, subst, arith, length-append}
use Rattle.std.specs.Prelude.{Option, Some, None, slice_get, if◌then◌else◌, option_map, is_some, bytes_eq}
use Rattle.std.specs.List.{AllByRecursion}
use Rattle.rl_types.specs.declared.frames.Frame.{Frame}
use Rattle.rl_types.specs.declared.messages.Body.{Body}
use Rattle.rl_runs.specs.declared.commands.Hello.{Hello}
use Rattle.rl_events.specs.declared.book.BookEvent.{BookEvent}
use Rattle.rl_events.specs.declared.book.BookEvent.TheVariants as events
use Rattle.rl_events.specs.declared.book.BookReply.{BookReply}
use Rattle.rl_events.specs.declared.book.BookReply.TheVariants as book
use Rattle.rl_events.specs.declared.channel.ChannelEvent.{ChannelEvent}
use Rattle.rl_events.specs.declared.channel.ChannelEvent.TheVariants.{Put, Gone, Join, Read, MemberPage, ObjectPage, Tick}
use Rattle.rl_events.specs.declared.channel.Outcome.{Outcome}
use Rattle.rl_events.specs.declared.channel.Outcome.TheVariants.{Taken, Refused}
use Rattle.rl_events.specs.declared.channel.Verdict.{Verdict}
use Rattle.rl_events.specs.declared.channel.Verdict.TheVariants.{Done, Old}
use Rattle.rl_events.specs.declared.calls.End.{End}
use Rattle.rl_events.specs.declared.calls.End.TheVariants as ends
use Rattle.rl_events.specs.declared.calls.Call.{Call}
use Rattle.rl_events.specs.declared.calls.Call.TheVariants as calls
use Rattle.rl_events.specs.declared.calls.DirEvent.TheVariants.{Ask}
use Rattle.rl_events.specs.declared.calls.DirReply.{DirReply}
use Rattle.rl_events.specs.declared.calls.DirReply.TheVariants as dirs
use Rattle.rl_events.specs.declared.calls.Reply.{Reply}
use Rattle.rl_events.specs.declared.calls.Reply.TheVariants as replies
use Rattle.rl_connbook.specs.Records.{Answered}
use Rattle.rl_connbook.specs.Book.{book_of, told, answered}
use Rattle.rl_connbook.specs.Laws.{IsEndOf}
use Rattle.rl_connbook.proofs.Each.{all_weaker, all_append, all_some}
use Rattle.rl_connbook.proofs.Outcomes.{known_is_end}
use Rattle.rl_directory.specs.Directory.{number_of, is_full, new_number, asked_by}
use Rattle.rl_directory.specs.Directory as directory
use Rattle.rl_model.specs.History.{setting}
use Rattle.rl_model.specs.Verdict.{decisions, verdict}
use Rattle.rl_model.specs.Reply as channel
use Rattle.rl_clientmodel.specs.States.{ClientState}
use Rattle.rl_actormodel.specs.declared.parts.Publish.{Publish}
use Rattle.rl_actormodel.specs.declared.parts.Holder.{Holder}
use Rattle.rl_actormodel.specs.declared.parts.Wish.{Wish}
use Rattle.rl_actormodel.specs.declared.parts.Wish.TheVariants as wishes
use Rattle.rl_actormodel.specs.State as actor
use Rattle.rl_actormodel.specs.Ends.{over}
use Rattle.rl_actormodel.specs.Takes.{took}
use Rattle.rl_actormodel.specs.Wishes.{wanted, next_call}
use Rattle.rl_actormodel.specs.Replies.{Back, resuming, Opens, opening, Knows, beginning, HasNone, numbering, verdict_in, outcome_of, reading, channel_reply}
use Rattle.rl_actormodel.specs.Pagings.{page_by}
use Rattle.rl_actormodel.specs.Reads as reads
use Rattle.rl_actormodel.specs.Reads.{absorbed, answered_at, replied, read_by}
use Rattle.rl_actormodel.specs.Rests.{rested, does_rest}
use Rattle.rl_worldmodel.specs.World.{World, Transport, empty_world, the_epoch, the_range, the_site, with_one_got, new_transport, on_transport, changed_at, names, latest, last_of, owned, history, past_of}
use Rattle.rl_worldmodel.specs.Calls.{event_onto, named_by, with_name, reply_to, called, with_event}
use Rattle.rl_worldmodel.specs.Clients.{cut_off, put_unless, takes_frames, gives_frame}
use Rattle.rl_worldmodel.specs.Actors.{arrives, works, with_call, absorbs, performs, deed_by, deed_of, done, steps, takes_up, next_page, next_poll, performs_if, pages, polls}
use Rattle.rl_worldmodel.specs.Services.{expires, reaped, reaps, event_at, ages, feed_conn, fed_at, feeds}
use Rattle.rl_worldtold.specs.Given.{IsDecided}
use Rattle.rl_worldtold.specs.Told.{IsTaken}
use Rattle.rl_worldtold.specs.Truth.{Channels, names_of, IsTrueOf, IsTrueEnd, OnHolder, IsHeldBy, IsTrueWish, IsTrueFrame, IsTrueActor, IsTrueTransport, IsTrueService, IsLinked}
use Rattle.rl_worldtold.proofs.Shape.{all_at, all_take, changed_all, changed_one, changed_none, some_changed, get_below, get_after, owned_changed, name_beside, works_actor, works_owner, works_cut}
use Rattle.rl_worldtold.proofs.Keys.{resume_key, open_key}
use Rattle.rl_worldtold.proofs.Quiet.{IsQuiet}
use Rattle.rl_worldtold.proofs.Sessions.{IsOfSession, pages_are, polls_are}
use Rattle.rl_worldtold.proofs.Truths.{Grows, grows_takes, grows_name, grows_same, length_names, end_stays, transport_stays, IsSameOrNew, Becomes, works_true, nothing_true, Fits, IsNumbered, replied_true, over_true, took_true, rested_true, read_true, page_true, session_true}

-- THE WORLD AFTER AN ACTION OF THE SERVICE

-- what such an action makes of a world
pub record Goes (world after : World) : Type 0 where
  pub service : IsTrueService after
  pub grows : Grows world.channels after.channels
  pub clients : after.clients ≡ world.clients
  pub linked : (name : List ℕ) (state : ClientState) → IsLinked world name state → IsLinked after name state

stay : (world : World) → IsTrueService world → Goes world world
stay world h = record { service = h; grows = grows_same world.channels; clients = refl; linked = λ name state linked. linked }

holder_goes : (before after : Option Holder) (P : Holder → Type 0) → IsSameOrNew before after → OnHolder before P → OnHolder after P
holder_goes before after P (inl none) on = absurd (subst (λ (o : Option Holder). OnHolder o P) none on)
holder_goes before after P (inr same) on = subst (λ (o : Option Holder). OnHolder o P) (sym same) on

-- the latest transport of a client, after a change at one place
pub linked_on : (before after : World) (k : ℕ) (f : Transport → Transport) → after.transports ≡ changed_at k f before.transports → ((t : Transport) → (f t).owner ≡ t.owner) → ((t : Transport) → (f t).cut ≡ false → t.cut ≡ false)
    → ((t : Transport) → slice_get before.transports k ≡ Some t → IsSameOrNew t.actor.holder (f t).actor.holder) → (name : List ℕ) (state : ClientState) → IsLinked before name state → IsLinked after name state
linked_on before after k f same owners cuts holders name state linked on j u at found uncut =
    let here : slice_get (changed_at k f before.transports) j ≡ Some u = subst (λ (ts : List Transport). slice_get ts j ≡ Some u) same found in
    let at_before : latest name before ≡ Some j = sym (ap (λ (ts : List Transport). last_of (owned name 0 ts)) same ∙ ap last_of (owned_changed name 0 k f owners before.transports)) ∙ at in
    elim (get_after j k f u before.transports here) [
      | inl old ↦ linked on j u at_before old uncut
      | inr new ↦ holder_goes new.0.actor.holder u.actor.holder _
          (subst (λ (v : Transport). IsSameOrNew new.0.actor.holder v.actor.holder) (sym new.2) (holders new.0 new.3))
          (linked on j new.0 at_before new.1 (cuts new.0 (subst (λ (v : Transport). v.cut ≡ false) new.2 uncut)))
    ]

-- an actor works, where the channels may have grown and the book may have taken an event
service_on : (world after : World) (k : ℕ) (t : Transport) (f : Transport → Transport) → slice_get world.transports k ≡ Some t → Grows world.channels after.channels → after.transports ≡ world.transports
    → IsDecided after.book → AllByRecursion (λ (a : Answered). IsTrueEnd after.channels a.event) after.book → ((u : Transport) → (f u).owner ≡ u.owner) → ((u : Transport) → (f u).cut ≡ false → u.cut ≡ false) → IsTrueTransport after.channels (f t) → IsSameOrNew t.actor.holder (f t).actor.holder → IsTrueService world → after.clients ≡ world.clients → Goes world (on_transport k f after)
service_on world after k t f found g same decided_ ends_ owners cuts good keeps h clients =
    let all = all_weaker _ _ (transport_stays world.channels after.channels g) world.transports h.each in
    record {
      service = record {
        book = decided_;
        ends = ends_;
        each = subst (λ (ts : List Transport). AllByRecursion (IsTrueTransport after.channels) (changed_at k f ts)) (sym same)
            (changed_one (IsTrueTransport after.channels) k f t good world.transports found all);
      };
      grows = g;
      clients = clients;
      linked = linked_on world (on_transport k f after) k f (ap (changed_at k f) same) owners cuts
          (λ u found_u. let it : Some t ≡ Some u = sym found ∙ found_u in let is : t ≡ u = cc in subst (λ (v : Transport). IsSameOrNew v.actor.holder (f v).actor.holder) is keeps);
    }

works_holds : (act : actor.State → actor.State) (t : Transport) (before : Option Holder) → IsSameOrNew before (act t.actor).holder → IsSameOrNew before (works act t).actor.holder
works_holds act t before keeps = subst (λ (s : actor.State). IsSameOrNew before s.holder) (sym (works_actor act t)) keeps

works_uncut : (act : actor.State → actor.State) (t : Transport) → (works act t).cut ≡ false → t.cut ≡ false
works_uncut act t uncut = sym (works_cut act t) ∙ uncut

-- an actor absorbs a reply
service_absorbs : (world : World) (k : ℕ) (t : Transport) (call : Call) → slice_get world.transports k ≡ Some t → Grows world.channels (called call world).channels → (called call world).transports ≡ world.transports
    → IsDecided (called call world).book → AllByRecursion (λ (a : Answered). IsTrueEnd (called call world).channels a.event) (called call world).book → (IsTrueActor (called call world).channels t.actor → Becomes (called call world).channels t.actor (absorbed call (reply_to call world) world.now t.actor))
    → IsTrueService world → (called call world).clients ≡ world.clients → Goes world (performs k call world)
service_absorbs world k t call found g same decided_ ends_ step h clients =
    let after : Channels = (called call world).channels in
    let here = transport_stays world.channels after g t (all_at (IsTrueTransport world.channels) k t world.transports found h.each) in
    let b = step here.of_actor in
    service_on world (called call world) k t (absorbs call world) found g same decided_ ends_
    (λ u. works_owner (absorbed call (reply_to call world) world.now) (with_call call world u)) (λ u uncut. works_uncut (absorbed call (reply_to call world) world.now) (with_call call world u) uncut)
    (works_true after (absorbed call (reply_to call world) world.now) (with_call call world t) (record { good = b.good; keeps = b.keeps }) here.on_way)
    (works_holds (absorbed call (reply_to call world) world.now) (with_call call world t) t.actor.holder b.keeps) h clients

-- an actor does something by itself
service_works : (world : World) (k : ℕ) (t : Transport) (act : actor.State → actor.State) → slice_get world.transports k ≡ Some t → (IsTrueActor world.channels t.actor → Becomes world.channels t.actor (act t.actor)) → IsTrueService world → Goes world (on_transport k (works act) world)
service_works world k t act found step h =
    let here = all_at (IsTrueTransport world.channels) k t world.transports found h.each in
    let b = step here.of_actor in
    service_on world world k t (works act) found (grows_same world.channels) refl h.book h.ends (works_owner act) (works_uncut act) (works_true world.channels act t b here.on_way) (works_holds act t t.actor.holder b.keeps) h refl

-- the channels, and nothing else, changed
service_grows : (world after : World) → Grows world.channels after.channels → after.transports ≡ world.transports → after.book ≡ world.book → after.clients ≡ world.clients → IsTrueService world → Goes world after
service_grows world after g same book_ clients h = record {
  service = record {
    book = subst IsDecided (sym book_) h.book;
    ends = subst (λ (b : List Answered). AllByRecursion (λ (a : Answered). IsTrueEnd after.channels a.event) b) (sym book_) (all_weaker _ _ (λ a is. end_stays world.channels after.channels g a.event is) world.book h.ends);
    each = subst (λ (ts : List Transport). AllByRecursion (IsTrueTransport after.channels) ts) (sym same) (all_weaker _ _ (transport_stays world.channels after.channels g) world.transports h.each);
  };
  grows = g;
  clients = clients;
  linked = λ name state linked on j u at found uncut. linked on j u (sym (ap (λ (ts : List Transport). last_of (owned name 0 ts)) same) ∙ at) (subst (λ (ts : List Transport). slice_get ts j ≡ Some u) same found) uncut;
}

ends_grow : (world : World) (channels : Channels) → Grows world.channels channels → IsTrueService world → AllByRecursion (λ (a : Answered). IsTrueEnd channels a.event) world.book
ends_grow world channels g h = all_weaker _ _ (λ a is. end_stays world.channels channels g a.event is) world.book h.ends

-- an actor that is ended wants nothing more
absorbed_true : (channels : Channels) (o : Option End) (call : Call) (reply : Reply) (now : ℕ) (s : actor.State) → Becomes channels s (reads.answered call reply now s) → IsTrueActor channels s → Becomes channels s (answered_at o call reply now s)
absorbed_true channels None call reply now s b h = b
absorbed_true channels (Some why) call reply now s b h = record { good = nothing_true channels s h; keeps = inr refl }

-- WHAT IS TOLD FITS

below_by : (b : Bool) (o : Option ℕ) (n k : ℕ) → ((m : ℕ) → o ≡ Some m → m < k) → (if b then Some 0 else option_map (λ n. suc n) o) ≡ Some n → n < suc k
below_by true o n k more found = let same : 0 ≡ n = cc in omega (arith, same)
below_by false None n k more found = absurd (cc)
below_by false (Some m) n k more found = let same : suc m ≡ n = cc in omega (arith, same, more m refl)

number_below : (name : List ℕ) (n : ℕ) (ns : List (List ℕ)) → number_of name ns ≡ Some n → n < length ns
number_below name n [] found = absurd (cc)
number_below name n (other ∷ ns) found = below_by (bytes_eq name other) (number_of name ns) n (length ns) (λ m h. number_below name m ns h) found

-- what a name that is asked for makes of the channels
abbrev named_channels : Option ℕ → Bool → List ℕ → Channels → Channels
named_channels (Some number) full name channels = channels
named_channels None full name channels = if full then channels else channels ++ (name, []) ∷ []

abbrev named_reply : Option ℕ → Bool → List (List ℕ) → DirReply
named_reply (Some number) full ns = dirs.At number
named_reply None full ns = if full then dirs.Full (length ns) else dirs.At (length ns)

abbrev AskFits : Channels → DirReply → Type 0
AskFits channels reply = IsNumbered channels (numbering (replies.Dir reply)) × (numbering (replies.Dir reply) ≡ HasNone → is_full (names_of channels) ≡ true)

ask_fits : (name : List ℕ) (channels : Channels) (o : Option ℕ) (full : Bool) → ((n : ℕ) → o ≡ Some n → n < length (names_of channels)) → is_full (names_of channels) ≡ full
    → AskFits (named_channels o full name channels) (named_reply o full (names_of channels))
ask_fits name channels (Some m) full below is = (λ n found. let same : m ≡ n = cc in omega (arith, same, below m refl, length_names channels), λ none. absurd (cc))
ask_fits name channels None true below is = (λ n found. absurd (cc), λ none. is)
ask_fits name channels None false below is =
    (λ n found. let same : length (names_of channels) ≡ n = cc in omega (arith, same, length_names channels, length-append channels ((name, []) ∷ [])), λ none. absurd (cc))

-- the number told is a channel's, and where none is told the directory is full
named_fits : (o : Option ℕ) (name : List ℕ) (world : World) → ((n : ℕ) → o ≡ Some n → n < length (names world)) → AskFits (named_by o name world).channels (asked_by o (names world))
named_fits (Some m) name world below = ask_fits name world.channels (Some m) (is_full (names world)) below refl
named_fits None name world below = ask_fits name world.channels None (is_full (names world)) below refl

name_fits : (name : List ℕ) (world : World) → AskFits (with_name name world).channels (directory.told (names world) (Ask name))
name_fits name world = named_fits (number_of name (names world)) name world (λ n found. number_below name n (names world) found)

new_grows : (full : Bool) (name : List ℕ) (channels : Channels) → Grows channels (if full then channels else channels ++ (name, []) ∷ [])
new_grows true name channels = grows_same channels
new_grows false name channels = grows_name name channels

named_grows : (o : Option ℕ) (name : List ℕ) (world : World) → Grows world.channels (named_by o name world).channels
named_grows (Some number) name world = grows_same world.channels
named_grows None name world = new_grows (is_full (names world)) name world.channels

name_grows : (name : List ℕ) (world : World) → Grows world.channels (with_name name world).channels
name_grows name world = named_grows (number_of name (names world)) name world

-- which reply brings a connection back, and which opens one
pub resumed_is : (r : BookReply) (holder : Holder) → resuming (replies.Book r) ≡ Back holder → r ≡ book.Resumed holder.conn holder.generation
resumed_is (book.Resumed conn generation) holder is = let same : ◌≡◌ {A = Holder} (record { conn = conn; generation = generation }) holder = cc in ap (λ (h : Holder). book.Resumed h.conn h.generation) same
resumed_is r holder is = absurd (cc)

pub opened_is : (r : BookReply) (holder : Holder) (key : List ℕ) → opening (replies.Book r) ≡ Opens holder key → r ≡ book.Opened holder.conn holder.generation key
opened_is (book.Opened conn generation k) holder key is =
    let same : ◌≡◌ {A = Holder} (record { conn = conn; generation = generation }) holder = cc in
    let text : k ≡ key = cc in
    ap (λ (h : Holder). book.Opened h.conn h.generation k) same ∙ ap (λ (x : List ℕ). book.Opened holder.conn holder.generation x) text
opened_is r holder key is = absurd (cc)

-- what Known says is true, as each End was
knows_is : (r : BookReply) (outcome : Outcome) → beginning (replies.Book r) ≡ Knows outcome → r ≡ book.Known outcome
knows_is (book.Known x) outcome is = let same : x ≡ outcome = cc in ap (λ (y : Outcome). book.Known y) same
knows_is r outcome is = absurd (cc)

end_true : (channels : Channels) (conn serial : ℕ) (outcome : Outcome) (event : BookEvent) → IsTrueEnd channels event → IsEndOf conn serial outcome event → IsTrueOf channels conn serial outcome
end_true channels conn serial outcome (events.End c generation s (Some x)) is of =
    subst (IsTrueOf channels conn serial) of.2 (subst (λ m. IsTrueOf channels conn m x) of.1 (subst (λ m. IsTrueOf channels m s x) of.0 is))
end_true channels conn serial outcome event is of = absurd of

known_fits : (world : World) (conn generation serial : ℕ) (outcome : Outcome) → IsTrueService world → beginning (replies.Book (told (book_of the_range world.book) (events.Begin conn generation serial))) ≡ Knows outcome → IsTrueOf world.channels conn serial outcome
known_fits world conn generation serial outcome h is =
    all_some (λ (a : Answered). IsTrueEnd world.channels a.event) (λ (a : Answered). IsEndOf conn serial outcome a.event) (IsTrueOf world.channels conn serial outcome) world.book
    (λ a t e. end_true world.channels conn serial outcome a.event t e) h.ends
    (known_is_end the_range conn generation serial outcome world.book (knows_is (told (book_of the_range world.book) (events.Begin conn generation serial)) outcome is))

-- what a Put was answered is what the channel decided
done_is : (v : Verdict) (outcome : Outcome) → outcome_of v ≡ Some outcome → v ≡ Done outcome
done_is (Done x) outcome is = let same : x ≡ outcome = cc in ap (λ (y : Outcome). Done y) same
done_is Old outcome is = absurd (cc)

-- the verdict on a Put behind a history
abbrev verdict_on : List ChannelEvent → ℕ → ℕ → Body → ℕ → Verdict
verdict_on past conn serial body now = verdict (setting the_site (Put conn serial body now ∷ past)) (decisions the_site past) conn serial body

decided_so : (channels : Channels) (number conn serial now : ℕ) (body : Body) (c : List ℕ × List ChannelEvent) (outcome : Outcome) → slice_get channels number ≡ Some c → verdict_on c.1 conn serial body now ≡ Done outcome
    → IsTrueOf (changed_at number (event_onto (Put conn serial body now)) channels) conn serial outcome
decided_so channels number conn serial now body c (Taken place) found is =
    some_changed _ number (event_onto (Put conn serial body now)) c (inl ((refl, refl), subst (λ (v : Verdict). IsTaken (Some v)) (sym is) tt)) channels found
decided_so channels number conn serial now body c (Refused code) found is =
    inl (some_changed _ number (event_onto (Put conn serial body now)) c (inl ((refl, refl), ap (λ (v : Verdict). Some v) is)) channels found)

put_fits : (world : World) (number conn serial : ℕ) (body : Body) (v : Verdict) (outcome : Outcome) → number < length world.channels → verdict_in (replies.Chan (channel.reply the_epoch the_site (history number world) (Put conn serial body world.now))) ≡ Some v → outcome_of v ≡ Some outcome
    → IsTrueOf (changed_at number (event_onto (Put conn serial body world.now)) world.channels) conn serial outcome
put_fits world number conn serial body v outcome below said is =
    let c = get_below number world.channels below in
    let same : verdict_on (history number world) conn serial body world.now ≡ v = cc in
    decided_so world.channels number conn serial world.now body c.0 outcome c.1
    (subst (λ (past : List ChannelEvent). verdict_on past conn serial body world.now ≡ Done outcome) (ap past_of c.1) (same ∙ done_is v outcome is))

-- THE CALLS THAT ACTORS WANT

service_book : (world : World) (k : ℕ) (t : Transport) (wish : Wish) (event : BookEvent) → slice_get world.transports k ≡ Some t → t.actor.wish ≡ wish → IsTrueEnd world.channels event
    → Fits world.channels wish (replies.Book (told (book_of the_range world.book) event)) → IsTrueService world → Goes world (performs k (calls.Book event) world)
service_book world k t wish event found is true_end fits h =
    let reply : Reply = replies.Book (told (book_of the_range world.book) event) in
    service_absorbs world k t (calls.Book event) found (grows_same world.channels) refl (ap (λ (b : List Answered). answered the_range event b ∷ b) h.book) (true_end, h.ends)
    (λ good. absorbed_true world.channels t.actor.ended (calls.Book event) (replies.Book (told (book_of the_range world.book) event)) world.now t.actor
    (subst (λ (w : Wish). Becomes world.channels t.actor (replied w (replies.Book (told (book_of the_range world.book) event)) world.now t.actor)) (sym is) (replied_true world.channels wish (replies.Book (told (book_of the_range world.book) event)) world.now t.actor is fits good)) good) h refl

service_chan : (world : World) (k : ℕ) (t : Transport) (wish : Wish) (number : ℕ) (event : ChannelEvent) → slice_get world.transports k ≡ Some t → t.actor.wish ≡ wish
    → reads.answered (calls.Chan number event) (reply_to (calls.Chan number event) world) world.now t.actor ≡ replied t.actor.wish (reply_to (calls.Chan number event) world) world.now t.actor
    → Fits (changed_at number (event_onto event) world.channels) wish (reply_to (calls.Chan number event) world) → IsTrueService world → Goes world (performs k (calls.Chan number event) world)
service_chan world k t wish number event found is same fits h =
    let g = grows_takes number event world.channels in
    service_absorbs world k t (calls.Chan number event) found g refl h.book (ends_grow world (changed_at number (event_onto event) world.channels) g h)
    (λ good. absorbed_true (changed_at number (event_onto event) world.channels) t.actor.ended (calls.Chan number event) (reply_to (calls.Chan number event) world) world.now t.actor
    (subst (λ (s : actor.State). Becomes (changed_at number (event_onto event) world.channels) t.actor s) (sym (same ∙ ap (λ (w : Wish). replied w (reply_to (calls.Chan number event) world) world.now t.actor) is))
    (replied_true (changed_at number (event_onto event) world.channels) wish (reply_to (calls.Chan number event) world) world.now t.actor is fits good)) good) h refl

service_name : (world : World) (k : ℕ) (t : Transport) (wish : Wish) (name : List ℕ) → slice_get world.transports k ≡ Some t → t.actor.wish ≡ wish
    → Fits (with_name name world).channels wish (replies.Dir (directory.told (names world) (Ask name))) → IsTrueService world → Goes world (performs k (calls.Dir (Ask name)) world)
service_name world k t wish name found is fits h =
    let beside = name_beside name world in
    let g = name_grows name world in
    service_absorbs world k t (calls.Dir (Ask name)) found g beside.transports (subst IsDecided (sym beside.book) h.book)
    (subst (λ (b : List Answered). AllByRecursion (λ (a : Answered). IsTrueEnd (with_name name world).channels a.event) b) (sym beside.book) (ends_grow world (with_name name world).channels g h))
    (λ good. absorbed_true (with_name name world).channels t.actor.ended (calls.Dir (Ask name)) (replies.Dir (directory.told (names world) (Ask name))) world.now t.actor
    (subst (λ (w : Wish). Becomes (with_name name world).channels t.actor (replied w (replies.Dir (directory.told (names world) (Ask name))) world.now t.actor)) (sym is)
    (replied_true (with_name name world).channels wish (replies.Dir (directory.told (names world) (Ask name))) world.now t.actor is fits good)) good) h beside.clients

finish_end : (channels : Channels) (p : Publish) (holder : Holder) (o : Option Outcome) → IsTrueWish channels (wishes.Finish p holder o) → IsTrueEnd channels (events.End holder.conn holder.generation p.serial o)
finish_end channels p holder None is = tt
finish_end channels p holder (Some outcome) is = is

true_wish : (world : World) (k : ℕ) (t : Transport) (wish : Wish) → slice_get world.transports k ≡ Some t → t.actor.wish ≡ wish → IsTrueService world → IsTrueWish world.channels wish
true_wish world k t wish found is h = subst (IsTrueWish world.channels) is (all_at (IsTrueTransport world.channels) k t world.transports found h.each).of_actor.wish_true

performs_by : (world : World) (k : ℕ) (t : Transport) (wish : Wish) (call : Call) → slice_get world.transports k ≡ Some t → t.actor.wish ≡ wish → wanted wish t.actor.hello world.now ≡ Some call → IsTrueService world → Goes world (performs k call world)
performs_by world k t wishes.Nothing call found is wants h = absurd (cc)
performs_by world k t (wishes.Resume key) call found is wants h =
    let same : calls.Book (events.Resume key world.now) ≡ call = cc in subst (λ (c : Call). Goes world (performs k c world)) same (service_book world k t (wishes.Resume key) (events.Resume key world.now) found is tt
    (λ holder told_it. (resume_key key world.now holder.conn holder.generation world.book h.book (resumed_is (told (book_of the_range world.book) (events.Resume key world.now)) holder told_it)).1) h)
performs_by world k t wishes.Open call found is wants h =
    let same : calls.Book (events.Open t.actor.hello.word world.now) ≡ call = cc in subst (λ (c : Call). Goes world (performs k c world)) same (service_book world k t wishes.Open (events.Open t.actor.hello.word world.now) found is tt
    (λ holder key told_it. (open_key t.actor.hello.word world.now holder.conn holder.generation key world.book (opened_is (told (book_of the_range world.book) (events.Open t.actor.hello.word world.now)) holder key told_it)).2) h)
performs_by world k t (wishes.Lost holder) call found is wants h =
    let same : calls.Book (events.Lost holder.conn holder.generation world.now) ≡ call = cc in subst (λ (c : Call). Goes world (performs k c world)) same (service_book world k t (wishes.Lost holder) (events.Lost holder.conn holder.generation world.now) found is tt tt h)
performs_by world k t (wishes.Close holder) call found is wants h =
    let same : calls.Book (events.Close holder.conn holder.generation) ≡ call = cc in subst (λ (c : Call). Goes world (performs k c world)) same (service_book world k t (wishes.Close holder) (events.Close holder.conn holder.generation) found is tt tt h)
performs_by world k t (wishes.AskToAttach asked) call found is wants h =
    let same : calls.Dir (Ask asked.channel) ≡ call = cc in subst (λ (c : Call). Goes world (performs k c world)) same (service_name world k t (wishes.AskToAttach asked) asked.channel found is (name_fits asked.channel world).0 h)
performs_by world k t (wishes.Join asked number) call found is wants h =
    let same : calls.Chan number (Join asked.serial) ≡ call = cc in subst (λ (c : Call). Goes world (performs k c world)) same (service_chan world k t (wishes.Join asked number) number (Join asked.serial) found is refl tt h)
performs_by world k t (wishes.Begin p holder) call found is wants h =
    let same : calls.Book (events.Begin holder.conn holder.generation p.serial) ≡ call = cc in
    subst (λ (c : Call). Goes world (performs k c world)) same
    (service_book world k t (wishes.Begin p holder) (events.Begin holder.conn holder.generation p.serial) found is tt (λ outcome knows. known_fits world holder.conn holder.generation p.serial outcome h knows) h)
performs_by world k t (wishes.AskToPut p holder) call found is wants h =
    let same : calls.Dir (Ask p.channel) ≡ call = cc in subst (λ (c : Call). Goes world (performs k c world)) same (service_name world k t (wishes.AskToPut p holder) p.channel found is (name_fits p.channel world) h)
performs_by world k t (wishes.Put p holder number) call found is wants h =
    let same : calls.Chan number (Put holder.conn p.serial p.body world.now) ≡ call = cc in
    subst (λ (c : Call). Goes world (performs k c world)) same
    (service_chan world k t (wishes.Put p holder number) number (Put holder.conn p.serial p.body world.now) found is refl
    (λ v said outcome so. put_fits world number holder.conn p.serial p.body v outcome (true_wish world k t (wishes.Put p holder number) found is h) said so) h)
performs_by world k t (wishes.Finish p holder outcome) call found is wants h =
    let same : calls.Book (events.End holder.conn holder.generation p.serial outcome) ≡ call = cc in
    subst (λ (c : Call). Goes world (performs k c world)) same
    (service_book world k t (wishes.Finish p holder outcome) (events.End holder.conn holder.generation p.serial outcome) found is (finish_end world.channels p holder outcome (true_wish world k t (wishes.Finish p holder outcome) found is h)) tt h)

-- ONE STEP

taken_up : (world : World) (k : ℕ) (t : Transport) (frame : Frame) → slice_get world.transports k ≡ Some t → IsTrueService world → Goes world (on_transport k (takes_up frame world.now) world)
taken_up world k t frame found h =
    let here = all_at (IsTrueTransport world.channels) k t world.transports found h.each in
    let b = took_true world.channels (arrives frame) world.now t.actor here.of_actor in
    service_on world world k t (takes_up frame world.now) found (grows_same world.channels) refl h.book h.ends
    (λ u. works_owner (took (arrives frame) world.now) (record u { to_service = with_one_got u.to_service })) (λ u uncut. works_uncut (took (arrives frame) world.now) (record u { to_service = with_one_got u.to_service }) uncut)
    (works_true world.channels (took (arrives frame) world.now) (record t { to_service = with_one_got t.to_service }) (record { good = b.good; keeps = b.keeps }) here.on_way)
    (works_holds (took (arrives frame) world.now) (record t { to_service = with_one_got t.to_service }) t.actor.holder b.keeps) h refl

steps_by : (world : World) (k : ℕ) (t : Transport) (o : Option Call) (ended cut : Bool) (next : Option Frame) (rests : Bool) → slice_get world.transports k ≡ Some t → next_call world.now t.actor ≡ o → IsTrueService world → Goes world (done k (deed_by o ended cut next rests) world)
steps_by world k t (Some call) ended cut next rests found is h = performs_by world k t t.actor.wish call found refl is h
steps_by world k t None true cut next rests found is h = stay world h
steps_by world k t None false true next rests found is h = service_works world k t (over ends.LinkEnded) found (λ good. over_true world.channels ends.LinkEnded t.actor.ended t.actor good) h
steps_by world k t None false false (Some frame) rests found is h = taken_up world k t frame found h
steps_by world k t None false false None true found is h = service_works world k t (rested world.now) found (λ good. rested_true world.channels world.now t.actor good) h
steps_by world k t None false false None false found is h = stay world h

steps_of : (world : World) (k : ℕ) (o : Option Transport) → slice_get world.transports k ≡ o → IsTrueService world → Goes world (done k (deed_of world.now o) world)
steps_of world k None found h = stay world h
steps_of world k (Some t) found h = steps_by world k t (next_call world.now t.actor) (is_some t.actor.ended) t.cut (slice_get t.to_service.put t.to_service.got) (does_rest world.now t.actor) found refl h

-- READS AND PAGES

session_call : (world : World) (k : ℕ) (t : Transport) (number : ℕ) (event : ChannelEvent) → slice_get world.transports k ≡ Some t
    → ((channels : Channels) → IsTrueActor channels t.actor → Becomes channels t.actor (reads.answered (calls.Chan number event) (reply_to (calls.Chan number event) world) world.now t.actor)) → IsTrueService world → Goes world (performs k (calls.Chan number event) world)
session_call world k t number event found step h =
    let g = grows_takes number event world.channels in
    service_absorbs world k t (calls.Chan number event) found g refl h.book (ends_grow world (changed_at number (event_onto event) world.channels) g h)
    (λ good. absorbed_true (changed_at number (event_onto event) world.channels) t.actor.ended (calls.Chan number event) (reply_to (calls.Chan number event) world) world.now t.actor (step (changed_at number (event_onto event) world.channels) good) good) h refl

-- where there is no such transport the channel takes the event all the same
no_session : (world : World) (k number : ℕ) (event : ChannelEvent) → slice_get world.transports k ≡ None → IsTrueService world → Goes world (performs k (calls.Chan number event) world)
no_session world k number event found h =
    service_grows world (performs k (calls.Chan number event) world) (grows_takes number event world.channels) (changed_none k (absorbs (calls.Chan number event) world) world.transports found) refl refl h

session_by : (world : World) (k : ℕ) (o : Option Transport) (call : Call) → slice_get world.transports k ≡ o → IsOfSession call → IsTrueService world → Goes world (performs k call world)
session_by world k None (calls.Chan number (Read from most)) found of h = no_session world k number (Read from most) found h
session_by world k None (calls.Chan number (MemberPage after most)) found of h = no_session world k number (MemberPage after most) found h
session_by world k None (calls.Chan number (ObjectPage after most)) found of h = no_session world k number (ObjectPage after most) found h
session_by world k (Some t) (calls.Chan number (Read from most)) found of h =
    session_call world k t number (Read from most) found
    (λ channels good. session_true channels (λ name session. read_by name session (reading (reply_to (calls.Chan number (Read from most)) world)) world.now) (actor.numbered number t.actor.sessions) t.actor
    (λ name session. read_true channels name session (reading (reply_to (calls.Chan number (Read from most)) world)) world.now t.actor good) good) h
session_by world k (Some t) (calls.Chan number (MemberPage after most)) found of h =
    session_call world k t number (MemberPage after most) found
    (λ channels good. session_true channels (λ name session. page_by name session (channel_reply (reply_to (calls.Chan number (MemberPage after most)) world)) world.now) (actor.numbered number t.actor.sessions) t.actor
    (λ name session. page_true channels name session (channel_reply (reply_to (calls.Chan number (MemberPage after most)) world)) world.now t.actor good) good) h
session_by world k (Some t) (calls.Chan number (ObjectPage after most)) found of h =
    session_call world k t number (ObjectPage after most) found
    (λ channels good. session_true channels (λ name session. page_by name session (channel_reply (reply_to (calls.Chan number (ObjectPage after most)) world)) world.now) (actor.numbered number t.actor.sessions) t.actor
    (λ name session. page_true channels name session (channel_reply (reply_to (calls.Chan number (ObjectPage after most)) world)) world.now t.actor good) good) h
session_by world k o call found of h = absurd of

called_if : (world : World) (k : ℕ) (o : Option Call) → ((call : Call) → o ≡ Some call → IsOfSession call) → IsTrueService world → Goes world (performs_if k o world)
called_if world k None of h = stay world h
called_if world k (Some call) of h = session_by world k (slice_get world.transports k) call refl (of call refl) h

-- ALL ACTIONS OF THE SERVICE

service_takes : (world : World) (number : ℕ) (event : ChannelEvent) → IsTrueService world → Goes world (with_event number event world)
service_takes world number event h = service_grows world (with_event number event world) (grows_takes number event world.channels) refl refl refl h

reaped_true : (world : World) (queue : List (ℕ × ℕ)) → IsTrueService world → Goes world (reaped queue world)
reaped_true world [] h = stay world h
reaped_true world (pair ∷ more) h = service_grows world (with_event pair.1 (Gone pair.0 world.now) (record world { queue = more })) (grows_takes pair.1 (Gone pair.0 world.now) world.channels) refl refl refl h

aged_true : (world : World) (o : Option ℕ) → IsTrueService world → Goes world (event_at o (Tick world.now) world)
aged_true world None h = stay world h
aged_true world (Some number) h = service_takes world number (Tick world.now) h

fed_true : (world : World) (o : Option ℕ) (body : Body) → IsTrueService world → Goes world (fed_at o body world)
fed_true world None body h = stay world h
fed_true world (Some number) body h =
    service_grows world (fed_at (Some number) body world) (grows_takes number (Put feed_conn world.fed body world.now) world.channels) refl refl refl h

pub steps_true : (world : World) (k : ℕ) → IsTrueService world → Goes world (steps k world)
steps_true world k h = steps_of world k (slice_get world.transports k) refl h

pub pages_true : (world : World) (k : ℕ) (name : List ℕ) → IsTrueService world → Goes world (pages k name world)
pages_true world k name h = called_if world k (next_page k name world) (pages_are name (slice_get world.transports k)) h

pub polls_true : (world : World) (k : ℕ) (name : List ℕ) → IsTrueService world → Goes world (polls k name world)
polls_true world k name h = called_if world k (next_poll k name world) (polls_are name (slice_get world.transports k)) h

pub expires_true : (world : World) → IsTrueService world → Goes world (expires world)
expires_true world h = record { service = record { book = ap (λ (b : List Answered). answered the_range (events.Expire world.now) b ∷ b) h.book; ends = (tt, h.ends); each = h.each }; grows = grows_same world.channels; clients = refl; linked = λ name state linked. linked }

pub reaps_true : (world : World) → IsTrueService world → Goes world (reaps world)
reaps_true world h = reaped_true world world.queue h

pub ages_true : (world : World) (name : List ℕ) → IsTrueService world → Goes world (ages name world)
ages_true world name h = aged_true world (number_of name (names world)) h

pub names_true : (world : World) (name : List ℕ) → IsTrueService world → Goes world (with_name name world)
names_true world name h = let beside = name_beside name world in service_grows world (with_name name world) (name_grows name world) beside.transports beside.book beside.clients h

pub feeds_true : (world : World) (name : List ℕ) (body : Body) → IsTrueService world → Goes world (feeds name body world)
feeds_true world name body h = fed_true world (number_of name (names world)) body h

-- WHAT CLIENTS DO

sent_true : (channels : Channels) (frames : List Frame) (cut : Bool) (t : Transport) → IsTrueTransport channels t → IsTrueTransport channels (put_unless cut frames t)
sent_true channels frames true t h = h
sent_true channels frames false t h = record { of_actor = h.of_actor; on_way = h.on_way }

first_true : (channels : Channels) (o : Option (List ℕ)) → IsHeldBy None (actor.first_wish o) × IsTrueWish channels (actor.first_wish o)
first_true channels None = (refl, tt)
first_true channels (Some key) = (refl, tt)

new_true : (channels : Channels) (name : List ℕ) (hello : Hello) (now : ℕ) → IsTrueTransport channels (new_transport name hello now)
new_true channels name hello now = record {
  of_actor = record { held = (first_true channels hello.resume).0; wish_true = (first_true channels hello.resume).1; known = tt; put_out = tt };
  on_way = tt;
}

pub begins_service : IsTrueService empty_world
begins_service = record { book = refl; ends = tt; each = tt }

pub quiet_service : IsQuiet IsTrueService
quiet_service = record {
  of_client = λ world name change h. record { book = h.book; ends = h.ends; each = h.each };
  of_new = λ world name h. record { book = h.book; ends = h.ends; each = h.each };
  of_cut = λ world k h. record { book = h.book; ends = h.ends; each = changed_all (IsTrueTransport world.channels) k cut_off (λ t is. record { of_actor = is.of_actor; on_way = all_take (IsTrueFrame world.channels t.actor.holder) t.to_client.got t.to_client.put is.on_way }) world.transports h.each };
  of_sent = λ world k frames h. record { book = h.book; ends = h.ends; each = changed_all (IsTrueTransport world.channels) k (takes_frames frames) (λ t is. sent_true world.channels frames t.cut t is) world.transports h.each };
  of_got = λ world k frame is h. record { book = h.book; ends = h.ends; each = changed_all (IsTrueTransport world.channels) k gives_frame (λ t good. record { of_actor = good.of_actor; on_way = good.on_way }) world.transports h.each };
  of_opened = λ world name hello h. record { book = h.book; ends = h.ends; each = all_append _ world.transports (new_transport name hello world.now ∷ []) h.each (new_true world.channels name hello world.now, tt) };
  of_time = λ world span h. record { book = h.book; ends = h.ends; each = h.each };
}
