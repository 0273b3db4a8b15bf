-- Histories are orderly: each action keeps what they are orderly by.
use Rattle.std.proofs.Common.{◌≡◌, ℕ, zero, suc, ◌+◌, ◌≤◌, Bool, true, false, List, [], ◌∷◌, ◌++◌, length, flat_map, refl, sym, ◌∙◌, ap, subst, arith}
use Rattle.std.specs.Prelude.{Option, Some, None, slice_get, if◌then◌else◌, is_some, ⊤, ◌==◌}
use Rattle.std.specs.List.{AllByRecursion}
use Rattle.std.proofs.lemmas.Bool.Decides.{nat_tests}
use Rattle.rl_numbers.specs.declared.limits.TheConstants.{MAX_PLACE}
use Rattle.rl_types.specs.declared.frames.Frame.{Frame}
use Rattle.rl_types.specs.declared.messages.Body.{Body}
use Rattle.rl_types.specs.declared.messages.Entry.{Entry}
use Rattle.rl_types.specs.declared.presence.PresenceItem.{PresenceItem}
use Rattle.rl_events.specs.declared.book.BookEvent.{BookEvent}
use Rattle.rl_events.specs.declared.book.BookEvent.TheVariants as events
use Rattle.rl_events.specs.declared.book.BookReply.{BookReply}
use Rattle.rl_events.specs.declared.book.BookReply.TheVariants as book
use Rattle.rl_events.specs.declared.channel.ChannelEvent.{ChannelEvent}
use Rattle.rl_events.specs.declared.channel.ChannelEvent.TheVariants.{Put, Gone, Join, Read, MemberPage, ObjectPage, Tick}
use Rattle.rl_events.specs.declared.calls.End.{End}
use Rattle.rl_events.specs.declared.calls.End.TheVariants as ends
use Rattle.rl_events.specs.declared.calls.Call.{Call}
use Rattle.rl_events.specs.declared.calls.Call.TheVariants as calls
use Rattle.rl_events.specs.declared.calls.DirEvent.TheVariants.{Ask}
use Rattle.rl_events.specs.declared.calls.Reply.{Reply}
use Rattle.rl_events.specs.declared.calls.Reply.TheVariants as replies
use Rattle.rl_connbook.specs.Records.{Answered}
use Rattle.rl_connbook.specs.Book.{book_of, told, answered}
use Rattle.rl_connbook.specs.Laws.{SomeOf}
use Rattle.rl_connbook.proofs.Each.{all_weaker, all_append, all_some}
use Rattle.rl_directory.specs.Directory.{number_of, is_full}
use Rattle.rl_model.specs.History.{setting}
use Rattle.rl_model.specs.Verdict.{Judgement, Adds, entry_if, entry_of, entry_of_gone, gone_entry, judged, members_on, entries, decisions, decided}
use Rattle.rl_actormodel.specs.declared.parts.Publish.{Publish}
use Rattle.rl_actormodel.specs.declared.parts.Holder.{Holder}
use Rattle.rl_actormodel.specs.declared.parts.Wish.{Wish}
use Rattle.rl_actormodel.specs.declared.parts.Wish.TheVariants as wishes
use Rattle.rl_actormodel.specs.State as actor
use Rattle.rl_actormodel.specs.Ends.{over}
use Rattle.rl_actormodel.specs.Takes.{took}
use Rattle.rl_actormodel.specs.Wishes.{wanted, next_call}
use Rattle.rl_actormodel.specs.Replies.{reading, channel_reply}
use Rattle.rl_actormodel.specs.Reads as reads
use Rattle.rl_actormodel.specs.Pagings.{page_by}
use Rattle.rl_actormodel.specs.Reads.{absorbed, answered_at, replied, read_by}
use Rattle.rl_actormodel.specs.Rests.{rested, does_rest}
use Rattle.rl_worldmodel.specs.World.{World, Transport, empty_world, the_range, the_site, with_one_got, new_transport, on_transport, changed_at, names}
use Rattle.rl_worldmodel.specs.Calls.{event_onto, named_by, with_name, reply_to, called, with_event}
use Rattle.rl_worldmodel.specs.Clients.{cut_off, put_unless, takes_frames, gives_frame}
use Rattle.rl_worldmodel.specs.Actors.{arrives, works, with_call, absorbs, performs, deed_by, deed_of, done, takes_up, next_page, next_poll, performs_if}
use Rattle.rl_worldmodel.specs.Services.{numbers_from, with_each, pairs, expires, reaped, event_at, feed_conn, fed_at}
use Rattle.rl_worldtold.specs.Orderly.{IsGoneOf, IsBefore, ArePutsBefore, HasPutsBefore, PutsComeBeforeGone, IsOrderlyEvent, IsOrderly, HasOrderlyHistories, HistoriesAreOrderly}
use Rattle.rl_worldtold.specs.Orders.{flight, one, in_flight, IsSpent, IsGoneBy, IsOrderedPast, IsOrderedBy, IsOrdered}
use Rattle.rl_worldtold.specs.Runs.{HoldsOfRuns}
use Rattle.rl_worldtold.proofs.Shape.{changed_all, name_beside, works_actor}
use Rattle.rl_worldtold.proofs.Quiet.{IsQuiet}
use Rattle.rl_worldtold.proofs.Sessions.{IsOfSession, pages_are, polls_are}
use Rattle.rl_worldtold.proofs.Runs.{runs_hold, runs_so, IsServed, each_keeps}
use Rattle.rl_worldtold.proofs.Books.{spent_stays, expired_spent, holding_on, holding_less, May}
use Rattle.rl_worldtold.proofs.Flights.{flights_changed, flights_less, flights_append, flight_after, IsWanted, replied_flight, IsBegin, told_begin, IsEnding, told_ending, ends_flight, less_over, less_came, less_rested, less_read, less_page, less_session}

-- FEWER PUTS IN FLIGHT

ordered_less : (b : List Answered) (queue : List (ℕ × ℕ)) (pasts : List (List ℕ × List ChannelEvent)) (fl less : ℕ → ℕ) → ((conn : ℕ) → less conn ≤ fl conn) → IsOrderedBy b queue pasts fl → IsOrderedBy b queue pasts less
ordered_less b queue pasts fl less least h = record { holding = holding_less b fl less least h.holding; queued = h.queued; each = h.each }

-- a transport is changed so that no put begins
ordered_on : (world : World) (k : ℕ) (f : Transport → Transport) → ((t : Transport) (conn : ℕ) → one conn (flight (f t).actor.wish) ≤ one conn (flight t.actor.wish)) → IsOrdered world → IsOrdered (on_transport k f world)
ordered_on world k f less h = ordered_less world.book world.queue world.channels _ _ (λ conn. flights_less conn k f (λ t. less t conn) world.transports) h

-- what an actor's work begins is what the actor wants
less_works : (act : actor.State → actor.State) (t : Transport) (conn n : ℕ) → one conn (flight (act t.actor).wish) ≤ n → one conn (flight (works act t).actor.wish) ≤ n
less_works act t conn n low = let same : one conn (flight (works act t).actor.wish) ≡ one conn (flight (act t.actor).wish) = ap (λ (s : actor.State). one conn (flight s.wish)) (works_actor act t) in omega (arith, low, same)

-- THE BOOK TAKES AN EVENT

past_stays : (event : BookEvent) (b : List Answered) (past : List ChannelEvent) → IsOrderedPast b past → IsOrderedPast (answered the_range event b ∷ b) past
past_stays event b past h = record { gone = all_weaker _ _ (gone_stays) past h.gone; puts = h.puts }
  where
    gone_stays : (e : ChannelEvent) → IsGoneBy (IsSpent b) e → IsGoneBy (IsSpent (answered the_range event b ∷ b)) e
    gone_stays (Gone conn now) spent = spent_stays event b conn spent
    gone_stays e spent = tt

ordered_book : (event : BookEvent) (b : List Answered) (queue : List (ℕ × ℕ)) (pasts : List (List ℕ × List ChannelEvent)) (fl more : ℕ → ℕ) → May event (told (book_of the_range b) event) fl more
    → IsOrderedBy b queue pasts fl → IsOrderedBy (answered the_range event b ∷ b) queue pasts more
ordered_book event b queue pasts fl more may h = record {
  holding = holding_on event b fl more may h.holding;
  queued = all_weaker _ _ (λ pair spent. spent_stays event b pair.0 spent) queue h.queued;
  each = all_weaker _ _ (λ c past. past_stays event b c.1 past) pasts h.each;
}

-- A CHANNEL TAKES AN EVENT

-- a Put of a connection that was not given up, a Gone of one that was, or any other event
abbrev IsTimely : List Answered → ChannelEvent → Type 0
IsTimely b (Put conn serial body now) = IsSpent b conn → ⊥
IsTimely b (Gone conn now) = IsSpent b conn
IsTimely b event = ⊤

never_gone : (b : List Answered) (conn : ℕ) (past : List ChannelEvent) → (IsSpent b conn → ⊥) → AllByRecursion (IsGoneBy (IsSpent b)) past → SomeOf (IsGoneOf conn) past → ⊥
never_gone b conn past never each some = all_some (IsGoneBy (IsSpent b)) (IsGoneOf conn) ⊥ past gone_is each some
  where
    gone_is : (e : ChannelEvent) → IsGoneBy (IsSpent b) e → IsGoneOf conn e → ⊥
    gone_is (Gone c now) spent is = never (subst (IsSpent b) is spent)
    gone_is e spent is = absurd is

past_takes : (b : List Answered) (event : ChannelEvent) (past : List ChannelEvent) → IsTimely b event → IsOrderedPast b past → IsOrderedPast b (event ∷ past)
past_takes b (Put conn serial body now) past timely h = record { gone = (tt, h.gone); puts = (never_gone b conn past timely h.gone, h.puts) }
past_takes b (Gone conn now) past timely h = record { gone = (timely, h.gone); puts = (tt, h.puts) }
past_takes b event past timely h = record { gone = (tt, h.gone); puts = (tt, h.puts) }

ordered_takes : (b : List Answered) (queue : List (ℕ × ℕ)) (pasts : List (List ℕ × List ChannelEvent)) (fl : ℕ → ℕ) (number : ℕ) (event : ChannelEvent) → IsTimely b event
    → IsOrderedBy b queue pasts fl → IsOrderedBy b queue (changed_at number (event_onto event) pasts) fl
ordered_takes b queue pasts fl number event timely h = record {
  holding = h.holding;
  queued = h.queued;
  each = changed_all (λ (c : List ℕ × List ChannelEvent). IsOrderedPast b c.1) number (event_onto event) (λ c past. past_takes b event c.1 timely past) pasts h.each;
}

new_channel : (b : List Answered) (queue : List (ℕ × ℕ)) (pasts : List (List ℕ × List ChannelEvent)) (fl : ℕ → ℕ) (name : List ℕ) (full : Bool)
    → IsOrderedBy b queue pasts fl → IsOrderedBy b queue (if full then pasts else pasts ++ (name, []) ∷ []) fl
new_channel b queue pasts fl name true h = h
new_channel b queue pasts fl name false h = record {
  holding = h.holding;
  queued = h.queued;
  each = all_append _ pasts ((name, []) ∷ []) h.each (record { gone = tt; puts = tt }, tt);
}

named_ordered : (o : Option ℕ) (name : List ℕ) (world : World) → IsOrdered world → IsOrdered (named_by o name world)
named_ordered (Some number) name world h = h
named_ordered None name world h = new_channel world.book world.queue world.channels (λ conn. in_flight conn world.transports) name (is_full (names world)) h

name_ordered : (name : List ℕ) (world : World) → IsOrdered world → IsOrdered (with_name name world)
name_ordered name world h = named_ordered (number_of name (names world)) name world h

-- A CALL IS PERFORMED

-- what is in flight after a reply
after_reply : (conn : ℕ) (ended : Option End) (call : Call) (wish : Wish) (reply : Reply) (now : ℕ) (s : actor.State) → IsWanted wish → s.wish ≡ wish → reads.answered call reply now s ≡ replied wish reply now s
    → one conn (flight (answered_at ended call reply now s).wish) ≤ one conn (flight_after wish reply)
after_reply conn None call wish reply now s some is same =
    let after : one conn (flight (reads.answered call reply now s).wish) ≡ one conn (flight_after wish reply) = ap (λ (t : actor.State). one conn (flight t.wish)) same ∙ ap (one conn) (replied_flight wish some reply now s (ap flight is)) in
    omega (arith, after)
after_reply conn (Some why) call wish reply now s some is same = omega arith

fl_after : (a b c d e : ℕ) → a + b ≡ c + d → d ≤ e → a + b ≤ c + e
fl_after a b c d e is low = omega (arith, is, low)

-- the puts in flight after a call that this actor wants
performed : (conn k : ℕ) (call : Call) (world : World) (wish : Wish) (t : Transport) (ts : List Transport) → slice_get ts k ≡ Some t → t.actor.wish ≡ wish → IsWanted wish
    → reads.answered call (reply_to call world) world.now t.actor ≡ replied wish (reply_to call world) world.now t.actor
    → in_flight conn (changed_at k (absorbs call world) ts) + one conn (flight wish) ≤ in_flight conn ts + one conn (flight_after wish (reply_to call world))
performed conn k call world wish t ts found is some same =
    subst (λ (w : Wish). in_flight conn (changed_at k (absorbs call world) ts) + one conn (flight w) ≤ in_flight conn ts + one conn (flight_after wish (reply_to call world))) is
    (fl_after _ _ _ _ _ (flights_changed conn k (absorbs call world) t ts found)
    (less_works (absorbed call (reply_to call world) world.now) (with_call call world t) conn _ (after_reply conn t.actor.ended call wish (reply_to call world) world.now t.actor some is same)))

-- a call that is no event of the book, and leaves in flight what was
performs_other : (world : World) (k : ℕ) (call : Call) (wish : Wish) (t : Transport) → slice_get world.transports k ≡ Some t → t.actor.wish ≡ wish → IsWanted wish
    → reads.answered call (reply_to call world) world.now t.actor ≡ replied wish (reply_to call world) world.now t.actor → flight_after wish (reply_to call world) ≡ flight wish
    → (called call world).transports ≡ world.transports → IsOrdered (called call world) → IsOrdered (performs k call world)
performs_other world k call wish t found is some same stays kept h =
    ordered_less (called call world).book (called call world).queue (called call world).channels (λ conn. in_flight conn (called call world).transports) _
    (λ conn. least conn) h
  where
    least : (conn : ℕ) → in_flight conn (changed_at k (absorbs call world) (called call world).transports) ≤ in_flight conn (called call world).transports
    least conn =
        let p = performed conn k call world wish t (called call world).transports (ap (λ (ts : List Transport). slice_get ts k) kept ∙ found) is some same in
        let q : one conn (flight_after wish (reply_to call world)) ≡ one conn (flight wish) = ap (one conn) stays in
        omega (arith, p, q)

-- an event of the book
performs_book : (world : World) (k : ℕ) (event : BookEvent) (wish : Wish) (t : Transport) → slice_get world.transports k ≡ Some t → t.actor.wish ≡ wish → IsWanted wish
    → ((more : ℕ → ℕ) → ((conn : ℕ) → more conn + one conn (flight wish) ≤ in_flight conn world.transports + one conn (flight_after wish (replies.Book (told (book_of the_range world.book) event)))) → May event (told (book_of the_range world.book) event) (λ conn. in_flight conn world.transports) more)
    → IsOrdered world → IsOrdered (performs k (calls.Book event) world)
performs_book world k event wish t found is some may h =
    ordered_book event world.book world.queue world.channels (λ conn. in_flight conn world.transports) _
    (may _ (λ conn. performed conn k (calls.Book event) world wish t world.transports found is some (ap (λ (w : Wish). replied w (reply_to (calls.Book event) world) world.now t.actor) is))) h

-- THE CALLS THAT ACTORS WANT

flights_at : (conn k : ℕ) (t : Transport) (ts : List Transport) → slice_get ts k ≡ Some t → one conn (flight t.actor.wish) ≤ in_flight conn ts
flights_at conn k t [] found = absurd (cc)
flights_at conn zero t (u ∷ ts) found = let same : t ≡ u = cc in let low : one conn (flight t.actor.wish) ≡ one conn (flight u.actor.wish) = ap (λ (v : Transport). one conn (flight v.actor.wish)) same in omega (arith, low)
flights_at conn (suc k) t (u ∷ ts) found = omega (arith, flights_at conn k t ts found)

one_self : (conn : ℕ) → one conn (Some conn) ≡ 1
one_self conn = let same : (conn == conn) ≡ true = grind (arith, nat_tests) in ap (λ (b : Bool). if b then 1 else 0) same

may_begin : (p : Publish) (holder : Holder) (generation serial : ℕ) (r : BookReply) → IsBegin r → (fl more : ℕ → ℕ)
    → ((conn : ℕ) → more conn + 0 ≤ fl conn + one conn (flight_after (wishes.Begin p holder) (replies.Book r))) → May (events.Begin holder.conn generation serial) r fl more
may_begin p holder generation serial book.Go is fl more h = λ conn. omega (arith, h conn)
may_begin p holder generation serial (book.Known outcome) is fl more h = λ conn. omega (arith, h conn)
may_begin p holder generation serial (book.SerialGap got expected) is fl more h = λ conn. omega (arith, h conn)
may_begin p holder generation serial (book.SerialOld got expected) is fl more h = λ conn. omega (arith, h conn)
may_begin p holder generation serial (book.Superseded newer) is fl more h = λ conn. omega (arith, h conn)
may_begin p holder generation serial book.NoRecord is fl more h = λ conn. omega (arith, h conn)
may_begin p holder generation serial r is fl more h = absurd is

may_finish : (p : Publish) (holder : Holder) (outcome : _) (serial : ℕ) (r : BookReply) → IsEnding r → (fl more : ℕ → ℕ)
    → ((conn : ℕ) → more conn + one conn (Some holder.conn) ≤ fl conn + one conn (flight_after (wishes.Finish p holder outcome) (replies.Book r))) → May (events.End holder.conn holder.generation serial outcome) r fl more
may_finish p holder outcome serial r is fl more h =
    λ conn. let none : one conn (flight_after (wishes.Finish p holder outcome) (replies.Book r)) ≡ 0 = ap (one conn) (ends_flight p holder outcome r is) in omega (arith, h conn, none)

-- a connection with a put in flight was not given up
not_spent : (world : World) (conn k : ℕ) (t : Transport) → slice_get world.transports k ≡ Some t → flight t.actor.wish ≡ Some conn → IsOrdered world → IsSpent world.book conn → ⊥
not_spent world conn k t found is h spent =
    let here : one conn (flight t.actor.wish) ≡ 1 = ap (one conn) is ∙ one_self conn in
    spent.away (h.holding.standing conn (omega (arith, here, flights_at conn k t world.transports found)))

-- each wish, where it is answered by the machine that it asks
performs_by : (world : World) (k : ℕ) (t : Transport) (wish : Wish) (call : Call) → slice_get world.transports k ≡ Some t → t.actor.wish ≡ wish → wanted wish t.actor.hello world.now ≡ Some call → IsOrdered world → IsOrdered (performs k call world)
performs_by world k t wishes.Nothing call found is wants h = absurd (cc)
performs_by world k t (wishes.Resume key) call found is wants h =
    let same : calls.Book (events.Resume key world.now) ≡ call = cc in
    subst (λ (c : Call). IsOrdered (performs k c world)) same (performs_book world k (events.Resume key world.now) (wishes.Resume key) t found is tt (λ more low conn. omega (arith, low conn)) h)
performs_by world k t wishes.Open call found is wants h =
    let same : calls.Book (events.Open t.actor.hello.word world.now) ≡ call = cc in
    subst (λ (c : Call). IsOrdered (performs k c world)) same (performs_book world k (events.Open t.actor.hello.word world.now) wishes.Open t found is tt (λ more low conn. omega (arith, low conn)) h)
performs_by world k t (wishes.Lost holder) call found is wants h =
    let same : calls.Book (events.Lost holder.conn holder.generation world.now) ≡ call = cc in
    subst (λ (c : Call). IsOrdered (performs k c world)) same (performs_book world k (events.Lost holder.conn holder.generation world.now) (wishes.Lost holder) t found is tt (λ more low conn. omega (arith, low conn)) h)
performs_by world k t (wishes.Close holder) call found is wants h =
    let same : calls.Book (events.Close holder.conn holder.generation) ≡ call = cc in
    subst (λ (c : Call). IsOrdered (performs k c world)) same (performs_book world k (events.Close holder.conn holder.generation) (wishes.Close holder) t found is tt (λ more low conn. omega (arith, low conn)) h)
performs_by world k t (wishes.AskToAttach asked) call found is wants h =
    let same : calls.Dir (Ask asked.channel) ≡ call = cc in
    subst (λ (c : Call). IsOrdered (performs k c world)) same
    (performs_other world k (calls.Dir (Ask asked.channel)) (wishes.AskToAttach asked) t found is tt (ap (λ (w : Wish). replied w (reply_to (calls.Dir (Ask asked.channel)) world) world.now t.actor) is) refl
    (name_beside asked.channel world).transports (name_ordered asked.channel world h))
performs_by world k t (wishes.Join asked number) call found is wants h =
    let same : calls.Chan number (Join asked.serial) ≡ call = cc in
    subst (λ (c : Call). IsOrdered (performs k c world)) same
    (performs_other world k (calls.Chan number (Join asked.serial)) (wishes.Join asked number) t found is tt (ap (λ (w : Wish). replied w (reply_to (calls.Chan number (Join asked.serial)) world) world.now t.actor) is) refl refl
    (ordered_takes world.book world.queue world.channels _ number (Join asked.serial) tt h))
performs_by world k t (wishes.Begin p holder) call found is wants h =
    let event : BookEvent = events.Begin holder.conn holder.generation p.serial in
    let same : calls.Book event ≡ call = cc in
    subst (λ (c : Call). IsOrdered (performs k c world)) same
    (performs_book world k (events.Begin holder.conn holder.generation p.serial) (wishes.Begin p holder) t found is tt
    (λ more low. may_begin p holder holder.generation p.serial (told (book_of the_range world.book) (events.Begin holder.conn holder.generation p.serial)) (told_begin (book_of the_range world.book) holder.conn holder.generation p.serial) (λ conn. in_flight conn world.transports) more low) h)
performs_by world k t (wishes.AskToPut p holder) call found is wants h =
    let same : calls.Dir (Ask p.channel) ≡ call = cc in
    subst (λ (c : Call). IsOrdered (performs k c world)) same
    (performs_other world k (calls.Dir (Ask p.channel)) (wishes.AskToPut p holder) t found is tt (ap (λ (w : Wish). replied w (reply_to (calls.Dir (Ask p.channel)) world) world.now t.actor) is) refl
    (name_beside p.channel world).transports (name_ordered p.channel world h))
performs_by world k t (wishes.Put p holder number) call found is wants h =
    let same : calls.Chan number (Put holder.conn p.serial p.body world.now) ≡ call = cc in
    subst (λ (c : Call). IsOrdered (performs k c world)) same
    (performs_other world k (calls.Chan number (Put holder.conn p.serial p.body world.now)) (wishes.Put p holder number) t found is tt (ap (λ (w : Wish). replied w (reply_to (calls.Chan number (Put holder.conn p.serial p.body world.now)) world) world.now t.actor) is) refl refl
    (ordered_takes world.book world.queue world.channels _ number (Put holder.conn p.serial p.body world.now) (not_spent world holder.conn k t found (ap flight is) h) h))
performs_by world k t (wishes.Finish p holder outcome) call found is wants h =
    let same : calls.Book (events.End holder.conn holder.generation p.serial outcome) ≡ call = cc in
    subst (λ (c : Call). IsOrdered (performs k c world)) same
    (performs_book world k (events.End holder.conn holder.generation p.serial outcome) (wishes.Finish p holder outcome) t found is tt
    (λ more low. may_finish p holder outcome p.serial (told (book_of the_range world.book) (events.End holder.conn holder.generation p.serial outcome)) (told_ending (book_of the_range world.book) holder.conn holder.generation p.serial outcome) (λ conn. in_flight conn world.transports) more low) h)

-- ONE STEP

steps_by : (world : World) (k : ℕ) (t : Transport) (o : Option Call) (ended cut : Bool) (next : Option Frame) (rests : Bool) → slice_get world.transports k ≡ Some t → next_call world.now t.actor ≡ o → IsOrdered world → IsOrdered (done k (deed_by o ended cut next rests) world)
steps_by world k t (Some call) ended cut next rests found is h = performs_by world k t t.actor.wish call found refl is h
steps_by world k t None true cut next rests found is h = h
steps_by world k t None false true next rests found is h = ordered_on world k (works (over ends.LinkEnded)) (λ u conn. less_works (over ends.LinkEnded) u conn _ (less_over conn ends.LinkEnded u.actor.ended u.actor)) h
steps_by world k t None false false (Some frame) rests found is h = ordered_on world k (takes_up frame world.now) (λ u conn. less_works (took (arrives frame) world.now) (record u { to_service = with_one_got u.to_service }) conn _ (less_came conn (arrives frame) world.now (record u.actor { last_in = world.now }))) h
steps_by world k t None false false None true found is h = ordered_on world k (works (rested world.now)) (λ u conn. less_works (rested world.now) u conn _ (less_rested conn world.now u.actor)) h
steps_by world k t None false false None false found is h = h

steps_of : (world : World) (k : ℕ) (o : Option Transport) → slice_get world.transports k ≡ o → IsOrdered world → IsOrdered (done k (deed_of world.now o) world)
steps_of world k None found h = h
steps_of world k (Some t) found h = steps_by world k t (next_call world.now t.actor) (is_some t.actor.ended) t.cut (slice_get t.to_service.put t.to_service.got) (does_rest world.now t.actor) found refl h

-- READS AND PAGES

less_ended : (conn : ℕ) (ended : Option End) (call : Call) (reply : Reply) (now : ℕ) (s : actor.State) → one conn (flight (reads.answered call reply now s).wish) ≤ one conn (flight s.wish) → one conn (flight (answered_at ended call reply now s).wish) ≤ one conn (flight s.wish)
less_ended conn None call reply now s less = less
less_ended conn (Some why) call reply now s less = omega arith

session_ordered : (world : World) (k : ℕ) (call : Call) → IsOfSession call → IsOrdered world → IsOrdered (performs k call world)
session_ordered world k (calls.Chan number (Read from most)) of h =
    let reply : Reply = reply_to (calls.Chan number (Read from most)) world in
    ordered_on (with_event number (Read from most) world) k (absorbs (calls.Chan number (Read from most)) world)
    (λ u conn. less_works (absorbed (calls.Chan number (Read from most)) reply world.now) (with_call (calls.Chan number (Read from most)) world u) conn _ (less_ended conn u.actor.ended (calls.Chan number (Read from most)) reply world.now u.actor
    (less_session conn (λ name session. read_by name session (reading reply) world.now) (actor.numbered number u.actor.sessions) u.actor (λ name session. less_read conn name session (reading reply) world.now u.actor))))
    (ordered_takes world.book world.queue world.channels (λ conn. in_flight conn world.transports) number (Read from most) tt h)
session_ordered world k (calls.Chan number (MemberPage after most)) of h =
    let reply : Reply = reply_to (calls.Chan number (MemberPage after most)) world in
    ordered_on (with_event number (MemberPage after most) world) k (absorbs (calls.Chan number (MemberPage after most)) world)
    (λ u conn. less_works (absorbed (calls.Chan number (MemberPage after most)) reply world.now) (with_call (calls.Chan number (MemberPage after most)) world u) conn _ (less_ended conn u.actor.ended (calls.Chan number (MemberPage after most)) reply world.now u.actor
    (less_session conn (λ name session. page_by name session (channel_reply reply) world.now) (actor.numbered number u.actor.sessions) u.actor (λ name session. less_page conn name session (channel_reply reply) world.now u.actor))))
    (ordered_takes world.book world.queue world.channels (λ conn. in_flight conn world.transports) number (MemberPage after most) tt h)
session_ordered world k (calls.Chan number (ObjectPage after most)) of h =
    let reply : Reply = reply_to (calls.Chan number (ObjectPage after most)) world in
    ordered_on (with_event number (ObjectPage after most) world) k (absorbs (calls.Chan number (ObjectPage after most)) world)
    (λ u conn. less_works (absorbed (calls.Chan number (ObjectPage after most)) reply world.now) (with_call (calls.Chan number (ObjectPage after most)) world u) conn _ (less_ended conn u.actor.ended (calls.Chan number (ObjectPage after most)) reply world.now u.actor
    (less_session conn (λ name session. page_by name session (channel_reply reply) world.now) (actor.numbered number u.actor.sessions) u.actor (λ name session. less_page conn name session (channel_reply reply) world.now u.actor))))
    (ordered_takes world.book world.queue world.channels (λ conn. in_flight conn world.transports) number (ObjectPage after most) tt h)
session_ordered world k call of h = absurd of

called_if : (world : World) (k : ℕ) (o : Option Call) → ((call : Call) → o ≡ Some call → IsOfSession call) → IsOrdered world → IsOrdered (performs_if k o world)
called_if world k None of h = h
called_if world k (Some call) of h = session_ordered world k call (of call refl) h

-- EXPIRY AND REAPING

with_each_spent : (b : List Answered) (numbers : List ℕ) (conn : ℕ) → IsSpent b conn → AllByRecursion (λ (pair : ℕ × ℕ). IsSpent b pair.0) (with_each numbers conn)
with_each_spent b [] conn spent = tt
with_each_spent b (n ∷ numbers) conn spent = (spent, with_each_spent b numbers conn spent)

each_spent : (b : List Answered) (numbers conns : List ℕ) → AllByRecursion (IsSpent b) conns → AllByRecursion (λ (pair : ℕ × ℕ). IsSpent b pair.0) (flat_map (with_each numbers) conns)
each_spent b numbers [] spent = tt
each_spent b numbers (conn ∷ conns) spent = all_append _ (with_each numbers conn) (flat_map (with_each numbers) conns) (with_each_spent b numbers conn spent.0) (each_spent b numbers conns spent.1)

expires_ordered : (world : World) → IsOrdered world → IsOrdered (expires world)
expires_ordered world h =
    let after = ordered_book (events.Expire world.now) world.book world.queue world.channels (λ conn. in_flight conn world.transports) (λ conn. in_flight conn world.transports) (λ conn. omega arith) h in
    record {
      holding = after.holding;
      queued = all_append _ world.queue (pairs world) after.queued
          (each_spent (answered the_range (events.Expire world.now) world.book ∷ world.book) (numbers_from 0 (length world.channels)) _ (expired_spent world.now world.book h.holding.within));
      each = after.each;
    }

reaped_ordered : (world : World) (queue : List (ℕ × ℕ)) → IsOrderedBy world.book queue world.channels (λ conn. in_flight conn world.transports) → IsOrdered world → IsOrdered (reaped queue world)
reaped_ordered world [] h whole = whole
reaped_ordered world (pair ∷ more) h whole =
    ordered_takes world.book more world.channels (λ conn. in_flight conn world.transports) pair.1 (Gone pair.0 world.now) h.queued.0
    (record { holding = h.holding; queued = h.queued.1; each = h.each })

aged_ordered : (world : World) (o : Option ℕ) → IsOrdered world → IsOrdered (event_at o (Tick world.now) world)
aged_ordered world None h = h
aged_ordered world (Some number) h = ordered_takes world.book world.queue world.channels (λ conn. in_flight conn world.transports) number (Tick world.now) tt h

-- what is fed is put by no connection that was given
fed_ordered : (world : World) (o : Option ℕ) (body : Body) → IsOrdered world → IsOrdered (fed_at o body world)
fed_ordered world None body h = h
fed_ordered world (Some number) body h =
    ordered_takes world.book world.queue world.channels (λ conn. in_flight conn world.transports) number (Put feed_conn world.fed body world.now) (λ spent. absurd (omega (arith, spent.real))) h

-- ALL ACTIONS

wants_first : (o : Option (List ℕ)) → flight (actor.first_wish o) ≡ None
wants_first None = refl
wants_first (Some key) = refl

sent_same : (conn : ℕ) (frames : List Frame) (cut : Bool) (t : Transport) → one conn (flight (put_unless cut frames t).actor.wish) ≤ one conn (flight t.actor.wish)
sent_same conn frames true t = omega arith
sent_same conn frames false t = omega arith

quiet_ordered : IsQuiet IsOrdered
quiet_ordered = record {
  of_client = λ world name change h. h;
  of_new = λ world name h. h;
  of_cut = λ world k h. ordered_on world k cut_off (λ t conn. omega arith) h;
  of_sent = λ world k frames h. ordered_on world k (takes_frames frames) (λ t conn. sent_same conn frames t.cut t) h;
  of_got = λ world k frame is h. ordered_on world k gives_frame (λ t conn. omega arith) h;
  of_opened = λ world name hello h. ordered_less world.book world.queue world.channels (λ conn. in_flight conn world.transports) _
      (λ conn. let same = flights_append conn world.transports (new_transport name hello world.now) (wants_first hello.resume) in omega (arith, same)) h;
  of_time = λ world span h. h;
}

served_ordered : IsServed IsOrdered
served_ordered = record {
  stepping = λ world k h. steps_of world k (slice_get world.transports k) refl h;
  paging = λ world k channel h. called_if world k (next_page k channel world) (pages_are channel (slice_get world.transports k)) h;
  polling = λ world k channel h. called_if world k (next_poll k channel world) (polls_are channel (slice_get world.transports k)) h;
  expiring = λ world h. expires_ordered world h;
  reaping = λ world h. reaped_ordered world world.queue h h;
  ageing = λ world channel h. aged_ordered world (number_of channel (names world)) h;
  naming = λ world channel h. name_ordered channel world h;
  feeding = λ world channel body h. fed_ordered world (number_of channel (names world)) body h;
}

begins_ordered : IsOrdered empty_world
begins_ordered = record { holding = record { within = tt; standing = λ conn some. absurd (omega (arith, some)); busy = λ conn. λ small. omega arith }; queued = tt; each = tt }

pub always_ordered : HoldsOfRuns IsOrdered
always_ordered = runs_hold IsOrdered (each_keeps IsOrdered quiet_ordered served_ordered) begins_ordered

-- A HISTORY IN WHICH NO PUT COMES AFTER A GONE OF ITS CONNECTION IS ORDERLY

add_conn : (j : Judgement) (made entry : Entry) → entry_if j made ≡ Some entry → made ≡ entry
add_conn Adds made entry is = cc
add_conn j made entry is = absurd (cc)

pub gone_serial : (head now conn : ℕ) (gone : List PresenceItem) (entry : Entry) → entry_of_gone head now conn gone ≡ Some entry → entry.serial ≡ None
gone_serial head now conn [] entry is = absurd (cc)
gone_serial head now conn (member ∷ gone) entry is = by_head (head == MAX_PLACE) is
  where
    by_head : (b : Bool) → (if b then None else Some (gone_entry head now conn (member ∷ gone))) ≡ Some entry → entry.serial ≡ None
    by_head true is = absurd (cc)
    by_head false is = let same : gone_entry head now conn (member ∷ gone) ≡ entry = cc in sym (ap (λ (e : Entry). e.serial) same)

orderly_event : (site : List ℕ) (event : ChannelEvent) (past : List ChannelEvent) → IsBefore past event → IsOrderlyEvent past (decided (setting site (event ∷ past)) (decisions site past) event)
orderly_event site (Put conn serial body now) past before entry s is has =
    let at_now = setting site (Put conn serial body now ∷ past) in
    let same = add_conn (judged at_now (decisions site past) conn serial body) (entry_of at_now (length (entries (decisions site past))) conn serial body) entry is in
    subst (λ (e : Entry). SomeOf (IsGoneOf e.conn) past → ⊥) same before
orderly_event site (Gone conn now) past before entry s is has =
    let none : entry.serial ≡ None = gone_serial (length (entries (decisions site past))) (setting site (Gone conn now ∷ past)).now conn (members_on conn (decisions site past)) entry is in
    absurd (cc)
orderly_event site event past before entry s is has = absurd (cc)

orderly_past : (site : List ℕ) (past : List ChannelEvent) → ArePutsBefore past → IsOrderly site past
orderly_past site [] puts = tt
orderly_past site (event ∷ past) puts = (orderly_event site event past puts.0, orderly_past site past puts.1)

-- THE LAWS

pub puts_come_before_gone : PutsComeBeforeGone
puts_come_before_gone = runs_so IsOrdered HasPutsBefore (λ world h. all_weaker _ _ (λ c past. past.puts) world.channels h.each) always_ordered

pub histories_are_orderly : HistoriesAreOrderly
histories_are_orderly = runs_so HasPutsBefore HasOrderlyHistories (λ world h. all_weaker _ _ (λ c puts. orderly_past the_site c.1 puts) world.channels h) puts_come_before_gone
