-- Each action keeps each actor's numbers and sessions those of their channels.
use Rattle.std.proofs.Common.{◌≡◌, ℕ, ◌+◌, ◌≤◌, Bool, true, false, List, [], ◌∷◌, take, drop, refl, sym, ◌∙◌, ap, subst, arith}
use Rattle.std.specs.Prelude.{Option, Some, None, slice_get, if◌then◌else◌, option_map, is_some, nat_lt, ◌||◌, not}
use Rattle.std.specs.List.{AllByRecursion}
use Rattle.std.proofs.lemmas.Bool.{eqb-true}
use Rattle.rl_numbers.specs.declared.limits.TheConstants.{PAGE_MEMBERS, PAGE_OBJECTS, READ_ENTRIES}
use Rattle.rl_ids.specs.declared.members.MemberKey.{MemberKey}
use Rattle.rl_ids.specs.declared.objects.ObjectId.{ObjectId}
use Rattle.rl_types.specs.declared.frames.Frame.{Frame}
use Rattle.rl_types.specs.declared.messages.Body.{Body}
use Rattle.rl_runs.specs.declared.commands.Hello.{Hello}
use Rattle.rl_events.specs.declared.book.BookEvent.TheVariants as events
use Rattle.rl_events.specs.declared.channel.ChannelEvent.{ChannelEvent}
use Rattle.rl_events.specs.declared.channel.ChannelEvent.TheVariants.{Put, Gone, Join, Read, MemberPage, ObjectPage, Tick}
use Rattle.rl_events.specs.declared.channel.ChannelReply.TheVariants as answers
use Rattle.rl_events.specs.declared.channel.ReadReply.TheVariants.{Run, NotRetained}
use Rattle.rl_events.specs.declared.calls.End.{End}
use Rattle.rl_events.specs.declared.calls.End.TheVariants as ends
use Rattle.rl_events.specs.declared.calls.Call.{Call}
use Rattle.rl_events.specs.declared.calls.Call.TheVariants as calls
use Rattle.rl_events.specs.declared.calls.DirEvent.TheVariants.{Ask, Names}
use Rattle.rl_events.specs.declared.calls.Reply.{Reply}
use Rattle.rl_events.specs.declared.calls.Reply.TheVariants as replies
use Rattle.rl_connbook.proofs.Each.{all_weaker, all_append}
use Rattle.rl_directory.specs.Directory.{number_of}
use Rattle.rl_names.specs.Names.{at}
use Rattle.rl_pages.specs.State.{Sequences}
use Rattle.rl_model.specs.Reply.{joined_place}
use Rattle.rl_model.specs.Verdict.{log, head}
use Rattle.rl_model.specs.Window.{first}
use Rattle.rl_actormodel.specs.declared.parts.Session.{Session}
use Rattle.rl_actormodel.specs.declared.parts.Wish.{Wish}
use Rattle.rl_actormodel.specs.declared.parts.Wish.TheVariants as wishes
use Rattle.rl_actormodel.specs.State as actor
use Rattle.rl_actormodel.specs.Ends.{over}
use Rattle.rl_actormodel.specs.Takes.{took}
use Rattle.rl_actormodel.specs.Wishes.{wanted, next_call, page_call, poll_call, page_of, read_of, call_of}
use Rattle.rl_actormodel.specs.Replies.{Joining, joining_in, numbering, Has, reading, channel_reply}
use Rattle.rl_actormodel.specs.Pagings.{page_by}
use Rattle.rl_actormodel.specs.Reads as reads
use Rattle.rl_actormodel.specs.Reads.{absorbed, answered_at, replied, read_by, on_session}
use Rattle.rl_actormodel.specs.Rests.{rested, does_rest}
use Rattle.rl_actormodel.proofs.Named.{found_passes}
use Rattle.rl_worldmodel.specs.Actions.{Action, does}
use Rattle.rl_worldmodel.specs.World.{World, Transport, the_epoch, the_site, with_one_got, new_transport, on_transport, changed_at, names, history}
use Rattle.rl_worldmodel.specs.Calls.{with_name, reply_to, called, with_event}
use Rattle.rl_worldmodel.specs.Clients.{cut_off, put_unless, takes_frames, gives_frame}
use Rattle.rl_worldmodel.specs.Actors.{arrives, works, with_call, absorbs, performs, deed_by, deed_of, done, steps, takes_up, unless_cut, call_on, next_page, next_poll, performs_if, pages, polls}
use Rattle.rl_worldmodel.specs.Services.{reaped, event_at, feed_conn, fed_at}
use Rattle.rl_worldtold.specs.Truth.{Channels}
use Rattle.rl_worldtold.proofs.Shape.{all_at, changed_all, changed_one, changed_none, name_beside, works_actor}
use Rattle.rl_worldtold.proofs.Quiet.{IsQuiet}
use Rattle.rl_worldtold.proofs.Runs.{runs_hold, IsServed, each_keeps}
use Rattle.rl_worldsessions.specs.Serving.{HasNumber, last_place, IsSessionOf, IsAddressed, Serves, IsServing, AreServing, ActorsServe}
use Rattle.rl_worldsessions.specs.Sessions.{read_call}
use Rattle.rl_worldsessions.proofs.Entries.{all_found}
use Rattle.rl_worldsessions.proofs.Logs.{joined_low, take_low, drop_low}
use Rattle.rl_worldsessions.proofs.Growth.{Grown, grown_same, grown_takes, grown_name, grown_call, ask_tells}
use Rattle.rl_worldsessions.proofs.Actors.{serves_grows, over_serves, silent_serves, rested_serves, took_serves, replied_serves, Suits, IsReadFor, read_serves, ArePaged, page_serves}
use Rattle.rl_worldsessions.proofs.Found.{number_found, all_find}

-- ALL TRANSPORTS

transport_grows : (before after : Channels) → Grown before after → (t : Transport) → IsServing before t → IsServing after t
transport_grows before after g t is = record { of_actor = serves_grows before after g t.actor is.of_actor; flushed = is.flushed }

-- the channels grew, and nothing else changed
pub serving_grows : (world after : World) → Grown world.channels after.channels → after.transports ≡ world.transports → AreServing world → AreServing after
serving_grows world after g same h =
    subst (λ (ts : List Transport). AllByRecursion (IsServing after.channels) ts) (sym same) (all_weaker _ _ (transport_grows world.channels after.channels g) world.transports h)

-- one transport changed besides
serving_on : (world after : World) (k : ℕ) (f : Transport → Transport) → Grown world.channels after.channels → after.transports ≡ world.transports
    → ((t : Transport) → slice_get world.transports k ≡ Some t → Serves world.channels t.actor → IsServing after.channels (f t)) → AreServing world → AreServing (on_transport k f after)
serving_on world after k f g same step h =
    subst (λ (ts : List Transport). AllByRecursion (IsServing after.channels) (changed_at k f ts)) (sym same) (by_found (slice_get world.transports k) refl)
  where
    grown : AllByRecursion (IsServing after.channels) world.transports
    grown = all_weaker _ _ (transport_grows world.channels after.channels g) world.transports h

    by_found : (o : Option Transport) → slice_get world.transports k ≡ o → AllByRecursion (IsServing after.channels) (changed_at k f world.transports)
    by_found None is = subst (λ (ts : List Transport). AllByRecursion (IsServing after.channels) ts) (sym (changed_none k f world.transports is)) grown
    by_found (Some t) is = changed_one (IsServing after.channels) k f t (step t is (all_at (IsServing world.channels) k t world.transports is h).of_actor) world.transports is grown

-- what an actor's work leaves
works_serving : (channels : Channels) (act : actor.State → actor.State) (t : Transport) → Serves channels (act t.actor) → IsServing channels (works act t)
works_serving channels act t h = record {
  of_actor = subst (Serves channels) (sym (works_actor act t)) (record { numbers = h.numbers; sessions = h.sessions; once = h.once; addressed = h.addressed; over = h.over });
  flushed = ap (λ (s : actor.State). s.waiting) (works_actor act t);
}

-- A CALL IS PERFORMED

pub called_transports : (call : Call) (world : World) → (called call world).transports ≡ world.transports
called_transports (calls.Book event) world = refl
called_transports (calls.Dir (Ask name)) world = (name_beside name world).transports
called_transports (calls.Dir Names) world = refl
called_transports (calls.Chan number event) world = refl

performs_serving : (world : World) (k : ℕ) (call : Call) → ((t : Transport) → slice_get world.transports k ≡ Some t → Serves world.channels t.actor → Serves (called call world).channels (absorbed call (reply_to call world) world.now t.actor)) → AreServing world → AreServing (performs k call world)
performs_serving world k call step h =
    serving_on world (called call world) k (absorbs call world) (grown_call call world) (called_transports call world)
    (λ t is good. works_serving (called call world).channels (absorbed call (reply_to call world) world.now) (with_call call world t) (step t is good)) h

-- to an actor that is ended a reply says nothing more
absorbed_serves : (channels : Channels) (o : Option End) (call : Call) (reply : Reply) (now : ℕ) (s : actor.State) → (o ≡ None → Serves channels (reads.answered call reply now s)) → Serves channels s → Serves channels (answered_at o call reply now s)
absorbed_serves channels None call reply now s step h = step refl
absorbed_serves channels (Some why) call reply now s step h = silent_serves channels s h

-- THE CALLS THAT ACTORS WANT

abbrev place_told : Option Joining → ℕ
place_told None = 0
place_told (Some j) = j.serial.place

abbrev epoch_told : Option Joining → ℕ
epoch_told None = 0
epoch_told (Some j) = j.serial.epoch

suits : (world : World) (s : actor.State) (free : s.ended ≡ None) (wish : Wish) (call : Call) → s.wish ≡ wish → wanted wish s.hello world.now ≡ Some call → (h : Serves (called call world).channels s) → Suits (called call world).channels s free h wish (reply_to call world)
suits world s free (wishes.AskToAttach asked) call is wants h =
    let same : calls.Dir (Ask asked.channel) ≡ call = cc in
    subst (λ (c : Call). (n : ℕ) → numbering (reply_to c world) ≡ Has n → HasNumber (called c world).channels asked.channel n) same (λ n told. ask_tells asked.channel n world told)
suits world s free (wishes.AskToPut p holder) call is wants h =
    let same : calls.Dir (Ask p.channel) ≡ call = cc in
    subst (λ (c : Call). (n : ℕ) → numbering (reply_to c world) ≡ Has n → HasNumber (called c world).channels p.channel n) same (λ n told. ask_tells p.channel n world told)
suits world s free (wishes.Join asked number) call is wants h =
    let same : calls.Chan number (Join asked.serial) ≡ call = cc in (
      subst (IsAddressed (called call world).channels) is h.addressed,
      subst (λ (c : Call). (j : Joining) → joining_in (reply_to c world) ≡ Some j → (j.serial.place ≤ last_place number (called c world).channels) × (j.serial.epoch ≡ the_epoch)) same
          (λ j told.
          let place : joined_place the_epoch the_site (history number world) asked.serial ≡ j.serial.place = ap place_told told in
          let of_run : the_epoch ≡ j.serial.epoch = ap epoch_told told in
          (omega (arith, joined_low the_epoch the_site (history number world) asked.serial, place, (grown_takes number (Join asked.serial) world.channels).low number), sym of_run)),
    )
suits world s free wishes.Nothing call is wants h = tt
suits world s free (wishes.Resume key) call is wants h = tt
suits world s free wishes.Open call is wants h = tt
suits world s free (wishes.Lost holder) call is wants h = tt
suits world s free (wishes.Close holder) call is wants h = tt
suits world s free (wishes.Begin p holder) call is wants h = tt
suits world s free (wishes.Put p holder number) call is wants h = tt
suits world s free (wishes.Finish p holder outcome) call is wants h = tt

-- such a call is answered by the wish
abbrev IsAnswered : Call → Type 0
IsAnswered call = (reply : Reply) (now : ℕ) (s : actor.State) → reads.answered call reply now s ≡ replied s.wish reply now s

wish_answers : (wish : Wish) (hello : Hello) (now : ℕ) (call : Call) → wanted wish hello now ≡ Some call → IsAnswered call
wish_answers wishes.Nothing hello now call is = absurd (cc)
wish_answers (wishes.Resume key) hello now call is = let same : calls.Book (events.Resume key now) ≡ call = cc in subst IsAnswered same (λ reply m s. refl)
wish_answers wishes.Open hello now call is = let same : calls.Book (events.Open hello.word now) ≡ call = cc in subst IsAnswered same (λ reply m s. refl)
wish_answers (wishes.Lost holder) hello now call is = let same : calls.Book (events.Lost holder.conn holder.generation now) ≡ call = cc in subst IsAnswered same (λ reply m s. refl)
wish_answers (wishes.Close holder) hello now call is = let same : calls.Book (events.Close holder.conn holder.generation) ≡ call = cc in subst IsAnswered same (λ reply m s. refl)
wish_answers (wishes.AskToAttach asked) hello now call is = let same : calls.Dir (Ask asked.channel) ≡ call = cc in subst IsAnswered same (λ reply m s. refl)
wish_answers (wishes.Join asked number) hello now call is = let same : calls.Chan number (Join asked.serial) ≡ call = cc in subst IsAnswered same (λ reply m s. refl)
wish_answers (wishes.Begin p holder) hello now call is = let same : calls.Book (events.Begin holder.conn holder.generation p.serial) ≡ call = cc in subst IsAnswered same (λ reply m s. refl)
wish_answers (wishes.AskToPut p holder) hello now call is = let same : calls.Dir (Ask p.channel) ≡ call = cc in subst IsAnswered same (λ reply m s. refl)
wish_answers (wishes.Put p holder number) hello now call is = let same : calls.Chan number (Put holder.conn p.serial p.body now) ≡ call = cc in subst IsAnswered same (λ reply m s. refl)
wish_answers (wishes.Finish p holder outcome) hello now call is = let same : calls.Book (events.End holder.conn holder.generation p.serial outcome) ≡ call = cc in subst IsAnswered same (λ reply m s. refl)

wanted_by : (world : World) (call : Call) (s : actor.State) → wanted s.wish s.hello world.now ≡ Some call → Serves (called call world).channels s → Serves (called call world).channels (absorbed call (reply_to call world) world.now s)
wanted_by world call s wants h =
    absorbed_serves (called call world).channels s.ended call (reply_to call world) world.now s
    (λ free. subst (Serves (called call world).channels) (sym (wish_answers s.wish s.hello world.now call wants (reply_to call world) world.now s))
    (replied_serves (called call world).channels s free h s.wish (reply_to call world) world.now (suits world s free s.wish call refl wants h))) h

wanted_serves : (world : World) (call : Call) (s : actor.State) → wanted s.wish s.hello world.now ≡ Some call → Serves world.channels s → Serves (called call world).channels (absorbed call (reply_to call world) world.now s)
wanted_serves world call s wants good =
    wanted_by world call s wants (serves_grows world.channels (called call world).channels (grown_call call world) s good)

-- ONE STEP

-- an actor does something by itself
serving_by : (world : World) (k : ℕ) (t : Transport) (f : Transport → Transport) → slice_get world.transports k ≡ Some t → (Serves world.channels t.actor → IsServing world.channels (f t)) → AreServing world → AreServing (on_transport k f world)
serving_by world k t f found step h =
    serving_on world world k f (grown_same world.channels) refl
    (λ u is good.
    let both : Some t ≡ Some u = sym found ∙ is in
    let one : t ≡ u = cc in
    subst (λ (v : Transport). IsServing world.channels (f v)) one (step (subst (λ (v : Transport). Serves world.channels v.actor) (sym one) good))) h

not_ended : (o : Option End) → is_some o ≡ false → o ≡ None
not_ended None is = refl
not_ended (Some why) is = absurd (cc)

steps_by : (world : World) (k : ℕ) (t : Transport) (o : Option Call) (ended cut : Bool) (next : Option Frame) (rests : Bool) → slice_get world.transports k ≡ Some t → next_call world.now t.actor ≡ o → is_some t.actor.ended ≡ ended → AreServing world
    → AreServing (done k (deed_by o ended cut next rests) world)
steps_by world k t (Some call) ended cut next rests found is ends_ h =
    performs_serving world k call (λ u there good.
    let both : Some t ≡ Some u = sym found ∙ there in
    let one : t ≡ u = cc in
    subst (λ (v : Transport). Serves (called call world).channels (absorbed call (reply_to call world) world.now v.actor)) one
    (wanted_serves world call t.actor is (subst (λ (v : Transport). Serves world.channels v.actor) (sym one) good))) h
steps_by world k t None true cut next rests found is ends_ h = h
steps_by world k t None false true next rests found is ends_ h =
    serving_by world k t (works (over ends.LinkEnded)) found (λ good. works_serving world.channels (over ends.LinkEnded) t (over_serves world.channels ends.LinkEnded t.actor.ended t.actor good)) h
steps_by world k t None false false (Some frame) rests found is ends_ h =
    serving_by world k t (takes_up frame world.now) found
    (λ good. works_serving world.channels (took (arrives frame) world.now) (record t { to_service = with_one_got t.to_service }) (took_serves world.channels (arrives frame) world.now t.actor (not_ended t.actor.ended ends_) good)) h
steps_by world k t None false false None true found is ends_ h =
    serving_by world k t (works (rested world.now)) found (λ good. works_serving world.channels (rested world.now) t (rested_serves world.channels world.now t.actor good)) h
steps_by world k t None false false None false found is ends_ h = h

steps_of : (world : World) (k : ℕ) (o : Option Transport) → slice_get world.transports k ≡ o → AreServing world → AreServing (done k (deed_of world.now o) world)
steps_of world k None found h = h
steps_of world k (Some t) found h = steps_by world k t (next_call world.now t.actor) (is_some t.actor.ended) t.cut (slice_get t.to_service.put t.to_service.got) (does_rest world.now t.actor) found refl refl h

steps_serving : (world : World) (k : ℕ) → AreServing world → AreServing (steps k world)
steps_serving world k h = steps_of world k (slice_get world.transports k) refl h

-- READS

read_fits : (channels : Channels) (session : Session) (past : List ChannelEvent) (behind : Bool) → session.position ≤ head the_site past → head the_site past ≤ last_place session.number channels
    → IsReadFor channels session (reading (replies.Chan (answers.Read (if behind then NotRetained (first the_site past) else Run (take READ_ENTRIES (drop session.position (log the_site past)))))))
read_fits channels session past true within low = tt
read_fits channels session past false within low =
    omega (arith, take_low READ_ENTRIES (drop session.position (log the_site past)), drop_low session.position (log the_site past) within, low)

read_absorbed : (world : World) (name : List ℕ) (session : Session) (s : actor.State) → at name s.sessions ≡ Some session → Serves world.channels s
    → Serves (called (read_call session) world).channels (absorbed (read_call session) (reply_to (read_call session) world) world.now s)
read_absorbed world name session s found good =
    let g : Grown world.channels (called (read_call session) world).channels = grown_call (read_call session) world in
    let own : IsSessionOf world.channels (name, session) = all_found (IsSessionOf world.channels) name session s.sessions good.sessions found in
    let h : Serves (called (read_call session) world).channels s = serves_grows world.channels (called (read_call session) world).channels g s good in
    let later : IsSessionOf (called (read_call session) world).channels (name, session) = all_found (IsSessionOf (called (read_call session) world).channels) name session s.sessions h.sessions found in
    absorbed_serves (called (read_call session) world).channels s.ended (read_call session) (reply_to (read_call session) world) world.now s
    (λ free. subst (λ (o : Option (List ℕ × Session)). Serves (called (read_call session) world).channels (on_session (λ n one. read_by n one (reading (reply_to (read_call session) world)) world.now) o s))
    (sym (number_found world.channels name session s.sessions good.sessions own.numbered found))
    (read_serves (called (read_call session) world).channels name session (reading (reply_to (read_call session) world)) world.now s later
    (read_fits (called (read_call session) world).channels session (history session.number world) (nat_lt (session.position + 1) (first the_site (history session.number world)) || nat_lt (head the_site (history session.number world)) session.position) own.within (g.low session.number)) h)) h

poll_by : (world : World) (k : ℕ) (t : Transport) (name : List ℕ) (call : Call) (free : Bool) (o : Option Session) → slice_get world.transports k ≡ Some t → at name t.actor.sessions ≡ o
    → (if free then call_of read_of o else None) ≡ Some call → AreServing world → AreServing (performs k call world)
poll_by world k t name call false o found is wants h = absurd (cc)
poll_by world k t name call true None found is wants h = absurd (cc)
poll_by world k t name call true (Some session) found is wants h =
    let same : calls.Chan session.number (Read session.position READ_ENTRIES) ≡ call = cc in
    subst (λ (c : Call). AreServing (performs k c world)) same
    (performs_serving world k (read_call session) (λ u there good.
    let both : Some t ≡ Some u = sym found ∙ there in
    let one : t ≡ u = cc in
    subst (λ (v : Transport). Serves (called (read_call session) world).channels (absorbed (read_call session) (reply_to (read_call session) world) world.now v.actor)) one
    (read_absorbed world name session t.actor is (subst (λ (v : Transport). Serves world.channels v.actor) (sym one) good))) h)

poll_cut : (world : World) (k : ℕ) (t : Transport) (name : List ℕ) (call : Call) (cut : Bool) → slice_get world.transports k ≡ Some t → unless_cut cut (poll_call name t.actor) ≡ Some call → AreServing world → AreServing (performs k call world)
poll_cut world k t name call true found wants h = absurd (cc)
poll_cut world k t name call false found wants h = poll_by world k t name call (actor.is_free t.actor) (at name t.actor.sessions) found refl wants h

poll_on : (world : World) (k : ℕ) (name : List ℕ) (o : Option Transport) (call : Call) → slice_get world.transports k ≡ o → call_on (poll_call name) o ≡ Some call → AreServing world → AreServing (performs k call world)
poll_on world k name None call found wants h = absurd (cc)
poll_on world k name (Some t) call found wants h = poll_cut world k t name call t.cut found wants h

polls_of : (world : World) (k : ℕ) (name : List ℕ) (o : Option Call) → next_poll k name world ≡ o → AreServing world → AreServing (performs_if k o world)
polls_of world k name None is h = h
polls_of world k name (Some call) is h = poll_on world k name (slice_get world.transports k) call refl is h

polls_serving : (world : World) (k : ℕ) (name : List ℕ) → AreServing world → AreServing (polls k name world)
polls_serving world k name h = polls_of world k name (next_poll k name world) refl h

-- PAGES

-- a page of a session comes from within the log of its channel
abbrev PageStays : Call → Type 0
PageStays call = (world : World) (s : actor.State) → Serves world.channels s → Serves (called call world).channels (absorbed call (reply_to call world) world.now s)

paged_by : (channels : Channels) (number last : ℕ) (reply : Reply) (now : ℕ) (s : actor.State) → ArePaged channels last (channel_reply reply) → last ≤ last_place number channels → (o : Option (List ℕ × Session)) → actor.numbered number s.sessions ≡ o
    → ((e : List ℕ × Session) → e.1.number ≡ number → ArePaged channels (last_place e.1.number channels) (channel_reply reply)) → Serves channels s
    → Serves channels (on_session (λ name session. page_by name session (channel_reply reply) now) o s)
paged_by channels number last reply now s paged low None is fits h = h
paged_by channels number last reply now s paged low (Some e) is fits h =
    page_serves channels e.0 e.1 (channel_reply reply) now s (all_find (IsSessionOf channels) (actor.has_number number) e s.sessions h.sessions is)
    (fits e (eqb-true e.1.number number (found_passes (actor.has_number number) s.sessions e is))) h

low_at : (channels : Channels) (number last : ℕ) (e : List ℕ × Session) → last ≤ last_place number channels → e.1.number ≡ number → last ≤ last_place e.1.number channels
low_at channels number last e low same = subst (λ (n : ℕ). last ≤ last_place n channels) (sym same) low

members_stay : (number : ℕ) (after : Option MemberKey) (most : ℕ) → PageStays (calls.Chan number (MemberPage after most))
members_stay number after most world s good =
    let g : Grown world.channels (called (calls.Chan number (MemberPage after most)) world).channels = grown_call (calls.Chan number (MemberPage after most)) world in
    let h : Serves (called (calls.Chan number (MemberPage after most)) world).channels s = serves_grows world.channels (called (calls.Chan number (MemberPage after most)) world).channels g s good in
    absorbed_serves (called (calls.Chan number (MemberPage after most)) world).channels s.ended (calls.Chan number (MemberPage after most)) (reply_to (calls.Chan number (MemberPage after most)) world) world.now s
    (λ free. paged_by (called (calls.Chan number (MemberPage after most)) world).channels number (last_place number world.channels) (reply_to (calls.Chan number (MemberPage after most)) world) world.now s (omega arith) (g.low number) (actor.numbered number s.sessions) refl
    (λ e same. low_at (called (calls.Chan number (MemberPage after most)) world).channels number (last_place number world.channels) e (g.low number) same) h) h

objects_stay : (number : ℕ) (after : Option ObjectId) (most : ℕ) → PageStays (calls.Chan number (ObjectPage after most))
objects_stay number after most world s good =
    let g : Grown world.channels (called (calls.Chan number (ObjectPage after most)) world).channels = grown_call (calls.Chan number (ObjectPage after most)) world in
    let h : Serves (called (calls.Chan number (ObjectPage after most)) world).channels s = serves_grows world.channels (called (calls.Chan number (ObjectPage after most)) world).channels g s good in
    absorbed_serves (called (calls.Chan number (ObjectPage after most)) world).channels s.ended (calls.Chan number (ObjectPage after most)) (reply_to (calls.Chan number (ObjectPage after most)) world) world.now s
    (λ free. paged_by (called (calls.Chan number (ObjectPage after most)) world).channels number (last_place number world.channels) (reply_to (calls.Chan number (ObjectPage after most)) world) world.now s (omega arith) (g.low number) (actor.numbered number s.sessions) refl
    (λ e same. low_at (called (calls.Chan number (ObjectPage after most)) world).channels number (last_place number world.channels) e (g.low number) same) h) h

page_event : (members objects : Bool) (number : ℕ) (p : Sequences) (call : Call)
    → option_map (λ (event : ChannelEvent). calls.Chan number event) (if not members then Some (MemberPage p.after_member PAGE_MEMBERS) else if not objects then Some (ObjectPage p.after_object PAGE_OBJECTS) else None) ≡ Some call → PageStays call
page_event false objects number p call is = let same : calls.Chan number (MemberPage p.after_member PAGE_MEMBERS) ≡ call = cc in subst PageStays same (members_stay number p.after_member PAGE_MEMBERS)
page_event true false number p call is = let same : calls.Chan number (ObjectPage p.after_object PAGE_OBJECTS) ≡ call = cc in subst PageStays same (objects_stay number p.after_object PAGE_OBJECTS)
page_event true true number p call is = absurd (cc)

page_of_one : (o : Option Session) (call : Call) → call_of page_of o ≡ Some call → PageStays call
page_of_one None call is = absurd (cc)
page_of_one (Some session) call is = page_event session.pages.members.done session.pages.objects.done session.number session.pages call is

page_if : (free : Bool) (o : Option Session) (call : Call) → (if free then call_of page_of o else None) ≡ Some call → PageStays call
page_if true o call is = page_of_one o call is
page_if false o call is = absurd (cc)

page_cut : (cut : Bool) (name : List ℕ) (s : actor.State) (call : Call) → unless_cut cut (page_call name s) ≡ Some call → PageStays call
page_cut true name s call is = absurd (cc)
page_cut false name s call is = page_if (actor.is_free s) (at name s.sessions) call is

page_on : (name : List ℕ) (o : Option Transport) (call : Call) → call_on (page_call name) o ≡ Some call → PageStays call
page_on name None call is = absurd (cc)
page_on name (Some t) call is = page_cut t.cut name t.actor call is

pages_of : (world : World) (k : ℕ) (name : List ℕ) (o : Option Call) → next_page k name world ≡ o → AreServing world → AreServing (performs_if k o world)
pages_of world k name None is h = h
pages_of world k name (Some call) is h =
    performs_serving world k call (λ t found good. page_on name (slice_get world.transports k) call is world t.actor good) h

pages_serving : (world : World) (k : ℕ) (name : List ℕ) → AreServing world → AreServing (pages k name world)
pages_serving world k name h = pages_of world k name (next_page k name world) refl h

-- WHAT IS DONE TO THE SERVICE BESIDE

takes_serving : (world : World) (number : ℕ) (event : ChannelEvent) → AreServing world → AreServing (with_event number event world)
takes_serving world number event h = serving_grows world (with_event number event world) (grown_takes number event world.channels) refl h

reaped_serving : (world : World) (queue : List (ℕ × ℕ)) → AreServing world → AreServing (reaped queue world)
reaped_serving world [] h = h
reaped_serving world (pair ∷ more) h = serving_grows world (with_event pair.1 (Gone pair.0 world.now) (record world { queue = more })) (grown_takes pair.1 (Gone pair.0 world.now) world.channels) refl h

aged_serving : (world : World) (o : Option ℕ) → AreServing world → AreServing (event_at o (Tick world.now) world)
aged_serving world None h = h
aged_serving world (Some number) h = takes_serving world number (Tick world.now) h

fed_serving : (world : World) (o : Option ℕ) (body : Body) → AreServing world → AreServing (fed_at o body world)
fed_serving world None body h = h
fed_serving world (Some number) body h = serving_grows world (fed_at (Some number) body world) (grown_takes number (Put feed_conn world.fed body world.now) world.channels) refl h

served : IsServed AreServing
served = record {
  stepping = λ world k h. steps_serving world k h;
  paging = λ world k channel h. pages_serving world k channel h;
  polling = λ world k channel h. polls_serving world k channel h;
  expiring = λ world h. h;
  reaping = λ world h. reaped_serving world world.queue h;
  ageing = λ world channel h. aged_serving world (number_of channel (names world)) h;
  naming = λ world channel h. serving_grows world (with_name channel world) (grown_name channel world) (name_beside channel world).transports h;
  feeding = λ world channel body h. fed_serving world (number_of channel (names world)) body h;
}

-- WHAT CLIENTS DO

sent_serving : (channels : Channels) (list : List Frame) (cut : Bool) (t : Transport) → IsServing channels t → IsServing channels (put_unless cut list t)
sent_serving channels list true t h = h
sent_serving channels list false t h = record { of_actor = h.of_actor; flushed = h.flushed }

new_serving : (channels : Channels) (name : List ℕ) (hello : Hello) (now : ℕ) → IsServing channels (new_transport name hello now)
new_serving channels name hello now = record {
  of_actor = record { numbers = tt; sessions = tt; once = tt; addressed = by_key hello.resume; over = λ why is. absurd (cc) };
  flushed = refl;
}
  where
    by_key : (o : Option (List ℕ)) → IsAddressed channels (actor.first_wish o)
    by_key None = tt
    by_key (Some key) = tt

quiet : IsQuiet AreServing
quiet = record {
  of_client = λ world name change h. h;
  of_new = λ world name h. h;
  of_cut = λ world k h. changed_all (IsServing world.channels) k cut_off (λ t is. record { of_actor = is.of_actor; flushed = is.flushed }) world.transports h;
  of_sent = λ world k list h. changed_all (IsServing world.channels) k (takes_frames list) (λ t is. sent_serving world.channels list t.cut t is) world.transports h;
  of_got = λ world k frame is h. changed_all (IsServing world.channels) k gives_frame (λ t good. record { of_actor = good.of_actor; flushed = good.flushed }) world.transports h;
  of_opened = λ world name hello h. all_append (IsServing world.channels) world.transports (new_transport name hello world.now ∷ []) h (new_serving world.channels name hello world.now, tt);
  of_time = λ world span h. h;
}

-- EVERY RUN

-- each action keeps it
pub keeps_serving : (action : Action) (world : World) → AreServing world → AreServing (does action world)
keeps_serving = each_keeps AreServing quiet served

-- each actor of every run serves so
pub actors_serve : ActorsServe
actors_serve = runs_hold AreServing keeps_serving tt
