-- Every action keeps the calls that were made true, so they are in every run.
use Rattle.std.proofs.Common.{◌≡◌, ℕ, zero, suc, Bool, true, false, List, [], ◌∷◌, ◌++◌, refl, sym, ◌∙◌, ap, subst}
use Rattle.std.specs.Prelude.{Option, Some, None, slice_get, is_some, option_map}
use Rattle.rl_types.specs.declared.frames.Frame.{Frame}
use Rattle.rl_types.specs.declared.messages.Body.{Body}
use Rattle.rl_runs.specs.declared.commands.Hello.{Hello}
use Rattle.rl_events.specs.declared.book.BookEvent.TheVariants as events
use Rattle.rl_events.specs.declared.channel.ChannelEvent.{ChannelEvent}
use Rattle.rl_events.specs.declared.channel.ChannelEvent.TheVariants.{Put, Gone, Join, Tick}
use Rattle.rl_events.specs.declared.calls.Call.{Call}
use Rattle.rl_events.specs.declared.calls.Call.TheVariants as calls
use Rattle.rl_events.specs.declared.calls.DirEvent.TheVariants.{Ask}
use Rattle.rl_events.specs.declared.calls.End.TheVariants.{LinkEnded}
use Rattle.rl_directory.specs.Directory.{number_of}
use Rattle.rl_pages.specs.State.{next_event}
use Rattle.rl_actormodel.specs.declared.parts.Session.{Session}
use Rattle.rl_actormodel.specs.declared.parts.Wish.{Wish}
use Rattle.rl_actormodel.specs.declared.parts.Wish.TheVariants as wishes
use Rattle.rl_actormodel.specs.State as actor
use Rattle.rl_actormodel.specs.Ends.{over}
use Rattle.rl_actormodel.specs.Rests.{rested, does_rest}
use Rattle.rl_actormodel.specs.Takes.{took}
use Rattle.rl_actormodel.specs.Wishes.{wanted, next_call, page_of, read_of}
use Rattle.rl_worldmodel.specs.World.{World, Transport, CallMade, new_transport, changed_at, on_transport, with_one_got, names}
use Rattle.rl_worldmodel.specs.Calls.{with_name}
use Rattle.rl_worldmodel.specs.Actors.{Deed, Calls, Notices, TakesUp, Rests, Waits, put_out_unless, works, takes_up, arrives, deed, deed_of, done, performs, next_page, next_poll, performs_if}
use Rattle.rl_worldmodel.specs.Clients.{cut_off, put_unless, takes_frames, gives_frame}
use Rattle.rl_worldmodel.specs.Services.{reaped, event_at, feed_conn, fed_at}
use Rattle.rl_worldmodel.specs.Actions.{Action, Declares, Opens, Cuts, Recovers, Obeys, Gets, LooksAtTime, Steps, Pages, Polls, Passes, Expires, Reaps, Ages, Asks, Feeds, does}
use Rattle.rl_worldtold.specs.Runs.{HoldsOfRuns}
use Rattle.rl_worldtold.proofs.Runs.{runs_hold, runs_so}
use Rattle.rl_worldtold.proofs.Quiet.{IsQuiet, declares_keeps, opens_keeps, cuts_keeps, recovers_keeps, obeys_keeps, gets_keeps, looks_keeps}
use Rattle.rl_worldtold.proofs.Shape.{name_beside}
use Rattle.rl_worldsessions.specs.Serving.{HasNumber, IsAddressed, AreServing}
use Rattle.rl_worldsessions.proofs.Serving.{keeps_serving}
use Rattle.rl_worldsessions.specs.Sessions.{read_call}
use Rattle.rl_worldlanes.specs.Made.{calls_of, HasTrueCalls, CallsAreEvents}
use Rattle.rl_worldlanes.proofs.Called.{serving_at}
use Rattle.rl_worldlanes.proofs.Sessions.{IsCalled, is_called, session_is}
use Rattle.rl_worldlanes.proofs.Walking.{called_is}
use Rattle.rl_worldlanes.proofs.Apart.{all_same, event_goes, name_goes, goes_true, IsAtChannel, performs_true}

-- NO CALL

made_changed : (k : ℕ) (f : Transport → Transport) → ((t : Transport) → (f t).made ≡ t.made) → (ts : List Transport)
    → calls_of (changed_at k f ts) ≡ calls_of ts
made_changed k f same [] = refl
made_changed zero f same (t ∷ ts) = ap (λ (made : List CallMade). made ++ calls_of ts) (same t)
made_changed (suc k) f same (t ∷ ts) = ap (λ (made : List CallMade). t.made ++ made) (made_changed k f same ts)

-- a transport is changed, and makes none
changed_true : (world : World) (k : ℕ) (f : Transport → Transport) → ((t : Transport) → (f t).made ≡ t.made) → HasTrueCalls world
    → HasTrueCalls (on_transport k f world)
changed_true world k f same h =
    goes_true world (on_transport k f world) (all_same world (on_transport k f world) refl) (made_changed k f same world.transports) h

made_opened : (ts : List Transport) (t : Transport) → t.made ≡ [] → calls_of (ts ++ t ∷ []) ≡ calls_of ts
made_opened [] t none = ap (λ (made : List CallMade). made ++ []) none
made_opened (u ∷ ts) t none = ap (λ (made : List CallMade). u.made ++ made) (made_opened ts t none)

put_made : (b : Bool) (frames : List Frame) (t : Transport) → (put_unless b frames t).made ≡ t.made
put_made true frames t = refl
put_made false frames t = refl

out_made : (b : Bool) (frames : List Frame) (t : Transport) → (put_out_unless b frames t).made ≡ t.made
out_made true frames t = refl
out_made false frames t = refl

works_made : (act : actor.State → actor.State) (t : Transport) → (works act t).made ≡ t.made
works_made act t = out_made t.cut (act t.actor).waiting (record t { actor = act t.actor })

-- what clients do makes none
quiet : IsQuiet HasTrueCalls
quiet = record {
  of_client = λ world name change h. record { events = h.events; apart = h.apart };
  of_new = λ world name h. record { events = h.events; apart = h.apart };
  of_cut = λ world k h. changed_true world k cut_off (λ t. refl) h;
  of_sent = λ world k list h. changed_true world k (takes_frames list) (λ t. put_made t.cut list t) h;
  of_got = λ world k frame is h. changed_true world k gives_frame (λ t. refl) h;
  of_opened = λ world name hello h. opened world name hello h;
  of_time = λ world span h. record { events = h.events; apart = h.apart };
}
  where
    opened : (world : World) (name : List ℕ) (hello : Hello) → HasTrueCalls world
        → HasTrueCalls (record world { transports = world.transports ++ new_transport name hello world.now ∷ [] })
    opened world name hello h =
        let after : World = record world { transports = world.transports ++ new_transport name hello world.now ∷ [] } in
        goes_true world after (all_same world after refl) (made_opened world.transports (new_transport name hello world.now) refl) h

-- CALLS

-- what a wish wants of a channel is of one that the directory has
at_wish : (world : World) (wish : Wish) (hello : Hello) (now : ℕ) (call : Call) → IsAddressed world.channels wish
    → wanted wish hello now ≡ Some call → IsAtChannel world call
at_wish world wishes.Nothing hello now call h is = absurd (cc)
at_wish world (wishes.Resume key) hello now call h is =
    let same : calls.Book (events.Resume key now) ≡ call = cc in subst (IsAtChannel world) same tt
at_wish world wishes.Open hello now call h is =
    let same : calls.Book (events.Open hello.word now) ≡ call = cc in subst (IsAtChannel world) same tt
at_wish world (wishes.Lost holder) hello now call h is =
    let same : calls.Book (events.Lost holder.conn holder.generation now) ≡ call = cc in subst (IsAtChannel world) same tt
at_wish world (wishes.Close holder) hello now call h is =
    let same : calls.Book (events.Close holder.conn holder.generation) ≡ call = cc in subst (IsAtChannel world) same tt
at_wish world (wishes.AskToAttach asked) hello now call h is =
    let same : calls.Dir (Ask asked.channel) ≡ call = cc in subst (IsAtChannel world) same tt
at_wish world (wishes.Join asked number) hello now call h is =
    let same : calls.Chan number (Join asked.serial) ≡ call = cc in subst (IsAtChannel world) same (asked.channel, h)
at_wish world (wishes.Begin p holder) hello now call h is =
    let same : calls.Book (events.Begin holder.conn holder.generation p.serial) ≡ call = cc in subst (IsAtChannel world) same tt
at_wish world (wishes.AskToPut p holder) hello now call h is =
    let same : calls.Dir (Ask p.channel) ≡ call = cc in subst (IsAtChannel world) same tt
at_wish world (wishes.Put p holder number) hello now call h is =
    let same : calls.Chan number (Put holder.conn p.serial p.body now) ≡ call = cc in subst (IsAtChannel world) same (p.channel, h)
at_wish world (wishes.Finish p holder outcome) hello now call h is =
    let same : calls.Book (events.End holder.conn holder.generation p.serial outcome) ≡ call = cc in subst (IsAtChannel world) same tt

wanted_true : (world : World) (k : ℕ) (call : Call)
    → ((t : Transport) → slice_get world.transports k ≡ Some t → next_call world.now t.actor ≡ Some call)
    → AreServing world → HasTrueCalls world → HasTrueCalls (performs k call world)
wanted_true world k call wants serving h =
    performs_true world k call
    (λ t found. at_wish world t.actor.wish t.actor.hello world.now call
    (serving_at world k t serving found).of_actor.addressed (wants t found)) h

-- what is called of a session is of its channel
at_page : (world : World) (name : List ℕ) (session : Session) (call : Call) → HasNumber world.channels name session.number
    → page_of session ≡ Some call → IsAtChannel world call
at_page world name session call has is = by_event (next_event session.pages) is where
  by_event : (o : Option ChannelEvent) → option_map (λ (event : ChannelEvent). calls.Chan session.number event) o ≡ Some call
      → IsAtChannel world call
  by_event None is = absurd (cc)
  by_event (Some event) is = let same : calls.Chan session.number event ≡ call = cc in subst (IsAtChannel world) same (name, has)

at_read : (world : World) (name : List ℕ) (session : Session) (call : Call) → HasNumber world.channels name session.number
    → read_of session ≡ Some call → IsAtChannel world call
at_read world name session call has is =
    let same : read_call session ≡ call = cc in subst (IsAtChannel world) same (name, has)

pages_true : (world : World) (k : ℕ) (name : List ℕ) (o : Option Call) → next_page k name world ≡ o → AreServing world
    → HasTrueCalls world → HasTrueCalls (performs_if k o world)
pages_true world k name None is serving h = h
pages_true world k name (Some call) is serving h = performs_true world k call at h where
  at_session : (t : Transport) → slice_get world.transports k ≡ Some t → IsCalled page_of name t call → IsAtChannel world call
  at_session t found c =
      at_page world name c.session call
      (session_is world.channels t name c.session (serving_at world k t serving found) c.stands).numbered c.is

  at : (t : Transport) → slice_get world.transports k ≡ Some t → IsAtChannel world call
  at t found = at_session t found (is_called page_of name (slice_get world.transports k) t call found is)

polls_true : (world : World) (k : ℕ) (name : List ℕ) (o : Option Call) → next_poll k name world ≡ o → AreServing world
    → HasTrueCalls world → HasTrueCalls (performs_if k o world)
polls_true world k name None is serving h = h
polls_true world k name (Some call) is serving h = performs_true world k call at h where
  at_session : (t : Transport) → slice_get world.transports k ≡ Some t → IsCalled read_of name t call → IsAtChannel world call
  at_session t found c =
      at_read world name c.session call
      (session_is world.channels t name c.session (serving_at world k t serving found) c.stands).numbered c.is

  at : (t : Transport) → slice_get world.transports k ≡ Some t → IsAtChannel world call
  at t found = at_session t found (is_called read_of name (slice_get world.transports k) t call found is)

-- STEPS

done_true : (world : World) (k : ℕ) (t : Transport) (d : Deed) → slice_get world.transports k ≡ Some t → deed world.now t ≡ d
    → AreServing world → HasTrueCalls world → HasTrueCalls (done k d world)
done_true world k t (Calls call) found is serving h = wanted_true world k call wants serving h where
  wants : (u : Transport) → slice_get world.transports k ≡ Some u → next_call world.now u.actor ≡ Some call
  wants u there =
      let two : Some t ≡ Some u = sym found ∙ there in
      let it : t ≡ u = cc in
      subst (λ (v : Transport). next_call world.now v.actor ≡ Some call) it
      (called_is (next_call world.now t.actor) (is_some t.actor.ended) t.cut
      (slice_get t.to_service.put t.to_service.got) (does_rest world.now t.actor) call is)
done_true world k t Notices found is serving h = changed_true world k (works (over LinkEnded)) (λ u. works_made (over LinkEnded) u) h
done_true world k t (TakesUp frame) found is serving h =
    changed_true world k (takes_up frame world.now)
    (λ u. works_made (took (arrives frame) world.now) (record u { to_service = with_one_got u.to_service })) h
done_true world k t Rests found is serving h = changed_true world k (works (rested world.now)) (λ u. works_made (rested world.now) u) h
done_true world k t Waits found is serving h = h

steps_true : (world : World) (k : ℕ) (o : Option Transport) → slice_get world.transports k ≡ o → AreServing world → HasTrueCalls world
    → HasTrueCalls (done k (deed_of world.now o) world)
steps_true world k None found serving h = h
steps_true world k (Some t) found serving h = done_true world k t (deed world.now t) found refl serving h

-- EVENTS OF NO ACTOR

reaped_true : (world : World) (queue : List (ℕ × ℕ)) → HasTrueCalls world → HasTrueCalls (reaped queue world)
reaped_true world [] h = h
reaped_true world (pair ∷ more) h = goes_true world (reaped (pair ∷ more) world) (event_goes pair.1 (Gone pair.0 world.now) world) refl h

aged_true : (world : World) (o : Option ℕ) → HasTrueCalls world → HasTrueCalls (event_at o (Tick world.now) world)
aged_true world None h = h
aged_true world (Some number) h =
    goes_true world (event_at (Some number) (Tick world.now) world) (event_goes number (Tick world.now) world) refl h

fed_true : (world : World) (o : Option ℕ) (body : Body) → HasTrueCalls world → HasTrueCalls (fed_at o body world)
fed_true world None body h = h
fed_true world (Some number) body h =
    goes_true world (fed_at (Some number) body world) (event_goes number (Put feed_conn world.fed body world.now) world) refl h

-- ALL ACTIONS

keeps_true : (action : Action) (world : World) → AreServing world → HasTrueCalls world → HasTrueCalls (does action world)
keeps_true (Declares name) world serving h = declares_keeps HasTrueCalls quiet name world h
keeps_true (Opens name) world serving h = opens_keeps HasTrueCalls quiet name world h
keeps_true (Cuts name) world serving h = cuts_keeps HasTrueCalls quiet name world h
keeps_true (Recovers name other) world serving h = recovers_keeps HasTrueCalls quiet name other world h
keeps_true (Obeys name command) world serving h = obeys_keeps HasTrueCalls quiet name command world h
keeps_true (Gets name) world serving h = gets_keeps HasTrueCalls quiet name world h
keeps_true (LooksAtTime name) world serving h = looks_keeps HasTrueCalls quiet name world h
keeps_true (Steps k) world serving h = steps_true world k (slice_get world.transports k) refl serving h
keeps_true (Pages k name) world serving h = pages_true world k name (next_page k name world) refl serving h
keeps_true (Polls k name) world serving h = polls_true world k name (next_poll k name world) refl serving h
keeps_true (Passes span) world serving h = record { events = h.events; apart = h.apart }
keeps_true Expires world serving h = record { events = h.events; apart = h.apart }
keeps_true Reaps world serving h = reaped_true world world.queue h
keeps_true (Ages name) world serving h = aged_true world (number_of name (names world)) h
keeps_true (Asks name) world serving h =
    goes_true world (with_name name world) (name_goes name world) (ap calls_of (name_beside name world).transports) h
keeps_true (Feeds name body) world serving h = fed_true world (number_of name (names world)) body h

-- EVERY RUN

abbrev Both : World → Type 0
Both world = AreServing world × HasTrueCalls world

both_hold : HoldsOfRuns Both
both_hold =
    runs_hold Both (λ action world h. (keeps_serving action world h.0, keeps_true action world h.0 h.1)) (tt, record { events = tt; apart = tt })

-- each call that was made is the event that it says, and no other call is
pub calls_are_events : CallsAreEvents
calls_are_events = runs_so Both HasTrueCalls (λ world h. h.1) both_hold
