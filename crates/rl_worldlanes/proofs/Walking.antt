-- Every action of a world moves its lanes, so every run follows them.
use Rattle.std.proofs.Common.{◌≡◌, inl, ℕ, Bool, true, false, List, [], ◌∷◌, refl, sym, ◌∙◌, ap, subst}
use Rattle.std.specs.Prelude.{Option, Some, None, slice_get, is_some}
use Rattle.std.specs.List.{AllByRecursion}
use Rattle.rl_types.specs.declared.frames.Frame.{Frame}
use Rattle.rl_types.specs.declared.messages.Body.{Body}
use Rattle.rl_events.specs.declared.channel.ChannelEvent.{ChannelEvent}
use Rattle.rl_events.specs.declared.channel.ChannelEvent.TheVariants.{Put, Gone, Tick}
use Rattle.rl_events.specs.declared.calls.Call.{Call}
use Rattle.rl_events.specs.declared.calls.Call.TheVariants as calls
use Rattle.rl_events.specs.declared.calls.DirEvent.TheVariants.{Ask, Names}
use Rattle.rl_events.specs.declared.calls.End.TheVariants.{LinkEnded}
use Rattle.rl_actormodel.specs.Ends.{over}
use Rattle.rl_actormodel.specs.Rests.{rested, does_rest}
use Rattle.rl_actormodel.specs.Wishes.{next_call}
use Rattle.rl_directory.specs.Directory.{number_of}
use Rattle.rl_worldmodel.specs.World.{World, Transport, changed_at, empty_world, owned, last_of, names}
use Rattle.rl_worldmodel.specs.Calls.{event_onto, with_name, called}
use Rattle.rl_worldmodel.specs.Actors.{Deed, Calls, Notices, TakesUp, Rests, Waits, deed_by, deed, deed_of, done, steps, performs, absorbs, takes_up, works, next_page, next_poll, performs_if}
use Rattle.rl_worldmodel.specs.Services.{reaped, event_at, feed_conn, fed_at, expires}
use Rattle.rl_worldmodel.specs.Actions.{Action, Declares, Opens, Cuts, Recovers, Obeys, Gets, LooksAtTime, Steps, Pages, Polls, Passes, Expires, Reaps, Ages, Asks, Feeds, does}
use Rattle.rl_worldtold.specs.Runs.{HoldsOfRuns}
use Rattle.rl_worldtold.proofs.Runs.{runs_hold, runs_so}
use Rattle.rl_worldtold.proofs.Shape.{changed_all, changed_one, name_beside}
use Rattle.rl_worldsessions.specs.Serving.{AreServing}
use Rattle.rl_worldsessions.proofs.Growth.{Grown, grown_same, grown_takes, grown_name, grown_call}
use Rattle.rl_worldsessions.proofs.Serving.{called_transports, keeps_serving}
use Rattle.rl_worldlanes.specs.Following.{AreFronts, IsFollowing}
use Rattle.rl_worldlanes.specs.Laws.{ClientsFollowLanes}
use Rattle.rl_worldlanes.specs.Serving.{IsServed, AreServed, AllTakeAtMostOne}
use Rattle.rl_worldlanes.specs.Growing.{MakesMore, MakeMore}
use Rattle.rl_worldlanes.proofs.Joining.{service_follows}
use Rattle.rl_worldlanes.proofs.Aiming.{make_same, make_changed, all_get}
use Rattle.rl_worldlanes.proofs.Enduring.{grows_by, works_makes, takes_up_makes, absorbs_makes, works_fronts, takes_up_fronts, absorbs_fronts, owners_stay}
use Rattle.rl_worldlanes.proofs.Histories.{none_takes, event_takes}
use Rattle.rl_worldlanes.proofs.Elsewhere.{one_served, performs_takes, performs_served, name_past, reaps_served, ages_served, asks_served, feeds_served, expires_served, passes_served}
use Rattle.rl_worldlanes.proofs.Resting.{notices_served, notices_no_event, rests_served, rests_no_event}
use Rattle.rl_worldlanes.proofs.TakingUp.{takes_served, takes_no_event}
use Rattle.rl_worldlanes.proofs.Booking.{book_served}
use Rattle.rl_worldlanes.proofs.Wanted.{wanted_served}
use Rattle.rl_worldlanes.proofs.Reading.{poll_served}
use Rattle.rl_worldlanes.proofs.Paged.{page_served}
use Rattle.rl_worldlanes.proofs.Obeying.{cut_follow, opens_follow, obeys_follow, gets_follow, looks_follow}
use Rattle.rl_worldlanes.proofs.Declaring.{declares_follow, recovers_follow}

-- ONE TRANSPORT IS CHANGED BY ITS ACTOR

one_follows : (world after : World) (k : ℕ) (change : Transport → Transport) → after.transports ≡ changed_at k change world.transports → after.clients ≡ world.clients
    → Grown world.channels after.channels → AllTakeAtMostOne world after → ((t : Transport) → MakesMore t (change t))
    → AllByRecursion AreFronts after.transports → AreServed world after → IsFollowing world → IsFollowing after
one_follows world after k change same clients grown takes makes fronts served h =
    service_follows world after
    (grows_by world after takes grown (subst (MakeMore world.transports) (sym same) (make_changed k change makes world.transports)))
    served clients (λ owner. owners_stay owner k change world after makes same) fronts h

-- a call is performed
call_clients : (call : Call) (world : World) → (called call world).clients ≡ world.clients
call_clients (calls.Book event) world = refl
call_clients (calls.Dir (Ask name)) world = (name_beside name world).clients
call_clients (calls.Dir Names) world = refl
call_clients (calls.Chan number event) world = refl

performs_same : (k : ℕ) (call : Call) (world : World) → (performs k call world).transports ≡ changed_at k (absorbs call world) world.transports
performs_same k call world = ap (changed_at k (absorbs call world)) (called_transports call world)

performs_follow : (world : World) (k : ℕ) (call : Call) → ((t : Transport) → slice_get world.transports k ≡ Some t → IsServed world (performs k call world) t (absorbs call world t))
    → IsFollowing world → IsFollowing (performs k call world)
performs_follow world k call step h =
    one_follows world (performs k call world) k (absorbs call world) (performs_same k call world) (call_clients call world) (grown_call call world)
    (performs_takes world k call) (λ t. absorbs_makes call world t)
    (subst (AllByRecursion AreFronts) (sym (performs_same k call world)) (changed_all AreFronts k (absorbs call world) (λ t is. absorbs_fronts call world t is) world.transports h.fronts))
    (performs_served world k call step) h

-- STEPS

pub called_is : (o : Option Call) (ended cut : Bool) (frame : Option Frame) (rests : Bool) (call : Call) → deed_by o ended cut frame rests ≡ Calls call → o ≡ Some call
called_is (Some one) ended cut frame rests call is = let same : one ≡ call = cc in ap (λ (c : Call). Some c) same
called_is None true cut frame rests call is = absurd (cc)
called_is None false true frame rests call is = absurd (cc)
called_is None false false (Some one) rests call is = absurd (cc)
called_is None false false None true call is = absurd (cc)
called_is None false false None false call is = absurd (cc)

next_is : (o : Option Call) (ended cut : Bool) (frame : Option Frame) (rests : Bool) (one : Frame) → deed_by o ended cut frame rests ≡ TakesUp one → frame ≡ Some one
next_is (Some call) ended cut frame rests one is = absurd (cc)
next_is None true cut frame rests one is = absurd (cc)
next_is None false true frame rests one is = absurd (cc)
next_is None false false (Some two) rests one is = let same : two ≡ one = cc in ap (λ (f : Frame). Some f) same
next_is None false false None true one is = absurd (cc)
next_is None false false None false one is = absurd (cc)

done_follow : (world : World) (k : ℕ) (t : Transport) (d : Deed) → slice_get world.transports k ≡ Some t → deed world.now t ≡ d → AreServing world → IsFollowing world → IsFollowing (done k d world)
done_follow world k t (Calls call) found is serving h =
    performs_follow world k call
    (λ u there. wanted_served world k u serving h.fronts there (λ event wants. book_served world k u event serving h.fronts there wants) call (called_is (next_call world.now u.actor) (is_some u.actor.ended) u.cut (slice_get u.to_service.put u.to_service.got) (does_rest world.now u.actor) call (deed_at u there)))
    h
  where
    deed_at : (u : Transport) → slice_get world.transports k ≡ Some u → deed world.now u ≡ Calls call
    deed_at u there = let two : Some t ≡ Some u = sym found ∙ there in let it : t ≡ u = cc in subst (λ (v : Transport). deed world.now v ≡ Calls call) it is
done_follow world k t Notices found is serving h =
    one_follows world (done k Notices world) k (works (over LinkEnded)) refl refl (grown_same world.channels) (notices_no_event world k) (λ u. works_makes (over LinkEnded) u)
    (changed_all AreFronts k (works (over LinkEnded)) (λ u good. works_fronts (over LinkEnded) u good) world.transports h.fronts)
    (one_served world (done k Notices world) k (works (over LinkEnded)) refl (notices_no_event world k)
    (λ u there. notices_served world k u serving h.fronts there (deed_at u there))) h
  where
    deed_at : (u : Transport) → slice_get world.transports k ≡ Some u → deed world.now u ≡ Notices
    deed_at u there = let two : Some t ≡ Some u = sym found ∙ there in let it : t ≡ u = cc in subst (λ (v : Transport). deed world.now v ≡ Notices) it is
done_follow world k t (TakesUp frame) found is serving h =
    one_follows world (done k (TakesUp frame) world) k (takes_up frame world.now) refl refl (grown_same world.channels) (takes_no_event world k frame) (λ u. takes_up_makes frame world.now u)
    (changed_one AreFronts k (takes_up frame world.now) t
    (takes_up_fronts frame world.now t (next_is (next_call world.now t.actor) (is_some t.actor.ended) t.cut (slice_get t.to_service.put t.to_service.got) (does_rest world.now t.actor) frame is) (all_get AreFronts world.transports k t h.fronts found))
    world.transports found h.fronts)
    (one_served world (done k (TakesUp frame) world) k (takes_up frame world.now) refl (takes_no_event world k frame)
    (λ u there. takes_served world k u frame serving h.fronts there (deed_at u there))) h
  where
    deed_at : (u : Transport) → slice_get world.transports k ≡ Some u → deed world.now u ≡ TakesUp frame
    deed_at u there = let two : Some t ≡ Some u = sym found ∙ there in let it : t ≡ u = cc in subst (λ (v : Transport). deed world.now v ≡ TakesUp frame) it is
done_follow world k t Rests found is serving h =
    one_follows world (done k Rests world) k (works (rested world.now)) refl refl (grown_same world.channels) (rests_no_event world k) (λ u. works_makes (rested world.now) u)
    (changed_all AreFronts k (works (rested world.now)) (λ u good. works_fronts (rested world.now) u good) world.transports h.fronts)
    (one_served world (done k Rests world) k (works (rested world.now)) refl (rests_no_event world k)
    (λ u there. rests_served world k u serving h.fronts there (deed_at u there))) h
  where
    deed_at : (u : Transport) → slice_get world.transports k ≡ Some u → deed world.now u ≡ Rests
    deed_at u there = let two : Some t ≡ Some u = sym found ∙ there in let it : t ≡ u = cc in subst (λ (v : Transport). deed world.now v ≡ Rests) it is
done_follow world k t Waits found is serving h = h

steps_by : (world : World) (k : ℕ) (o : Option Transport) → slice_get world.transports k ≡ o → AreServing world → IsFollowing world → IsFollowing (done k (deed_of world.now o) world)
steps_by world k None found serving h = h
steps_by world k (Some t) found serving h = done_follow world k t (deed world.now t) found refl serving h

steps_follow : (world : World) (k : ℕ) → AreServing world → IsFollowing world → IsFollowing (steps k world)
steps_follow world k serving h = steps_by world k (slice_get world.transports k) refl serving h

-- PAGES AND READS

pages_by : (world : World) (k : ℕ) (name : List ℕ) (o : Option Call) → next_page k name world ≡ o → AreServing world → IsFollowing world → IsFollowing (performs_if k o world)
pages_by world k name None is serving h = h
pages_by world k name (Some call) is serving h = performs_follow world k call (λ t found. page_served world k t name call serving h.fronts found is) h

polls_by : (world : World) (k : ℕ) (name : List ℕ) (o : Option Call) → next_poll k name world ≡ o → AreServing world → IsFollowing world → IsFollowing (performs_if k o world)
polls_by world k name None is serving h = h
polls_by world k name (Some call) is serving h = performs_follow world k call (λ t found. poll_served world k t name call serving h.fronts found is) h

-- EVENTS OF NO ACTOR

beside_follows : (world after : World) → after.transports ≡ world.transports → after.clients ≡ world.clients → Grown world.channels after.channels → AllTakeAtMostOne world after → AreServed world after → IsFollowing world → IsFollowing after
beside_follows world after same clients grown takes served h =
    service_follows world after (grows_by world after takes grown (subst (MakeMore world.transports) (sym same) (make_same world.transports))) served clients
    (λ owner. ap (λ (ts : List Transport). last_of (owned owner 0 ts)) same)
    (subst (AllByRecursion AreFronts) (sym same) h.fronts) h

event_follows : (world after : World) (number : ℕ) (event : ChannelEvent) → after.channels ≡ changed_at number (event_onto event) world.channels → after.transports ≡ world.transports → after.clients ≡ world.clients → AreServed world after → IsFollowing world → IsFollowing after
event_follows world after number event is same clients served h =
    beside_follows world after same clients (subst (Grown world.channels) (sym is) (grown_takes number event world.channels)) (event_takes world after number event is) served h

reaped_follow : (world : World) (queue : List (ℕ × ℕ)) → AreServed world (reaped queue world) → IsFollowing world → IsFollowing (reaped queue world)
reaped_follow world [] served h = h
reaped_follow world (pair ∷ more) served h = event_follows world (reaped (pair ∷ more) world) pair.1 (Gone pair.0 world.now) refl refl refl served h

aged_follow : (world : World) (o : Option ℕ) → AreServed world (event_at o (Tick world.now) world) → IsFollowing world → IsFollowing (event_at o (Tick world.now) world)
aged_follow world None served h = h
aged_follow world (Some number) served h = event_follows world (event_at (Some number) (Tick world.now) world) number (Tick world.now) refl refl refl served h

fed_follow : (world : World) (o : Option ℕ) (body : Body) → AreServed world (fed_at o body world) → IsFollowing world → IsFollowing (fed_at o body world)
fed_follow world None body served h = h
fed_follow world (Some number) body served h = event_follows world (fed_at (Some number) body world) number (Put feed_conn world.fed body world.now) refl refl refl served h

-- ALL ACTIONS

pub keeps_following : (action : Action) (world : World) → AreServing world → IsFollowing world → IsFollowing (does action world)
keeps_following (Declares name) world serving h = declares_follow name world h
keeps_following (Opens name) world serving h = opens_follow name world h
keeps_following (Cuts name) world serving h = cut_follow name world h
keeps_following (Recovers name other) world serving h = recovers_follow name other world h
keeps_following (Obeys name command) world serving h = obeys_follow name command world h
keeps_following (Gets name) world serving h = gets_follow name world h
keeps_following (LooksAtTime name) world serving h = looks_follow name world h
keeps_following (Steps k) world serving h = steps_follow world k serving h
keeps_following (Pages k name) world serving h = pages_by world k name (next_page k name world) refl serving h
keeps_following (Polls k name) world serving h = polls_by world k name (next_poll k name world) refl serving h
keeps_following (Passes span) world serving h = beside_follows world (does (Passes span) world) refl refl (grown_same world.channels) (none_takes world (does (Passes span) world) refl) (passes_served world span) h
keeps_following Expires world serving h = beside_follows world (expires world) refl refl (grown_same world.channels) (none_takes world (expires world) refl) (expires_served world) h
keeps_following Reaps world serving h = reaped_follow world world.queue (reaps_served world) h
keeps_following (Ages name) world serving h = aged_follow world (number_of name (names world)) (ages_served world name) h
keeps_following (Asks name) world serving h =
    beside_follows world (with_name name world) (name_beside name world).transports (name_beside name world).clients (grown_name name world) (λ q. inl (name_past q name world)) (asks_served world name) h
keeps_following (Feeds name body) world serving h = fed_follow world (number_of name (names world)) body (feeds_served world name body) h

-- the empty world
begins_following : IsFollowing empty_world
begins_following = record { found = tt; fronts = tt; owners = λ owner none. refl; clients = λ owner state is. absurd (cc) }

abbrev Both : World → Type 0
Both world = AreServing world × IsFollowing world

both_hold : HoldsOfRuns Both
both_hold = runs_hold Both (λ action world h. (keeps_serving action world h.0, keeps_following action world h.0 h.1)) (tt, begins_following)

-- the clients of every run follow lanes
pub clients_follow_lanes : ClientsFollowLanes
clients_follow_lanes = runs_so Both IsFollowing (λ world h. h.1) both_hold
