-- A page moves the lane of its session's channel.
use Rattle.std.proofs.Common.{◌≡◌, ℕ, Bool, true, false, List, refl, sym, ◌∙◌, ap, subst}
use Rattle.std.specs.Prelude.{Option, Some, None, slice_get, if◌then◌else◌, not, option_map}
use Rattle.std.specs.List.{AllByRecursion}
use Rattle.rl_ids.specs.declared.members.MemberKey.{MemberKey}
use Rattle.rl_ids.specs.declared.objects.ObjectId.{ObjectId}
use Rattle.rl_numbers.specs.declared.limits.TheConstants.{PAGE_MEMBERS, PAGE_OBJECTS}
use Rattle.rl_types.specs.declared.frames.Frame.{Frame}
use Rattle.rl_events.specs.declared.channel.ChannelEvent.{ChannelEvent}
use Rattle.rl_events.specs.declared.channel.ChannelEvent.TheVariants.{MemberPage, ObjectPage}
use Rattle.rl_events.specs.declared.calls.Call.{Call}
use Rattle.rl_events.specs.declared.calls.Call.TheVariants.{Chan}
use Rattle.rl_names.specs.Names.{at, with_entry}
use Rattle.rl_model.specs.Reply.{reply}
use Rattle.rl_pages.specs.State.{next_event, page_absorbed}
use Rattle.rl_actormodel.specs.declared.parts.Session.{Session}
use Rattle.rl_actormodel.specs.State as actor
use Rattle.rl_actormodel.specs.Replies.{channel_reply}
use Rattle.rl_actormodel.specs.Pagings.{paged, page_by}
use Rattle.rl_actormodel.specs.Reads.{answered_at, on_session}
use Rattle.rl_actormodel.specs.Wishes.{page_of}
use Rattle.rl_lanes.specs.Lanes.{Coming, Link, Lane}
use Rattle.rl_lanes.specs.Moves.{TurnsPage, lane_after, on_link, page_in, puts, turns, turns_page, turns_to}
use Rattle.rl_lanes.proofs.Frames.{frames_are_the_machines}
use Rattle.rl_worldmodel.specs.World.{World, Transport, history}
use Rattle.rl_worldmodel.specs.Calls.{reply_to}
use Rattle.rl_worldmodel.specs.Actors.{next_page, absorbs, performs}
use Rattle.rl_worldtold.proofs.Shape.{all_at}
use Rattle.rl_worldsessions.specs.Serving.{IsServing, AreServing, IsSessionOf}
use Rattle.rl_worldsessions.specs.Paged.{page_told, after_page}
use Rattle.rl_worldsessions.proofs.Found.{number_found}
use Rattle.rl_worldlanes.specs.Following.{AreFronts, setup_of}
use Rattle.rl_worldlanes.specs.Serving.{IsServed}
use Rattle.rl_worldlanes.proofs.Moving.{moved}
use Rattle.rl_worldlanes.proofs.Sessions.{IsCalled, is_called, session_is, moved_served}

module _ (world : World) (t : Transport) (name : List ℕ) (session : Session)
    (h : IsServing world.channels t) (stands : at name t.actor.sessions ≡ Some session) where
  own : IsSessionOf world.channels (name, session)
  own = session_is world.channels t name session h stands

  found : actor.numbered session.number t.actor.sessions ≡ Some (name, session)
  found = number_found world.channels name session t.actor.sessions h.of_actor.sessions own.numbered stands

  -- what the answer makes of the actor
  abbrev IsSo : ChannelEvent → Type 0
  IsSo event =
      t.actor.ended ≡ None
      → after_page event session world t.actor ≡ page_by name session (Some (page_told event session world)) world.now t.actor

  members_so : (after : Option MemberKey) (most : ℕ) → IsSo (MemberPage after most)
  members_so after most free =
      let call : Call = Chan session.number (MemberPage after most) in
      ap (λ o. answered_at o call (reply_to call world) world.now t.actor) free
      ∙ ap (λ o. on_session (λ n one. page_by n one (channel_reply (reply_to call world)) world.now) o t.actor) found

  objects_so : (after : Option ObjectId) (most : ℕ) → IsSo (ObjectPage after most)
  objects_so after most free =
      let call : Call = Chan session.number (ObjectPage after most) in
      ap (λ o. answered_at o call (reply_to call world) world.now t.actor) free
      ∙ ap (λ o. on_session (λ n one. page_by n one (channel_reply (reply_to call world)) world.now) o t.actor) found

  by_kind : (members objects : Bool) (event : ChannelEvent)
      → (if not members then Some (MemberPage session.pages.after_member PAGE_MEMBERS)
      else if not objects then Some (ObjectPage session.pages.after_object PAGE_OBJECTS) else None) ≡ Some event
      → IsSo event
  by_kind false objects event is =
      let same : MemberPage session.pages.after_member PAGE_MEMBERS ≡ event = cc in
      subst IsSo same (members_so session.pages.after_member PAGE_MEMBERS)
  by_kind true false event is =
      let same : ObjectPage session.pages.after_object PAGE_OBJECTS ≡ event = cc in
      subst IsSo same (objects_so session.pages.after_object PAGE_OBJECTS)
  by_kind true true event is = absurd (cc)

  -- what is put out on the channel, and the session then
  abbrev Given : ChannelEvent → List Coming
  Given event = page_in (page_told event session world) session.pages

  abbrev Next : ChannelEvent → Session
  Next event = paged (page_absorbed (page_told event session world) session.pages) session

  page_is : (event : ChannelEvent) → next_event session.pages ≡ Some event → t.actor.ended ≡ None
      → after_page event session world t.actor ≡ moved (setup_of name) (Given event) (Next event) world.now t.actor
  page_is event next free =
      by_kind session.pages.members.done session.pages.objects.done event next free
      ∙ ap (λ (frames : List Frame). actor.puts frames world.now (record t.actor { sessions = with_entry name (Next event) t.actor.sessions }))
      (sym (frames_are_the_machines.pages (setup_of name) (page_told event session world) session.pages own.paged.named))

  lane_turns : (event : ChannelEvent) → next_event session.pages ≡ Some event → (lane : Lane) (link : Link)
      → lane.past ≡ history session.number world → lane.link ≡ Some link → link.session ≡ Some session
      → lane_after (setup_of name) TurnsPage lane ≡ puts event (Given event) (Next event) link lane
  lane_turns event next lane link past linked attached =
      let setup = setup_of name in
      ap (λ (o : Option Link). on_link (λ (l : Link). turns setup l.session l) o lane) linked
      ∙ ap (λ (o : Option Session). turns setup o link lane) attached
      ∙ ap (λ (o : Option ChannelEvent). turns_page setup o session link lane) next
      ∙ ap (λ (events : List ChannelEvent). turns_to event (reply setup.epoch setup.site events event) session link lane) past

  turned_served : (k : ℕ) (event : ChannelEvent) → next_event session.pages ≡ Some event → AreFronts t → t.actor.ended ≡ None
      → IsServed world (performs k (Chan session.number event) world) t (absorbs (Chan session.number event) world t)
  turned_served k event next fronts free =
      moved_served world k t session.number event name own.numbered fronts.client
      TurnsPage (Given event) session (Next event) (lane_turns event next) stands free h.flushed (page_is event next free)

-- the event of a page that is called
event_of : (number : ℕ) (o : Option ChannelEvent) (call : Call) → option_map (λ (event : ChannelEvent). Chan number event) o ≡ Some call
    → (event : ChannelEvent) × (o ≡ Some event) × (Chan number event ≡ call)
event_of number None call is = absurd (cc)
event_of number (Some event) call is = (event, refl, let same : Chan number event ≡ call = cc in same)

-- a page of a channel that an actor's session wants
pub page_served : (world : World) (k : ℕ) (t : Transport) (name : List ℕ) (call : Call) → AreServing world
    → AllByRecursion AreFronts world.transports → slice_get world.transports k ≡ Some t → next_page k name world ≡ Some call
    → IsServed world (performs k call world) t (absorbs call world t)
page_served world k t name call serving fronts found next =
    by_call (is_called page_of name (slice_get world.transports k) t call found next) where
      by_call : IsCalled page_of name t call → IsServed world (performs k call world) t (absorbs call world t)
      by_call c =
          let e = event_of c.session.number (next_event c.session.pages) call c.is in
          subst (λ (x : Call). IsServed world (performs k x world) t (absorbs x world t)) e.2
          (turned_served world t name c.session (all_at (IsServing world.channels) k t world.transports found serving) c.stands k e.0 e.1
          (all_at AreFronts k t world.transports found fronts) c.free)
