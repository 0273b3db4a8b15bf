-- What follows for pages: each is the channel's own answer, and goes to the session that asked.
use Rattle.std.proofs.Common.{◌≡◌, ℕ, Bool, true, false, List, ◌++◌, refl, sym, ◌∙◌, ap, subst}
use Rattle.std.specs.Prelude.{Option, Some, None, if◌then◌else◌, not, option_to_list}
use Rattle.rl_ids.specs.declared.members.MemberKey.{MemberKey}
use Rattle.rl_ids.specs.declared.objects.ObjectId.{ObjectId}
use Rattle.rl_numbers.specs.declared.limits.TheConstants.{PAGE_MEMBERS, PAGE_OBJECTS}
use Rattle.rl_types.specs.declared.frames.Frame.{Frame}
use Rattle.rl_events.specs.declared.channel.ChannelEvent.{ChannelEvent}
use Rattle.rl_events.specs.declared.channel.ChannelEvent.TheVariants.{MemberPage, ObjectPage}
use Rattle.rl_events.specs.declared.calls.Call.TheVariants.{Chan}
use Rattle.rl_connbook.proofs.Each.{all_weaker}
use Rattle.rl_names.specs.Names.{at, with_entry}
use Rattle.rl_pages.specs.State.{next_event, is_reply_to, page_frame, page_absorbed}
use Rattle.rl_actormodel.specs.declared.parts.Session.{Session}
use Rattle.rl_actormodel.specs.State as actor
use Rattle.rl_actormodel.specs.Replies.{channel_reply}
use Rattle.rl_actormodel.specs.Pagings.{paged, page_by}
use Rattle.rl_actormodel.specs.Reads.{answered_at, on_session}
use Rattle.rl_worldmodel.specs.World.{World, Transport}
use Rattle.rl_worldmodel.specs.Calls.{reply_to}
use Rattle.rl_worldtold.proofs.Runs.{runs_so}
use Rattle.rl_worldsessions.specs.Serving.{IsSessionOf, IsServing, AreServing}
use Rattle.rl_worldsessions.specs.Paged.{page_told, after_page, IsPagedBy, AllPaged, PagesAreTheirChannels}
use Rattle.rl_worldsessions.proofs.Entries.{all_found}
use Rattle.rl_worldsessions.proofs.Found.{number_found}
use Rattle.rl_worldsessions.proofs.Sessions.{puts_sessions, puts_waiting, at_own}
use Rattle.rl_worldsessions.proofs.Serving.{actors_serve}

module _ (world : World) (t : Transport) (h : IsServing world.channels t) (name : List ℕ) (session : Session) (stands : at name t.actor.sessions ≡ Some session) where
  own : IsSessionOf world.channels (name, session)
  own = all_found (IsSessionOf world.channels) name session t.actor.sessions h.of_actor.sessions stands

  abbrev Found : Type 0
  Found = actor.numbered session.number t.actor.sessions ≡ Some (name, session)

  found : Found
  found = number_found world.channels name session t.actor.sessions h.of_actor.sessions own.numbered stands

  abbrev IsSo : ChannelEvent → Type 0
  IsSo event = t.actor.ended ≡ None → after_page event session world t.actor ≡ page_by name session (Some (page_told event session world)) world.now t.actor

  members_so : (after : Option MemberKey) (most : ℕ) → IsSo (MemberPage after most)
  members_so after most free =
      ap (λ o. answered_at o (Chan session.number (MemberPage after most)) (reply_to (Chan session.number (MemberPage after most)) world) world.now t.actor) free
      ∙ ap (λ o. on_session (λ n one. page_by n one (channel_reply (reply_to (Chan session.number (MemberPage after most)) world)) world.now) o t.actor) found

  objects_so : (after : Option ObjectId) (most : ℕ) → IsSo (ObjectPage after most)
  objects_so after most free =
      ap (λ o. answered_at o (Chan session.number (ObjectPage after most)) (reply_to (Chan session.number (ObjectPage after most)) world) world.now t.actor) free
      ∙ ap (λ o. on_session (λ n one. page_by n one (channel_reply (reply_to (Chan session.number (ObjectPage after most)) world)) world.now) o t.actor) found

  abbrev After : ChannelEvent → Session
  After event = paged (page_absorbed (page_told event session world) session.pages) session

  abbrev Moved : ChannelEvent → actor.State
  Moved event = record t.actor { sessions = with_entry name (After event) t.actor.sessions }

  -- a page of the kind that was asked for
  paged_as : (event : ChannelEvent) → next_event session.pages ≡ Some event → is_reply_to (Some event) (page_told event session world) ≡ true → IsSo event → IsPagedBy world t.actor name session event
  paged_as event next kind so = record {
    wanted = ap (λ (o : Option ChannelEvent). is_reply_to o (page_told event session world)) next ∙ kind;
    absorbs = λ free.
        ap (λ (s : actor.State). at name s.sessions) (so free)
        ∙ ap (at name) (puts_sessions (option_to_list (page_frame (page_told event session world) session.pages)) world.now (Moved event))
        ∙ at_own name (After event) t.actor.sessions;
    shows = λ free.
        ap (λ (s : actor.State). s.waiting) (so free)
        ∙ puts_waiting (option_to_list (page_frame (page_told event session world) session.pages)) world.now (Moved event)
        ∙ ap (λ (fs : List Frame). fs ++ option_to_list (page_frame (page_told event session world) session.pages)) h.flushed;
  }

  by_kind : (members objects : Bool) (event : ChannelEvent) → next_event session.pages ≡ Some event
      → (if not members then Some (MemberPage session.pages.after_member PAGE_MEMBERS) else if not objects then Some (ObjectPage session.pages.after_object PAGE_OBJECTS) else None) ≡ Some event
      → IsPagedBy world t.actor name session event
  by_kind false objects event next is =
      let same : MemberPage session.pages.after_member PAGE_MEMBERS ≡ event = cc in
      subst (IsPagedBy world t.actor name session) same
      (paged_as (MemberPage session.pages.after_member PAGE_MEMBERS) (next ∙ ap (λ (e : ChannelEvent). Some e) (sym same)) refl (members_so session.pages.after_member PAGE_MEMBERS))
  by_kind true false event next is =
      let same : ObjectPage session.pages.after_object PAGE_OBJECTS ≡ event = cc in
      subst (IsPagedBy world t.actor name session) same
      (paged_as (ObjectPage session.pages.after_object PAGE_OBJECTS) (next ∙ ap (λ (e : ChannelEvent). Some e) (sym same)) refl (objects_so session.pages.after_object PAGE_OBJECTS))
  by_kind true true event next is = absurd (cc)

  paged_by : (event : ChannelEvent) → next_event session.pages ≡ Some event → IsPagedBy world t.actor name session event
  paged_by event next = by_kind session.pages.members.done session.pages.objects.done event next next

all_paged : (world : World) → AreServing world → AllPaged world
all_paged world h = all_weaker (IsServing world.channels) _ (λ t is name session event stands next. paged_by world t is name session stands event next) world.transports h

-- each page of a session is its channel's
pub pages_are_their_channels : PagesAreTheirChannels
pages_are_their_channels = runs_so AreServing AllPaged all_paged actors_serve
