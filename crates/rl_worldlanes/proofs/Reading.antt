-- A read moves the lane of its session's channel.
use Rattle.std.proofs.Common.{◌≡◌, ℕ, List, ◌++◌, length, map, refl, sym, ◌∙◌, ap, subst}
use Rattle.std.specs.Prelude.{Option, Some, None, slice_get}
use Rattle.std.specs.List.{AllByRecursion}
use Rattle.std.proofs.lemmas.List.{map-append}
use Rattle.rl_numbers.specs.declared.limits.TheConstants.{READ_ENTRIES}
use Rattle.rl_types.specs.declared.messages.Entry.{Entry}
use Rattle.rl_types.specs.declared.frames.Frame.{Frame}
use Rattle.rl_events.specs.declared.channel.ChannelEvent.{ChannelEvent}
use Rattle.rl_events.specs.declared.channel.ChannelEvent.TheVariants.{Read}
use Rattle.rl_events.specs.declared.calls.Call.{Call}
use Rattle.rl_events.specs.declared.calls.Reply.TheVariants.{Chan}
use Rattle.rl_names.specs.Names.{at, with_entry}
use Rattle.rl_model.specs.Reply.{reply}
use Rattle.rl_actormodel.specs.declared.parts.Session.{Session}
use Rattle.rl_actormodel.specs.State as actor
use Rattle.rl_actormodel.specs.Replies.{Reading, Came, Behind, Unread, reading}
use Rattle.rl_actormodel.specs.Pagings as pagings
use Rattle.rl_actormodel.specs.Pagings.{ended_here}
use Rattle.rl_actormodel.specs.Reads.{answered_at, on_session, read_by, moved_on, entry_frame}
use Rattle.rl_actormodel.specs.Wishes.{read_of}
use Rattle.rl_lanes.specs.Lanes.{Coming, Gives, Link, Lane, frame_of}
use Rattle.rl_lanes.specs.Moves.{Reads, lane_after, on_link, ends_here, puts, reads, reads_by}
use Rattle.rl_lanes.proofs.Frames.{frames_are_the_machines}
use Rattle.rl_worldmodel.specs.World.{World, Transport, history}
use Rattle.rl_worldmodel.specs.Calls.{reply_to}
use Rattle.rl_worldmodel.specs.Actors.{next_poll, absorbs, performs}
use Rattle.rl_worldtold.proofs.Shape.{all_at}
use Rattle.rl_worldsessions.specs.Serving.{IsServing, AreServing, IsSessionOf}
use Rattle.rl_worldsessions.specs.Sessions.{read_call, read_told, after_read}
use Rattle.rl_worldsessions.proofs.Found.{number_found}
use Rattle.rl_worldlanes.specs.Following.{AreFronts, setup_of}
use Rattle.rl_worldlanes.specs.Serving.{IsServed}
use Rattle.rl_worldlanes.proofs.Moving.{moved, same_mute, lagged_mute}
use Rattle.rl_worldlanes.proofs.Sessions.{IsCalled, is_called, session_is, mute_answer_served, moved_served}

module _ (world : World) (t : Transport) (name : List ℕ) (session : Session)
    (h : IsServing world.channels t) (stands : at name t.actor.sessions ≡ Some session) where
  own : IsSessionOf world.channels (name, session)
  own = session_is world.channels t name session h stands

  -- what the answer makes of the actor
  read_is : (r : Reading) → read_told session world ≡ r → t.actor.ended ≡ None
      → after_read session world t.actor ≡ read_by name session r world.now t.actor
  read_is r is free =
      ap (λ o. answered_at o (read_call session) (reply_to (read_call session) world) world.now t.actor) free
      ∙ ap (λ o. on_session (λ n one. read_by n one (reading (reply_to (read_call session) world)) world.now) o t.actor)
      (number_found world.channels name session t.actor.sessions h.of_actor.sessions own.numbered stands)
      ∙ ap (λ (x : Reading). read_by name session x world.now t.actor) is

  abbrev Next : List Entry → Session
  Next entries = moved_on (length entries) session

  -- what is put out on the channel
  abbrev Given : List Entry → List Coming
  Given entries = map (Gives session.epoch) entries ++ ends_here (Next entries)

  frames_are : (entries : List Entry)
      → map (frame_of (setup_of name)) (Given entries) ≡ map (entry_frame name session.epoch) entries ++ pagings.ends_here (Next entries)
  frames_are entries =
      map-append (frame_of (setup_of name)) (map (Gives session.epoch) entries) (ends_here (Next entries))
      ∙ ap (λ (frames : List Frame). frames ++ map (frame_of (setup_of name)) (ends_here (Next entries)))
      (frames_are_the_machines.entries (setup_of name) session.epoch entries)
      ∙ ap (λ (frames : List Frame). map (entry_frame name session.epoch) entries ++ frames)
      (frames_are_the_machines.ends (setup_of name) (Next entries) own.paged.named)

  -- entries came: the session moves on
  came_is : (entries : List Entry) → read_told session world ≡ Came entries → t.actor.ended ≡ None
      → after_read session world t.actor ≡ moved (setup_of name) (Given entries) (ended_here (Next entries)) world.now t.actor
  came_is entries is free =
      read_is (Came entries) is free
      ∙ ap (λ (frames : List Frame).
      actor.puts frames world.now (record t.actor { sessions = with_entry name (ended_here (Next entries)) t.actor.sessions }))
      (sym (frames_are entries))

  -- and so does the lane
  lane_moves : (entries : List Entry) → read_told session world ≡ Came entries → (lane : Lane) (link : Link)
      → lane.past ≡ history session.number world → lane.link ≡ Some link → link.session ≡ Some session
      → lane_after (setup_of name) (Reads READ_ENTRIES) lane
      ≡ puts (Read session.position READ_ENTRIES) (Given entries) (ended_here (Next entries)) link lane
  lane_moves entries is lane link past linked attached =
      let setup = setup_of name in
      let one : ChannelEvent = Read session.position READ_ENTRIES in
      ap (λ (o : Option Link). on_link (λ (l : Link). reads setup READ_ENTRIES l.session l) o lane) linked
      ∙ ap (λ (o : Option Session). reads setup READ_ENTRIES o link lane) attached
      ∙ ap (λ (events : List ChannelEvent). reads_by one (reading (Chan (reply setup.epoch setup.site events one))) session link lane) past
      ∙ ap (λ (r : Reading). reads_by one r session link lane) is

  abbrev IsReadServed : ℕ → Type 0
  IsReadServed k = IsServed world (performs k (read_call session) world) t (absorbs (read_call session) world t)

  read_served : (k : ℕ) → AreFronts t → t.actor.ended ≡ None → IsReadServed k
  read_served k fronts free = by_reading (read_told session world) refl where
    by_reading : (r : Reading) → read_told session world ≡ r → IsReadServed k
    by_reading (Came entries) is =
        moved_served world k t session.number (Read session.position READ_ENTRIES) name own.numbered fronts.client
        (Reads READ_ENTRIES) (Given entries) session (ended_here (Next entries)) (lane_moves entries is)
        stands free h.flushed (came_is entries is free)
    by_reading (Behind place) is =
        mute_answer_served world k t session.number (Read session.position READ_ENTRIES) name own.numbered fronts.client
        (λ q. lagged_mute q session.position place t.actor (after_read session world t.actor) h.flushed (read_is (Behind place) is free))
    by_reading Unread is =
        mute_answer_served world k t session.number (Read session.position READ_ENTRIES) name own.numbered fronts.client
        (λ q. same_mute q t.actor (after_read session world t.actor) h.flushed (read_is Unread is free))

-- a read of a channel that an actor's session wants
pub poll_served : (world : World) (k : ℕ) (t : Transport) (name : List ℕ) (call : Call) → AreServing world
    → AllByRecursion AreFronts world.transports → slice_get world.transports k ≡ Some t → next_poll k name world ≡ Some call
    → IsServed world (performs k call world) t (absorbs call world t)
poll_served world k t name call serving fronts found next =
    by_call (is_called read_of name (slice_get world.transports k) t call found next) where
      by_call : IsCalled read_of name t call → IsServed world (performs k call world) t (absorbs call world t)
      by_call c =
          let same : read_call c.session ≡ call = let is : Some (read_call c.session) ≡ Some call = c.is in cc in
          subst (λ (x : Call). IsServed world (performs k x world) t (absorbs x world t)) same
          (read_served world t name c.session (all_at (IsServing world.channels) k t world.transports found serving) c.stands k
          (all_at AreFronts k t world.transports found fronts) c.free)
