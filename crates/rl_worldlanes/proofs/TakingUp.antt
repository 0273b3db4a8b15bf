-- A frame that is taken up moves each lane of the transport, and no channel takes an event.
use Rattle.std.proofs.Common.{◌≡◌, inl, inr, ℕ, zero, suc, Bool, true, false, List, [], ◌∷◌, ◌++◌, drop, sym, ap, subst, refl, ◌∙◌}
use Rattle.std.proofs.lemmas.List.{map-append}
use Rattle.std.specs.Prelude.{Option, Some, None, is_some, if◌then◌else◌, flat_map, slice_get}
use Rattle.std.specs.List.{AllByRecursion, filter}
use Rattle.rl_types.specs.declared.frames.Frame.{Frame}
use Rattle.rl_types.specs.declared.frames.Frame.TheVariants as frames
use Rattle.rl_runs.specs.declared.commands.Hello.{Hello}
use Rattle.rl_events.specs.declared.calls.Call.{Call}
use Rattle.rl_events.specs.declared.calls.End.{End}
use Rattle.rl_names.specs.Names.{at}
use Rattle.rl_actormodel.specs.declared.parts.Wish.{Wish}
use Rattle.rl_actormodel.specs.declared.parts.Wish.TheVariants as wishes
use Rattle.rl_actormodel.specs.State as actor
use Rattle.rl_actormodel.specs.Wishes.{wanted, next_call}
use Rattle.rl_actormodel.specs.Takes.{took}
use Rattle.rl_actormodel.specs.Rests.{does_rest}
use Rattle.rl_lanes.specs.Lanes.{Setup, Ask, ToDetach, Leaves, Link, Lane, frame_of}
use Rattle.rl_lanes.specs.Moves.{Parts, lane_after, on_link, parts_first}
use Rattle.rl_worldmodel.specs.World.{World, Transport, under_way, with_one_got}
use Rattle.rl_worldmodel.specs.Actors.{works, TakesUp, deed_by, deed, is_short, arrives, takes_up, done}
use Rattle.rl_worldsessions.specs.Serving.{AreServing}
use Rattle.rl_worldtold.proofs.Shape.{works_owner, works_cut}
use Rattle.rl_worldlanes.specs.Views.{Sees, concerns, coming_on, asks_of, asks_in_hand, asks_on}
use Rattle.rl_worldlanes.specs.Following.{IsFront, AreFronts, setup_of, past_named}
use Rattle.rl_worldlanes.specs.Serving.{GoesOn, IsServed, AllTakeAtMostOne}
use Rattle.rl_worldlanes.proofs.Lanes.{append_none, self_name}
use Rattle.rl_worldlanes.proofs.Ways.{way_got}
use Rattle.rl_worldlanes.proofs.Mute.{works_coming, works_asks, works_session, works_ended, goes_same}
use Rattle.rl_worldlanes.proofs.Histories.{past_same, none_takes}
use Rattle.rl_worldlanes.proofs.Silence.{IsKnown, known_at}
use Rattle.rl_worldlanes.proofs.Taking.{IsTaken, IsParted, Becomes, took_as}

-- WHAT IS KNOWN WHERE A FRAME IS TAKEN UP

taking_by : (o : Option Call) (ended cut : Bool) (next : Option Frame) (rests : Bool) (frame : Frame)
    → deed_by o ended cut next rests ≡ TakesUp frame
    → (o ≡ None) × (ended ≡ false) × (next ≡ Some frame)
taking_by (Some call) ended cut next rests frame is = absurd (cc)
taking_by None true cut next rests frame is = absurd (cc)
taking_by None false true next rests frame is = absurd (cc)
taking_by None false false (Some other) rests frame is = (refl, refl, cc)
taking_by None false false None true frame is = absurd (cc)
taking_by None false false None false frame is = absurd (cc)

wants_nothing : (wish : Wish) (hello : Hello) (now : ℕ) → wanted wish hello now ≡ None → wish ≡ wishes.Nothing
wants_nothing wishes.Nothing hello now is = refl
wants_nothing wish hello now is = absurd (cc)

not_ended : (o : Option End) → is_some o ≡ false → o ≡ None
not_ended None is = refl
not_ended (Some why) is = absurd (cc)

next_first : {X : Type 0} → (k : ℕ) (x : X) (xs : List X) → slice_get xs k ≡ Some x → (rest : List X) × (drop k xs ≡ x ∷ rest)
next_first k x [] found = absurd (cc)
next_first zero x (y ∷ ys) found = (ys, let same : y ≡ x = cc in ap (λ z. z ∷ ys) same)
next_first (suc k) x (y ∷ ys) found = next_first k x ys found

-- the actor goes on and wants nothing, and the frame is under way to it, before these
record IsNext (t : Transport) (frame : Frame) : Type 0 where
  free : t.actor.ended ≡ None
  nothing : t.actor.wish ≡ wishes.Nothing
  rest : List Frame
  is : under_way t.to_service ≡ frame ∷ rest

next_at : (now : ℕ) (t : Transport) (frame : Frame) → deed now t ≡ TakesUp frame → IsNext t frame
next_at now t frame is =
    by_parts (taking_by (next_call now t.actor) (is_some t.actor.ended) t.cut (slice_get t.to_service.put t.to_service.got) (does_rest now t.actor) frame is) where
      by_way : (next_call now t.actor ≡ None) → (is_some t.actor.ended ≡ false)
          → ((rest : List Frame) × (under_way t.to_service ≡ frame ∷ rest)) → IsNext t frame
      by_way call ended way = record {
        free = not_ended t.actor.ended ended;
        nothing = wants_nothing t.actor.wish t.actor.hello now call;
        rest = way.0;
        is = way.1;
      }

      by_parts : (next_call now t.actor ≡ None) × (is_some t.actor.ended ≡ false) × (slice_get t.to_service.put t.to_service.got ≡ Some frame) → IsNext t frame
      by_parts p = by_way p.0 p.1 (next_first t.to_service.got frame t.to_service.put p.2)

-- THE TRANSPORT AFTERWARDS

-- the actor works on what it got next
abbrev got_by : (actor.State → actor.State) → Transport → Transport
got_by act t = works act (record t { to_service = with_one_got t.to_service })

module _ (name : List ℕ) (act : actor.State → actor.State) (t : Transport) (frame : Frame) (next : IsNext t frame) where
  -- what was asked before
  asked_before : asks_on name t ≡ asks_of name frame ++ flat_map (asks_of name) next.rest
  asked_before =
      ap (λ (wish : Wish). asks_in_hand name wish ++ flat_map (asks_of name) (under_way t.to_service)) next.nothing
      ∙ ap (λ (list : List Frame). flat_map (asks_of name) list) next.is

  -- what is asked afterwards
  asked_after : (hand : List Ask) → asks_in_hand name (act t.actor).wish ≡ hand
      → asks_on name (got_by act t) ≡ hand ++ flat_map (asks_of name) next.rest
  asked_after hand is =
      works_asks name act (record t { to_service = with_one_got t.to_service })
      ∙ ap (λ (asks : List Ask). asks ++ flat_map (asks_of name) (under_way (with_one_got t.to_service))) is
      ∙ ap (λ (list : List Frame). hand ++ flat_map (asks_of name) list) (way_got t.to_service frame next.rest next.is)

  coming_after : t.cut ≡ false → IsFront t.to_client
      → coming_on name (got_by act t) ≡ coming_on name t ++ filter (concerns name) (act t.actor).waiting
  coming_after uncut front = works_coming name act (record t { to_service = with_one_got t.to_service }) uncut front

  goes : (got_by act t).actor.ended ≡ None → (act t.actor).ended ≡ None
  goes on = sym (works_ended act (record t { to_service = with_one_got t.to_service })) ∙ on

  -- what the frame asks was on its way and is in hand: the link is the same
  taken_sees : (link : Link) → t.cut ≡ false → IsFront t.to_client → IsTaken name frame (at name t.actor.sessions) (act t.actor)
      → Sees (setup_of name) t link → Sees (setup_of name) (got_by act t) link
  taken_sees link uncut front taken sees = record {
    coming = coming_after uncut front ∙ ap (λ (list : List Frame). coming_on name t ++ list) taken.none ∙ append_none (coming_on name t) ∙ sees.coming;
    asks = λ on. asked_after (asks_of name frame) (taken.asks (goes on)) ∙ sym asked_before ∙ sees.asks next.free;
    session = λ on. works_session name act (record t { to_service = with_one_got t.to_service }) ∙ taken.sessions (goes on) ∙ sees.session next.free;
  }

-- DETACH IS ANSWERED

-- the link once the first ask is answered with DETACHED
abbrev parted : List Ask → Link → Link
parted more link = record { coming = link.coming ++ Leaves ∷ []; asks = more; session = None }

parts_moves : (setup : Setup) (lane : Lane) (link : Link) (more : List Ask) → lane.link ≡ Some link → link.asks ≡ ToDetach ∷ more
    → lane_after setup Parts lane ≡ record lane { link = Some (parted more link) }
parts_moves setup lane link more has is =
    ap (λ (found : Option Link). on_link (λ (l : Link). parts_first l.asks l) found lane) has ∙ ap (λ (asks : List Ask). parts_first asks link lane) is

module _ (name : List ℕ) (act : actor.State → actor.State) (t : Transport) (next : IsNext t (frames.Detach name)) where
  detach_first : (link : Link) → Sees (setup_of name) t link → link.asks ≡ ToDetach ∷ flat_map (asks_of name) next.rest
  detach_first link sees =
      sym (sees.asks next.free) ∙ asked_before name act t (frames.Detach name) next
      ∙ ap (λ (b : Bool). (if b then ToDetach ∷ [] else []) ++ flat_map (asks_of name) next.rest) (self_name name)

  parted_sees : (link : Link) → t.cut ≡ false → IsFront t.to_client → IsParted name (act t.actor) → Sees (setup_of name) t link
      → Sees (setup_of name) (got_by act t) (parted (flat_map (asks_of name) next.rest) link)
  parted_sees link uncut front gone sees = record {
    coming =
        coming_after name act t (frames.Detach name) next uncut front
        ∙ ap (λ (list : List Frame). coming_on name t ++ list) gone.waits
        ∙ ap (λ (list : List Frame). list ++ frames.Detached name None ∷ []) sees.coming
        ∙ sym (map-append (frame_of (setup_of name)) link.coming (Leaves ∷ []));
    asks = λ on. asked_after name act t (frames.Detach name) next [] (gone.asks (goes name act t (frames.Detach name) next on));
    session = λ on. works_session name act (record t { to_service = with_one_got t.to_service }) ∙ gone.sessions (goes name act t (frames.Detach name) next on);
  }

  parted_goes : (world after : World) (lane : Lane) (link : Link) → after.channels ≡ world.channels → t.cut ≡ false
      → IsFront t.to_client → IsParted name (act t.actor)
      → lane.past ≡ past_named name world → lane.link ≡ Some link → Sees (setup_of name) t link
      → GoesOn world after (got_by act t) name lane
  parted_goes world after lane link same uncut front gone past has sees =
      by_lane (parts_moves (setup_of name) lane link (flat_map (asks_of name) next.rest) has (detach_first link sees)) where
        by_lane : lane_after (setup_of name) Parts lane ≡ record lane { link = Some (parted (flat_map (asks_of name) next.rest) link) }
            → GoesOn world after (got_by act t) name lane
        by_lane is = record {
          moves = Parts ∷ [];
          past = ap (λ (l : Lane). l.past) is ∙ past ∙ sym (past_same name world after same);
          channel = ap (λ (l : Lane). l.channel) is;
          joins = [];
          joined = ap (λ (l : Lane). l.joins) is;
          made = tt;
          link = parted (flat_map (asks_of name) next.rest) link;
          has = ap (λ (l : Lane). l.link) is;
          sees = parted_sees link uncut front gone sees;
        }

-- A FRAME IS TAKEN UP

module _ (world after : World) (name : List ℕ) (act : actor.State → actor.State) (t : Transport) (frame : Frame) (next : IsNext t frame) where
  taken_goes : (lane : Lane) (link : Link) → after.channels ≡ world.channels → t.cut ≡ false → IsFront t.to_client
      → Becomes name frame (at name t.actor.sessions) (act t.actor)
      → lane.past ≡ past_named name world → lane.link ≡ Some link → Sees (setup_of name) t link
      → GoesOn world after (got_by act t) name lane
  taken_goes lane link same uncut front (inl taken) past has sees =
      goes_same world after (got_by act t) name lane link past (past_same name world after same) has
      (taken_sees name act t frame next link uncut front taken sees)
  taken_goes lane link same uncut front (inr own) past has sees =
      parted_goes name act t (subst (IsNext t) own.0 next) world after lane link same uncut front own.1 past has sees

-- the client's next frame is taken up
pub takes_served : (world : World) (k : ℕ) (t : Transport) (frame : Frame) → AreServing world → AllByRecursion AreFronts world.transports
    → slice_get world.transports k ≡ Some t → deed world.now t ≡ TakesUp frame
    → IsServed world (done k (TakesUp frame) world) t (takes_up frame world.now t)
takes_served world k t frame serving fronts found is = by_known (known_at world k t serving fronts found) (next_at world.now t frame is) where
  by_known : IsKnown world t → IsNext t frame → IsServed world (done k (TakesUp frame) world) t (takes_up frame world.now t)
  by_known known next = record {
    owner = works_owner (took (arrives frame) world.now) (record t { to_service = with_one_got t.to_service });
    cut = works_cut (took (arrives frame) world.now) (record t { to_service = with_one_got t.to_service });
    goes_on = λ uncut name lane link past has sees.
        taken_goes world (done k (TakesUp frame) world) name (took (arrives frame) world.now) t frame next lane link refl uncut known.fronts.client
        (took_as name (is_short frame) frame world.now t.actor known.serving.flushed next.nothing known.serving.of_actor.once) past has sees;
  }

pub takes_no_event : (world : World) (k : ℕ) (frame : Frame) → AllTakeAtMostOne world (done k (TakesUp frame) world)
takes_no_event world k frame = none_takes world (done k (TakesUp frame) world) refl
