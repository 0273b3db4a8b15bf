-- A Join moves the lanes of its channel that its transport shows, and is an event for all others.
use Rattle.std.proofs.Common.{◌≡◌, inl, ℕ, Bool, true, false, cond, List, [], ◌∷◌, ◌++◌, length, refl, sym, ◌∙◌, ap, subst}
use Rattle.std.specs.Prelude.{Option, Some, None, slice_get, bytes_eq, flat_map, if◌then◌else◌}
use Rattle.std.specs.List.{AllByRecursion, filter}
use Rattle.std.proofs.lemmas.List.{map-append}
use Rattle.rl_types.specs.declared.messages.Given.{Given}
use Rattle.rl_types.specs.declared.frames.Frame.{Frame}
use Rattle.rl_types.specs.declared.frames.Frame.TheVariants as frames
use Rattle.rl_runs.specs.declared.commands.Hello.{Hello}
use Rattle.rl_events.specs.declared.channel.ChannelEvent.{ChannelEvent}
use Rattle.rl_events.specs.declared.channel.ChannelEvent.TheVariants.{Join}
use Rattle.rl_events.specs.declared.calls.Call.{Call}
use Rattle.rl_events.specs.declared.calls.Call.TheVariants as calls
use Rattle.rl_events.specs.declared.calls.Reply.TheVariants as replies
use Rattle.rl_connbook.specs.Laws.{SomeOf}
use Rattle.rl_directory.specs.Directory.{number_of}
use Rattle.rl_names.specs.Names.{at}
use Rattle.rl_model.specs.Reply.{reply, is_resumed, joined_place, has_presence, has_objects}
use Rattle.rl_actormodel.specs.declared.parts.Asked.{Asked}
use Rattle.rl_actormodel.specs.declared.parts.Session.{Session}
use Rattle.rl_actormodel.specs.declared.parts.Wish.{Wish}
use Rattle.rl_actormodel.specs.declared.parts.Wish.TheVariants as wishes
use Rattle.rl_actormodel.specs.State as actor
use Rattle.rl_actormodel.specs.Wishes.{wanted, next_call}
use Rattle.rl_actormodel.specs.Replies.{Joining, joining_in}
use Rattle.rl_actormodel.specs.Attaches.{attach_code, flags_of, next_sequence, new_session, joined_by}
use Rattle.rl_actormodel.specs.Reads.{absorbed}
use Rattle.rl_actormodel.proofs.Named.{at_with}
use Rattle.rl_lanes.specs.Lanes.{Setup, Ask, ToAttach, Tells, Link, Lane, frame_of}
use Rattle.rl_lanes.specs.Moves.{Joins, on_link, joins_first, joined_with, lane_after}
use Rattle.rl_worldmodel.specs.World.{World, Transport, CallMade, the_epoch, the_site, names, history, under_way}
use Rattle.rl_worldmodel.specs.Calls.{reply_to}
use Rattle.rl_worldmodel.specs.Actors.{with_call, absorbs, performs}
use Rattle.rl_worldtold.proofs.Shape.{same_bytes, self_bytes}
use Rattle.rl_worldsessions.specs.Serving.{IsAddressed, IsLastWish, AreServing}
use Rattle.rl_worldlanes.specs.Views.{Sees, concerns, coming_on, asks_of, asks_in_hand}
use Rattle.rl_worldlanes.specs.Following.{IsFront, AreFronts, setup_of, past_at, past_named, IsJoinOf, IsMadeBy}
use Rattle.rl_worldlanes.specs.Serving.{GoesOn, IsServed}
use Rattle.rl_worldlanes.proofs.Mute.{works_coming, works_asks, works_session, IsMute}
use Rattle.rl_worldlanes.proofs.Histories.{numbers_stay, past_here}
use Rattle.rl_worldlanes.proofs.Called.{not_over, by_wish, mute_as, serving_at, front_at, absorbs_made, mute_goes, call_served}

-- THE WISH

join_wish : (wish : Wish) (hello : Hello) (now number : ℕ) (given : Option Given) → wanted wish hello now ≡ Some (calls.Chan number (Join given))
    → (asked : Asked) × (wish ≡ wishes.Join asked number) × (asked.serial ≡ given)
join_wish wishes.Nothing hello now number given is = absurd (cc)
join_wish (wishes.Resume key) hello now number given is = absurd (cc)
join_wish wishes.Open hello now number given is = absurd (cc)
join_wish (wishes.Lost holder) hello now number given is = absurd (cc)
join_wish (wishes.Close holder) hello now number given is = absurd (cc)
join_wish (wishes.AskToAttach asked) hello now number given is = absurd (cc)
join_wish (wishes.Join asked n) hello now number given is =
    let same : n ≡ number = cc in let own : asked.serial ≡ given = cc in (asked, ap (wishes.Join asked) same, own)
join_wish (wishes.Begin p holder) hello now number given is = absurd (cc)
join_wish (wishes.AskToPut p holder) hello now number given is = absurd (cc)
join_wish (wishes.Put p holder n) hello now number given is = absurd (cc)
join_wish (wishes.Finish p holder outcome) hello now number given is = absurd (cc)

-- THE ANSWER

-- what a Join is told after this history
abbrev pub told_joining : List ChannelEvent → Option Given → Joining
told_joining past given = record {
  serial = record { epoch = the_epoch; place = joined_place the_epoch the_site past given };
  resumed = is_resumed the_epoch the_site past given;
  presence = has_presence the_site past (joined_place the_epoch the_site past given);
  objects = has_objects the_site past (joined_place the_epoch the_site past given);
}

-- THE LANE

-- a lane that has the ATTACH in hand is moved so
join_moves : (setup : Setup) (number sequence : ℕ) (given : Option Given) (more : List Ask) (j : Joining) (link : Link) (lane : Lane)
    → lane.link ≡ Some link → link.asks ≡ ToAttach given ∷ more → joining_in (replies.Chan (reply setup.epoch setup.site lane.past (Join given))) ≡ Some j
    → lane_after setup (Joins number sequence) lane ≡ joined_with setup given more number sequence (Some j) link lane
join_moves setup number sequence given more j link lane has asks told =
    ap (λ (o : Option Link). on_link (λ (l : Link). joins_first setup number sequence l.asks l) o lane) has
    ∙ ap (λ (all : List Ask). joins_first setup number sequence all link lane) asks
    ∙ ap (λ (o : Option Joining). joined_with setup given more number sequence o link lane) told

-- ONE TRANSPORT

module _ (world : World) (k : ℕ) (t : Transport) (asked : Asked) (number : ℕ) (free : t.actor.ended ≡ None) (waits : t.actor.waiting ≡ [])
    (is : t.actor.wish ≡ wishes.Join asked number) (has : number_of asked.channel (names world) ≡ Some number) (front : IsFront t.to_client)
    (uncut : t.cut ≡ false) where
  abbrev call : Call
  call = calls.Chan number (Join asked.serial)

  abbrev act : actor.State → actor.State
  act = absorbed call (reply_to call world) world.now

  abbrev told : Joining
  told = told_joining (history number world) asked.serial

  abbrev session : Session
  session = new_session asked.channel number told (next_sequence t.actor)

  abbrev frame : Frame
  frame = frames.Attached asked.channel told.serial (flags_of told) (attach_code asked.serial told.resumed)

  -- what the actor makes of the answer
  acts : act t.actor ≡ joined_by asked number (Some told) world.now t.actor
  acts = by_wish call (reply_to call world) world.now t.actor (wishes.Join asked number) free is refl

  puts : (act t.actor).waiting ≡ frame ∷ []
  puts = ap (λ (s : actor.State). s.waiting) acts ∙ ap (λ (list : List Frame). list ++ frame ∷ []) waits

  -- what it asks behind that
  abbrev more : List Ask
  more = flat_map (asks_of asked.channel) (under_way t.to_service)

  asks_first : (link : Link) → Sees (setup_of asked.channel) t link → link.asks ≡ ToAttach asked.serial ∷ more
  asks_first link sees =
      sym (sees.asks free)
      ∙ ap (λ (w : Wish). asks_in_hand asked.channel w ++ more) is
      ∙ ap (λ (b : Bool). (if b then ToAttach asked.serial ∷ [] else []) ++ more) (self_bytes asked.channel)

  -- the link behind the answer
  abbrev joined_link : ℕ → Link → Link
  joined_link before link = record { coming = link.coming ++ Tells asked.serial before told ∷ []; asks = more; session = Some session }

  joined_sees : (before : ℕ) (link : Link) → Sees (setup_of asked.channel) t link
      → Sees (setup_of asked.channel) (absorbs call world t) (joined_link before link)
  joined_sees before link sees = record {
    coming =
        works_coming asked.channel act (with_call call world t) uncut front
        ∙ ap (λ (list : List Frame). coming_on asked.channel t ++ filter (concerns asked.channel) list) puts
        ∙ ap (λ (b : Bool). coming_on asked.channel t ++ cond b (frame ∷ []) []) (self_bytes asked.channel)
        ∙ ap (λ (list : List Frame). list ++ frame ∷ []) sees.coming
        ∙ sym (map-append (frame_of (setup_of asked.channel)) link.coming (Tells asked.serial before told ∷ []));
    asks = λ on.
        works_asks asked.channel act (with_call call world t)
        ∙ ap (λ (s : actor.State). asks_in_hand asked.channel s.wish ++ more) acts;
    session = λ on.
        works_session asked.channel act (with_call call world t)
        ∙ ap (λ (s : actor.State). at asked.channel s.sessions) acts
        ∙ at_with asked.channel asked.channel session t.actor.sessions
        ∙ ap (λ (b : Bool). cond b (Some session) (at asked.channel t.actor.sessions)) (self_bytes asked.channel);
  }

  join_made : (before : ℕ) → before ≡ length (history number world)
      → IsMadeBy (performs k call world) (absorbs call world t) asked.channel before
  join_made before same =
      subst (SomeOf (λ (made : CallMade). IsJoinOf (performs k call world) asked.channel made.call × (made.before ≡ before)))
      (sym (absorbs_made call world t))
      (inl (numbers_stay world (performs k call world) number (Join asked.serial) refl asked.channel ∙ has, sym same))

  -- the channel's own lane
  joins_here : (lane : Lane) (link : Link) → lane.past ≡ past_named asked.channel world → lane.link ≡ Some link
      → Sees (setup_of asked.channel) t link
      → GoesOn world (performs k call world) (absorbs call world t) asked.channel lane
  joins_here lane link past linked sees =
      let own : lane.past ≡ history number world = past ∙ ap (λ (o : Option ℕ). past_at o world) has in
      let same : lane_after (setup_of asked.channel) (Joins number (next_sequence t.actor)) lane
      ≡ joined_with (setup_of asked.channel) asked.serial more number (next_sequence t.actor) (Some told) link lane =
      join_moves (setup_of asked.channel) number (next_sequence t.actor) asked.serial more told link lane linked (asks_first link sees)
      (ap (λ (events : List ChannelEvent). joining_in (replies.Chan (reply the_epoch the_site events (Join asked.serial)))) own) in
      record {
        moves = Joins number (next_sequence t.actor) ∷ [];
        past =
            ap (λ (l : Lane). l.past) same
            ∙ ap (λ (events : List ChannelEvent). Join asked.serial ∷ events) own
            ∙ sym (past_here world (performs k call world) number (Join asked.serial) refl asked.channel has);
        channel = ap (λ (l : Lane). l.channel) same;
        joins = length lane.past ∷ [];
        joined = ap (λ (l : Lane). l.joins) same;
        made = (join_made (length lane.past) (ap length own), tt);
        link = joined_link (length lane.past) link;
        has = ap (λ (l : Lane). l.link) same;
        sees = joined_sees (length lane.past) link sees;
      }

  -- every other one
  join_mute : (name : List ℕ) → bytes_eq name asked.channel ≡ false → IsMute name t.actor (act t.actor)
  join_mute name differ = mute_as name t.actor (act t.actor) (joined_by asked number (Some told) world.now t.actor) acts (record {
    goes = λ on. free;
    asks = λ on. sym (ap (asks_in_hand name) is ∙ ap (λ (b : Bool). if b then ToAttach asked.serial ∷ [] else []) differ);
    sessions = λ on.
        at_with name asked.channel session t.actor.sessions
        ∙ ap (λ (b : Bool). cond b (Some session) (at name t.actor.sessions)) differ;
    none =
        ap (λ (list : List Frame). filter (concerns name) (list ++ frame ∷ [])) waits
        ∙ ap (λ (b : Bool). cond b (frame ∷ []) []) differ;
  })

  joins_goes : (name : List ℕ) (lane : Lane) (link : Link) → lane.past ≡ past_named name world → lane.link ≡ Some link
      → Sees (setup_of name) t link
      → GoesOn world (performs k call world) (absorbs call world t) name lane
  joins_goes name lane link past linked sees = by_name (bytes_eq name asked.channel) refl
    where
      by_name : (b : Bool) → bytes_eq name asked.channel ≡ b → GoesOn world (performs k call world) (absorbs call world t) name lane
      by_name true here =
          let key : name ≡ asked.channel = same_bytes name asked.channel here in
          subst (λ (n : List ℕ). (l : Lane) (m : Link) → l.past ≡ past_named n world → l.link ≡ Some m → Sees (setup_of n) t m
          → GoesOn world (performs k call world) (absorbs call world t) n l) (sym key) joins_here lane link past linked sees
      by_name false differ = mute_goes world k t call front uncut name lane link (join_mute name differ) past linked sees

-- ALL OF THEM

join_not_last : (wish : Wish) (asked : Asked) (number : ℕ) → wish ≡ wishes.Join asked number → IsLastWish wish → ⊥
join_not_last wish asked number is last = subst IsLastWish is last

-- a Join serves
pub join_served : (world : World) (k : ℕ) (t : Transport) → AreServing world → AllByRecursion AreFronts world.transports
    → slice_get world.transports k ≡ Some t
    → (number : ℕ) (given : Option Given) → next_call world.now t.actor ≡ Some (calls.Chan number (Join given))
    → IsServed world (performs k (calls.Chan number (Join given)) world) t (absorbs (calls.Chan number (Join given)) world t)
join_served world k t serving fronts found number given wants =
    let w = join_wish t.actor.wish t.actor.hello world.now number given wants in
    let h = serving_at world k t serving found in
    subst (λ (g : Option Given). IsServed world (performs k (calls.Chan number (Join g)) world) t (absorbs (calls.Chan number (Join g)) world t)) w.2
    (call_served world k t (calls.Chan number (Join w.0.serial)) (λ uncut name lane link past linked sees.
    joins_goes world k t w.0 number (not_over world.channels t.actor h.of_actor (join_not_last t.actor.wish w.0 number w.1)) h.flushed w.1
    (subst (IsAddressed world.channels) w.1 h.of_actor.addressed) (front_at world k t fronts found) uncut name lane link past linked sees))
