-- What a question to the directory moves: nothing, or where the directory is full the lane of a channel that is refused.
use Rattle.std.proofs.Common.{◌≡◌, ◌⊎◌, inl, inr, ℕ, Bool, true, false, cond, List, [], ◌∷◌, ◌++◌, refl, sym, ◌∙◌, ap, subst}
use Rattle.std.specs.Prelude.{Option, Some, None, slice_get, bytes_eq, flat_map, if◌then◌else◌}
use Rattle.std.specs.List.{AllByRecursion, filter}
use Rattle.std.proofs.lemmas.List.{map-append}
use Rattle.rl_numbers.specs.declared.codes.TheConstants.{CHANNEL_LIMIT}
use Rattle.rl_types.specs.declared.frames.Frame.{Frame}
use Rattle.rl_types.specs.declared.frames.Frame.TheVariants as frames
use Rattle.rl_runs.specs.declared.commands.Hello.{Hello}
use Rattle.rl_events.specs.declared.calls.Call.{Call}
use Rattle.rl_events.specs.declared.calls.Call.TheVariants as calls
use Rattle.rl_events.specs.declared.calls.DirEvent.TheVariants.{Ask}
use Rattle.rl_events.specs.declared.calls.Reply.TheVariants as replies
use Rattle.rl_directory.specs.Directory.{number_of, asked_by}
use Rattle.rl_names.specs.Names.{at}
use Rattle.rl_actormodel.specs.declared.parts.Asked.{Asked}
use Rattle.rl_actormodel.specs.declared.parts.Publish.{Publish}
use Rattle.rl_actormodel.specs.declared.parts.Holder.{Holder}
use Rattle.rl_actormodel.specs.declared.parts.Session.{Session}
use Rattle.rl_actormodel.specs.declared.parts.Wish.{Wish}
use Rattle.rl_actormodel.specs.declared.parts.Wish.TheVariants as wishes
use Rattle.rl_actormodel.specs.State as actor
use Rattle.rl_actormodel.specs.Wishes.{wanted, next_call}
use Rattle.rl_actormodel.specs.Replies.{Numbering, Has, HasNone, Unnumbered, numbering}
use Rattle.rl_actormodel.specs.Attaches.{attach_at}
use Rattle.rl_actormodel.specs.Publishes.{put_at}
use Rattle.rl_actormodel.specs.Reads.{absorbed}
use Rattle.rl_lanes.specs.Lanes as lanes
use Rattle.rl_lanes.specs.Lanes.{Setup, ToAttach, Fails, Link, Lane, frame_of}
use Rattle.rl_lanes.specs.Moves.{Refuses, on_link, refuses_first, lane_after}
use Rattle.rl_worldmodel.specs.World.{World, Transport, names, under_way}
use Rattle.rl_worldmodel.specs.Calls.{reply_to, called}
use Rattle.rl_worldmodel.specs.Actors.{with_call, absorbs, performs}
use Rattle.rl_worldtold.proofs.Shape.{same_bytes, self_bytes}
use Rattle.rl_worldsessions.specs.Serving.{IsSessionOf, IsLastWish, Serves, AreServing}
use Rattle.rl_worldsessions.proofs.Entries.{all_found}
use Rattle.rl_worldlanes.specs.Views.{Sees, concerns, coming_on, asks_of, asks_in_hand}
use Rattle.rl_worldlanes.specs.Following.{IsFront, AreFronts, setup_of, past_named}
use Rattle.rl_worldlanes.specs.Serving.{GoesOn, IsServed}
use Rattle.rl_worldlanes.proofs.Mute.{works_coming, works_asks, works_session, IsMute}
use Rattle.rl_worldlanes.proofs.Histories.{past_same}
use Rattle.rl_worldlanes.proofs.Elsewhere.{name_past}
use Rattle.rl_worldlanes.proofs.Called.{not_over, by_wish, mute_as, serving_at, front_at, mute_goes, call_served, mute_call_served}

-- THE WISH

abbrev IsAsk : Wish → List ℕ → Type 0
IsAsk wish name =
    ((asked : Asked) × (wish ≡ wishes.AskToAttach asked) × (asked.channel ≡ name))
    ⊎ ((p : Publish) × (holder : Holder) × (wish ≡ wishes.AskToPut p holder))

ask_wish : (wish : Wish) (hello : Hello) (now : ℕ) (name : List ℕ) → wanted wish hello now ≡ Some (calls.Dir (Ask name)) → IsAsk wish name
ask_wish wishes.Nothing hello now name is = absurd (cc)
ask_wish (wishes.Resume key) hello now name is = absurd (cc)
ask_wish wishes.Open hello now name is = absurd (cc)
ask_wish (wishes.Lost holder) hello now name is = absurd (cc)
ask_wish (wishes.Close holder) hello now name is = absurd (cc)
ask_wish (wishes.AskToAttach asked) hello now name is = let same : asked.channel ≡ name = cc in inl (asked, refl, same)
ask_wish (wishes.Join asked n) hello now name is = absurd (cc)
ask_wish (wishes.Begin p holder) hello now name is = absurd (cc)
ask_wish (wishes.AskToPut p holder) hello now name is = inr (p, holder, refl)
ask_wish (wishes.Put p holder n) hello now name is = absurd (cc)
ask_wish (wishes.Finish p holder outcome) hello now name is = absurd (cc)

last_not_asked : (wish : Wish) (p : Publish) (holder : Holder) → wish ≡ wishes.AskToPut p holder → IsLastWish wish → ⊥
last_not_asked wish p holder is last = subst IsLastWish is last

last_not_ask : (wish : Wish) (asked : Asked) → wish ≡ wishes.AskToAttach asked → IsLastWish wish → ⊥
last_not_ask wish asked is last = subst IsLastWish is last

-- A QUESTION FOR A PUT

at_mute : (name : List ℕ) (p : Publish) (holder : Holder) (n : Numbering) (s : actor.State) → s.waiting ≡ []
    → s.wish ≡ wishes.AskToPut p holder → IsMute name s (put_at p holder n s)
at_mute name p holder (Has number) s waits is = record {
  goes = λ on. on;
  asks = λ on. sym (ap (asks_in_hand name) is);
  sessions = λ on. refl;
  none = ap (filter (concerns name)) waits;
}
at_mute name p holder HasNone s waits is = record {
  goes = λ on. on;
  asks = λ on. sym (ap (asks_in_hand name) is);
  sessions = λ on. refl;
  none = ap (filter (concerns name)) waits;
}
at_mute name p holder Unnumbered s waits is = record { goes = λ on. on; asks = λ on. refl; sessions = λ on. refl; none = ap (filter (concerns name)) waits }

-- A CHANNEL THAT IS REFUSED

-- the directory that has no number for a name gave it none
none_given : (o : Option ℕ) (list : List (List ℕ)) → numbering (replies.Dir (asked_by o list)) ≡ HasNone → o ≡ None
none_given None list is = refl
none_given (Some number) list is = absurd (cc)

-- so no actor has a session of it
no_session : (world : World) (s : actor.State) (name : List ℕ) → Serves world.channels s → number_of name (names world) ≡ None
    → at name s.sessions ≡ None
no_session world s name serves none = by_session (at name s.sessions) refl
  where
    by_session : (o : Option Session) → at name s.sessions ≡ o → at name s.sessions ≡ None
    by_session None is = is
    by_session (Some session) is =
        let own = all_found (IsSessionOf world.channels) name session s.sessions serves.sessions is in
        let wrong : None ≡ Some session.number = sym none ∙ own.numbered in
        absurd (cc)

refuse_moves : (setup : Setup) (code : ℕ) (link : Link) (lane : Lane) (asks : List lanes.Ask) → lane.link ≡ Some link → link.asks ≡ asks
    → lane_after setup (Refuses code) lane ≡ refuses_first code asks link lane
refuse_moves setup code link lane asks has is =
    ap (λ (o : Option Link). on_link (λ (l : Link). refuses_first code l.asks l) o lane) has
    ∙ ap (λ (all : List lanes.Ask). refuses_first code all link lane) is

module _ (world : World) (k : ℕ) (t : Transport) (asked : Asked) (serves : Serves world.channels t.actor) (free : t.actor.ended ≡ None)
    (waits : t.actor.waiting ≡ []) (is : t.actor.wish ≡ wishes.AskToAttach asked) (front : IsFront t.to_client) (uncut : t.cut ≡ false) where
  abbrev call : Call
  call = calls.Dir (Ask asked.channel)

  abbrev act : actor.State → actor.State
  act = absorbed call (reply_to call world) world.now

  abbrev number : Numbering
  number = numbering (reply_to call world)

  acts : act t.actor ≡ attach_at asked number world.now t.actor
  acts = by_wish call (reply_to call world) world.now t.actor (wishes.AskToAttach asked) free is refl

  -- what it asks behind that
  abbrev more : List lanes.Ask
  more = flat_map (asks_of asked.channel) (under_way t.to_service)

  abbrev frame : Frame
  frame = frames.Error (Some asked.channel) CHANNEL_LIMIT

  attach_mute : (name : List ℕ) (n : Numbering) → (n ≡ HasNone → bytes_eq name asked.channel ≡ false)
      → IsMute name t.actor (attach_at asked n world.now t.actor)
  attach_mute name (Has m) differs = record {
    goes = λ on. free;
    asks = λ on. sym (ap (asks_in_hand name) is);
    sessions = λ on. refl;
    none = ap (filter (concerns name)) waits;
  }
  attach_mute name HasNone differs = record {
    goes = λ on. free;
    asks = λ on. sym (ap (asks_in_hand name) is ∙ ap (λ (b : Bool). if b then ToAttach asked.serial ∷ [] else []) (differs refl));
    sessions = λ on. refl;
    none = ap (λ (list : List Frame). filter (concerns name) (list ++ frame ∷ [])) waits ∙ ap (λ (b : Bool). cond b (frame ∷ []) []) (differs refl);
  }
  attach_mute name Unnumbered differs = record { goes = λ on. on; asks = λ on. refl; sessions = λ on. refl; none = ap (filter (concerns name)) waits }

  -- where a channel gets a number, or another is refused
  mute_goes_on : (name : List ℕ) → (number ≡ HasNone → bytes_eq name asked.channel ≡ false) → (lane : Lane) (link : Link)
      → lane.past ≡ past_named name world → lane.link ≡ Some link → Sees (setup_of name) t link
      → GoesOn world (performs k call world) (absorbs call world t) name lane
  mute_goes_on name differs lane link past linked sees =
      mute_goes world k t call front uncut name lane link
      (mute_as name t.actor (act t.actor) (attach_at asked number world.now t.actor) acts (attach_mute name number differs))
      past linked sees

  -- the channel that is refused
  refused_goes : number ≡ HasNone → (lane : Lane) (link : Link) → lane.past ≡ past_named asked.channel world → lane.link ≡ Some link
      → Sees (setup_of asked.channel) t link
      → GoesOn world (performs k call world) (absorbs call world t) asked.channel lane
  refused_goes none lane link past linked sees =
      let first : link.asks ≡ ToAttach asked.serial ∷ more =
      sym (sees.asks free)
      ∙ ap (λ (w : Wish). asks_in_hand asked.channel w ++ more) is
      ∙ ap (λ (b : Bool). (if b then ToAttach asked.serial ∷ [] else []) ++ more) (self_bytes asked.channel) in
      let same : lane_after (setup_of asked.channel) (Refuses CHANNEL_LIMIT) lane ≡ refuses_first CHANNEL_LIMIT (ToAttach asked.serial ∷ more) link lane =
      refuse_moves (setup_of asked.channel) CHANNEL_LIMIT link lane (ToAttach asked.serial ∷ more) linked first in
      let does : act t.actor ≡ attach_at asked HasNone world.now t.actor = acts ∙ ap (λ (n : Numbering). attach_at asked n world.now t.actor) none in
      let puts : (act t.actor).waiting ≡ frame ∷ [] = ap (λ (s : actor.State). s.waiting) does ∙ ap (λ (list : List Frame). list ++ frame ∷ []) waits in
      record {
        moves = Refuses CHANNEL_LIMIT ∷ [];
        past =
            ap (λ (l : Lane). l.past) same ∙ past
            ∙ sym (past_same asked.channel (called call world) (performs k call world) refl ∙ name_past asked.channel asked.channel world);
        channel = ap (λ (l : Lane). l.channel) same;
        joins = [];
        joined = ap (λ (l : Lane). l.joins) same;
        made = tt;
        link = record { coming = link.coming ++ Fails asked.serial CHANNEL_LIMIT ∷ []; asks = more; session = None };
        has = ap (λ (l : Lane). l.link) same;
        sees = record {
          coming =
              works_coming asked.channel act (with_call call world t) uncut front
              ∙ ap (λ (list : List Frame). coming_on asked.channel t ++ filter (concerns asked.channel) list) puts
              ∙ ap (λ (b : Bool). coming_on asked.channel t ++ cond b (frame ∷ []) []) (self_bytes asked.channel)
              ∙ ap (λ (list : List Frame). list ++ frame ∷ []) sees.coming
              ∙ sym (map-append (frame_of (setup_of asked.channel)) link.coming (Fails asked.serial CHANNEL_LIMIT ∷ []));
          asks = λ on.
              works_asks asked.channel act (with_call call world t)
              ∙ ap (λ (s : actor.State). asks_in_hand asked.channel s.wish ++ more) does;
          session = λ on.
              works_session asked.channel act (with_call call world t)
              ∙ ap (λ (s : actor.State). at asked.channel s.sessions) does
              ∙ no_session world t.actor asked.channel serves (none_given (number_of asked.channel (names world)) (names world) none);
        };
      }

  ask_goes : (name : List ℕ) (lane : Lane) (link : Link) → lane.past ≡ past_named name world → lane.link ≡ Some link
      → Sees (setup_of name) t link
      → GoesOn world (performs k call world) (absorbs call world t) name lane
  ask_goes name lane link past linked sees = by_answer number refl (bytes_eq name asked.channel) refl
    where
      by_answer : (n : Numbering) → number ≡ n → (b : Bool) → bytes_eq name asked.channel ≡ b
          → GoesOn world (performs k call world) (absorbs call world t) name lane
      by_answer n told false differ = mute_goes_on name (λ none. differ) lane link past linked sees
      by_answer HasNone told true here =
          let key : name ≡ asked.channel = same_bytes name asked.channel here in
          subst (λ (q : List ℕ). (l : Lane) (m : Link) → l.past ≡ past_named q world → l.link ≡ Some m → Sees (setup_of q) t m
          → GoesOn world (performs k call world) (absorbs call world t) q l) (sym key) (refused_goes told) lane link past linked sees
      by_answer (Has m) told true here = mute_goes_on name (λ none. let wrong : Has m ≡ HasNone = sym told ∙ none in absurd (cc)) lane link past linked sees
      by_answer Unnumbered told true here = mute_goes_on name (λ none. let wrong : Unnumbered ≡ HasNone = sym told ∙ none in absurd (cc)) lane link past linked sees

-- ALL QUESTIONS

asked_served : (world : World) (k : ℕ) (t : Transport) → AreServing world → AllByRecursion AreFronts world.transports
    → slice_get world.transports k ≡ Some t
    → (name : List ℕ) → IsAsk t.actor.wish name → IsServed world (performs k (calls.Dir (Ask name)) world) t (absorbs (calls.Dir (Ask name)) world t)
asked_served world k t serving fronts found name (inl w) =
    let h = serving_at world k t serving found in
    subst (λ (q : List ℕ). IsServed world (performs k (calls.Dir (Ask q)) world) t (absorbs (calls.Dir (Ask q)) world t)) w.2
    (call_served world k t (calls.Dir (Ask w.0.channel)) (λ uncut q lane link past linked sees.
    ask_goes world k t w.0 h.of_actor (not_over world.channels t.actor h.of_actor (last_not_ask t.actor.wish w.0 w.1)) h.flushed w.1
    (front_at world k t fronts found) uncut q lane link past linked sees))
asked_served world k t serving fronts found name (inr w) =
    let h = serving_at world k t serving found in
    let free : t.actor.ended ≡ None = not_over world.channels t.actor h.of_actor (last_not_asked t.actor.wish w.0 w.1 w.2) in
    let call : Call = calls.Dir (Ask name) in
    mute_call_served world k t call (front_at world k t fronts found) (λ q.
    mute_as q t.actor (absorbed call (reply_to call world) world.now t.actor) (put_at w.0 w.1 (numbering (reply_to call world)) t.actor)
    (by_wish call (reply_to call world) world.now t.actor (wishes.AskToPut w.0 w.1) free w.2 refl)
    (at_mute q w.0 w.1 (numbering (reply_to call world)) t.actor h.flushed w.2))

-- a question to the directory serves
pub ask_served : (world : World) (k : ℕ) (t : Transport) → AreServing world → AllByRecursion AreFronts world.transports
    → slice_get world.transports k ≡ Some t
    → (name : List ℕ) → next_call world.now t.actor ≡ Some (calls.Dir (Ask name))
    → IsServed world (performs k (calls.Dir (Ask name)) world) t (absorbs (calls.Dir (Ask name)) world t)
ask_served world k t serving fronts found name wants =
    asked_served world k t serving fronts found name (ask_wish t.actor.wish t.actor.hello world.now name wants)
