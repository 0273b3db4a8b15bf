-- A call of a session: what it is answered moves the lane of the session's channel, and no other.
use Rattle.std.proofs.Common.{◌≡◌, ℕ, Bool, true, false, List, [], ◌∷◌, ◌++◌, refl, sym, ◌∙◌, ap, subst}
use Rattle.std.specs.Prelude.{Option, Some, None, bytes_eq, if◌then◌else◌}
use Rattle.rl_events.specs.declared.channel.ChannelEvent.{ChannelEvent}
use Rattle.rl_events.specs.declared.calls.Call.{Call}
use Rattle.rl_events.specs.declared.calls.Call.TheVariants.{Chan}
use Rattle.rl_directory.specs.Directory.{number_of}
use Rattle.rl_names.specs.Names.{at}
use Rattle.rl_actormodel.specs.declared.parts.Session.{Session}
use Rattle.rl_actormodel.specs.State as actor
use Rattle.rl_actormodel.specs.Wishes.{call_of, session_call}
use Rattle.rl_actormodel.specs.Reads.{absorbed}
use Rattle.rl_actormodel.proofs.Answered.{free_is}
use Rattle.rl_lanes.specs.Lanes.{Coming, Link, Lane}
use Rattle.rl_lanes.specs.Moves.{Move, lane_after, puts}
use Rattle.rl_worldmodel.specs.World.{World, Transport, names, history}
use Rattle.rl_worldmodel.specs.Calls.{reply_to}
use Rattle.rl_worldmodel.specs.Actors.{call_on, unless_cut, with_call, absorbs, performs}
use Rattle.rl_worldtold.specs.Truth.{Channels}
use Rattle.rl_worldtold.proofs.Shape.{same_bytes, works_owner, works_cut}
use Rattle.rl_worldsessions.specs.Serving.{IsServing, IsSessionOf}
use Rattle.rl_worldsessions.proofs.Entries.{all_found}
use Rattle.rl_worldlanes.specs.Views.{Sees}
use Rattle.rl_worldlanes.specs.Following.{IsFront, past_at, past_named, setup_of}
use Rattle.rl_worldlanes.specs.Serving.{GoesOn, IsServed}
use Rattle.rl_worldlanes.proofs.Mute.{IsMute, mute_sees, goes_same, goes_happens}
use Rattle.rl_worldlanes.proofs.Histories.{past_own, past_other}
use Rattle.rl_worldlanes.proofs.Moving.{moved, moved_mute, moved_sees}

-- THE SESSION THAT CALLS

-- a session under the name wants the call, and the actor is free to make it
pub record IsCalled (wants : Session → Option Call) (name : List ℕ) (t : Transport) (call : Call) : Type 0 where
  pub session : Session
  pub uncut : t.cut ≡ false
  pub free : t.actor.ended ≡ None
  pub stands : at name t.actor.sessions ≡ Some session
  pub is : wants session ≡ Some call

by_cut : (b : Bool) (o : Option Call) (call : Call) → unless_cut b o ≡ Some call → (b ≡ false) × (o ≡ Some call)
by_cut true o call is = absurd (cc)
by_cut false o call is = (refl, is)

by_free : (b : Bool) (o : Option Call) (call : Call) → (if b then o else None) ≡ Some call → (b ≡ true) × (o ≡ Some call)
by_free true o call is = (refl, is)
by_free false o call is = absurd (cc)

by_session : (wants : Session → Option Call) (o : Option Session) (call : Call) → call_of wants o ≡ Some call
    → (session : Session) × (o ≡ Some session) × (wants session ≡ Some call)
by_session wants None call is = absurd (cc)
by_session wants (Some session) call is = (session, refl, is)

pub is_called : (wants : Session → Option Call) (name : List ℕ) (o : Option Transport) (t : Transport) (call : Call) → o ≡ Some t
    → call_on (session_call wants name) o ≡ Some call → IsCalled wants name t call
is_called wants name o t call found is =
    let here : unless_cut t.cut (session_call wants name t.actor) ≡ Some call = sym (ap (call_on (session_call wants name)) found) ∙ is in
    let c = by_cut t.cut (session_call wants name t.actor) call here in
    let f = by_free (actor.is_free t.actor) (call_of wants (at name t.actor.sessions)) call c.1 in
    let s = by_session wants (at name t.actor.sessions) call f.1 in
    record { session = s.0; uncut = c.0; free = (free_is t.actor.ended t.actor.wish f.0).0; stands = s.1; is = s.2 }

-- THE CALL IS PERFORMED

-- what the directory and the log say of the session
pub session_is : (channels : Channels) (t : Transport) (name : List ℕ) (session : Session) → IsServing channels t
    → at name t.actor.sessions ≡ Some session → IsSessionOf channels (name, session)
session_is channels t name session h stands =
    all_found (IsSessionOf channels) name session t.actor.sessions h.of_actor.sessions stands

module _ (world : World) (k : ℕ) (t : Transport) (number : ℕ) (event : ChannelEvent) (name : List ℕ)
    (has : number_of name (names world) ≡ Some number) (front : IsFront t.to_client) where
  abbrev After : World
  After = performs k (Chan number event) world

  abbrev Left : Transport
  Left = absorbs (Chan number event) world t

  abbrev Act : actor.State → actor.State
  Act = absorbed (Chan number event) (reply_to (Chan number event) world) world.now

  -- each lane of this channel whose link is seen on the transport goes on
  abbrev AllGo : List ℕ → Type 0
  AllGo q = (lane : Lane) (link : Link) → lane.past ≡ past_named q world → lane.link ≡ Some link → Sees (setup_of q) t link
      → GoesOn world After Left q lane

  -- the record of calls is no part of what is seen
  called_sees : (q : List ℕ) (link : Link) → Sees (setup_of q) t link → Sees (setup_of q) (with_call (Chan number event) world t) link
  called_sees q link sees = record { coming = sees.coming; asks = sees.asks; session = sees.session }

  pub own_history : past_named name world ≡ history number world
  own_history = ap (λ (o : Option ℕ). past_at o world) has

  -- of every other channel nothing is moved
  other_goes : (q : List ℕ) → bytes_eq q name ≡ false → IsMute q t.actor (Act t.actor) → t.cut ≡ false → AllGo q
  other_goes q apart mute uncut lane link past linked sees =
      goes_same world After Left q lane link past (past_other world After number event refl q name has apart) linked
      (mute_sees (setup_of q) Act (with_call (Chan number event) world t) link uncut front mute (called_sees q link sees))

  -- so the transport is served, where the channel's own lane goes on
  served_by : (t.cut ≡ false → AllGo name) → ((q : List ℕ) → bytes_eq q name ≡ false → IsMute q t.actor (Act t.actor))
      → IsServed world After t Left
  served_by own others = record {
    owner = works_owner Act (with_call (Chan number event) world t);
    cut = works_cut Act (with_call (Chan number event) world t);
    goes_on = λ uncut q lane link past linked sees. by_name q (bytes_eq q name) refl uncut lane link past linked sees;
  } where
    by_name : (q : List ℕ) (b : Bool) → bytes_eq q name ≡ b → t.cut ≡ false → AllGo q
    by_name q true same uncut = subst AllGo (sym (same_bytes q name same)) (own uncut)
    by_name q false apart uncut = other_goes q apart (others q apart) uncut

  -- an answer that leaves all channels as they are is an event from elsewhere
  pub mute_answer_served : ((q : List ℕ) → IsMute q t.actor (Act t.actor)) → IsServed world After t Left
  mute_answer_served mute = served_by own (λ q apart. mute q) where
    own : t.cut ≡ false → AllGo name
    own uncut lane link past linked sees =
        goes_happens world After Left name lane link event past (past_own world After number event refl name has) linked
        (mute_sees (setup_of name) Act (with_call (Chan number event) world t) link uncut front (mute name) (called_sees name link sees))

  -- one that moves the session on moves the lane
  pub moved_served : (move : Move) (comings : List Coming) (session after : Session)
      → ((lane : Lane) (link : Link) → lane.past ≡ history number world → lane.link ≡ Some link → link.session ≡ Some session
      → lane_after (setup_of name) move lane ≡ puts event comings after link lane)
      → at name t.actor.sessions ≡ Some session → t.actor.ended ≡ None → t.actor.waiting ≡ []
      → Act t.actor ≡ moved (setup_of name) comings after world.now t.actor
      → IsServed world After t Left
  moved_served move comings session after moves stands free flushed is =
      served_by own (λ q apart. moved_mute (setup_of name) comings after world.now t.actor (Act t.actor) free flushed is q apart) where
        own : t.cut ≡ false → AllGo name
        own uncut lane link past linked sees =
            let on : lane_after (setup_of name) move lane ≡ puts event comings after link lane =
            moves lane link (past ∙ own_history) linked (sym (sees.session free) ∙ stands) in
            record {
              moves = move ∷ [];
              past =
                  ap (λ (l : Lane). l.past) on
                  ∙ ap (λ (events : List ChannelEvent). event ∷ events) past
                  ∙ sym (past_own world After number event refl name has);
              channel = ap (λ (l : Lane). l.channel) on;
              joins = [];
              joined = ap (λ (l : Lane). l.joins) on;
              made = tt;
              link = record link { coming = link.coming ++ comings; session = Some after };
              has = ap (λ (l : Lane). l.link) on;
              sees =
                  moved_sees (setup_of name) comings after world.now Act (with_call (Chan number event) world t) link
                  uncut front free flushed is (called_sees name link sees);
            }
