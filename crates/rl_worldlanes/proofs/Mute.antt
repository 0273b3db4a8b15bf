-- What leaves a lane as it is, and what happens elsewhere.
use Rattle.std.proofs.Common.{◌≡◌, ℕ, Bool, true, false, List, [], ◌∷◌, ◌++◌, sym, ap, refl, ◌∙◌}
use Rattle.std.specs.Prelude.{Some, None, flat_map}
use Rattle.std.specs.List.{filter}
use Rattle.rl_types.specs.declared.frames.Frame.{Frame}
use Rattle.rl_events.specs.declared.channel.ChannelEvent.{ChannelEvent}
use Rattle.rl_names.specs.Names.{at}
use Rattle.rl_actormodel.specs.State as actor
use Rattle.rl_lanes.specs.Lanes.{Setup, Link, Lane}
use Rattle.rl_lanes.specs.Moves.{Happens}
use Rattle.rl_worldmodel.specs.World.{World, Transport, under_way, with_put}
use Rattle.rl_worldmodel.specs.Actors.{put_out_unless, works}
use Rattle.rl_worldlanes.specs.Views.{Sees, concerns, coming_on, asks_of, asks_in_hand, asks_on}
use Rattle.rl_worldlanes.specs.Following.{IsFront, setup_of, past_named}
use Rattle.rl_worldlanes.specs.Serving.{GoesOn}
use Rattle.rl_worldlanes.proofs.Lanes.{append_none}
use Rattle.rl_worldlanes.proofs.Ways.{coming_put}

-- WHAT AN ACTOR PUTS OUT

put_actor : (b : Bool) (frames : List Frame) (t : Transport) → (put_out_unless b frames t).actor ≡ t.actor
put_actor true frames t = refl
put_actor false frames t = refl

put_service : (b : Bool) (frames : List Frame) (t : Transport) → (put_out_unless b frames t).to_service ≡ t.to_service
put_service true frames t = refl
put_service false frames t = refl

put_client : (b : Bool) (frames : List Frame) (t : Transport) → b ≡ false → (put_out_unless b frames t).to_client ≡ with_put frames t.to_client
put_client true frames t uncut = absurd (cc)
put_client false frames t uncut = refl

-- what an actor that works shows of a channel, where the transport is not cut
pub works_coming : (name : List ℕ) (act : actor.State → actor.State) (t : Transport) → t.cut ≡ false → IsFront t.to_client
    → coming_on name (works act t) ≡ coming_on name t ++ filter (concerns name) (act t.actor).waiting
works_coming name act t uncut front =
    ap (λ way. filter (concerns name) (under_way way)) (put_client t.cut (act t.actor).waiting (record t { actor = act t.actor }) uncut)
    ∙ coming_put name (act t.actor).waiting t front

pub works_asks : (name : List ℕ) (act : actor.State → actor.State) (t : Transport)
    → asks_on name (works act t) ≡ asks_in_hand name (act t.actor).wish ++ flat_map (asks_of name) (under_way t.to_service)
works_asks name act t =
    ap (λ (a : actor.State). asks_in_hand name a.wish ++ flat_map (asks_of name) (under_way (works act t).to_service)) (put_actor t.cut (act t.actor).waiting (record t { actor = act t.actor }))
    ∙ ap (λ way. asks_in_hand name (act t.actor).wish ++ flat_map (asks_of name) (under_way way)) (put_service t.cut (act t.actor).waiting (record t { actor = act t.actor }))

pub works_session : (name : List ℕ) (act : actor.State → actor.State) (t : Transport) → at name (works act t).actor.sessions ≡ at name (act t.actor).sessions
works_session name act t = ap (λ (a : actor.State). at name a.sessions) (put_actor t.cut (act t.actor).waiting (record t { actor = act t.actor }))

pub works_ended : (act : actor.State → actor.State) (t : Transport) → (works act t).actor.ended ≡ (act t.actor).ended
works_ended act t = ap (λ (a : actor.State). a.ended) (put_actor t.cut (act t.actor).waiting (record t { actor = act t.actor }))

-- WHAT ASKS NOTHING OF A SESSION

-- an actor that goes on has the channel's ask and session as before, and none of what it puts out is on the channel
pub record IsMute (name : List ℕ) (a b : actor.State) : Type 0 where
  pub goes : b.ended ≡ None → a.ended ≡ None
  pub asks : b.ended ≡ None → asks_in_hand name b.wish ≡ asks_in_hand name a.wish
  pub sessions : b.ended ≡ None → at name b.sessions ≡ at name a.sessions
  pub none : filter (concerns name) b.waiting ≡ []

pub mute_sees : (setup : Setup) (act : actor.State → actor.State) (t : Transport) (link : Link) → t.cut ≡ false → IsFront t.to_client
    → IsMute setup.name t.actor (act t.actor) → Sees setup t link → Sees setup (works act t) link
mute_sees setup act t link uncut front mute sees = record {
  coming = works_coming setup.name act t uncut front ∙ ap (λ frames. coming_on setup.name t ++ frames) mute.none ∙ append_none (coming_on setup.name t) ∙ sees.coming;
  asks = λ on. let goes = sym (works_ended act t) ∙ on in
      works_asks setup.name act t ∙ ap (λ asks. asks ++ flat_map (asks_of setup.name) (under_way t.to_service)) (mute.asks goes) ∙ sees.asks (mute.goes goes);
  session = λ on. let goes = sym (works_ended act t) ∙ on in
      works_session setup.name act t ∙ mute.sessions goes ∙ sees.session (mute.goes goes);
}

-- A LANE WITH THE SAME LINK

-- nothing came to the channel
pub goes_same : (world after : World) (u : Transport) (name : List ℕ) (lane : Lane) (link : Link)
    → lane.past ≡ past_named name world → past_named name after ≡ past_named name world → lane.link ≡ Some link → Sees (setup_of name) u link
    → GoesOn world after u name lane
goes_same world after u name lane link past same has sees = record {
  moves = [];
  past = past ∙ sym same;
  channel = refl;
  joins = [];
  joined = refl;
  made = tt;
  link = link;
  has = has;
  sees = sees;
}

-- an event came to it from elsewhere
pub goes_happens : (world after : World) (u : Transport) (name : List ℕ) (lane : Lane) (link : Link) (one : ChannelEvent)
    → lane.past ≡ past_named name world → past_named name after ≡ one ∷ past_named name world → lane.link ≡ Some link → Sees (setup_of name) u link
    → GoesOn world after u name lane
goes_happens world after u name lane link one past comes has sees = record {
  moves = Happens one ∷ [];
  past = ap (λ events. one ∷ events) past ∙ sym comes;
  channel = refl;
  joins = [];
  joined = refl;
  made = tt;
  link = link;
  has = has;
  sees = sees;
}
