-- What an actor does that says nothing on a channel, and what that leaves of the channel's lane.
use Rattle.std.proofs.Common.{◌≡◌, ℕ, Bool, true, false, List, [], ◌∷◌, ◌++◌, sym, ap, refl, ◌∙◌}
use Rattle.std.specs.Prelude.{Some, if◌then◌else◌, option_to_list, slice_get}
use Rattle.std.specs.List.{AllByRecursion, filter}
use Rattle.rl_types.specs.declared.frames.Frame.{Frame}
use Rattle.rl_events.specs.declared.calls.End.{End}
use Rattle.rl_events.specs.declared.calls.End.TheVariants as ends
use Rattle.rl_names.specs.Names.{at}
use Rattle.rl_actormodel.specs.declared.parts.Wish.{Wish}
use Rattle.rl_actormodel.specs.State as actor
use Rattle.rl_actormodel.specs.State.{put}
use Rattle.rl_actormodel.specs.Ends.{farewell, ended_by}
use Rattle.rl_worldmodel.specs.World.{World, Transport}
use Rattle.rl_worldmodel.specs.Actors.{works}
use Rattle.rl_worldsessions.specs.Serving.{IsServing, AreServing}
use Rattle.rl_worldtold.proofs.Shape.{all_at, works_owner, works_cut}
use Rattle.rl_worldlanes.specs.Views.{concerns, asks_in_hand}
use Rattle.rl_worldlanes.specs.Following.{AreFronts, setup_of}
use Rattle.rl_worldlanes.specs.Serving.{IsServed}
use Rattle.rl_worldlanes.proofs.Histories.{past_same}
use Rattle.rl_worldlanes.proofs.Mute.{IsMute, mute_sees, goes_same}

-- THE CHANNELS STAY

-- ACTORS THAT SAY NOTHING ON A CHANNEL

-- the farewell is on no channel
pub farewell_quiet : (name : List ℕ) (why : End) → filter (concerns name) (option_to_list (farewell why)) ≡ []
farewell_quiet name ends.Closed = refl
farewell_quiet name ends.LinkEnded = refl
farewell_quiet name ends.LinkFault = refl
farewell_quiet name (ends.Superseded mine newer) = refl
farewell_quiet name ends.Forgotten = refl
farewell_quiet name (ends.Lagged position first) = refl
farewell_quiet name (ends.BadFrame bytes) = refl
farewell_quiet name (ends.SerialGap got expected) = refl
farewell_quiet name (ends.SerialOld got expected) = refl
farewell_quiet name (ends.Idle last now) = refl
farewell_quiet name ends.Stopped = refl
farewell_quiet name (ends.ConnectionLimit count given) = refl
farewell_quiet name ends.NoMemory = refl

-- a frame that is put out behind nothing is all that waits
pub put_quiet : (name : List ℕ) (frame : Frame) (waiting : List Frame) → waiting ≡ [] → filter (concerns name) (frame ∷ []) ≡ []
    → filter (concerns name) (waiting ++ frame ∷ []) ≡ []
put_quiet name frame waiting empty quiet = ap (λ (ws : List Frame). filter (concerns name) (ws ++ frame ∷ [])) empty ∙ quiet

pub ended_quiet : (name : List ℕ) (why : End) (waiting : List Frame) → waiting ≡ []
    → filter (concerns name) (waiting ++ option_to_list (farewell why)) ≡ []
ended_quiet name why waiting empty = ap (λ (ws : List Frame). filter (concerns name) (ws ++ option_to_list (farewell why))) empty ∙ farewell_quiet name why

pub none_quiet : (name : List ℕ) (waiting : List Frame) → waiting ≡ [] → filter (concerns name) waiting ≡ []
none_quiet name waiting empty = ap (λ (ws : List Frame). filter (concerns name) ws) empty

-- it does nothing
pub same_mute : (name : List ℕ) (s : actor.State) → s.waiting ≡ [] → IsMute name s s
same_mute name s empty = record { goes = λ on. on; asks = λ on. refl; sessions = λ on. refl; none = none_quiet name s.waiting empty }

-- it ends
pub ended_mute : (name : List ℕ) (why : End) (s : actor.State) → s.waiting ≡ [] → IsMute name s (ended_by why s)
ended_mute name why s empty = record {
  goes = λ on. absurd (cc);
  asks = λ on. absurd (cc);
  sessions = λ on. absurd (cc);
  none = ended_quiet name why s.waiting empty;
}

-- it puts out a frame that is on no channel
pub put_mute : (name : List ℕ) (frame : Frame) (now : ℕ) (s : actor.State) → s.waiting ≡ [] → filter (concerns name) (frame ∷ []) ≡ []
    → IsMute name s (put frame now s)
put_mute name frame now s empty quiet = record {
  goes = λ on. on;
  asks = λ on. refl;
  sessions = λ on. refl;
  none = put_quiet name frame s.waiting empty quiet;
}

-- it had no ask in hand and wants something else
pub wants_mute : (name : List ℕ) (wish : Wish) (s b : actor.State) → asks_in_hand name s.wish ≡ [] → asks_in_hand name wish ≡ []
    → b.wish ≡ wish → b.ended ≡ s.ended → b.sessions ≡ s.sessions
    → filter (concerns name) b.waiting ≡ [] → IsMute name s b
wants_mute name wish s b hand has w e ss quiet = record {
  goes = λ on. sym e ∙ on;
  asks = λ on. ap (asks_in_hand name) w ∙ has ∙ sym hand;
  sessions = λ on. ap (at name) ss;
  none = quiet;
}

pub mute_if : (name : List ℕ) (b : Bool) (s x y : actor.State) → IsMute name s x → IsMute name s y → IsMute name s (if b then x else y)
mute_if name true s x y one two = one
mute_if name false s x y one two = two

-- THEIR TRANSPORTS

-- what is known of the transport of an actor
pub record IsKnown (world : World) (t : Transport) : Type 0 where
  pub fronts : AreFronts t
  pub serving : IsServing world.channels t

pub known_at : (world : World) (k : ℕ) (t : Transport) → AreServing world → AllByRecursion AreFronts world.transports
    → slice_get world.transports k ≡ Some t → IsKnown world t
known_at world k t serving fronts found = record {
  fronts = all_at AreFronts k t world.transports found fronts;
  serving = all_at (IsServing world.channels) k t world.transports found serving;
}

-- where an actor says nothing on any channel, and the channels stay, each lane stays
pub mute_served : (world after : World) (act : actor.State → actor.State) (t : Transport) → AreFronts t → after.channels ≡ world.channels
    → ((name : List ℕ) → IsMute name t.actor (act t.actor)) → IsServed world after t (works act t)
mute_served world after act t fronts same mute = record {
  owner = works_owner act t;
  cut = works_cut act t;
  goes_on = λ uncut name lane link past has sees.
      goes_same world after (works act t) name lane link past (past_same name world after same) has
      (mute_sees (setup_of name) act t link uncut fronts.client (mute name) sees);
}
