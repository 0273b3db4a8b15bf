-- What a frame of the client makes of an actor that takes it up.
use Rattle.std.proofs.Common.{◌≡◌, ◌⊎◌, inl, inr, ℕ, Bool, true, false, List, [], ◌∷◌, ◌++◌, sym, ap, subst, refl, ◌∙◌}
use Rattle.std.specs.Prelude.{Option, Some, None, if◌then◌else◌, ⊤, bytes_eq, map}
use Rattle.std.specs.List.{filter}
use Rattle.rl_types.specs.declared.frames.Head.{Head}
use Rattle.rl_types.specs.declared.frames.Frame.{Frame}
use Rattle.rl_types.specs.declared.frames.Frame.TheVariants as frames
use Rattle.rl_types.specs.declared.messages.Body.{Body}
use Rattle.rl_types.specs.declared.messages.Body.TheVariants.{Messages, Presence, Objects}
use Rattle.rl_events.specs.declared.calls.End.{End}
use Rattle.rl_events.specs.declared.calls.End.TheVariants as ends
use Rattle.rl_objmodel.specs.Places.{AreRising}
use Rattle.rl_names.specs.Names.{at}
use Rattle.rl_actormodel.specs.declared.parts.Asked.{Asked}
use Rattle.rl_actormodel.specs.declared.parts.Publish.{Publish}
use Rattle.rl_actormodel.specs.declared.parts.Holder.{Holder}
use Rattle.rl_actormodel.specs.declared.parts.Session.{Session}
use Rattle.rl_actormodel.specs.declared.parts.Wish.{Wish}
use Rattle.rl_actormodel.specs.declared.parts.Wish.TheVariants as wishes
use Rattle.rl_actormodel.specs.State as actor
use Rattle.rl_actormodel.specs.State.{wishing, put}
use Rattle.rl_actormodel.specs.Ends.{ended_by}
use Rattle.rl_actormodel.specs.Takes as takes
use Rattle.rl_actormodel.specs.Takes.{attach_wish, begin_wish, close_wish, signed, signed_member, detached, publish, take, take_any, took}
use Rattle.rl_worldmodel.specs.Actors.{arrives_if}
use Rattle.rl_lanes.specs.Lanes.{ToDetach}
use Rattle.rl_worldlanes.specs.Views.{concerns, asks_of, asks_in_hand}
use Rattle.rl_worldlanes.proofs.Lanes.{same_name, self_name}
use Rattle.rl_worldlanes.proofs.Silence.{put_quiet, ended_quiet, none_quiet}
use Rattle.rl_worldlanes.proofs.Leaving.{at_gone, at_other}

-- where this session was held: what the frame asks on the channel is in hand afterwards, the session stays, and nothing is put
-- out on the channel
pub record IsTaken (name : List ℕ) (frame : Frame) (held : Option Session) (b : actor.State) : Type 0 where
  pub asks : b.ended ≡ None → asks_in_hand name b.wish ≡ asks_of name frame
  pub sessions : b.ended ≡ None → at name b.sessions ≡ held
  pub none : filter (concerns name) b.waiting ≡ []

-- nothing is in hand, the session is given up, and DETACHED is put out
pub record IsParted (name : List ℕ) (b : actor.State) : Type 0 where
  pub asks : b.ended ≡ None → asks_in_hand name b.wish ≡ []
  pub sessions : b.ended ≡ None → at name b.sessions ≡ None
  pub waits : filter (concerns name) b.waiting ≡ frames.Detached name None ∷ []

-- every frame is taken so, but DETACH of the channel itself
abbrev pub Becomes : List ℕ → Frame → Option Session → actor.State → Type 0
Becomes name frame held b = IsTaken name frame held b ⊎ ((frame ≡ frames.Detach name) × IsParted name b)

-- WISHES

attach_hand : (name : List ℕ) (asked : Asked) (o : Option ℕ)
    → asks_in_hand name (attach_wish asked o) ≡ asks_of name (frames.Attach asked.channel asked.serial)
attach_hand name asked None = refl
attach_hand name asked (Some number) = refl

begin_hand : (name : List ℕ) (p : Publish) (o : Option Holder) → asks_in_hand name (begin_wish p o) ≡ []
begin_hand name p None = refl
begin_hand name p (Some holder) = refl

close_hand : (name : List ℕ) (o : Option Holder) → asks_in_hand name (close_wish o) ≡ []
close_hand name None = refl
close_hand name (Some holder) = refl

-- FRAMES

module _ (name : List ℕ) (s : actor.State) (empty : s.waiting ≡ []) (nothing : s.wish ≡ wishes.Nothing) (rising : AreRising s.sessions) where
  no_hand : asks_in_hand name s.wish ≡ []
  no_hand = ap (asks_in_hand name) nothing

  still_taken : (frame : Frame) → asks_of name frame ≡ [] → IsTaken name frame (at name s.sessions) s
  still_taken frame quiet = record { asks = λ on. no_hand ∙ sym quiet; sessions = λ on. refl; none = none_quiet name s.waiting empty }

  wants_taken : (frame : Frame) (wish : Wish) → asks_in_hand name wish ≡ asks_of name frame
      → IsTaken name frame (at name s.sessions) (wishing wish s)
  wants_taken frame wish is = record { asks = λ on. is; sessions = λ on. refl; none = none_quiet name s.waiting empty }

  publish_taken : (frame : Frame) (head : Head) (o : Option ℕ) (body : Body) → asks_of name frame ≡ []
      → IsTaken name frame (at name s.sessions) (publish head o body s)
  publish_taken frame head None body quiet = still_taken frame quiet
  publish_taken frame head (Some serial) body quiet =
      wants_taken frame (begin_wish (record { channel = head.channel; serial = serial; body = body }) s.holder) (begin_hand name _ s.holder ∙ sym quiet)

  beats_taken : (now : ℕ) → IsTaken name frames.Heartbeat (at name s.sessions) (put frames.Heartbeat now s)
  beats_taken now = record { asks = λ on. no_hand; sessions = λ on. refl; none = put_quiet name frames.Heartbeat s.waiting empty refl }

  -- DETACH

  -- of the channel itself
  own_detached : (now : ℕ) → IsParted name (detached name now s)
  own_detached now = record {
    asks = λ on. no_hand;
    sessions = λ on. at_gone name s.sessions rising;
    waits =
        ap (λ (ws : List Frame). filter (concerns name) (ws ++ frames.Detached name None ∷ [])) empty
        ∙ ap (λ (b : Bool). if b then frames.Detached name None ∷ [] else []) (self_name name);
  }

  -- of another one
  other_detached : (channel : List ℕ) (now : ℕ) → bytes_eq name channel ≡ false
      → IsTaken name (frames.Detach channel) (at name s.sessions) (detached channel now s)
  other_detached channel now apart = record {
    asks = λ on. no_hand ∙ sym (ap (λ (b : Bool). if b then ToDetach ∷ [] else []) apart);
    sessions = λ on. at_other name channel s.sessions apart;
    none =
        ap (λ (ws : List Frame). filter (concerns name) (ws ++ frames.Detached channel None ∷ [])) empty
        ∙ ap (λ (b : Bool). if b then frames.Detached channel None ∷ [] else []) apart;
  }

  detached_as : (channel : List ℕ) (now : ℕ) (b : Bool) → bytes_eq name channel ≡ b
      → Becomes name (frames.Detach channel) (at name s.sessions) (detached channel now s)
  detached_as channel now false apart = inl (other_detached channel now apart)
  detached_as channel now true is =
      subst (λ (key : List ℕ). Becomes name (frames.Detach key) (at name s.sessions) (detached key now s)) (same_name name channel is) (inr (refl, own_detached now))

  -- EACH FRAME

  take_as : (frame : Frame) (now : ℕ) → Becomes name frame (at name s.sessions) (take frame now s)
  take_as (frames.Attach channel serial) now =
      inl (wants_taken (frames.Attach channel serial) (attach_wish (record { channel = channel; serial = serial }) (at channel s.numbers))
      (attach_hand name (record { channel = channel; serial = serial }) (at channel s.numbers)))
  take_as (frames.Detach channel) now = detached_as channel now (bytes_eq name channel) refl
  take_as (frames.Message head items) now = inl (publish_taken (frames.Message head items) head head.msg (Messages (map (signed s.hello.client) items)) refl)
  take_as (frames.Presence head items) now = inl (publish_taken (frames.Presence head items) head head.msg (Presence (map (signed_member s.hello.client) items)) refl)
  take_as (frames.Object head ops) now = inl (publish_taken (frames.Object head ops) head head.msg (Objects ops) refl)
  take_as frames.Close now = inl (wants_taken frames.Close (close_wish s.holder) (close_hand name s.holder))
  take_as frames.Heartbeat now = inl (beats_taken now)
  take_as frame now = inl (still_taken frame refl)

-- bytes that are too long for a frame end the actor
too_long : (name : List ℕ) (frame : Frame) (held : Option Session) (why : End) (s : actor.State) → s.waiting ≡ []
    → IsTaken name frame held (ended_by why s)
too_long name frame held why s empty = record { asks = λ on. absurd (cc); sessions = λ on. absurd (cc); none = ended_quiet name why s.waiting empty }

-- what comes where the client sent this frame: the frame, or bytes
abbrev IsArrival : Frame → takes.Came → Type 0
IsArrival frame (takes.A other) = other ≡ frame
IsArrival frame takes.Unknown = ⊥
IsArrival frame (takes.Bad bytes) = ⊤

arrival : (short : Bool) (frame : Frame) → IsArrival frame (arrives_if short frame)
arrival true frame = refl
arrival false frame = tt

module _ (name : List ℕ) (s : actor.State) (empty : s.waiting ≡ []) (nothing : s.wish ≡ wishes.Nothing) (rising : AreRising s.sessions) where
  any_as : (frame : Frame) (came : takes.Came) (now : ℕ) → IsArrival frame came
      → Becomes name frame (at name s.sessions) (take_any came now s)
  any_as frame (takes.A other) now is = subst (λ (f : Frame). Becomes name f (at name s.sessions) (take other now s)) is (take_as name s empty nothing rising other now)
  any_as frame takes.Unknown now is = absurd is
  any_as frame (takes.Bad bytes) now is = inl (too_long name frame (at name s.sessions) (ends.BadFrame bytes) s empty)

-- a frame of the client is taken up by an actor that wants nothing
pub took_as : (name : List ℕ) (short : Bool) (frame : Frame) (now : ℕ) (s : actor.State) → s.waiting ≡ [] → s.wish ≡ wishes.Nothing
    → AreRising s.sessions
    → Becomes name frame (at name s.sessions) (took (arrives_if short frame) now s)
took_as name short frame now s empty nothing rising =
    any_as name (record s { last_in = now }) empty nothing rising frame (arrives_if short frame) now (arrival short frame)
