-- An actor that notices a cut, or that rests, says nothing on any channel.
use Rattle.std.proofs.Common.{◌≡◌, ℕ, List, [], refl}
use Rattle.std.specs.Prelude.{Option, Some, None, if◌then◌else◌, slice_get}
use Rattle.std.specs.List.{AllByRecursion}
use Rattle.rl_types.specs.declared.frames.Frame.TheVariants as frames
use Rattle.rl_events.specs.declared.calls.End.{End}
use Rattle.rl_events.specs.declared.calls.End.TheVariants as ends
use Rattle.rl_actormodel.specs.State as actor
use Rattle.rl_actormodel.specs.State.{put}
use Rattle.rl_actormodel.specs.Ends.{over, over_at, ended_by}
use Rattle.rl_actormodel.specs.Rests.{rested, is_idle, is_quiet}
use Rattle.rl_worldmodel.specs.World.{World, Transport}
use Rattle.rl_worldmodel.specs.Actors.{works, Notices, Rests, deed, done}
use Rattle.rl_worldsessions.specs.Serving.{AreServing}
use Rattle.rl_worldlanes.specs.Following.{AreFronts}
use Rattle.rl_worldlanes.specs.Serving.{IsServed, AllTakeAtMostOne}
use Rattle.rl_worldlanes.proofs.Mute.{IsMute}
use Rattle.rl_worldlanes.proofs.Histories.{none_takes}
use Rattle.rl_worldlanes.proofs.Silence.{same_mute, ended_mute, put_mute, mute_if, IsKnown, known_at, mute_served}

-- A CUT

over_mute : (name : List ℕ) (o : Option End) (why : End) (s : actor.State) → s.waiting ≡ [] → IsMute name s (over_at o why s)
over_mute name None why s empty = ended_mute name why s empty
over_mute name (Some end) why s empty = same_mute name s empty

-- a cut is noticed
pub notices_served : (world : World) (k : ℕ) (t : Transport) → AreServing world → AllByRecursion AreFronts world.transports
    → slice_get world.transports k ≡ Some t → deed world.now t ≡ Notices
    → IsServed world (done k Notices world) t (works (over ends.LinkEnded) t)
notices_served world k t serving fronts found is = by_known (known_at world k t serving fronts found) where
  by_known : IsKnown world t → IsServed world (done k Notices world) t (works (over ends.LinkEnded) t)
  by_known known =
      mute_served world (done k Notices world) (over ends.LinkEnded) t known.fronts refl
      (λ name. over_mute name t.actor.ended ends.LinkEnded t.actor known.serving.flushed)

pub notices_no_event : (world : World) (k : ℕ) → AllTakeAtMostOne world (done k Notices world)
notices_no_event world k = none_takes world (done k Notices world) refl

-- REST

rested_mute : (name : List ℕ) (now : ℕ) (s : actor.State) → s.waiting ≡ [] → IsMute name s (rested now s)
rested_mute name now s empty =
    mute_if name (actor.is_free s) s _ s
    (mute_if name (is_idle now s) s (ended_by (ends.Idle s.last_in now) s) (if is_quiet now s then put frames.Heartbeat now s else s)
    (ended_mute name (ends.Idle s.last_in now) s empty)
    (mute_if name (is_quiet now s) s (put frames.Heartbeat now s) s (put_mute name frames.Heartbeat now s empty refl) (same_mute name s empty)))
    (same_mute name s empty)

-- the actor ends as idle, shows that it is there, or does nothing
pub rests_served : (world : World) (k : ℕ) (t : Transport) → AreServing world → AllByRecursion AreFronts world.transports
    → slice_get world.transports k ≡ Some t → deed world.now t ≡ Rests
    → IsServed world (done k Rests world) t (works (rested world.now) t)
rests_served world k t serving fronts found is = by_known (known_at world k t serving fronts found) where
  by_known : IsKnown world t → IsServed world (done k Rests world) t (works (rested world.now) t)
  by_known known =
      mute_served world (done k Rests world) (rested world.now) t known.fronts refl
      (λ name. rested_mute name world.now t.actor known.serving.flushed)

pub rests_no_event : (world : World) (k : ℕ) → AllTakeAtMostOne world (done k Rests world)
rests_no_event world k = none_takes world (done k Rests world) refl
