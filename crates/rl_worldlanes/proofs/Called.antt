-- An actor's call: by which wish it is answered, and what it leaves of a channel that it doesn't concern.
use Rattle.std.proofs.Common.{◌≡◌, ℕ, Bool, true, false, List, ◌∷◌, refl, sym, ◌∙◌, ap, subst}
use Rattle.std.specs.Prelude.{Option, Some, None, slice_get}
use Rattle.std.specs.List.{AllByRecursion}
use Rattle.rl_types.specs.declared.frames.Frame.{Frame}
use Rattle.rl_events.specs.declared.calls.End.{End}
use Rattle.rl_events.specs.declared.calls.Call.{Call}
use Rattle.rl_events.specs.declared.calls.Reply.{Reply}
use Rattle.rl_actormodel.specs.declared.parts.Wish.{Wish}
use Rattle.rl_actormodel.specs.State as actor
use Rattle.rl_actormodel.specs.Reads.{replied, answered, answered_at, absorbed}
use Rattle.rl_lanes.specs.Lanes.{Setup, Link, Lane}
use Rattle.rl_worldmodel.specs.World.{World, Transport}
use Rattle.rl_worldmodel.specs.Calls.{reply_to, taken_before}
use Rattle.rl_worldmodel.specs.Actors.{put_out_unless, with_call, absorbs, performs}
use Rattle.rl_worldtold.specs.Truth.{Channels}
use Rattle.rl_worldtold.proofs.Shape.{all_at, works_owner, works_cut}
use Rattle.rl_worldsessions.specs.Serving.{IsLastWish, Serves, IsServing, AreServing}
use Rattle.rl_worldlanes.specs.Views.{Sees}
use Rattle.rl_worldlanes.specs.Following.{IsFront, AreFronts, setup_of, past_named}
use Rattle.rl_worldlanes.specs.Serving.{GoesOn, IsServed}
use Rattle.rl_worldlanes.proofs.Mute.{IsMute, mute_sees}
use Rattle.rl_worldlanes.proofs.Elsewhere.{goes_beside, performs_takes}

-- THE ACTOR

-- an actor that wants something else than to tell of the loss is not ended
pub not_over : (channels : Channels) (s : actor.State) → Serves channels s → (IsLastWish s.wish → ⊥) → s.ended ≡ None
not_over channels s serves other = by_end s.ended refl
  where
    by_end : (o : Option End) → s.ended ≡ o → s.ended ≡ None
    by_end None is = is
    by_end (Some why) is = absurd (other (serves.over why is))

-- a reply is absorbed by the wish, where the call is one that is wanted
pub by_wish : (call : Call) (reply : Reply) (now : ℕ) (s : actor.State) (wish : Wish) → s.ended ≡ None → s.wish ≡ wish
    → answered call reply now s ≡ replied s.wish reply now s → absorbed call reply now s ≡ replied wish reply now s
by_wish call reply now s wish free is answers =
    ap (λ (o : Option End). answered_at o call reply now s) free ∙ answers ∙ ap (λ (w : Wish). replied w reply now s) is

-- mute to the same by other words
pub mute_as : (name : List ℕ) (a b c : actor.State) → b ≡ c → IsMute name a c → IsMute name a b
mute_as name a b c same mute = subst (IsMute name a) (sym same) mute

-- THE TRANSPORT

pub serving_at : (world : World) (k : ℕ) (t : Transport) → AreServing world → slice_get world.transports k ≡ Some t → IsServing world.channels t
serving_at world k t serving found = all_at (IsServing world.channels) k t world.transports found serving

pub front_at : (world : World) (k : ℕ) (t : Transport) → AllByRecursion AreFronts world.transports → slice_get world.transports k ≡ Some t
    → IsFront t.to_client
front_at world k t fronts found = (all_at AreFronts k t world.transports found fronts).client

-- the call alone leaves what a channel shows
pub call_sees : (setup : Setup) (call : Call) (world : World) (t : Transport) (link : Link) → Sees setup t link
    → Sees setup (with_call call world t) link
call_sees setup call world t link sees = record { coming = sees.coming; asks = sees.asks; session = sees.session }

put_made : (b : Bool) (frames : List Frame) (t : Transport) → (put_out_unless b frames t).made ≡ t.made
put_made true frames t = refl
put_made false frames t = refl

-- and the call is the latest of those that were made
pub absorbs_made : (call : Call) (world : World) (t : Transport)
    → (absorbs call world t).made ≡ record { call = call; before = taken_before call world } ∷ t.made
absorbs_made call world t =
    put_made t.cut (absorbed call (reply_to call world) world.now t.actor).waiting
    (record (with_call call world t) { actor = absorbed call (reply_to call world) world.now t.actor })

-- A CALL THAT IS MUTE TO A CHANNEL

pub mute_goes : (world : World) (k : ℕ) (t : Transport) (call : Call) → IsFront t.to_client → t.cut ≡ false
    → (name : List ℕ) (lane : Lane) (link : Link) → IsMute name t.actor (absorbed call (reply_to call world) world.now t.actor)
    → lane.past ≡ past_named name world → lane.link ≡ Some link → Sees (setup_of name) t link
    → GoesOn world (performs k call world) (absorbs call world t) name lane
mute_goes world k t call front uncut name lane link mute past has sees =
    goes_beside world (performs k call world) (absorbs call world t) name lane link past (performs_takes world k call name) has
    (mute_sees (setup_of name) (absorbed call (reply_to call world) world.now) (with_call call world t) link uncut front mute
    (call_sees (setup_of name) call world t link sees))

-- a call serves where each lane goes on
pub call_served : (world : World) (k : ℕ) (t : Transport) (call : Call)
    → (t.cut ≡ false → (name : List ℕ) (lane : Lane) (link : Link) → lane.past ≡ past_named name world → lane.link ≡ Some link → Sees (setup_of name) t link
    → GoesOn world (performs k call world) (absorbs call world t) name lane)
    → IsServed world (performs k call world) t (absorbs call world t)
call_served world k t call goes = record {
  owner = works_owner (absorbed call (reply_to call world) world.now) (with_call call world t);
  cut = works_cut (absorbed call (reply_to call world) world.now) (with_call call world t);
  goes_on = goes;
}

-- a call that is mute to all channels serves
pub mute_call_served : (world : World) (k : ℕ) (t : Transport) (call : Call) → IsFront t.to_client
    → ((name : List ℕ) → IsMute name t.actor (absorbed call (reply_to call world) world.now t.actor))
    → IsServed world (performs k call world) t (absorbs call world t)
mute_call_served world k t call front mute =
    call_served world k t call (λ uncut name lane link past has sees. mute_goes world k t call front uncut name lane link (mute name) past has sees)
