-- What the service does lets a world grow, and leaves owners and clients as they are.
use Rattle.std.proofs.Common.{◌≡◌, inl, inr, ℕ, append_assoc, Bool, true, false, List, [], ◌∷◌, ◌++◌, refl, sym, ◌∙◌, ap}
use Rattle.std.specs.Prelude.{Some, slice_get}
use Rattle.rl_types.specs.declared.frames.Frame.{Frame}
use Rattle.rl_events.specs.declared.channel.ChannelEvent.{ChannelEvent}
use Rattle.rl_events.specs.declared.calls.Call.{Call}
use Rattle.rl_actormodel.specs.State as actor
use Rattle.rl_worldmodel.specs.World.{World, Transport, changed_at, with_one_got, latest, last_of, owned}
use Rattle.rl_actormodel.specs.Takes.{took}
use Rattle.rl_actormodel.specs.Reads.{absorbed}
use Rattle.rl_worldmodel.specs.Calls.{reply_to, taken_before}
use Rattle.rl_worldmodel.specs.Actors.{put_out_unless, works, with_call, absorbs, arrives, takes_up}
use Rattle.rl_worldtold.proofs.Shape.{owned_changed, works_owner}
use Rattle.rl_worldsessions.proofs.Growth.{Grown}
use Rattle.rl_worldlanes.specs.Following.{past_named, AreFronts}
use Rattle.rl_worldlanes.specs.Serving.{TakesAtMostOne, AllTakeAtMostOne}
use Rattle.rl_worldlanes.specs.Growing.{MakesMore, MakeMore, HasMore, Grows}
use Rattle.rl_worldlanes.proofs.Ways.{get_within, put_within}

-- GROWTH

takes_more : (past after : List ChannelEvent) → TakesAtMostOne past after → HasMore past after
takes_more past after (inl same) = record { more = []; is = same }
takes_more past after (inr one) = record { more = one.0 ∷ []; is = one.1 }

pub grows_by : (world after : World) → AllTakeAtMostOne world after → Grown world.channels after.channels → MakeMore world.transports after.transports → Grows world after
grows_by world after takes grown makes = record {
  has = λ name number is. grown.has name number is;
  past = λ name. takes_more (past_named name world) (past_named name after) (takes name);
  made = makes;
}

-- WHAT AN ACTOR'S WORK LEAVES OF ITS TRANSPORT

out_made : (b : Bool) (frames : List Frame) (t : Transport) → (put_out_unless b frames t).made ≡ t.made
out_made true frames t = refl
out_made false frames t = refl

pub works_makes : (act : actor.State → actor.State) (t : Transport) → MakesMore t (works act t)
works_makes act t = record {
  owner = works_owner act t;
  more = [];
  made = out_made t.cut (act t.actor).waiting (record t { actor = act t.actor });
}

pub takes_up_makes : (frame : Frame) (now : ℕ) (t : Transport) → MakesMore t (takes_up frame now t)
takes_up_makes frame now t = of_work (works_makes (took (arrives frame) now) (record t { to_service = with_one_got t.to_service })) where
  of_work : MakesMore (record t { to_service = with_one_got t.to_service }) (takes_up frame now t) → MakesMore t (takes_up frame now t)
  of_work h = record { owner = h.owner; more = h.more; made = h.made }

pub absorbs_makes : (call : Call) (world : World) (t : Transport) → MakesMore t (absorbs call world t)
absorbs_makes call world t = of_work (works_makes (absorbed call (reply_to call world) world.now) (with_call call world t)) where
  of_work : MakesMore (with_call call world t) (absorbs call world t) → MakesMore t (absorbs call world t)
  of_work h = record {
    owner = h.owner;
    more = h.more ++ record { call = call; before = taken_before call world } ∷ [];
    made = h.made ∙ sym (append_assoc h.more (record { call = call; before = taken_before call world } ∷ []) t.made);
  }

-- FRONTS

out_fronts : (b : Bool) (frames : List Frame) (t : Transport) → AreFronts t → AreFronts (put_out_unless b frames t)
out_fronts true frames t h = h
out_fronts false frames t h = record { service = h.service; client = put_within t.to_client.got t.to_client.put frames h.client }

pub works_fronts : (act : actor.State → actor.State) (t : Transport) → AreFronts t → AreFronts (works act t)
works_fronts act t h = of_out (out_fronts t.cut (act t.actor).waiting (record t { actor = act t.actor }) (record { service = h.service; client = h.client })) where
  of_out : AreFronts (put_out_unless t.cut (act t.actor).waiting (record t { actor = act t.actor })) → AreFronts (works act t)
  of_out h = record { service = h.service; client = h.client }

pub takes_up_fronts : (frame : Frame) (now : ℕ) (t : Transport) → slice_get t.to_service.put t.to_service.got ≡ Some frame → AreFronts t → AreFronts (takes_up frame now t)
takes_up_fronts frame now t next h =
    works_fronts (took (arrives frame) now) (record t { to_service = with_one_got t.to_service }) (record { service = get_within t.to_service.got t.to_service.put frame next; client = h.client })

pub absorbs_fronts : (call : Call) (world : World) (t : Transport) → AreFronts t → AreFronts (absorbs call world t)
absorbs_fronts call world t h = works_fronts (absorbed call (reply_to call world) world.now) (with_call call world t) (record { service = h.service; client = h.client })

-- OWNERS

pub owners_stay : (owner : List ℕ) (k : ℕ) (f : Transport → Transport) (world after : World) → ((t : Transport) → MakesMore t (f t)) → after.transports ≡ changed_at k f world.transports → latest owner after ≡ latest owner world
owners_stay owner k f world after makes same =
    ap (λ (ts : List Transport). last_of (owned owner 0 ts)) same ∙ ap last_of (owned_changed owner 0 k f (λ t. (makes t).owner) world.transports)
