-- A Put moves nothing that a transport shows: it is an event for all lanes.
use Rattle.std.proofs.Common.{◌≡◌, ℕ, List, [], refl, sym, ap, subst}
use Rattle.std.specs.Prelude.{Option, Some, None, slice_get}
use Rattle.std.specs.List.{AllByRecursion, filter}
use Rattle.rl_types.specs.declared.messages.Body.{Body}
use Rattle.rl_runs.specs.declared.commands.Hello.{Hello}
use Rattle.rl_events.specs.declared.channel.ChannelEvent.TheVariants.{Put}
use Rattle.rl_events.specs.declared.channel.Verdict.{Verdict}
use Rattle.rl_events.specs.declared.calls.Call.{Call}
use Rattle.rl_events.specs.declared.calls.Call.TheVariants as calls
use Rattle.rl_actormodel.specs.declared.parts.Publish.{Publish}
use Rattle.rl_actormodel.specs.declared.parts.Holder.{Holder}
use Rattle.rl_actormodel.specs.declared.parts.Wish.{Wish}
use Rattle.rl_actormodel.specs.declared.parts.Wish.TheVariants as wishes
use Rattle.rl_actormodel.specs.State as actor
use Rattle.rl_actormodel.specs.Wishes.{wanted, next_call}
use Rattle.rl_actormodel.specs.Replies.{verdict_in}
use Rattle.rl_actormodel.specs.Publishes.{put_by}
use Rattle.rl_actormodel.specs.Reads.{absorbed}
use Rattle.rl_worldmodel.specs.World.{World, Transport}
use Rattle.rl_worldmodel.specs.Calls.{reply_to}
use Rattle.rl_worldmodel.specs.Actors.{absorbs, performs}
use Rattle.rl_worldsessions.specs.Serving.{IsLastWish, AreServing}
use Rattle.rl_worldlanes.specs.Views.{concerns, asks_in_hand}
use Rattle.rl_worldlanes.specs.Following.{AreFronts}
use Rattle.rl_worldlanes.specs.Serving.{IsServed}
use Rattle.rl_worldlanes.proofs.Mute.{IsMute}
use Rattle.rl_worldlanes.proofs.Called.{not_over, by_wish, mute_as, serving_at, front_at, mute_call_served}

-- THE WISH

put_wish : (wish : Wish) (hello : Hello) (now number conn serial : ℕ) (body : Body) (moment : ℕ)
    → wanted wish hello now ≡ Some (calls.Chan number (Put conn serial body moment))
    → (p : Publish) × (holder : Holder) × (n : ℕ) × (wish ≡ wishes.Put p holder n)
put_wish wishes.Nothing hello now number conn serial body moment is = absurd (cc)
put_wish (wishes.Resume key) hello now number conn serial body moment is = absurd (cc)
put_wish wishes.Open hello now number conn serial body moment is = absurd (cc)
put_wish (wishes.Lost holder) hello now number conn serial body moment is = absurd (cc)
put_wish (wishes.Close holder) hello now number conn serial body moment is = absurd (cc)
put_wish (wishes.AskToAttach asked) hello now number conn serial body moment is = absurd (cc)
put_wish (wishes.Join asked n) hello now number conn serial body moment is = absurd (cc)
put_wish (wishes.Begin p holder) hello now number conn serial body moment is = absurd (cc)
put_wish (wishes.AskToPut p holder) hello now number conn serial body moment is = absurd (cc)
put_wish (wishes.Put p holder n) hello now number conn serial body moment is = (p, holder, n, refl)
put_wish (wishes.Finish p holder outcome) hello now number conn serial body moment is = absurd (cc)

last_not_put : (wish : Wish) (p : Publish) (holder : Holder) (number : ℕ) → wish ≡ wishes.Put p holder number → IsLastWish wish → ⊥
last_not_put wish p holder number is last = subst IsLastWish is last

-- WHAT IT LEAVES

by_mute : (name : List ℕ) (p : Publish) (holder : Holder) (number : ℕ) (o : Option Verdict) (s : actor.State) → s.waiting ≡ []
    → s.wish ≡ wishes.Put p holder number → IsMute name s (put_by p holder o s)
by_mute name p holder number (Some verdict) s waits is = record {
  goes = λ on. on;
  asks = λ on. sym (ap (asks_in_hand name) is);
  sessions = λ on. refl;
  none = ap (filter (concerns name)) waits;
}
by_mute name p holder number None s waits is = record { goes = λ on. on; asks = λ on. refl; sessions = λ on. refl; none = ap (filter (concerns name)) waits }

-- a Put serves
pub put_served : (world : World) (k : ℕ) (t : Transport) → AreServing world → AllByRecursion AreFronts world.transports
    → slice_get world.transports k ≡ Some t
    → (number conn serial : ℕ) (body : Body) (now : ℕ) → next_call world.now t.actor ≡ Some (calls.Chan number (Put conn serial body now))
    → IsServed world (performs k (calls.Chan number (Put conn serial body now)) world) t (absorbs (calls.Chan number (Put conn serial body now)) world t)
put_served world k t serving fronts found number conn serial body now wants =
    let w = put_wish t.actor.wish t.actor.hello world.now number conn serial body now wants in
    let h = serving_at world k t serving found in
    let free : t.actor.ended ≡ None = not_over world.channels t.actor h.of_actor (last_not_put t.actor.wish w.0 w.1 w.2 w.3) in
    let call : Call = calls.Chan number (Put conn serial body now) in
    mute_call_served world k t call (front_at world k t fronts found) (λ name.
    mute_as name t.actor (absorbed call (reply_to call world) world.now t.actor) (put_by w.0 w.1 (verdict_in (reply_to call world)) t.actor)
    (by_wish call (reply_to call world) world.now t.actor (wishes.Put w.0 w.1 w.2) free w.3 refl)
    (by_mute name w.0 w.1 w.2 (verdict_in (reply_to call world)) t.actor h.flushed w.3))
