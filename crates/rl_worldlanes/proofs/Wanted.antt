-- Each call that an actor wants serves, where those of the book do.
use Rattle.std.proofs.Common.{◌≡◌, ℕ, subst}
use Rattle.std.specs.Prelude.{Some, slice_get, ⊤}
use Rattle.std.specs.List.{AllByRecursion}
use Rattle.rl_runs.specs.declared.commands.Hello.{Hello}
use Rattle.rl_events.specs.declared.book.BookEvent.{BookEvent}
use Rattle.rl_events.specs.declared.book.BookEvent.TheVariants as events
use Rattle.rl_events.specs.declared.channel.ChannelEvent.TheVariants.{Put, Join}
use Rattle.rl_events.specs.declared.calls.Call.{Call}
use Rattle.rl_events.specs.declared.calls.Call.TheVariants as calls
use Rattle.rl_events.specs.declared.calls.DirEvent.TheVariants.{Ask, Names}
use Rattle.rl_actormodel.specs.declared.parts.Wish.{Wish}
use Rattle.rl_actormodel.specs.declared.parts.Wish.TheVariants as wishes
use Rattle.rl_actormodel.specs.Wishes.{wanted, next_call}
use Rattle.rl_worldmodel.specs.World.{World, Transport}
use Rattle.rl_worldmodel.specs.Actors.{absorbs, performs}
use Rattle.rl_worldsessions.specs.Serving.{AreServing}
use Rattle.rl_worldlanes.specs.Following.{AreFronts}
use Rattle.rl_worldlanes.specs.Serving.{IsServed}
use Rattle.rl_worldlanes.proofs.Joins.{join_served}
use Rattle.rl_worldlanes.proofs.Puts.{put_served}
use Rattle.rl_worldlanes.proofs.Numbering.{ask_served}

-- the calls of wishes
abbrev pub IsOfWish : Call → Type 0
IsOfWish (calls.Book event) = ⊤
IsOfWish (calls.Dir (Ask name)) = ⊤
IsOfWish (calls.Dir Names) = ⊥
IsOfWish (calls.Chan number (Join given)) = ⊤
IsOfWish (calls.Chan number (Put conn serial body now)) = ⊤
IsOfWish (calls.Chan number event) = ⊥

-- no wish wants another
pub of_wish : (wish : Wish) (hello : Hello) (now : ℕ) (call : Call) → wanted wish hello now ≡ Some call → IsOfWish call
of_wish wishes.Nothing hello now call is = absurd (cc)
of_wish (wishes.Resume key) hello now call is = let same : calls.Book (events.Resume key now) ≡ call = cc in subst IsOfWish same tt
of_wish wishes.Open hello now call is = let same : calls.Book (events.Open hello.word now) ≡ call = cc in subst IsOfWish same tt
of_wish (wishes.Lost holder) hello now call is = let same : calls.Book (events.Lost holder.conn holder.generation now) ≡ call = cc in subst IsOfWish same tt
of_wish (wishes.Close holder) hello now call is = let same : calls.Book (events.Close holder.conn holder.generation) ≡ call = cc in subst IsOfWish same tt
of_wish (wishes.AskToAttach asked) hello now call is = let same : calls.Dir (Ask asked.channel) ≡ call = cc in subst IsOfWish same tt
of_wish (wishes.Join asked number) hello now call is = let same : calls.Chan number (Join asked.serial) ≡ call = cc in subst IsOfWish same tt
of_wish (wishes.Begin p holder) hello now call is = let same : calls.Book (events.Begin holder.conn holder.generation p.serial) ≡ call = cc in subst IsOfWish same tt
of_wish (wishes.AskToPut p holder) hello now call is = let same : calls.Dir (Ask p.channel) ≡ call = cc in subst IsOfWish same tt
of_wish (wishes.Put p holder number) hello now call is = let same : calls.Chan number (Put holder.conn p.serial p.body now) ≡ call = cc in subst IsOfWish same tt
of_wish (wishes.Finish p holder outcome) hello now call is = let same : calls.Book (events.End holder.conn holder.generation p.serial outcome) ≡ call = cc in subst IsOfWish same tt

module _ (world : World) (k : ℕ) (t : Transport) (serving : AreServing world) (fronts : AllByRecursion AreFronts world.transports)
    (found : slice_get world.transports k ≡ Some t)
    (of_book : (event : BookEvent) → next_call world.now t.actor ≡ Some (calls.Book event)
    → IsServed world (performs k (calls.Book event) world) t (absorbs (calls.Book event) world t)) where
  by_call : (call : Call) → IsOfWish call → next_call world.now t.actor ≡ Some call
      → IsServed world (performs k call world) t (absorbs call world t)
  by_call (calls.Book event) is wants = of_book event wants
  by_call (calls.Dir (Ask name)) is wants = ask_served world k t serving fronts found name wants
  by_call (calls.Dir Names) is wants = absurd is
  by_call (calls.Chan number (Join given)) is wants = join_served world k t serving fronts found number given wants
  by_call (calls.Chan number (Put conn serial body now)) is wants = put_served world k t serving fronts found number conn serial body now wants
  by_call (calls.Chan number event) is wants = absurd is

  -- each call that is wanted serves
  pub wanted_served : (call : Call) → next_call world.now t.actor ≡ Some call → IsServed world (performs k call world) t (absorbs call world t)
  wanted_served call wants = by_call call (of_wish t.actor.wish t.actor.hello world.now call wants) wants
