-- Refusals are of what channels decided, or of channels that a full directory has not: each action keeps it.
use Rattle.std.proofs.Common.{◌≡◌, inl, inr, ℕ, zero, suc, Bool, true, false, List, [], ◌∷◌, ◌++◌, refl, sym, ◌∙◌, ap, subst}
use Rattle.std.specs.Prelude.{Option, Some, None, slice_get, take}
use Rattle.std.specs.List.{AllByRecursion}
use Rattle.rl_types.specs.declared.frames.Frame.{Frame}
use Rattle.rl_events.specs.declared.book.BookEvent.{BookEvent}
use Rattle.rl_events.specs.declared.book.BookEvent.TheVariants as events
use Rattle.rl_connbook.proofs.Each.{all_weaker}
use Rattle.rl_directory.specs.Directory.{number_of}
use Rattle.rl_actormodel.specs.declared.parts.Publish.{Publish}
use Rattle.rl_actormodel.specs.declared.parts.Holder.{Holder}
use Rattle.rl_actormodel.specs.declared.parts.Wish.{Wish}
use Rattle.rl_actormodel.specs.declared.parts.Wish.TheVariants as wishes
use Rattle.rl_actormodel.specs.State as actor
use Rattle.rl_worldmodel.specs.World.{World, Transport, Way, changed_at}
use Rattle.rl_worldmodel.specs.Actors.{put_out_unless, works}
use Rattle.rl_worldtold.specs.Truth.{names_of}
use Rattle.rl_worldtold.proofs.Shape.{works_actor}
use Rattle.rl_types.specs.declared.frames.Frame.TheVariants as frames
use Rattle.rl_worldputs.proofs.Serving.{IsSameOrFirst, works_holder}
use Rattle.rl_worldputs.proofs.Serving.{works_service}
use Rattle.rl_events.specs.declared.channel.Outcome.{Outcome}
use Rattle.rl_events.specs.declared.channel.Outcome.TheVariants.{Taken, Refused}
use Rattle.rl_connbook.specs.Laws.{SomeOf}
use Rattle.rl_connbook.proofs.Each.{all_append}
use Rattle.rl_directory.specs.Directory.{is_full}
use Rattle.rl_worldtold.specs.Told.{IsRefused}
use Rattle.rl_worldtold.specs.Truth.{Decides, OnHolder}
use Rattle.rl_worldputs.specs.Refusals.{IsOf, HasTaken, IsTakenUp, IsRefusal, IsWishSo, IsFrameSo, IsEndSo, IsActorSo, IsLinkSo}
use Rattle.rl_worldputs.proofs.Refusing.{frame_held}

-- WHAT IS SO STAYS SO

module _ (R Q : ℕ → ℕ → ℕ → Type 0) (G H : ℕ → ℕ → List ℕ → Type 0) (so : (conn serial code : ℕ) → R conn serial code → Q conn serial code) (got : (conn serial : ℕ) (channel : List ℕ) → G conn serial channel → H conn serial channel) where
  finish_stays : (p : Publish) (h : Holder) (o : Option Outcome) → IsWishSo R G (wishes.Finish p h o) → IsWishSo Q H (wishes.Finish p h o)
  finish_stays p h None is = tt
  finish_stays p h (Some (Taken place)) is = tt
  finish_stays p h (Some (Refused code)) is = so h.conn p.serial code is

  pub wish_stays : (wish : Wish) → IsWishSo R G wish → IsWishSo Q H wish
  wish_stays (wishes.Begin p h) is = got h.conn p.serial p.channel is
  wish_stays (wishes.AskToPut p h) is = got h.conn p.serial p.channel is
  wish_stays (wishes.Finish p h o) is = finish_stays p h o is
  wish_stays wish is = tt

  on_stays : (holder : Option Holder) (serial code : ℕ) → OnHolder holder (λ h. R h.conn serial code) → OnHolder holder (λ h. Q h.conn serial code)
  on_stays None serial code is = absurd is
  on_stays (Some h) serial code is = so h.conn serial code is

  frame_stays : (holder : Option Holder) (frame : Frame) → IsFrameSo R holder frame → IsFrameSo Q holder frame
  frame_stays holder (frames.Nack serial count code) is = on_stays holder serial code is
  frame_stays holder frame is = tt

  outcome_stays : (conn generation serial : ℕ) (o : Option Outcome) → IsEndSo R (events.End conn generation serial o) → IsEndSo Q (events.End conn generation serial o)
  outcome_stays conn generation serial None is = tt
  outcome_stays conn generation serial (Some (Taken place)) is = tt
  outcome_stays conn generation serial (Some (Refused code)) is = so conn serial code is

  pub end_stays : (event : BookEvent) → IsEndSo R event → IsEndSo Q event
  end_stays (events.End conn generation serial o) is = outcome_stays conn generation serial o is
  end_stays event is = tt

  pub link_stays_so : (t : Transport) → IsLinkSo R G t → IsLinkSo Q H t
  link_stays_so t h = record {
    of_actor = record { wishing = wish_stays t.actor.wish h.of_actor.wishing; out = all_weaker _ _ (frame_stays t.actor.holder) t.actor.waiting h.of_actor.out };
    on_way = all_weaker _ _ (frame_stays t.actor.holder) t.to_client.put h.on_way;
  }

-- from one world to the next
pub record Lasts (world after : World) : Type 0 where
  pub so : (conn serial code : ℕ) → IsRefusal world.channels world.transports conn serial code → IsRefusal after.channels after.transports conn serial code
  pub got : (conn serial : ℕ) (channel : List ℕ) → IsTakenUp world.transports conn serial channel → IsTakenUp after.transports conn serial channel

pub lasts : (world after : World) → ((conn serial code : ℕ) → Decides world.channels conn serial (IsRefused code) → Decides after.channels conn serial (IsRefused code)) → (is_full (names_of world.channels) ≡ true → names_of after.channels ≡ names_of world.channels)
    → ((conn serial : ℕ) (channel : List ℕ) → IsTakenUp world.transports conn serial channel → IsTakenUp after.transports conn serial channel) → Lasts world after
lasts world after decides full got = record {
  so = λ conn serial code is. elim is [
    | inl decided ↦ inl (decides conn serial code decided)
    | inr out ↦ inr (record {
      channel = out.channel;
      full = ap is_full (full out.full) ∙ out.full;
      none = ap (number_of out.channel) (full out.full) ∙ out.none;
      taken = got conn serial out.channel out.taken;
    })
  ];
  got = got;
}

-- FRAMES THAT WERE TAKEN UP

module _ {X : Type 0} where
  pub some_at : (P : X → Type 0) (k : ℕ) (f : X → X) (xs : List X) → ((x : X) → slice_get xs k ≡ Some x → P x → P (f x)) → SomeOf P xs → SomeOf P (changed_at k f xs)
  some_at P k f [] step some = absurd some
  some_at P zero f (x ∷ xs) step (inl p) = inl (step x refl p)
  some_at P zero f (x ∷ xs) step (inr some) = inr some
  some_at P (suc k) f (x ∷ xs) step (inl p) = inl p
  some_at P (suc k) f (x ∷ xs) step (inr some) = inr (some_at P k f xs step some)

  pub some_take_more : (P : X → Type 0) (n : ℕ) (xs ys : List X) → SomeOf P (take n xs) → SomeOf P (take n (xs ++ ys))
  some_take_more P zero xs ys some = absurd some
  some_take_more P (suc n) [] ys some = absurd some
  some_take_more P (suc n) (x ∷ xs) ys (inl p) = inl p
  some_take_more P (suc n) (x ∷ xs) ys (inr some) = inr (some_take_more P n xs ys some)

  pub some_take_twice : (P : X → Type 0) (n : ℕ) (xs : List X) → SomeOf P (take n xs) → SomeOf P (take n (take n xs))
  some_take_twice P zero xs some = absurd some
  some_take_twice P (suc n) [] some = absurd some
  some_take_twice P (suc n) (x ∷ xs) (inl p) = inl p
  some_take_twice P (suc n) (x ∷ xs) (inr some) = inr (some_take_twice P n xs some)

  pub some_take_next : (P : X → Type 0) (n : ℕ) (xs : List X) → SomeOf P (take n xs) → SomeOf P (take (suc n) xs)
  some_take_next P zero xs some = absurd some
  some_take_next P (suc n) [] some = absurd some
  some_take_next P (suc n) (x ∷ xs) (inl p) = inl p
  some_take_next P (suc n) (x ∷ xs) (inr some) = inr (some_take_next P n xs some)

  -- the one that is got
  pub some_take_new : (P : X → Type 0) (n : ℕ) (x : X) (xs : List X) → slice_get xs n ≡ Some x → P x → SomeOf P (take (suc n) xs)
  some_take_new P n x [] found p = absurd (cc)
  some_take_new P zero x (y ∷ xs) found p = let same : y ≡ x = cc in inl (subst P (sym same) p)
  some_take_new P (suc n) x (y ∷ xs) found p = inr (some_take_new P n x xs found p)

held_first : (before after : Option Holder) (conn : ℕ) → IsSameOrFirst before after → OnHolder before (λ h. h.conn ≡ conn) → OnHolder after (λ h. h.conn ≡ conn)
held_first before after conn (inl none) is = absurd (subst (λ (o : Option Holder). OnHolder o (λ h. h.conn ≡ conn)) none is)
held_first before after conn (inr same) is = subst (λ (o : Option Holder). OnHolder o (λ h. h.conn ≡ conn)) (sym same) is

-- an actor that works has taken up what it had
pub works_taken : (act : actor.State → actor.State) (t : Transport) (conn serial : ℕ) (channel : List ℕ) → IsSameOrFirst t.actor.holder (act t.actor).holder → HasTaken conn serial channel t → HasTaken conn serial channel (works act t)
works_taken act t conn serial channel holds is = (
  subst (λ (o : Option Holder). OnHolder o (λ h. h.conn ≡ conn)) (sym (works_holder act t)) (held_first t.actor.holder (act t.actor).holder conn holds is.0),
  subst (λ (way : Way). SomeOf (IsOf serial channel) (take way.got way.put)) (sym (works_service act t)) is.1,
)

-- WHAT AN ACTOR PUTS OUT

out_way : (R : ℕ → ℕ → ℕ → Type 0) (holder : Option Holder) (cut : Bool) (list : List Frame) (t : Transport) → AllByRecursion (IsFrameSo R holder) t.to_client.put → AllByRecursion (IsFrameSo R holder) list → AllByRecursion (IsFrameSo R holder) (put_out_unless cut list t).to_client.put
out_way R holder true list t all more = all
out_way R holder false list t all more = all_append _ t.to_client.put list all more

pub works_so : (R : ℕ → ℕ → ℕ → Type 0) (G : ℕ → ℕ → List ℕ → Type 0) (act : actor.State → actor.State) (t : Transport) → IsSameOrFirst t.actor.holder (act t.actor).holder → IsActorSo R G (act t.actor) → AllByRecursion (IsFrameSo R t.actor.holder) t.to_client.put → IsLinkSo R G (works act t)
works_so R G act t holds good on_way = record {
  of_actor = subst (IsActorSo R G) (sym (works_actor act t)) (record { wishing = good.wishing; out = tt });
  on_way = subst (λ (o : Option Holder). AllByRecursion (IsFrameSo R o) (works act t).to_client.put) (sym (works_holder act t))
      (out_way R (act t.actor).holder t.cut (act t.actor).waiting (record t { actor = act t.actor })
      (all_weaker _ _ (frame_held R G t.actor.holder (act t.actor).holder holds) t.to_client.put on_way) good.out);
}
