-- Uses of serials: what stays as they become more.
use Rattle.std.proofs.Common.{◌≡◌, ◌⊎◌, inl, inr, ℕ, ◌+◌, ◌<◌, Bool, true, false, List, [], ◌∷◌, length, refl, sym, ◌∙◌, ap, subst, arith}
use Rattle.std.specs.Prelude.{Option, Some, None, if◌then◌else◌}
use Rattle.std.specs.List.{AllByRecursion}
use Rattle.rl_types.specs.declared.frames.Frame.{Frame}
use Rattle.rl_types.specs.declared.frames.Frame.TheVariants as frames
use Rattle.rl_events.specs.declared.channel.ChannelEvent.{ChannelEvent}
use Rattle.rl_events.specs.declared.channel.ChannelEvent.TheVariants.{Put}
use Rattle.rl_ids.specs.Forms.{conn_text}
use Rattle.rl_connbook.proofs.Each.{all_weaker, all_append}
use Rattle.rl_ackq.specs.declared.pending.Pending.{Pending}
use Rattle.rl_ackq.specs.Frames.{with_serial}
use Rattle.rl_ackq.specs.Queue.{Queue, is_full, pushed, pending_as, renumbered, numbered_from}
use Rattle.rl_clientmodel.specs.Hearing.{all_pushed, all_numbered}
use Rattle.rl_actormodel.specs.declared.parts.Holder.{Holder}
use Rattle.rl_actormodel.specs.declared.parts.Wish.{Wish}
use Rattle.rl_actormodel.specs.declared.parts.Wish.TheVariants as wishes
use Rattle.rl_worldmodel.specs.World.{Transport}
use Rattle.rl_worldputs.specs.Uses.{Use, IsUse, IsBy, AreSingle, AreGivenByOne, AreBelow, OnFrame, IsPlain, IsUseOf, IsUseBy, IsSent, IsNumbered, IsWishUsing, IsLinkUsing, IsPutUsing, IsChannelUsing}

-- FRAMES

pub frame_weaker : (P Q : ℕ → List ℕ → Type 0) → ((serial : ℕ) (channel : List ℕ) → P serial channel → Q serial channel) → (frame : Frame) → OnFrame P frame → OnFrame Q frame
frame_weaker P Q so (frames.Message head items) is = λ serial has. so serial head.channel (is serial has)
frame_weaker P Q so (frames.Presence head items) is = λ serial has. so serial head.channel (is serial has)
frame_weaker P Q so (frames.Object head ops) is = λ serial has. so serial head.channel (is serial has)
frame_weaker P Q so frame is = tt

-- a frame without a serial is as any other is to be
pub plain_so : (P : ℕ → List ℕ → Type 0) (list : List Frame) → AllByRecursion IsPlain list → AllByRecursion (OnFrame P) list
plain_so P list all = all_weaker _ _ (frame_weaker (λ serial channel. ⊥) P (λ serial channel none. absurd none)) list all

-- GROWING

-- the uses that were stay, and each new one is of this connection
pub record Grows (uses later : List Use) (id : Option (List ℕ)) : Type 0 where
  pub kept : (i : List ℕ) (serial : ℕ) (channel : List ℕ) → IsUse uses i serial channel → IsUse later i serial channel
  pub by : (i : List ℕ) (serial : ℕ) (giver : List ℕ) → IsBy uses i serial giver → IsBy later i serial giver
  pub only : (i : List ℕ) (serial : ℕ) (channel : List ℕ) → IsUse later i serial channel → (id ≡ Some i) ⊎ IsUse uses i serial channel

pub grows_same : (uses : List Use) (id : Option (List ℕ)) → Grows uses uses id
grows_same uses id = record { kept = λ i serial channel is. is; by = λ i serial giver is. is; only = λ i serial channel is. inr is }

pub grows_then : (uses later last : List Use) (id : Option (List ℕ)) → Grows uses later id → Grows later last id → Grows uses last id
grows_then uses later last id one two = record {
  kept = λ i serial channel is. two.kept i serial channel (one.kept i serial channel is);
  by = λ i serial giver is. two.by i serial giver (one.by i serial giver is);
  only = λ i serial channel is. elim (two.only i serial channel is) [ inl mine ↦ inl mine | inr old ↦ one.only i serial channel old ];
}

module _ (uses later : List Use) (kept : (i : List ℕ) (serial : ℕ) (channel : List ℕ) → IsUse uses i serial channel → IsUse later i serial channel) where
  pub use_of_stays : (id : List ℕ) (frame : Frame) → IsUseOf uses id frame → IsUseOf later id frame
  use_of_stays id frame is = frame_weaker _ _ (kept id) frame is

  by_stays : (holder : Option Holder) (serial : ℕ) (channel : List ℕ) → IsUseBy uses holder serial channel → IsUseBy later holder serial channel
  by_stays None serial channel is = absurd is
  by_stays (Some h) serial channel is = kept (conn_text h.conn) serial channel is

  pub sent_stays : (holder : Option Holder) (frame : Frame) → IsSent uses holder frame → IsSent later holder frame
  sent_stays holder frame is = frame_weaker _ _ (by_stays holder) frame is

  wish_stays : (names : List (List ℕ)) (wish : Wish) → IsWishUsing uses names wish → IsWishUsing later names wish
  wish_stays names (wishes.Begin p h) is = kept (conn_text h.conn) p.serial p.channel is
  wish_stays names (wishes.AskToPut p h) is = kept (conn_text h.conn) p.serial p.channel is
  wish_stays names (wishes.Put p h number) is = (kept (conn_text h.conn) p.serial p.channel is.0, is.1)
  wish_stays names wish is = tt

  pub link_stays : (names : List (List ℕ)) (t : Transport) → IsLinkUsing uses names t → IsLinkUsing later names t
  link_stays names t is = record {
    of_actor = record { wishing = wish_stays names t.actor.wish is.of_actor.wishing; known = is.of_actor.known };
    sent = all_weaker _ _ (sent_stays t.actor.holder) t.to_service.put is.sent;
  }

  put_stays : (name : List ℕ) (event : ChannelEvent) → IsPutUsing uses name event → IsPutUsing later name event
  put_stays name (Put conn serial body now) is = (kept (conn_text conn) serial name is.0, is.1)
  put_stays name event is = tt

  pub channel_stays : (c : List ℕ × List ChannelEvent) → IsChannelUsing uses c → IsChannelUsing later c
  channel_stays c is = all_weaker _ _ (put_stays c.0) c.1 is

-- ONE MORE

-- the channel of a frame that is acknowledged
abbrev channel_in : Frame → List ℕ
channel_in (frames.Message head items) = head.channel
channel_in (frames.Presence head items) = head.channel
channel_in (frames.Object head ops) = head.channel
channel_in frame = []

abbrev use_as : List ℕ → List ℕ → ℕ → Frame → Use
use_as name id serial frame = record { id = id; serial = serial; channel = channel_in frame; giver = name }

grows_one : (uses : List Use) (name id : List ℕ) (serial : ℕ) (frame : Frame) → Grows uses (use_as name id serial frame ∷ uses) (Some id)
grows_one uses name id serial frame = record {
  kept = λ i s channel is. inr is;
  by = λ i s giver is. inr is;
  only = λ i s channel is. elim is [ inl this ↦ inl (ap (λ (x : List ℕ). Some x) this.0) | inr old ↦ inr old ];
}

single_one : (uses : List Use) (name id : List ℕ) (serial : ℕ) (frame : Frame) → AreBelow uses id serial → AreSingle uses → AreSingle (use_as name id serial frame ∷ uses)
single_one uses name id serial frame below single i s one two (inl a) (inl b) = sym a.2 ∙ b.2
single_one uses name id serial frame below single i s one two (inl a) (inr b) =
    let small : s < serial = below s two (subst (λ (x : List ℕ). IsUse uses x s two) (sym a.0) b) in
    let same : serial ≡ s = a.1 in absurd (omega (arith, small, same))
single_one uses name id serial frame below single i s one two (inr a) (inl b) =
    let small : s < serial = below s one (subst (λ (x : List ℕ). IsUse uses x s one) (sym b.0) a) in
    let same : serial ≡ s = b.1 in absurd (omega (arith, small, same))
single_one uses name id serial frame below single i s one two (inr a) (inr b) = single i s one two a b

below_one : (uses : List Use) (name id : List ℕ) (serial : ℕ) (frame : Frame) → AreBelow uses id serial → AreBelow (use_as name id serial frame ∷ uses) id (serial + 1)
below_one uses name id serial frame below s channel (inl a) = let same : serial ≡ s = a.1 in omega (arith, same)
below_one uses name id serial frame below s channel (inr b) = let small : s < serial = below s channel b in omega (arith, small)

head_this : (uses : List Use) (name id : List ℕ) (n serial : ℕ) (channel : List ℕ) → Some n ≡ Some serial → IsUse (record { id = id; serial = n; channel = channel; giver = name } ∷ uses) id serial channel
head_this uses name id n serial channel has = let same : n ≡ serial = cc in inl (refl, same, refl)

-- the frame with this serial is the new use
frame_one : (uses : List Use) (name id : List ℕ) (serial : ℕ) (frame : Frame) → IsUseOf (use_as name id serial frame ∷ uses) id (with_serial serial frame)
frame_one uses name id serial (frames.Message head items) = λ s has. head_this uses name id serial s head.channel has
frame_one uses name id serial (frames.Presence head items) = λ s has. head_this uses name id serial s head.channel has
frame_one uses name id serial (frames.Object head ops) = λ s has. head_this uses name id serial s head.channel has
frame_one uses name id serial frame = tt

by_use : (uses : List Use) (id : List ℕ) (serial : ℕ) (giver : List ℕ) → IsBy uses id serial giver → (channel : List ℕ) × IsUse uses id serial channel
by_use [] id serial giver is = absurd is
by_use (u ∷ uses) id serial giver (inl is) = (u.channel, inl (is.0, is.1, refl))
by_use (u ∷ uses) id serial giver (inr is) = let r = by_use uses id serial giver is in (r.0, inr r.1)

givers_one : (uses : List Use) (name id : List ℕ) (serial : ℕ) (frame : Frame) → AreBelow uses id serial → AreGivenByOne uses → AreGivenByOne (use_as name id serial frame ∷ uses)
givers_one uses name id serial frame below givers i s one two (inl a) (inl b) = sym a.2 ∙ b.2
givers_one uses name id serial frame below givers i s one two (inl a) (inr b) =
    let r = by_use uses i s two b in
    let small : s < serial = below s r.0 (subst (λ (x : List ℕ). IsUse uses x s r.0) (sym a.0) r.1) in
    let same : serial ≡ s = a.1 in absurd (omega (arith, small, same))
givers_one uses name id serial frame below givers i s one two (inr a) (inl b) =
    let r = by_use uses i s one a in
    let small : s < serial = below s r.0 (subst (λ (x : List ℕ). IsUse uses x s r.0) (sym b.0) r.1) in
    let same : serial ≡ s = b.1 in absurd (omega (arith, small, same))
givers_one uses name id serial frame below givers i s one two (inr a) (inr b) = givers i s one two a b

-- FRAMES THAT ARE QUEUED

-- what a queue becomes with these frames sent
pub record Pushes (uses : List Use) (name : List ℕ) (id : List ℕ) (queue : Queue) (list : List Frame) : Type 0 where
  pub later : List Use
  pub grown : Grows uses later (Some id)
  pub single : AreSingle later
  pub givers : AreGivenByOne later
  pub numbered : IsNumbered later id name queue
  pub sent : AllByRecursion (IsUseOf later id) list

pub push_one : (uses : List Use) (name id : List ℕ) (queue : Queue) (frame : Frame) → AreSingle uses → AreGivenByOne uses → IsNumbered uses id name queue → Pushes uses name id (pushed frame queue) (with_serial queue.next frame ∷ [])
push_one uses name id queue frame single givers h =
    let here : IsUseOf (use_as name id queue.next frame ∷ uses) id (with_serial queue.next frame) = frame_one uses name id queue.next frame in
    record {
      later = use_as name id queue.next frame ∷ uses;
      grown = grows_one uses name id queue.next frame;
      single = single_one uses name id queue.next frame h.below single;
      givers = givers_one uses name id queue.next frame h.below givers;
      numbered = record {
        below = below_one uses name id queue.next frame h.below;
        waiting = all_append _ queue.pending (pending_as queue.next frame ∷ [])
            (all_weaker _ _ (λ one is. (use_of_stays uses (use_as name id queue.next frame ∷ uses) (grows_one uses name id queue.next frame).kept id one.frame is.0, inr is.1)) queue.pending h.waiting) ((here, inl (refl, refl, refl)), tt);
      };
      sent = (here, tt);
    }

pushes_by : (uses : List Use) (name id : List ℕ) (b : Bool) (x y : Queue) (one two : List Frame) → Pushes uses name id x one → Pushes uses name id y two → Pushes uses name id (if b then x else y) (if b then one else two)
pushes_by uses name id true x y one two p q = p
pushes_by uses name id false x y one two p q = q

pushes_then : (uses : List Use) (name id : List ℕ) (queue last : Queue) (frame : Frame) (list : List Frame) (p : Pushes uses name id queue (frame ∷ [])) → Pushes p.later name id last list → Pushes uses name id last (frame ∷ list)
pushes_then uses name id queue last frame list p q = record {
  later = q.later;
  grown = grows_then uses p.later q.later (Some id) p.grown q.grown;
  single = q.single;
  givers = q.givers;
  numbered = q.numbered;
  sent = (use_of_stays p.later q.later q.grown.kept id frame p.sent.0, q.sent);
}

pub push_all : (list : List Frame) (uses : List Use) (name id : List ℕ) (queue : Queue) → AreSingle uses → AreGivenByOne uses → IsNumbered uses id name queue → Pushes uses name id (all_pushed list queue) (all_numbered list queue)
push_all [] uses name id queue single givers h = record { later = uses; grown = grows_same uses (Some id); single = single; givers = givers; numbered = h; sent = tt }
push_all (frame ∷ list) uses name id queue single givers h =
    let p = push_one uses name id queue frame single givers h in
    pushes_by uses name id (is_full queue) (all_pushed list queue) (all_pushed list (pushed frame queue)) (all_numbered list queue) (with_serial queue.next frame ∷ all_numbered list (pushed frame queue))
    (push_all list uses name id queue single givers h)
    (pushes_then uses name id (pushed frame queue) (all_pushed list (pushed frame queue)) (with_serial queue.next frame) (all_numbered list (pushed frame queue)) p
    (push_all list p.later name id (pushed frame queue) p.single p.givers p.numbered))

-- FRAMES THAT ARE NUMBERED ANEW

number_all : (waiting : List Pending) (uses : List Use) (name id : List ℕ) (serial : ℕ) → AreSingle uses → AreGivenByOne uses → AreBelow uses id serial → Pushes uses name id (record { pending = numbered_from serial waiting; next = serial + length waiting }) []
number_all [] uses name id serial single givers below = record {
  later = uses;
  grown = grows_same uses (Some id);
  single = single;
  givers = givers;
  numbered = record { below = λ s channel is. let small : s < serial = below s channel is in omega (arith, small); waiting = tt };
  sent = tt;
}
number_all (one ∷ rest) uses name id serial single givers below =
    let q = number_all rest (use_as name id serial one.frame ∷ uses) name id (serial + 1) (single_one uses name id serial one.frame below single) (givers_one uses name id serial one.frame below givers) (below_one uses name id serial one.frame below) in
    record {
      later = q.later;
      grown = grows_then uses (use_as name id serial one.frame ∷ uses) q.later (Some id) (grows_one uses name id serial one.frame) q.grown;
      single = q.single;
      givers = q.givers;
      numbered = record {
        below = λ s channel is. let small : s < serial + 1 + length rest = q.numbered.below s channel is in omega (arith, small);
        waiting = ((use_of_stays (use_as name id serial one.frame ∷ uses) q.later q.grown.kept id (with_serial serial one.frame) (frame_one uses name id serial one.frame), q.grown.by id serial name (inl (refl, refl, refl))), q.numbered.waiting);
      };
      sent = tt;
    }

-- of a connection without uses
pub renumber : (uses : List Use) (name id : List ℕ) (queue : Queue) → AreSingle uses → AreGivenByOne uses → AreBelow uses id 0 → Pushes uses name id (renumbered queue) []
renumber uses name id queue single givers below =
    let q = number_all queue.pending uses name id 0 single givers below in
    record {
      later = q.later;
      grown = q.grown;
      single = q.single;
      givers = q.givers;
      numbered = record { below = λ s channel is. let small : s < 0 + length queue.pending = q.numbered.below s channel is in omega (arith, small); waiting = q.numbered.waiting };
      sent = tt;
    }
