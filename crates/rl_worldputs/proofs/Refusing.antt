-- What an actor refuses and acknowledges so: each of its steps keeps it.
use Rattle.std.proofs.Common.{◌≡◌, inl, inr, ℕ, Bool, true, false, List, [], ◌∷◌, ◌++◌, length, map, refl, sym, ap, subst}
use Rattle.std.specs.Prelude.{Option, Some, None, if◌then◌else◌, ⊤, option_to_list}
use Rattle.std.specs.List.{AllByRecursion}
use Rattle.rl_types.specs.declared.frames.Frame.{Frame}
use Rattle.rl_types.specs.declared.frames.Frame.TheVariants as frames
use Rattle.rl_types.specs.declared.frames.Head.{Head}
use Rattle.rl_types.specs.declared.messages.Body.{Body}
use Rattle.rl_events.specs.declared.channel.ChannelReply.{ChannelReply}
use Rattle.rl_events.specs.declared.channel.Outcome.{Outcome}
use Rattle.rl_events.specs.declared.channel.Outcome.TheVariants.{Taken, Refused}
use Rattle.rl_types.specs.declared.messages.Body.TheVariants.{Messages, Presence, Objects}
use Rattle.rl_types.specs.declared.messages.Entry.{Entry}
use Rattle.rl_numbers.specs.declared.codes.TheConstants.{CHANNEL_LIMIT}
use Rattle.rl_connbook.proofs.Each.{all_weaker, all_append}
use Rattle.rl_actormodel.specs.Ends.{farewell}
use Rattle.rl_actormodel.specs.State.{put}
use Rattle.rl_actormodel.specs.Connects.{connected}
use Rattle.rl_actormodel.specs.Replies.{outcome_of}
use Rattle.rl_events.specs.declared.channel.Verdict.TheVariants.{Done, Old}
use Rattle.rl_events.specs.declared.channel.Verdict.{Verdict}
use Rattle.rl_events.specs.declared.calls.End.{End}
use Rattle.rl_events.specs.declared.calls.End.TheVariants as ends
use Rattle.rl_events.specs.declared.calls.Call.{Call}
use Rattle.rl_events.specs.declared.calls.Reply.{Reply}
use Rattle.rl_names.specs.Names.{at, with_entry}
use Rattle.rl_pages.specs.State.{Sequences, page_frame, page_absorbed, may_end, is_complete, end_pages, end_frames}
use Rattle.rl_events.specs.declared.channel.ChannelReply.TheVariants as channel
use Rattle.rl_actormodel.specs.declared.parts.Asked.{Asked}
use Rattle.rl_actormodel.specs.declared.parts.Publish.{Publish}
use Rattle.rl_actormodel.specs.declared.parts.Holder.{Holder}
use Rattle.rl_actormodel.specs.declared.parts.Session.{Session}
use Rattle.rl_actormodel.specs.declared.parts.Wish.{Wish}
use Rattle.rl_actormodel.specs.declared.parts.Wish.TheVariants as wishes
use Rattle.rl_actormodel.specs.State as actor
use Rattle.rl_actormodel.specs.State.{State, puts}
use Rattle.rl_actormodel.specs.Ends.{last_wish, lost_wish, ended_by, over_at}
use Rattle.rl_actormodel.specs.Takes as takes
use Rattle.rl_actormodel.specs.Takes.{attach_wish, begin_wish, close_wish, publish, take}
use Rattle.rl_actormodel.specs.Rests.{rested, is_idle, is_quiet}
use Rattle.rl_actormodel.specs.Replies.{Standing, Passed, Gone, Holds, Unsaid, standing, Beginning, Overtaken, Missing, Knows, Above, Below, Goes, Unbegun, beginning, Opening, Opens, Limited, Unopened, opening, Resuming, Back, NotKnown, Unresumed, resuming, Numbering, Has, HasNone, Unnumbered, numbering, Joining, joining_in, verdict_in, Reading, Came, Behind, Unread}
use Rattle.rl_actormodel.specs.Connects.{resumed_by, opened_by, if_held, closed}
use Rattle.rl_actormodel.specs.Attaches.{attach_at, joined_by}
use Rattle.rl_actormodel.specs.Publishes.{settled, put_wish, begun_by, put_at, put_by}
use Rattle.rl_actormodel.specs.Pagings.{paged, page_by, ends_here, ended_here}
use Rattle.rl_actormodel.specs.Reads as reads
use Rattle.rl_actormodel.specs.Reads.{answered_at, replied, read_by, moved_on, entry_frame, on_session}
use Rattle.rl_worldmodel.specs.Actors.{is_short, arrives, arrives_if}
use Rattle.rl_worldtold.specs.Truth.{OnHolder, IsHeldBy}
use Rattle.rl_worldputs.specs.Refusals.{IsOf, IsWishSo, IsFrameSo, IsActorSo}
use Rattle.rl_worldputs.proofs.Serving.{IsSameOrFirst}

-- FRAMES

module _ (R : ℕ → ℕ → ℕ → Type 0) (G : ℕ → ℕ → List ℕ → Type 0) where
  none_lift : (after : Option Holder) (frame : Frame) → IsFrameSo R None frame → IsFrameSo R after frame
  none_lift after (frames.Nack serial count code) is = absurd is
  none_lift after frame is = tt

  pub frame_held : (before after : Option Holder) → IsSameOrFirst before after → (frame : Frame) → IsFrameSo R before frame → IsFrameSo R after frame
  frame_held before after (inl none) frame is = none_lift after frame (subst (λ (o : Option Holder). IsFrameSo R o frame) none is)
  frame_held before after (inr same) frame is = subst (λ (o : Option Holder). IsFrameSo R o frame) (sym same) is

  put_so : (frame : Frame) (now : ℕ) (s : State) → IsFrameSo R s.holder frame → IsActorSo R G s → IsActorSo R G (put frame now s)
  put_so frame now s is h = record { wishing = h.wishing; out = all_append (IsFrameSo R s.holder) s.waiting (frame ∷ []) h.out (is, tt) }

  puts_so : (list : List Frame) (now : ℕ) (s : State) → AllByRecursion (IsFrameSo R s.holder) list → IsActorSo R G s → IsActorSo R G (puts list now s)
  puts_so [] now s all h = h
  puts_so (frame ∷ more) now s all h = record { wishing = h.wishing; out = all_append (IsFrameSo R s.holder) s.waiting (frame ∷ more) h.out all }

  -- ENDS

  lost_so : (holder : Option Holder) → IsWishSo R G (lost_wish holder)
  lost_so None = tt
  lost_so (Some holder) = tt

  last_so : (why : End) (holder : Option Holder) → IsWishSo R G (last_wish why holder)
  last_so (ends.Superseded mine newer) holder = tt
  last_so ends.Forgotten holder = tt
  last_so ends.Closed holder = tt
  last_so (ends.ConnectionLimit count given) holder = tt
  last_so why holder = lost_so holder

  farewell_so : (why : End) (holder : Option Holder) → AllByRecursion (IsFrameSo R holder) (option_to_list (farewell why))
  farewell_so ends.Closed holder = tt
  farewell_so ends.LinkEnded holder = tt
  farewell_so ends.LinkFault holder = tt
  farewell_so ends.NoMemory holder = tt
  farewell_so why holder = (tt, tt)

  ended_so : (why : End) (s : State) → IsActorSo R G s → IsActorSo R G (ended_by why s)
  ended_so why s h = record { wishing = last_so why s.holder; out = all_append (IsFrameSo R s.holder) s.waiting (option_to_list (farewell why)) h.out (farewell_so why s.holder) }

  held_so : (holder : Holder) (o : Standing) (next : State → State) (s : State) → IsActorSo R G (next s) → IsActorSo R G s → IsActorSo R G (if_held holder o next s)
  held_so holder (Passed newer) next s g h = ended_so (ends.Superseded holder.generation newer) s h
  held_so holder Gone next s g h = ended_so ends.Forgotten s h
  held_so holder Holds next s g h = g
  held_so holder Unsaid next s g h = h

  -- REPLIES

  connected_so : (holder : Holder) (key : List ℕ) (now : ℕ) (s : State) → s.holder ≡ None → IsActorSo R G s → IsActorSo R G (connected holder key now s)
  connected_so holder key now s none h = record {
    wishing = tt;
    out = all_append (IsFrameSo R (Some holder)) s.waiting (_ ∷ []) (all_weaker _ _ (frame_held s.holder (Some holder) (inl none)) s.waiting h.out) (tt, tt);
  }

  resumed_so : (key : List ℕ) (o : Resuming) (now : ℕ) (s : State) → s.holder ≡ None → IsActorSo R G s → IsActorSo R G (resumed_by key o now s)
  resumed_so key (Back holder) now s none h = connected_so holder key now s none h
  resumed_so key NotKnown now s none h = record { wishing = tt; out = h.out }
  resumed_so key Unresumed now s none h = h

  opened_so : (o : Opening) (now : ℕ) (s : State) → s.holder ≡ None → IsActorSo R G s → IsActorSo R G (opened_by o now s)
  opened_so (Opens holder key) now s none h = connected_so holder key now s none h
  opened_so (Limited count given) now s none h = ended_so (ends.ConnectionLimit count given) s h
  opened_so Unopened now s none h = h

  attach_so : (asked : Asked) (o : Numbering) (now : ℕ) (s : State) → IsActorSo R G s → IsActorSo R G (attach_at asked o now s)
  attach_so asked (Has n) now s h = record { wishing = tt; out = h.out }
  attach_so asked HasNone now s h = record { wishing = tt; out = all_append (IsFrameSo R s.holder) s.waiting (_ ∷ []) h.out (tt, tt) }
  attach_so asked Unnumbered now s h = h

  joined_so : (asked : Asked) (number : ℕ) (o : Option Joining) (now : ℕ) (s : State) → IsActorSo R G s → IsActorSo R G (joined_by asked number o now s)
  joined_so asked number None now s h = h
  joined_so asked number (Some j) now s h = record { wishing = tt; out = all_append (IsFrameSo R s.holder) s.waiting (_ ∷ []) h.out (tt, tt) }

  settled_so : (p : Publish) (holder : Holder) (o : Option Outcome) (now : ℕ) (s : State) → s.holder ≡ Some holder → ((code : ℕ) → o ≡ Some (Refused code) → R holder.conn p.serial code) → IsActorSo R G s → IsActorSo R G (settled p o now s)
  settled_so p holder None now s held fits h = record { wishing = tt; out = h.out }
  settled_so p holder (Some (Taken place)) now s held fits h = record { wishing = tt; out = all_append (IsFrameSo R s.holder) s.waiting (frames.Ack p.serial 1 ∷ []) h.out (tt, tt) }
  settled_so p holder (Some (Refused code)) now s held fits h = record {
    wishing = tt;
    out = all_append (IsFrameSo R s.holder) s.waiting (frames.Nack p.serial 1 code ∷ []) h.out (subst (λ (o : Option Holder). OnHolder o (λ g. R g.conn p.serial code)) (sym held) (fits code refl), tt);
  }

  put_wish_so : (p : Publish) (holder : Holder) (o : Option ℕ) → G holder.conn p.serial p.channel → IsWishSo R G (put_wish p holder o)
  put_wish_so p holder None got = got
  put_wish_so p holder (Some n) got = tt

  begun_so : (p : Publish) (holder : Holder) (b : Beginning) (now : ℕ) (s : State) → s.holder ≡ Some holder → ((code : ℕ) → b ≡ Knows (Refused code) → R holder.conn p.serial code) → G holder.conn p.serial p.channel → IsActorSo R G s → IsActorSo R G (begun_by p holder b now s)
  begun_so p holder (Overtaken newer) now s held fits got h = ended_so (ends.Superseded holder.generation newer) s h
  begun_so p holder Missing now s held fits got h = ended_so ends.Forgotten s h
  begun_so p holder (Knows outcome) now s held fits got h = settled_so p holder (Some outcome) now s held (λ code same. let it : outcome ≡ Refused code = cc in fits code (ap (λ (x : Outcome). Knows x) it)) h
  begun_so p holder (Above got_ expected) now s held fits got h = ended_so (ends.SerialGap got_ expected) s h
  begun_so p holder (Below got_ expected) now s held fits got h = ended_so (ends.SerialOld got_ expected) s h
  begun_so p holder Goes now s held fits got h = record { wishing = put_wish_so p holder (at p.channel s.numbers) got; out = h.out }
  begun_so p holder Unbegun now s held fits got h = h

  put_at_so : (p : Publish) (holder : Holder) (o : Numbering) (s : State) → (o ≡ HasNone → R holder.conn p.serial CHANNEL_LIMIT) → IsActorSo R G s → IsActorSo R G (put_at p holder o s)
  put_at_so p holder (Has n) s fits h = record { wishing = tt; out = h.out }
  put_at_so p holder HasNone s fits h = record { wishing = fits refl; out = h.out }
  put_at_so p holder Unnumbered s fits h = h

  finish_so : (p : Publish) (holder : Holder) (o : Option Outcome) → ((code : ℕ) → o ≡ Some (Refused code) → R holder.conn p.serial code) → IsWishSo R G (wishes.Finish p holder o)
  finish_so p holder None fits = tt
  finish_so p holder (Some (Taken place)) fits = tt
  finish_so p holder (Some (Refused code)) fits = fits code refl

  finish_is : (p : Publish) (holder : Holder) (o : Option Outcome) → IsWishSo R G (wishes.Finish p holder o) → (code : ℕ) → o ≡ Some (Refused code) → R holder.conn p.serial code
  finish_is p holder None is code same = absurd (cc)
  finish_is p holder (Some (Taken place)) is code same = absurd (cc)
  finish_is p holder (Some (Refused k)) is code same = let it : k ≡ code = cc in subst (R holder.conn p.serial) it is

  verdict_so : (v : Verdict) (code : ℕ) → outcome_of v ≡ Some (Refused code) → v ≡ Done (Refused code)
  verdict_so (Done x) code is = let same : x ≡ Refused code = cc in ap (λ (y : Outcome). Done y) same
  verdict_so Old code is = absurd (cc)

  put_by_so : (p : Publish) (holder : Holder) (o : Option Verdict) (s : State) → ((code : ℕ) → o ≡ Some (Done (Refused code)) → R holder.conn p.serial code) → IsActorSo R G s → IsActorSo R G (put_by p holder o s)
  put_by_so p holder None s fits h = h
  put_by_so p holder (Some verdict) s fits h = record { wishing = finish_so p holder (outcome_of verdict) (λ code is. fits code (ap (λ (v : Verdict). Some v) (verdict_so verdict code is))); out = h.out }

  -- what a reply has to say for what is wanted
  abbrev pub FitsSo : Wish → Reply → Type 0
  FitsSo (wishes.Begin p holder) reply = (code : ℕ) → beginning reply ≡ Knows (Refused code) → R holder.conn p.serial code
  FitsSo (wishes.AskToPut p holder) reply = numbering reply ≡ HasNone → R holder.conn p.serial CHANNEL_LIMIT
  FitsSo (wishes.Put p holder number) reply = (code : ℕ) → verdict_in reply ≡ Some (Done (Refused code)) → R holder.conn p.serial code
  FitsSo wish reply = ⊤

  pub replied_so : (wish : Wish) (reply : Reply) (now : ℕ) (s : State) → IsHeldBy s.holder wish → FitsSo wish reply → IsWishSo R G wish → IsActorSo R G s → IsActorSo R G (replied wish reply now s)
  replied_so wishes.Nothing reply now s held fits is h = h
  replied_so (wishes.Resume key) reply now s held fits is h = resumed_so key (resuming reply) now s held h
  replied_so wishes.Open reply now s held fits is h = opened_so (opening reply) now s held h
  replied_so (wishes.Lost holder) reply now s held fits is h = record { wishing = tt; out = h.out }
  replied_so (wishes.Close holder) reply now s held fits is h = held_so holder (standing reply) (closed now) s (ended_so ends.Closed (put frames.Closed now s) (put_so frames.Closed now s tt h)) h
  replied_so (wishes.AskToAttach asked) reply now s held fits is h = attach_so asked (numbering reply) now s h
  replied_so (wishes.Join asked number) reply now s held fits is h = joined_so asked number (joining_in reply) now s h
  replied_so (wishes.Begin p holder) reply now s held fits is h = begun_so p holder (beginning reply) now s held fits is h
  replied_so (wishes.AskToPut p holder) reply now s held fits is h = put_at_so p holder (numbering reply) s fits h
  replied_so (wishes.Put p holder number) reply now s held fits is h = put_by_so p holder (verdict_in reply) s fits h
  replied_so (wishes.Finish p holder outcome) reply now s held fits is h = held_so holder (standing reply) (settled p outcome now) s (settled_so p holder outcome now s held (finish_is p holder outcome is) h) h

  pub absorbed_so : (o : Option End) (call : Call) (reply : Reply) (now : ℕ) (s : State) → IsActorSo R G (reads.answered call reply now s) → IsActorSo R G s → IsActorSo R G (answered_at o call reply now s)
  absorbed_so None call reply now s g h = g
  absorbed_so (Some why) call reply now s g h = record { wishing = tt; out = h.out }

  pub over_so : (why : End) (o : Option End) (s : State) → IsActorSo R G s → IsActorSo R G (over_at o why s)
  over_so why None s h = ended_so why s h
  over_so why (Some end) s h = h

  -- FRAMES THAT ARE TAKEN UP

  attach_wish_so : (asked : Asked) (o : Option ℕ) → IsWishSo R G (attach_wish asked o)
  attach_wish_so asked None = tt
  attach_wish_so asked (Some n) = tt

  close_so : (o : Option Holder) → IsWishSo R G (close_wish o)
  close_so None = tt
  close_so (Some h) = tt

  begin_so : (p : Publish) (o : Option Holder) → ((h : Holder) → o ≡ Some h → G h.conn p.serial p.channel) → IsWishSo R G (begin_wish p o)
  begin_so p None got = tt
  begin_so p (Some h) got = got h refl

  publish_so : (head : Head) (o : Option ℕ) (body : Body) (s : State) → head.msg ≡ o → ((h : Holder) (serial : ℕ) → s.holder ≡ Some h → head.msg ≡ Some serial → G h.conn serial head.channel) → IsActorSo R G s → IsActorSo R G (publish head o body s)
  publish_so head None body s is got h = h
  publish_so head (Some serial) body s is got h = record { wishing = begin_so _ s.holder (λ g held. got g serial held is); out = h.out }

  take_so : (frame : Frame) (now : ℕ) (s : State) → ((h : Holder) (serial : ℕ) (channel : List ℕ) → s.holder ≡ Some h → IsOf serial channel frame → G h.conn serial channel) → IsActorSo R G s → IsActorSo R G (take frame now s)
  take_so (frames.Attach name serial) now s got h = record { wishing = attach_wish_so _ (at name s.numbers); out = h.out }
  take_so (frames.Detach name) now s got h = record { wishing = h.wishing; out = all_append (IsFrameSo R s.holder) s.waiting (_ ∷ []) h.out (tt, tt) }
  take_so (frames.Message head items) now s got h = publish_so head head.msg _ s refl (λ g serial held is. got g serial head.channel held (is, refl)) h
  take_so (frames.Presence head items) now s got h = publish_so head head.msg _ s refl (λ g serial held is. got g serial head.channel held (is, refl)) h
  take_so (frames.Object head ops) now s got h = publish_so head head.msg _ s refl (λ g serial held is. got g serial head.channel held (is, refl)) h
  take_so frames.Close now s got h = record { wishing = close_so s.holder; out = h.out }
  take_so frames.Heartbeat now s got h = put_so frames.Heartbeat now s tt h
  take_so frame now s got h = h

  any_so : (b : Bool) (frame : Frame) (now : ℕ) (s : State) → ((h : Holder) (serial : ℕ) (channel : List ℕ) → s.holder ≡ Some h → IsOf serial channel frame → G h.conn serial channel) → IsActorSo R G s → IsActorSo R G (takes.take_any (arrives_if b frame) now s)
  any_so true frame now s got h = take_so frame now s got h
  any_so false frame now s got h = ended_so _ s h

  pub took_so : (frame : Frame) (now : ℕ) (s : State) → ((h : Holder) (serial : ℕ) (channel : List ℕ) → s.holder ≡ Some h → IsOf serial channel frame → G h.conn serial channel) → IsActorSo R G s → IsActorSo R G (takes.took (arrives frame) now s)
  took_so frame now s got h = any_so (is_short frame) frame now (record s { last_in = now }) got (record { wishing = h.wishing; out = h.out })

  so_if : (b : Bool) (x y : State) → IsActorSo R G x → IsActorSo R G y → IsActorSo R G (if b then x else y)
  so_if true x y p q = p
  so_if false x y p q = q

  pub rested_so : (now : ℕ) (s : State) → IsActorSo R G s → IsActorSo R G (rested now s)
  rested_so now s h =
      so_if (actor.is_free s) _ s
      (so_if (is_idle now s) _ _ (ended_so (ends.Idle s.last_in now) s h) (so_if (is_quiet now s) _ s (put_so frames.Heartbeat now s tt h) h))
      h

  -- READS AND PAGES

  list_if : (b : Bool) (holder : Option Holder) (list : List Frame) → AllByRecursion (IsFrameSo R holder) list → AllByRecursion (IsFrameSo R holder) (if b then list else [])
  list_if true holder list all = all
  list_if false holder list all = tt

  body_so : (head : Head) (body : Body) (holder : Option Holder) → IsFrameSo R holder (reads.body_frame head body)
  body_so head (Messages items) holder = tt
  body_so head (Presence items) holder = tt
  body_so head (Objects ops) holder = tt

  entries_so : (name : List ℕ) (epoch : ℕ) (list : List Entry) (holder : Option Holder) → AllByRecursion (IsFrameSo R holder) (map (entry_frame name epoch) list)
  entries_so name epoch [] holder = tt
  entries_so name epoch (e ∷ list) holder = (body_so (reads.entry_head name epoch e) e.body holder, entries_so name epoch list holder)

  end_pages_so : (members objects : Bool) (one two : Frame) (holder : Option Holder) → IsFrameSo R holder one → IsFrameSo R holder two → AllByRecursion (IsFrameSo R holder) ((if members then one ∷ [] else []) ++ (if objects then two ∷ [] else []))
  end_pages_so members objects one two holder p q =
      all_append _ (if members then one ∷ [] else []) (if objects then two ∷ [] else []) (list_if members holder (one ∷ []) (p, tt)) (list_if objects holder (two ∷ []) (q, tt))

  ends_so : (session : Session) (holder : Option Holder) → AllByRecursion (IsFrameSo R holder) (ends_here session)
  ends_so session holder =
      list_if (may_end session.position session.pages) holder (end_frames session.pages)
      (list_if (is_complete session.pages) holder (end_pages session.pages) (end_pages_so session.pages.members.asked session.pages.objects.asked _ _ holder tt tt))

  page_frame_so : (reply : ChannelReply) (pages : Sequences) (holder : Option Holder) → AllByRecursion (IsFrameSo R holder) (option_to_list (page_frame reply pages))
  page_frame_so (channel.Members items last head) pages holder = (tt, tt)
  page_frame_so (channel.Objects states last head) pages holder = (tt, tt)
  page_frame_so reply pages holder = tt

  pub read_so : (name : List ℕ) (session : Session) (r : Reading) (now : ℕ) (s : State) → IsActorSo R G s → IsActorSo R G (read_by name session r now s)
  read_so name session (Came list) now s h =
      puts_so (map (entry_frame name session.epoch) list ++ ends_here (moved_on (length list) session)) now (record s { sessions = with_entry name (ended_here (moved_on (length list) session)) s.sessions })
      (all_append _ (map (entry_frame name session.epoch) list) (ends_here (moved_on (length list) session)) (entries_so name session.epoch list s.holder) (ends_so (moved_on (length list) session) s.holder))
      (record { wishing = h.wishing; out = h.out })
  read_so name session (Behind first) now s h = ended_so (ends.Lagged session.position first) s h
  read_so name session Unread now s h = h

  pub page_so : (name : List ℕ) (session : Session) (o : Option ChannelReply) (now : ℕ) (s : State) → IsActorSo R G s → IsActorSo R G (page_by name session o now s)
  page_so name session None now s h = h
  page_so name session (Some reply) now s h =
      puts_so (option_to_list (page_frame reply session.pages)) now (record s { sessions = with_entry name (paged (page_absorbed reply session.pages) session) s.sessions })
      (page_frame_so reply session.pages s.holder) (record { wishing = h.wishing; out = h.out })

  pub session_so : (act : List ℕ → Session → State → State) (o : Option (List ℕ × Session)) (s : State) → ((name : List ℕ) (session : Session) → IsActorSo R G (act name session s)) → IsActorSo R G s → IsActorSo R G (on_session act o s)
  session_so act None s each h = h
  session_so act (Some e) s each h = each e.0 e.1
