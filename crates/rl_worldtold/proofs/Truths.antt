-- What is true stays true, and what an actor puts out is true.
use Rattle.std.proofs.Common.{◌≡◌, ◌⊎◌, inl, inr, ℕ, suc, ◌≤◌, ◌<◌, Bool, true, false, List, [], ◌∷◌, ◌++◌, length, map, refl, sym, ◌∙◌, ap, subst, arith, cond, length-append}
use Rattle.std.specs.Prelude.{Option, Some, None, if◌then◌else◌, ⊤, option_to_list}
use Rattle.std.specs.List.{AllByRecursion}
use Rattle.std.specs.BTreeMap.{is_at}
use Rattle.std.specs.Ordering.{nat_cmp, match_ordering}
use Rattle.std.specs.declared.cmp.Ordering.{Ordering}
use Rattle.std.specs.declared.cmp.Ordering.TheVariants.{Less, Equal, Greater}
use Rattle.std.specs.Cmp.Lexicographic.{slice_cmp}
use Rattle.std.proofs.lemmas.Bool.Decides.{nat_tests}
use Rattle.rl_numbers.specs.declared.codes.TheConstants.{CHANNEL_LIMIT}
use Rattle.rl_ids.specs.Forms.{conn_text}
use Rattle.rl_types.specs.declared.frames.Frame.{Frame}
use Rattle.rl_types.specs.declared.frames.Frame.TheVariants as frames
use Rattle.rl_types.specs.declared.frames.Head.{Head}
use Rattle.rl_types.specs.declared.messages.Body.{Body}
use Rattle.rl_types.specs.declared.messages.Body.TheVariants.{Messages, Presence, Objects}
use Rattle.rl_types.specs.declared.messages.Entry.{Entry}
use Rattle.rl_events.specs.declared.book.BookEvent.{BookEvent}
use Rattle.rl_events.specs.declared.book.BookEvent.TheVariants as events
use Rattle.rl_events.specs.declared.channel.ChannelEvent.{ChannelEvent}
use Rattle.rl_events.specs.declared.channel.ChannelReply.{ChannelReply}
use Rattle.rl_events.specs.declared.channel.ChannelReply.TheVariants as channel
use Rattle.rl_events.specs.declared.channel.Outcome.{Outcome}
use Rattle.rl_events.specs.declared.channel.Outcome.TheVariants.{Taken, Refused}
use Rattle.rl_events.specs.declared.channel.Verdict.{Verdict}
use Rattle.rl_events.specs.declared.calls.End.{End}
use Rattle.rl_events.specs.declared.calls.End.TheVariants as ends
use Rattle.rl_events.specs.declared.calls.Reply.{Reply}
use Rattle.rl_connbook.proofs.Each.{all_weaker, all_append}
use Rattle.rl_directory.specs.Directory.{is_full}
use Rattle.rl_pages.specs.State.{Sequences, page_frame, page_absorbed, may_end, is_complete, end_pages, end_frames}
use Rattle.rl_names.specs.Names.{at, with_entry, without}
use Rattle.rl_actormodel.specs.declared.parts.Asked.{Asked}
use Rattle.rl_actormodel.specs.declared.parts.Publish.{Publish}
use Rattle.rl_actormodel.specs.declared.parts.Holder.{Holder}
use Rattle.rl_actormodel.specs.declared.parts.Session.{Session}
use Rattle.rl_actormodel.specs.declared.parts.Wish.{Wish}
use Rattle.rl_actormodel.specs.declared.parts.Wish.TheVariants as wishes
use Rattle.rl_actormodel.specs.State as actor
use Rattle.rl_actormodel.specs.State.{put, puts, wishing}
use Rattle.rl_actormodel.specs.Ends.{farewell, last_wish, lost_wish, ended_by, over_at}
use Rattle.rl_actormodel.specs.Takes as takes
use Rattle.rl_actormodel.specs.Takes.{attach_wish, begin_wish, close_wish, publish, take}
use Rattle.rl_actormodel.specs.Rests.{rested, is_idle, is_quiet}
use Rattle.rl_actormodel.specs.Replies.{Standing, Passed, Gone, Holds, Unsaid, standing, Beginning, Overtaken, Missing, Knows, Above, Below, Goes, Unbegun, beginning, Opening, Opens, Limited, Unopened, opening, Resuming, Back, NotKnown, Unresumed, resuming, Numbering, Has, HasNone, Unnumbered, numbering, Joining, joining_in, outcome_of, verdict_in, Reading, Came, Behind, Unread}
use Rattle.rl_actormodel.specs.Connects.{connected, resumed_by, opened_by, if_held, closed}
use Rattle.rl_actormodel.specs.Attaches.{attach_at, joined_by}
use Rattle.rl_actormodel.specs.Publishes.{settled, put_wish, begun_by, put_at, put_by}
use Rattle.rl_actormodel.specs.Pagings.{paged, page_by, ends_here, ended_here}
use Rattle.rl_actormodel.specs.Reads.{entry_head, body_frame, entry_frame, moved_on, read_by, on_session, replied}
use Rattle.rl_clientmodel.specs.Keys.{before_mark}
use Rattle.rl_worldmodel.specs.World.{Transport, changed_at}
use Rattle.rl_worldmodel.specs.Calls.{event_onto}
use Rattle.rl_worldmodel.specs.Actors.{works}
use Rattle.rl_worldtold.specs.Told.{IsRefused}
use Rattle.rl_worldtold.specs.Truth.{Channels, names_of, Decides, IsTrueOf, IsTrueEnd, OnHolder, IsHeldBy, IsTrueWish, IsTrueFrame, IsTrueActor, IsTrueTransport}
use Rattle.rl_worldtold.proofs.Shape.{some_append, changed_some, length_changed, map_changed}

-- CHANNELS GROW

pub record Grows (before after : Channels) : Type 0 where
  pub longer : length before ≤ length after
  pub true_of : (conn serial : ℕ) (outcome : Outcome) → IsTrueOf before conn serial outcome → IsTrueOf after conn serial outcome

true_by : (before after : Channels) → ((conn serial : ℕ) (P : Option Verdict → Type 0) → Decides before conn serial P → Decides after conn serial P) → (is_full (names_of before) ≡ true → is_full (names_of after) ≡ true)
    → (conn serial : ℕ) (outcome : Outcome) → IsTrueOf before conn serial outcome → IsTrueOf after conn serial outcome
true_by before after decides full conn serial (Taken place) is = decides conn serial _ is
true_by before after decides full conn serial (Refused code) (inl is) = inl (decides conn serial (IsRefused code) is)
true_by before after decides full conn serial (Refused code) (inr is) = inr (full is.0, is.1)

decides_takes : (number : ℕ) (event : ChannelEvent) (channels : Channels) (conn serial : ℕ) (P : Option Verdict → Type 0) → Decides channels conn serial P → Decides (changed_at number (event_onto event) channels) conn serial P
decides_takes number event channels conn serial P is = changed_some _ number (event_onto event) (λ c some. inr some) channels is

pub grows_takes : (number : ℕ) (event : ChannelEvent) (channels : Channels) → Grows channels (changed_at number (event_onto event) channels)
grows_takes number event channels =
    let same : names_of (changed_at number (event_onto event) channels) ≡ names_of channels = map_changed (λ (c : List ℕ × List ChannelEvent). c.0) number (event_onto event) (λ c. refl) channels in
    record {
      longer = let long : length (changed_at number (event_onto event) channels) ≡ length channels = length_changed number (event_onto event) channels in omega (arith, long);
      true_of = true_by channels (changed_at number (event_onto event) channels) (decides_takes number event channels) (λ full. ap is_full same ∙ full);
    }

pub length_names : (channels : Channels) → length (names_of channels) ≡ length channels
length_names [] = refl
length_names (c ∷ channels) = ap (λ n. suc n) (length_names channels)

pub grows_name : (name : List ℕ) (channels : Channels) → Grows channels (channels ++ (name, []) ∷ [])
grows_name name channels = record {
  longer = omega (arith, length-append channels ((name, []) ∷ []));
  true_of = true_by channels (channels ++ (name, []) ∷ []) (λ conn serial P is. some_append _ channels ((name, []) ∷ []) is) (full_more (names_of channels) (names_of (channels ++ (name, []) ∷ [])) long);
}
  where
    long : length (names_of channels) ≤ length (names_of (channels ++ (name, []) ∷ []))
    long = omega (arith, length_names channels, length_names (channels ++ (name, []) ∷ []), length-append channels ((name, []) ∷ []))

    full_more : (xs ys : List (List ℕ)) → length xs ≤ length ys → is_full xs ≡ true → is_full ys ≡ true
    full_more xs ys more full = grind (arith, nat_tests, more, full)

pub grows_same : (channels : Channels) → Grows channels channels
grows_same channels = record { longer = omega arith; true_of = λ conn serial outcome is. is }

-- WHAT IS TRUE STAYS TRUE

module _ (before after : Channels) (g : Grows before after) where
  pub end_stays : (event : BookEvent) → IsTrueEnd before event → IsTrueEnd after event
  end_stays (events.End conn generation serial (Some outcome)) is = g.true_of conn serial outcome is
  end_stays event is = tt

  finish_stays : (p : Publish) (h : Holder) (o : Option Outcome) → IsTrueWish before (wishes.Finish p h o) → IsTrueWish after (wishes.Finish p h o)
  finish_stays p h None is = tt
  finish_stays p h (Some outcome) is = g.true_of h.conn p.serial outcome is

  wish_stays : (wish : Wish) → IsTrueWish before wish → IsTrueWish after wish
  wish_stays (wishes.Put p h number) is = omega (arith, is, g.longer)
  wish_stays (wishes.Finish p h o) is = finish_stays p h o is
  wish_stays wish is = tt

  on_stays : (holder : Option Holder) (P Q : Holder → Type 0) → ((h : Holder) → P h → Q h) → OnHolder holder P → OnHolder holder Q
  on_stays None P Q stays is = absurd is
  on_stays (Some h) P Q stays is = stays h is

  pub frame_stays : (holder : Option Holder) (frame : Frame) → IsTrueFrame before holder frame → IsTrueFrame after holder frame
  frame_stays holder (frames.Connected id key ttl idle size code) is = is
  frame_stays holder (frames.Ack serial count) is = on_stays holder _ _ (λ h p. (p.0, g.true_of h.conn serial (Taken 0) p.1)) is
  frame_stays holder (frames.Nack serial count code) is = on_stays holder _ _ (λ h p. (p.0, g.true_of h.conn serial (Refused code) p.1)) is
  frame_stays holder frame is = tt

  pub actor_stays : (s : actor.State) → IsTrueActor before s → IsTrueActor after s
  actor_stays s h = record {
    held = h.held;
    wish_true = wish_stays s.wish h.wish_true;
    known = all_weaker _ _ (λ e below. omega (arith, below, g.longer)) s.numbers h.known;
    put_out = all_weaker _ _ (frame_stays s.holder) s.waiting h.put_out;
  }

  pub transport_stays : (t : Transport) → IsTrueTransport before t → IsTrueTransport after t
  transport_stays t h = record {
    of_actor = actor_stays t.actor h.of_actor;
    on_way = all_weaker _ _ (frame_stays t.actor.holder) t.to_client.put h.on_way;
  }

-- AN ACTOR

-- it gets its connection once
abbrev pub IsSameOrNew : Option Holder → Option Holder → Type 0
IsSameOrNew before after = (before ≡ None) ⊎ (after ≡ before)

lift_none : (channels : Channels) (after : Option Holder) (frame : Frame) → IsTrueFrame channels None frame → IsTrueFrame channels after frame
lift_none channels after (frames.Connected id key ttl idle size code) is = absurd is
lift_none channels after (frames.Ack serial count) is = absurd is
lift_none channels after (frames.Nack serial count code) is = absurd is
lift_none channels after frame is = tt

frame_held : (channels : Channels) (before after : Option Holder) → IsSameOrNew before after → (frame : Frame) → IsTrueFrame channels before frame → IsTrueFrame channels after frame
frame_held channels before after (inl none) frame is = lift_none channels after frame (subst (λ (h : Option Holder). IsTrueFrame channels h frame) none is)
frame_held channels before after (inr same) frame is = subst (λ (h : Option Holder). IsTrueFrame channels h frame) (sym same) is

-- what an actor may become
pub record Becomes (channels : Channels) (s after : actor.State) : Type 0 where
  pub good : IsTrueActor channels after
  pub keeps : IsSameOrNew s.holder after.holder

pub works_true : (channels : Channels) (act : actor.State → actor.State) (t : Transport) → Becomes channels t.actor (act t.actor) → AllByRecursion (IsTrueFrame channels t.actor.holder) t.to_client.put → IsTrueTransport channels (works act t)
works_true channels act t b on_way = by_cut t.cut
  where
    later : AllByRecursion (IsTrueFrame channels (act t.actor).holder) t.to_client.put
    later = all_weaker _ _ (frame_held channels t.actor.holder (act t.actor).holder b.keeps) t.to_client.put on_way

    by_cut : (cut : Bool) → IsTrueTransport channels (works act (record t { cut = cut }))
    by_cut true = record { of_actor = record { held = b.good.held; wish_true = b.good.wish_true; known = b.good.known; put_out = tt }; on_way = later }
    by_cut false = record {
      of_actor = record { held = b.good.held; wish_true = b.good.wish_true; known = b.good.known; put_out = tt };
      on_way = all_append _ t.to_client.put (act t.actor).waiting later b.good.put_out;
    }

module _ (channels : Channels) where
  put_true : (frame : Frame) (now : ℕ) (s : actor.State) → IsTrueFrame channels s.holder frame → IsTrueActor channels s → IsTrueActor channels (put frame now s)
  put_true frame now s is h = record { held = h.held; wish_true = h.wish_true; known = h.known; put_out = all_append _ s.waiting (frame ∷ []) h.put_out (is, tt) }

  wishing_true : (wish : Wish) (s : actor.State) → IsHeldBy s.holder wish → IsTrueWish channels wish → IsTrueActor channels s → IsTrueActor channels (wishing wish s)
  wishing_true wish s held is h = record { held = held; wish_true = is; known = h.known; put_out = h.put_out }

  -- nothing is wanted any more
  pub nothing_true : (s : actor.State) → IsTrueActor channels s → IsTrueActor channels (wishing wishes.Nothing s)
  nothing_true s h = wishing_true wishes.Nothing s tt tt h

  lost_held : (holder : Option Holder) → IsHeldBy holder (lost_wish holder) × IsTrueWish channels (lost_wish holder)
  lost_held None = (tt, tt)
  lost_held (Some holder) = (refl, tt)

  last_held : (why : End) (holder : Option Holder) → IsHeldBy holder (last_wish why holder) × IsTrueWish channels (last_wish why holder)
  last_held (ends.Superseded mine newer) holder = (tt, tt)
  last_held ends.Forgotten holder = (tt, tt)
  last_held ends.Closed holder = (tt, tt)
  last_held (ends.ConnectionLimit count given) holder = (tt, tt)
  last_held why holder = lost_held holder

  farewell_true : (why : End) (holder : Option Holder) → AllByRecursion (IsTrueFrame channels holder) (option_to_list (farewell why))
  farewell_true ends.Closed holder = tt
  farewell_true ends.LinkEnded holder = tt
  farewell_true ends.LinkFault holder = tt
  farewell_true ends.NoMemory holder = tt
  farewell_true why holder = (tt, tt)

  ended_true : (why : End) (s : actor.State) → IsTrueActor channels s → IsTrueActor channels (ended_by why s)
  ended_true why s h = record {
    held = (last_held why s.holder).0;
    wish_true = (last_held why s.holder).1;
    known = h.known;
    put_out = all_append _ s.waiting (option_to_list (farewell why)) h.put_out (farewell_true why s.holder);
  }

  connected_true : (holder : Holder) (key : List ℕ) (now : ℕ) (s : actor.State) → before_mark key ≡ conn_text holder.conn → s.holder ≡ None → IsTrueActor channels s → Becomes channels s (connected holder key now s)
  connected_true holder key now s text none h = record {
    good = record {
      held = tt;
      wish_true = tt;
      known = h.known;
      put_out = all_append _ s.waiting (_ ∷ []) (all_weaker _ _ (λ frame is. lift_none channels (Some holder) frame (subst (λ (o : Option Holder). IsTrueFrame channels o frame) none is)) s.waiting h.put_out) ((refl, text), tt);
    };
    keeps = inl none;
  }

  entry_by : (P : ℕ → Type 0) (name : List ℕ) (value : ℕ) (e : List ℕ × ℕ) (es rest : List (List ℕ × ℕ)) (o : Ordering) → P value → P e.1 → AllByRecursion (λ (e : List ℕ × ℕ). P e.1) es → AllByRecursion (λ (e : List ℕ × ℕ). P e.1) rest
      → AllByRecursion (λ (e : List ℕ × ℕ). P e.1) (match_ordering o ((name, value) ∷ e ∷ es) ((e.0, value) ∷ es) (e ∷ rest))
  entry_by P name value e es rest Less is here all more = (is, (here, all))
  entry_by P name value e es rest Equal is here all more = (is, all)
  entry_by P name value e es rest Greater is here all more = (here, more)

  entry_all : (P : ℕ → Type 0) (name : List ℕ) (value : ℕ) (es : List (List ℕ × ℕ)) → P value → AllByRecursion (λ (e : List ℕ × ℕ). P e.1) es → AllByRecursion (λ (e : List ℕ × ℕ). P e.1) (with_entry name value es)
  entry_all P name value [] is all = (is, tt)
  entry_all P name value (e ∷ es) is all = entry_by P name value e es (with_entry name value es) (slice_cmp nat_cmp name e.0) is all.0 all.1 (entry_all P name value es is all.1)

  at_by : (P : ℕ → Type 0) (n : ℕ) (e : List ℕ × ℕ) (o : Option ℕ) (b : Bool) → P e.1 → (o ≡ Some n → P n) → cond b (Some e.1) o ≡ Some n → P n
  at_by P n e o true here more found = let same : e.1 ≡ n = cc in subst P same here
  at_by P n e o false here more found = more found

  at_all : (P : ℕ → Type 0) (name : List ℕ) (n : ℕ) (es : List (List ℕ × ℕ)) → AllByRecursion (λ (e : List ℕ × ℕ). P e.1) es → at name es ≡ Some n → P n
  at_all P name n [] all found = absurd (cc)
  at_all P name n (e ∷ es) all found = at_by P n e (at name es) (is_at (slice_cmp nat_cmp name) e.0) all.0 (at_all P name n es all.1) found

  -- REPLIES

  -- what the directory says: a number is a channel's
  abbrev pub IsNumbered : Numbering → Type 0
  IsNumbered o = (n : ℕ) → o ≡ Has n → n < length channels

  -- what a reply has to say for what is wanted
  abbrev pub Fits : Wish → Reply → Type 0
  Fits (wishes.AskToAttach asked) reply = IsNumbered (numbering reply)
  Fits (wishes.Begin p holder) reply = (outcome : Outcome) → beginning reply ≡ Knows outcome → IsTrueOf channels holder.conn p.serial outcome
  Fits (wishes.AskToPut p holder) reply = IsNumbered (numbering reply) × (numbering reply ≡ HasNone → is_full (names_of channels) ≡ true)
  Fits (wishes.Put p holder number) reply = (verdict : Verdict) → verdict_in reply ≡ Some verdict → (outcome : Outcome) → outcome_of verdict ≡ Some outcome → IsTrueOf channels holder.conn p.serial outcome
  Fits (wishes.Resume key) reply = (holder : Holder) → resuming reply ≡ Back holder → before_mark key ≡ conn_text holder.conn
  Fits wishes.Open reply = (holder : Holder) (key : List ℕ) → opening reply ≡ Opens holder key → before_mark key ≡ conn_text holder.conn
  Fits wish reply = ⊤

  stays : (s after : actor.State) → after.holder ≡ s.holder → IsTrueActor channels after → Becomes channels s after
  stays s after same good = record { good = good; keeps = inr same }

  resumed_true : (key : List ℕ) (o : Resuming) (now : ℕ) (s : actor.State) → ((holder : Holder) → o ≡ Back holder → before_mark key ≡ conn_text holder.conn) → s.holder ≡ None → IsTrueActor channels s → Becomes channels s (resumed_by key o now s)
  resumed_true key NotKnown now s fits none h = stays s _ refl (record { held = none; wish_true = tt; known = h.known; put_out = h.put_out })
  resumed_true key (Back holder) now s fits none h = connected_true holder key now s (fits holder refl) none h
  resumed_true key Unresumed now s fits none h = stays s s refl h

  opened_true : (o : Opening) (now : ℕ) (s : actor.State) → ((holder : Holder) (key : List ℕ) → o ≡ Opens holder key → before_mark key ≡ conn_text holder.conn) → s.holder ≡ None → IsTrueActor channels s → Becomes channels s (opened_by o now s)
  opened_true (Opens holder key) now s fits none h = connected_true holder key now s (fits holder key refl) none h
  opened_true (Limited count given) now s fits none h = stays s _ refl (ended_true (ends.ConnectionLimit count given) s h)
  opened_true Unopened now s fits none h = stays s s refl h

  closed_true : (holder : Holder) (o : Standing) (now : ℕ) (s : actor.State) → IsTrueActor channels s → Becomes channels s (if_held holder o (closed now) s)
  closed_true holder (Passed newer) now s h = stays s _ refl (ended_true (ends.Superseded holder.generation newer) s h)
  closed_true holder Gone now s h = stays s _ refl (ended_true ends.Forgotten s h)
  closed_true holder Holds now s h = stays s _ refl (ended_true ends.Closed (put frames.Closed now s) (put_true frames.Closed now s tt h))
  closed_true holder Unsaid now s h = stays s s refl h

  attach_true : (asked : Asked) (o : Numbering) (now : ℕ) (s : actor.State) → IsNumbered o → IsTrueActor channels s → Becomes channels s (attach_at asked o now s)
  attach_true asked HasNone now s below h = stays s _ refl (put_true (frames.Error (Some asked.channel) CHANNEL_LIMIT) now (wishing wishes.Nothing s) tt (nothing_true s h))
  attach_true asked (Has n) now s below h = stays s _ refl (record { held = tt; wish_true = tt; known = entry_all (λ n. n < length channels) asked.channel n s.numbers (below n refl) h.known; put_out = h.put_out })
  attach_true asked Unnumbered now s below h = stays s s refl h

  joined_true : (asked : Asked) (number : ℕ) (o : Option Joining) (now : ℕ) (s : actor.State) → IsTrueActor channels s → Becomes channels s (joined_by asked number o now s)
  joined_true asked number None now s h = stays s s refl h
  joined_true asked number (Some j) now s h = stays s _ refl (record { held = tt; wish_true = tt; known = h.known; put_out = all_append _ s.waiting (_ ∷ []) h.put_out (tt, tt) })

  held_on : (o : Option Holder) (holder : Holder) (P : Holder → Type 0) → o ≡ Some holder → P holder → OnHolder o P
  held_on o holder P is p = subst (λ (x : Option Holder). OnHolder x P) (sym is) p

  -- ACK or NACK
  settled_true : (p : Publish) (holder : Holder) (o : Option Outcome) (now : ℕ) (s : actor.State) → s.holder ≡ Some holder → ((outcome : Outcome) → o ≡ Some outcome → IsTrueOf channels holder.conn p.serial outcome) → IsTrueActor channels s → Becomes channels s (settled p o now s)
  settled_true p holder None now s is fits h = stays s _ refl (nothing_true s h)
  settled_true p holder (Some (Taken place)) now s is fits h =
      stays s _ refl (put_true (frames.Ack p.serial 1) now (wishing wishes.Nothing s) (held_on s.holder holder _ is (refl, fits (Taken place) refl)) (nothing_true s h))
  settled_true p holder (Some (Refused code)) now s is fits h =
      stays s _ refl (put_true (frames.Nack p.serial 1 code) now (wishing wishes.Nothing s) (held_on s.holder holder _ is (refl, fits (Refused code) refl)) (nothing_true s h))

  put_wish_true : (p : Publish) (holder : Holder) (o : Option ℕ) (s : actor.State) → s.holder ≡ Some holder → ((n : ℕ) → o ≡ Some n → n < length channels) → IsTrueActor channels s → Becomes channels s (wishing (put_wish p holder o) s)
  put_wish_true p holder None s is below h = stays s _ refl (wishing_true (wishes.AskToPut p holder) s is tt h)
  put_wish_true p holder (Some n) s is below h = stays s _ refl (wishing_true (wishes.Put p holder n) s is (below n refl) h)

  begun_true : (p : Publish) (holder : Holder) (b : Beginning) (now : ℕ) (s : actor.State) → s.holder ≡ Some holder → ((outcome : Outcome) → b ≡ Knows outcome → IsTrueOf channels holder.conn p.serial outcome) → IsTrueActor channels s → Becomes channels s (begun_by p holder b now s)
  begun_true p holder (Overtaken newer) now s is fits h = stays s _ refl (ended_true (ends.Superseded holder.generation newer) s h)
  begun_true p holder Missing now s is fits h = stays s _ refl (ended_true ends.Forgotten s h)
  begun_true p holder (Knows outcome) now s is fits h = settled_true p holder (Some outcome) now s is (λ o same. let it : outcome ≡ o = cc in subst (IsTrueOf channels holder.conn p.serial) it (fits outcome refl)) h
  begun_true p holder (Above got expected) now s is fits h = stays s _ refl (ended_true (ends.SerialGap got expected) s h)
  begun_true p holder (Below got expected) now s is fits h = stays s _ refl (ended_true (ends.SerialOld got expected) s h)
  begun_true p holder Goes now s is fits h = put_wish_true p holder (at p.channel s.numbers) s is (λ n found. at_all (λ n. n < length channels) p.channel n s.numbers h.known found) h
  begun_true p holder Unbegun now s is fits h = stays s s refl h

  put_at_true : (p : Publish) (holder : Holder) (o : Numbering) (s : actor.State) → s.holder ≡ Some holder → IsNumbered o → (o ≡ HasNone → is_full (names_of channels) ≡ true) → IsTrueActor channels s → Becomes channels s (put_at p holder o s)
  put_at_true p holder HasNone s is below full h = stays s _ refl (wishing_true (wishes.Finish p holder (Some (Refused CHANNEL_LIMIT))) s is (inr (full refl, refl)) h)
  put_at_true p holder (Has n) s is below full h = stays s _ refl (record { held = is; wish_true = below n refl; known = entry_all (λ n. n < length channels) p.channel n s.numbers (below n refl) h.known; put_out = h.put_out })
  put_at_true p holder Unnumbered s is below full h = stays s s refl h

  finish_wish : (p : Publish) (holder : Holder) (o : Option Outcome) → ((outcome : Outcome) → o ≡ Some outcome → IsTrueOf channels holder.conn p.serial outcome) → IsTrueWish channels (wishes.Finish p holder o)
  finish_wish p holder None fits = tt
  finish_wish p holder (Some outcome) fits = fits outcome refl

  put_by_true : (p : Publish) (holder : Holder) (o : Option Verdict) (s : actor.State) → s.holder ≡ Some holder → ((verdict : Verdict) → o ≡ Some verdict → (outcome : Outcome) → outcome_of verdict ≡ Some outcome → IsTrueOf channels holder.conn p.serial outcome) → IsTrueActor channels s → Becomes channels s (put_by p holder o s)
  put_by_true p holder None s is fits h = stays s s refl h
  put_by_true p holder (Some verdict) s is fits h = stays s _ refl (wishing_true (wishes.Finish p holder (outcome_of verdict)) s is (finish_wish p holder (outcome_of verdict) (fits verdict refl)) h)

  in_finish : (p : Publish) (holder : Holder) (o : Option Outcome) → IsTrueWish channels (wishes.Finish p holder o) → (outcome : Outcome) → o ≡ Some outcome → IsTrueOf channels holder.conn p.serial outcome
  in_finish p holder None is outcome same = absurd (cc)
  in_finish p holder (Some x) is outcome same = let it : x ≡ outcome = cc in subst (IsTrueOf channels holder.conn p.serial) it is

  finish_true : (p : Publish) (holder : Holder) (o : Option Outcome) (standing : Standing) (now : ℕ) (s : actor.State) → s.holder ≡ Some holder → IsTrueWish channels (wishes.Finish p holder o) → IsTrueActor channels s → Becomes channels s (if_held holder standing (settled p o now) s)
  finish_true p holder o (Passed newer) now s is fits h = stays s _ refl (ended_true (ends.Superseded holder.generation newer) s h)
  finish_true p holder o Gone now s is fits h = stays s _ refl (ended_true ends.Forgotten s h)
  finish_true p holder o Holds now s is fits h = settled_true p holder o now s is (in_finish p holder o fits) h
  finish_true p holder o Unsaid now s is fits h = stays s s refl h

  replied_by : (wish : Wish) (reply : Reply) (now : ℕ) (s : actor.State) → IsHeldBy s.holder wish → IsTrueWish channels wish → Fits wish reply → IsTrueActor channels s → Becomes channels s (replied wish reply now s)
  replied_by wishes.Nothing reply now s held is fits h = stays s s refl h
  replied_by (wishes.Resume key) reply now s held is fits h = resumed_true key (resuming reply) now s fits held h
  replied_by wishes.Open reply now s held is fits h = opened_true (opening reply) now s fits held h
  replied_by (wishes.Lost holder) reply now s held is fits h = stays s _ refl (nothing_true s h)
  replied_by (wishes.Close holder) reply now s held is fits h = closed_true holder (standing reply) now s h
  replied_by (wishes.AskToAttach asked) reply now s held is fits h = attach_true asked (numbering reply) now s fits h
  replied_by (wishes.Join asked number) reply now s held is fits h = joined_true asked number (joining_in reply) now s h
  replied_by (wishes.Begin p holder) reply now s held is fits h = begun_true p holder (beginning reply) now s held fits h
  replied_by (wishes.AskToPut p holder) reply now s held is fits h = put_at_true p holder (numbering reply) s held fits.0 fits.1 h
  replied_by (wishes.Put p holder number) reply now s held is fits h = put_by_true p holder (verdict_in reply) s held fits h
  replied_by (wishes.Finish p holder outcome) reply now s held is fits h = finish_true p holder outcome (standing reply) now s held is h

  -- what was wanted is answered
  pub replied_true : (wish : Wish) (reply : Reply) (now : ℕ) (s : actor.State) → s.wish ≡ wish → Fits wish reply → IsTrueActor channels s → Becomes channels s (replied wish reply now s)
  replied_true wish reply now s same fits h = replied_by wish reply now s (subst (IsHeldBy s.holder) same h.held) (subst (IsTrueWish channels) same h.wish_true) fits h

  -- FRAMES THAT ARE TAKEN UP

  pub over_true : (why : End) (o : Option End) (s : actor.State) → IsTrueActor channels s → Becomes channels s (over_at o why s)
  over_true why None s h = stays s _ refl (ended_true why s h)
  over_true why (Some end) s h = stays s s refl h

  attach_wish_true : (asked : Asked) (o : Option ℕ) (holder : Option Holder) → IsHeldBy holder (attach_wish asked o) × IsTrueWish channels (attach_wish asked o)
  attach_wish_true asked None holder = (tt, tt)
  attach_wish_true asked (Some n) holder = (tt, tt)

  begin_wish_true : (p : Publish) (holder : Option Holder) → IsHeldBy holder (begin_wish p holder) × IsTrueWish channels (begin_wish p holder)
  begin_wish_true p None = (tt, tt)
  begin_wish_true p (Some h) = (refl, tt)

  close_wish_true : (holder : Option Holder) → IsHeldBy holder (close_wish holder) × IsTrueWish channels (close_wish holder)
  close_wish_true None = (tt, tt)
  close_wish_true (Some h) = (refl, tt)

  publish_true : (head : Head) (o : Option ℕ) (body : Body) (s : actor.State) → IsTrueActor channels s → Becomes channels s (publish head o body s)
  publish_true head None body s h = stays s s refl h
  publish_true head (Some serial) body s h =
      let w = begin_wish_true (record { channel = head.channel; serial = serial; body = body }) s.holder in
      stays s _ refl (wishing_true (begin_wish (record { channel = head.channel; serial = serial; body = body }) s.holder) s w.0 w.1 h)

  take_true : (frame : Frame) (now : ℕ) (s : actor.State) → IsTrueActor channels s → Becomes channels s (take frame now s)
  take_true (frames.Attach name serial) now s h =
      let w = attach_wish_true (record { channel = name; serial = serial }) (at name s.numbers) s.holder in
      stays s _ refl (wishing_true (attach_wish (record { channel = name; serial = serial }) (at name s.numbers)) s w.0 w.1 h)
  take_true (frames.Detach name) now s h =
      stays s _ refl (put_true (frames.Detached name None) now (record s { sessions = without name s.sessions }) tt (record { held = h.held; wish_true = h.wish_true; known = h.known; put_out = h.put_out }))
  take_true (frames.Message head items) now s h = publish_true head head.msg _ s h
  take_true (frames.Presence head items) now s h = publish_true head head.msg _ s h
  take_true (frames.Object head ops) now s h = publish_true head head.msg _ s h
  take_true frames.Close now s h = let w = close_wish_true s.holder in stays s _ refl (wishing_true (close_wish s.holder) s w.0 w.1 h)
  take_true frames.Heartbeat now s h = stays s _ refl (put_true frames.Heartbeat now s tt h)
  take_true frame now s h = stays s s refl h

  any_true : (came : takes.Came) (now : ℕ) (s : actor.State) → IsTrueActor channels s → Becomes channels s (takes.take_any came now s)
  any_true (takes.A frame) now s h = take_true frame now s h
  any_true takes.Unknown now s h = stays s s refl h
  any_true (takes.Bad bytes) now s h = stays s _ refl (ended_true (ends.BadFrame bytes) s h)

  pub took_true : (came : takes.Came) (now : ℕ) (s : actor.State) → IsTrueActor channels s → Becomes channels s (takes.took came now s)
  took_true came now s h =
      let b = any_true came now (record s { last_in = now }) (record { held = h.held; wish_true = h.wish_true; known = h.known; put_out = h.put_out }) in
      record { good = b.good; keeps = b.keeps }

  -- REST

  become_if : (b : Bool) (s x y : actor.State) → Becomes channels s x → Becomes channels s y → Becomes channels s (if b then x else y)
  become_if true s x y p q = p
  become_if false s x y p q = q

  pub rested_true : (now : ℕ) (s : actor.State) → IsTrueActor channels s → Becomes channels s (rested now s)
  rested_true now s h =
      become_if (actor.is_free s) s _ s
      (become_if (is_idle now s) s _ _ (stays s _ refl (ended_true (ends.Idle s.last_in now) s h))
      (become_if (is_quiet now s) s _ s (stays s _ refl (put_true frames.Heartbeat now s tt h)) (stays s s refl h)))
      (stays s s refl h)

  -- READS AND PAGES

  abbrev AreTrue : Option Holder → List Frame → Type 0
  AreTrue holder list = AllByRecursion (IsTrueFrame channels holder) list

  true_if : (b : Bool) (holder : Option Holder) (list : List Frame) → AreTrue holder list → AreTrue holder (if b then list else [])
  true_if true holder list all = all
  true_if false holder list all = tt

  entry_body : (head : Head) (body : Body) (holder : Option Holder) → IsTrueFrame channels holder (body_frame head body)
  entry_body head (Messages items) holder = tt
  entry_body head (Presence items) holder = tt
  entry_body head (Objects ops) holder = tt

  entries_true : (name : List ℕ) (epoch : ℕ) (list : List Entry) (holder : Option Holder) → AreTrue holder (map (entry_frame name epoch) list)
  entries_true name epoch [] holder = tt
  entries_true name epoch (e ∷ list) holder = (entry_body (entry_head name epoch e) e.body holder, entries_true name epoch list holder)

  end_pages_true : (members objects : Bool) (one two : Frame) (holder : Option Holder) → IsTrueFrame channels holder one → IsTrueFrame channels holder two → AreTrue holder ((if members then one ∷ [] else []) ++ (if objects then two ∷ [] else []))
  end_pages_true members objects one two holder p q =
      all_append _ (if members then one ∷ [] else []) (if objects then two ∷ [] else []) (true_if members holder (one ∷ []) (p, tt)) (true_if objects holder (two ∷ []) (q, tt))

  ends_true : (session : Session) (holder : Option Holder) → AreTrue holder (ends_here session)
  ends_true session holder =
      true_if (may_end session.position session.pages) holder (end_frames session.pages)
      (true_if (is_complete session.pages) holder (end_pages session.pages) (end_pages_true session.pages.members.asked session.pages.objects.asked _ _ holder tt tt))

  page_frame_true : (reply : ChannelReply) (pages : Sequences) (holder : Option Holder) → AreTrue holder (option_to_list (page_frame reply pages))
  page_frame_true (channel.Members items last head) pages holder = (tt, tt)
  page_frame_true (channel.Objects states last head) pages holder = (tt, tt)
  page_frame_true reply pages holder = tt

  puts_true : (list : List Frame) (now : ℕ) (s : actor.State) → AreTrue s.holder list → IsTrueActor channels s → Becomes channels s (puts list now s)
  puts_true [] now s is h = stays s s refl h
  puts_true (frame ∷ more) now s is h = stays s _ refl (record { held = h.held; wish_true = h.wish_true; known = h.known; put_out = all_append _ s.waiting (frame ∷ more) h.put_out is })

  pub read_true : (name : List ℕ) (session : Session) (r : Reading) (now : ℕ) (s : actor.State) → IsTrueActor channels s → Becomes channels s (read_by name session r now s)
  read_true name session (Came list) now s h =
      let moved = moved_on (length list) session in
      let b = puts_true (map (entry_frame name session.epoch) list ++ ends_here (moved_on (length list) session)) now (record s { sessions = with_entry name (ended_here (moved_on (length list) session)) s.sessions })
      (all_append _ (map (entry_frame name session.epoch) list) (ends_here (moved_on (length list) session)) (entries_true name session.epoch list s.holder) (ends_true (moved_on (length list) session) s.holder))
      (record { held = h.held; wish_true = h.wish_true; known = h.known; put_out = h.put_out }) in
      record { good = b.good; keeps = b.keeps }
  read_true name session (Behind first) now s h = stays s _ refl (ended_true (ends.Lagged session.position first) s h)
  read_true name session Unread now s h = stays s s refl h

  pub page_true : (name : List ℕ) (session : Session) (o : Option ChannelReply) (now : ℕ) (s : actor.State) → IsTrueActor channels s → Becomes channels s (page_by name session o now s)
  page_true name session None now s h = stays s s refl h
  page_true name session (Some reply) now s h =
      let b = puts_true (option_to_list (page_frame reply session.pages)) now (record s { sessions = with_entry name (paged (page_absorbed reply session.pages) session) s.sessions })
      (page_frame_true reply session.pages s.holder) (record { held = h.held; wish_true = h.wish_true; known = h.known; put_out = h.put_out }) in
      record { good = b.good; keeps = b.keeps }

  pub session_true : (act : List ℕ → Session → actor.State → actor.State) (o : Option (List ℕ × Session)) (s : actor.State) → ((name : List ℕ) (session : Session) → Becomes channels s (act name session s)) → IsTrueActor channels s → Becomes channels s (on_session act o s)
  session_true act None s each h = stays s s refl h
  session_true act (Some e) s each h = each e.0 e.1
