-- Each input leaves an actor's numbers and sessions those of their channels.
use Rattle.std.proofs.Common.{◌≡◌, ℕ, ◌+◌, ◌≤◌, Bool, true, false, List, [], ◌∷◌, ◌++◌, length, map, sym, subst, refl, ◌∙◌, arith}
use Rattle.std.specs.Prelude.{Option, Some, None, if◌then◌else◌, ⊤, option_to_list, max}
use Rattle.std.specs.List.{AllByRecursion}
use Rattle.rl_types.specs.declared.frames.Frame.{Frame}
use Rattle.rl_types.specs.declared.frames.Frame.TheVariants as frames
use Rattle.rl_types.specs.declared.frames.Head.{Head}
use Rattle.rl_types.specs.declared.messages.Body.{Body}
use Rattle.rl_types.specs.declared.messages.Body.TheVariants.{Messages, Presence, Objects}
use Rattle.rl_events.specs.declared.channel.ChannelReply.{ChannelReply}
use Rattle.rl_events.specs.declared.channel.ChannelReply.TheVariants as channel
use Rattle.rl_events.specs.declared.channel.Outcome.{Outcome}
use Rattle.rl_events.specs.declared.channel.Outcome.TheVariants.{Taken, Refused}
use Rattle.rl_events.specs.declared.channel.Verdict.{Verdict}
use Rattle.rl_events.specs.declared.calls.End.{End}
use Rattle.rl_events.specs.declared.calls.End.TheVariants as ends
use Rattle.rl_events.specs.declared.calls.Reply.{Reply}
use Rattle.rl_numbers.specs.declared.codes.TheConstants.{CHANNEL_LIMIT}
use Rattle.rl_pages.specs.State.{Sequences, page_frame, page_absorbed, may_end}
use Rattle.rl_pages.specs.State as pages
use Rattle.rl_objmodel.specs.Places.{AreRising}
use Rattle.rl_names.specs.Names.{at, with_entry}
use Rattle.rl_actormodel.specs.declared.parts.Asked.{Asked}
use Rattle.rl_actormodel.specs.declared.parts.Publish.{Publish}
use Rattle.rl_actormodel.specs.declared.parts.Holder.{Holder}
use Rattle.rl_actormodel.specs.declared.parts.Session.{Session}
use Rattle.rl_actormodel.specs.declared.parts.Wish.{Wish}
use Rattle.rl_actormodel.specs.declared.parts.Wish.TheVariants as wishes
use Rattle.rl_actormodel.specs.State as actor
use Rattle.rl_actormodel.specs.State.{put, puts, wishing}
use Rattle.rl_actormodel.specs.Ends.{lost_wish, last_wish, ended_by, over_at}
use Rattle.rl_actormodel.specs.Takes as takes
use Rattle.rl_actormodel.specs.Takes.{attach_wish, begin_wish, close_wish, publish, take, take_any, took, signed, signed_member}
use Rattle.rl_actormodel.specs.Rests.{rested, is_idle, is_quiet}
use Rattle.rl_actormodel.specs.Replies.{Standing, Passed, Gone, Holds, Unsaid, standing, Beginning, Overtaken, Missing, Knows, Above, Below, Goes, Unbegun, beginning, Opening, Opens, Limited, Unopened, opening, Resuming, Back, NotKnown, Unresumed, resuming, Numbering, Has, HasNone, Unnumbered, numbering, Joining, joining_in, outcome_of, verdict_in, Reading, Came, Behind, Unread}
use Rattle.rl_actormodel.specs.Connects.{resumed_by, opened_by, if_held, closed}
use Rattle.rl_actormodel.specs.Attaches.{attach_at, new_session, next_sequence, joined_by}
use Rattle.rl_actormodel.specs.Publishes.{settled, put_wish, begun_by, put_at, put_by}
use Rattle.rl_actormodel.specs.Pagings.{paged, page_by, ends_here, ended_here}
use Rattle.rl_actormodel.specs.Reads.{entry_frame, moved_on, read_by, replied}
use Rattle.rl_worldmodel.specs.World.{the_epoch}
use Rattle.rl_worldtold.specs.Truth.{Channels}
use Rattle.rl_worldsessions.specs.Serving.{HasNumber, last_place, ArePagesOf, IsSessionOf, IsAddressed, IsLastWish, Serves}
use Rattle.rl_worldsessions.proofs.Entries.{all_with, all_without, all_found, order_with, order_without}
use Rattle.rl_worldsessions.proofs.Growth.{Grown}

-- CHANNELS GROW

module _ (before after : Channels) (g : Grown before after) where
  session_grows : (e : List ℕ × Session) → IsSessionOf before e → IsSessionOf after e
  session_grows e is = record {
    numbered = g.has e.0 e.1.number is.numbered;
    within = omega (arith, is.within, g.low e.1.number);
    of_run = is.of_run;
    paged = record { named = is.paged.named; members = omega (arith, is.paged.members, g.low e.1.number); objects = omega (arith, is.paged.objects, g.low e.1.number) };
  }

  addressed_grows : (wish : Wish) → IsAddressed before wish → IsAddressed after wish
  addressed_grows (wishes.Join asked number) is = g.has asked.channel number is
  addressed_grows (wishes.Put p holder number) is = g.has p.channel number is
  addressed_grows wish is = tt

  pub serves_grows : (s : actor.State) → Serves before s → Serves after s
  serves_grows s h = record {
    numbers = all_weak s.numbers h.numbers;
    sessions = all_sessions s.sessions h.sessions;
    once = h.once;
    addressed = addressed_grows s.wish h.addressed;
    over = h.over;
  }
    where
      all_weak : (es : List (List ℕ × ℕ)) → AllByRecursion (λ (e : List ℕ × ℕ). HasNumber before e.0 e.1) es → AllByRecursion (λ (e : List ℕ × ℕ). HasNumber after e.0 e.1) es
      all_weak [] all = tt
      all_weak (e ∷ es) all = (g.has e.0 e.1 all.0, all_weak es all.1)

      all_sessions : (es : List (List ℕ × Session)) → AllByRecursion (IsSessionOf before) es → AllByRecursion (IsSessionOf after) es
      all_sessions [] all = tt
      all_sessions (e ∷ es) all = (session_grows e all.0, all_sessions es all.1)

-- THE LAST WISH

lost_last : (holder : Option Holder) → IsLastWish (lost_wish holder)
lost_last None = tt
lost_last (Some holder) = tt

last_last : (why : End) (holder : Option Holder) → IsLastWish (last_wish why holder)
last_last ends.Closed holder = tt
last_last (ends.Superseded mine newer) holder = tt
last_last ends.Forgotten holder = tt
last_last (ends.ConnectionLimit count given) holder = tt
last_last why holder = lost_last holder

module _ (channels : Channels) where
  last_addressed : (wish : Wish) → IsLastWish wish → IsAddressed channels wish
  last_addressed wishes.Nothing is = tt
  last_addressed (wishes.Lost holder) is = tt
  last_addressed wish is = absurd is

  -- HOW AN ACTOR ENDS

  pub ended_serves : (why : End) (s : actor.State) → Serves channels s → Serves channels (ended_by why s)
  ended_serves why s h = record {
    numbers = h.numbers;
    sessions = h.sessions;
    once = h.once;
    addressed = last_addressed (last_wish why s.holder) (last_last why s.holder);
    over = λ _ is. last_last why s.holder;
  }

  pub over_serves : (why : End) (o : Option End) (s : actor.State) → Serves channels s → Serves channels (over_at o why s)
  over_serves why None s h = ended_serves why s h
  over_serves why (Some end) s h = h

  -- the same but for what is no part of it
  stays : (s b : actor.State) → b.wish ≡ s.wish → b.ended ≡ s.ended → b.numbers ≡ s.numbers → b.sessions ≡ s.sessions → Serves channels s → Serves channels b
  stays s b w e n ss h = record {
    numbers = subst (λ (ns : List (List ℕ × ℕ)). AllByRecursion (λ (e : List ℕ × ℕ). HasNumber channels e.0 e.1) ns) (sym n) h.numbers;
    sessions = subst (λ (es : List (List ℕ × Session)). AllByRecursion (IsSessionOf channels) es) (sym ss) h.sessions;
    once = subst (λ (es : List (List ℕ × Session)). AreRising es) (sym ss) h.once;
    addressed = subst (IsAddressed channels) (sym w) h.addressed;
    over = λ why is. subst IsLastWish (sym w) (h.over why (sym e ∙ is));
  }

  pub puts_serves : (list : List Frame) (now : ℕ) (s : actor.State) → Serves channels s → Serves channels (puts list now s)
  puts_serves [] now s h = h
  puts_serves (frame ∷ more) now s h = stays s (puts (frame ∷ more) now s) refl refl refl refl h

  serves_if : (b : Bool) (x y : actor.State) → Serves channels x → Serves channels y → Serves channels (if b then x else y)
  serves_if true x y p q = p
  serves_if false x y p q = q

  pub rested_serves : (now : ℕ) (s : actor.State) → Serves channels s → Serves channels (rested now s)
  rested_serves now s h =
      serves_if (actor.is_free s) _ s
      (serves_if (is_idle now s) _ _ (ended_serves (ends.Idle s.last_in now) s h)
      (serves_if (is_quiet now s) _ s (stays s (put frames.Heartbeat now s) refl refl refl refl h) h))
      h

  -- one that is ended wants nothing more
  pub silent_serves : (s : actor.State) → Serves channels s → Serves channels (wishing wishes.Nothing s)
  silent_serves s h = record { numbers = h.numbers; sessions = h.sessions; once = h.once; addressed = tt; over = λ why is. tt }

  -- READS AND PAGES OF A SESSION

  abbrev IsOne : List ℕ → Session → Type 0
  IsOne name session = IsSessionOf channels (name, session)

  with_session : (name : List ℕ) (session : Session) (s : actor.State) → IsOne name session → Serves channels s → Serves channels (record s { sessions = with_entry name session s.sessions })
  with_session name session s is h = record {
    numbers = h.numbers;
    sessions = all_with (IsSessionOf channels) name session s.sessions is h.sessions;
    once = order_with name session s.sessions h.once;
    addressed = h.addressed;
    over = h.over;
  }

  ended_one : (b : Bool) (name : List ℕ) (session : Session) → IsOne name session → IsOne name (if b then paged (pages.ended session.pages) session else session)
  ended_one true name session is = record { numbered = is.numbered; within = is.within; of_run = is.of_run; paged = record { named = is.paged.named; members = is.paged.members; objects = is.paged.objects } }
  ended_one false name session is = is

  -- the entries that came are within the log
  abbrev pub IsReadFor : Session → Reading → Type 0
  IsReadFor session (Came list) = session.position + length list ≤ last_place session.number channels
  IsReadFor session reading = ⊤

  pub read_serves : (name : List ℕ) (session : Session) (r : Reading) (now : ℕ) (s : actor.State) → IsOne name session → IsReadFor session r → Serves channels s → Serves channels (read_by name session r now s)
  read_serves name session (Came list) now s is low h =
      let one : IsOne name (moved_on (length list) session) = record { numbered = is.numbered; within = low; of_run = is.of_run; paged = record { named = is.paged.named; members = is.paged.members; objects = is.paged.objects } } in
      puts_serves (map (entry_frame name session.epoch) list ++ ends_here (moved_on (length list) session)) now (record s { sessions = with_entry name (ended_here (moved_on (length list) session)) s.sessions })
      (with_session name (ended_here (moved_on (length list) session)) s (ended_one (may_end (session.position + length list) session.pages) name (moved_on (length list) session) one) h)
  read_serves name session (Behind first) now s is low h = ended_serves (ends.Lagged session.position first) s h
  read_serves name session Unread now s is low h = h

  -- a page came from within the log
  abbrev pub IsPageFor : ℕ → ChannelReply → Type 0
  IsPageFor last (channel.Members items end head) = head ≤ last
  IsPageFor last (channel.Objects states end head) = head ≤ last
  IsPageFor last reply = ⊤

  highest : (a b n : ℕ) → a ≤ n → b ≤ n → max a b ≤ n
  highest a b n p q = omega (arith, p, q)

  absorbed_pages : (reply : ChannelReply) (name : List ℕ) (last : ℕ) (p : Sequences) → IsPageFor last reply → ArePagesOf name last p → ArePagesOf name last (page_absorbed reply p)
  absorbed_pages (channel.Members items end head) name last p low h = record { named = h.named; members = highest p.members.head head last h.members low; objects = h.objects }
  absorbed_pages (channel.Objects states end head) name last p low h = record { named = h.named; members = h.members; objects = highest p.objects.head head last h.objects low }
  absorbed_pages reply name last p low h = h

  -- so does what came, where it is a reply of a channel
  abbrev pub ArePaged : ℕ → Option ChannelReply → Type 0
  ArePaged last None = ⊤
  ArePaged last (Some reply) = IsPageFor last reply

  pub page_serves : (name : List ℕ) (session : Session) (o : Option ChannelReply) (now : ℕ) (s : actor.State) → IsOne name session → ArePaged (last_place session.number channels) o → Serves channels s → Serves channels (page_by name session o now s)
  page_serves name session None now s is low h = h
  page_serves name session (Some reply) now s is low h =
      puts_serves (option_to_list (page_frame reply session.pages)) now (record s { sessions = with_entry name (paged (page_absorbed reply session.pages) session) s.sessions })
      (with_session name (paged (page_absorbed reply session.pages) session) s
      (record { numbered = is.numbered; within = is.within; of_run = is.of_run; paged = absorbed_pages reply name (last_place session.number channels) session.pages low is.paged }) h)

  -- one that is not ended wants something else
  wants : (wish : Wish) (s b : actor.State) → s.ended ≡ None → IsAddressed channels wish → b.wish ≡ wish → b.ended ≡ s.ended → b.numbers ≡ s.numbers → b.sessions ≡ s.sessions → Serves channels s → Serves channels b
  wants wish s b free has w e n ss h = record {
    numbers = subst (λ (ns : List (List ℕ × ℕ)). AllByRecursion (λ (e : List ℕ × ℕ). HasNumber channels e.0 e.1) ns) (sym n) h.numbers;
    sessions = subst (λ (es : List (List ℕ × Session)). AllByRecursion (IsSessionOf channels) es) (sym ss) h.sessions;
    once = subst (λ (es : List (List ℕ × Session)). AreRising es) (sym ss) h.once;
    addressed = subst (IsAddressed channels) (sym w) has;
    over = λ why is. let wrong : None ≡ Some why = sym free ∙ sym e ∙ is in absurd (cc);
  }

  begin_addressed : (p : Publish) (holder : Option Holder) → IsAddressed channels (begin_wish p holder)
  begin_addressed p None = tt
  begin_addressed p (Some holder) = tt

  close_addressed : (holder : Option Holder) → IsAddressed channels (close_wish holder)
  close_addressed None = tt
  close_addressed (Some holder) = tt

  -- A FRAME IS TAKEN UP, AND A REPLY ABSORBED, BY ONE THAT IS NOT ENDED

  module _ (s : actor.State) (free : s.ended ≡ None) (h : Serves channels s) where
    attach_addressed : (asked : Asked) (o : Option ℕ) → at asked.channel s.numbers ≡ o → IsAddressed channels (attach_wish asked o)
    attach_addressed asked None is = tt
    attach_addressed asked (Some number) is = all_found (λ (e : List ℕ × ℕ). HasNumber channels e.0 e.1) asked.channel number s.numbers h.numbers is

    put_addressed : (p : Publish) (holder : Holder) (o : Option ℕ) → at p.channel s.numbers ≡ o → IsAddressed channels (put_wish p holder o)
    put_addressed p holder None is = tt
    put_addressed p holder (Some number) is = all_found (λ (e : List ℕ × ℕ). HasNumber channels e.0 e.1) p.channel number s.numbers h.numbers is

    publish_serves : (head : Head) (o : Option ℕ) (body : Body) → Serves channels (publish head o body s)
    publish_serves head None body = h
    publish_serves head (Some serial) body = wants (begin_wish _ s.holder) s _ free (begin_addressed _ s.holder) refl refl refl refl h

    take_serves : (frame : Frame) (now : ℕ) → Serves channels (take frame now s)
    take_serves (frames.Attach name serial) now = wants (attach_wish (record { channel = name; serial = serial }) (at name s.numbers)) s _ free (attach_addressed (record { channel = name; serial = serial }) (at name s.numbers) refl) refl refl refl refl h
    take_serves (frames.Detach name) now = record {
      numbers = h.numbers;
      sessions = all_without (IsSessionOf channels) name s.sessions h.sessions;
      once = order_without name s.sessions h.once;
      addressed = h.addressed;
      over = h.over;
    }
    take_serves (frames.Message head items) now = publish_serves head head.msg (Messages (map (signed s.hello.client) items))
    take_serves (frames.Presence head items) now = publish_serves head head.msg (Presence (map (signed_member s.hello.client) items))
    take_serves (frames.Object head ops) now = publish_serves head head.msg (Objects ops)
    take_serves frames.Close now = wants (close_wish s.holder) s _ free (close_addressed s.holder) refl refl refl refl h
    take_serves frames.Heartbeat now = stays s (put frames.Heartbeat now s) refl refl refl refl h
    take_serves frame now = h

    any_serves : (came : takes.Came) (now : ℕ) → Serves channels (take_any came now s)
    any_serves (takes.A frame) now = take_serves frame now
    any_serves takes.Unknown now = h
    any_serves (takes.Bad bytes) now = ended_serves (ends.BadFrame bytes) s h

    resumed_serves : (key : List ℕ) (r : Resuming) (now : ℕ) → Serves channels (resumed_by key r now s)
    resumed_serves key (Back holder) now = wants wishes.Nothing s _ free tt refl refl refl refl h
    resumed_serves key NotKnown now = wants wishes.Open s _ free tt refl refl refl refl h
    resumed_serves key Unresumed now = h

    opened_serves : (o : Opening) (now : ℕ) → Serves channels (opened_by o now s)
    opened_serves (Opens holder key) now = wants wishes.Nothing s _ free tt refl refl refl refl h
    opened_serves (Limited count given) now = ended_serves (ends.ConnectionLimit count given) s h
    opened_serves Unopened now = h

    held_serves : (holder : Holder) (stands : Standing) (next : actor.State → actor.State) → Serves channels (next s) → Serves channels (if_held holder stands next s)
    held_serves holder (Passed newer) next good = ended_serves (ends.Superseded holder.generation newer) s h
    held_serves holder Gone next good = ended_serves ends.Forgotten s h
    held_serves holder Holds next good = good
    held_serves holder Unsaid next good = h

    settled_serves : (p : Publish) (o : Option Outcome) (now : ℕ) → Serves channels (settled p o now s)
    settled_serves p None now = wants wishes.Nothing s _ free tt refl refl refl refl h
    settled_serves p (Some (Taken place)) now = wants wishes.Nothing s _ free tt refl refl refl refl h
    settled_serves p (Some (Refused code)) now = wants wishes.Nothing s _ free tt refl refl refl refl h

    begun_serves : (p : Publish) (holder : Holder) (b : Beginning) (now : ℕ) → Serves channels (begun_by p holder b now s)
    begun_serves p holder (Overtaken newer) now = ended_serves (ends.Superseded holder.generation newer) s h
    begun_serves p holder Missing now = ended_serves ends.Forgotten s h
    begun_serves p holder (Knows outcome) now = settled_serves p (Some outcome) now
    begun_serves p holder (Above got expected) now = ended_serves (ends.SerialGap got expected) s h
    begun_serves p holder (Below got expected) now = ended_serves (ends.SerialOld got expected) s h
    begun_serves p holder Goes now = wants (put_wish p holder (at p.channel s.numbers)) s _ free (put_addressed p holder (at p.channel s.numbers) refl) refl refl refl refl h
    begun_serves p holder Unbegun now = h

    attach_serves : (asked : Asked) (o : Numbering) (now : ℕ) → ((n : ℕ) → o ≡ Has n → HasNumber channels asked.channel n) → Serves channels (attach_at asked o now s)
    attach_serves asked (Has number) now told = record {
      numbers = all_with (λ (e : List ℕ × ℕ). HasNumber channels e.0 e.1) asked.channel number s.numbers (told number refl) h.numbers;
      sessions = h.sessions;
      once = h.once;
      addressed = told number refl;
      over = λ why is. let wrong : None ≡ Some why = sym free ∙ is in absurd (cc);
    }
    attach_serves asked HasNone now told = wants wishes.Nothing s _ free tt refl refl refl refl h
    attach_serves asked Unnumbered now told = h

    put_at_serves : (p : Publish) (holder : Holder) (o : Numbering) → ((n : ℕ) → o ≡ Has n → HasNumber channels p.channel n) → Serves channels (put_at p holder o s)
    put_at_serves p holder (Has number) told = record {
      numbers = all_with (λ (e : List ℕ × ℕ). HasNumber channels e.0 e.1) p.channel number s.numbers (told number refl) h.numbers;
      sessions = h.sessions;
      once = h.once;
      addressed = told number refl;
      over = λ why is. let wrong : None ≡ Some why = sym free ∙ is in absurd (cc);
    }
    put_at_serves p holder HasNone told = wants (wishes.Finish p holder (Some (Refused CHANNEL_LIMIT))) s _ free tt refl refl refl refl h
    put_at_serves p holder Unnumbered told = h

    -- a session may begin there
    abbrev pub IsBeginning : ℕ → Joining → Type 0
    IsBeginning number j = (j.serial.place ≤ last_place number channels) × (j.serial.epoch ≡ the_epoch)

    join_serves : (asked : Asked) (number : ℕ) (o : Option Joining) (now : ℕ) → HasNumber channels asked.channel number → ((j : Joining) → o ≡ Some j → IsBeginning number j) → Serves channels (joined_by asked number o now s)
    join_serves asked number None now has told = h
    join_serves asked number (Some j) now has told = record {
      numbers = h.numbers;
      sessions = all_with (IsSessionOf channels) asked.channel (new_session asked.channel number j (next_sequence s)) s.sessions
          (record { numbered = has; within = (told j refl).0; of_run = (told j refl).1; paged = record { named = refl; members = omega arith; objects = omega arith } }) h.sessions;
      once = order_with asked.channel (new_session asked.channel number j (next_sequence s)) s.sessions h.once;
      addressed = tt;
      over = λ why is. tt;
    }

    put_by_serves : (p : Publish) (holder : Holder) (o : Option Verdict) → Serves channels (put_by p holder o s)
    put_by_serves p holder (Some verdict) = wants (wishes.Finish p holder (outcome_of verdict)) s _ free tt refl refl refl refl h
    put_by_serves p holder None = h

    -- what a reply has to say
    abbrev pub Suits : Wish → Reply → Type 0
    Suits (wishes.AskToAttach asked) reply = (n : ℕ) → numbering reply ≡ Has n → HasNumber channels asked.channel n
    Suits (wishes.AskToPut p holder) reply = (n : ℕ) → numbering reply ≡ Has n → HasNumber channels p.channel n
    Suits (wishes.Join asked number) reply = HasNumber channels asked.channel number × ((j : Joining) → joining_in reply ≡ Some j → IsBeginning number j)
    Suits wish reply = ⊤

    pub replied_serves : (wish : Wish) (reply : Reply) (now : ℕ) → Suits wish reply → Serves channels (replied wish reply now s)
    replied_serves wishes.Nothing reply now fit = h
    replied_serves (wishes.Resume key) reply now fit = resumed_serves key (resuming reply) now
    replied_serves wishes.Open reply now fit = opened_serves (opening reply) now
    replied_serves (wishes.Lost holder) reply now fit = wants wishes.Nothing s _ free tt refl refl refl refl h
    replied_serves (wishes.Close holder) reply now fit = held_serves holder (standing reply) (closed now) (ended_serves ends.Closed (put frames.Closed now s) (stays s (put frames.Closed now s) refl refl refl refl h))
    replied_serves (wishes.AskToAttach asked) reply now fit = attach_serves asked (numbering reply) now fit
    replied_serves (wishes.Join asked number) reply now fit = join_serves asked number (joining_in reply) now fit.0 fit.1
    replied_serves (wishes.Begin p holder) reply now fit = begun_serves p holder (beginning reply) now
    replied_serves (wishes.AskToPut p holder) reply now fit = put_at_serves p holder (numbering reply) fit
    replied_serves (wishes.Put p holder number) reply now fit = put_by_serves p holder (verdict_in reply)
    replied_serves (wishes.Finish p holder outcome) reply now fit = held_serves holder (standing reply) (settled p outcome now) (settled_serves p outcome now)

  -- whatever came
  pub took_serves : (came : takes.Came) (now : ℕ) (s : actor.State) → s.ended ≡ None → Serves channels s → Serves channels (took came now s)
  took_serves came now s free h = any_serves (record s { last_in = now }) free (stays s (record s { last_in = now }) refl refl refl refl h) came now
