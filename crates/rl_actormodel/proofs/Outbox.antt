-- How many frames wait.
use Rattle.std.specs.Prelude.{drop, option_to_list, if◌then◌else◌, ◌&&◌, ◌⊎◌, nat_le, map}
use Rattle.std.proofs.Common.{◌≡◌, ℕ, ◌+◌, ◌≤◌, Bool, true, false, List, [], ◌∷◌, ◌++◌, length, length-append, Option, Some, None, refl, sym, ap, subst, arith, inl, inr}
use Rattle.std.specs.Prelude.{option_map}
use Rattle.std.proofs.lemmas.Bool.Decides.{nat_tests}
use Rattle.std.proofs.lemmas.List.{length-map}
use Rattle.rl_numbers.specs.declared.limits.TheConstants.{OUTBOX_ROOM}
use Rattle.rl_ids.specs.declared.members.MemberKey.{MemberKey}
use Rattle.rl_ids.specs.declared.objects.ObjectId.{ObjectId}
use Rattle.rl_types.specs.declared.messages.Body.{Body}
use Rattle.rl_types.specs.declared.messages.Entry.{Entry}
use Rattle.rl_types.specs.declared.frames.Head.{Head}
use Rattle.rl_types.specs.declared.frames.Frame.{Frame}
use Rattle.rl_types.specs.declared.frames.Frame.TheVariants as frames
use Rattle.rl_runs.specs.declared.commands.Hello.{Hello}
use Rattle.rl_events.specs.declared.channel.Outcome.{Outcome}
use Rattle.rl_events.specs.declared.channel.Outcome.TheVariants.{Taken, Refused}
use Rattle.rl_events.specs.declared.channel.Verdict.{Verdict}
use Rattle.rl_events.specs.declared.channel.ChannelEvent.{ChannelEvent}
use Rattle.rl_events.specs.declared.channel.ChannelEvent.TheVariants as events
use Rattle.rl_events.specs.declared.channel.ChannelReply.{ChannelReply}
use Rattle.rl_events.specs.declared.channel.ChannelReply.TheVariants as channel
use Rattle.rl_events.specs.declared.channel.ReadReply.TheVariants.{Run, NotRetained}
use Rattle.rl_events.specs.declared.calls.Call.{Call}
use Rattle.rl_events.specs.declared.calls.Call.TheVariants as calls
use Rattle.rl_events.specs.declared.calls.Reply.{Reply}
use Rattle.rl_events.specs.declared.calls.Reply.TheVariants as replies
use Rattle.rl_events.specs.declared.calls.End.{End}
use Rattle.rl_events.specs.declared.calls.End.TheVariants as ends
use Rattle.rl_pages.specs.State.{Sequences, page_frame, may_end, is_complete, end_pages}
use Rattle.rl_pages.specs.Frames.{end_at, member_frame, object_frame}
use Rattle.rl_actormodel.specs.declared.parts.Asked.{Asked}
use Rattle.rl_actormodel.specs.declared.parts.Publish.{Publish}
use Rattle.rl_actormodel.specs.declared.parts.Holder.{Holder}
use Rattle.rl_actormodel.specs.declared.parts.Session.{Session}
use Rattle.rl_actormodel.specs.declared.parts.Wish.{Wish}
use Rattle.rl_actormodel.specs.declared.parts.Wish.TheVariants as wishes
use Rattle.rl_names.specs.Names.{at}
use Rattle.rl_actormodel.specs.State.{State, begun, numbered, is_nothing, is_free, has_room, put, puts}
use Rattle.rl_actormodel.specs.Ends.{farewell, ended_by, over_at}
use Rattle.rl_actormodel.specs.Wishes.{wanted, call_of, page_of, read_of, page_call, poll_call}
use Rattle.rl_actormodel.specs.Takes.{Came, A, Unknown, Bad, publish, took}
use Rattle.rl_actormodel.specs.Takes as takes
use Rattle.rl_actormodel.specs.Replies.{Opening, Opens, Limited, Unopened, opening, Standing, Passed, Gone, Holds, Unsaid, standing, Beginning, Overtaken, Missing, Knows, Above, Below, Goes, Unbegun, beginning, Resuming, Back, NotKnown, Unresumed, resuming, Numbering, Has, HasNone, Unnumbered, numbering, Joining, joining_in, verdict_in, Reading, Behind, Unread, reading, channel_reply}
use Rattle.rl_actormodel.specs.Replies as views
use Rattle.rl_actormodel.specs.Connects.{resumed_by, opened_by, if_held, closed}
use Rattle.rl_actormodel.specs.Attaches.{attach_at, joined_by}
use Rattle.rl_actormodel.specs.Publishes.{settled, begun_by, put_at, put_by}
use Rattle.rl_actormodel.specs.Pagings.{page_by, ends_here}
use Rattle.rl_actormodel.specs.Reads.{entry_frame, moved_on, read_into, read_by, on_session, replied, answered, answered_at}
use Rattle.rl_actormodel.specs.Rests.{is_empty, is_idle, is_quiet}
use Rattle.rl_actormodel.specs.Inputs.{Input, Took, Absorbed, Rested, Ended, Gave, step, after}
use Rattle.rl_actormodel.specs.Conditions.{is_reply_to, IsCalled, IsAllowed, AreAllowed}
use Rattle.rl_actormodel.specs.Laws.{OutboxIsBounded}
use Rattle.rl_actormodel.proofs.Answered.{free_is, session_free, both_free}

-- the most frames that wait: where the actor is ended, where it is free, where it wants a call
abbrev most : Option End → Bool → ℕ
most (Some why) free = 243
most None true = 242
most None false = 224

record Fits (s : State) : Type 0 where
  few : length s.waiting ≤ most s.ended (is_nothing s.wish)

-- LISTS

stay : (e : Option End) (b : Bool) (n : ℕ) → n ≤ 224 → n ≤ most e b
stay (Some why) b n h = omega arith
stay None true n h = omega arith
stay None false n h = omega arith

below : (e : Option End) (b : Bool) (n : ℕ) → n ≤ most e b → n ≤ 243
below (Some why) b n h = omega arith
below None true n h = omega arith
below None false n h = omega arith

alive : (e : Option End) (b : Bool) (n : ℕ) → e ≡ None → n ≤ most e b → n ≤ 242
alive (Some why) b n e h = cc
alive None true n e h = omega arith
alive None false n e h = omega arith

many : (e : Option End) (b : Bool) (w fs : List Frame) → b ≡ true → length w ≤ 224 → length fs ≤ 18 → length (w ++ fs) ≤ most e b
many (Some why) b w fs is h k = let l = length-append w fs in omega (arith, h, k, l)
many None true w fs is h k = let l = length-append w fs in omega (arith, h, k, l)
many None false w fs is h k = cc

one : (f : Frame) (e : Option End) (w : List Frame) → length w ≤ 224 → length (w ++ f ∷ []) ≤ most e true
one f e w h = many e true w (f ∷ []) refl h (omega arith)

of_option : (o : Option Frame) → length (option_to_list o) ≤ 1
of_option None = omega arith
of_option (Some f) = omega arith

-- STEPS

ends_fit : (why : End) (s : State) → length s.waiting ≤ 242 → Fits (ended_by why s)
ends_fit why s h = record { few = let l = length-append s.waiting (option_to_list (farewell why)) in let o = of_option (farewell why) in omega (arith, h, l, o) }

ended_fits : (why : End) (s : State) → length s.waiting ≤ 224 → Fits (ended_by why s)
ended_fits why s h = ends_fit why s (omega (arith, h))

stays : (s t : State) → t.waiting ≡ s.waiting → length s.waiting ≤ 224 → Fits t
stays s t w h = record { few = stay t.ended (is_nothing t.wish) (length t.waiting) (let l = ap (λ (x : List Frame). length x) w in omega (arith, h, l)) }

resumed_fits : (key : List ℕ) (v : Resuming) (now : ℕ) (s : State) → length s.waiting ≤ 224 → Fits (resumed_by key v now s)
resumed_fits key (Back holder) now s h = record { few = one _ s.ended s.waiting h }
resumed_fits key NotKnown now s h = stays s _ refl h
resumed_fits key Unresumed now s h = stays s s refl h

opened_fits : (v : Opening) (now : ℕ) (s : State) → length s.waiting ≤ 224 → Fits (opened_by v now s)
opened_fits (Opens holder key) now s h = record { few = one _ s.ended s.waiting h }
opened_fits (Limited count given) now s h = ended_fits (ends.ConnectionLimit count given) s h
opened_fits Unopened now s h = stays s s refl h

closed_fits : (now : ℕ) (s : State) → length s.waiting ≤ 224 → Fits (closed now s)
closed_fits now s h = ends_fit ends.Closed (put frames.Closed now s) (let l = length-append s.waiting (frames.Closed ∷ []) in omega (arith, h, l))

held_fits : (holder : Holder) (v : Standing) (next : State → State) (s : State) → length s.waiting ≤ 224 → Fits (next s) → Fits (if_held holder v next s)
held_fits holder (Passed newer) next s h f = ended_fits (ends.Superseded holder.generation newer) s h
held_fits holder Gone next s h f = ended_fits ends.Forgotten s h
held_fits holder Holds next s h f = f
held_fits holder Unsaid next s h f = stays s s refl h

attach_fits : (asked : Asked) (v : Numbering) (now : ℕ) (s : State) → length s.waiting ≤ 224 → Fits (attach_at asked v now s)
attach_fits asked (Has number) now s h = stays s _ refl h
attach_fits asked HasNone now s h = record { few = one _ s.ended s.waiting h }
attach_fits asked Unnumbered now s h = stays s s refl h

joined_fits : (asked : Asked) (number : ℕ) (v : Option Joining) (now : ℕ) (s : State) → length s.waiting ≤ 224 → Fits (joined_by asked number v now s)
joined_fits asked number None now s h = stays s s refl h
joined_fits asked number (Some j) now s h = record { few = one _ s.ended s.waiting h }

settled_fits : (p : Publish) (v : Option Outcome) (now : ℕ) (s : State) → length s.waiting ≤ 224 → Fits (settled p v now s)
settled_fits p None now s h = stays s _ refl h
settled_fits p (Some (Taken place)) now s h = record { few = one _ s.ended s.waiting h }
settled_fits p (Some (Refused code)) now s h = record { few = one _ s.ended s.waiting h }

begun_fits : (p : Publish) (holder : Holder) (v : Beginning) (now : ℕ) (s : State) → length s.waiting ≤ 224 → Fits (begun_by p holder v now s)
begun_fits p holder (Overtaken newer) now s h = ended_fits (ends.Superseded holder.generation newer) s h
begun_fits p holder Missing now s h = ended_fits ends.Forgotten s h
begun_fits p holder (Knows outcome) now s h = settled_fits p (Some outcome) now s h
begun_fits p holder (Above got expected) now s h = ended_fits (ends.SerialGap got expected) s h
begun_fits p holder (Below got expected) now s h = ended_fits (ends.SerialOld got expected) s h
begun_fits p holder Goes now s h = stays s _ refl h
begun_fits p holder Unbegun now s h = stays s s refl h

put_fits : (p : Publish) (holder : Holder) (v : Numbering) (s : State) → length s.waiting ≤ 224 → Fits (put_at p holder v s)
put_fits p holder (Has number) s h = stays s _ refl h
put_fits p holder HasNone s h = stays s _ refl h
put_fits p holder Unnumbered s h = stays s s refl h

verdict_fits : (p : Publish) (holder : Holder) (v : Option Verdict) (s : State) → length s.waiting ≤ 224 → Fits (put_by p holder v s)
verdict_fits p holder (Some verdict) s h = stays s _ refl h
verdict_fits p holder None s h = stays s s refl h

replied_fits : (wish : Wish) (reply : Reply) (now : ℕ) (s : State) → length s.waiting ≤ 224 → Fits (replied wish reply now s)
replied_fits wishes.Nothing reply now s h = stays s _ refl h
replied_fits (wishes.Resume key) reply now s h = resumed_fits key (resuming reply) now s h
replied_fits wishes.Open reply now s h = opened_fits (opening reply) now s h
replied_fits (wishes.Lost holder) reply now s h = stays s _ refl h
replied_fits (wishes.Close holder) reply now s h = held_fits holder (standing reply) (closed now) s h (closed_fits now s h)
replied_fits (wishes.AskToAttach asked) reply now s h = attach_fits asked (numbering reply) now s h
replied_fits (wishes.Join asked number) reply now s h = joined_fits asked number (joining_in reply) now s h
replied_fits (wishes.Begin p holder) reply now s h = begun_fits p holder (beginning reply) now s h
replied_fits (wishes.AskToPut p holder) reply now s h = put_fits p holder (numbering reply) s h
replied_fits (wishes.Put p holder number) reply now s h = verdict_fits p holder (verdict_in reply) s h
replied_fits (wishes.Finish p holder outcome) reply now s h = held_fits holder (standing reply) (settled p outcome now) s h (settled_fits p outcome now s h)

-- PAGES AND READS

puts_fit : (fs : List Frame) (now : ℕ) (s t : State) → t.waiting ≡ s.waiting → is_nothing t.wish ≡ true → length s.waiting ≤ 224 → length fs ≤ 18 → Fits (puts fs now t)
puts_fit [] now s t w is h k = stays s t w h
puts_fit (f ∷ fs) now s t w is h k = record {
  few = many t.ended (is_nothing t.wish) t.waiting (f ∷ fs) is (let l = ap (λ (x : List Frame). length x) w in omega (arith, h, l)) k;
}

page_fits : (name : List ℕ) (session : Session) (v : Option ChannelReply) (now : ℕ) (s : State) → is_nothing s.wish ≡ true → length s.waiting ≤ 224 → Fits (page_by name session v now s)
page_fits name session None now s is h = stays s _ refl h
page_fits name session (Some reply) now s is h =
    puts_fit (option_to_list (page_frame reply session.pages)) now s _ refl is h (let o = of_option (page_frame reply session.pages) in omega (arith, o))

abbrev two_ends : Bool → Bool → Sequences → List Frame
two_ends members objects pages =
    (if members then member_frame pages.channel (end_at pages.sequence) [] ∷ [] else [])
    ++ (if objects then object_frame pages.channel (end_at pages.sequence) [] ∷ [] else [])

two : (members objects : Bool) (pages : Sequences) → length (two_ends members objects pages) ≤ 2
two true true pages = omega arith
two true false pages = omega arith
two false true pages = omega arith
two false false pages = omega arith

ends_few : (may complete : Bool) (pages : Sequences) → length (if may then (if complete then end_pages pages else []) else []) ≤ 2
ends_few true true pages = two pages.members.asked pages.objects.asked pages
ends_few true false pages = omega arith
ends_few false complete pages = omega arith

into_fits : (name : List ℕ) (entries : List Entry) (session : Session) (now : ℕ) (s : State) → is_nothing s.wish ≡ true → length s.waiting ≤ 224 → length entries ≤ 16 → Fits (read_into name entries session now s)
into_fits name entries session now s is h few =
    let shown = map (entry_frame name session.epoch) entries in
    let l = length-append shown (ends_here session) in
    let m = length-map entries (entry_frame name session.epoch) in
    let e = ends_few (may_end session.position session.pages) (is_complete session.pages) session.pages in
    puts_fit (shown ++ ends_here session) now s _ refl is h (omega (arith, l, m, e, few))

-- the entries of a reading
abbrev count : Reading → ℕ
count (views.Came entries) = length entries
count reading = 0

read_fits : (name : List ℕ) (session : Session) (v : Reading) (now : ℕ) (s : State) → is_nothing s.wish ≡ true → length s.waiting ≤ 224 → count v ≤ 16 → Fits (read_by name session v now s)
read_fits name session (views.Came entries) now s is h few = into_fits name entries (moved_on (length entries) session) now s is h few
read_fits name session (Behind first) now s is h few = ended_fits (ends.Lagged session.position first) s h
read_fits name session Unread now s is h few = stays s _ refl h

page_session : (v : Option (List ℕ × Session)) (reply : Reply) (now : ℕ) (s : State) → is_nothing s.wish ≡ true → length s.waiting ≤ 224
    → Fits (on_session (λ name session. page_by name session (channel_reply reply) now) v s)
page_session None reply now s is h = stays s _ refl h
page_session (Some e) reply now s is h = page_fits e.0 e.1 (channel_reply reply) now s is h

read_session : (v : Option (List ℕ × Session)) (reply : Reply) (now : ℕ) (s : State) → is_nothing s.wish ≡ true → length s.waiting ≤ 224 → count (reading reply) ≤ 16
    → Fits (on_session (λ name session. read_by name session (reading reply) now) v s)
read_session None reply now s is h few = stays s _ refl h
read_session (Some e) reply now s is h few = read_fits e.0 e.1 (reading reply) now s is h few

-- how many entries a call asks for
abbrev asked_for : Option Call → ℕ
asked_for (Some (calls.Chan number (events.Read from limit))) = limit
asked_for call = 0

wanted_none : (wish : Wish) (hello : Hello) (moment : ℕ) → asked_for (wanted wish hello moment) ≤ 16
wanted_none wishes.Nothing hello moment = omega arith
wanted_none (wishes.Resume key) hello moment = omega arith
wanted_none wishes.Open hello moment = omega arith
wanted_none (wishes.Lost holder) hello moment = omega arith
wanted_none (wishes.Close holder) hello moment = omega arith
wanted_none (wishes.AskToAttach asked) hello moment = omega arith
wanted_none (wishes.Join asked number) hello moment = omega arith
wanted_none (wishes.Begin p holder) hello moment = omega arith
wanted_none (wishes.AskToPut p holder) hello moment = omega arith
wanted_none (wishes.Put p holder number) hello moment = omega arith
wanted_none (wishes.Finish p holder outcome) hello moment = omega arith

poll_few : (b : Bool) (found : Option Session) → asked_for (if b then call_of read_of found else None) ≤ 16
poll_few true None = omega arith
poll_few true (Some session) = omega arith
poll_few false found = omega arith

abbrev page_event : Bool → Bool → Option MemberKey → Option ObjectId → Option ChannelEvent
page_event members objects member object = if members then Some (events.MemberPage member 64) else if objects then Some (events.ObjectPage object 4) else None

page_none : (number : ℕ) (members objects : Bool) (member : Option MemberKey) (object : Option ObjectId) → asked_for (option_map (λ (event : ChannelEvent). calls.Chan number event) (page_event members objects member object)) ≤ 16
page_none number true objects member object = omega arith
page_none number false true member object = omega arith
page_none number false false member object = omega arith

page_few : (b : Bool) (found : Option Session) → asked_for (if b then call_of page_of found else None) ≤ 16
page_few true None = omega arith
page_few true (Some session) = page_none session.number _ _ session.pages.after_member session.pages.after_object
page_few false found = omega arith

called_few : (call : Call) (s : State) → IsCalled call s → asked_for (Some call) ≤ 16
called_few call s (inl h) = let l = wanted_none s.wish s.hello h.0 in let same = ap asked_for h.1 in omega (arith, l, same)
called_few call s (inr h) = by_kind h.1
  where
    by_kind : (page_call h.0 s ≡ Some call) ⊎ (poll_call h.0 s ≡ Some call) → asked_for (Some call) ≤ 16
    by_kind (inl p) = let l = page_few (is_free s) (at h.0 s.sessions) in let same = ap asked_for p in omega (arith, l, same)
    by_kind (inr p) = let l = poll_few (is_free s) (at h.0 s.sessions) in let same = ap asked_for p in omega (arith, l, same)

-- a run has no more entries than were asked for
run_few : (number from limit : ℕ) (reply : Reply) → is_reply_to (calls.Chan number (events.Read from limit)) reply ≡ true → count (reading reply) ≤ limit
run_few number from limit (replies.Book reply) is = cc
run_few number from limit (replies.Dir reply) is = cc
run_few number from limit (replies.Chan (channel.Put verdict)) is = cc
run_few number from limit (replies.Chan (channel.Joined told resumed presence objects)) is = cc
run_few number from limit (replies.Chan (channel.Read (Run entries))) is = let l = both_free (nat_le (length entries) limit) _ is in grind (arith, nat_tests)
run_few number from limit (replies.Chan (channel.Read (NotRetained first))) is = omega arith
run_few number from limit (replies.Chan (channel.Members items last head)) is = cc
run_few number from limit (replies.Chan (channel.Objects states last head)) is = cc
run_few number from limit (replies.Chan (channel.Gone place)) is = cc
run_few number from limit (replies.Chan channel.Ticked) is = cc
run_few number from limit (replies.Chan (channel.Census first head members objects)) is = cc

-- ONE INPUT

wish_is : (wish : Wish) (hello : Hello) (moment : ℕ) (call : Call) → wanted wish hello moment ≡ Some call → is_nothing wish ≡ false
wish_is wishes.Nothing hello moment call h = cc
wish_is (wishes.Resume key) hello moment call h = refl
wish_is wishes.Open hello moment call h = refl
wish_is (wishes.Lost holder) hello moment call h = refl
wish_is (wishes.Close holder) hello moment call h = refl
wish_is (wishes.AskToAttach asked) hello moment call h = refl
wish_is (wishes.Join asked number) hello moment call h = refl
wish_is (wishes.Begin p holder) hello moment call h = refl
wish_is (wishes.AskToPut p holder) hello moment call h = refl
wish_is (wishes.Put p holder number) hello moment call h = refl
wish_is (wishes.Finish p holder outcome) hello moment call h = refl

-- where a call is made there is room
room_for : (call : Call) (s : State) → s.ended ≡ None → Fits s → IsCalled call s → length s.waiting ≤ 224
room_for call s e f (inl h) =
    let P = λ (o : Option End). length s.waiting ≤ most o (is_nothing s.wish) in
    let Q = λ (b : Bool). length s.waiting ≤ most None b in
    subst Q (wish_is s.wish s.hello h.0 call h.1) (subst P e f.few)
room_for call s e f (inr h) = let room = h.2 in grind (arith, nat_tests)

nothing : (s : State) → is_free s ≡ true → is_nothing s.wish ≡ true
nothing s free = ap is_nothing (free_is s.ended s.wish free).1

answered_fits : (call : Call) (reply : Reply) (now : ℕ) (s : State) → IsCalled call s → is_reply_to call reply ≡ true → length s.waiting ≤ 224 → Fits (answered call reply now s)
answered_fits (calls.Chan number (events.Read from limit)) reply now s c is h =
    let l = called_few (calls.Chan number (events.Read from limit)) s c in
    let m = run_few number from limit reply is in
    read_session (numbered number s.sessions) reply now s (nothing s (session_free _ s refl c)) h (omega (arith, l, m))
answered_fits (calls.Chan number (events.MemberPage past limit)) reply now s c is h = page_session (numbered number s.sessions) reply now s (nothing s (session_free _ s refl c)) h
answered_fits (calls.Chan number (events.ObjectPage past limit)) reply now s c is h = page_session (numbered number s.sessions) reply now s (nothing s (session_free _ s refl c)) h
answered_fits (calls.Chan number (events.Put a b d e)) reply now s c is h = replied_fits s.wish reply now s h
answered_fits (calls.Chan number (events.Join a)) reply now s c is h = replied_fits s.wish reply now s h
answered_fits (calls.Chan number (events.Gone a b)) reply now s c is h = replied_fits s.wish reply now s h
answered_fits (calls.Chan number (events.Tick a)) reply now s c is h = replied_fits s.wish reply now s h
answered_fits (calls.Chan number events.Census) reply now s c is h = replied_fits s.wish reply now s h
answered_fits (calls.Book event) reply now s c is h = replied_fits s.wish reply now s h
answered_fits (calls.Dir event) reply now s c is h = replied_fits s.wish reply now s h

absorbed_fits : (e : Option End) (call : Call) (reply : Reply) (now : ℕ) (s : State) → s.ended ≡ e → Fits s → IsCalled call s → is_reply_to call reply ≡ true → Fits (answered_at e call reply now s)
absorbed_fits None call reply now s e f c is = answered_fits call reply now s c is (room_for call s e f c)
absorbed_fits (Some why) call reply now s e f c is =
    let P = λ (o : Option End). length s.waiting ≤ most o true in
    let l : length s.waiting ≤ 243 = below s.ended (is_nothing s.wish) (length s.waiting) f.few in
    record { few = subst P (sym e) l }

publish_fits : (head : Head) (serial : Option ℕ) (body : Body) (s : State) → length s.waiting ≤ 224 → Fits (publish head serial body s)
publish_fits head None body s h = stays s _ refl h
publish_fits head (Some serial) body s h = stays s _ refl h

take_fits : (frame : Frame) (now : ℕ) (s : State) → is_nothing s.wish ≡ true → length s.waiting ≤ 224 → Fits (takes.take frame now s)
take_fits (frames.Attach channel serial) now s is h = stays s _ refl h
take_fits (frames.Detach channel) now s is h = record { few = many s.ended (is_nothing s.wish) s.waiting (_ ∷ []) is h (omega arith) }
take_fits (frames.Message head items) now s is h = publish_fits head head.msg _ s h
take_fits (frames.Presence head items) now s is h = publish_fits head head.msg _ s h
take_fits (frames.Object head ops) now s is h = publish_fits head head.msg _ s h
take_fits frames.Close now s is h = stays s _ refl h
take_fits frames.Heartbeat now s is h = record { few = many s.ended (is_nothing s.wish) s.waiting (_ ∷ []) is h (omega arith) }
take_fits (frames.Ack serial count) now s is h = stays s _ refl h
take_fits (frames.Nack serial count code) now s is h = stays s _ refl h
take_fits frames.Connect now s is h = stays s _ refl h
take_fits (frames.Connected a b c d e f) now s is h = stays s _ refl h
take_fits frames.Disconnect now s is h = stays s _ refl h
take_fits (frames.Disconnected code) now s is h = stays s _ refl h
take_fits frames.Closed now s is h = stays s _ refl h
take_fits (frames.Error channel code) now s is h = stays s _ refl h
take_fits (frames.Attached a b c d) now s is h = stays s _ refl h
take_fits (frames.Detached channel code) now s is h = stays s _ refl h
take_fits (frames.Sync channel place items) now s is h = stays s _ refl h
take_fits frames.Auth now s is h = stays s _ refl h
take_fits (frames.ObjectSync channel place states) now s is h = stays s _ refl h

took_fits : (came : Came) (now : ℕ) (s : State) → is_nothing s.wish ≡ true → length s.waiting ≤ 224 → Fits (took came now s)
took_fits (A frame) now s is h = take_fits frame now (record s { last_in = now }) is h
took_fits Unknown now s is h = stays s _ refl h
took_fits (Bad bytes) now s is h = ended_fits (ends.BadFrame bytes) (record s { last_in = now }) h

none_waits : (w : List Frame) (b : Bool) → (is_empty w && b) ≡ true → length w ≤ 0
none_waits [] b h = omega arith
none_waits (f ∷ more) b h = cc

abbrev rests_by : Bool → Bool → Bool → ℕ → State → State
rests_by free idle quiet now s = if free then (if idle then ended_by (ends.Idle s.last_in now) s else (if quiet then put frames.Heartbeat now s else s)) else s

rest_fits : (free idle quiet : Bool) (now : ℕ) (s : State) → is_free s ≡ free → is_quiet now s ≡ quiet → Fits s → Fits (rests_by free idle quiet now s)
rest_fits false idle quiet now s free is f = f
rest_fits true true quiet now s free is f = ends_fit (ends.Idle s.last_in now) s (alive s.ended (is_nothing s.wish) (length s.waiting) (free_is s.ended s.wish free).0 f.few)
rest_fits true false true now s free is f =
    let none = none_waits s.waiting (nat_le (s.last_out + 10000) now) is in
    record { few = many s.ended (is_nothing s.wish) s.waiting (frames.Heartbeat ∷ []) (nothing s free) (omega (arith, none)) (omega arith) }
rest_fits true false false now s free is f = f

over_fits : (e : Option End) (why : End) (s : State) → s.ended ≡ e → Fits s → Fits (over_at e why s)
over_fits None why s e f = ends_fit why s (alive s.ended (is_nothing s.wish) (length s.waiting) e f.few)
over_fits (Some end) why s e f = f

dropped : (w : List Frame) → length (drop 1 w) ≤ length w
dropped [] = omega arith
dropped (f ∷ more) = omega arith

fewer : (e : Option End) (b : Bool) (m n : ℕ) → m ≤ n → n ≤ most e b → m ≤ most e b
fewer (Some why) b m n l h = omega arith
fewer None true m n l h = omega arith
fewer None false m n l h = omega arith

input_fits : (input : Input) (s : State) → IsAllowed input s → Fits s → Fits (step input s)
input_fits (Took came now) s a f =
    let free = both_free (is_free s) (has_room s) a.0 in
    let room = second (is_free s) (has_room s) a.0 in
    took_fits came now s (nothing s free) (room_is (length s.waiting) room)
  where
    second : (b c : Bool) → (b && c) ≡ true → c ≡ true
    second true c h = h
    second false c h = cc

    room_is : (n : ℕ) → nat_le n OUTBOX_ROOM ≡ true → n ≤ 224
    room_is n h = grind (arith, nat_tests)
input_fits (Absorbed call reply now) s a f = absorbed_fits s.ended call reply now s refl f a.0 a.1
input_fits (Rested now) s a f = rest_fits (is_free s) (is_idle now s) (is_quiet now s) now s refl refl f
input_fits (Ended why) s a f = over_fits s.ended why s refl f
input_fits Gave s a f = record { few = fewer s.ended (is_nothing s.wish) (length (drop 1 s.waiting)) (length s.waiting) (dropped s.waiting) f.few }

-- ALL INPUTS

all_fit : (hello : Hello) (start : ℕ) (inputs : List Input) → AreAllowed inputs (begun hello start) → Fits (after hello start inputs)
all_fit hello start [] a = record { few = stay None (is_nothing (begun hello start).wish) 0 (omega arith) }
all_fit hello start (input ∷ before) a = input_fits input (after hello start before) a.0 (all_fit hello start before a.1)

pub outbox_is_bounded : OutboxIsBounded
outbox_is_bounded hello start inputs a =
    let s : State = after hello start inputs in
    let f = all_fit hello start inputs a in
    let l = below s.ended (is_nothing s.wish) (length s.waiting) f.few in
    omega (arith, l)
