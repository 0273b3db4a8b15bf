-- A free actor serves a connection.
use Rattle.std.specs.Prelude.{if◌then◌else◌, ◌++◌, is_none, map, option_to_list}
use Rattle.std.proofs.Common.{◌≡◌, ℕ, Bool, true, false, List, [], ◌∷◌, length, Option, Some, None, refl, sym, ap, ◌∙◌}
use Rattle.rl_types.specs.declared.messages.Body.{Body}
use Rattle.rl_types.specs.declared.messages.Entry.{Entry}
use Rattle.rl_types.specs.declared.frames.Head.{Head}
use Rattle.rl_types.specs.declared.frames.Frame.{Frame}
use Rattle.rl_types.specs.declared.frames.Frame.TheVariants as frames
use Rattle.rl_runs.specs.declared.commands.Hello.{Hello}
use Rattle.rl_events.specs.declared.channel.Outcome.{Outcome}
use Rattle.rl_events.specs.declared.channel.Outcome.TheVariants.{Taken, Refused}
use Rattle.rl_events.specs.declared.channel.Verdict.{Verdict}
use Rattle.rl_events.specs.declared.channel.ChannelEvent.TheVariants as events
use Rattle.rl_events.specs.declared.channel.ChannelReply.{ChannelReply}
use Rattle.rl_events.specs.declared.calls.Call.{Call}
use Rattle.rl_events.specs.declared.calls.Call.TheVariants as calls
use Rattle.rl_events.specs.declared.calls.Reply.{Reply}
use Rattle.rl_events.specs.declared.calls.End.{End}
use Rattle.rl_events.specs.declared.calls.End.TheVariants as ends
use Rattle.rl_pages.specs.State.{page_frame, page_absorbed}
use Rattle.rl_actormodel.specs.declared.parts.Asked.{Asked}
use Rattle.rl_actormodel.specs.declared.parts.Publish.{Publish}
use Rattle.rl_actormodel.specs.declared.parts.Holder.{Holder}
use Rattle.rl_actormodel.specs.declared.parts.Session.{Session}
use Rattle.rl_actormodel.specs.declared.parts.Wish.{Wish}
use Rattle.rl_actormodel.specs.declared.parts.Wish.TheVariants as wishes
use Rattle.rl_names.specs.Names.{with_entry}
use Rattle.rl_actormodel.specs.State.{State, begun, first_wish, numbered, is_free, has_room, put, puts}
use Rattle.rl_actormodel.specs.Ends.{ended_by, over_at}
use Rattle.rl_actormodel.specs.Takes.{Came, A, Unknown, Bad, attach_wish, begin_wish, close_wish, publish, took}
use Rattle.rl_actormodel.specs.Takes as takes
use Rattle.rl_actormodel.specs.Replies.{Opening, Opens, Limited, Unopened, opening, Standing, Passed, Gone, Holds, Unsaid, standing, Beginning, Overtaken, Missing, Knows, Above, Below, Goes, Unbegun, beginning, Resuming, Back, NotKnown, Unresumed, resuming, Numbering, Has, HasNone, Unnumbered, numbering, Joining, joining_in, verdict_in, Reading, Behind, Unread, reading, channel_reply}
use Rattle.rl_actormodel.specs.Replies as views
use Rattle.rl_actormodel.specs.Connects.{resumed_by, opened_by, if_held, closed}
use Rattle.rl_actormodel.specs.Attaches.{attach_at, joined_by}
use Rattle.rl_actormodel.specs.Publishes.{settled, begun_by, put_at, put_by}
use Rattle.rl_actormodel.specs.Pagings.{paged, page_by, ends_here, ended_here}
use Rattle.rl_actormodel.specs.Reads.{entry_frame, moved_on, read_into, read_by, on_session, replied, answered, answered_at}
use Rattle.rl_actormodel.specs.Rests.{is_idle, is_quiet}
use Rattle.rl_actormodel.specs.Inputs.{Input, Took, Absorbed, Rested, Ended, Gave, step, after}
use Rattle.rl_actormodel.specs.Conditions.{IsAllowed, AreAllowed}
use Rattle.rl_actormodel.specs.Laws.{FreeIsConnected}
use Rattle.rl_actormodel.proofs.Answered.{free_is, both_free}

-- a wish for a connection, before there is one
abbrev is_first : Wish → Bool
is_first (wishes.Resume key) = true
is_first wishes.Open = true
is_first wish = false

record Connected (s : State) : Type 0 where
  held : s.ended ≡ None → is_first s.wish ≡ false → is_none s.holder ≡ false

-- the connection stays, and none is wished for anew
record Follows (s t : State) : Type 0 where
  holder : t.holder ≡ s.holder
  before : t.ended ≡ None → is_first t.wish ≡ false → (s.ended ≡ None) × (is_first s.wish ≡ false)

follow : {s t : State} → Follows s t → Connected s → Connected t
follow f c = record { held = λ e w. let b = f.before e w in ap (λ (h : Option Holder). is_none h) f.holder ∙ c.held b.0 b.1 }

itself : (s : State) → Follows s s
itself s = record { holder = refl; before = λ e w. (e, w) }

-- where the wish was another one
keeps : {s t : State} → t.holder ≡ s.holder → t.ended ≡ s.ended → is_first s.wish ≡ false → Follows s t
keeps h e f = record { holder = h; before = λ n w. (sym e ∙ n, f) }

-- where the wish stays
stays : {s t : State} → t.holder ≡ s.holder → t.ended ≡ s.ended → t.wish ≡ s.wish → Follows s t
stays h e w = record { holder = h; before = λ n f. (sym e ∙ n, sym (ap is_first w) ∙ f) }

ending : (why : End) (s : State) → Follows s (ended_by why s)
ending why s = record { holder = refl; before = λ e w. absurd (cc) }

-- REPLIES

resumed_connects : (key : List ℕ) (v : Resuming) (now : ℕ) (s : State) → Connected s → Connected (resumed_by key v now s)
resumed_connects key (Back holder) now s c = record { held = λ e w. refl }
resumed_connects key NotKnown now s c = record { held = λ e w. absurd (cc) }
resumed_connects key Unresumed now s c = c

opened_connects : (v : Opening) (now : ℕ) (s : State) → Connected s → Connected (opened_by v now s)
opened_connects (Opens holder key) now s c = record { held = λ e w. refl }
opened_connects (Limited count given) now s c = record { held = λ e w. absurd (cc) }
opened_connects Unopened now s c = c

closing : (now : ℕ) (s : State) → Follows s (closed now s)
closing now s = record { holder = refl; before = λ e w. absurd (cc) }

held_follows : (holder : Holder) (v : Standing) (next : State → State) (s : State) → Follows s (next s) → Follows s (if_held holder v next s)
held_follows holder (Passed newer) next s f = ending (ends.Superseded holder.generation newer) s
held_follows holder Gone next s f = ending ends.Forgotten s
held_follows holder Holds next s f = f
held_follows holder Unsaid next s f = itself s

attach_follows : (asked : Asked) (v : Numbering) (now : ℕ) (s : State) → is_first s.wish ≡ false → Follows s (attach_at asked v now s)
attach_follows asked (Has number) now s w = keeps refl refl w
attach_follows asked HasNone now s w = keeps refl refl w
attach_follows asked Unnumbered now s w = itself s

joined_follows : (asked : Asked) (number : ℕ) (v : Option Joining) (now : ℕ) (s : State) → is_first s.wish ≡ false → Follows s (joined_by asked number v now s)
joined_follows asked number (Some j) now s w = keeps refl refl w
joined_follows asked number None now s w = itself s

settled_follows : (p : Publish) (v : Option Outcome) (now : ℕ) (s : State) → is_first s.wish ≡ false → Follows s (settled p v now s)
settled_follows p None now s w = keeps refl refl w
settled_follows p (Some (Taken place)) now s w = keeps refl refl w
settled_follows p (Some (Refused code)) now s w = keeps refl refl w

begun_follows : (p : Publish) (holder : Holder) (v : Beginning) (now : ℕ) (s : State) → is_first s.wish ≡ false → Follows s (begun_by p holder v now s)
begun_follows p holder (Overtaken newer) now s w = ending (ends.Superseded holder.generation newer) s
begun_follows p holder Missing now s w = ending ends.Forgotten s
begun_follows p holder (Knows outcome) now s w = settled_follows p (Some outcome) now s w
begun_follows p holder (Above got expected) now s w = ending (ends.SerialGap got expected) s
begun_follows p holder (Below got expected) now s w = ending (ends.SerialOld got expected) s
begun_follows p holder Goes now s w = keeps refl refl w
begun_follows p holder Unbegun now s w = itself s

put_follows : (p : Publish) (holder : Holder) (v : Numbering) (s : State) → is_first s.wish ≡ false → Follows s (put_at p holder v s)
put_follows p holder (Has number) s w = keeps refl refl w
put_follows p holder HasNone s w = keeps refl refl w
put_follows p holder Unnumbered s w = itself s

verdict_follows : (p : Publish) (holder : Holder) (v : Option Verdict) (s : State) → is_first s.wish ≡ false → Follows s (put_by p holder v s)
verdict_follows p holder (Some verdict) s w = keeps refl refl w
verdict_follows p holder None s w = itself s

replied_connects : (wish : Wish) (reply : Reply) (now : ℕ) (s : State) → s.wish ≡ wish → Connected s → Connected (replied wish reply now s)
replied_connects wishes.Nothing reply now s e c = c
replied_connects (wishes.Resume key) reply now s e c = resumed_connects key (resuming reply) now s c
replied_connects wishes.Open reply now s e c = opened_connects (opening reply) now s c
replied_connects (wishes.Lost holder) reply now s e c = follow (keeps refl refl (ap is_first e)) c
replied_connects (wishes.Close holder) reply now s e c = follow (held_follows holder (standing reply) (closed now) s (closing now s)) c
replied_connects (wishes.AskToAttach asked) reply now s e c = follow (attach_follows asked (numbering reply) now s (ap is_first e)) c
replied_connects (wishes.Join asked number) reply now s e c = follow (joined_follows asked number (joining_in reply) now s (ap is_first e)) c
replied_connects (wishes.Begin p holder) reply now s e c = follow (begun_follows p holder (beginning reply) now s (ap is_first e)) c
replied_connects (wishes.AskToPut p holder) reply now s e c = follow (put_follows p holder (numbering reply) s (ap is_first e)) c
replied_connects (wishes.Put p holder number) reply now s e c = follow (verdict_follows p holder (verdict_in reply) s (ap is_first e)) c
replied_connects (wishes.Finish p holder outcome) reply now s e c =
    follow (held_follows holder (standing reply) (settled p outcome now) s (settled_follows p outcome now s (ap is_first e))) c

-- PAGES AND READS

puts_follow : (fs : List Frame) (now : ℕ) (s t : State) → Follows s t → Follows s (puts fs now t)
puts_follow [] now s t f = f
puts_follow (x ∷ xs) now s t f = record { holder = f.holder; before = f.before }

page_follows : (name : List ℕ) (session : Session) (v : Option ChannelReply) (now : ℕ) (s : State) → Follows s (page_by name session v now s)
page_follows name session None now s = itself s
page_follows name session (Some reply) now s =
    puts_follow (option_to_list (page_frame reply session.pages)) now s
    (record s { sessions = with_entry name (paged (page_absorbed reply session.pages) session) s.sessions }) (stays refl refl refl)

into_follows : (name : List ℕ) (entries : List Entry) (session : Session) (now : ℕ) (s : State) → Follows s (read_into name entries session now s)
into_follows name entries session now s =
    puts_follow (map (entry_frame name session.epoch) entries ++ ends_here session) now s
    (record s { sessions = with_entry name (ended_here session) s.sessions }) (stays refl refl refl)

read_follows : (name : List ℕ) (session : Session) (v : Reading) (now : ℕ) (s : State) → Follows s (read_by name session v now s)
read_follows name session (views.Came entries) now s = into_follows name entries (moved_on (length entries) session) now s
read_follows name session (Behind first) now s = ending (ends.Lagged session.position first) s
read_follows name session Unread now s = itself s

page_session : (v : Option (List ℕ × Session)) (reply : Reply) (now : ℕ) (s : State) → Follows s (on_session (λ name session. page_by name session (channel_reply reply) now) v s)
page_session None reply now s = itself s
page_session (Some e) reply now s = page_follows e.0 e.1 (channel_reply reply) now s

read_session : (v : Option (List ℕ × Session)) (reply : Reply) (now : ℕ) (s : State) → Follows s (on_session (λ name session. read_by name session (reading reply) now) v s)
read_session None reply now s = itself s
read_session (Some e) reply now s = read_follows e.0 e.1 (reading reply) now s

answered_connects : (call : Call) (reply : Reply) (now : ℕ) (s : State) → Connected s → Connected (answered call reply now s)
answered_connects (calls.Chan number (events.Read from most)) reply now s c = follow (read_session (numbered number s.sessions) reply now s) c
answered_connects (calls.Chan number (events.MemberPage past most)) reply now s c = follow (page_session (numbered number s.sessions) reply now s) c
answered_connects (calls.Chan number (events.ObjectPage past most)) reply now s c = follow (page_session (numbered number s.sessions) reply now s) c
answered_connects (calls.Chan number (events.Put a b d e)) reply now s c = replied_connects s.wish reply now s refl c
answered_connects (calls.Chan number (events.Join a)) reply now s c = replied_connects s.wish reply now s refl c
answered_connects (calls.Chan number (events.Gone a b)) reply now s c = replied_connects s.wish reply now s refl c
answered_connects (calls.Chan number (events.Tick a)) reply now s c = replied_connects s.wish reply now s refl c
answered_connects (calls.Chan number events.Census) reply now s c = replied_connects s.wish reply now s refl c
answered_connects (calls.Book event) reply now s c = replied_connects s.wish reply now s refl c
answered_connects (calls.Dir event) reply now s c = replied_connects s.wish reply now s refl c

absorbed_connects : (e : Option End) (call : Call) (reply : Reply) (now : ℕ) (s : State) → s.ended ≡ e → Connected s → Connected (answered_at e call reply now s)
absorbed_connects None call reply now s e c = answered_connects call reply now s c
absorbed_connects (Some why) call reply now s e c = record { held = λ n w. absurd (cc) }

-- FRAMES, RESTS AND ENDS

publish_follows : (head : Head) (serial : Option ℕ) (body : Body) (s : State) → is_first s.wish ≡ false → Follows s (publish head serial body s)
publish_follows head None body s w = itself s
publish_follows head (Some serial) body s w = keeps refl refl w

take_follows : (frame : Frame) (now : ℕ) (s : State) → is_first s.wish ≡ false → Follows s (takes.take frame now s)
take_follows (frames.Attach channel serial) now s w = keeps refl refl w
take_follows (frames.Detach channel) now s w = keeps refl refl w
take_follows (frames.Message head items) now s w = publish_follows head head.msg _ s w
take_follows (frames.Presence head items) now s w = publish_follows head head.msg _ s w
take_follows (frames.Object head ops) now s w = publish_follows head head.msg _ s w
take_follows frames.Close now s w = keeps refl refl w
take_follows frames.Heartbeat now s w = keeps refl refl w
take_follows (frames.Ack serial count) now s w = itself s
take_follows (frames.Nack serial count code) now s w = itself s
take_follows frames.Connect now s w = itself s
take_follows (frames.Connected a b c d e f) now s w = itself s
take_follows frames.Disconnect now s w = itself s
take_follows (frames.Disconnected code) now s w = itself s
take_follows frames.Closed now s w = itself s
take_follows (frames.Error channel code) now s w = itself s
take_follows (frames.Attached a b c d) now s w = itself s
take_follows (frames.Detached channel code) now s w = itself s
take_follows (frames.Sync channel place items) now s w = itself s
take_follows frames.Auth now s w = itself s
take_follows (frames.ObjectSync channel place states) now s w = itself s

took_follows : (came : Came) (now : ℕ) (s : State) → is_first s.wish ≡ false → Follows s (took came now s)
took_follows (A frame) now s w = let f = take_follows frame now (record s { last_in = now }) w in record { holder = f.holder; before = f.before }
took_follows Unknown now s w = keeps refl refl w
took_follows (Bad bytes) now s w = record { holder = refl; before = λ e n. absurd (cc) }

rest_follows : (free idle quiet : Bool) (now : ℕ) (s : State)
    → Follows s (if free then (if idle then ended_by (ends.Idle s.last_in now) s else (if quiet then put frames.Heartbeat now s else s)) else s)
rest_follows false idle quiet now s = itself s
rest_follows true true quiet now s = ending (ends.Idle s.last_in now) s
rest_follows true false true now s = stays refl refl refl
rest_follows true false false now s = itself s

over_follows : (e : Option End) (why : End) (s : State) → Follows s (over_at e why s)
over_follows None why s = ending why s
over_follows (Some end) why s = itself s

-- ALL INPUTS

input_connects : (input : Input) (s : State) → IsAllowed input s → Connected s → Connected (step input s)
input_connects (Took came now) s a c =
    let f = free_is s.ended s.wish (both_free (is_free s) (has_room s) a.0) in
    follow (took_follows came now s (ap is_first f.1)) c
input_connects (Absorbed call reply now) s a c = absorbed_connects s.ended call reply now s refl c
input_connects (Rested now) s a c = follow (rest_follows (is_free s) (is_idle now s) (is_quiet now s) now s) c
input_connects (Ended why) s a c = follow (over_follows s.ended why s) c
input_connects Gave s a c = follow (stays refl refl refl) c

first_is : (key : Option (List ℕ)) → is_first (first_wish key) ≡ true
first_is None = refl
first_is (Some key) = refl

all_connect : (hello : Hello) (start : ℕ) (inputs : List Input) → AreAllowed inputs (begun hello start) → Connected (after hello start inputs)
all_connect hello start [] a = record { held = λ e w. let is = first_is hello.resume in absurd (cc) }
all_connect hello start (input ∷ before) a = input_connects input (after hello start before) a.0 (all_connect hello start before a.1)

some_of : (found : Option Holder) → is_none found ≡ false → (holder : Holder) × (found ≡ Some holder)
some_of None h = cc
some_of (Some holder) h = (holder, refl)

pub free_is_connected : FreeIsConnected
free_is_connected hello start inputs a free =
    let s : State = after hello start inputs in
    let f = free_is s.ended s.wish free in
    some_of s.holder ((all_connect hello start inputs a).held f.0 (ap is_first f.1))
