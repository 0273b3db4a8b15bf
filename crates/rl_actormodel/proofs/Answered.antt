-- Each ATTACH and DETACH is answered, in order.
use Rattle.std.specs.Prelude.{take, drop, option_to_list, if◌then◌else◌, ◌&&◌, ◌⊎◌, is_none, map}
use Rattle.std.proofs.Common.{◌≡◌, ℕ, Bool, true, false, List, [], ◌∷◌, ◌++◌, length, Option, Some, None, refl, sym, ap, ◌∙◌, subst, append_assoc, append-nil, inl, inr}
use Rattle.rl_types.specs.declared.messages.Body.{Body}
use Rattle.rl_types.specs.declared.messages.Body.TheVariants.{Messages, Presence, Objects}
use Rattle.rl_types.specs.declared.messages.Entry.{Entry}
use Rattle.rl_types.specs.declared.frames.Head.{Head}
use Rattle.rl_types.specs.declared.frames.Frame.{Frame}
use Rattle.rl_types.specs.declared.frames.Frame.TheVariants as frames
use Rattle.rl_runs.specs.declared.commands.Hello.{Hello}
use Rattle.rl_events.specs.declared.channel.Outcome.{Outcome}
use Rattle.rl_events.specs.declared.channel.Outcome.TheVariants.{Taken, Refused}
use Rattle.rl_events.specs.declared.channel.Verdict.{Verdict}
use Rattle.rl_events.specs.declared.channel.ChannelEvent.TheVariants as events
use Rattle.rl_events.specs.declared.channel.ChannelReply.{ChannelReply}
use Rattle.rl_events.specs.declared.channel.ChannelReply.TheVariants as channel
use Rattle.rl_events.specs.declared.calls.Call.{Call}
use Rattle.rl_events.specs.declared.calls.Call.TheVariants as calls
use Rattle.rl_events.specs.declared.calls.Reply.{Reply}
use Rattle.rl_events.specs.declared.calls.Reply.TheVariants as replies
use Rattle.rl_events.specs.declared.calls.End.{End}
use Rattle.rl_events.specs.declared.calls.End.TheVariants as ends
use Rattle.rl_pages.specs.State.{Sequences, page_frame, page_absorbed, may_end, is_complete, end_pages}
use Rattle.rl_pages.specs.Frames.{end_at, member_frame, object_frame}
use Rattle.rl_actormodel.specs.declared.parts.Asked.{Asked}
use Rattle.rl_actormodel.specs.declared.parts.Publish.{Publish}
use Rattle.rl_actormodel.specs.declared.parts.Holder.{Holder}
use Rattle.rl_actormodel.specs.declared.parts.Session.{Session}
use Rattle.rl_actormodel.specs.declared.parts.Wish.{Wish}
use Rattle.rl_actormodel.specs.declared.parts.Wish.TheVariants as wishes
use Rattle.rl_names.specs.Names.{at, with_entry}
use Rattle.rl_actormodel.specs.State.{State, begun, first_wish, numbered, is_nothing, is_free, has_room, wishing, put, puts}
use Rattle.rl_actormodel.specs.Ends.{farewell, lost_wish, last_wish, ended_by, over_at}
use Rattle.rl_actormodel.specs.Wishes.{wanted, page_call, poll_call}
use Rattle.rl_actormodel.specs.Takes.{Came, A, Unknown, Bad, attach_wish, begin_wish, close_wish, detached, publish, take_any, took}
use Rattle.rl_actormodel.specs.Takes as takes
use Rattle.rl_actormodel.specs.Replies.{Opening, Opens, Limited, Unopened, opening, Standing, Passed, Gone, Holds, Unsaid, standing, Beginning, Overtaken, Missing, Knows, Above, Below, Goes, Unbegun, beginning, Resuming, Back, NotKnown, Unresumed, resuming, Numbering, Has, HasNone, Unnumbered, numbering, Joining, joining_in, verdict_in, Reading, Behind, Unread, reading, channel_reply}
use Rattle.rl_actormodel.specs.Replies as views
use Rattle.rl_actormodel.specs.Connects.{resumed_by, opened_by, if_held, closed}
use Rattle.rl_actormodel.specs.Attaches.{attach_at, joined_by}
use Rattle.rl_actormodel.specs.Publishes.{settled, put_wish, begun_by, put_at, put_by}
use Rattle.rl_actormodel.specs.Pagings.{paged, page_by, ends_here, ended_here}
use Rattle.rl_actormodel.specs.Reads.{entry_head, body_frame, entry_frame, moved_on, read_into, read_by, on_session, replied, answered, answered_at}
use Rattle.rl_actormodel.specs.Rests.{is_idle, is_quiet, rested}
use Rattle.rl_actormodel.specs.Inputs.{Input, Took, Absorbed, Rested, Ended, Gave, gave, step, after, given, taken}
use Rattle.rl_actormodel.specs.Conditions.{is_reply_to, IsCalled, IsAllowed}
use Rattle.rl_actormodel.specs.Laws.{Ask, ToAttach, ToDetach, ask_of, ask_in, asks, answer_of, answers, owed, is_one_attach, AreAnswered, AnsweredInOrder}
use Rattle.rl_actormodel.proofs.Silent.{take_drop}

-- what one input does: these frames are put out, and with them what is in hand after it makes up what was in hand and what
-- was asked
record Keeps (owing asked : List Ask) (s t : State) : Type 0 where
  frames : List Frame
  waiting : t.waiting ≡ s.waiting ++ frames
  balance : answers frames ++ owed t.wish ≡ owing ++ asked
  alive : t.ended ≡ None → s.ended ≡ None
  quiet : s.ended ≡ None → (why : End) → t.ended ≡ Some why → owed t.wish ≡ []

goes : {owing asked : List Ask} {s t : State} (fs : List Frame) → t.waiting ≡ s.waiting ++ fs → t.ended ≡ s.ended → answers fs ++ owed t.wish ≡ owing ++ asked → Keeps owing asked s t
goes fs w e b = record { frames = fs; waiting = w; balance = b; alive = λ h. sym e ∙ h; quiet = λ n why h. cc }

same : {owing asked : List Ask} {s t : State} → t.waiting ≡ s.waiting → t.ended ≡ s.ended → owed t.wish ≡ owing ++ asked → Keeps owing asked s t
same {s = s} w e b = goes [] (w ∙ sym (append-nil s.waiting)) e b

owed_lost : (holder : Option Holder) → owed (lost_wish holder) ≡ []
owed_lost None = refl
owed_lost (Some holder) = refl

owed_last : (why : End) (holder : Option Holder) → owed (last_wish why holder) ≡ []
owed_last ends.Closed holder = refl
owed_last ends.LinkEnded holder = owed_lost holder
owed_last ends.LinkFault holder = owed_lost holder
owed_last (ends.Superseded m n) holder = refl
owed_last ends.Forgotten holder = refl
owed_last (ends.Lagged m n) holder = owed_lost holder
owed_last (ends.BadFrame m) holder = owed_lost holder
owed_last (ends.SerialGap m n) holder = owed_lost holder
owed_last (ends.SerialOld m n) holder = owed_lost holder
owed_last (ends.Idle m n) holder = owed_lost holder
owed_last ends.Stopped holder = owed_lost holder
owed_last (ends.ConnectionLimit m n) holder = refl
owed_last ends.NoMemory holder = owed_lost holder

no_answer : (why : End) → answers (option_to_list (farewell why)) ≡ []
no_answer ends.Closed = refl
no_answer ends.LinkEnded = refl
no_answer ends.LinkFault = refl
no_answer (ends.Superseded m n) = refl
no_answer ends.Forgotten = refl
no_answer (ends.Lagged m n) = refl
no_answer (ends.BadFrame m) = refl
no_answer (ends.SerialGap m n) = refl
no_answer (ends.SerialOld m n) = refl
no_answer (ends.Idle m n) = refl
no_answer ends.Stopped = refl
no_answer (ends.ConnectionLimit m n) = refl
no_answer ends.NoMemory = refl

finishes : (why : End) (s : State) → Keeps [] [] s (ended_by why s)
finishes why s = record {
  frames = option_to_list (farewell why);
  waiting = refl;
  balance = ap (λ a. a ++ owed (last_wish why s.holder)) (no_answer why) ∙ owed_last why s.holder;
  alive = λ h. cc;
  quiet = λ n w h. owed_last why s.holder;
}

resumed_keeps : (key : List ℕ) (v : Resuming) (now : ℕ) (s : State) → owed s.wish ≡ [] → Keeps [] [] s (resumed_by key v now s)
resumed_keeps key (Back holder) now s o = goes (_ ∷ []) refl refl refl
resumed_keeps key NotKnown now s o = same refl refl refl
resumed_keeps key Unresumed now s o = same refl refl o

opened_keeps : (v : Opening) (now : ℕ) (s : State) → owed s.wish ≡ [] → Keeps [] [] s (opened_by v now s)
opened_keeps (Opens holder key) now s o = goes (_ ∷ []) refl refl refl
opened_keeps (Limited count given) now s o = finishes (ends.ConnectionLimit count given) s
opened_keeps Unopened now s o = same refl refl o

-- CLOSED, and the end
closes : (now : ℕ) (s : State) → Keeps [] [] s (closed now s)
closes now s = record {
  frames = frames.Closed ∷ [];
  waiting = append-nil (s.waiting ++ frames.Closed ∷ []);
  balance = refl;
  alive = λ h. cc;
  quiet = λ n w h. refl;
}

held_keeps : (holder : Holder) (v : Standing) (next : State → State) (s : State) → owed s.wish ≡ [] → Keeps [] [] s (next s) → Keeps [] [] s (if_held holder v next s)
held_keeps holder (Passed newer) next s o k = finishes (ends.Superseded holder.generation newer) s
held_keeps holder Gone next s o k = finishes ends.Forgotten s
held_keeps holder Holds next s o k = k
held_keeps holder Unsaid next s o k = same refl refl o

attach_keeps : (asked : Asked) (v : Numbering) (now : ℕ) (s : State) → owed s.wish ≡ ToAttach asked.channel ∷ [] → Keeps (ToAttach asked.channel ∷ []) [] s (attach_at asked v now s)
attach_keeps asked (Has number) now s o = same refl refl refl
attach_keeps asked HasNone now s o = goes (_ ∷ []) refl refl refl
attach_keeps asked Unnumbered now s o = same refl refl o

joined_keeps : (asked : Asked) (number : ℕ) (j : Joining) (now : ℕ) (s : State) → Keeps (ToAttach asked.channel ∷ []) [] s (joined_by asked number (Some j) now s)
joined_keeps asked number j now s = goes (_ ∷ []) refl refl refl

settled_keeps : (p : Publish) (v : Option Outcome) (now : ℕ) (s : State) → Keeps [] [] s (settled p v now s)
settled_keeps p None now s = same refl refl refl
settled_keeps p (Some (Taken place)) now s = goes (_ ∷ []) refl refl refl
settled_keeps p (Some (Refused code)) now s = goes (_ ∷ []) refl refl refl

owed_put : (p : Publish) (holder : Holder) (v : Option ℕ) → owed (put_wish p holder v) ≡ []
owed_put p holder None = refl
owed_put p holder (Some number) = refl

begun_keeps : (p : Publish) (holder : Holder) (v : Beginning) (now : ℕ) (s : State) → owed s.wish ≡ [] → Keeps [] [] s (begun_by p holder v now s)
begun_keeps p holder (Overtaken newer) now s o = finishes (ends.Superseded holder.generation newer) s
begun_keeps p holder Missing now s o = finishes ends.Forgotten s
begun_keeps p holder (Knows outcome) now s o = settled_keeps p (Some outcome) now s
begun_keeps p holder (Above got expected) now s o = finishes (ends.SerialGap got expected) s
begun_keeps p holder (Below got expected) now s o = finishes (ends.SerialOld got expected) s
begun_keeps p holder Goes now s o = same refl refl (owed_put p holder (at p.channel s.numbers))
begun_keeps p holder Unbegun now s o = same refl refl o

put_keeps : (p : Publish) (holder : Holder) (v : Numbering) (s : State) → owed s.wish ≡ [] → Keeps [] [] s (put_at p holder v s)
put_keeps p holder (Has number) s o = same refl refl refl
put_keeps p holder HasNone s o = same refl refl refl
put_keeps p holder Unnumbered s o = same refl refl o

verdict_keeps : (p : Publish) (holder : Holder) (v : Option Verdict) (s : State) → owed s.wish ≡ [] → Keeps [] [] s (put_by p holder v s)
verdict_keeps p holder (Some verdict) s o = same refl refl refl
verdict_keeps p holder None s o = same refl refl o

-- the reply to a Join says where it begins
abbrev IsKnown : Wish → Reply → Type 0
IsKnown (wishes.Join asked number) reply = (j : Joining) × (joining_in reply ≡ Some j)
IsKnown wish reply = Unit {0}

replied_keeps : (wish : Wish) (reply : Reply) (now : ℕ) (s : State) → s.wish ≡ wish → IsKnown wish reply → Keeps (owed wish) [] s (replied wish reply now s)
replied_keeps wishes.Nothing reply now s e k = same refl refl (ap owed e)
replied_keeps (wishes.Resume key) reply now s e k = resumed_keeps key (resuming reply) now s (ap owed e)
replied_keeps wishes.Open reply now s e k = opened_keeps (opening reply) now s (ap owed e)
replied_keeps (wishes.Lost holder) reply now s e k = same refl refl refl
replied_keeps (wishes.Close holder) reply now s e k = held_keeps holder (standing reply) (closed now) s (ap owed e) (closes now s)
replied_keeps (wishes.AskToAttach asked) reply now s e k = attach_keeps asked (numbering reply) now s (ap owed e)
replied_keeps (wishes.Join asked number) reply now s e k =
    let P = λ (found : Option Joining). Keeps (ToAttach asked.channel ∷ []) [] s (joined_by asked number found now s) in
    subst P (sym k.1) (joined_keeps asked number k.0 now s)
replied_keeps (wishes.Begin p holder) reply now s e k = begun_keeps p holder (beginning reply) now s (ap owed e)
replied_keeps (wishes.AskToPut p holder) reply now s e k = put_keeps p holder (numbering reply) s (ap owed e)
replied_keeps (wishes.Put p holder number) reply now s e k = verdict_keeps p holder (verdict_in reply) s (ap owed e)
replied_keeps (wishes.Finish p holder outcome) reply now s e k = held_keeps holder (standing reply) (settled p outcome now) s (ap owed e) (settled_keeps p outcome now s)

-- pages and runs
answers_append : (xs ys : List Frame) → answers (xs ++ ys) ≡ answers xs ++ answers ys
answers_append [] ys = refl
answers_append (x ∷ xs) ys = ap (λ a. answer_of x ++ a) (answers_append xs ys) ∙ sym (append_assoc (answer_of x) (answers xs) (answers ys))

answer_shown : (head : Head) (body : Body) → answer_of (body_frame head body) ≡ []
answer_shown head (Messages items) = refl
answer_shown head (Presence items) = refl
answer_shown head (Objects ops) = refl

answers_shown : (name : List ℕ) (epoch : ℕ) (entries : List Entry) → answers (map (entry_frame name epoch) entries) ≡ []
answers_shown name epoch [] = refl
answers_shown name epoch (e ∷ more) = ap (λ a. a ++ answers (map (entry_frame name epoch) more)) (answer_shown (entry_head name epoch e) e.body) ∙ answers_shown name epoch more

answers_page : (reply : ChannelReply) (pages : Sequences) → answers (option_to_list (page_frame reply pages)) ≡ []
answers_page (channel.Put verdict) pages = refl
answers_page (channel.Joined serial resumed presence objects) pages = refl
answers_page (channel.Read reply) pages = refl
answers_page (channel.Members items last head) pages = refl
answers_page (channel.Objects states last head) pages = refl
answers_page (channel.Gone place) pages = refl
answers_page channel.Ticked pages = refl
answers_page (channel.Census first head members objects) pages = refl

abbrev pub two_ends : Bool → Bool → Sequences → List Frame
two_ends members objects pages =
    (if members then member_frame pages.channel (end_at pages.sequence) [] ∷ [] else [])
    ++ (if objects then object_frame pages.channel (end_at pages.sequence) [] ∷ [] else [])

answers_two : (members objects : Bool) (pages : Sequences) → answers (two_ends members objects pages) ≡ []
answers_two true true pages = refl
answers_two true false pages = refl
answers_two false true pages = refl
answers_two false false pages = refl

answers_end : (may complete : Bool) (pages : Sequences) → answers (if may then (if complete then end_pages pages else []) else []) ≡ []
answers_end true true pages = answers_two pages.members.asked pages.objects.asked pages
answers_end true false pages = refl
answers_end false complete pages = refl

puts_keeps : (fs : List Frame) (now : ℕ) (s t : State) → answers fs ≡ [] → t.waiting ≡ s.waiting → t.ended ≡ s.ended → owed t.wish ≡ [] → Keeps [] [] s (puts fs now t)
puts_keeps [] now s t a w e o = same w e o
puts_keeps (f ∷ fs) now s t a w e o = goes (f ∷ fs) (ap (λ ws. ws ++ f ∷ fs) w) e (ap (λ x. x ++ owed t.wish) a ∙ o)

paged_keeps : (name : List ℕ) (session : Session) (v : Option ChannelReply) (now : ℕ) (s : State) → owed s.wish ≡ [] → Keeps [] [] s (page_by name session v now s)
paged_keeps name session (Some reply) now s o =
    puts_keeps (option_to_list (page_frame reply session.pages)) now s
    (record s { sessions = with_entry name (paged (page_absorbed reply session.pages) session) s.sessions }) (answers_page reply session.pages) refl refl o
paged_keeps name session None now s o = same refl refl o

into_keeps : (name : List ℕ) (entries : List Entry) (session : Session) (now : ℕ) (s : State) → owed s.wish ≡ [] → Keeps [] [] s (read_into name entries session now s)
into_keeps name entries session now s o =
    puts_keeps (map (entry_frame name session.epoch) entries ++ ends_here session) now s (record s { sessions = with_entry name (ended_here session) s.sessions })
    (answers_append (map (entry_frame name session.epoch) entries) (ends_here session)
    ∙ ap (λ a. a ++ answers (ends_here session)) (answers_shown name session.epoch entries)
    ∙ answers_end (may_end session.position session.pages) (is_complete session.pages) session.pages)
    refl refl o

read_keeps : (name : List ℕ) (session : Session) (v : Reading) (now : ℕ) (s : State) → owed s.wish ≡ [] → Keeps [] [] s (read_by name session v now s)
read_keeps name session (views.Came entries) now s o = into_keeps name entries (moved_on (length entries) session) now s o
read_keeps name session (Behind first) now s o = finishes (ends.Lagged session.position first) s
read_keeps name session Unread now s o = same refl refl o

page_session : (v : Option (List ℕ × Session)) (reply : Reply) (now : ℕ) (s : State) → owed s.wish ≡ []
    → Keeps [] [] s (on_session (λ name session. page_by name session (channel_reply reply) now) v s)
page_session None reply now s o = same refl refl o
page_session (Some e) reply now s o = paged_keeps e.0 e.1 (channel_reply reply) now s o

read_session : (v : Option (List ℕ × Session)) (reply : Reply) (now : ℕ) (s : State) → owed s.wish ≡ []
    → Keeps [] [] s (on_session (λ name session. read_by name session (reading reply) now) v s)
read_session None reply now s o = same refl refl o
read_session (Some e) reply now s o = read_keeps e.0 e.1 (reading reply) now s o

-- a frame taken up
owed_attach : (asked : Asked) (v : Option ℕ) → owed (attach_wish asked v) ≡ ToAttach asked.channel ∷ []
owed_attach asked None = refl
owed_attach asked (Some number) = refl

owed_begin : (p : Publish) (v : Option Holder) → owed (begin_wish p v) ≡ []
owed_begin p None = refl
owed_begin p (Some holder) = refl

owed_close : (v : Option Holder) → owed (close_wish v) ≡ []
owed_close None = refl
owed_close (Some holder) = refl

moved : {owing asked : List Ask} (now : ℕ) {s t : State} → Keeps owing asked (record s { last_in = now }) t → Keeps owing asked s t
moved now k = record { frames = k.frames; waiting = k.waiting; balance = k.balance; alive = k.alive; quiet = k.quiet }

owed_publish : (head : Head) (serial : Option ℕ) (body : Body) (s : State) → owed s.wish ≡ [] → Keeps [] [] s (publish head serial body s)
owed_publish head None body s o = same refl refl o
owed_publish head (Some serial) body s o = same refl refl (owed_begin (record { channel = head.channel; serial = serial; body = body }) s.holder)

take_keeps : (frame : Frame) (now : ℕ) (s : State) → owed s.wish ≡ [] → Keeps [] (ask_of frame) s (takes.take frame now s)
take_keeps (frames.Attach channel serial) now s o = same refl refl (owed_attach (record { channel = channel; serial = serial }) (at channel s.numbers))
take_keeps (frames.Detach channel) now s o = goes (frames.Detached channel None ∷ []) refl refl (ap (λ x. ToDetach channel ∷ x) o)
take_keeps (frames.Message head items) now s o = owed_publish head head.msg _ s o
take_keeps (frames.Presence head items) now s o = owed_publish head head.msg _ s o
take_keeps (frames.Object head ops) now s o = owed_publish head head.msg _ s o
take_keeps frames.Close now s o = same refl refl (owed_close s.holder)
take_keeps frames.Heartbeat now s o = goes (frames.Heartbeat ∷ []) refl refl o
take_keeps (frames.Ack serial count) now s o = same refl refl o
take_keeps (frames.Nack serial count code) now s o = same refl refl o
take_keeps frames.Connect now s o = same refl refl o
take_keeps (frames.Connected a b c d e f) now s o = same refl refl o
take_keeps frames.Disconnect now s o = same refl refl o
take_keeps (frames.Disconnected code) now s o = same refl refl o
take_keeps frames.Closed now s o = same refl refl o
take_keeps (frames.Error channel code) now s o = same refl refl o
take_keeps (frames.Attached a b c d) now s o = same refl refl o
take_keeps (frames.Detached channel code) now s o = same refl refl o
take_keeps (frames.Sync channel place items) now s o = same refl refl o
take_keeps frames.Auth now s o = same refl refl o
take_keeps (frames.ObjectSync channel place states) now s o = same refl refl o

took_keeps : (came : Came) (now : ℕ) (s : State) → owed s.wish ≡ [] → Keeps [] (ask_in came) s (took came now s)
took_keeps (A frame) now s o = moved now (take_keeps frame now (record s { last_in = now }) o)
took_keeps Unknown now s o = same refl refl o
took_keeps (Bad bytes) now s o = moved now (finishes (ends.BadFrame bytes) (record s { last_in = now }))

-- a free actor
pub free_is : (e : Option End) (w : Wish) → (is_none e && is_nothing w) ≡ true → (e ≡ None) × (w ≡ wishes.Nothing)
free_is None wishes.Nothing h = (refl, refl)
free_is None (wishes.Resume key) h = cc
free_is None wishes.Open h = cc
free_is None (wishes.Lost holder) h = cc
free_is None (wishes.Close holder) h = cc
free_is None (wishes.AskToAttach asked) h = cc
free_is None (wishes.Join asked number) h = cc
free_is None (wishes.Begin p holder) h = cc
free_is None (wishes.AskToPut p holder) h = cc
free_is None (wishes.Put p holder number) h = cc
free_is None (wishes.Finish p holder outcome) h = cc
free_is (Some e) w h = cc

abbrev pub rests_by : Bool → Bool → Bool → ℕ → State → State
rests_by free idle quiet now s = if free then (if idle then ended_by (ends.Idle s.last_in now) s else (if quiet then put frames.Heartbeat now s else s)) else s

rest_keeps : (free idle quiet : Bool) (now : ℕ) (s : State) → (free ≡ true → owed s.wish ≡ []) → Keeps (owed s.wish) [] s (rests_by free idle quiet now s)
rest_keeps false idle quiet now s f = same refl refl (sym (append-nil (owed s.wish)))
rest_keeps true true quiet now s f = let P = λ (o : List Ask). Keeps o [] s (ended_by (ends.Idle s.last_in now) s) in subst P (sym (f refl)) (finishes (ends.Idle s.last_in now) s)
rest_keeps true false true now s f = goes (frames.Heartbeat ∷ []) refl refl (sym (append-nil (owed s.wish)))
rest_keeps true false false now s f = same refl refl (sym (append-nil (owed s.wish)))

-- the balance of a whole list
regroup : (a f later owing asked left : List Ask) → f ++ later ≡ owing ++ asked → asked ++ left ≡ left ++ asked → (a ++ f) ++ (later ++ left) ≡ (a ++ (owing ++ left)) ++ asked
regroup a f later owing asked left b w =
    append_assoc a f (later ++ left)
    ∙ ap (λ x. a ++ x) (sym (append_assoc f later left) ∙ ap (λ x. x ++ left) b ∙ append_assoc owing asked left ∙ ap (λ x. owing ++ x) w ∙ sym (append_assoc owing left asked))
    ∙ sym (append_assoc a (owing ++ left) asked)

out_more : (tk was now fs : List Frame) → now ≡ was ++ fs → (tk ++ []) ++ now ≡ (tk ++ was) ++ fs
out_more tk was now fs e = ap (λ x. x ++ now) (append-nil tk) ∙ ap (λ x. tk ++ x) e ∙ sym (append_assoc tk was fs)

kept : {asked : List Ask} {inputs later : List Input} {s t : State} (tk : List Frame) → (a : AreAnswered inputs s (tk ++ s.waiting)) → asks later ≡ asks inputs ++ asked → Keeps (owed s.wish) asked s t
    → asked ++ a.left ≡ a.left ++ asked → ((why : End) → t.ended ≡ Some why → owed t.wish ≡ []) → AreAnswered later t ((tk ++ []) ++ t.waiting)
kept {asked = asked} {s = s} {t = t} tk a is k swap q = record {
  left = a.left;
  all =
      ap (λ fs. answers fs ++ (owed t.wish ++ a.left)) (out_more tk s.waiting t.waiting k.frames k.waiting)
      ∙ ap (λ x. x ++ (owed t.wish ++ a.left)) (answers_append (tk ++ s.waiting) k.frames)
      ∙ regroup (answers (tk ++ s.waiting)) (answers k.frames) (owed t.wish) (owed s.wish) asked a.left k.balance swap
      ∙ ap (λ x. x ++ asked) a.all ∙ sym is;
  none = λ h. a.none (k.alive h);
  quiet = q;
  few = a.few;
}

still_left : (left : List Ask) → [] ++ left ≡ left ++ []
still_left left = sym (append-nil left)

-- CALLS
if_some : (b : Bool) (c : Option Call) (call : Call) → (if b then c else None) ≡ Some call → b ≡ true
if_some true c call h = refl
if_some false c call h = cc

-- a call of a session is made by a free actor
pub page_free : (name : List ℕ) (s : State) (call : Call) → page_call name s ≡ Some call → is_free s ≡ true
page_free name s call h = if_some (is_free s) _ call h

pub poll_free : (name : List ℕ) (s : State) (call : Call) → poll_call name s ≡ Some call → is_free s ≡ true
poll_free name s call h = if_some (is_free s) _ call h

-- a page or a read
abbrev pub is_of_session : Option Call → Bool
is_of_session (Some (calls.Chan number (events.Read from most))) = true
is_of_session (Some (calls.Chan number (events.MemberPage after most))) = true
is_of_session (Some (calls.Chan number (events.ObjectPage after most))) = true
is_of_session call = false

wanted_not : (wish : Wish) (hello : Hello) (moment : ℕ) → is_of_session (wanted wish hello moment) ≡ false
wanted_not wishes.Nothing hello moment = refl
wanted_not (wishes.Resume key) hello moment = refl
wanted_not wishes.Open hello moment = refl
wanted_not (wishes.Lost holder) hello moment = refl
wanted_not (wishes.Close holder) hello moment = refl
wanted_not (wishes.AskToAttach asked) hello moment = refl
wanted_not (wishes.Join asked number) hello moment = refl
wanted_not (wishes.Begin p holder) hello moment = refl
wanted_not (wishes.AskToPut p holder) hello moment = refl
wanted_not (wishes.Put p holder number) hello moment = refl
wanted_not (wishes.Finish p holder outcome) hello moment = refl

pub session_free : (call : Call) (s : State) → is_of_session (Some call) ≡ true → IsCalled call s → is_free s ≡ true
session_free call s is (inl h) = let apart : is_of_session (Some call) ≡ false = ap is_of_session (sym h.1) ∙ wanted_not s.wish s.hello h.0 in absurd (cc)
session_free call s is (inr h) = by_kind h.1
  where
    by_kind : (page_call h.0 s ≡ Some call) ⊎ (poll_call h.0 s ≡ Some call) → is_free s ≡ true
    by_kind (inl p) = page_free h.0 s call p
    by_kind (inr p) = poll_free h.0 s call p

-- the reply to a Join says where it begins
joins : (number : ℕ) (serial : _) (reply : Reply) → is_reply_to (calls.Chan number (events.Join serial)) reply ≡ true → (j : Joining) × (joining_in reply ≡ Some j)
joins number serial (replies.Book reply) h = cc
joins number serial (replies.Dir reply) h = cc
joins number serial (replies.Chan (channel.Put verdict)) h = cc
joins number serial (replies.Chan (channel.Joined told resumed presence objects)) h = (_, refl)
joins number serial (replies.Chan (channel.Read reply)) h = cc
joins number serial (replies.Chan (channel.Members items last head)) h = cc
joins number serial (replies.Chan (channel.Objects states last head)) h = cc
joins number serial (replies.Chan (channel.Gone place)) h = cc
joins number serial (replies.Chan channel.Ticked) h = cc
joins number serial (replies.Chan (channel.Census first head members objects)) h = cc

known_by : (wish : Wish) (hello : Hello) (moment : ℕ) (call : Call) (reply : Reply) → wanted wish hello moment ≡ Some call → is_reply_to call reply ≡ true → IsKnown wish reply
known_by (wishes.Join asked number) hello moment call reply h is =
    let same_call : calls.Chan number (events.Join asked.serial) ≡ call = cc in
    joins number asked.serial reply (ap (λ (c : Call). is_reply_to c reply) same_call ∙ is)
known_by wishes.Nothing hello moment call reply h is = tt
known_by (wishes.Resume key) hello moment call reply h is = tt
known_by wishes.Open hello moment call reply h is = tt
known_by (wishes.Lost holder) hello moment call reply h is = tt
known_by (wishes.Close holder) hello moment call reply h is = tt
known_by (wishes.AskToAttach asked) hello moment call reply h is = tt
known_by (wishes.Begin p holder) hello moment call reply h is = tt
known_by (wishes.AskToPut p holder) hello moment call reply h is = tt
known_by (wishes.Put p holder number) hello moment call reply h is = tt
known_by (wishes.Finish p holder outcome) hello moment call reply h is = tt

-- what is wanted where this call is made: the call itself, or nothing
known : (call : Call) (reply : Reply) (s : State) → IsCalled call s → is_reply_to call reply ≡ true → IsKnown s.wish reply
known call reply s (inl h) is = known_by s.wish s.hello h.0 call reply h.1 is
known call reply s (inr h) is = by_kind h.1
  where
    by_free : is_free s ≡ true → IsKnown s.wish reply
    by_free f = let P = λ (w : Wish). IsKnown w reply in subst P (sym (free_is s.ended s.wish f).1) tt

    by_kind : (page_call h.0 s ≡ Some call) ⊎ (poll_call h.0 s ≡ Some call) → IsKnown s.wish reply
    by_kind (inl p) = by_free (page_free h.0 s call p)
    by_kind (inr p) = by_free (poll_free h.0 s call p)

spent : (why : End) (s : State) → ((w : End) → s.ended ≡ Some w → owed s.wish ≡ []) → s.ended ≡ Some why → Keeps (owed s.wish) [] s (wishing wishes.Nothing s)
spent why s q e = same refl refl (sym (q why e) ∙ sym (append-nil (owed s.wish)))

-- a page or a read, by a free actor
paged_or_read : (s t : State) → is_free s ≡ true → (owed s.wish ≡ [] → Keeps [] [] s t) → Keeps (owed s.wish) [] s t
paged_or_read s t free k =
    let o : owed s.wish ≡ [] = ap owed (free_is s.ended s.wish free).1 in
    let P = λ (ow : List Ask). Keeps ow [] s t in
    subst P (sym o) (k o)

answered_keeps : (call : Call) (reply : Reply) (now : ℕ) (s : State) → IsCalled call s → is_reply_to call reply ≡ true → Keeps (owed s.wish) [] s (answered call reply now s)
answered_keeps (calls.Chan number (events.Read from most)) reply now s c is = paged_or_read s _ (session_free _ s refl c) (λ o. read_session (numbered number s.sessions) reply now s o)
answered_keeps (calls.Chan number (events.MemberPage past most)) reply now s c is = paged_or_read s _ (session_free _ s refl c) (λ o. page_session (numbered number s.sessions) reply now s o)
answered_keeps (calls.Chan number (events.ObjectPage past most)) reply now s c is = paged_or_read s _ (session_free _ s refl c) (λ o. page_session (numbered number s.sessions) reply now s o)
answered_keeps (calls.Chan number (events.Put a b d e)) reply now s c is = replied_keeps s.wish reply now s refl (known _ reply s c is)
answered_keeps (calls.Chan number (events.Join a)) reply now s c is = replied_keeps s.wish reply now s refl (known _ reply s c is)
answered_keeps (calls.Chan number (events.Gone a b)) reply now s c is = replied_keeps s.wish reply now s refl (known _ reply s c is)
answered_keeps (calls.Chan number (events.Tick a)) reply now s c is = replied_keeps s.wish reply now s refl (known _ reply s c is)
answered_keeps (calls.Chan number events.Census) reply now s c is = replied_keeps s.wish reply now s refl (known _ reply s c is)
answered_keeps (calls.Book event) reply now s c is = replied_keeps s.wish reply now s refl (known _ reply s c is)
answered_keeps (calls.Dir event) reply now s c is = replied_keeps s.wish reply now s refl (known _ reply s c is)

absorbed_keeps : (e : Option End) (call : Call) (reply : Reply) (now : ℕ) (s : State) → s.ended ≡ e → ((w : End) → s.ended ≡ Some w → owed s.wish ≡ []) → IsCalled call s → is_reply_to call reply ≡ true
    → Keeps (owed s.wish) [] s (answered_at e call reply now s)
absorbed_keeps None call reply now s e q c is = answered_keeps call reply now s c is
absorbed_keeps (Some why) call reply now s e q c is = spent why s q e

quiet_after : (e : Option End) (s t : State) → s.ended ≡ e → {owing asked : List Ask} → Keeps owing asked s t → ((w : End) → s.ended ≡ Some w → (t.ended ≡ Some w) × (owed t.wish ≡ [])) → (w : End) → t.ended ≡ Some w → owed t.wish ≡ []
quiet_after None s t e k q w h = k.quiet e w h
quiet_after (Some why) s t e k q w h = (q why e).1

absorbed_spent : (e : Option End) (call : Call) (reply : Reply) (now : ℕ) (s : State) → s.ended ≡ e → (w : End) → s.ended ≡ Some w → ((answered_at e call reply now s).ended ≡ Some w) × (owed (answered_at e call reply now s).wish ≡ [])
absorbed_spent None call reply now s e w h = cc
absorbed_spent (Some why) call reply now s e w h = (h, refl)

rest_spent : (free idle quiet : Bool) (now : ℕ) (s : State) → (free ≡ true → s.ended ≡ None) → owed s.wish ≡ [] → (w : End) → s.ended ≡ Some w → ((rests_by free idle quiet now s).ended ≡ Some w) × (owed (rests_by free idle quiet now s).wish ≡ [])
rest_spent false idle quiet now s f o w h = (h, o)
rest_spent true idle quiet now s f o w h = let n = f refl in cc

gave_kept : {inputs : List Input} {s : State} (tk : List Frame) → AreAnswered inputs s (tk ++ s.waiting) → AreAnswered (Gave ∷ inputs) (gave s) ((tk ++ take 1 s.waiting) ++ (gave s).waiting)
gave_kept {s = s} tk a = record {
  left = a.left;
  all =
      ap (λ fs. answers fs ++ (owed s.wish ++ a.left)) (append_assoc tk (take 1 s.waiting) (drop 1 s.waiting) ∙ ap (λ x. tk ++ x) (take_drop s.waiting))
      ∙ a.all ∙ sym (append-nil _);
  none = a.none;
  quiet = a.quiet;
  few = a.few;
}

owed_few : (w : Wish) → is_one_attach (owed w) ≡ true
owed_few wishes.Nothing = refl
owed_few (wishes.Resume key) = refl
owed_few wishes.Open = refl
owed_few (wishes.Lost holder) = refl
owed_few (wishes.Close holder) = refl
owed_few (wishes.AskToAttach asked) = refl
owed_few (wishes.Join asked number) = refl
owed_few (wishes.Begin p holder) = refl
owed_few (wishes.AskToPut p holder) = refl
owed_few (wishes.Put p holder number) = refl
owed_few (wishes.Finish p holder outcome) = refl

-- an end from outside leaves what was owed
ended_kept : (e : Option End) (why : End) {inputs : List Input} {s : State} (tk : List Frame) → s.ended ≡ e → AreAnswered inputs s (tk ++ s.waiting)
    → AreAnswered (Ended why ∷ inputs) (over_at e why s) ((tk ++ []) ++ (over_at e why s).waiting)
ended_kept None why {s = s} tk e a = record {
  left = owed s.wish;
  all =
      ap (λ o. answers ((tk ++ []) ++ (s.waiting ++ option_to_list (farewell why))) ++ (o ++ owed s.wish)) (owed_last why s.holder)
      ∙ ap (λ fs. answers fs ++ owed s.wish) (out_more tk s.waiting _ (option_to_list (farewell why)) refl)
      ∙ ap (λ x. x ++ owed s.wish) (answers_append (tk ++ s.waiting) (option_to_list (farewell why)) ∙ ap (λ x. answers (tk ++ s.waiting) ++ x) (no_answer why) ∙ append-nil _)
      ∙ ap (λ x. answers (tk ++ s.waiting) ++ x) (sym (append-nil (owed s.wish)) ∙ ap (λ l. owed s.wish ++ l) (sym (a.none e)))
      ∙ a.all ∙ sym (append-nil _);
  none = λ h. cc;
  quiet = λ w h. owed_last why s.holder;
  few = owed_few s.wish;
}
ended_kept (Some end) why {s = s} tk e a = kept tk a refl (same refl refl (sym (append-nil (owed s.wish)))) (still_left a.left) a.quiet

-- every list of inputs
first_owed : (key : Option (List ℕ)) → owed (first_wish key) ≡ []
first_owed None = refl
first_owed (Some key) = refl

pub both_free : (b c : Bool) → (b && c) ≡ true → b ≡ true
both_free true c h = refl
both_free false c h = h

input_kept : (input : Input) {inputs : List Input} {s : State} (tk : List Frame) → IsAllowed input s → AreAnswered inputs s (tk ++ s.waiting)
    → AreAnswered (input ∷ inputs) (step input s) ((tk ++ given input s) ++ (step input s).waiting)
input_kept (Took got now) {s = s} tk h a =
    let f = free_is s.ended s.wish (both_free (is_free s) (has_room s) h.0) in
    let o : owed s.wish ≡ [] = ap owed f.1 in
    let l : a.left ≡ [] = a.none f.0 in
    let P = λ (ow : List Ask). Keeps ow (ask_in got) s (took got now s) in
    let k : Keeps (owed s.wish) (ask_in got) s (took got now s) = subst P (sym o) (took_keeps got now s o) in
    kept tk a refl k (ap (λ x. ask_in got ++ x) l ∙ append-nil (ask_in got) ∙ ap (λ x. x ++ ask_in got) (sym l)) (k.quiet f.0)
input_kept (Absorbed call reply now) {s = s} tk h a =
    let k = absorbed_keeps s.ended call reply now s refl a.quiet h.0 h.1 in
    kept tk a refl k (still_left a.left)
    (quiet_after s.ended s (answered_at s.ended call reply now s) refl k (absorbed_spent s.ended call reply now s refl))
input_kept (Rested now) {s = s} tk h a =
    let f = λ (e : is_free s ≡ true). free_is s.ended s.wish e in
    let k = rest_keeps (is_free s) (is_idle now s) (is_quiet now s) now s (λ e. ap owed (f e).1) in
    kept tk a refl k (still_left a.left)
    (quiet_after s.ended s (rested now s) refl k (λ w e. rest_spent (is_free s) (is_idle now s) (is_quiet now s) now s (λ x. (f x).0) (a.quiet w e) w e))
input_kept (Ended why) {s = s} tk h a = ended_kept s.ended why tk refl a
input_kept Gave tk h a = gave_kept tk a

pub answered_in_order : AnsweredInOrder
answered_in_order hello start [] h = record {
  left = [];
  all = append-nil _ ∙ first_owed hello.resume;
  none = λ e. refl;
  quiet = λ w e. cc;
  few = refl;
}
answered_in_order hello start (input ∷ before) h =
    input_kept input (taken before (begun hello start)) h.0 (answered_in_order hello start before h.1)
