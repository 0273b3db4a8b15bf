-- The frames of entries and pages that an actor puts out are those of its reads and pages.
use Rattle.std.specs.Prelude.{take, drop, filter, option_to_list, if◌then◌else◌, map}
use Rattle.std.proofs.Common.{◌≡◌, ℕ, Bool, true, false, cond, List, [], ◌∷◌, ◌++◌, length, Option, Some, None, refl, sym, ap, ◌∙◌, append_assoc, append-nil}
use Rattle.rl_types.specs.declared.messages.Body.{Body}
use Rattle.rl_types.specs.declared.messages.Body.TheVariants.{Messages, Presence, Objects}
use Rattle.rl_types.specs.declared.messages.Entry.{Entry}
use Rattle.rl_types.specs.declared.frames.Head.{Head}
use Rattle.rl_types.specs.declared.frames.Frame.{Frame}
use Rattle.rl_types.specs.declared.frames.Frame.TheVariants as frames
use Rattle.rl_events.specs.declared.channel.Outcome.{Outcome}
use Rattle.rl_events.specs.declared.channel.Outcome.TheVariants.{Taken, Refused}
use Rattle.rl_events.specs.declared.channel.Verdict.{Verdict}
use Rattle.rl_events.specs.declared.channel.ChannelEvent.TheVariants as events
use Rattle.rl_events.specs.declared.channel.ChannelReply.{ChannelReply}
use Rattle.rl_events.specs.declared.channel.ChannelReply.TheVariants as channel
use Rattle.rl_events.specs.declared.calls.Call.{Call}
use Rattle.rl_events.specs.declared.calls.Call.TheVariants as calls
use Rattle.rl_events.specs.declared.calls.Reply.{Reply}
use Rattle.rl_events.specs.declared.calls.End.{End}
use Rattle.rl_events.specs.declared.calls.End.TheVariants as ends
use Rattle.rl_pages.specs.State.{Sequences, page_frame, page_absorbed, may_end, is_complete, end_pages}
use Rattle.rl_names.specs.Names.{with_entry}
use Rattle.rl_actormodel.specs.declared.parts.Asked.{Asked}
use Rattle.rl_actormodel.specs.declared.parts.Publish.{Publish}
use Rattle.rl_actormodel.specs.declared.parts.Holder.{Holder}
use Rattle.rl_actormodel.specs.declared.parts.Session.{Session}
use Rattle.rl_actormodel.specs.declared.parts.Wish.{Wish}
use Rattle.rl_actormodel.specs.declared.parts.Wish.TheVariants as wishes
use Rattle.rl_actormodel.specs.State.{State, begun, numbered, is_free, puts}
use Rattle.rl_actormodel.specs.Ends.{farewell, ended_by, over_at}
use Rattle.rl_actormodel.specs.Takes.{Came, A, Unknown, Bad, publish, took}
use Rattle.rl_actormodel.specs.Takes as takes
use Rattle.rl_actormodel.specs.Replies.{Opening, Opens, Limited, Unopened, opening, Standing, Passed, Gone, Holds, Unsaid, standing, Beginning, Overtaken, Missing, Knows, Above, Below, Goes, Unbegun, beginning, Resuming, Back, NotKnown, Unresumed, resuming, Numbering, Has, HasNone, Unnumbered, numbering, Joining, joining_in, verdict_in, Reading, Behind, Unread, reading, channel_reply}
use Rattle.rl_actormodel.specs.Replies as views
use Rattle.rl_actormodel.specs.Connects.{resumed_by, opened_by, if_held, closed}
use Rattle.rl_actormodel.specs.Attaches.{attach_at, joined_by}
use Rattle.rl_actormodel.specs.Publishes.{settled, begun_by, put_at, put_by}
use Rattle.rl_actormodel.specs.Pagings.{paged, page_by, ends_here, ended_here}
use Rattle.rl_actormodel.specs.Reads.{entry_head, body_frame, entry_frame, moved_on, read_into, read_by, on_session, replied, answered, answered_at}
use Rattle.rl_actormodel.specs.Rests.{is_idle, is_quiet}
use Rattle.rl_actormodel.specs.Inputs.{Input, Took, Absorbed, Rested, Ended, Gave, step, run, given, taken}
use Rattle.rl_actorlaws.specs.Told.{is_told, told_by_read, told_by_page, read_tells, page_tells, call_tells, reply_tells, told_by, all_told, WhatIsPutOutWasTold}
use Rattle.rl_actormodel.proofs.Silent.{take_drop}
use Rattle.rl_actormodel.proofs.Answered.{rests_by, two_ends}

abbrev told_in : List Frame → List Frame
told_in fs = filter is_told fs

-- one input puts these frames out, and this is what they show of entries
record Shows (shown : List Frame) (s t : State) : Type 0 where
  frames : List Frame
  waiting : t.waiting ≡ s.waiting ++ frames
  entries : told_in frames ≡ shown

goes : {shown : List Frame} {s t : State} (fs : List Frame) → t.waiting ≡ s.waiting ++ fs → told_in fs ≡ shown → Shows shown s t
goes fs w e = record { frames = fs; waiting = w; entries = e }

same : {s t : State} → t.waiting ≡ s.waiting → Shows [] s t
same {s = s} w = goes [] (w ∙ sym (append-nil s.waiting)) refl

no_entry : (why : End) → told_in (option_to_list (farewell why)) ≡ []
no_entry ends.Closed = refl
no_entry ends.LinkEnded = refl
no_entry ends.LinkFault = refl
no_entry (ends.Superseded m n) = refl
no_entry ends.Forgotten = refl
no_entry (ends.Lagged m n) = refl
no_entry (ends.BadFrame m) = refl
no_entry (ends.SerialGap m n) = refl
no_entry (ends.SerialOld m n) = refl
no_entry (ends.Idle m n) = refl
no_entry ends.Stopped = refl
no_entry (ends.ConnectionLimit m n) = refl
no_entry ends.NoMemory = refl

finishes : (why : End) (s : State) → Shows [] s (ended_by why s)
finishes why s = goes (option_to_list (farewell why)) refl (no_entry why)

resumed_shows : (key : List ℕ) (v : Resuming) (now : ℕ) (s : State) → Shows [] s (resumed_by key v now s)
resumed_shows key (Back holder) now s = goes (_ ∷ []) refl refl
resumed_shows key NotKnown now s = same refl
resumed_shows key Unresumed now s = same refl

opened_shows : (v : Opening) (now : ℕ) (s : State) → Shows [] s (opened_by v now s)
opened_shows (Opens holder key) now s = goes (_ ∷ []) refl refl
opened_shows (Limited count given) now s = finishes (ends.ConnectionLimit count given) s
opened_shows Unopened now s = same refl

closes : (now : ℕ) (s : State) → Shows [] s (closed now s)
closes now s = goes (frames.Closed ∷ []) (append-nil (s.waiting ++ frames.Closed ∷ [])) refl

held_shows : (holder : Holder) (v : Standing) (next : State → State) (s : State) → Shows [] s (next s) → Shows [] s (if_held holder v next s)
held_shows holder (Passed newer) next s k = finishes (ends.Superseded holder.generation newer) s
held_shows holder Gone next s k = finishes ends.Forgotten s
held_shows holder Holds next s k = k
held_shows holder Unsaid next s k = same refl

attach_shows : (asked : Asked) (v : Numbering) (now : ℕ) (s : State) → Shows [] s (attach_at asked v now s)
attach_shows asked (Has number) now s = same refl
attach_shows asked HasNone now s = goes (_ ∷ []) refl refl
attach_shows asked Unnumbered now s = same refl

joined_shows : (asked : Asked) (number : ℕ) (j : Option Joining) (now : ℕ) (s : State) → Shows [] s (joined_by asked number j now s)
joined_shows asked number None now s = same refl
joined_shows asked number (Some j) now s = goes (_ ∷ []) refl refl

settled_shows : (p : Publish) (v : Option Outcome) (now : ℕ) (s : State) → Shows [] s (settled p v now s)
settled_shows p None now s = same refl
settled_shows p (Some (Taken place)) now s = goes (_ ∷ []) refl refl
settled_shows p (Some (Refused code)) now s = goes (_ ∷ []) refl refl

begun_shows : (p : Publish) (holder : Holder) (v : Beginning) (now : ℕ) (s : State) → Shows [] s (begun_by p holder v now s)
begun_shows p holder (Overtaken newer) now s = finishes (ends.Superseded holder.generation newer) s
begun_shows p holder Missing now s = finishes ends.Forgotten s
begun_shows p holder (Knows outcome) now s = settled_shows p (Some outcome) now s
begun_shows p holder (Above got expected) now s = finishes (ends.SerialGap got expected) s
begun_shows p holder (Below got expected) now s = finishes (ends.SerialOld got expected) s
begun_shows p holder Goes now s = same refl
begun_shows p holder Unbegun now s = same refl

put_shows : (p : Publish) (holder : Holder) (v : Numbering) (s : State) → Shows [] s (put_at p holder v s)
put_shows p holder (Has number) s = same refl
put_shows p holder HasNone s = same refl
put_shows p holder Unnumbered s = same refl

verdict_shows : (p : Publish) (holder : Holder) (v : Option Verdict) (s : State) → Shows [] s (put_by p holder v s)
verdict_shows p holder (Some verdict) s = same refl
verdict_shows p holder None s = same refl

replied_shows : (wish : Wish) (reply : Reply) (now : ℕ) (s : State) → Shows [] s (replied wish reply now s)
replied_shows wishes.Nothing reply now s = same refl
replied_shows (wishes.Resume key) reply now s = resumed_shows key (resuming reply) now s
replied_shows wishes.Open reply now s = opened_shows (opening reply) now s
replied_shows (wishes.Lost holder) reply now s = same refl
replied_shows (wishes.Close holder) reply now s = held_shows holder (standing reply) (closed now) s (closes now s)
replied_shows (wishes.AskToAttach asked) reply now s = attach_shows asked (numbering reply) now s
replied_shows (wishes.Join asked number) reply now s = joined_shows asked number (joining_in reply) now s
replied_shows (wishes.Begin p holder) reply now s = begun_shows p holder (beginning reply) now s
replied_shows (wishes.AskToPut p holder) reply now s = put_shows p holder (numbering reply) s
replied_shows (wishes.Put p holder number) reply now s = verdict_shows p holder (verdict_in reply) s
replied_shows (wishes.Finish p holder outcome) reply now s = held_shows holder (standing reply) (settled p outcome now) s (settled_shows p outcome now s)

-- PAGES AND READS

filter_by : (b : Bool) (x : Frame) (rest more : List Frame) → cond b (x ∷ (rest ++ more)) (rest ++ more) ≡ cond b (x ∷ rest) rest ++ more
filter_by true x rest more = refl
filter_by false x rest more = refl

entries_append : (xs ys : List Frame) → told_in (xs ++ ys) ≡ told_in xs ++ told_in ys
entries_append [] ys = refl
entries_append (x ∷ xs) ys = ap (λ a. cond (is_told x) (x ∷ a) a) (entries_append xs ys) ∙ filter_by (is_told x) x (told_in xs) (told_in ys)

is_entry : (head : Head) (body : Body) → is_told (body_frame head body) ≡ true
is_entry head (Messages items) = refl
is_entry head (Presence items) = refl
is_entry head (Objects ops) = refl

all_entries : (name : List ℕ) (epoch : ℕ) (entries : List Entry) → told_in (map (entry_frame name epoch) entries) ≡ map (entry_frame name epoch) entries
all_entries name epoch [] = refl
all_entries name epoch (e ∷ more) =
    let rest = told_in (map (entry_frame name epoch) more) in
    ap (λ (b : Bool). cond b (entry_frame name epoch e ∷ rest) rest) (is_entry (entry_head name epoch e) e.body)
    ∙ ap (λ a. entry_frame name epoch e ∷ a) (all_entries name epoch more)

told_page : (reply : ChannelReply) (pages : Sequences) → told_in (option_to_list (page_frame reply pages)) ≡ option_to_list (page_frame reply pages)
told_page (channel.Put verdict) pages = refl
told_page (channel.Joined serial resumed presence objects) pages = refl
told_page (channel.Read reply) pages = refl
told_page (channel.Members items last head) pages = refl
told_page (channel.Objects states last head) pages = refl
told_page (channel.Gone place) pages = refl
told_page channel.Ticked pages = refl
told_page (channel.Census first head members objects) pages = refl

told_two : (members objects : Bool) (pages : Sequences) → told_in (two_ends members objects pages) ≡ two_ends members objects pages
told_two true true pages = refl
told_two true false pages = refl
told_two false true pages = refl
told_two false false pages = refl

told_end : (may complete : Bool) (pages : Sequences) → told_in (if may then (if complete then end_pages pages else []) else []) ≡ (if may then (if complete then end_pages pages else []) else [])
told_end true true pages = told_two pages.members.asked pages.objects.asked pages
told_end true false pages = refl
told_end false complete pages = refl

puts_shows : {shown : List Frame} (fs : List Frame) (now : ℕ) (s t : State) → told_in fs ≡ shown → t.waiting ≡ s.waiting → Shows shown s (puts fs now t)
puts_shows [] now s t e w = goes [] (w ∙ sym (append-nil s.waiting)) e
puts_shows (f ∷ fs) now s t e w = goes (f ∷ fs) (ap (λ ws. ws ++ f ∷ fs) w) e

paged_shows : (name : List ℕ) (session : Session) (v : Option ChannelReply) (now : ℕ) (s : State) → Shows (told_by_page v session) s (page_by name session v now s)
paged_shows name session (Some reply) now s =
    puts_shows (option_to_list (page_frame reply session.pages)) now s
    (record s { sessions = with_entry name (paged (page_absorbed reply session.pages) session) s.sessions }) (told_page reply session.pages) refl
paged_shows name session None now s = same refl

into_shows : (name : List ℕ) (entries : List Entry) (session : Session) (now : ℕ) (s : State) → Shows (map (entry_frame name session.epoch) entries ++ ends_here session) s (read_into name entries session now s)
into_shows name entries session now s =
    puts_shows (map (entry_frame name session.epoch) entries ++ ends_here session) now s (record s { sessions = with_entry name (ended_here session) s.sessions })
    (entries_append (map (entry_frame name session.epoch) entries) (ends_here session)
    ∙ ap (λ a. a ++ told_in (ends_here session)) (all_entries name session.epoch entries)
    ∙ ap (λ a. map (entry_frame name session.epoch) entries ++ a) (told_end (may_end session.position session.pages) (is_complete session.pages) session.pages))
    refl

read_shows : (name : List ℕ) (session : Session) (v : Reading) (now : ℕ) (s : State) → Shows (told_by_read v name session) s (read_by name session v now s)
read_shows name session (views.Came entries) now s = into_shows name entries (moved_on (length entries) session) now s
read_shows name session (Behind first) now s = finishes (ends.Lagged session.position first) s
read_shows name session Unread now s = same refl

page_session : (v : Option (List ℕ × Session)) (reply : Reply) (now : ℕ) (s : State) → Shows (page_tells v (channel_reply reply)) s (on_session (λ name session. page_by name session (channel_reply reply) now) v s)
page_session None reply now s = same refl
page_session (Some e) reply now s = paged_shows e.0 e.1 (channel_reply reply) now s

read_session : (v : Option (List ℕ × Session)) (reply : Reply) (now : ℕ) (s : State) → Shows (read_tells v (reading reply)) s (on_session (λ name session. read_by name session (reading reply) now) v s)
read_session None reply now s = same refl
read_session (Some e) reply now s = read_shows e.0 e.1 (reading reply) now s

answered_shows : (call : Call) (reply : Reply) (now : ℕ) (s : State) → Shows (call_tells call reply s) s (answered call reply now s)
answered_shows (calls.Chan number (events.Read from most)) reply now s = read_session (numbered number s.sessions) reply now s
answered_shows (calls.Chan number (events.MemberPage past most)) reply now s = page_session (numbered number s.sessions) reply now s
answered_shows (calls.Chan number (events.ObjectPage past most)) reply now s = page_session (numbered number s.sessions) reply now s
answered_shows (calls.Chan number (events.Put a b d e)) reply now s = replied_shows s.wish reply now s
answered_shows (calls.Chan number (events.Join a)) reply now s = replied_shows s.wish reply now s
answered_shows (calls.Chan number (events.Gone a b)) reply now s = replied_shows s.wish reply now s
answered_shows (calls.Chan number (events.Tick a)) reply now s = replied_shows s.wish reply now s
answered_shows (calls.Chan number events.Census) reply now s = replied_shows s.wish reply now s
answered_shows (calls.Book event) reply now s = replied_shows s.wish reply now s
answered_shows (calls.Dir event) reply now s = replied_shows s.wish reply now s

absorbed_shows : (e : Option End) (call : Call) (reply : Reply) (now : ℕ) (s : State) → Shows (reply_tells e call reply s) s (answered_at e call reply now s)
absorbed_shows None call reply now s = answered_shows call reply now s
absorbed_shows (Some why) call reply now s = same refl

-- FRAMES TAKEN UP, RESTS AND ENDINGS

publish_shows : (head : Head) (serial : Option ℕ) (body : Body) (s : State) → Shows [] s (publish head serial body s)
publish_shows head None body s = same refl
publish_shows head (Some serial) body s = same refl

take_shows : (frame : Frame) (now : ℕ) (s : State) → Shows [] s (takes.take frame now s)
take_shows (frames.Attach channel serial) now s = same refl
take_shows (frames.Detach channel) now s = goes (frames.Detached channel None ∷ []) refl refl
take_shows (frames.Message head items) now s = publish_shows head head.msg _ s
take_shows (frames.Presence head items) now s = publish_shows head head.msg _ s
take_shows (frames.Object head ops) now s = publish_shows head head.msg _ s
take_shows frames.Close now s = same refl
take_shows frames.Heartbeat now s = goes (frames.Heartbeat ∷ []) refl refl
take_shows (frames.Ack serial count) now s = same refl
take_shows (frames.Nack serial count code) now s = same refl
take_shows frames.Connect now s = same refl
take_shows (frames.Connected a b c d e f) now s = same refl
take_shows frames.Disconnect now s = same refl
take_shows (frames.Disconnected code) now s = same refl
take_shows frames.Closed now s = same refl
take_shows (frames.Error channel code) now s = same refl
take_shows (frames.Attached a b c d) now s = same refl
take_shows (frames.Detached channel code) now s = same refl
take_shows (frames.Sync channel place items) now s = same refl
take_shows frames.Auth now s = same refl
take_shows (frames.ObjectSync channel place states) now s = same refl

moved : {shown : List Frame} (now : ℕ) {s t : State} → Shows shown (record s { last_in = now }) t → Shows shown s t
moved now k = record { frames = k.frames; waiting = k.waiting; entries = k.entries }

took_shows : (came : Came) (now : ℕ) (s : State) → Shows [] s (took came now s)
took_shows (A frame) now s = moved now (take_shows frame now (record s { last_in = now }))
took_shows Unknown now s = same refl
took_shows (Bad bytes) now s = moved now (finishes (ends.BadFrame bytes) (record s { last_in = now }))

rest_shows : (free idle quiet : Bool) (now : ℕ) (s : State) → Shows [] s (rests_by free idle quiet now s)
rest_shows false idle quiet now s = same refl
rest_shows true true quiet now s = finishes (ends.Idle s.last_in now) s
rest_shows true false true now s = goes (frames.Heartbeat ∷ []) refl refl
rest_shows true false false now s = same refl

over_shows : (e : Option End) (why : End) (s : State) → Shows [] s (over_at e why s)
over_shows None why s = finishes why s
over_shows (Some end) why s = same refl

-- ALL INPUTS

abbrev AreShown : List Input → State → State → Type 0
AreShown inputs s t = told_in (taken inputs s ++ t.waiting) ≡ all_told inputs s

more : {shown : List Frame} {s t : State} (tk was : List Frame) → Shows shown s t → told_in (tk ++ s.waiting) ≡ was → told_in ((tk ++ []) ++ t.waiting) ≡ was ++ shown
more {shown = shown} {s = s} {t = t} tk was k is =
    ap (λ x. told_in (x ++ t.waiting)) (append-nil tk)
    ∙ ap (λ x. told_in (tk ++ x)) k.waiting
    ∙ ap told_in (sym (append_assoc tk s.waiting k.frames))
    ∙ entries_append (tk ++ s.waiting) k.frames
    ∙ ap (λ x. x ++ told_in k.frames) is
    ∙ ap (λ x. was ++ x) k.entries

gave_shows : (s : State) (tk was : List Frame) → told_in (tk ++ s.waiting) ≡ was → told_in ((tk ++ take 1 s.waiting) ++ drop 1 s.waiting) ≡ was ++ []
gave_shows s tk was is =
    ap told_in (append_assoc tk (take 1 s.waiting) (drop 1 s.waiting) ∙ ap (λ x. tk ++ x) (take_drop s.waiting))
    ∙ is ∙ sym (append-nil was)

shows_by : (input : Input) (s : State) (tk was : List Frame) → told_in (tk ++ s.waiting) ≡ was → told_in ((tk ++ given input s) ++ (step input s).waiting) ≡ was ++ told_by input s
shows_by (Took came now) s tk was is = more tk was (took_shows came now s) is
shows_by (Absorbed call reply now) s tk was is = more tk was (absorbed_shows s.ended call reply now s) is
shows_by (Rested now) s tk was is = more tk was (rest_shows (is_free s) (is_idle now s) (is_quiet now s) now s) is
shows_by (Ended why) s tk was is = more tk was (over_shows s.ended why s) is
shows_by Gave s tk was is = gave_shows s tk was is

pub what_is_put_out_was_told : WhatIsPutOutWasTold
what_is_put_out_was_told hello start [] = refl
what_is_put_out_was_told hello start (input ∷ before) =
    shows_by input (run before (begun hello start)) (taken before (begun hello start)) (all_told before (begun hello start)) (what_is_put_out_was_told hello start before)
