-- What an actor has in hand, and that each reply keeps it.
use Rattle.std.specs.Prelude.{⊤, find, IfSome, ◌⊎◌, option_to_list, if◌then◌else◌}
use Rattle.std.specs.List.{AllByRecursion}
use Rattle.std.specs.Ordering.{match_ordering}
use Rattle.std.specs.declared.cmp.Ordering.TheVariants.{Less, Equal, Greater}
use Rattle.std.proofs.Common.{inl, inr, ◌≡◌, ◌<◌, ◌+◌, ◌-◌, ◌^◌, ℕ, min, Bool, true, false, cond, List, [], ◌∷◌, ◌++◌, length, map, Option, Some, None, sym, ap, subst, arith, Ordering}
use Rattle.rl_ids.specs.Forms.{IsSerial}
use Rattle.rl_types.specs.declared.messages.Entry.{Entry}
use Rattle.rl_types.specs.declared.frames.Frame.{Frame}
use Rattle.rl_types.specs.declared.frames.Frame.TheVariants as frames
use Rattle.rl_runs.specs.declared.commands.Hello.{Hello}
use Rattle.rl_events.specs.declared.book.BookEvent.TheVariants as book_events
use Rattle.rl_events.specs.declared.book.BookReply.{BookReply}
use Rattle.rl_events.specs.declared.book.BookReply.TheVariants as book
use Rattle.rl_events.specs.declared.channel.Outcome.{Outcome}
use Rattle.rl_events.specs.declared.channel.Outcome.TheVariants.{Taken, Refused}
use Rattle.rl_events.specs.declared.channel.Verdict.{Verdict}
use Rattle.rl_events.specs.declared.channel.Verdict.TheVariants as verdicts
use Rattle.rl_events.specs.declared.channel.ChannelEvent.TheVariants as events
use Rattle.rl_events.specs.declared.channel.ChannelReply.{ChannelReply}
use Rattle.rl_events.specs.declared.channel.ChannelReply.TheVariants as channel
use Rattle.rl_events.specs.declared.channel.ReadReply.TheVariants.{Run, NotRetained}
use Rattle.rl_events.specs.declared.calls.Call.{Call}
use Rattle.rl_events.specs.declared.calls.Call.TheVariants as calls
use Rattle.rl_events.specs.declared.calls.Reply.{Reply}
use Rattle.rl_events.specs.declared.calls.Reply.TheVariants as replies
use Rattle.rl_events.specs.declared.calls.End.{End}
use Rattle.rl_events.specs.declared.calls.End.TheVariants as ends
use Rattle.rl_pages.specs.State.{page_frame, page_absorbed, may_end, ended}
use Rattle.rl_names.specs.Names.{at, with_entry, without}
use Rattle.rl_wire.specs.Sendable.{IsName, IsMsgSerial}
use Rattle.rl_actormodel.specs.declared.parts.Asked.{Asked}
use Rattle.rl_actormodel.specs.declared.parts.Publish.{Publish}
use Rattle.rl_actormodel.specs.declared.parts.Holder.{Holder}
use Rattle.rl_actormodel.specs.declared.parts.Session.{Session}
use Rattle.rl_actormodel.specs.declared.parts.Wish.{Wish}
use Rattle.rl_actormodel.specs.declared.parts.Wish.TheVariants as wishes
use Rattle.rl_actormodel.specs.State.{State, has_number, numbered, is_free, put, puts}
use Rattle.rl_actormodel.specs.Ends.{farewell, lost_wish, last_wish, ended_by}
use Rattle.rl_actormodel.specs.Wishes.{wanted, page_call, poll_call}
use Rattle.rl_actormodel.specs.Replies.{Opening, Opens, Limited, Unopened, opening, Standing, Passed, Gone, Holds, Unsaid, standing, Beginning, Overtaken, Missing, Knows, Above, Below, Goes, Unbegun, beginning, Resuming, Back, NotKnown, Unresumed, resuming, Numbering, Has, HasNone, Unnumbered, numbering, Joining, joining_in, outcome_of, verdict_in, Reading, Behind, Unread, reading, channel_reply}
use Rattle.rl_actormodel.specs.Replies as views
use Rattle.rl_actormodel.specs.Connects.{resumed_by, opened_by, if_held, closed}
use Rattle.rl_actormodel.specs.Attaches.{next_sequence, new_session, attach_at, joined_by}
use Rattle.rl_actormodel.specs.Publishes.{settled, put_wish, begun_by, put_at, put_by}
use Rattle.rl_actormodel.specs.Pagings.{paged, page_by, ends_here, ended_here}
use Rattle.rl_actormodel.specs.Reads.{entry_frame, moved_on, read_into, read_by, on_session, replied, answered, answered_at}
use Rattle.rl_actormodel.specs.Conditions.{IsCalled}
use Rattle.rl_actormodel.proofs.Answered.{free_is, page_free, poll_free}
use Rattle.rl_actorlaws.specs.Carried.{IsKey, IsAskedByKey, IsOutcome, IsVerdict, IsEntry, IsChannelCarried, IsReplyCarried}
use Rattle.rl_actorlaws.specs.Readable.{IsReadable}
use Rattle.rl_actorlaws.proofs.Frames.{AreReadable, join, connected_readable, closed_readable, farewell_readable, ack_readable, nack_readable, limit_readable, attached_readable, entries_readable, page_readable, ends_readable}

-- WHAT IS IN HAND

-- the name of an ATTACH, the message serial of a put, and the code with which it ends
abbrev pub IsWishKept : Wish → Type 0
IsWishKept (wishes.AskToAttach asked) = IsName asked.channel
IsWishKept (wishes.Join asked number) = IsName asked.channel
IsWishKept (wishes.Begin p holder) = IsMsgSerial p.serial
IsWishKept (wishes.AskToPut p holder) = IsMsgSerial p.serial
IsWishKept (wishes.Put p holder number) = IsMsgSerial p.serial
IsWishKept (wishes.Finish p holder outcome) = IsMsgSerial p.serial × IfSome outcome IsOutcome
IsWishKept wish = ⊤

pub record IsSessionKept (session : Session) : Type 0 where
  pub named : IsName session.pages.channel
  pub epoch_fits : session.epoch < 2 ^ 128
  pub sequence_fits : session.pages.sequence < 2 ^ 64

abbrev pub IsEntryKept : List ℕ × Session → Type 0
IsEntryKept e = IsName e.0 × IsSessionKept e.1

pub record Kept (s : State) : Type 0 where
  pub wished : IsWishKept s.wish
  pub attached : AllByRecursion IsEntryKept s.sessions
  pub shown : AreReadable s.waiting

-- one frame more waits
pub behind : {f : Frame} {s : State} → IsReadable f → Kept s → AreReadable (s.waiting ++ f ∷ [])
behind {f = f} {s = s} h k = join s.waiting (f ∷ []) k.shown (h, tt)

-- SESSIONS BY NAME

all_with : (name : List ℕ) (session : Session) (es : List (List ℕ × Session)) → IsName name → IsSessionKept session → AllByRecursion IsEntryKept es → AllByRecursion IsEntryKept (with_entry name session es)
all_with name session [] n k h = ((n, k), tt)
all_with name session (e ∷ more) n k h = by_order _ (all_with name session more n k h.1)
  where
    by_order : (r : Ordering) → AllByRecursion IsEntryKept (with_entry name session more)
        → AllByRecursion IsEntryKept (match_ordering r ((name, session) ∷ e ∷ more) ((e.0, session) ∷ more) (e ∷ with_entry name session more))
    by_order Less rest = ((n, k), h)
    by_order Equal rest = ((h.0.0, k), h.1)
    by_order Greater rest = (h.0, rest)

pub all_without : (name : List ℕ) (es : List (List ℕ × Session)) → AllByRecursion IsEntryKept es → AllByRecursion IsEntryKept (without name es)
all_without name [] h = tt
all_without name (e ∷ more) h = by_test _ (all_without name more h.1)
  where
    by_test : (b : Bool) → AllByRecursion IsEntryKept (without name more) → AllByRecursion IsEntryKept (cond b more (e ∷ without name more))
    by_test true rest = h.1
    by_test false rest = (h.0, rest)

found_kept : (test : List ℕ × Session → Bool) (es : List (List ℕ × Session)) → AllByRecursion IsEntryKept es → IfSome (find test es) IsEntryKept
found_kept test [] h = tt
found_kept test (e ∷ more) h = by_test (test e) (found_kept test more h.1)
  where
    by_test : (b : Bool) → IfSome (find test more) IsEntryKept → IfSome (cond b (Some e) (find test more)) IsEntryKept
    by_test true rest = h.0
    by_test false rest = rest

-- WHAT A REPLY SAYS

abbrev IsOpening : Opening → Type 0
IsOpening (Opens holder key) = IsKey key
IsOpening v = ⊤

abbrev IsResuming : Call → Resuming → Type 0
IsResuming call (Back holder) = IsAskedByKey call
IsResuming call v = ⊤

abbrev IsBeginning : Beginning → Type 0
IsBeginning (Knows outcome) = IsOutcome outcome
IsBeginning v = ⊤

abbrev IsJoining : Joining → Type 0
IsJoining j = IsSerial j.serial

abbrev IsReading : Reading → Type 0
IsReading (views.Came entries) = AllByRecursion IsEntry entries
IsReading v = ⊤

record Says (call : Call) (reply : Reply) : Type 0 where
  opens : IsOpening (opening reply)
  resumes : IsResuming call (resuming reply)
  begins : IsBeginning (beginning reply)
  joins : IfSome (joining_in reply) IsJoining
  verdict : IfSome (verdict_in reply) IsVerdict
  reads : IsReading (reading reply)
  pages : IfSome (channel_reply reply) IsChannelCarried

of_book : (call : Call) (reply : BookReply) → IsOpening (opening (replies.Book reply)) → IsResuming call (resuming (replies.Book reply)) → IsBeginning (beginning (replies.Book reply)) → Says call (replies.Book reply)
of_book call reply o r b = record { opens = o; resumes = r; begins = b; joins = tt; verdict = tt; reads = tt; pages = tt }

of_channel : (call : Call) (reply : ChannelReply) → IfSome (joining_in (replies.Chan reply)) IsJoining → IfSome (verdict_in (replies.Chan reply)) IsVerdict → IsReading (reading (replies.Chan reply)) → IsChannelCarried reply
    → Says call (replies.Chan reply)
of_channel call reply j v r p = record { opens = tt; resumes = tt; begins = tt; joins = j; verdict = v; reads = r; pages = p }

says : (call : Call) (reply : Reply) → IsReplyCarried call reply → Says call reply
says call (replies.Dir reply) h = record { opens = tt; resumes = tt; begins = tt; joins = tt; verdict = tt; reads = tt; pages = tt }
says call (replies.Book (book.Opened conn generation key)) h = of_book call _ h tt tt
says call (replies.Book (book.Resumed conn generation)) h = of_book call _ tt h tt
says call (replies.Book (book.Known outcome)) h = of_book call _ tt tt h
says call (replies.Book (book.Limit count given)) h = of_book call _ tt tt tt
says call (replies.Book book.KeyUnknown) h = of_book call _ tt tt tt
says call (replies.Book book.Go) h = of_book call _ tt tt tt
says call (replies.Book (book.SerialGap got expected)) h = of_book call _ tt tt tt
says call (replies.Book (book.SerialOld got expected)) h = of_book call _ tt tt tt
says call (replies.Book (book.Superseded newer)) h = of_book call _ tt tt tt
says call (replies.Book book.NoRecord) h = of_book call _ tt tt tt
says call (replies.Book book.Done) h = of_book call _ tt tt tt
says call (replies.Book (book.Expired conns)) h = of_book call _ tt tt tt
says call (replies.Chan (channel.Put verdict)) h = of_channel call _ tt h tt h
says call (replies.Chan (channel.Joined serial resumed presence objects)) h = of_channel call _ h tt tt h
says call (replies.Chan (channel.Read (Run entries))) h = of_channel call _ tt tt h h
says call (replies.Chan (channel.Read (NotRetained first))) h = of_channel call _ tt tt tt h
says call (replies.Chan (channel.Members items last head)) h = of_channel call _ tt tt tt h
says call (replies.Chan (channel.Objects states last head)) h = of_channel call _ tt tt tt h
says call (replies.Chan (channel.Gone place)) h = of_channel call _ tt tt tt h
says call (replies.Chan channel.Ticked) h = of_channel call _ tt tt tt h
says call (replies.Chan (channel.Census first head members objects)) h = of_channel call _ tt tt tt h

-- ENDS

lost_kept : (holder : Option Holder) → IsWishKept (lost_wish holder)
lost_kept None = tt
lost_kept (Some holder) = tt

last_kept : (why : End) (holder : Option Holder) → IsWishKept (last_wish why holder)
last_kept ends.Closed holder = tt
last_kept (ends.Superseded mine newer) holder = tt
last_kept ends.Forgotten holder = tt
last_kept (ends.ConnectionLimit count given) holder = tt
last_kept ends.LinkEnded holder = lost_kept holder
last_kept ends.LinkFault holder = lost_kept holder
last_kept (ends.Lagged position first) holder = lost_kept holder
last_kept (ends.BadFrame bytes) holder = lost_kept holder
last_kept (ends.SerialGap got expected) holder = lost_kept holder
last_kept (ends.SerialOld got expected) holder = lost_kept holder
last_kept (ends.Idle last now) holder = lost_kept holder
last_kept ends.Stopped holder = lost_kept holder
last_kept ends.NoMemory holder = lost_kept holder

pub end_kept : (why : End) (s : State) → Kept s → Kept (ended_by why s)
end_kept why s k = record { wished = last_kept why s.holder; attached = k.attached; shown = join s.waiting (option_to_list (farewell why)) k.shown (farewell_readable why) }

-- a frame is put out
pub put_kept : (f : Frame) (now : ℕ) (s : State) → IsReadable f → Kept s → Kept (put f now s)
put_kept f now s h k = record { wished = k.wished; attached = k.attached; shown = behind h k }

puts_kept : (fs : List Frame) (now : ℕ) (s : State) → AreReadable fs → Kept s → Kept (puts fs now s)
puts_kept [] now s h k = k
puts_kept (f ∷ fs) now s h k = record { wished = k.wished; attached = k.attached; shown = join s.waiting (f ∷ fs) k.shown h }

-- REPLIES TO EACH WISH

resumed_kept : (key : List ℕ) (moment : ℕ) (v : Resuming) (now : ℕ) (s : State) → IsResuming (calls.Book (book_events.Resume key moment)) v → Kept s → Kept (resumed_by key v now s)
resumed_kept key moment (Back holder) now s h k = record { wished = tt; attached = k.attached; shown = behind (connected_readable holder.conn key s.unknown h) k }
resumed_kept key moment NotKnown now s h k = record { wished = tt; attached = k.attached; shown = k.shown }
resumed_kept key moment Unresumed now s h k = k

opened_kept : (v : Opening) (now : ℕ) (s : State) → IsOpening v → Kept s → Kept (opened_by v now s)
opened_kept (Opens holder key) now s h k = record { wished = tt; attached = k.attached; shown = behind (connected_readable holder.conn key s.unknown h) k }
opened_kept (Limited count given) now s h k = end_kept (ends.ConnectionLimit count given) s k
opened_kept Unopened now s h k = k

held_kept : (holder : Holder) (v : Standing) (next : State → State) (s : State) → Kept s → Kept (next s) → Kept (if_held holder v next s)
held_kept holder (Passed newer) next s k n = end_kept (ends.Superseded holder.generation newer) s k
held_kept holder Gone next s k n = end_kept ends.Forgotten s k
held_kept holder Holds next s k n = n
held_kept holder Unsaid next s k n = k

closed_kept : (now : ℕ) (s : State) → Kept s → Kept (closed now s)
closed_kept now s k = end_kept ends.Closed (put frames.Closed now s) (put_kept frames.Closed now s closed_readable k)

attach_kept : (asked : Asked) (v : Numbering) (now : ℕ) (s : State) → IsName asked.channel → Kept s → Kept (attach_at asked v now s)
attach_kept asked (Has number) now s n k = record { wished = n; attached = k.attached; shown = k.shown }
attach_kept asked HasNone now s n k = record { wished = tt; attached = k.attached; shown = behind (limit_readable asked.channel n) k }
attach_kept asked Unnumbered now s n k = k

sequence_small : (n : ℕ) → min (n + 1) (2 ^ 64 - 1) < 2 ^ 64
sequence_small n = omega arith

new_kept : (name : List ℕ) (number : ℕ) (j : Joining) (s : State) → IsName name → IsJoining j → IsSessionKept (new_session name number j (next_sequence s))
new_kept name number j s n h = record { named = n; epoch_fits = h.0; sequence_fits = sequence_small s.sequence }

joined_kept : (asked : Asked) (number : ℕ) (v : Option Joining) (now : ℕ) (s : State) → IsName asked.channel → IfSome v IsJoining → Kept s → Kept (joined_by asked number v now s)
joined_kept asked number None now s n h k = k
joined_kept asked number (Some j) now s n h k = record {
  wished = tt;
  attached = all_with asked.channel (new_session asked.channel number j (next_sequence s)) s.sessions n (new_kept asked.channel number j s n h) k.attached;
  shown = behind (attached_readable asked.channel asked.serial j n h) k;
}

settled_kept : (p : Publish) (v : Option Outcome) (now : ℕ) (s : State) → IsMsgSerial p.serial → IfSome v IsOutcome → Kept s → Kept (settled p v now s)
settled_kept p None now s m h k = record { wished = tt; attached = k.attached; shown = k.shown }
settled_kept p (Some (Taken place)) now s m h k = record { wished = tt; attached = k.attached; shown = behind (ack_readable p.serial m) k }
settled_kept p (Some (Refused code)) now s m h k = record { wished = tt; attached = k.attached; shown = behind (nack_readable p.serial code m h) k }

put_wished : (p : Publish) (holder : Holder) (found : Option ℕ) → IsMsgSerial p.serial → IsWishKept (put_wish p holder found)
put_wished p holder None m = m
put_wished p holder (Some number) m = m

begun_kept : (p : Publish) (holder : Holder) (v : Beginning) (now : ℕ) (s : State) → IsMsgSerial p.serial → IsBeginning v → Kept s → Kept (begun_by p holder v now s)
begun_kept p holder (Overtaken newer) now s m h k = end_kept (ends.Superseded holder.generation newer) s k
begun_kept p holder Missing now s m h k = end_kept ends.Forgotten s k
begun_kept p holder (Knows outcome) now s m h k = settled_kept p (Some outcome) now s m h k
begun_kept p holder (Above got expected) now s m h k = end_kept (ends.SerialGap got expected) s k
begun_kept p holder (Below got expected) now s m h k = end_kept (ends.SerialOld got expected) s k
begun_kept p holder Goes now s m h k = record { wished = put_wished p holder (at p.channel s.numbers) m; attached = k.attached; shown = k.shown }
begun_kept p holder Unbegun now s m h k = k

asked_kept : (p : Publish) (holder : Holder) (v : Numbering) (s : State) → IsMsgSerial p.serial → Kept s → Kept (put_at p holder v s)
asked_kept p holder (Has number) s m k = record { wished = m; attached = k.attached; shown = k.shown }
asked_kept p holder HasNone s m k = record { wished = (m, omega arith); attached = k.attached; shown = k.shown }
asked_kept p holder Unnumbered s m k = k

outcome_kept : (v : Verdict) → IsVerdict v → IfSome (outcome_of v) IsOutcome
outcome_kept (verdicts.Done outcome) h = h
outcome_kept verdicts.Old h = tt

verdict_kept : (p : Publish) (holder : Holder) (v : Option Verdict) (s : State) → IsMsgSerial p.serial → IfSome v IsVerdict → Kept s → Kept (put_by p holder v s)
verdict_kept p holder (Some verdict) s m h k = record { wished = (m, outcome_kept verdict h); attached = k.attached; shown = k.shown }
verdict_kept p holder None s m h k = k

-- the call in a wish
abbrev inside : Option Call → Call → Call
inside (Some call) other = call
inside None other = other

replied_kept : (wish : Wish) (hello : Hello) (moment : ℕ) (call : Call) (reply : Reply) (now : ℕ) (s : State) → wanted wish hello moment ≡ Some call → Says call reply → IsWishKept wish → Kept s → Kept (replied wish reply now s)
replied_kept wishes.Nothing hello moment call reply now s h says w k = k
replied_kept (wishes.Resume key) hello moment call reply now s h says w k =
    let same : calls.Book (book_events.Resume key moment) ≡ call = ap (λ (o : Option Call). inside o call) h in
    resumed_kept key moment (resuming reply) now s (subst (λ (c : Call). IsResuming c (resuming reply)) (sym same) says.resumes) k
replied_kept wishes.Open hello moment call reply now s h says w k = opened_kept (opening reply) now s says.opens k
replied_kept (wishes.Lost holder) hello moment call reply now s h says w k = record { wished = tt; attached = k.attached; shown = k.shown }
replied_kept (wishes.Close holder) hello moment call reply now s h says w k = held_kept holder (standing reply) (closed now) s k (closed_kept now s k)
replied_kept (wishes.AskToAttach asked) hello moment call reply now s h says w k = attach_kept asked (numbering reply) now s w k
replied_kept (wishes.Join asked number) hello moment call reply now s h says w k = joined_kept asked number (joining_in reply) now s w says.joins k
replied_kept (wishes.Begin p holder) hello moment call reply now s h says w k = begun_kept p holder (beginning reply) now s w says.begins k
replied_kept (wishes.AskToPut p holder) hello moment call reply now s h says w k = asked_kept p holder (numbering reply) s w k
replied_kept (wishes.Put p holder number) hello moment call reply now s h says w k = verdict_kept p holder (verdict_in reply) s w says.verdict k
replied_kept (wishes.Finish p holder outcome) hello moment call reply now s h says w k = held_kept holder (standing reply) (settled p outcome now) s k (settled_kept p outcome now s w.0 w.1 k)

-- PAGES AND READS

absorbed_pages : (reply : ChannelReply) (session : Session) → IsSessionKept session → IsSessionKept (paged (page_absorbed reply session.pages) session)
absorbed_pages (channel.Put verdict) session h = h
absorbed_pages (channel.Joined serial resumed presence objects) session h = h
absorbed_pages (channel.Read reply) session h = h
absorbed_pages (channel.Members items last head) session h = record { named = h.named; epoch_fits = h.epoch_fits; sequence_fits = h.sequence_fits }
absorbed_pages (channel.Objects states last head) session h = record { named = h.named; epoch_fits = h.epoch_fits; sequence_fits = h.sequence_fits }
absorbed_pages (channel.Gone place) session h = h
absorbed_pages channel.Ticked session h = h
absorbed_pages (channel.Census first head members objects) session h = h

page_kept : (name : List ℕ) (session : Session) (v : Option ChannelReply) (now : ℕ) (s : State) → IsName name → IsSessionKept session → IfSome v IsChannelCarried → Kept s → Kept (page_by name session v now s)
page_kept name session None now s n h given k = k
page_kept name session (Some reply) now s n h given k =
    puts_kept (option_to_list (page_frame reply session.pages)) now _ (page_readable reply session.pages h.named h.sequence_fits given)
    (record { wished = k.wished; attached = all_with name (paged (page_absorbed reply session.pages) session) s.sessions n (absorbed_pages reply session h) k.attached; shown = k.shown })

ended_session : (may : Bool) (session : Session) → IsSessionKept session → IsSessionKept (if may then paged (ended session.pages) session else session)
ended_session true session h = record { named = h.named; epoch_fits = h.epoch_fits; sequence_fits = h.sequence_fits }
ended_session false session h = h

into_kept : (name : List ℕ) (entries : List Entry) (session : Session) (now : ℕ) (s : State) → IsName name → IsSessionKept session → AllByRecursion IsEntry entries → Kept s → Kept (read_into name entries session now s)
into_kept name entries session now s n h given k =
    puts_kept (map (entry_frame name session.epoch) entries ++ ends_here session) now _
    (join (map (entry_frame name session.epoch) entries) (ends_here session) (entries_readable name session.epoch entries n h.epoch_fits given) (ends_readable session h.named h.sequence_fits))
    (record { wished = k.wished; attached = all_with name (ended_here session) s.sessions n (ended_session (may_end session.position session.pages) session h) k.attached; shown = k.shown })

read_kept : (name : List ℕ) (session : Session) (v : Reading) (now : ℕ) (s : State) → IsName name → IsSessionKept session → IsReading v → Kept s → Kept (read_by name session v now s)
read_kept name session (views.Came entries) now s n h given k =
    into_kept name entries (moved_on (length entries) session) now s n (record { named = h.named; epoch_fits = h.epoch_fits; sequence_fits = h.sequence_fits }) given k
read_kept name session (Behind first) now s n h given k = end_kept (ends.Lagged session.position first) s k
read_kept name session Unread now s n h given k = k

page_session : (found : Option (List ℕ × Session)) (reply : Reply) (now : ℕ) (s : State) → IfSome found IsEntryKept → IfSome (channel_reply reply) IsChannelCarried → Kept s
    → Kept (on_session (λ name session. page_by name session (channel_reply reply) now) found s)
page_session None reply now s h given k = k
page_session (Some e) reply now s h given k = page_kept e.0 e.1 (channel_reply reply) now s h.0 h.1 given k

read_session : (found : Option (List ℕ × Session)) (reply : Reply) (now : ℕ) (s : State) → IfSome found IsEntryKept → IsReading (reading reply) → Kept s
    → Kept (on_session (λ name session. read_by name session (reading reply) now) found s)
read_session None reply now s h given k = k
read_session (Some e) reply now s h given k = read_kept e.0 e.1 (reading reply) now s h.0 h.1 given k

-- ALL CALLS

other_kept : (call : Call) (reply : Reply) (now : ℕ) (s : State) → IsCalled call s → Says call reply → Kept s → Kept (replied s.wish reply now s)
other_kept call reply now s (inl h) says k = replied_kept s.wish s.hello h.0 call reply now s h.1 says k.wished k
other_kept call reply now s (inr h) says k = by_kind h.1
  where
    still : is_free s ≡ true → Kept (replied s.wish reply now s)
    still free = subst (λ (wish : Wish). Kept (replied wish reply now s)) (sym (free_is s.ended s.wish free).1) k

    by_kind : (page_call h.0 s ≡ Some call) ⊎ (poll_call h.0 s ≡ Some call) → Kept (replied s.wish reply now s)
    by_kind (inl q) = still (page_free h.0 s call q)
    by_kind (inr q) = still (poll_free h.0 s call q)

answered_kept : (call : Call) (reply : Reply) (now : ℕ) (s : State) → IsCalled call s → Says call reply → Kept s → Kept (answered call reply now s)
answered_kept (calls.Chan number (events.Read from most)) reply now s c says k = read_session (numbered number s.sessions) reply now s (found_kept (has_number number) s.sessions k.attached) says.reads k
answered_kept (calls.Chan number (events.MemberPage past most)) reply now s c says k = page_session (numbered number s.sessions) reply now s (found_kept (has_number number) s.sessions k.attached) says.pages k
answered_kept (calls.Chan number (events.ObjectPage past most)) reply now s c says k = page_session (numbered number s.sessions) reply now s (found_kept (has_number number) s.sessions k.attached) says.pages k
answered_kept (calls.Chan number (events.Put a b d e)) reply now s c says k = other_kept _ reply now s c says k
answered_kept (calls.Chan number (events.Join a)) reply now s c says k = other_kept _ reply now s c says k
answered_kept (calls.Chan number (events.Gone a b)) reply now s c says k = other_kept _ reply now s c says k
answered_kept (calls.Chan number (events.Tick a)) reply now s c says k = other_kept _ reply now s c says k
answered_kept (calls.Chan number events.Census) reply now s c says k = other_kept _ reply now s c says k
answered_kept (calls.Book event) reply now s c says k = other_kept _ reply now s c says k
answered_kept (calls.Dir event) reply now s c says k = other_kept _ reply now s c says k

pub absorbed_kept : (e : Option End) (call : Call) (reply : Reply) (now : ℕ) (s : State) → IsCalled call s → IsReplyCarried call reply → Kept s → Kept (answered_at e call reply now s)
absorbed_kept None call reply now s c given k = answered_kept call reply now s c (says call reply given) k
absorbed_kept (Some why) call reply now s c given k = record { wished = tt; attached = k.attached; shown = k.shown }
