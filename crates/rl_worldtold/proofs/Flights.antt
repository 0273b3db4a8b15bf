-- Puts in flight after what an actor does.
use Rattle.std.proofs.Common.{◌≡◌, ℕ, zero, suc, ◌+◌, ◌≤◌, Bool, true, false, List, [], ◌∷◌, ◌++◌, map, length, refl, sym, ap, subst, arith}
use Rattle.std.specs.Prelude.{Option, Some, None, slice_get, if◌then◌else◌, nat_lt, ◌==◌, ⊤, option_to_list}
use Rattle.rl_types.specs.declared.frames.Frame.{Frame}
use Rattle.rl_types.specs.declared.frames.Frame.TheVariants as frames
use Rattle.rl_types.specs.declared.frames.Head.{Head}
use Rattle.rl_types.specs.declared.messages.Body.{Body}
use Rattle.rl_events.specs.declared.book.BookReply.{BookReply}
use Rattle.rl_events.specs.declared.book.BookReply.TheVariants as book
use Rattle.rl_events.specs.declared.book.BookEvent.TheVariants as events
use Rattle.rl_events.specs.declared.channel.ChannelReply.{ChannelReply}
use Rattle.rl_events.specs.declared.channel.Outcome.{Outcome}
use Rattle.rl_events.specs.declared.channel.Outcome.TheVariants.{Taken, Refused}
use Rattle.rl_events.specs.declared.channel.Verdict.{Verdict}
use Rattle.rl_events.specs.declared.calls.End.{End}
use Rattle.rl_events.specs.declared.calls.End.TheVariants as ends
use Rattle.rl_events.specs.declared.calls.Reply.{Reply}
use Rattle.rl_events.specs.declared.calls.Reply.TheVariants as replies
use Rattle.rl_connbook.specs.declared.record.Record.{Record}
use Rattle.rl_connbook.specs.Book.{Book, told, at_record, begun, known, kept_outcome, record_at}
use Rattle.rl_actormodel.specs.declared.parts.Asked.{Asked}
use Rattle.rl_actormodel.specs.declared.parts.Publish.{Publish}
use Rattle.rl_actormodel.specs.declared.parts.Holder.{Holder}
use Rattle.rl_actormodel.specs.declared.parts.Session.{Session}
use Rattle.rl_actormodel.specs.declared.parts.Wish.{Wish}
use Rattle.rl_actormodel.specs.declared.parts.Wish.TheVariants as wishes
use Rattle.rl_names.specs.Names.{at, with_entry}
use Rattle.rl_actormodel.specs.State.{State, puts, is_free}
use Rattle.rl_actormodel.specs.Ends.{last_wish, lost_wish, over_at}
use Rattle.rl_actormodel.specs.Takes as takes
use Rattle.rl_actormodel.specs.Takes.{attach_wish, begin_wish, close_wish, publish, take}
use Rattle.rl_actormodel.specs.Rests.{rested, is_idle, is_quiet}
use Rattle.rl_actormodel.specs.Replies.{Standing, Passed, Gone, Holds, Unsaid, standing, Beginning, Overtaken, Missing, Knows, Above, Below, Goes, Unbegun, beginning, Opening, Opens, Limited, Unopened, opening, Resuming, Back, NotKnown, Unresumed, resuming, Numbering, Has, HasNone, Unnumbered, numbering, Joining, joining_in, verdict_in, Reading, Came, Behind, Unread}
use Rattle.rl_actormodel.specs.Connects.{resumed_by, opened_by, if_held, closed}
use Rattle.rl_actormodel.specs.Attaches.{attach_at, joined_by}
use Rattle.rl_actormodel.specs.Publishes.{settled, put_wish, begun_by, put_at, put_by}
use Rattle.rl_actormodel.specs.Pagings.{page_by, paged, ends_here, ended_here}
use Rattle.rl_actormodel.specs.Reads.{replied, read_by, moved_on, entry_frame, on_session}
use Rattle.rl_pages.specs.State.{page_frame, page_absorbed}
use Rattle.rl_worldmodel.specs.World.{Transport, changed_at}
use Rattle.rl_worldtold.specs.Orders.{flight, one, in_flight}

-- HOW MANY THERE ARE AFTER A CHANGE AT ONE PLACE

add_swap : (a b c d x : ℕ) → a + b ≡ c + d → x + a + b ≡ x + c + d
add_swap a b c d x h = omega (arith, h)

pub flights_changed : (conn k : ℕ) (f : Transport → Transport) (t : Transport) (ts : List Transport) → slice_get ts k ≡ Some t
    → in_flight conn (changed_at k f ts) + one conn (flight t.actor.wish) ≡ in_flight conn ts + one conn (flight (f t).actor.wish)
flights_changed conn k f t [] found = absurd (cc)
flights_changed conn zero f t (u ∷ ts) found =
    let same : u ≡ t = cc in
    subst (λ (v : Transport). one conn (flight (f v).actor.wish) + in_flight conn ts + one conn (flight t.actor.wish) ≡ one conn (flight v.actor.wish) + in_flight conn ts + one conn (flight (f t).actor.wish)) (sym same) (omega arith)
flights_changed conn (suc k) f t (u ∷ ts) found =
    add_swap (in_flight conn (changed_at k f ts)) (one conn (flight t.actor.wish)) (in_flight conn ts) (one conn (flight (f t).actor.wish)) (one conn (flight u.actor.wish)) (flights_changed conn k f t ts found)

pub flights_less : (conn k : ℕ) (f : Transport → Transport) → ((t : Transport) → one conn (flight (f t).actor.wish) ≤ one conn (flight t.actor.wish)) → (ts : List Transport) → in_flight conn (changed_at k f ts) ≤ in_flight conn ts
flights_less conn k f less [] = omega arith
flights_less conn zero f less (t ∷ ts) = omega (arith, less t)
flights_less conn (suc k) f less (t ∷ ts) = omega (arith, flights_less conn k f less ts)

pub flights_append : (conn : ℕ) (ts : List Transport) (t : Transport) → flight t.actor.wish ≡ None → in_flight conn (ts ++ t ∷ []) ≡ in_flight conn ts
flights_append conn [] t none = ap (λ (o : Option ℕ). one conn o + 0) none
flights_append conn (u ∷ ts) t none = ap (λ n. one conn (flight u.actor.wish) + n) (flights_append conn ts t none)

-- WHAT AN ACTOR WANTS AFTER A REPLY

lost_flight : (holder : Option Holder) → flight (lost_wish holder) ≡ None
lost_flight None = refl
lost_flight (Some holder) = refl

pub last_flight : (why : End) (holder : Option Holder) → flight (last_wish why holder) ≡ None
last_flight (ends.Superseded mine newer) holder = refl
last_flight ends.Forgotten holder = refl
last_flight ends.Closed holder = refl
last_flight (ends.ConnectionLimit count given) holder = refl
last_flight why holder = lost_flight holder

abbrev goes_by : Beginning → Holder → Option ℕ
goes_by Goes holder = Some holder.conn
goes_by _ holder = None

abbrev stays_by : Standing → Holder → Option ℕ
stays_by Unsaid holder = Some holder.conn
stays_by _ holder = None

-- for which connection it puts after this reply to a wish
abbrev pub flight_after : Wish → Reply → Option ℕ
flight_after (wishes.Begin p holder) reply = goes_by (beginning reply) holder
flight_after (wishes.Finish p holder outcome) reply = stays_by (standing reply) holder
flight_after wish reply = flight wish

put_flight : (p : Publish) (holder : Holder) (number : Option ℕ) → flight (put_wish p holder number) ≡ Some holder.conn
put_flight p holder None = refl
put_flight p holder (Some number) = refl

resumed_flight : (key : List ℕ) (r : Resuming) (now : ℕ) (s : State) → flight s.wish ≡ None → flight (resumed_by key r now s).wish ≡ None
resumed_flight key (Back holder) now s none = refl
resumed_flight key NotKnown now s none = refl
resumed_flight key Unresumed now s none = none

opened_flight : (o : Opening) (now : ℕ) (s : State) → flight s.wish ≡ None → flight (opened_by o now s).wish ≡ None
opened_flight (Opens holder key) now s none = refl
opened_flight (Limited count given) now s none = refl
opened_flight Unopened now s none = none

closed_flight : (holder : Holder) (standing : Standing) (now : ℕ) (s : State) → flight s.wish ≡ None → flight (if_held holder standing (closed now) s).wish ≡ None
closed_flight holder (Passed newer) now s none = refl
closed_flight holder Gone now s none = refl
closed_flight holder Holds now s none = refl
closed_flight holder Unsaid now s none = none

attach_flight : (asked : Asked) (number : Numbering) (now : ℕ) (s : State) → flight s.wish ≡ None → flight (attach_at asked number now s).wish ≡ None
attach_flight asked HasNone now s none = refl
attach_flight asked (Has number) now s none = refl
attach_flight asked Unnumbered now s none = none

joined_flight : (asked : Asked) (number : ℕ) (j : Option Joining) (now : ℕ) (s : State) → flight s.wish ≡ None → flight (joined_by asked number j now s).wish ≡ None
joined_flight asked number None now s none = none
joined_flight asked number (Some j) now s none = refl

settled_flight : (p : Publish) (outcome : Option Outcome) (now : ℕ) (s : State) → flight (settled p outcome now s).wish ≡ None
settled_flight p None now s = refl
settled_flight p (Some (Taken place)) now s = refl
settled_flight p (Some (Refused code)) now s = refl

begun_flight : (p : Publish) (holder : Holder) (b : Beginning) (now : ℕ) (s : State) → flight s.wish ≡ None → flight (begun_by p holder b now s).wish ≡ goes_by b holder
begun_flight p holder (Overtaken newer) now s none = refl
begun_flight p holder Missing now s none = refl
begun_flight p holder (Knows outcome) now s none = settled_flight p (Some outcome) now s
begun_flight p holder (Above got expected) now s none = lost_flight s.holder
begun_flight p holder (Below got expected) now s none = lost_flight s.holder
begun_flight p holder Goes now s none = put_flight p holder (at p.channel s.numbers)
begun_flight p holder Unbegun now s none = none

put_at_flight : (p : Publish) (holder : Holder) (number : Numbering) (s : State) → flight s.wish ≡ Some holder.conn → flight (put_at p holder number s).wish ≡ Some holder.conn
put_at_flight p holder HasNone s is = refl
put_at_flight p holder (Has number) s is = refl
put_at_flight p holder Unnumbered s is = is

put_by_flight : (p : Publish) (holder : Holder) (verdict : Option Verdict) (s : State) → flight s.wish ≡ Some holder.conn → flight (put_by p holder verdict s).wish ≡ Some holder.conn
put_by_flight p holder (Some verdict) s is = refl
put_by_flight p holder None s is = is

finish_flight : (p : Publish) (holder : Holder) (outcome : Option Outcome) (standing : Standing) (now : ℕ) (s : State) → flight s.wish ≡ Some holder.conn → flight (if_held holder standing (settled p outcome now) s).wish ≡ stays_by standing holder
finish_flight p holder outcome (Passed newer) now s is = refl
finish_flight p holder outcome Gone now s is = refl
finish_flight p holder outcome Holds now s is = settled_flight p outcome now s
finish_flight p holder outcome Unsaid now s is = is

abbrev pub IsWanted : Wish → Type 0
IsWanted wishes.Nothing = ⊥
IsWanted wish = ⊤

pub replied_flight : (wish : Wish) → IsWanted wish → (reply : Reply) (now : ℕ) (s : State) → flight s.wish ≡ flight wish → flight (replied wish reply now s).wish ≡ flight_after wish reply
replied_flight wishes.Nothing some reply now s is = absurd some
replied_flight (wishes.Resume key) some reply now s is = resumed_flight key (resuming reply) now s is
replied_flight wishes.Open some reply now s is = opened_flight (opening reply) now s is
replied_flight (wishes.Lost holder) some reply now s is = refl
replied_flight (wishes.Close holder) some reply now s is = closed_flight holder (standing reply) now s is
replied_flight (wishes.AskToAttach asked) some reply now s is = attach_flight asked (numbering reply) now s is
replied_flight (wishes.Join asked number) some reply now s is = joined_flight asked number (joining_in reply) now s is
replied_flight (wishes.Begin p holder) some reply now s is = begun_flight p holder (beginning reply) now s is
replied_flight (wishes.AskToPut p holder) some reply now s is = put_at_flight p holder (numbering reply) s is
replied_flight (wishes.Put p holder number) some reply now s is = put_by_flight p holder (verdict_in reply) s is
replied_flight (wishes.Finish p holder outcome) some reply now s is = finish_flight p holder outcome (standing reply) now s is

-- WHAT A BEGIN AND AN END ARE TOLD

abbrev pub IsBegin : BookReply → Type 0
IsBegin book.Go = ⊤
IsBegin (book.Known outcome) = ⊤
IsBegin (book.SerialGap got expected) = ⊤
IsBegin (book.SerialOld got expected) = ⊤
IsBegin (book.Superseded newer) = ⊤
IsBegin book.NoRecord = ⊤
IsBegin reply = ⊥

abbrev pub IsEnding : BookReply → Type 0
IsEnding book.Done = ⊤
IsEnding (book.Superseded newer) = ⊤
IsEnding book.NoRecord = ⊤
IsEnding reply = ⊥

begin_if : (b : Bool) (x y : BookReply) → IsBegin x → IsBegin y → IsBegin (if b then x else y)
begin_if true x y p q = p
begin_if false x y p q = q

known_begin : (serial expected : ℕ) (o : Option Outcome) → IsBegin (known serial expected o)
known_begin serial expected None = tt
known_begin serial expected (Some outcome) = tt

begun_begin : (serial : ℕ) (r : Record) → IsBegin (begun serial r)
begun_begin serial r =
    begin_if (serial == r.expected) _ _ tt
    (begin_if (nat_lt serial r.expected) _ _ (known_begin serial r.expected (kept_outcome serial r.outcomes))
    (begin_if r.begun (book.SerialGap serial r.expected) book.Go tt tt))

record_begin : (generation serial : ℕ) (o : Option Record) → IsBegin (at_record generation (begun serial) o)
record_begin generation serial None = tt
record_begin generation serial (Some r) = begin_if (nat_lt generation r.generation) _ _ tt (begun_begin serial r)

pub told_begin : (b : Book) (conn generation serial : ℕ) → IsBegin (told b (events.Begin conn generation serial))
told_begin b conn generation serial = record_begin generation serial (record_at conn b)

ending_if : (b : Bool) (x y : BookReply) → IsEnding x → IsEnding y → IsEnding (if b then x else y)
ending_if true x y p q = p
ending_if false x y p q = q

record_ending : (generation : ℕ) (o : Option Record) → IsEnding (at_record generation (λ _. book.Done) o)
record_ending generation None = tt
record_ending generation (Some r) = ending_if (nat_lt generation r.generation) _ _ tt tt

pub told_ending : (b : Book) (conn generation serial : ℕ) (outcome : Option Outcome) → IsEnding (told b (events.End conn generation serial outcome))
told_ending b conn generation serial outcome = record_ending generation (record_at conn b)

pub ends_flight : (p : Publish) (holder : Holder) (outcome : Option Outcome) (r : BookReply) → IsEnding r → flight_after (wishes.Finish p holder outcome) (replies.Book r) ≡ None
ends_flight p holder outcome book.Done is = refl
ends_flight p holder outcome (book.Superseded newer) is = refl
ends_flight p holder outcome book.NoRecord is = refl
ends_flight p holder outcome r is = absurd is

-- WHAT AN ACTOR DOES BY ITSELF BEGINS NO PUT

pub less_over : (conn : ℕ) (why : End) (ended : Option End) (s : State) → one conn (flight (over_at ended why s).wish) ≤ one conn (flight s.wish)
less_over conn why None s = let none : one conn (flight (last_wish why s.holder)) ≡ 0 = ap (one conn) (last_flight why s.holder) in omega (arith, none)
less_over conn why (Some end) s = omega arith

wish_attach : (conn : ℕ) (asked : Asked) (o : Option ℕ) (n : ℕ) → one conn (flight (attach_wish asked o)) ≤ n
wish_attach conn asked None n = omega arith
wish_attach conn asked (Some number) n = omega arith

wish_begin : (conn : ℕ) (p : Publish) (o : Option Holder) (n : ℕ) → one conn (flight (begin_wish p o)) ≤ n
wish_begin conn p None n = omega arith
wish_begin conn p (Some holder) n = omega arith

wish_close : (conn : ℕ) (o : Option Holder) (n : ℕ) → one conn (flight (close_wish o)) ≤ n
wish_close conn None n = omega arith
wish_close conn (Some holder) n = omega arith

less_publish : (conn : ℕ) (head : Head) (o : Option ℕ) (body : Body) (s : State) → one conn (flight (publish head o body s).wish) ≤ one conn (flight s.wish)
less_publish conn head None body s = omega arith
less_publish conn head (Some serial) body s = wish_begin conn _ s.holder _

pub less_take : (conn : ℕ) (frame : Frame) (now : ℕ) (s : State) → one conn (flight (take frame now s).wish) ≤ one conn (flight s.wish)
less_take conn (frames.Attach channel serial) now s = wish_attach conn _ (at channel s.numbers) _
less_take conn (frames.Message head items) now s = less_publish conn head head.msg _ s
less_take conn (frames.Presence head items) now s = less_publish conn head head.msg _ s
less_take conn (frames.Object head ops) now s = less_publish conn head head.msg _ s
less_take conn frames.Close now s = wish_close conn s.holder _
less_take conn frame now s = omega arith

pub less_came : (conn : ℕ) (came : takes.Came) (now : ℕ) (s : State) → one conn (flight (takes.take_any came now s).wish) ≤ one conn (flight s.wish)
less_came conn (takes.A frame) now s = less_take conn frame now s
less_came conn takes.Unknown now s = omega arith
less_came conn (takes.Bad bytes) now s = less_over conn (ends.BadFrame bytes) None s

less_if : (conn : ℕ) (b : Bool) (x y s : State) → one conn (flight x.wish) ≤ one conn (flight s.wish) → one conn (flight y.wish) ≤ one conn (flight s.wish) → one conn (flight (if b then x else y).wish) ≤ one conn (flight s.wish)
less_if conn true x y s p q = p
less_if conn false x y s p q = q

pub less_rested : (conn now : ℕ) (s : State) → one conn (flight (rested now s).wish) ≤ one conn (flight s.wish)
less_rested conn now s =
    less_if conn (is_free s) _ s s
    (less_if conn (is_idle now s) _ _ s (less_over conn (ends.Idle s.last_in now) None s) (less_if conn (is_quiet now s) _ s s (omega arith) (omega arith))) (omega arith)

less_puts : (conn : ℕ) (list : List Frame) (now : ℕ) (s : State) → one conn (flight (puts list now s).wish) ≤ one conn (flight s.wish)
less_puts conn [] now s = omega arith
less_puts conn (frame ∷ more) now s = omega arith

pub less_read : (conn : ℕ) (name : List ℕ) (session : Session) (reading : Reading) (now : ℕ) (s : State) → one conn (flight (read_by name session reading now s).wish) ≤ one conn (flight s.wish)
less_read conn name session (Came entries) now s =
    less_puts conn (map (entry_frame name session.epoch) entries ++ ends_here (moved_on (length entries) session)) now (record s { sessions = with_entry name (ended_here (moved_on (length entries) session)) s.sessions })
less_read conn name session (Behind first) now s = less_over conn (ends.Lagged session.position first) None s
less_read conn name session Unread now s = omega arith

pub less_page : (conn : ℕ) (name : List ℕ) (session : Session) (o : Option ChannelReply) (now : ℕ) (s : State) → one conn (flight (page_by name session o now s).wish) ≤ one conn (flight s.wish)
less_page conn name session None now s = omega arith
less_page conn name session (Some reply) now s =
    less_puts conn (option_to_list (page_frame reply session.pages)) now (record s { sessions = with_entry name (paged (page_absorbed reply session.pages) session) s.sessions })

pub less_session : (conn : ℕ) (act : List ℕ → Session → State → State) (o : Option (List ℕ × Session)) (s : State) → ((name : List ℕ) (session : Session) → one conn (flight (act name session s).wish) ≤ one conn (flight s.wish))
    → one conn (flight (on_session act o s).wish) ≤ one conn (flight s.wish)
less_session conn act None s each = omega arith
less_session conn act (Some e) s each = each e.0 e.1
