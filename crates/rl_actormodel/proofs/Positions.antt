-- The positions of sessions.
use Rattle.std.proofs.Common.{◌≡◌, ℕ, Bool, true, false, cond, List, [], ◌∷◌, ◌++◌, length, Option, Some, None, refl, sym, ap, ◌∙◌, subst, arith, inl, inr}
use Rattle.std.specs.Prelude.{◌==◌, ◌⊎◌, bytes_eq, map, option_map, option_to_list, if◌then◌else◌}
use Rattle.std.proofs.lemmas.Bool.Decides.{nat_tests}
use Rattle.std.proofs.lemmas.Slice.Eq.{bytes_eq-Decides}
use Rattle.rl_ids.specs.declared.members.MemberKey.{MemberKey}
use Rattle.rl_ids.specs.declared.objects.ObjectId.{ObjectId}
use Rattle.rl_types.specs.declared.messages.Body.{Body}
use Rattle.rl_types.specs.declared.messages.Entry.{Entry}
use Rattle.rl_types.specs.declared.messages.Given.{Given}
use Rattle.rl_types.specs.declared.frames.Head.{Head}
use Rattle.rl_types.specs.declared.frames.Frame.{Frame}
use Rattle.rl_types.specs.declared.frames.Frame.TheVariants as frames
use Rattle.rl_runs.specs.declared.commands.Hello.{Hello}
use Rattle.rl_events.specs.declared.channel.Outcome.{Outcome}
use Rattle.rl_events.specs.declared.channel.Outcome.TheVariants.{Taken, Refused}
use Rattle.rl_events.specs.declared.channel.Verdict.{Verdict}
use Rattle.rl_events.specs.declared.channel.ChannelEvent.{ChannelEvent}
use Rattle.rl_events.specs.declared.channel.ChannelEvent.TheVariants as events
use Rattle.rl_events.specs.declared.channel.ChannelReply.{ChannelReply}
use Rattle.rl_events.specs.declared.channel.ChannelReply.TheVariants as channel
use Rattle.rl_events.specs.declared.channel.ReadReply.TheVariants.{Run, NotRetained}
use Rattle.rl_events.specs.declared.calls.DirEvent.TheVariants.{Ask}
use Rattle.rl_events.specs.declared.calls.DirReply.TheVariants as directory
use Rattle.rl_events.specs.declared.calls.Call.{Call}
use Rattle.rl_events.specs.declared.calls.Call.TheVariants as calls
use Rattle.rl_events.specs.declared.calls.Reply.{Reply}
use Rattle.rl_events.specs.declared.calls.Reply.TheVariants as replies
use Rattle.rl_events.specs.declared.calls.End.{End}
use Rattle.rl_events.specs.declared.calls.End.TheVariants as ends
use Rattle.rl_pages.specs.State.{page_frame, page_absorbed, may_end, ended}
use Rattle.rl_actormodel.specs.declared.parts.Asked.{Asked}
use Rattle.rl_actormodel.specs.declared.parts.Publish.{Publish}
use Rattle.rl_actormodel.specs.declared.parts.Holder.{Holder}
use Rattle.rl_actormodel.specs.declared.parts.Session.{Session}
use Rattle.rl_actormodel.specs.declared.parts.Wish.{Wish}
use Rattle.rl_actormodel.specs.declared.parts.Wish.TheVariants as wishes
use Rattle.rl_names.specs.Names.{at, with_entry}
use Rattle.rl_actormodel.specs.State.{State, begun, first_wish, has_number, numbered, is_free, put, puts}
use Rattle.rl_actormodel.specs.Ends.{lost_wish, last_wish, ended_by, over_at}
use Rattle.rl_actormodel.specs.Wishes.{wanted, call_of, page_of, read_of, page_call, poll_call}
use Rattle.rl_actormodel.specs.Takes.{Came, A, Unknown, Bad, attach_wish, begin_wish, close_wish, publish, took}
use Rattle.rl_actormodel.specs.Takes as takes
use Rattle.rl_actormodel.specs.Replies.{Opening, Opens, Limited, Unopened, opening, Standing, Passed, Gone, Holds, Unsaid, standing, Beginning, Overtaken, Missing, Knows, Above, Below, Goes, Unbegun, beginning, Resuming, Back, NotKnown, Unresumed, resuming, Numbering, Has, HasNone, Unnumbered, numbering, Joining, joining_in, verdict_in, Reading, Behind, Unread, reading, channel_reply}
use Rattle.rl_actormodel.specs.Replies as views
use Rattle.rl_actormodel.specs.Connects.{resumed_by, opened_by, if_held, closed}
use Rattle.rl_actormodel.specs.Attaches.{attach_at, joined_by, new_session, next_sequence}
use Rattle.rl_actormodel.specs.Publishes.{settled, put_wish, begun_by, put_at, put_by}
use Rattle.rl_actormodel.specs.Pagings.{paged, page_by, ends_here, ended_here}
use Rattle.rl_actormodel.specs.Reads.{entry_frame, moved_on, read_into, read_by, on_session, replied, answered, answered_at}
use Rattle.rl_actormodel.specs.Rests.{is_idle, is_quiet}
use Rattle.rl_actormodel.specs.Inputs.{Input, Took, Absorbed, Rested, Ended, Gave, step, after}
use Rattle.rl_actormodel.specs.Conditions.{is_reply_to, IsCalled, IsAllowed, AreAllowed}
use Rattle.rl_actormodel.specs.Laws.{owed}
use Rattle.rl_actormodel.specs.Positions.{further, place_after, place_come_to, IsNamed, AreNamed, IsPlaced, PositionsAreKept}
use Rattle.rl_actormodel.proofs.Answered.{free_is, is_of_session, page_free, poll_free, answered_in_order}
use Rattle.rl_actormodel.proofs.Named.{Rising, rising_with, rising_without, at_with, at_without, found_at, found_passes, none_passes}

-- a channel to be joined has its name
abbrev IsWishNamed : (ℕ → List ℕ) → Wish → Type 0
IsWishNamed name_of (wishes.Join asked number) = name_of number ≡ asked.channel
IsWishNamed name_of wish = Unit {0}

record Placed (name_of : ℕ → List ℕ) (inputs : List Input) (s : State) : Type 0 where
  rising : Rising s.sessions
  placed : (name : List ℕ) (session : Session) → at name s.sessions ≡ Some session → IsPlaced name_of inputs name session
  known : (name : List ℕ) (number : ℕ) → at name s.numbers ≡ Some number → name_of number ≡ name
  wished : IsWishNamed name_of s.wish

-- WHAT LEAVES SESSIONS AND NUMBERS

record Leaves (name_of : ℕ → List ℕ) (s t : State) : Type 0 where
  sessions : t.sessions ≡ s.sessions
  numbers : t.numbers ≡ s.numbers
  wish : IsWishNamed name_of t.wish

carries : (name_of : ℕ → List ℕ) (inputs : List Input) (input : Input) (name : List ℕ) (session : Session) → (place_after session.number input (place_come_to session.number inputs) ≡ place_come_to session.number inputs)
    → IsPlaced name_of inputs name session → IsPlaced name_of (input ∷ inputs) name session
carries name_of inputs input name session same p = record { channel_is = p.channel_is; place_is = same ∙ p.place_is }

left : {name_of : ℕ → List ℕ} {inputs : List Input} {s t : State} (input : Input) → ((number : ℕ) (before : Option ℕ) → place_after number input before ≡ before)
    → Leaves name_of s t → Placed name_of inputs s → Placed name_of (input ∷ inputs) t
left {name_of = name_of} {inputs = inputs} {s = s} {t = t} input passes l p = record {
  rising = subst (λ (es : List (List ℕ × Session)). Rising es) (sym l.sessions) p.rising;
  placed = λ name session h. carries name_of inputs input name session (passes session.number _) (p.placed name session (sym (ap (λ (es : List (List ℕ × Session)). at name es) l.sessions) ∙ h));
  known = λ name number h. p.known name number (sym (ap (λ (es : List (List ℕ × ℕ)). at name es) l.numbers) ∙ h);
  wished = l.wish;
}

leaves : {name_of : ℕ → List ℕ} {s t : State} → t.sessions ≡ s.sessions → t.numbers ≡ s.numbers → IsWishNamed name_of t.wish → Leaves name_of s t
leaves a b w = record { sessions = a; numbers = b; wish = w }

lost_named : (name_of : ℕ → List ℕ) (holder : Option Holder) → IsWishNamed name_of (lost_wish holder)
lost_named name_of None = tt
lost_named name_of (Some holder) = tt

last_named : (name_of : ℕ → List ℕ) (why : End) (holder : Option Holder) → IsWishNamed name_of (last_wish why holder)
last_named name_of ends.Closed holder = tt
last_named name_of ends.LinkEnded holder = lost_named name_of holder
last_named name_of ends.LinkFault holder = lost_named name_of holder
last_named name_of (ends.Superseded m n) holder = tt
last_named name_of ends.Forgotten holder = tt
last_named name_of (ends.Lagged m n) holder = lost_named name_of holder
last_named name_of (ends.BadFrame m) holder = lost_named name_of holder
last_named name_of (ends.SerialGap m n) holder = lost_named name_of holder
last_named name_of (ends.SerialOld m n) holder = lost_named name_of holder
last_named name_of (ends.Idle m n) holder = lost_named name_of holder
last_named name_of ends.Stopped holder = lost_named name_of holder
last_named name_of (ends.ConnectionLimit m n) holder = tt
last_named name_of ends.NoMemory holder = lost_named name_of holder

ending : (name_of : ℕ → List ℕ) (why : End) (s : State) → Leaves name_of s (ended_by why s)
ending name_of why s = leaves refl refl (last_named name_of why s.holder)

resuming_leaves : (name_of : ℕ → List ℕ) (key : List ℕ) (v : Resuming) (now : ℕ) (s : State) → IsWishNamed name_of s.wish → Leaves name_of s (resumed_by key v now s)
resuming_leaves name_of key (Back holder) now s w = leaves refl refl tt
resuming_leaves name_of key NotKnown now s w = leaves refl refl tt
resuming_leaves name_of key Unresumed now s w = leaves refl refl w

opening_leaves : (name_of : ℕ → List ℕ) (v : Opening) (now : ℕ) (s : State) → IsWishNamed name_of s.wish → Leaves name_of s (opened_by v now s)
opening_leaves name_of (Opens holder key) now s w = leaves refl refl tt
opening_leaves name_of (Limited count given) now s w = ending name_of (ends.ConnectionLimit count given) s
opening_leaves name_of Unopened now s w = leaves refl refl w

closing : (name_of : ℕ → List ℕ) (now : ℕ) (s : State) → Leaves name_of s (closed now s)
closing name_of now s = leaves refl refl tt

holding : (name_of : ℕ → List ℕ) (holder : Holder) (v : Standing) (next : State → State) (s : State) → IsWishNamed name_of s.wish → Leaves name_of s (next s) → Leaves name_of s (if_held holder v next s)
holding name_of holder (Passed newer) next s w l = ending name_of (ends.Superseded holder.generation newer) s
holding name_of holder Gone next s w l = ending name_of ends.Forgotten s
holding name_of holder Holds next s w l = l
holding name_of holder Unsaid next s w l = leaves refl refl w

settling : (name_of : ℕ → List ℕ) (p : Publish) (v : Option Outcome) (now : ℕ) (s : State) → Leaves name_of s (settled p v now s)
settling name_of p None now s = leaves refl refl tt
settling name_of p (Some (Taken place)) now s = leaves refl refl tt
settling name_of p (Some (Refused code)) now s = leaves refl refl tt

put_named : (name_of : ℕ → List ℕ) (p : Publish) (holder : Holder) (v : Option ℕ) → IsWishNamed name_of (put_wish p holder v)
put_named name_of p holder None = tt
put_named name_of p holder (Some number) = tt

beginning_leaves : (name_of : ℕ → List ℕ) (p : Publish) (holder : Holder) (v : Beginning) (now : ℕ) (s : State) → IsWishNamed name_of s.wish → Leaves name_of s (begun_by p holder v now s)
beginning_leaves name_of p holder (Overtaken newer) now s w = ending name_of (ends.Superseded holder.generation newer) s
beginning_leaves name_of p holder Missing now s w = ending name_of ends.Forgotten s
beginning_leaves name_of p holder (Knows outcome) now s w = settling name_of p (Some outcome) now s
beginning_leaves name_of p holder (Above got expected) now s w = ending name_of (ends.SerialGap got expected) s
beginning_leaves name_of p holder (Below got expected) now s w = ending name_of (ends.SerialOld got expected) s
beginning_leaves name_of p holder Goes now s w = leaves refl refl (put_named name_of p holder (at p.channel s.numbers))
beginning_leaves name_of p holder Unbegun now s w = leaves refl refl w

verdict_leaves : (name_of : ℕ → List ℕ) (p : Publish) (holder : Holder) (v : Option Verdict) (s : State) → IsWishNamed name_of s.wish → Leaves name_of s (put_by p holder v s)
verdict_leaves name_of p holder (Some verdict) s w = leaves refl refl tt
verdict_leaves name_of p holder None s w = leaves refl refl w

-- NUMBERS

-- the number of a name is known from now on
numbers_known : (name_of : ℕ → List ℕ) (name : List ℕ) (number : ℕ) (numbers : List (List ℕ × ℕ)) → name_of number ≡ name
    → ((q : List ℕ) (n : ℕ) → at q numbers ≡ Some n → name_of n ≡ q) → (q : List ℕ) (n : ℕ) → at q (with_entry name number numbers) ≡ Some n → name_of n ≡ q
numbers_known name_of name number numbers is known q n h = by_test (bytes_eq q name) refl (sym (at_with q name number numbers) ∙ h)
  where
    by_test : (b : Bool) → bytes_eq q name ≡ b → cond b (Some number) (at q numbers) ≡ Some n → name_of n ≡ q
    by_test true same found = let at_n : number ≡ n = cc in ap name_of (sym at_n) ∙ is ∙ sym ((bytes_eq-Decides q name).0 same)
    by_test false same found = known q n found

asked_placed : (name_of : ℕ → List ℕ) (inputs : List Input) (asked : Asked) (reply : Reply) (now : ℕ) (s : State)
    → IsNamed name_of (Absorbed (calls.Dir (Ask asked.channel)) reply now) → Placed name_of inputs s
    → Placed name_of (Absorbed (calls.Dir (Ask asked.channel)) reply now ∷ inputs) (attach_at asked (numbering reply) now s)
asked_placed name_of inputs asked (replies.Dir (directory.At number)) now s is p = record {
  rising = p.rising;
  placed = λ name session h. carries name_of inputs (Absorbed (calls.Dir (Ask asked.channel)) (replies.Dir (directory.At number)) now) name session refl (p.placed name session h);
  known = numbers_known name_of asked.channel number s.numbers is p.known;
  wished = is;
}
asked_placed name_of inputs asked (replies.Dir (directory.Full count)) now s is p = left _ (λ n b. refl) (leaves refl refl tt) p
asked_placed name_of inputs asked (replies.Dir (directory.Names names)) now s is p = left _ (λ n b. refl) (leaves refl refl p.wished) p
asked_placed name_of inputs asked (replies.Book reply) now s is p = left _ (λ n b. refl) (leaves refl refl p.wished) p
asked_placed name_of inputs asked (replies.Chan reply) now s is p = left _ (λ n b. refl) (leaves refl refl p.wished) p

put_placed : (name_of : ℕ → List ℕ) (inputs : List Input) (p : Publish) (holder : Holder) (reply : Reply) (now : ℕ) (s : State)
    → IsNamed name_of (Absorbed (calls.Dir (Ask p.channel)) reply now) → Placed name_of inputs s
    → Placed name_of (Absorbed (calls.Dir (Ask p.channel)) reply now ∷ inputs) (put_at p holder (numbering reply) s)
put_placed name_of inputs p holder (replies.Dir (directory.At number)) now s is k = record {
  rising = k.rising;
  placed = λ name session h. carries name_of inputs (Absorbed (calls.Dir (Ask p.channel)) (replies.Dir (directory.At number)) now) name session refl (k.placed name session h);
  known = numbers_known name_of p.channel number s.numbers is k.known;
  wished = tt;
}
put_placed name_of inputs p holder (replies.Dir (directory.Full count)) now s is k = left _ (λ n b. refl) (leaves refl refl tt) k
put_placed name_of inputs p holder (replies.Dir (directory.Names names)) now s is k = left _ (λ n b. refl) (leaves refl refl k.wished) k
put_placed name_of inputs p holder (replies.Book reply) now s is k = left _ (λ n b. refl) (leaves refl refl k.wished) k
put_placed name_of inputs p holder (replies.Chan reply) now s is k = left _ (λ n b. refl) (leaves refl refl k.wished) k

-- SESSIONS

same_number : (n : ℕ) → (n == n) ≡ true
same_number n = grind (arith, nat_tests)

is_number : (m n : ℕ) → (m == n) ≡ true → m ≡ n
is_number m n h = grind (arith, nat_tests)

-- of two names the numbers differ
differs : (name_of : ℕ → List ℕ) (one other : List ℕ) (m n : ℕ) → name_of m ≡ one → name_of n ≡ other → bytes_eq other one ≡ false → (m == n) ≡ false
differs name_of one other m n a b apart = by_test (m == n) refl
  where
    by_test : (c : Bool) → (m == n) ≡ c → (m == n) ≡ false
    by_test false is = is
    by_test true is =
        let same : other ≡ one = sym b ∙ ap name_of (sym (is_number m n is)) ∙ a in
        let is_so : bytes_eq other one ≡ true = (bytes_eq-Decides other one).1 same in
        absurd (cc)

-- a session was put in at its name: it is placed, and what concerns its channel concerns no other
with_session : {name_of : ℕ → List ℕ} {inputs : List Input} (input : Input) (name : List ℕ) (session : Session) (s t : State)
    → t.sessions ≡ with_entry name session s.sessions → t.numbers ≡ s.numbers → IsWishNamed name_of t.wish
    → IsPlaced name_of (input ∷ inputs) name session
    → ((number : ℕ) (before : Option ℕ) → (session.number == number) ≡ false → place_after number input before ≡ before)
    → Placed name_of inputs s → Placed name_of (input ∷ inputs) t
with_session {name_of = name_of} {inputs = inputs} input name session s t sessions numbers wish is others p = record {
  rising = subst (λ (es : List (List ℕ × Session)). Rising es) (sym sessions) (rising_with name session s.sessions p.rising);
  placed = λ q other h. by_test q other (bytes_eq q name) refl (sym (at_with q name session s.sessions) ∙ sym (ap (λ (es : List (List ℕ × Session)). at q es) sessions) ∙ h);
  known = λ q n h. p.known q n (sym (ap (λ (es : List (List ℕ × ℕ)). at q es) numbers) ∙ h);
  wished = wish;
}
  where
    by_test : (q : List ℕ) (other : Session) (b : Bool) → bytes_eq q name ≡ b → cond b (Some session) (at q s.sessions) ≡ Some other → IsPlaced name_of (input ∷ inputs) q other
    by_test q other true same found =
        let it : session ≡ other = cc in
        let here : name ≡ q = sym ((bytes_eq-Decides q name).0 same) in
        subst (λ (o : Session). IsPlaced name_of (input ∷ inputs) q o) it (subst (λ (n : List ℕ). IsPlaced name_of (input ∷ inputs) n session) here is)
    by_test q other false same found =
        let old = p.placed q other found in
        carries name_of inputs input q other (others other.number _ (differs name_of name q session.number other.number is.channel_is old.channel_is same)) old

-- JOIN

joined_placed : (name_of : ℕ → List ℕ) (inputs : List Input) (asked : Asked) (number : ℕ) (serial : Option Given) (reply : Reply) (now : ℕ) (s : State)
    → is_reply_to (calls.Chan number (events.Join serial)) reply ≡ true → name_of number ≡ asked.channel → Placed name_of inputs s
    → Placed name_of (Absorbed (calls.Chan number (events.Join serial)) reply now ∷ inputs) (joined_by asked number (joining_in reply) now s)
joined_placed name_of inputs asked number serial (replies.Chan (channel.Joined told resumed presence objects)) now s is named p =
    let j : Joining = record { serial = told; resumed = resumed; presence = presence; objects = objects } in
    with_session (Absorbed (calls.Chan number (events.Join serial)) (replies.Chan (channel.Joined told resumed presence objects)) now)
    asked.channel (new_session asked.channel number j (next_sequence s)) s (joined_by asked number (Some j) now s) refl refl tt
    (record {
      channel_is = named;
      place_is = ap (λ (b : Bool). cond b (Some told.place) (place_come_to number inputs)) (same_number number);
    })
    (λ other before apart. ap (λ (b : Bool). cond b (Some told.place) before) apart) p
joined_placed name_of inputs asked number serial (replies.Book reply) now s is named p = cc
joined_placed name_of inputs asked number serial (replies.Dir reply) now s is named p = cc
joined_placed name_of inputs asked number serial (replies.Chan (channel.Put verdict)) now s is named p = cc
joined_placed name_of inputs asked number serial (replies.Chan (channel.Read reply)) now s is named p = cc
joined_placed name_of inputs asked number serial (replies.Chan (channel.Members items last head)) now s is named p = cc
joined_placed name_of inputs asked number serial (replies.Chan (channel.Objects states last head)) now s is named p = cc
joined_placed name_of inputs asked number serial (replies.Chan (channel.Gone place)) now s is named p = cc
joined_placed name_of inputs asked number serial (replies.Chan channel.Ticked) now s is named p = cc
joined_placed name_of inputs asked number serial (replies.Chan (channel.Census first head members objects)) now s is named p = cc

-- PUTTING OUT FRAMES

puts_sessions : (fs : List Frame) (now : ℕ) (t : State) → (puts fs now t).sessions ≡ t.sessions
puts_sessions [] now t = refl
puts_sessions (f ∷ fs) now t = refl

puts_numbers : (fs : List Frame) (now : ℕ) (t : State) → (puts fs now t).numbers ≡ t.numbers
puts_numbers [] now t = refl
puts_numbers (f ∷ fs) now t = refl

puts_wish : (fs : List Frame) (now : ℕ) (t : State) → (puts fs now t).wish ≡ t.wish
puts_wish [] now t = refl
puts_wish (f ∷ fs) now t = refl

-- PAGES

page_placed : {name_of : ℕ → List ℕ} {inputs : List Input} (input : Input) (number : ℕ) (reply : Option ChannelReply) (now : ℕ) (s : State) → ((n : ℕ) (before : Option ℕ) → place_after n input before ≡ before)
    → Placed name_of inputs s → Placed name_of (input ∷ inputs) (on_session (λ name session. page_by name session reply now) (numbered number s.sessions) s)
page_placed {name_of = name_of} {inputs = inputs} input number reply now s passes p = by_found (numbered number s.sessions) refl
  where
    by_reply : (e : List ℕ × Session) (r : Option ChannelReply) → IsPlaced name_of inputs e.0 e.1 → Placed name_of (input ∷ inputs) (page_by e.0 e.1 r now s)
    by_reply e None is = left input passes (leaves refl refl p.wished) p
    by_reply e (Some r) is =
        let session : Session = paged (page_absorbed r e.1.pages) e.1 in
        let u : State = record s { sessions = with_entry e.0 session s.sessions } in
        let fs : List Frame = option_to_list (page_frame r e.1.pages) in
        with_session input e.0 session s (puts fs now u) (puts_sessions fs now u) (puts_numbers fs now u) (subst (λ (w : Wish). IsWishNamed name_of w) (sym (puts_wish fs now u)) p.wished)
        (record { channel_is = is.channel_is; place_is = passes e.1.number _ ∙ is.place_is }) (λ n before apart. passes n before) p

    by_found : (found : Option (List ℕ × Session)) → numbered number s.sessions ≡ found → Placed name_of (input ∷ inputs) (on_session (λ name session. page_by name session reply now) found s)
    by_found None is = left input passes (leaves refl refl p.wished) p
    by_found (Some e) is = by_reply e reply (p.placed e.0 e.1 (found_at (has_number number) s.sessions e p.rising is))

-- READS

ended_number : (b : Bool) (session : Session) → (cond b (paged (ended session.pages) session) session).number ≡ session.number
ended_number true session = refl
ended_number false session = refl

ended_position : (b : Bool) (session : Session) → (cond b (paged (ended session.pages) session) session).position ≡ session.position
ended_position true session = refl
ended_position false session = refl

flipped : (m n : ℕ) → (m == n) ≡ false → (n == m) ≡ false
flipped m n h = grind (arith, nat_tests)

-- an entry read on this channel concerns no session of another
unread : {name_of : ℕ → List ℕ} {inputs : List Input} (number from limit : ℕ) (entries : List Entry) (now : ℕ) (s : State) → numbered number s.sessions ≡ None → Placed name_of inputs s
    → Placed name_of (Absorbed (calls.Chan number (events.Read from limit)) (replies.Chan (channel.Read (Run entries))) now ∷ inputs) s
unread {name_of = name_of} {inputs = inputs} number from limit entries now s none p = record {
  rising = p.rising;
  placed = λ name session h.
      let apart : (number == session.number) ≡ false = flipped session.number number (none_passes (λ (v : Session). v.number == number) name session s.sessions none h) in
      carries name_of inputs (Absorbed (calls.Chan number (events.Read from limit)) (replies.Chan (channel.Read (Run entries))) now) name session
      (ap (λ (b : Bool). cond b (further entries (place_come_to session.number inputs)) (place_come_to session.number inputs)) apart) (p.placed name session h);
  known = p.known;
  wished = p.wished;
}

run_on : {name_of : ℕ → List ℕ} {inputs : List Input} (number from limit : ℕ) (entries : List Entry) (now : ℕ) (s : State) (e : List ℕ × Session) → e.1.number ≡ number → IsPlaced name_of inputs e.0 e.1 → Placed name_of inputs s
    → Placed name_of (Absorbed (calls.Chan number (events.Read from limit)) (replies.Chan (channel.Read (Run entries))) now ∷ inputs) (read_into e.0 entries (moved_on (length entries) e.1) now s)
run_on {name_of = name_of} {inputs = inputs} number from limit entries now s e is old p =
    let input : Input = Absorbed (calls.Chan number (events.Read from limit)) (replies.Chan (channel.Read (Run entries))) now in
    let moved : Session = moved_on (length entries) e.1 in
    let b : Bool = may_end moved.position moved.pages in
    let session : Session = ended_here moved in
    let u : State = record s { sessions = with_entry e.0 session s.sessions } in
    let fs : List Frame = map (entry_frame e.0 e.1.epoch) entries ++ ends_here moved in
    let here : session.number ≡ number = ended_number b moved ∙ is in
    let same : (number == e.1.number) ≡ true = ap (λ (k : ℕ). number == k) is ∙ same_number number in
    with_session input e.0 session s (puts fs now u) (puts_sessions fs now u) (puts_numbers fs now u) (subst (λ (w : Wish). IsWishNamed name_of w) (sym (puts_wish fs now u)) p.wished)
    (record {
      channel_is = ap name_of (ended_number b moved) ∙ old.channel_is;
      place_is =
          ap (λ (k : ℕ). place_come_to k (input ∷ inputs)) (ended_number b moved)
          ∙ ap (λ (c : Bool). cond c (further entries (place_come_to e.1.number inputs)) (place_come_to e.1.number inputs)) same
          ∙ ap (λ (o : Option ℕ). further entries o) old.place_is
          ∙ ap (λ (k : ℕ). Some k) (sym (ended_position b moved));
    })
    (λ n before apart. ap (λ (c : Bool). cond c (further entries before) before) (ap (λ (k : ℕ). k == n) (sym here) ∙ apart)) p

run_placed : {name_of : ℕ → List ℕ} {inputs : List Input} (number from limit : ℕ) (entries : List Entry) (now : ℕ) (s : State) → Placed name_of inputs s
    → Placed name_of (Absorbed (calls.Chan number (events.Read from limit)) (replies.Chan (channel.Read (Run entries))) now ∷ inputs)
    (on_session (λ name session. read_by name session (views.Came entries) now) (numbered number s.sessions) s)
run_placed {name_of = name_of} {inputs = inputs} number from limit entries now s p = by_found (numbered number s.sessions) refl
  where
    by_found : (found : Option (List ℕ × Session)) → numbered number s.sessions ≡ found
        → Placed name_of (Absorbed (calls.Chan number (events.Read from limit)) (replies.Chan (channel.Read (Run entries))) now ∷ inputs)
        (on_session (λ name session. read_by name session (views.Came entries) now) found s)
    by_found None is = unread number from limit entries now s is p
    by_found (Some e) is =
        run_on number from limit entries now s e (is_number e.1.number number (found_passes (has_number number) s.sessions e is))
        (p.placed e.0 e.1 (found_at (has_number number) s.sessions e p.rising is)) p

behind_placed : {name_of : ℕ → List ℕ} {inputs : List Input} (input : Input) (first now : ℕ) (s : State) (found : Option (List ℕ × Session)) → ((n : ℕ) (before : Option ℕ) → place_after n input before ≡ before)
    → Placed name_of inputs s → Placed name_of (input ∷ inputs) (on_session (λ name session. read_by name session (Behind first) now) found s)
behind_placed input first now s None passes p = left input passes (leaves refl refl p.wished) p
behind_placed {name_of = name_of} input first now s (Some e) passes p = left input passes (ending name_of (ends.Lagged e.1.position first) s) p

read_placed : {name_of : ℕ → List ℕ} {inputs : List Input} (number from limit : ℕ) (reply : Reply) (now : ℕ) (s : State) → is_reply_to (calls.Chan number (events.Read from limit)) reply ≡ true → Placed name_of inputs s
    → Placed name_of (Absorbed (calls.Chan number (events.Read from limit)) reply now ∷ inputs) (answered (calls.Chan number (events.Read from limit)) reply now s)
read_placed number from limit (replies.Chan (channel.Read (Run entries))) now s is p = run_placed number from limit entries now s p
read_placed number from limit (replies.Chan (channel.Read (NotRetained first))) now s is p =
    behind_placed (Absorbed (calls.Chan number (events.Read from limit)) (replies.Chan (channel.Read (NotRetained first))) now) first now s (numbered number s.sessions) (λ n b. refl) p
read_placed number from limit (replies.Book reply) now s is p = cc
read_placed number from limit (replies.Dir reply) now s is p = cc
read_placed number from limit (replies.Chan (channel.Put verdict)) now s is p = cc
read_placed number from limit (replies.Chan (channel.Joined told resumed presence objects)) now s is p = cc
read_placed number from limit (replies.Chan (channel.Members items last head)) now s is p = cc
read_placed number from limit (replies.Chan (channel.Objects states last head)) now s is p = cc
read_placed number from limit (replies.Chan (channel.Gone place)) now s is p = cc
read_placed number from limit (replies.Chan channel.Ticked) now s is p = cc
read_placed number from limit (replies.Chan (channel.Census first head members objects)) now s is p = cc

-- CALLS

abbrev inside : Option Call → Call → Call
inside (Some call) other = call
inside None other = other

-- a call that a session makes
page_is : (number : ℕ) (members objects : Bool) (member : Option MemberKey) (object : Option ObjectId) (call : Call)
    → option_map (λ (event : ChannelEvent). calls.Chan number event) (if members then Some (events.MemberPage member 64) else if objects then Some (events.ObjectPage object 4) else None) ≡ Some call → is_of_session (Some call) ≡ true
page_is number true objects member object call h = ap is_of_session (sym h)
page_is number false true member object call h = ap is_of_session (sym h)
page_is number false false member object call h = cc

page_of_session : (b : Bool) (found : Option Session) (call : Call) → (if b then call_of page_of found else None) ≡ Some call → is_of_session (Some call) ≡ true
page_of_session true None call h = cc
page_of_session true (Some session) call h = page_is session.number _ _ session.pages.after_member session.pages.after_object call h
page_of_session false found call h = cc

poll_of_session : (b : Bool) (found : Option Session) (call : Call) → (if b then call_of read_of found else None) ≡ Some call → is_of_session (Some call) ≡ true
poll_of_session true None call h = cc
poll_of_session true (Some session) call h = ap is_of_session (sym h)
poll_of_session false found call h = cc

-- another call than a session's is the one that is wanted
called_wanted : (call : Call) (s : State) → is_of_session (Some call) ≡ false → IsCalled call s → (moment : ℕ) × (wanted s.wish s.hello moment ≡ Some call)
called_wanted call s apart (inl h) = h
called_wanted call s apart (inr h) = by_kind h.1
  where
    by_kind : (page_call h.0 s ≡ Some call) ⊎ (poll_call h.0 s ≡ Some call) → (moment : ℕ) × (wanted s.wish s.hello moment ≡ Some call)
    by_kind (inl q) = let is_so = page_of_session (is_free s) (at h.0 s.sessions) call q in absurd (cc)
    by_kind (inr q) = let is_so = poll_of_session (is_free s) (at h.0 s.sessions) call q in absurd (cc)

module _ (name_of : ℕ → List ℕ) (inputs : List Input) where
  abbrev Then : Wish → Reply → ℕ → State → Call → Type 0
  Then wish reply now s call = Placed name_of (Absorbed call reply now ∷ inputs) (replied wish reply now s)

  wish_placed : (wish : Wish) (hello : Hello) (moment : ℕ) (call : Call) (reply : Reply) (now : ℕ) (s : State) → wanted wish hello moment ≡ Some call → is_reply_to call reply ≡ true
      → IsNamed name_of (Absorbed call reply now) → IsWishNamed name_of wish → Placed name_of inputs s → Then wish reply now s call
  wish_placed wishes.Nothing hello moment call reply now s h is named w p = cc
  wish_placed (wishes.Resume key) hello moment call reply now s h is named w p =
      subst (Then (wishes.Resume key) reply now s) (ap (λ (o : Option Call). inside o call) h) (left _ (λ n b. refl) (resuming_leaves name_of key (resuming reply) now s p.wished) p)
  wish_placed wishes.Open hello moment call reply now s h is named w p =
      subst (Then wishes.Open reply now s) (ap (λ (o : Option Call). inside o call) h) (left _ (λ n b. refl) (opening_leaves name_of (opening reply) now s p.wished) p)
  wish_placed (wishes.Lost holder) hello moment call reply now s h is named w p =
      subst (Then (wishes.Lost holder) reply now s) (ap (λ (o : Option Call). inside o call) h) (left _ (λ n b. refl) (leaves refl refl tt) p)
  wish_placed (wishes.Close holder) hello moment call reply now s h is named w p =
      subst (Then (wishes.Close holder) reply now s) (ap (λ (o : Option Call). inside o call) h)
      (left _ (λ n b. refl) (holding name_of holder (standing reply) (closed now) s p.wished (closing name_of now s)) p)
  wish_placed (wishes.AskToAttach asked) hello moment call reply now s h is named w p =
      let same = ap (λ (o : Option Call). inside o call) h in
      subst (Then (wishes.AskToAttach asked) reply now s) same
      (asked_placed name_of inputs asked reply now s (subst (λ (c : Call). IsNamed name_of (Absorbed c reply now)) (sym same) named) p)
  wish_placed (wishes.Join asked number) hello moment call reply now s h is named w p =
      let same = ap (λ (o : Option Call). inside o call) h in
      subst (Then (wishes.Join asked number) reply now s) same (joined_placed name_of inputs asked number asked.serial reply now s (ap (λ (c : Call). is_reply_to c reply) same ∙ is) w p)
  wish_placed (wishes.Begin p holder) hello moment call reply now s h is named w k =
      subst (Then (wishes.Begin p holder) reply now s) (ap (λ (o : Option Call). inside o call) h) (left _ (λ n b. refl) (beginning_leaves name_of p holder (beginning reply) now s k.wished) k)
  wish_placed (wishes.AskToPut p holder) hello moment call reply now s h is named w k =
      let same = ap (λ (o : Option Call). inside o call) h in
      subst (Then (wishes.AskToPut p holder) reply now s) same
      (put_placed name_of inputs p holder reply now s (subst (λ (c : Call). IsNamed name_of (Absorbed c reply now)) (sym same) named) k)
  wish_placed (wishes.Put p holder number) hello moment call reply now s h is named w k =
      subst (Then (wishes.Put p holder number) reply now s) (ap (λ (o : Option Call). inside o call) h) (left _ (λ n b. refl) (verdict_leaves name_of p holder (verdict_in reply) s k.wished) k)
  wish_placed (wishes.Finish p holder outcome) hello moment call reply now s h is named w k =
      subst (Then (wishes.Finish p holder outcome) reply now s) (ap (λ (o : Option Call). inside o call) h)
      (left _ (λ n b. refl) (holding name_of holder (standing reply) (settled p outcome now) s k.wished (settling name_of p outcome now s)) k)

  other_placed : (call : Call) (reply : Reply) (now : ℕ) (s : State) → is_of_session (Some call) ≡ false → IsCalled call s → is_reply_to call reply ≡ true
      → IsNamed name_of (Absorbed call reply now) → Placed name_of inputs s → Placed name_of (Absorbed call reply now ∷ inputs) (replied s.wish reply now s)
  other_placed call reply now s apart c is named p = let m = called_wanted call s apart c in wish_placed s.wish s.hello m.0 call reply now s m.1 is named p.wished p

  answered_placed : (call : Call) (reply : Reply) (now : ℕ) (s : State) → IsCalled call s → is_reply_to call reply ≡ true → IsNamed name_of (Absorbed call reply now) → Placed name_of inputs s
      → Placed name_of (Absorbed call reply now ∷ inputs) (answered call reply now s)
  answered_placed (calls.Chan number (events.Read from limit)) reply now s c is named p = read_placed number from limit reply now s is p
  answered_placed (calls.Chan number (events.MemberPage past limit)) reply now s c is named p = page_placed (Absorbed (calls.Chan number (events.MemberPage past limit)) reply now) number (channel_reply reply) now s (λ n b. refl) p
  answered_placed (calls.Chan number (events.ObjectPage past limit)) reply now s c is named p = page_placed (Absorbed (calls.Chan number (events.ObjectPage past limit)) reply now) number (channel_reply reply) now s (λ n b. refl) p
  answered_placed (calls.Chan number (events.Put a b d e)) reply now s c is named p = other_placed _ reply now s refl c is named p
  answered_placed (calls.Chan number (events.Join a)) reply now s c is named p = other_placed _ reply now s refl c is named p
  answered_placed (calls.Chan number (events.Gone a b)) reply now s c is named p = other_placed _ reply now s refl c is named p
  answered_placed (calls.Chan number (events.Tick a)) reply now s c is named p = other_placed _ reply now s refl c is named p
  answered_placed (calls.Chan number events.Census) reply now s c is named p = other_placed _ reply now s refl c is named p
  answered_placed (calls.Book event) reply now s c is named p = other_placed _ reply now s refl c is named p
  answered_placed (calls.Dir event) reply now s c is named p = other_placed _ reply now s refl c is named p

-- an actor that is ended joins nothing
quiet_passes : (wish : Wish) (hello : Hello) (moment : ℕ) (call : Call) (reply : Reply) (now : ℕ) → owed wish ≡ [] → wanted wish hello moment ≡ Some call → (n : ℕ) (b : Option ℕ) → place_after n (Absorbed call reply now) b ≡ b
quiet_passes wishes.Nothing hello moment call reply now o h n b = cc
quiet_passes (wishes.Resume key) hello moment call reply now o h n b = subst (λ (c : Call). place_after n (Absorbed c reply now) b ≡ b) (ap (λ (x : Option Call). inside x call) h) refl
quiet_passes wishes.Open hello moment call reply now o h n b = subst (λ (c : Call). place_after n (Absorbed c reply now) b ≡ b) (ap (λ (x : Option Call). inside x call) h) refl
quiet_passes (wishes.Lost holder) hello moment call reply now o h n b = subst (λ (c : Call). place_after n (Absorbed c reply now) b ≡ b) (ap (λ (x : Option Call). inside x call) h) refl
quiet_passes (wishes.Close holder) hello moment call reply now o h n b = subst (λ (c : Call). place_after n (Absorbed c reply now) b ≡ b) (ap (λ (x : Option Call). inside x call) h) refl
quiet_passes (wishes.AskToAttach asked) hello moment call reply now o h n b = cc
quiet_passes (wishes.Join asked number) hello moment call reply now o h n b = cc
quiet_passes (wishes.Begin p holder) hello moment call reply now o h n b = subst (λ (c : Call). place_after n (Absorbed c reply now) b ≡ b) (ap (λ (x : Option Call). inside x call) h) refl
quiet_passes (wishes.AskToPut p holder) hello moment call reply now o h n b = subst (λ (c : Call). place_after n (Absorbed c reply now) b ≡ b) (ap (λ (x : Option Call). inside x call) h) refl
quiet_passes (wishes.Put p holder number) hello moment call reply now o h n b = subst (λ (c : Call). place_after n (Absorbed c reply now) b ≡ b) (ap (λ (x : Option Call). inside x call) h) refl
quiet_passes (wishes.Finish p holder outcome) hello moment call reply now o h n b = subst (λ (c : Call). place_after n (Absorbed c reply now) b ≡ b) (ap (λ (x : Option Call). inside x call) h) refl

over_passes : (why : End) (call : Call) (reply : Reply) (now : ℕ) (s : State) → s.ended ≡ Some why → owed s.wish ≡ [] → IsCalled call s → (n : ℕ) (b : Option ℕ) → place_after n (Absorbed call reply now) b ≡ b
over_passes why call reply now s e o (inl h) = quiet_passes s.wish s.hello h.0 call reply now o h.1
over_passes why call reply now s e o (inr h) = by_kind h.1
  where
    never : is_free s ≡ true → (n : ℕ) (b : Option ℕ) → place_after n (Absorbed call reply now) b ≡ b
    never free n b = let alive = (free_is s.ended s.wish free).0 in cc

    by_kind : (page_call h.0 s ≡ Some call) ⊎ (poll_call h.0 s ≡ Some call) → (n : ℕ) (b : Option ℕ) → place_after n (Absorbed call reply now) b ≡ b
    by_kind (inl q) = never (page_free h.0 s call q)
    by_kind (inr q) = never (poll_free h.0 s call q)

absorbed_placed : (name_of : ℕ → List ℕ) (inputs : List Input) (e : Option End) (call : Call) (reply : Reply) (now : ℕ) (s : State) → s.ended ≡ e → ((why : End) → s.ended ≡ Some why → owed s.wish ≡ []) → IsCalled call s
    → is_reply_to call reply ≡ true → IsNamed name_of (Absorbed call reply now) → Placed name_of inputs s → Placed name_of (Absorbed call reply now ∷ inputs) (answered_at e call reply now s)
absorbed_placed name_of inputs None call reply now s e q c is named p = answered_placed name_of inputs call reply now s c is named p
absorbed_placed name_of inputs (Some why) call reply now s e q c is named p = left _ (over_passes why call reply now s e (q why e) c) (leaves refl refl tt) p

-- FRAMES

attach_named : (name_of : ℕ → List ℕ) (asked : Asked) (found : Option ℕ) → ((number : ℕ) → found ≡ Some number → name_of number ≡ asked.channel) → IsWishNamed name_of (attach_wish asked found)
attach_named name_of asked None h = tt
attach_named name_of asked (Some number) h = h number refl

begin_named : (name_of : ℕ → List ℕ) (p : Publish) (holder : Option Holder) → IsWishNamed name_of (begin_wish p holder)
begin_named name_of p None = tt
begin_named name_of p (Some holder) = tt

close_named : (name_of : ℕ → List ℕ) (holder : Option Holder) → IsWishNamed name_of (close_wish holder)
close_named name_of None = tt
close_named name_of (Some holder) = tt

publish_leaves : (name_of : ℕ → List ℕ) (head : Head) (serial : Option ℕ) (body : Body) (s : State) → IsWishNamed name_of s.wish → Leaves name_of s (publish head serial body s)
publish_leaves name_of head None body s w = leaves refl refl w
publish_leaves name_of head (Some serial) body s w = leaves refl refl (begin_named name_of (record { channel = head.channel; serial = serial; body = body }) s.holder)

module _ (name_of : ℕ → List ℕ) (inputs : List Input) (input : Input) (passes : (n : ℕ) (b : Option ℕ) → place_after n input b ≡ b) where
  take_placed : (frame : Frame) (now : ℕ) (s : State) → Placed name_of inputs s → Placed name_of (input ∷ inputs) (takes.take frame now s)
  take_placed (frames.Attach channel serial) now s p =
      left input passes (leaves refl refl (attach_named name_of (record { channel = channel; serial = serial }) (at channel s.numbers) (λ number h. p.known channel number h))) p
  take_placed (frames.Detach channel) now s p = record {
    rising = rising_without channel s.sessions p.rising;
    placed = λ name session h. carries name_of inputs input name session (passes session.number _) (p.placed name session (at_without name channel session s.sessions p.rising h));
    known = p.known;
    wished = p.wished;
  }
  take_placed (frames.Message head items) now s p = left input passes (publish_leaves name_of head head.msg _ s p.wished) p
  take_placed (frames.Presence head items) now s p = left input passes (publish_leaves name_of head head.msg _ s p.wished) p
  take_placed (frames.Object head ops) now s p = left input passes (publish_leaves name_of head head.msg _ s p.wished) p
  take_placed frames.Close now s p = left input passes (leaves refl refl (close_named name_of s.holder)) p
  take_placed frames.Heartbeat now s p = left input passes (leaves refl refl p.wished) p
  take_placed (frames.Ack serial count) now s p = left input passes (leaves refl refl p.wished) p
  take_placed (frames.Nack serial count code) now s p = left input passes (leaves refl refl p.wished) p
  take_placed frames.Connect now s p = left input passes (leaves refl refl p.wished) p
  take_placed (frames.Connected a b c d e f) now s p = left input passes (leaves refl refl p.wished) p
  take_placed frames.Disconnect now s p = left input passes (leaves refl refl p.wished) p
  take_placed (frames.Disconnected code) now s p = left input passes (leaves refl refl p.wished) p
  take_placed frames.Closed now s p = left input passes (leaves refl refl p.wished) p
  take_placed (frames.Error channel code) now s p = left input passes (leaves refl refl p.wished) p
  take_placed (frames.Attached a b c d) now s p = left input passes (leaves refl refl p.wished) p
  take_placed (frames.Detached channel code) now s p = left input passes (leaves refl refl p.wished) p
  take_placed (frames.Sync channel place items) now s p = left input passes (leaves refl refl p.wished) p
  take_placed frames.Auth now s p = left input passes (leaves refl refl p.wished) p
  take_placed (frames.ObjectSync channel place states) now s p = left input passes (leaves refl refl p.wished) p

  took_placed : (came : Came) (now : ℕ) (s : State) → Placed name_of inputs s → Placed name_of (input ∷ inputs) (took came now s)
  took_placed (A frame) now s p = take_placed frame now (record s { last_in = now }) (record { rising = p.rising; placed = p.placed; known = p.known; wished = p.wished })
  took_placed Unknown now s p = left input passes (leaves refl refl p.wished) p
  took_placed (Bad bytes) now s p = left input passes (leaves refl refl (last_named name_of (ends.BadFrame bytes) s.holder)) p

  rest_placed : (free idle quiet : Bool) (now : ℕ) (s : State) → Placed name_of inputs s
      → Placed name_of (input ∷ inputs) (if free then (if idle then ended_by (ends.Idle s.last_in now) s else (if quiet then put frames.Heartbeat now s else s)) else s)
  rest_placed false idle quiet now s p = left input passes (leaves refl refl p.wished) p
  rest_placed true true quiet now s p = left input passes (ending name_of (ends.Idle s.last_in now) s) p
  rest_placed true false true now s p = left input passes (leaves refl refl p.wished) p
  rest_placed true false false now s p = left input passes (leaves refl refl p.wished) p

  over_placed : (e : Option End) (why : End) (s : State) → Placed name_of inputs s → Placed name_of (input ∷ inputs) (over_at e why s)
  over_placed None why s p = left input passes (ending name_of why s) p
  over_placed (Some end) why s p = left input passes (leaves refl refl p.wished) p

-- ALL INPUTS

first_named : (name_of : ℕ → List ℕ) (key : Option (List ℕ)) → IsWishNamed name_of (first_wish key)
first_named name_of None = tt
first_named name_of (Some key) = tt

input_placed : (name_of : ℕ → List ℕ) (inputs : List Input) (input : Input) (s : State) → IsAllowed input s → IsNamed name_of input → ((why : End) → s.ended ≡ Some why → owed s.wish ≡ []) → Placed name_of inputs s → Placed name_of (input ∷ inputs) (step input s)
input_placed name_of inputs (Took came now) s a named q p = took_placed name_of inputs (Took came now) (λ n b. refl) came now s p
input_placed name_of inputs (Absorbed call reply now) s a named q p = absorbed_placed name_of inputs s.ended call reply now s refl q a.0 a.1 named p
input_placed name_of inputs (Rested now) s a named q p = rest_placed name_of inputs (Rested now) (λ n b. refl) (is_free s) (is_idle now s) (is_quiet now s) now s p
input_placed name_of inputs (Ended why) s a named q p = over_placed name_of inputs (Ended why) (λ n b. refl) s.ended why s p
input_placed name_of inputs Gave s a named q p = left Gave (λ n b. refl) (leaves refl refl p.wished) p

all_placed : (name_of : ℕ → List ℕ) (hello : Hello) (start : ℕ) (inputs : List Input) → AreAllowed inputs (begun hello start) → AreNamed name_of inputs → Placed name_of inputs (after hello start inputs)
all_placed name_of hello start [] allowed named = record {
  rising = tt;
  placed = λ name session h. absurd (cc);
  known = λ name number h. absurd (cc);
  wished = first_named name_of hello.resume;
}
all_placed name_of hello start (input ∷ before) allowed named =
    input_placed name_of before input (after hello start before) allowed.0 named.0 (answered_in_order hello start before allowed.1).quiet (all_placed name_of hello start before allowed.1 named.1)

pub positions_are_kept : PositionsAreKept
positions_are_kept name_of hello start inputs allowed named = (all_placed name_of hello start inputs allowed named).placed
