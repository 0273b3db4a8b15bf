-- An actor keeps its connection, and asks for one back at its start alone.
use Rattle.std.proofs.Common.{◌≡◌, ℕ, Bool, true, false, List, [], ◌∷◌, ◌++◌, length, map, refl, sym, ◌∙◌}
use Rattle.std.specs.Prelude.{Option, Some, None, if◌then◌else◌, ⊤, option_to_list}
use Rattle.rl_types.specs.declared.frames.Frame.{Frame}
use Rattle.rl_types.specs.declared.frames.Frame.TheVariants as frames
use Rattle.rl_types.specs.declared.frames.Head.{Head}
use Rattle.rl_types.specs.declared.messages.Body.{Body}
use Rattle.rl_events.specs.declared.channel.ChannelReply.{ChannelReply}
use Rattle.rl_events.specs.declared.channel.Outcome.{Outcome}
use Rattle.rl_events.specs.declared.channel.Outcome.TheVariants.{Taken, Refused}
use Rattle.rl_events.specs.declared.channel.Verdict.{Verdict}
use Rattle.rl_events.specs.declared.calls.End.{End}
use Rattle.rl_events.specs.declared.calls.End.TheVariants as ends
use Rattle.rl_events.specs.declared.calls.Call.{Call}
use Rattle.rl_events.specs.declared.calls.Reply.{Reply}
use Rattle.rl_names.specs.Names.{at, with_entry}
use Rattle.rl_pages.specs.State.{page_frame, page_absorbed}
use Rattle.rl_actormodel.specs.declared.parts.Asked.{Asked}
use Rattle.rl_actormodel.specs.declared.parts.Publish.{Publish}
use Rattle.rl_actormodel.specs.declared.parts.Holder.{Holder}
use Rattle.rl_actormodel.specs.declared.parts.Session.{Session}
use Rattle.rl_actormodel.specs.declared.parts.Wish.{Wish}
use Rattle.rl_actormodel.specs.declared.parts.Wish.TheVariants as wishes
use Rattle.rl_actormodel.specs.State as actor
use Rattle.rl_actormodel.specs.State.{State, puts}
use Rattle.rl_actormodel.specs.Ends.{last_wish, lost_wish, ended_by, over_at}
use Rattle.rl_actormodel.specs.Takes as takes
use Rattle.rl_actormodel.specs.Takes.{attach_wish, begin_wish, close_wish, publish, take}
use Rattle.rl_actormodel.specs.Rests.{rested, is_idle, is_quiet}
use Rattle.rl_actormodel.specs.Replies.{Standing, Passed, Gone, Holds, Unsaid, standing, Beginning, Overtaken, Missing, Knows, Above, Below, Goes, Unbegun, beginning, Numbering, Has, HasNone, Unnumbered, numbering, Joining, joining_in, verdict_in, Reading, Came, Behind, Unread}
use Rattle.rl_actormodel.specs.Connects.{if_held, closed}
use Rattle.rl_actormodel.specs.Attaches.{attach_at, joined_by}
use Rattle.rl_actormodel.specs.Publishes.{settled, put_wish, begun_by, put_at, put_by}
use Rattle.rl_actormodel.specs.Pagings.{paged, page_by, ends_here, ended_here}
use Rattle.rl_actormodel.specs.Reads as reads
use Rattle.rl_actormodel.specs.Reads.{answered_at, replied, read_by, moved_on, entry_frame, on_session}
use Rattle.rl_worldtold.specs.Tell.{asks}

-- the connection stays, and none is asked for that was not
pub record IsSteady (s after : State) : Type 0 where
  pub holder : after.holder ≡ s.holder
  pub asked : (key : List ℕ) → asks after.wish ≡ Some key → asks s.wish ≡ Some key

pub none_asks : (s after : State) → after.holder ≡ s.holder → asks after.wish ≡ None → IsSteady s after
none_asks s after same none = record { holder = same; asked = λ key is. let two : None ≡ Some key = sym none ∙ is in absurd (cc) }

pub same_asks : (s after : State) → after.holder ≡ s.holder → asks after.wish ≡ asks s.wish → IsSteady s after
same_asks s after same wish = record { holder = same; asked = λ key is. sym wish ∙ is }

pub itself : (s : State) → IsSteady s s
itself s = same_asks s s refl refl

lost_asks : (holder : Option Holder) → asks (lost_wish holder) ≡ None
lost_asks None = refl
lost_asks (Some holder) = refl

last_asks : (why : End) (holder : Option Holder) → asks (last_wish why holder) ≡ None
last_asks (ends.Superseded mine newer) holder = refl
last_asks ends.Forgotten holder = refl
last_asks ends.Closed holder = refl
last_asks (ends.ConnectionLimit count given) holder = refl
last_asks why holder = lost_asks holder

pub ended_steady : (why : End) (s : State) → IsSteady s (ended_by why s)
ended_steady why s = none_asks s _ refl (last_asks why s.holder)

held_steady : (holder : Holder) (o : Standing) (next : State → State) (s : State) → IsSteady s (next s) → IsSteady s (if_held holder o next s)
held_steady holder (Passed newer) next s h = ended_steady (ends.Superseded holder.generation newer) s
held_steady holder Gone next s h = ended_steady ends.Forgotten s
held_steady holder Holds next s h = h
held_steady holder Unsaid next s h = itself s

attach_steady : (asked : Asked) (o : Numbering) (now : ℕ) (s : State) → IsSteady s (attach_at asked o now s)
attach_steady asked HasNone now s = none_asks s _ refl refl
attach_steady asked (Has n) now s = none_asks s _ refl refl
attach_steady asked Unnumbered now s = itself s

joined_steady : (asked : Asked) (number : ℕ) (o : Option Joining) (now : ℕ) (s : State) → IsSteady s (joined_by asked number o now s)
joined_steady asked number None now s = itself s
joined_steady asked number (Some j) now s = none_asks s _ refl refl

settled_steady : (p : Publish) (o : Option Outcome) (now : ℕ) (s : State) → IsSteady s (settled p o now s)
settled_steady p None now s = none_asks s _ refl refl
settled_steady p (Some (Taken place)) now s = none_asks s _ refl refl
settled_steady p (Some (Refused code)) now s = none_asks s _ refl refl

put_asks : (p : Publish) (holder : Holder) (o : Option ℕ) → asks (put_wish p holder o) ≡ None
put_asks p holder None = refl
put_asks p holder (Some n) = refl

begun_steady : (p : Publish) (holder : Holder) (b : Beginning) (now : ℕ) (s : State) → IsSteady s (begun_by p holder b now s)
begun_steady p holder (Overtaken newer) now s = ended_steady (ends.Superseded holder.generation newer) s
begun_steady p holder Missing now s = ended_steady ends.Forgotten s
begun_steady p holder (Knows outcome) now s = settled_steady p (Some outcome) now s
begun_steady p holder (Above got expected) now s = ended_steady (ends.SerialGap got expected) s
begun_steady p holder (Below got expected) now s = ended_steady (ends.SerialOld got expected) s
begun_steady p holder Goes now s = none_asks s _ refl (put_asks p holder (at p.channel s.numbers))
begun_steady p holder Unbegun now s = itself s

put_at_steady : (p : Publish) (holder : Holder) (o : Numbering) (s : State) → IsSteady s (put_at p holder o s)
put_at_steady p holder HasNone s = none_asks s _ refl refl
put_at_steady p holder (Has n) s = none_asks s _ refl refl
put_at_steady p holder Unnumbered s = itself s

put_by_steady : (p : Publish) (holder : Holder) (o : Option Verdict) (s : State) → IsSteady s (put_by p holder o s)
put_by_steady p holder None s = itself s
put_by_steady p holder (Some verdict) s = none_asks s _ refl refl

-- all wishes but those for a connection
abbrev pub IsLater : Wish → Type 0
IsLater (wishes.Resume key) = ⊥
IsLater wishes.Open = ⊥
IsLater wish = ⊤

pub replied_steady : (wish : Wish) → IsLater wish → (reply : Reply) (now : ℕ) (s : State) → IsSteady s (replied wish reply now s)
replied_steady wishes.Nothing is reply now s = itself s
replied_steady (wishes.Resume key) is reply now s = absurd is
replied_steady wishes.Open is reply now s = absurd is
replied_steady (wishes.Lost holder) is reply now s = none_asks s _ refl refl
replied_steady (wishes.Close holder) is reply now s = held_steady holder (standing reply) (closed now) s (none_asks s _ refl refl)
replied_steady (wishes.AskToAttach asked) is reply now s = attach_steady asked (numbering reply) now s
replied_steady (wishes.Join asked number) is reply now s = joined_steady asked number (joining_in reply) now s
replied_steady (wishes.Begin p holder) is reply now s = begun_steady p holder (beginning reply) now s
replied_steady (wishes.AskToPut p holder) is reply now s = put_at_steady p holder (numbering reply) s
replied_steady (wishes.Put p holder number) is reply now s = put_by_steady p holder (verdict_in reply) s
replied_steady (wishes.Finish p holder outcome) is reply now s = held_steady holder (standing reply) (settled p outcome now) s (settled_steady p outcome now s)

pub absorbed_steady : (o : Option End) (call : Call) (reply : Reply) (now : ℕ) (s : State) → IsSteady s (reads.answered call reply now s) → IsSteady s (answered_at o call reply now s)
absorbed_steady None call reply now s h = h
absorbed_steady (Some why) call reply now s h = none_asks s _ refl refl

pub over_steady : (why : End) (o : Option End) (s : State) → IsSteady s (over_at o why s)
over_steady why None s = ended_steady why s
over_steady why (Some end) s = itself s

attach_asks : (asked : Asked) (o : Option ℕ) → asks (attach_wish asked o) ≡ None
attach_asks asked None = refl
attach_asks asked (Some n) = refl

begin_asks : (p : Publish) (o : Option Holder) → asks (begin_wish p o) ≡ None
begin_asks p None = refl
begin_asks p (Some h) = refl

close_asks : (o : Option Holder) → asks (close_wish o) ≡ None
close_asks None = refl
close_asks (Some h) = refl

publish_steady : (head : Head) (o : Option ℕ) (body : Body) (s : State) → IsSteady s (publish head o body s)
publish_steady head None body s = itself s
publish_steady head (Some serial) body s = none_asks s _ refl (begin_asks _ s.holder)

take_steady : (frame : Frame) (now : ℕ) (s : State) → IsSteady s (take frame now s)
take_steady (frames.Attach name serial) now s = none_asks s _ refl (attach_asks _ (at name s.numbers))
take_steady (frames.Detach name) now s = same_asks s _ refl refl
take_steady (frames.Message head items) now s = publish_steady head head.msg _ s
take_steady (frames.Presence head items) now s = publish_steady head head.msg _ s
take_steady (frames.Object head ops) now s = publish_steady head head.msg _ s
take_steady frames.Close now s = none_asks s _ refl (close_asks s.holder)
take_steady frames.Heartbeat now s = same_asks s _ refl refl
take_steady frame now s = itself s

any_steady : (came : takes.Came) (now : ℕ) (s : State) → IsSteady s (takes.take_any came now s)
any_steady (takes.A frame) now s = take_steady frame now s
any_steady takes.Unknown now s = itself s
any_steady (takes.Bad bytes) now s = ended_steady (ends.BadFrame bytes) s

pub took_steady : (came : takes.Came) (now : ℕ) (s : State) → IsSteady s (takes.took came now s)
took_steady came now s = let h = any_steady came now (record s { last_in = now }) in record { holder = h.holder; asked = h.asked }

steady_if : (b : Bool) (s x y : State) → IsSteady s x → IsSteady s y → IsSteady s (if b then x else y)
steady_if true s x y p q = p
steady_if false s x y p q = q

pub rested_steady : (now : ℕ) (s : State) → IsSteady s (rested now s)
rested_steady now s =
    steady_if (actor.is_free s) s _ s
    (steady_if (is_idle now s) s _ _ (ended_steady (ends.Idle s.last_in now) s) (steady_if (is_quiet now s) s _ s (same_asks s _ refl refl) (itself s)))
    (itself s)

puts_steady : (list : List Frame) (now : ℕ) (s : State) → IsSteady s (puts list now s)
puts_steady [] now s = itself s
puts_steady (frame ∷ more) now s = same_asks s _ refl refl

pub read_steady : (name : List ℕ) (session : Session) (r : Reading) (now : ℕ) (s : State) → IsSteady s (read_by name session r now s)
read_steady name session (Came list) now s =
    let h = puts_steady (map (entry_frame name session.epoch) list ++ ends_here (moved_on (length list) session)) now (record s { sessions = with_entry name (ended_here (moved_on (length list) session)) s.sessions }) in
    record { holder = h.holder; asked = h.asked }
read_steady name session (Behind first) now s = ended_steady (ends.Lagged session.position first) s
read_steady name session Unread now s = itself s

pub page_steady : (name : List ℕ) (session : Session) (o : Option ChannelReply) (now : ℕ) (s : State) → IsSteady s (page_by name session o now s)
page_steady name session None now s = itself s
page_steady name session (Some reply) now s =
    let h = puts_steady (option_to_list (page_frame reply session.pages)) now (record s { sessions = with_entry name (paged (page_absorbed reply session.pages) session) s.sessions }) in
    record { holder = h.holder; asked = h.asked }

pub session_steady : (act : List ℕ → Session → State → State) (o : Option (List ℕ × Session)) (s : State) → ((name : List ℕ) (session : Session) → IsSteady s (act name session s)) → IsSteady s (on_session act o s)
session_steady act None s each = itself s
session_steady act (Some e) s each = each e.0 e.1
