-- What an actor has in hand is a use of its connection's serials, and the numbers that it knows are the channels' own.
use Rattle.std.proofs.Common.{◌≡◌, ℕ, Bool, true, false, List, [], ◌∷◌, ◌++◌, length, map, refl, sym, ◌∙◌, ap, subst, cond, is_eq, Ordering}
use Rattle.std.specs.Prelude.{Option, Some, None, if◌then◌else◌, ⊤, option_to_list}
use Rattle.std.specs.List.{AllByRecursion}
use Rattle.std.specs.BTreeMap.{is_at}
use Rattle.std.specs.Ordering.{nat_cmp, match_ordering}
use Rattle.std.specs.declared.cmp.Ordering.TheVariants.{Less, Equal, Greater}
use Rattle.std.specs.Cmp.Lexicographic.{slice_cmp}
use Rattle.std.proofs.lemmas.Map.Text.{is_eq-slice_cmp}
use Rattle.std.proofs.lemmas.Slice.Eq.{bytes_eq-Decides}
use Rattle.rl_types.specs.declared.frames.Frame.{Frame}
use Rattle.rl_types.specs.declared.frames.Frame.TheVariants as frames
use Rattle.rl_types.specs.declared.frames.Head.{Head}
use Rattle.rl_types.specs.declared.messages.Body.{Body}
use Rattle.rl_events.specs.declared.channel.ChannelReply.{ChannelReply}
use Rattle.rl_events.specs.declared.channel.Outcome.{Outcome}
use Rattle.rl_events.specs.declared.channel.Outcome.TheVariants.{Taken, Refused}
use Rattle.rl_events.specs.declared.channel.Verdict.{Verdict}
use Rattle.rl_events.specs.declared.calls.End.{End}
use Rattle.rl_events.specs.declared.calls.End.TheVariants as ends
use Rattle.rl_events.specs.declared.calls.Call.{Call}
use Rattle.rl_events.specs.declared.calls.Reply.{Reply}
use Rattle.rl_names.specs.Names.{at, with_entry}
use Rattle.rl_pages.specs.State.{page_frame, page_absorbed}
use Rattle.rl_actormodel.specs.declared.parts.Asked.{Asked}
use Rattle.rl_actormodel.specs.declared.parts.Publish.{Publish}
use Rattle.rl_actormodel.specs.declared.parts.Holder.{Holder}
use Rattle.rl_actormodel.specs.declared.parts.Session.{Session}
use Rattle.rl_actormodel.specs.declared.parts.Wish.{Wish}
use Rattle.rl_actormodel.specs.declared.parts.Wish.TheVariants as wishes
use Rattle.rl_actormodel.specs.State as actor
use Rattle.rl_actormodel.specs.State.{State, puts}
use Rattle.rl_actormodel.specs.Ends.{last_wish, lost_wish, ended_by, over_at}
use Rattle.rl_actormodel.specs.Takes as takes
use Rattle.rl_actormodel.specs.Takes.{attach_wish, begin_wish, close_wish, publish, take}
use Rattle.rl_actormodel.specs.Rests.{rested, is_idle, is_quiet}
use Rattle.rl_actormodel.specs.Replies.{Standing, Passed, Gone, Holds, Unsaid, standing, Beginning, Overtaken, Missing, Knows, Above, Below, Goes, Unbegun, beginning, Opening, Opens, Limited, Unopened, opening, Resuming, Back, NotKnown, Unresumed, resuming, Numbering, Has, HasNone, Unnumbered, numbering, Joining, joining_in, verdict_in, Reading, Came, Behind, Unread}
use Rattle.rl_actormodel.specs.Connects.{resumed_by, opened_by, if_held, closed}
use Rattle.rl_actormodel.specs.Attaches.{attach_at, joined_by}
use Rattle.rl_actormodel.specs.Publishes.{settled, put_wish, begun_by, put_at, put_by}
use Rattle.rl_actormodel.specs.Pagings.{paged, page_by, ends_here, ended_here}
use Rattle.rl_actormodel.specs.Reads as reads
use Rattle.rl_actormodel.specs.Reads.{answered_at, replied, read_by, moved_on, entry_frame, on_session}
use Rattle.rl_worldmodel.specs.Actors.{is_short, arrives, arrives_if}
use Rattle.rl_worldputs.specs.Uses.{Use, IsUseBy, IsSent, OnHead, IsPublishOf, HasNumber, IsWishUsing, IsActorUsing}

-- NAMES

same_name : (name other : List ℕ) → is_eq (slice_cmp nat_cmp name other) ≡ true → name ≡ other
same_name name other h = (bytes_eq-Decides name other).0 (sym (is_eq-slice_cmp name other) ∙ h)

module _ (uses : List Use) (names : List (List ℕ)) where
  abbrev AreKnown : List (List ℕ × ℕ) → Type 0
  AreKnown es = AllByRecursion (λ (e : List ℕ × ℕ). HasNumber names e.0 e.1) es

  known_by : (name : List ℕ) (n : ℕ) (e : List ℕ × ℕ) (o : Option ℕ) (b : Bool) → is_eq (slice_cmp nat_cmp name e.0) ≡ b → HasNumber names e.0 e.1 → (o ≡ Some n → HasNumber names name n) → cond b (Some e.1) o ≡ Some n → HasNumber names name n
  known_by name n e o true is here more found =
      let same : e.1 ≡ n = cc in
      subst (λ m. HasNumber names name m) same (subst (λ (x : List ℕ). HasNumber names x e.1) (sym (same_name name e.0 is)) here)
  known_by name n e o false is here more found = more found

  known_at : (name : List ℕ) (n : ℕ) (es : List (List ℕ × ℕ)) → AreKnown es → at name es ≡ Some n → HasNumber names name n
  known_at name n [] all found = absurd (cc)
  known_at name n (e ∷ es) all found = known_by name n e (at name es) (is_at (slice_cmp nat_cmp name) e.0) refl all.0 (known_at name n es all.1) found

  entry_by : (name : List ℕ) (value : ℕ) (e : List ℕ × ℕ) (es rest : List (List ℕ × ℕ)) (o : Ordering) → slice_cmp nat_cmp name e.0 ≡ o → HasNumber names name value → HasNumber names e.0 e.1 → AreKnown es → AreKnown rest
      → AreKnown (match_ordering o ((name, value) ∷ e ∷ es) ((e.0, value) ∷ es) (e ∷ rest))
  entry_by name value e es rest Less same is here all more = (is, (here, all))
  entry_by name value e es rest Equal same is here all more = (subst (λ (x : List ℕ). HasNumber names x value) (same_name name e.0 (ap is_eq same)) is, all)
  entry_by name value e es rest Greater same is here all more = (here, more)

  entry_all : (name : List ℕ) (value : ℕ) (es : List (List ℕ × ℕ)) → HasNumber names name value → AreKnown es → AreKnown (with_entry name value es)
  entry_all name value [] is all = (is, tt)
  entry_all name value (e ∷ es) is all = entry_by name value e es (with_entry name value es) (slice_cmp nat_cmp name e.0) refl is all.0 all.1 (entry_all name value es is all.1)

  -- ENDS

  lost_hand : (holder : Option Holder) → IsWishUsing uses names (lost_wish holder)
  lost_hand None = tt
  lost_hand (Some holder) = tt

  last_hand : (why : End) (holder : Option Holder) → IsWishUsing uses names (last_wish why holder)
  last_hand (ends.Superseded mine newer) holder = tt
  last_hand ends.Forgotten holder = tt
  last_hand ends.Closed holder = tt
  last_hand (ends.ConnectionLimit count given) holder = tt
  last_hand why holder = lost_hand holder

  ended_hand : (why : End) (s : State) → IsActorUsing uses names s → IsActorUsing uses names (ended_by why s)
  ended_hand why s h = record { wishing = last_hand why s.holder; known = h.known }

  held_hand : (holder : Holder) (o : Standing) (next : State → State) (s : State) → IsActorUsing uses names (next s) → IsActorUsing uses names s → IsActorUsing uses names (if_held holder o next s)
  held_hand holder (Passed newer) next s g h = ended_hand (ends.Superseded holder.generation newer) s h
  held_hand holder Gone next s g h = ended_hand ends.Forgotten s h
  held_hand holder Holds next s g h = g
  held_hand holder Unsaid next s g h = h

  -- REPLIES

  resumed_hand : (key : List ℕ) (o : Resuming) (now : ℕ) (s : State) → IsActorUsing uses names s → IsActorUsing uses names (resumed_by key o now s)
  resumed_hand key (Back holder) now s h = record { wishing = tt; known = h.known }
  resumed_hand key NotKnown now s h = record { wishing = tt; known = h.known }
  resumed_hand key Unresumed now s h = h

  opened_hand : (o : Opening) (now : ℕ) (s : State) → IsActorUsing uses names s → IsActorUsing uses names (opened_by o now s)
  opened_hand (Opens holder key) now s h = record { wishing = tt; known = h.known }
  opened_hand (Limited count given) now s h = ended_hand (ends.ConnectionLimit count given) s h
  opened_hand Unopened now s h = h

  attach_hand : (asked : Asked) (o : Numbering) (now : ℕ) (s : State) → ((n : ℕ) → o ≡ Has n → HasNumber names asked.channel n) → IsActorUsing uses names s → IsActorUsing uses names (attach_at asked o now s)
  attach_hand asked (Has n) now s fits h = record { wishing = tt; known = entry_all asked.channel n s.numbers (fits n refl) h.known }
  attach_hand asked HasNone now s fits h = record { wishing = tt; known = h.known }
  attach_hand asked Unnumbered now s fits h = h

  joined_hand : (asked : Asked) (number : ℕ) (o : Option Joining) (now : ℕ) (s : State) → IsActorUsing uses names s → IsActorUsing uses names (joined_by asked number o now s)
  joined_hand asked number None now s h = h
  joined_hand asked number (Some j) now s h = record { wishing = tt; known = h.known }

  settled_hand : (p : Publish) (o : Option Outcome) (now : ℕ) (s : State) → IsActorUsing uses names s → IsActorUsing uses names (settled p o now s)
  settled_hand p None now s h = record { wishing = tt; known = h.known }
  settled_hand p (Some (Taken place)) now s h = record { wishing = tt; known = h.known }
  settled_hand p (Some (Refused code)) now s h = record { wishing = tt; known = h.known }

  put_hand : (p : Publish) (holder : Holder) (o : Option ℕ) → IsPublishOf uses p holder → ((n : ℕ) → o ≡ Some n → HasNumber names p.channel n) → IsWishUsing uses names (put_wish p holder o)
  put_hand p holder None used fits = used
  put_hand p holder (Some n) used fits = (used, fits n refl)

  begun_hand : (p : Publish) (holder : Holder) (b : Beginning) (now : ℕ) (s : State) → IsPublishOf uses p holder → IsActorUsing uses names s → IsActorUsing uses names (begun_by p holder b now s)
  begun_hand p holder (Overtaken newer) now s used h = ended_hand (ends.Superseded holder.generation newer) s h
  begun_hand p holder Missing now s used h = ended_hand ends.Forgotten s h
  begun_hand p holder (Knows outcome) now s used h = settled_hand p (Some outcome) now s h
  begun_hand p holder (Above got expected) now s used h = ended_hand (ends.SerialGap got expected) s h
  begun_hand p holder (Below got expected) now s used h = ended_hand (ends.SerialOld got expected) s h
  begun_hand p holder Goes now s used h = record { wishing = put_hand p holder (at p.channel s.numbers) used (λ n is. known_at p.channel n s.numbers h.known is); known = h.known }
  begun_hand p holder Unbegun now s used h = h

  put_at_hand : (p : Publish) (holder : Holder) (o : Numbering) (s : State) → ((n : ℕ) → o ≡ Has n → HasNumber names p.channel n) → IsPublishOf uses p holder → IsActorUsing uses names s → IsActorUsing uses names (put_at p holder o s)
  put_at_hand p holder (Has n) s fits used h = record { wishing = (used, fits n refl); known = entry_all p.channel n s.numbers (fits n refl) h.known }
  put_at_hand p holder HasNone s fits used h = record { wishing = tt; known = h.known }
  put_at_hand p holder Unnumbered s fits used h = h

  put_by_hand : (p : Publish) (holder : Holder) (o : Option Verdict) (s : State) → IsActorUsing uses names s → IsActorUsing uses names (put_by p holder o s)
  put_by_hand p holder None s h = h
  put_by_hand p holder (Some verdict) s h = record { wishing = tt; known = h.known }

  -- a number that the directory says is the channel's
  abbrev pub FitsHand : Wish → Reply → Type 0
  FitsHand (wishes.AskToAttach asked) reply = (n : ℕ) → numbering reply ≡ Has n → HasNumber names asked.channel n
  FitsHand (wishes.AskToPut p holder) reply = (n : ℕ) → numbering reply ≡ Has n → HasNumber names p.channel n
  FitsHand wish reply = ⊤

  pub replied_hand : (wish : Wish) (reply : Reply) (now : ℕ) (s : State) → FitsHand wish reply → IsWishUsing uses names wish → IsActorUsing uses names s → IsActorUsing uses names (replied wish reply now s)
  replied_hand wishes.Nothing reply now s fits used h = h
  replied_hand (wishes.Resume key) reply now s fits used h = resumed_hand key (resuming reply) now s h
  replied_hand wishes.Open reply now s fits used h = opened_hand (opening reply) now s h
  replied_hand (wishes.Lost holder) reply now s fits used h = record { wishing = tt; known = h.known }
  replied_hand (wishes.Close holder) reply now s fits used h = held_hand holder (standing reply) (closed now) s (record { wishing = tt; known = h.known }) h
  replied_hand (wishes.AskToAttach asked) reply now s fits used h = attach_hand asked (numbering reply) now s fits h
  replied_hand (wishes.Join asked number) reply now s fits used h = joined_hand asked number (joining_in reply) now s h
  replied_hand (wishes.Begin p holder) reply now s fits used h = begun_hand p holder (beginning reply) now s used h
  replied_hand (wishes.AskToPut p holder) reply now s fits used h = put_at_hand p holder (numbering reply) s fits used h
  replied_hand (wishes.Put p holder number) reply now s fits used h = put_by_hand p holder (verdict_in reply) s h
  replied_hand (wishes.Finish p holder outcome) reply now s fits used h = held_hand holder (standing reply) (settled p outcome now) s (settled_hand p outcome now s h) h

  pub absorbed_hand : (o : Option End) (call : Call) (reply : Reply) (now : ℕ) (s : State) → IsActorUsing uses names (reads.answered call reply now s) → IsActorUsing uses names s → IsActorUsing uses names (answered_at o call reply now s)
  absorbed_hand None call reply now s g h = g
  absorbed_hand (Some why) call reply now s g h = record { wishing = tt; known = h.known }

  pub over_hand : (why : End) (o : Option End) (s : State) → IsActorUsing uses names s → IsActorUsing uses names (over_at o why s)
  over_hand why None s h = ended_hand why s h
  over_hand why (Some end) s h = h

  -- FRAMES

  attach_wish_hand : (asked : Asked) (o : Option ℕ) → IsWishUsing uses names (attach_wish asked o)
  attach_wish_hand asked None = tt
  attach_wish_hand asked (Some n) = tt

  begin_hand : (p : Publish) (o : Option Holder) → IsUseBy uses o p.serial p.channel → IsWishUsing uses names (begin_wish p o)
  begin_hand p None used = tt
  begin_hand p (Some h) used = used

  close_hand : (o : Option Holder) → IsWishUsing uses names (close_wish o)
  close_hand None = tt
  close_hand (Some h) = tt

  publish_hand : (head : Head) (o : Option ℕ) (body : Body) (s : State) → head.msg ≡ o → OnHead (IsUseBy uses s.holder) head → IsActorUsing uses names s → IsActorUsing uses names (publish head o body s)
  publish_hand head None body s is used h = h
  publish_hand head (Some serial) body s is used h = record { wishing = begin_hand _ s.holder (used serial is); known = h.known }

  take_hand : (frame : Frame) (now : ℕ) (s : State) → IsSent uses s.holder frame → IsActorUsing uses names s → IsActorUsing uses names (take frame now s)
  take_hand (frames.Attach name serial) now s used h = record { wishing = attach_wish_hand _ (at name s.numbers); known = h.known }
  take_hand (frames.Detach name) now s used h = record { wishing = h.wishing; known = h.known }
  take_hand (frames.Message head items) now s used h = publish_hand head head.msg _ s refl used h
  take_hand (frames.Presence head items) now s used h = publish_hand head head.msg _ s refl used h
  take_hand (frames.Object head ops) now s used h = publish_hand head head.msg _ s refl used h
  take_hand frames.Close now s used h = record { wishing = close_hand s.holder; known = h.known }
  take_hand frames.Heartbeat now s used h = record { wishing = h.wishing; known = h.known }
  take_hand frame now s used h = h

  any_hand : (b : Bool) (frame : Frame) (now : ℕ) (s : State) → IsSent uses s.holder frame → IsActorUsing uses names s → IsActorUsing uses names (takes.take_any (arrives_if b frame) now s)
  any_hand true frame now s used h = take_hand frame now s used h
  any_hand false frame now s used h = ended_hand _ s h

  pub took_hand : (frame : Frame) (now : ℕ) (s : State) → IsSent uses s.holder frame → IsActorUsing uses names s → IsActorUsing uses names (takes.took (arrives frame) now s)
  took_hand frame now s used h = any_hand (is_short frame) frame now (record s { last_in = now }) used (record { wishing = h.wishing; known = h.known })

  hand_if : (b : Bool) (x y : State) → IsActorUsing uses names x → IsActorUsing uses names y → IsActorUsing uses names (if b then x else y)
  hand_if true x y p q = p
  hand_if false x y p q = q

  pub rested_hand : (now : ℕ) (s : State) → IsActorUsing uses names s → IsActorUsing uses names (rested now s)
  rested_hand now s h =
      hand_if (actor.is_free s) _ s
      (hand_if (is_idle now s) _ _ (ended_hand (ends.Idle s.last_in now) s h) (hand_if (is_quiet now s) _ s (record { wishing = h.wishing; known = h.known }) h))
      h

  puts_hand : (list : List Frame) (now : ℕ) (s : State) → IsActorUsing uses names s → IsActorUsing uses names (puts list now s)
  puts_hand [] now s h = h
  puts_hand (frame ∷ more) now s h = record { wishing = h.wishing; known = h.known }

  pub read_hand : (name : List ℕ) (session : Session) (r : Reading) (now : ℕ) (s : State) → IsActorUsing uses names s → IsActorUsing uses names (read_by name session r now s)
  read_hand name session (Came list) now s h =
      puts_hand (map (entry_frame name session.epoch) list ++ ends_here (moved_on (length list) session)) now (record s { sessions = with_entry name (ended_here (moved_on (length list) session)) s.sessions }) (record { wishing = h.wishing; known = h.known })
  read_hand name session (Behind first) now s h = ended_hand (ends.Lagged session.position first) s h
  read_hand name session Unread now s h = h

  pub page_hand : (name : List ℕ) (session : Session) (o : Option ChannelReply) (now : ℕ) (s : State) → IsActorUsing uses names s → IsActorUsing uses names (page_by name session o now s)
  page_hand name session None now s h = h
  page_hand name session (Some reply) now s h =
      puts_hand (option_to_list (page_frame reply session.pages)) now (record s { sessions = with_entry name (paged (page_absorbed reply session.pages) session) s.sessions }) (record { wishing = h.wishing; known = h.known })

  pub session_hand : (act : List ℕ → Session → State → State) (o : Option (List ℕ × Session)) (s : State) → ((name : List ℕ) (session : Session) → IsActorUsing uses names (act name session s)) → IsActorUsing uses names s → IsActorUsing uses names (on_session act o s)
  session_hand act None s each h = h
  session_hand act (Some e) s each h = each e.0 e.1
