-- What a lane keeps where the client gets the first of what is coming.
use Rattle.std.proofs.Common.{◌≡◌, ◌⊎◌, inl, inr, ℕ, zero, suc, Bool, true, false, cond, List, [], ◌∷◌, ◌++◌, length, refl, sym, ◌∙◌, ap, subst, arith}
use Rattle.std.specs.Prelude.{⊤, Option, Some, ◌==◌, ◌&&◌, not}
use Rattle.std.specs.List.{AllByRecursion}
use Rattle.std.proofs.lemmas.Bool.{eq-eqb}
use Rattle.rl_ids.specs.declared.serials.ChannelSerial.{ChannelSerial}
use Rattle.rl_types.specs.declared.messages.Body.{Body}
use Rattle.rl_types.specs.declared.messages.Body.TheVariants as body
use Rattle.rl_types.specs.declared.messages.Entry.{Entry}
use Rattle.rl_types.specs.declared.frames.Cursor.{Cursor}
use Rattle.rl_types.specs.declared.presence.PresenceItem.{PresenceItem}
use Rattle.rl_types.specs.declared.objects.ObjectState.{ObjectState}
use Rattle.rl_types.specs.declared.states.ChanState.{ChanState}
use Rattle.rl_types.specs.declared.states.ChanState.TheVariants as chan
use Rattle.rl_events.specs.declared.channel.ChannelEvent.{ChannelEvent}
use Rattle.rl_clientmodel.specs.declared.runs.Beginning.TheVariants.{Skipped}
use Rattle.rl_clientmodel.specs.declared.runs.Run.{Run}
use Rattle.rl_clientmodel.specs.Runs.{follows, got_onto, runs_with}
use Rattle.rl_clientmodel.specs.Channels.{ClientChannel, told}
use Rattle.rl_clientmodel.specs.Entries.{got_at, got_in, object_page_in, page_in, runs_before, skips, with_body, with_entry_got}
use Rattle.rl_actormodel.specs.declared.parts.Session.{Session}
use Rattle.rl_lanes.specs.Lanes.{Setup, Ask, Page, OfMembers, EndOfMembers, OfObjects, EndOfObjects, Coming, Tells, Leaves, Fails, Gives, Shows, Link}
use Rattle.rl_lanes.specs.Moves.{shown_got}
use Rattle.rl_lanes.specs.Follows.{Took, TookEntry, TookPage, IsLive, answered_in, OfLast, Part, part_of, end_of, EndsAt, EndsWith, IsAskOf, IsTrue, Flows, HoldsOnLink, Stands, Holds}
use Rattle.rl_lanes.proofs.Records.{entry_taken}

abbrev pub link_of : List Coming → List Ask → Option Session → Link
link_of coming asked session = record { coming = coming; asks = asked; session = session }

-- what is left to be got after all that was taken is as true as before, whatever became of the record
pub live_true : (setup : Setup) (past : List ChannelEvent) (end other : ℕ) (joins begun begun_then : List ℕ) (took : List Took) (more : List Coming) → IsLive setup.epoch took more
    → AllByRecursion (IsTrue setup past end joins begun) more → AllByRecursion (IsTrue setup past other joins begun_then) more
live_true setup past end other joins begun begun_then took [] fits told = tt
live_true setup past end other joins begun begun_then took (Gives epoch entry ∷ more) fits told = (told.0, live_true setup past end other joins begun begun_then (TookEntry entry ∷ took) more fits.2 told.1)
live_true setup past end other joins begun begun_then took (Shows page ∷ more) fits told = (tt, live_true setup past end other joins begun begun_then (TookPage page ∷ took) more fits told.1)
live_true setup past end other joins begun begun_then took (Tells given number joining ∷ more) fits told = absurd fits
live_true setup past end other joins begun begun_then took (Leaves ∷ more) fits told = absurd fits
live_true setup past end other joins begun begun_then took (Fails given code ∷ more) fits told = absurd fits

pub none_asked : (P : Ask → Type 0) (xs : List Ask) → zero ≡ length xs → OfLast P xs
none_asked P [] none = tt
none_asked P (x ∷ xs) none = absurd (cc)

-- AN ENTRY OR A PAGE IS PASSED OVER

abbrev pub IsPlain : Coming → Type 0
IsPlain (Gives epoch entry) = ⊤
IsPlain (Shows page) = ⊤
IsPlain coming = ⊥

flows_passed : (setup : Setup) (owed : ℕ) (took : List Took) (one : Coming) (more : List Coming) (asked : List Ask) (session : Option Session) → IsPlain one → (owed ≡ 0 → ⊥)
    → Flows setup owed took (link_of (one ∷ more) asked session) → Flows setup owed took (link_of more asked session)
flows_passed setup zero took one more asked session plain some c = absurd (some refl)
flows_passed setup (suc n) took (Gives epoch entry) more asked session plain some c = record { fits = c.fits; matches = c.matches }
flows_passed setup (suc n) took (Shows page) more asked session plain some c = record { fits = c.fits; matches = c.matches }
flows_passed setup (suc n) took (Tells given number joining) more asked session plain some c = absurd plain
flows_passed setup (suc n) took Leaves more asked session plain some c = absurd plain
flows_passed setup (suc n) took (Fails given code) more asked session plain some c = absurd plain

plain_asks : (one : Coming) (more : List Coming) → IsPlain one → answered_in (one ∷ more) ≡ answered_in more
plain_asks (Gives epoch entry) more plain = refl
plain_asks (Shows page) more plain = refl
plain_asks (Tells given number joining) more plain = absurd plain
plain_asks Leaves more plain = absurd plain
plain_asks (Fails given code) more plain = absurd plain

passed_on_link : (setup : Setup) (past : List ChannelEvent) (part : Part) (took : List Took) (joins begun : List ℕ) (one : Coming) (more : List Coming) (asked : List Ask) (session : Option Session)
    → IsPlain one → (part.state ≡ chan.Attached → ⊥)
    → HoldsOnLink setup past part took joins begun (Some (link_of (one ∷ more) asked session)) → HoldsOnLink setup past part took joins begun (Some (link_of more asked session))
passed_on_link setup past part took joins begun one more asked session plain never (inr stuck) = inr stuck
passed_on_link setup past part took joins begun one more asked session plain never (inl old) = inl (record {
  owed = old.owed ∙ ap (λ xs. length (xs ++ asked)) (plain_asks one more plain);
  few = old.few;
  told = old.told.1;
  last = subst (λ xs. OfLast (IsAskOf part.runs part.away part.asked) (xs ++ asked)) (plain_asks one more plain) old.last;
  nothing = old.nothing;
  flows = λ may. flows_passed setup part.owed took one more asked session plain (λ none. never (may none)) (old.flows may);
})

pub passes : (setup : Setup) (past : List ChannelEvent) (part : Part) (joins begun : List ℕ) (one : Coming) (more : List Coming) (asked : List Ask) (session : Option Session)
    → IsPlain one → (part.state ≡ chan.Attached → ⊥)
    → Holds setup past part joins begun (Some (link_of (one ∷ more) asked session)) → Holds setup past part joins begun (Some (link_of more asked session))
passes setup past part joins begun one more asked session plain never holds = record {
  sound = holds.sound;
  ends = holds.ends;
  early = holds.early;
  took = holds.took;
  stands = holds.stands;
  linked = passed_on_link setup past part holds.took joins begun one more asked session plain never holds.linked;
}

pub attached_or_not : (state : ChanState) → (state ≡ chan.Attached) ⊎ (state ≡ chan.Attached → ⊥)
attached_or_not chan.Attached = inl refl
attached_or_not chan.Initialized = inr (λ is. absurd (cc))
attached_or_not chan.Attaching = inr (λ is. absurd (cc))
attached_or_not chan.Detaching = inr (λ is. absurd (cc))
attached_or_not chan.Detached = inr (λ is. absurd (cc))
attached_or_not chan.Suspended = inr (λ is. absurd (cc))
attached_or_not chan.Failed = inr (λ is. absurd (cc))

-- IN ATTACHED EACH IS TAKEN

-- an ATTACHED channel, to which no answer is owed
abbrev pub attached_part : Option ChannelSerial → Option ChannelSerial → List Run → Bool → Part
attached_part held asked runs away = record { state = chan.Attached; held = held; asked = asked; owed = 0; runs = runs; away = away }

-- what is known of an ATTACHED channel on a link
record At (setup : Setup) (past : List ChannelEvent) (part : Part) (joins begun : List ℕ) (coming : List Coming) (asked : List Ask) (session : Option Session) : Type 0 where
  owed : part.owed ≡ 0
  stands : (took : List Took) × Stands setup part took × Flows setup 0 took (link_of coming asked session)
  told : AllByRecursion (IsTrue setup past (end_of part.runs) joins begun) coming
  none : zero ≡ length (answered_in coming ++ asked)

at_attached : (setup : Setup) (past : List ChannelEvent) (part : Part) (joins begun : List ℕ) (coming : List Coming) (asked : List Ask) (session : Option Session) → part.state ≡ chan.Attached
    → (holds : Holds setup past part joins begun (Some (link_of coming asked session))) → HoldsOnLink setup past part holds.took joins begun (Some (link_of coming asked session))
    → At setup past part joins begun coming asked session
at_attached setup past part joins begun coming asked session st holds (inr stuck) = absurd (stuck.never st)
at_attached setup past part joins begun coming asked session st holds (inl linked) = record {
  owed = linked.nothing st;
  stands = (holds.took, holds.stands st, subst (λ n. Flows setup n holds.took (link_of coming asked session)) (linked.nothing st) (linked.flows (λ none. st)));
  told = linked.told;
  none = sym (linked.nothing st) ∙ linked.owed;
}

-- with this taken
taking : (setup : Setup) (past : List ChannelEvent) (held asked_serial : Option ChannelSerial) (runs : List Run) (away : Bool) (joins begun : List ℕ) (more : List Coming) (asked : List Ask) (session : Option Session) (took : List Took)
    → AllByRecursion (IsTrue setup past (end_of runs) joins begun) more → zero ≡ length (answered_in more ++ asked) → Flows setup 0 took (link_of more asked session)
    → HoldsOnLink setup past (attached_part held asked_serial runs away) took joins begun (Some (link_of more asked session))
taking setup past held asked_serial runs away joins begun more asked session took told none flows = inl (record {
  owed = none;
  few = omega arith;
  told = told;
  last = none_asked (IsAskOf runs away asked_serial) (answered_in more ++ asked) none;
  nothing = λ a. refl;
  flows = λ may. flows;
})

-- A PAGE

page_part : (state : ChanState) (at : Option Cursor) (items : List PresenceItem) (channel : ClientChannel) → part_of (page_in state at items channel) ≡ part_of channel
page_part chan.Initialized at items channel = refl
page_part chan.Attaching at items channel = refl
page_part chan.Attached at items channel = refl
page_part chan.Detaching at items channel = refl
page_part chan.Detached at items channel = refl
page_part chan.Suspended at items channel = refl
page_part chan.Failed at items channel = refl

object_page_part : (state : ChanState) (at : Option Cursor) (states : List ObjectState) (now : ℕ) (channel : ClientChannel) → part_of (object_page_in state at states now channel) ≡ part_of channel
object_page_part chan.Initialized at states now channel = refl
object_page_part chan.Attaching at states now channel = refl
object_page_part chan.Attached at states now channel = refl
object_page_part chan.Detaching at states now channel = refl
object_page_part chan.Detached at states now channel = refl
object_page_part chan.Suspended at states now channel = refl
object_page_part chan.Failed at states now channel = refl

pub shown_part : (page : Page) (now : ℕ) (channel : ClientChannel) → part_of (shown_got page now channel) ≡ part_of channel
shown_part (OfMembers at items last) now channel = page_part channel.state (Some at) items channel
shown_part (EndOfMembers at) now channel = page_part channel.state (Some at) [] channel
shown_part (OfObjects at states last) now channel = object_page_part channel.state (Some at) states now channel
shown_part (EndOfObjects at) now channel = object_page_part channel.state (Some at) [] now channel

abbrev seen : ChanState → ℕ → Part → Part
seen state owed part = record part { state = state; owed = owed }

part_is : (part : Part) → part.state ≡ chan.Attached → part.owed ≡ 0 → part ≡ attached_part part.held part.asked part.runs part.away
part_is part st none = ap (λ s. seen s part.owed part) st ∙ ap (λ n. seen chan.Attached n part) none

page_taken : (setup : Setup) (past : List ChannelEvent) (part : Part) (joins begun : List ℕ) (page : Page) (more : List Coming) (asked : List Ask) (session : Option Session) → part.state ≡ chan.Attached
    → Holds setup past part joins begun (Some (link_of (Shows page ∷ more) asked session)) → Holds setup past part joins begun (Some (link_of more asked session))
page_taken setup past part joins begun page more asked session st holds =
    let a = at_attached setup past part joins begun (Shows page ∷ more) asked session st holds holds.linked in
    let took : List Took = TookPage page ∷ a.stands.0 in
    let s = a.stands.1 in
    record {
      sound = holds.sound;
      ends = holds.ends;
      early = holds.early;
      took = took;
      stands = λ _. record { serial = s.serial; held = s.held; epoch = s.epoch; place = s.place };
      linked =
          subst (λ p. HoldsOnLink setup past p took joins begun (Some (link_of more asked session))) (sym (part_is part st a.owed))
          (taking setup past part.held part.asked part.runs part.away joins begun more asked session took a.told.1 a.none (record { fits = a.stands.2.fits; matches = a.stands.2.matches }));
    }

-- AN ENTRY

body_part : (items : Body) (now : ℕ) (channel : ClientChannel) → part_of (with_body items now channel) ≡ part_of channel
body_part (body.Messages items) now channel = refl
body_part (body.Presence items) now channel = refl
body_part (body.Objects ops) now channel = refl

abbrev with_entry : ChannelSerial → Body → Part → Part
with_entry serial items part = record part { held = Some serial; runs = got_onto (serial.place, items) part.runs }

entry_part : (k : ℕ) (serial held : ChannelSerial) (items : Body) (channel : ClientChannel) → channel.held ≡ Some held → follows held k serial.epoch ≡ true
    → part_of (with_entry_got k serial items channel) ≡ with_entry serial items (part_of channel)
entry_part k serial held items channel is next =
    ap (λ rs. record (part_of channel) { held = Some serial; runs = got_onto (serial.place, items) rs; away = cond (skips channel.held k serial) false channel.away })
    (ap (λ h. runs_before h k serial channel.runs) is ∙ ap (λ b. runs_with b (Skipped held serial) channel.runs) next)
    ∙ ap (λ b. record (part_of channel) { held = Some serial; runs = got_onto (serial.place, items) channel.runs; away = cond b false channel.away })
    (ap (λ h. skips h k serial) is ∙ ap not next)

entry_goes_on : (setup : Setup) (past : List ChannelEvent) (part : Part) (joins begun : List ℕ) (other : ℕ) (entry : Entry) (more : List Coming) (asked : List Ask) (session : Option Session) → part.state ≡ chan.Attached
    → (a : At setup past part joins begun (Gives other entry ∷ more) asked session)
    → Holds setup past part joins begun (Some (link_of (Gives other entry ∷ more) asked session))
    → Holds setup past (with_entry (record { epoch = other; place = entry.place }) entry.body part) joins begun (Some (link_of more asked session))
entry_goes_on setup past part joins begun other entry more asked session st a holds =
    let k : ℕ = a.told.0.0 in
    let s = a.stands.1 in
    let before : List Took = a.stands.0 in
    let fits = a.stands.2.fits in
    let took : List Took = TookEntry entry ∷ before in
    let ends : EndsAt part.runs s.serial.place = subst (EndsWith part.runs part.away) s.held holds.ends in
    let at : s.serial.place ≡ k = omega (arith, s.place, fits.1, a.told.0.1) in
    let grown = entry_taken setup past joins begun part.runs k entry a.told.0.1 a.told.0.2 (subst (EndsAt part.runs) at ends) holds.sound in
    record {
      sound = grown.0;
      ends = grown.1;
      early = holds.early;
      took = took;
      stands = λ _. record { serial = record { epoch = other; place = entry.place }; held = refl; epoch = fits.0; place = fits.1 };
      linked =
          subst (λ p. HoldsOnLink setup past (with_entry (record { epoch = other; place = entry.place }) entry.body p) took joins begun (Some (link_of more asked session))) (sym (part_is part st a.owed))
          (taking setup past (Some (record { epoch = other; place = entry.place })) part.asked (got_onto (entry.place, entry.body) part.runs) part.away joins begun more asked session took
          (live_true setup past (end_of part.runs) (end_of (got_onto (entry.place, entry.body) part.runs)) joins begun begun took more fits.2 a.told.1)
          a.none (record { fits = fits.2; matches = a.stands.2.matches }));
    }

in_attached : (setup : Setup) (past : List ChannelEvent) (channel : ClientChannel) (joins begun : List ℕ) (other now : ℕ) (entry : Entry) (more : List Coming) (asked : List Ask) (session : Option Session) → channel.state ≡ chan.Attached
    → Holds setup past (part_of channel) joins begun (Some (link_of (Gives other entry ∷ more) asked session))
    → Holds setup past (part_of (got_at entry.place (record { epoch = other; place = entry.place }) entry.body now channel)) joins begun (Some (link_of more asked session))
in_attached setup past channel joins begun other now entry more asked session st holds =
    let a = at_attached setup past (part_of channel) joins begun (Gives other entry ∷ more) asked session st holds holds.linked in
    let serial : ChannelSerial = record { epoch = other; place = entry.place } in
    let k : ℕ = a.told.0.0 in
    let s = a.stands.1 in
    let fits = a.stands.2.fits in
    let at : s.serial.place ≡ k = omega (arith, s.place, fits.1, a.told.0.1) in
    let next : follows s.serial k other ≡ true =
    ap (λ b. b && (s.serial.place == k)) (eq-eqb s.serial.epoch other (s.epoch ∙ sym fits.0)) ∙ eq-eqb s.serial.place k at in
    let is : got_at entry.place serial entry.body now channel ≡ with_body entry.body now (with_entry_got k serial entry.body channel) =
    ap (λ n. got_at n serial entry.body now channel) a.told.0.1 ∙ ap (λ st. got_in st k serial entry.body now channel) st in
    let same : part_of (got_at entry.place serial entry.body now channel) ≡ with_entry serial entry.body (part_of channel) =
    ap part_of is ∙ body_part entry.body now (with_entry_got k serial entry.body channel) ∙ entry_part k serial s.serial entry.body channel s.held next in
    subst (λ p. Holds setup past p joins begun (Some (link_of more asked session))) (sym same)
    (entry_goes_on setup past (part_of channel) joins begun other entry more asked session st a holds)

got_in_other : (state : ChanState) (k : ℕ) (serial : ChannelSerial) (items : Body) (now : ℕ) (channel : ClientChannel) → (state ≡ chan.Attached → ⊥) → got_in state k serial items now channel ≡ channel
got_in_other chan.Attached k serial items now channel never = absurd (never refl)
got_in_other chan.Initialized k serial items now channel never = refl
got_in_other chan.Attaching k serial items now channel never = refl
got_in_other chan.Detaching k serial items now channel never = refl
got_in_other chan.Detached k serial items now channel never = refl
got_in_other chan.Suspended k serial items now channel never = refl
got_in_other chan.Failed k serial items now channel never = refl

pub got_at_other : (place : ℕ) (serial : ChannelSerial) (items : Body) (now : ℕ) (channel : ClientChannel) → (channel.state ≡ chan.Attached → ⊥) → got_at place serial items now channel ≡ channel
got_at_other zero serial items now channel never = refl
got_at_other (suc k) serial items now channel never = got_in_other channel.state k serial items now channel never

pub entry_gets : (setup : Setup) (past : List ChannelEvent) (channel : ClientChannel) (joins begun : List ℕ) (other now : ℕ) (entry : Entry) (more : List Coming) (asked : List Ask) (session : Option Session)
    → (channel.state ≡ chan.Attached) ⊎ (channel.state ≡ chan.Attached → ⊥)
    → Holds setup past (part_of channel) joins begun (Some (link_of (Gives other entry ∷ more) asked session))
    → Holds setup past (part_of (got_at entry.place (record { epoch = other; place = entry.place }) entry.body now channel)) joins begun (Some (link_of more asked session))
entry_gets setup past channel joins begun other now entry more asked session (inl st) holds = in_attached setup past channel joins begun other now entry more asked session st holds
entry_gets setup past channel joins begun other now entry more asked session (inr never) holds =
    subst (λ (c : ClientChannel). Holds setup past (part_of c) joins begun (Some (link_of more asked session)))
    (sym (got_at_other entry.place (record { epoch = other; place = entry.place }) entry.body now channel never))
    (passes setup past (part_of channel) joins begun (Gives other entry) more asked session tt never holds)

pub page_gets : (setup : Setup) (past : List ChannelEvent) (part : Part) (joins begun : List ℕ) (page : Page) (more : List Coming) (asked : List Ask) (session : Option Session)
    → (part.state ≡ chan.Attached) ⊎ (part.state ≡ chan.Attached → ⊥)
    → Holds setup past part joins begun (Some (link_of (Shows page ∷ more) asked session)) → Holds setup past part joins begun (Some (link_of more asked session))
page_gets setup past part joins begun page more asked session (inl st) holds = page_taken setup past part joins begun page more asked session st holds
page_gets setup past part joins begun page more asked session (inr never) holds = passes setup past part joins begun (Shows page) more asked session tt never holds
