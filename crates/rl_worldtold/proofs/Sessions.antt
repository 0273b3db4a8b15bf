-- What a session calls: reads and pages alone.
use Rattle.std.proofs.Common.{◌≡◌, ℕ, Bool, true, false, List, subst}
use Rattle.std.specs.Prelude.{Option, Some, None, not, if◌then◌else◌, option_map, ⊤}
use Rattle.rl_numbers.specs.declared.limits.TheConstants.{PAGE_MEMBERS, PAGE_OBJECTS, READ_ENTRIES}
use Rattle.rl_events.specs.declared.channel.ChannelEvent.{ChannelEvent}
use Rattle.rl_events.specs.declared.channel.ChannelEvent.TheVariants.{Read, MemberPage, ObjectPage}
use Rattle.rl_events.specs.declared.calls.Call.{Call}
use Rattle.rl_events.specs.declared.calls.Call.TheVariants as calls
use Rattle.rl_pages.specs.State.{Sequences}
use Rattle.rl_names.specs.Names.{at}
use Rattle.rl_actormodel.specs.declared.parts.Session.{Session}
use Rattle.rl_actormodel.specs.State as actor
use Rattle.rl_actormodel.specs.Wishes.{page_call, poll_call, page_of, read_of, call_of}
use Rattle.rl_worldmodel.specs.World.{Transport}
use Rattle.rl_worldmodel.specs.Actors.{unless_cut, call_on}

abbrev pub IsOfSession : Call → Type 0
IsOfSession (calls.Chan number (Read from most)) = ⊤
IsOfSession (calls.Chan number (MemberPage after most)) = ⊤
IsOfSession (calls.Chan number (ObjectPage after most)) = ⊤
IsOfSession call = ⊥

abbrev AreOfSession : Option Call → Type 0
AreOfSession o = (call : Call) → o ≡ Some call → IsOfSession call

read_is : (session : Session) → AreOfSession (read_of session)
read_is session call is = let same : calls.Chan session.number (Read session.position READ_ENTRIES) ≡ call = cc in subst IsOfSession same tt

event_by : (members objects : Bool) (number : ℕ) (pages : Sequences) → AreOfSession (option_map (λ (event : ChannelEvent). calls.Chan number event) (if not members then Some (MemberPage pages.after_member PAGE_MEMBERS) else if not objects then Some (ObjectPage pages.after_object PAGE_OBJECTS) else None))
event_by false objects number pages call is = let same : calls.Chan number (MemberPage pages.after_member PAGE_MEMBERS) ≡ call = cc in subst IsOfSession same tt
event_by true false number pages call is = let same : calls.Chan number (ObjectPage pages.after_object PAGE_OBJECTS) ≡ call = cc in subst IsOfSession same tt
event_by true true number pages call is = absurd (cc)

page_is : (session : Session) → AreOfSession (page_of session)
page_is session = event_by session.pages.members.done session.pages.objects.done session.number session.pages

call_is : (call : Session → Option Call) (o : Option Session) → ((session : Session) → AreOfSession (call session)) → AreOfSession (call_of call o)
call_is call None each one is = absurd (cc)
call_is call (Some session) each one is = each session one is

if_free : (b : Bool) (o : Option Call) → AreOfSession o → AreOfSession (if b then o else None)
if_free true o each call is = each call is
if_free false o each call is = absurd (cc)

if_cut : (b : Bool) (o : Option Call) → AreOfSession o → AreOfSession (unless_cut b o)
if_cut true o each call is = absurd (cc)
if_cut false o each call is = each call is

on_its : (call : actor.State → Option Call) (o : Option Transport) → ((s : actor.State) → AreOfSession (call s)) → AreOfSession (call_on call o)
on_its call None each one is = absurd (cc)
on_its call (Some t) each one is = if_cut t.cut (call t.actor) (each t.actor) one is

pub pages_are : (name : List ℕ) (o : Option Transport) (call : Call) → call_on (page_call name) o ≡ Some call → IsOfSession call
pages_are name o = on_its (page_call name) o (λ s. if_free (actor.is_free s) (call_of page_of (at name s.sessions)) (call_is page_of (at name s.sessions) page_is))

pub polls_are : (name : List ℕ) (o : Option Transport) (call : Call) → call_on (poll_call name) o ≡ Some call → IsOfSession call
polls_are name o = on_its (poll_call name) o (λ s. if_free (actor.is_free s) (call_of read_of (at name s.sessions)) (call_is read_of (at name s.sessions) read_is))
