-- What follows for sessions: by what they are found, and what their reads give.
use Rattle.std.proofs.Common.{◌≡◌, ℕ, zero, suc, ◌+◌, ◌-◌, ◌<◌, ◌≤◌, Bool, true, false, cond, List, [], ◌∷◌, ◌++◌, length, map, take, drop, refl, sym, ◌∙◌, ap, subst, arith}
use Rattle.std.specs.Prelude.{Some, None, if◌then◌else◌, nat_lt, ◌||◌, min}
use Rattle.std.specs.List.{AllByRecursion}
use Rattle.std.proofs.lemmas.Bool.{eqb-true}
use Rattle.std.proofs.lemmas.List.{append-nil}
use Rattle.std.proofs.lemmas.Bool.Decides.{nat_tests}
use Rattle.rl_numbers.specs.declared.limits.TheConstants.{READ_ENTRIES}
use Rattle.rl_types.specs.declared.frames.Frame.{Frame}
use Rattle.rl_types.specs.declared.messages.Entry.{Entry}
use Rattle.rl_events.specs.declared.channel.ChannelEvent.{ChannelEvent}
use Rattle.rl_events.specs.declared.channel.ChannelReply.TheVariants as answers
use Rattle.rl_events.specs.declared.channel.ReadReply.TheVariants.{Run, NotRetained}
use Rattle.rl_events.specs.declared.calls.Reply.TheVariants.{Chan}
use Rattle.rl_connbook.proofs.Each.{all_weaker}
use Rattle.rl_names.specs.Names.{at, with_entry}
use Rattle.rl_model.specs.Verdict.{log, head}
use Rattle.rl_model.specs.Window.{first}
use Rattle.rl_actormodel.specs.declared.parts.Session.{Session}
use Rattle.rl_actormodel.specs.State as actor
use Rattle.rl_actormodel.specs.State.{puts}
use Rattle.rl_actormodel.specs.Replies.{Reading, Came, Behind, Unread, reading}
use Rattle.rl_actormodel.specs.Pagings.{ends_here, ended_here}
use Rattle.rl_actormodel.specs.Reads.{answered_at, on_session, read_by, moved_on, entry_frame}
use Rattle.rl_actormodel.proofs.Named.{at_with, found_at, found_passes}
use Rattle.rl_worldmodel.specs.World.{World, Transport, the_site, history}
use Rattle.rl_worldmodel.specs.Calls.{reply_to}
use Rattle.rl_worldtold.proofs.Shape.{self_bytes}
use Rattle.rl_worldtold.proofs.Runs.{runs_so}
use Rattle.rl_worldsessions.specs.Logs.{LogsAreInPlace, IsRun}
use Rattle.rl_worldsessions.specs.Serving.{IsSessionOf, IsServing, AreServing}
use Rattle.rl_worldsessions.specs.Sessions.{FindsByNumber, SessionsAreFoundByNumber, read_call, read_told, after_read, IsReadOn, IsLeftBehind, ReadsRuns, AllReadRuns, ReadsAreRuns}
use Rattle.rl_worldsessions.proofs.Entries.{all_found, to_rising}
use Rattle.rl_worldsessions.proofs.Found.{number_found}
use Rattle.rl_worldsessions.proofs.Logs.{log_is, run_read}
use Rattle.rl_worldsessions.proofs.Serving.{actors_serve}

-- the entries of every log stand at 1, 2, ..
pub logs_are_in_place : LogsAreInPlace
logs_are_in_place site past = let is = log_is site past in record { placed = is.0; bounded = is.1 }

-- BY NUMBER

finds : (world : World) (t : Transport) → IsServing world.channels t → FindsByNumber t.actor
finds world t h = record {
  found = λ name session number is same.
      let own : IsSessionOf world.channels (name, session) = all_found (IsSessionOf world.channels) name session t.actor.sessions h.of_actor.sessions is in
      subst (λ (n : ℕ). actor.numbered n t.actor.sessions ≡ Some (name, session)) same
      (number_found world.channels name session t.actor.sessions h.of_actor.sessions own.numbered is);
  stands = λ name session number is. (
    found_at (actor.has_number number) t.actor.sessions (name, session) (to_rising t.actor.sessions h.of_actor.once) is,
    eqb-true session.number number (found_passes (actor.has_number number) t.actor.sessions (name, session) is),
  );
}

-- a session is found by its channel's number
pub sessions_are_found_by_number : SessionsAreFoundByNumber
sessions_are_found_by_number =
    runs_so AreServing (λ world. AllByRecursion (λ (t : Transport). FindsByNumber t.actor) world.transports)
    (λ world h. all_weaker (IsServing world.channels) (λ (t : Transport). FindsByNumber t.actor) (finds world) world.transports h) actors_serve

-- READS

abbrev Says : Bool → ℕ → List Entry → Reading
Says behind place list = reading (Chan (answers.Read (if behind then NotRetained place else Run list)))

came_is : (behind : Bool) (place : ℕ) (one list : List Entry) → Says behind place one ≡ Came list → one ≡ list
came_is true place one list is = absurd (cc)
came_is false place one list is = cc

behind_is : (behind : Bool) (least place : ℕ) (one : List Entry) → Says behind least one ≡ Behind place → (behind ≡ true) × (least ≡ place)
behind_is true least place one is = (refl, cc)
behind_is false least place one is = absurd (cc)

never_unread : (behind : Bool) (place : ℕ) (one : List Entry) → Says behind place one ≡ Unread → ⊥
never_unread true place one is = absurd (cc)
never_unread false place one is = absurd (cc)

take_length : (n : ℕ) (xs : List Entry) → length (take n xs) ≡ min n (length xs)
take_length zero xs = omega arith
take_length (suc n) [] = omega arith
take_length (suc n) (x ∷ xs) = omega (arith, take_length n xs)

drop_length : (k : ℕ) (xs : List Entry) → length (drop k xs) ≡ length xs - k
drop_length zero xs = omega arith
drop_length (suc k) [] = omega arith
drop_length (suc k) (x ∷ xs) = omega (arith, drop_length k xs)

left_behind : (position least last : ℕ) → position ≤ last → (nat_lt (position + 1) least || nat_lt last position) ≡ true → position + 1 < least
left_behind position least last within is = by_tests (nat_lt (position + 1) least) (nat_lt last position) refl refl is
  where
    by_tests : (a b : Bool) → nat_lt (position + 1) least ≡ a → nat_lt last position ≡ b → (a || b) ≡ true → position + 1 < least
    by_tests true b one two is = grind (arith, nat_tests, one)
    by_tests false true one two is = absurd (grind (arith, nat_tests, two, within))
    by_tests false false one two is = absurd (cc)

is_kept : (position least last : ℕ) → position ≤ last → least ≤ position + 1 → (nat_lt (position + 1) least || nat_lt last position) ≡ false
is_kept position least last within kept = by_tests (nat_lt (position + 1) least) (nat_lt last position) refl refl
  where
    by_tests : (a b : Bool) → nat_lt (position + 1) least ≡ a → nat_lt last position ≡ b → (a || b) ≡ false
    by_tests true b one two = absurd (grind (arith, nat_tests, one, kept))
    by_tests false true one two = absurd (grind (arith, nat_tests, two, within))
    by_tests false false one two = refl

pub puts_sessions : (list : List Frame) (now : ℕ) (s : actor.State) → (puts list now s).sessions ≡ s.sessions
puts_sessions [] now s = refl
puts_sessions (frame ∷ more) now s = refl

pub puts_waiting : (list : List Frame) (now : ℕ) (s : actor.State) → (puts list now s).waiting ≡ s.waiting ++ list
puts_waiting [] now s = sym (append-nil s.waiting)
puts_waiting (frame ∷ more) now s = refl

pub at_own : (name : List ℕ) (session : Session) (es : List (List ℕ × Session)) → at name (with_entry name session es) ≡ Some session
at_own name session es = at_with name name session es ∙ ap (λ (b : Bool). cond b (Some session) (at name es)) (self_bytes name)

module _ (world : World) (t : Transport) (h : IsServing world.channels t) (name : List ℕ) (session : Session) (stands : at name t.actor.sessions ≡ Some session) where
  abbrev Past : List ChannelEvent
  Past = history session.number world

  abbrev IsBehind : Bool
  IsBehind = nat_lt (session.position + 1) (first the_site Past) || nat_lt (head the_site Past) session.position

  abbrev Given : List Entry
  Given = take READ_ENTRIES (drop session.position (log the_site Past))

  own : IsSessionOf world.channels (name, session)
  own = all_found (IsSessionOf world.channels) name session t.actor.sessions h.of_actor.sessions stands

  given_is : (list : List Entry) → read_told session world ≡ Came list → Given ≡ list
  given_is list is = came_is IsBehind (first the_site Past) Given list is

  -- what the answer makes of the actor
  reads_so : (r : Reading) → read_told session world ≡ r → t.actor.ended ≡ None → after_read session world t.actor ≡ read_by name session r world.now t.actor
  reads_so r is free =
      ap (λ o. answered_at o (read_call session) (reply_to (read_call session) world) world.now t.actor) free
      ∙ ap (λ o. on_session (λ n one. read_by n one (reading (reply_to (read_call session) world)) world.now) o t.actor)
      (number_found world.channels name session t.actor.sessions h.of_actor.sessions own.numbered stands)
      ∙ ap (λ (x : Reading). read_by name session x world.now t.actor) is

  abbrev Frames : List Entry → List Frame
  Frames list = map (entry_frame name session.epoch) list ++ ends_here (moved_on (length list) session)

  abbrev Moved : List Entry → actor.State
  Moved list = record t.actor { sessions = with_entry name (ended_here (moved_on (length list) session)) t.actor.sessions }

  reads_on : (list : List Entry) → read_told session world ≡ Came list → IsReadOn world t.actor name session list
  reads_on list is = record {
    run = subst (IsRun the_site Past session.position) (given_is list is) (run_read the_site Past READ_ENTRIES session.position (drop session.position (log the_site Past)) refl);
    many =
        ap (λ (es : List Entry). length es) (sym (given_is list is))
        ∙ take_length READ_ENTRIES (drop session.position (log the_site Past))
        ∙ ap (λ (n : ℕ). min READ_ENTRIES n) (drop_length session.position (log the_site Past));
    moves = λ free.
        ap (λ (s : actor.State). at name s.sessions) (reads_so (Came list) is free)
        ∙ ap (at name) (puts_sessions (Frames list) world.now (Moved list))
        ∙ at_own name (ended_here (moved_on (length list) session)) t.actor.sessions;
    shows = λ free.
        ap (λ (s : actor.State). s.waiting) (reads_so (Came list) is free)
        ∙ puts_waiting (Frames list) world.now (Moved list)
        ∙ ap (λ (fs : List Frame). fs ++ Frames list) h.flushed
        ∙ ap (λ (n : ℕ). map (entry_frame name n) list ++ ends_here (moved_on (length list) session)) own.of_run;
  }

  left_so : (place : ℕ) → read_told session world ≡ Behind place → IsLeftBehind world t.actor session place
  left_so place is =
      let b = behind_is IsBehind (first the_site Past) place Given is in
      record {
        least = sym b.1;
        left = subst (λ (n : ℕ). session.position + 1 < n) b.1 (left_behind session.position (first the_site Past) (head the_site Past) own.within b.0);
        ends = λ free. ap (λ (s : actor.State). s.ended) (reads_so (Behind place) is free);
      }

  reads_runs : ReadsRuns world t.actor name session
  reads_runs = record {
    came = reads_on;
    behind = left_so;
    comes = λ kept. (Given, ap (λ (b : Bool). Says b (first the_site Past) Given) (is_kept session.position (first the_site Past) (head the_site Past) own.within kept));
    said = λ is. never_unread IsBehind (first the_site Past) Given is;
  }

all_read : (world : World) → AreServing world → AllReadRuns world
all_read world h = all_weaker (IsServing world.channels) _ (λ t is name session stands. reads_runs world t is name session stands) world.transports h

-- each read of a session is a run of its channel's log
pub reads_are_runs : ReadsAreRuns
reads_are_runs = runs_so AreServing AllReadRuns all_read actors_serve
