-- What follows for the sessions of each actor: by what they are found, and what their reads give. (This project's own.)
use Rattle.std.specs.Prelude.{◌≡◌, ◌≢◌, ℕ, ◌+◌, ◌-◌, ◌<◌, ◌≤◌, min, List, ◌++◌, length, map, Some, None}
use Rattle.std.specs.List.{AllByRecursion}
use Rattle.rl_numbers.specs.declared.limits.TheConstants.{READ_ENTRIES}
use Rattle.rl_types.specs.declared.messages.Entry.{Entry}
use Rattle.rl_events.specs.declared.channel.ChannelEvent.TheVariants.{Read}
use Rattle.rl_events.specs.declared.calls.End.TheVariants.{Lagged}
use Rattle.rl_events.specs.declared.calls.Call.{Call}
use Rattle.rl_events.specs.declared.calls.Call.TheVariants.{Chan}
use Rattle.rl_names.specs.Names.{at}
use Rattle.rl_model.specs.Verdict.{head}
use Rattle.rl_model.specs.Window.{first}
use Rattle.rl_actormodel.specs.declared.parts.Session.{Session}
use Rattle.rl_actormodel.specs.State as actor
use Rattle.rl_actormodel.specs.Replies.{Reading, Came, Behind, Unread, reading}
use Rattle.rl_actormodel.specs.Pagings.{ends_here, ended_here}
use Rattle.rl_actormodel.specs.Reads.{absorbed, entry_frame, moved_on}
use Rattle.rl_worldmodel.specs.World.{World, Transport, the_epoch, the_site, history}
use Rattle.rl_worldmodel.specs.Calls.{reply_to}
use Rattle.rl_worldtold.specs.Runs.{HoldsOfRuns}
use Rattle.rl_worldsessions.specs.Logs.{IsRun}

-- BY NUMBER

-- a session is found by a number exactly where it stands under its channel's name and has that number
pub record FindsByNumber (s : actor.State) : Type 0 where
  pub found : (name : List ℕ) (session : Session) (number : ℕ) → at name s.sessions ≡ Some session → session.number ≡ number → actor.numbered number s.sessions ≡ Some (name, session)
  pub stands : (name : List ℕ) (session : Session) (number : ℕ) → actor.numbered number s.sessions ≡ Some (name, session) → (at name s.sessions ≡ Some session) × (session.number ≡ number)

-- so in each actor of every run
abbrev pub SessionsAreFoundByNumber : Type 0
SessionsAreFoundByNumber = HoldsOfRuns (λ world. AllByRecursion (λ (t : Transport). FindsByNumber t.actor) world.transports)

-- READS

-- the read of a session, as it is polled
abbrev pub read_call : Session → Call
read_call session = Chan session.number (Read session.position READ_ENTRIES)

-- what it is answered
abbrev pub read_told : Session → World → Reading
read_told session world = reading (reply_to (read_call session) world)

-- the actor once the answer is absorbed
abbrev pub after_read : Session → World → actor.State → actor.State
after_read session world s = absorbed (read_call session) (reply_to (read_call session) world) world.now s

-- entries came: they follow the session's position one after another as the log has them, as many as there are up to a read's
-- most; the session then stands at the last of them, and each is put out as one frame of the run's epoch, with the end pages
-- behind them where the sync may end there
pub record IsReadOn (world : World) (s : actor.State) (name : List ℕ) (session : Session) (list : List Entry) : Type 0 where
  pub run : IsRun the_site (history session.number world) session.position list
  pub many : length list ≡ min READ_ENTRIES (head the_site (history session.number world) - session.position)
  pub moves : s.ended ≡ None → at name (after_read session world s).sessions ≡ Some (ended_here (moved_on (length list) session))
  pub shows : s.ended ≡ None → (after_read session world s).waiting ≡ map (entry_frame name the_epoch) list ++ ends_here (moved_on (length list) session)

-- no entries came: the window has left behind what follows the session's position, and the actor ends
pub record IsLeftBehind (world : World) (s : actor.State) (session : Session) (place : ℕ) : Type 0 where
  pub least : place ≡ first the_site (history session.number world)
  pub left : session.position + 1 < place
  pub ends : s.ended ≡ None → (after_read session world s).ended ≡ Some (Lagged session.position place)

-- the read of a session goes on from its position, exactly where the window still has what follows
pub record ReadsRuns (world : World) (s : actor.State) (name : List ℕ) (session : Session) : Type 0 where
  pub came : (list : List Entry) → read_told session world ≡ Came list → IsReadOn world s name session list
  pub behind : (place : ℕ) → read_told session world ≡ Behind place → IsLeftBehind world s session place
  pub comes : first the_site (history session.number world) ≤ session.position + 1 → (list : List Entry) × (read_told session world ≡ Came list)
  pub said : read_told session world ≢ Unread

-- each session of each actor reads so
abbrev pub AllReadRuns : World → Type 0
AllReadRuns world =
    AllByRecursion (λ (t : Transport). (name : List ℕ) (session : Session) → at name t.actor.sessions ≡ Some session → ReadsRuns world t.actor name session) world.transports

-- so each read of each session of every run
abbrev pub ReadsAreRuns : Type 0
ReadsAreRuns = HoldsOfRuns AllReadRuns
