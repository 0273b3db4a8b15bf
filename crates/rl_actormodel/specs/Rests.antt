-- An actor at rest: no frame is there to be taken up.
use Rattle.std.specs.Prelude.{ℕ, ◌+◌, Bool, true, false, ◌&&◌, ◌||◌, nat_le, if◌then◌else◌, List, []}
use Rattle.rl_numbers.specs.declared.limits.TheConstants.{SESSION_IDLE, HEARTBEAT_INTERVAL}
use Rattle.rl_types.specs.declared.frames.Frame.TheVariants as frames
use Rattle.rl_events.specs.declared.calls.End.TheVariants as ends
use Rattle.rl_actormodel.specs.State.{State, put, is_free}
use Rattle.rl_actormodel.specs.Ends.{ended_by}

-- nothing is there
abbrev pub is_empty : {A : Type 0} → List A → Bool
is_empty [] = true
is_empty items = false

-- no channel has a session, and no frame came for too long. (This project's own.)
abbrev pub is_idle : ℕ → State → Bool
is_idle now s = is_empty s.sessions && nat_le (s.last_in + SESSION_IDLE) now

-- no frame waits, and none was put out for too long (RTN23)
abbrev pub is_quiet : ℕ → State → Bool
is_quiet now s = is_empty s.waiting && nat_le (s.last_out + HEARTBEAT_INTERVAL) now

-- something is done at rest: the actor ends, or a HEARTBEAT is put out. (This project's own.)
abbrev pub does_rest : ℕ → State → Bool
does_rest now s = is_free s && (is_idle now s || is_quiet now s)

-- an idle actor ends; a quiet one shows that it is there (RTN23)
abbrev pub rest_free : ℕ → State → State
rest_free now s = if is_idle now s then ended_by (ends.Idle s.last_in now) s else if is_quiet now s then put frames.Heartbeat now s else s

-- one that is ended, or wants a call, does nothing. (This project's own.)
abbrev pub rested : ℕ → State → State
rested now s = if is_free s then rest_free now s else s
