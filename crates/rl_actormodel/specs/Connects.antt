-- The connection: how it begins, comes back, is lost to the actor, and is closed.
use Rattle.std.specs.Prelude.{ℕ, Bool, true, false, List, Option, Some, None}
use Rattle.rl_numbers.specs.declared.limits.TheConstants.{CONNECTION_STATE_TTL, MAX_IDLE_INTERVAL, MAX_MESSAGE_SIZE}
use Rattle.rl_numbers.specs.declared.codes.TheConstants.{KEY_UNKNOWN}
use Rattle.rl_ids.specs.Forms.{conn_text}
use Rattle.rl_types.specs.declared.frames.Frame.TheVariants as frames
use Rattle.rl_events.specs.declared.calls.End.TheVariants as ends
use Rattle.rl_actormodel.specs.declared.parts.Holder.{Holder}
use Rattle.rl_actormodel.specs.declared.parts.Wish.TheVariants as wishes
use Rattle.rl_actormodel.specs.State.{State, put}
use Rattle.rl_actormodel.specs.Ends.{ended_by}
use Rattle.rl_actormodel.specs.Replies.{Standing, Passed, Gone, Holds, Unsaid, Opening, Opens, Limited, Unopened, Resuming, Back, NotKnown, Unresumed}

-- CONNECTED says that a key was brought which is not known (RTN15c7; the code is this project's own)
abbrev pub unknown_code : Bool → Option ℕ
unknown_code true = Some KEY_UNKNOWN
unknown_code false = None

-- CONNECTED, with the connection's id and key and the limits (RTN4, RTN8, RTN9, CD2)
abbrev pub connected : Holder → List ℕ → ℕ → State → State
connected holder key now s =
    put (frames.Connected (conn_text holder.conn) key CONNECTION_STATE_TTL MAX_IDLE_INTERVAL MAX_MESSAGE_SIZE (unknown_code s.unknown)) now
    (record s { wish = wishes.Nothing; holder = Some holder })

-- the connection came back under its key; else a new one is asked for (RTN15c)
abbrev pub resumed_by : List ℕ → Resuming → ℕ → State → State
resumed_by key (Back holder) now s = connected holder key now s
resumed_by key NotKnown now s = record s { wish = wishes.Open; unknown = true }
resumed_by key Unresumed now s = s

-- a connection was opened, or there are too many (RTN4; the limit is this project's own)
abbrev pub opened_by : Opening → ℕ → State → State
opened_by (Opens holder key) now s = connected holder key now s
opened_by (Limited count given) now s = ended_by (ends.ConnectionLimit count given) s
opened_by Unopened now s = s

-- an actor whose connection is no longer its own ends; else it goes on. (This project's own.)
abbrev pub if_held : Holder → Standing → (State → State) → State → State
if_held holder (Passed newer) next s = ended_by (ends.Superseded holder.generation newer) s
if_held holder Gone next s = ended_by ends.Forgotten s
if_held holder Holds next s = next s
if_held holder Unsaid next s = s

-- the connection is closed: CLOSED is put out, and the actor ends (RTN12a)
abbrev pub closed : ℕ → State → State
closed now s = ended_by ends.Closed (put frames.Closed now s)
