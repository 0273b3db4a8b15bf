-- What the state of a connection says beside its table: which commands it refuses, which frames count in it, what
-- is held, and what a step between two states begins and ends (RTN).
use Rattle.std.specs.Prelude.{Bool, true, false, not, ◌&&◌, if◌then◌else◌, Option, Some, None}
use Rattle.rl_types.specs.declared.states.ConnState.{ConnState}
use Rattle.rl_types.specs.declared.states.ConnState.TheVariants as conn
use Rattle.rl_connsm.specs.declared.table.ConnEvent.{ConnEvent}
use Rattle.rl_connsm.specs.declared.table.ConnEvent.TheVariants as event
use Rattle.rl_connsm.specs.Table.{drops_link, may_connect}

-- COMMANDS, EACH WITH THE STATE WITH WHICH IT IS REFUSED

-- the states in which nothing is attached and nothing is taken that is to be acknowledged
abbrev pub is_down : ConnState → Bool
is_down conn.Suspended = true
is_down conn.Closing = true
is_down conn.Closed = true
is_down conn.Failed = true
is_down state = false

-- Connect (RTN11); where it may not, this is this project's own
abbrev pub connect_refused : ConnState → Option ConnState
connect_refused state = if may_connect state then None else Some state

-- Attach (RTL4b)
abbrev pub attach_refused : ConnState → Option ConnState
attach_refused state = if is_down state then Some state else None

-- what needs acknowledgement: publishing, presence and operations on objects (RTL6c4)
abbrev pub enqueue_refused : ConnState → Option ConnState
enqueue_refused state = if is_down state then Some state else None

-- Close is never refused (RTN12); in the states that are false it changes nothing
abbrev pub closes : ConnState → Bool
closes conn.Closing = false
closes conn.Closed = false
closes conn.Failed = false
closes state = true

-- a client goes on where another one stood only where it has not connected yet (RTN16)
abbrev pub may_recover : ConnState → Bool
may_recover conn.Initialized = true
may_recover state = false

-- FRAMES

-- the state in which frames are sent at once
abbrev pub is_connected : ConnState → Bool
is_connected conn.Connected = true
is_connected state = false

-- the state in which a CONNECTED frame counts (RTN4); in others it changes nothing
abbrev pub awaits_connected : ConnState → Bool
awaits_connected conn.Connecting = true
awaits_connected state = false

-- the states in which an ACK or NACK counts (RTN7a); in others it changes nothing
abbrev pub takes_acknowledgements : ConnState → Bool
takes_acknowledgements conn.Connected = true
takes_acknowledgements conn.Closing = true
takes_acknowledgements state = false

-- WHAT IS HELD

-- the states in which no connection is held: its id and key are forgotten (RTN8c, RTN9c), the frames that await
-- acknowledgement are dropped and the next serial is 0 (RTN7e)
abbrev pub forgets_connection : ConnState → Bool
forgets_connection conn.Suspended = true
forgets_connection conn.Closed = true
forgets_connection conn.Failed = true
forgets_connection state = false

-- the states from which a client that connects brings the key that it holds (RTN15b); in INITIALIZED it holds one
-- where it recovers (RTN16k)
abbrev pub brings_key : ConnState → Bool
brings_key conn.Initialized = true
brings_key conn.Disconnected = true
brings_key state = false

-- another client can go on with a key that is held (RTN16), but not where the client closes
abbrev pub gives_recovery_key : ConnState → Bool
gives_recovery_key conn.Closing = false
gives_recovery_key state = true

-- BETWEEN TWO STATES

-- a new link, on which no answer is owed
abbrev pub opens_link : ConnState → ConnState → Bool
opens_link before after = not (awaits_connected before) && awaits_connected after

-- the link is gone: because of the event, or because the step drops it
abbrev pub loses_link : ConnEvent → ConnState → ConnState → Bool
loses_link event.Down before after = true
loses_link one before after = drops_link before after

-- from this moment on the service keeps the connection for a while
abbrev pub leaves_connected : ConnState → ConnState → Bool
leaves_connected before after = is_connected before && not (is_connected after)

-- TIME

-- the states in which the client gives the connection up once the service keeps it no longer (RTN14e)
abbrev pub awaits_ttl : ConnState → Bool
awaits_ttl conn.Connecting = true
awaits_ttl conn.Disconnected = true
awaits_ttl state = false

-- a Connect from these states begins the time anew after which the connection is given up
abbrev pub restarts_ttl : ConnState → Bool
restarts_ttl conn.Disconnected = false
restarts_ttl state = may_connect state
