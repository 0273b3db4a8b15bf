-- The state table of a connection (RTN4).
use Rattle.std.specs.Prelude.{Bool, true, false, ◌&&◌, not}
use Rattle.rl_types.specs.declared.states.ConnState.{ConnState}
use Rattle.rl_types.specs.declared.states.ConnState.TheVariants as conn
use Rattle.rl_connsm.specs.declared.table.ConnEvent.{ConnEvent}
use Rattle.rl_connsm.specs.declared.table.ConnEvent.TheVariants as event

-- the state after an event; the second argument is whether the client last connected from SUSPENDED
abbrev pub conn_table : ConnState → Bool → ConnEvent → ConnState
-- the client connects (RTN11); that it may not in CLOSING is this project's own
conn_table conn.Initialized from_suspended event.Connect = conn.Connecting
conn_table conn.Disconnected from_suspended event.Connect = conn.Connecting
conn_table conn.Suspended from_suspended event.Connect = conn.Connecting
conn_table conn.Closed from_suspended event.Connect = conn.Connecting
conn_table conn.Failed from_suspended event.Connect = conn.Connecting
-- the service says that the connection stands (RTN4)
conn_table conn.Connecting from_suspended event.Connected = conn.Connected
-- there is no connecting (RTN14d): where the client came from SUSPENDED it is SUSPENDED again (RTN14f)
conn_table conn.Connecting false event.Down = conn.Disconnected
conn_table conn.Connecting false event.Disconnected = conn.Disconnected
conn_table conn.Connecting true event.Down = conn.Suspended
conn_table conn.Connecting true event.Disconnected = conn.Suspended
-- the connection is lost (RTN15a, RTN15h)
conn_table conn.Connected from_suspended event.Down = conn.Disconnected
conn_table conn.Connected from_suspended event.Disconnected = conn.Disconnected
-- the service ends it with an error (RTN14g, RTN15i)
conn_table conn.Connecting from_suspended event.Fatal = conn.Failed
conn_table conn.Connected from_suspended event.Fatal = conn.Failed
-- the service no longer keeps it (RTN14e)
conn_table conn.Disconnected from_suspended event.Ttl = conn.Suspended
conn_table conn.Connecting from_suspended event.Ttl = conn.Suspended
-- the client closes it (RTN12a); where there is none to close, at once (RTN12d; this project's own elsewhere)
conn_table conn.Connected from_suspended event.CloseAsked = conn.Closing
conn_table conn.Initialized from_suspended event.CloseAsked = conn.Closed
conn_table conn.Connecting from_suspended event.CloseAsked = conn.Closed
conn_table conn.Disconnected from_suspended event.CloseAsked = conn.Closed
conn_table conn.Suspended from_suspended event.CloseAsked = conn.Closed
-- the service closed it (RTN12a), or the link is gone (RTN12c)
conn_table conn.Closing from_suspended event.ClosedGot = conn.Closed
conn_table conn.Closing from_suspended event.Down = conn.Closed
-- the client dies (this project's own)
conn_table conn.Failed from_suspended event.Died = conn.Failed
conn_table state from_suspended event.Died = conn.Closed
-- everything else leaves the state
conn_table state from_suspended event = state

-- the states in which a client may connect (RTN11)
abbrev pub may_connect : ConnState → Bool
may_connect conn.Connecting = false
may_connect conn.Connected = false
may_connect conn.Closing = false
may_connect state = true

-- whether a client that connects comes from SUSPENDED
abbrev pub is_suspended : ConnState → Bool
is_suspended conn.Suspended = true
is_suspended state = false

-- whether the client last connected from SUSPENDED, after an event: each time it connects this is set anew
abbrev pub from_suspended_after : ConnState → Bool → ConnEvent → Bool
from_suspended_after conn.Connecting from_suspended event.Connect = from_suspended
from_suspended_after conn.Connected from_suspended event.Connect = from_suspended
from_suspended_after conn.Closing from_suspended event.Connect = from_suspended
from_suspended_after state from_suspended event.Connect = is_suspended state
from_suspended_after state from_suspended event = from_suspended

abbrev pub is_connecting_or_connected : ConnState → Bool
is_connecting_or_connected conn.Connecting = true
is_connecting_or_connected conn.Connected = true
is_connecting_or_connected state = false

-- the states into which the link of a connection goes along
abbrev pub keeps_link : ConnState → Bool
keeps_link conn.Connecting = true
keeps_link conn.Connected = true
keeps_link conn.Closing = true
keeps_link state = false

-- leaving CONNECTING or CONNECTED for a state other than these two and CLOSING drops the link
abbrev pub drops_link : ConnState → ConnState → Bool
drops_link before after = is_connecting_or_connected before && not (keeps_link after)
