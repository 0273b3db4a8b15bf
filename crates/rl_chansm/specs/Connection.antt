-- What a step of the connection is for its channels (RTL3).
use Rattle.std.specs.Prelude.{Bool, true, false, Option, Some, None}
use Rattle.rl_types.specs.declared.states.ConnState.{ConnState}
use Rattle.rl_types.specs.declared.states.ConnState.TheVariants as conn
use Rattle.rl_types.specs.declared.states.ChanState.{ChanState}
use Rattle.rl_chansm.specs.declared.table.ChanEvent.{ChanEvent}
use Rattle.rl_chansm.specs.declared.table.ChanEvent.TheVariants as event
use Rattle.rl_chansm.specs.Table.{chan_table}

-- the event that the connection's new state is for each channel
abbrev pub event_of : ConnState → ConnState → Option ChanEvent
-- the connection stands (RTL3d)
event_of conn.Connecting conn.Connected = Some event.ConnUp
-- it is as before
event_of conn.Suspended conn.Suspended = None
event_of conn.Closed conn.Closed = None
event_of conn.Failed conn.Failed = None
-- it is given up (RTL3c, RTL3b, RTL3a)
event_of before conn.Suspended = Some event.ConnSuspended
event_of before conn.Closed = Some event.ConnClosed
event_of before conn.Failed = Some event.ConnFailed
-- everything else is nothing to a channel
event_of before after = None

-- the state of a channel that is told what became of the connection
abbrev pub after_event : Option ChanEvent → ChanState → ChanState
after_event None state = state
after_event (Some event) state = chan_table state event

-- the state of a channel whose link is gone or not
abbrev pub after_link : Bool → ChanState → ChanState
after_link false state = state
after_link true state = chan_table state event.LinkDown

-- the state after a step of the connection that loses the link or not. What became of the connection is told first:
-- a channel that is detaching fails with its connection
abbrev pub after_connection : Bool → ConnState → ConnState → ChanState → ChanState
after_connection unlinked before after state = after_link unlinked (after_event (event_of before after) state)
