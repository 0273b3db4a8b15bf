-- The state table of a channel as a client sees it (RTL2).
use Rattle.std.specs.Prelude.{true, false}
use Rattle.rl_types.specs.declared.states.ChanState.{ChanState}
use Rattle.rl_types.specs.declared.states.ChanState.TheVariants as chan
use Rattle.rl_chansm.specs.declared.table.ChanEvent.{ChanEvent}
use Rattle.rl_chansm.specs.declared.table.ChanEvent.TheVariants as event

-- the state after an event
abbrev pub chan_table : ChanState → ChanEvent → ChanState
-- the client attaches (RTL4)
chan_table chan.Initialized event.AttachAsked = chan.Attaching
chan_table chan.Detached event.AttachAsked = chan.Attaching
chan_table chan.Suspended event.AttachAsked = chan.Attaching
chan_table chan.Failed event.AttachAsked = chan.Attaching
chan_table chan.Detaching event.AttachAsked = chan.Attaching
-- the client detaches: where it is connected the service is asked (RTL5d), else it is done (RTL5l)
chan_table chan.Attaching (event.DetachAsked true) = chan.Detaching
chan_table chan.Attached (event.DetachAsked true) = chan.Detaching
chan_table chan.Attaching (event.DetachAsked false) = chan.Detached
chan_table chan.Attached (event.DetachAsked false) = chan.Detached
-- a suspended channel is detached at once (RTL5j)
chan_table chan.Suspended (event.DetachAsked connected) = chan.Detached
-- the service answers (RTL4c, RTL5d)
chan_table chan.Attaching event.AttachedTaken = chan.Attached
chan_table chan.Detaching event.DetachedTaken = chan.Detached
-- the service ends the channel with an error (RTL14)
chan_table chan.Attaching event.ErrorTaken = chan.Failed
chan_table chan.Attached event.ErrorTaken = chan.Failed
chan_table chan.Detaching event.ErrorTaken = chan.Failed
-- the service detached the channel unasked: the client attaches again (RTL13a)
chan_table chan.Attached event.DetachedUnasked = chan.Attaching
-- the connection stands again: the client attaches again (RTL3d, RTN15c6, RTN15c7)
chan_table chan.Attaching event.ConnUp = chan.Attaching
chan_table chan.Attached event.ConnUp = chan.Attaching
chan_table chan.Suspended event.ConnUp = chan.Attaching
-- the link is gone, and with it the answer to the DETACH (this project's own)
chan_table chan.Detaching event.LinkDown = chan.Detached
-- the service does not answer the ATTACH (RTL4f)
chan_table chan.Attaching event.Timeout = chan.Suspended
-- the connection is suspended (RTL3c), closed (RTL3b) or failed (RTL3a)
chan_table chan.Attaching event.ConnSuspended = chan.Suspended
chan_table chan.Attached event.ConnSuspended = chan.Suspended
chan_table chan.Attaching event.ConnClosed = chan.Detached
chan_table chan.Attached event.ConnClosed = chan.Detached
chan_table chan.Detaching event.ConnClosed = chan.Detached
chan_table chan.Suspended event.ConnClosed = chan.Detached
chan_table chan.Attaching event.ConnFailed = chan.Failed
chan_table chan.Attached event.ConnFailed = chan.Failed
chan_table chan.Detaching event.ConnFailed = chan.Failed
chan_table chan.Suspended event.ConnFailed = chan.Failed
-- everything else leaves the state
chan_table state event = state
