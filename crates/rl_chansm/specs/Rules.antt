-- What the state of a channel says beside its table: which commands it refuses, when a frame is sent, which answer is
-- awaited, and what is held (RTL).
use Rattle.std.specs.Prelude.{Bool, true, false, not, ◌&&◌, if◌then◌else◌, Option, Some, None}
use Rattle.rl_types.specs.declared.states.ChanState.{ChanState}
use Rattle.rl_types.specs.declared.states.ChanState.TheVariants as chan
use Rattle.rl_chansm.specs.declared.table.ChanEvent.{ChanEvent}
use Rattle.rl_chansm.specs.declared.table.ChanEvent.TheVariants as event

-- COMMANDS, EACH WITH THE STATE WITH WHICH IT IS REFUSED. A channel that is not known is INITIALIZED

-- the channel's state, where it is one of these
abbrev pub refused_in : (ChanState → Bool) → ChanState → Option ChanState
refused_in test state = if test state then Some state else None

-- AttachAt is refused where the channel is known, with its state (this project's own)
abbrev pub attach_at_refused : Option ChanState → Option ChanState
attach_at_refused None = None
attach_at_refused (Some state) = Some state

abbrev pub is_failed : ChanState → Bool
is_failed chan.Failed = true
is_failed state = false

-- Detach (RTL5b)
abbrev pub detach_refused : ChanState → Option ChanState
detach_refused = refused_in is_failed

abbrev pub is_suspended_or_failed : ChanState → Bool
is_suspended_or_failed chan.Suspended = true
is_suspended_or_failed chan.Failed = true
is_suspended_or_failed state = false

-- publishing (RTL6c4): it needs no attachment
abbrev pub publish_refused : ChanState → Option ChanState
publish_refused = refused_in is_suspended_or_failed

abbrev pub takes_no_operations : ChanState → Bool
takes_no_operations chan.Detached = true
takes_no_operations chan.Suspended = true
takes_no_operations chan.Failed = true
takes_no_operations state = false

-- operations on objects: they need no attachment either
abbrev pub operate_refused : ChanState → Option ChanState
operate_refused = refused_in takes_no_operations

abbrev pub is_attached : ChanState → Bool
is_attached chan.Attached = true
is_attached state = false

-- to enter, to update and to leave needs attachment
abbrev pub presence_refused : ChanState → Option ChanState
presence_refused = refused_in (λ state. not (is_attached state))

-- Attach changes something: not in ATTACHING, nor in ATTACHED (RTL4a, RTL4h)
abbrev pub attaches : ChanState → Bool
attaches chan.Attaching = false
attaches chan.Attached = false
attaches state = true

-- Detach changes something: not in INITIALIZED and DETACHED (RTL5a), nor in DETACHING (RTL5i)
abbrev pub detaches : ChanState → Bool
detaches chan.Attaching = true
detaches chan.Attached = true
detaches chan.Suspended = true
detaches state = false

-- FRAMES SENT. With each one answer more is owed

-- the channel attaches again once the connection stands (RTL3d, RTN15c6, RTN15c7)
abbrev pub comes_up : ChanState → Bool
comes_up chan.Attaching = true
comes_up chan.Attached = true
comes_up chan.Suspended = true
comes_up state = false

abbrev pub is_attaching_or_attached : ChanState → Bool
is_attaching_or_attached chan.Attaching = true
is_attaching_or_attached chan.Attached = true
is_attaching_or_attached state = false

-- an ATTACH is sent with this event, where the connection is CONNECTED or not
abbrev pub sends_attach : Bool → ChanState → ChanEvent → Bool
sends_attach connected state event.AttachAsked = connected && attaches state
sends_attach connected state event.DetachedUnasked = connected && is_attached state
sends_attach connected state event.ConnUp = comes_up state
sends_attach connected state one = false

-- a DETACH is sent with this event
abbrev pub sends_detach : ChanState → ChanEvent → Bool
sends_detach state (event.DetachAsked connected) = connected && is_attaching_or_attached state
sends_detach state one = false

-- WHAT IS HELD

-- the states in which no serial is held (RTL15b1)
abbrev pub forgets_serial : ChanState → Bool
forgets_serial chan.Detached = true
forgets_serial chan.Suspended = true
forgets_serial chan.Failed = true
forgets_serial state = false

-- the states in which there are no members (RTP5a), own ones included, and no objects
abbrev pub clears_channel : ChanState → Bool
clears_channel chan.Detached = true
clears_channel chan.Failed = true
clears_channel state = false
