-- What a client does with a command, and when it refuses one.
use Rattle.std.specs.Prelude.{ℕ, Bool, true, false, if◌then◌else◌, List, [], ◌∷◌, length, map, Option, Some, None}
use Rattle.rl_types.specs.declared.frames.Frame.{Frame}
use Rattle.rl_types.specs.declared.frames.Frame.TheVariants as frames
use Rattle.rl_types.specs.declared.frames.Head.{Head}
use Rattle.rl_types.specs.declared.objects.Op.{Op}
use Rattle.rl_types.specs.declared.objects.ObjectOp.{ObjectOp}
use Rattle.rl_types.specs.declared.presence.PresenceAction.{PresenceAction}
use Rattle.rl_types.specs.declared.presence.PresenceAction.TheVariants as presence
use Rattle.rl_types.specs.declared.presence.PresenceItem.{PresenceItem}
use Rattle.rl_types.specs.declared.states.ConnState.{ConnState}
use Rattle.rl_types.specs.declared.states.ChanState.{ChanState}
use Rattle.rl_types.specs.declared.states.ChanState.TheVariants as chan
use Rattle.rl_runs.specs.declared.commands.Command.{Command}
use Rattle.rl_runs.specs.declared.commands.Command.TheVariants.{Connect, Close, Die, Attach, AttachAt, Detach, Publish, Enter, Update, Leave, Operate}
use Rattle.rl_runs.specs.declared.commands.Hello.{Hello}
use Rattle.rl_runs.specs.declared.commands.Stands.{Stands}
use Rattle.rl_runs.specs.declared.commands.Stands.TheVariants as stands
use Rattle.rl_connsm.specs.Rules.{attach_refused, connect_refused, enqueue_refused, is_connected}
use Rattle.rl_connsm.specs.declared.table.ConnEvent.TheVariants as events
use Rattle.rl_chansm.specs.declared.table.ChanEvent.TheVariants as channel_events
use Rattle.rl_chansm.specs.Rules.{attach_at_refused, detach_refused, operate_refused, presence_refused, publish_refused}
use Rattle.rl_ackq.specs.Frames.{with_serial}
use Rattle.rl_ackq.specs.Queue.{Queue, is_full, pushed}
use Rattle.rl_clientmodel.specs.declared.steps.ChannelStep.{ChannelStep}
use Rattle.rl_clientmodel.specs.declared.steps.ChannelStep.TheVariants.{Moves}
use Rattle.rl_names.specs.Names.{at, with_entry, without}
use Rattle.rl_clientmodel.specs.Channels.{ClientChannel, channel_from, new_channel}
use Rattle.rl_clientmodel.specs.States.{ClientState, Turn, quietly, sending, change_channel, conn_moved, moving, step_channel, stepped}

-- REFUSALS

pub data Refusal : Type 0 where
  WrongState : (stands : Stands) → Refusal
  Full : (pending : ℕ) → Refusal

-- a refusal, or else the next rule's
abbrev pub or_refusal : Option Refusal → Option Refusal → Option Refusal
or_refusal None next = next
or_refusal (Some refusal) next = Some refusal

-- the state of the connection refuses it
abbrev pub by_connection : Option ConnState → Option Refusal
by_connection None = None
by_connection (Some state) = Some (WrongState (stands.Conn state))

-- the state of the channel does
abbrev pub by_channel : Option ChanState → Option Refusal
by_channel None = None
by_channel (Some state) = Some (WrongState (stands.Chan state))

-- the state of a channel, where it is known
abbrev pub known_state : Option ClientChannel → Option ChanState
known_state None = None
known_state (Some channel) = Some channel.state

-- a channel that is not known is INITIALIZED
abbrev pub state_of : Option ClientChannel → ChanState
state_of None = chan.Initialized
state_of (Some channel) = channel.state

abbrev pub state_at : List ℕ → ClientState → ChanState
state_at name state = state_of (at name state.channels)

-- as many frames are pending as may be, or there is no serial left
abbrev pub by_queue : Queue → Option Refusal
by_queue queue = if is_full queue then Some (Full (length queue.pending)) else None

-- what needs acknowledgement: the connection's state, then the channel's, then the queue
abbrev pub enqueues : Option ChanState → ClientState → Option Refusal
enqueues refused state = or_refusal (by_connection (enqueue_refused state.conn)) (or_refusal (by_channel refused) (by_queue state.queue))

-- why a command is refused, where it is. The connection's state is tested first
abbrev pub refusal : Command → ClientState → Option Refusal
refusal Connect state = by_connection (connect_refused state.conn)
refusal Close state = None
refusal Die state = None
refusal (Attach name) state = by_connection (attach_refused state.conn)
refusal (AttachAt name serial) state =
    or_refusal (by_connection (attach_refused state.conn)) (by_channel (attach_at_refused (known_state (at name state.channels))))
refusal (Detach name) state = by_channel (detach_refused (state_at name state))
refusal (Publish name items) state = enqueues (publish_refused (state_at name state)) state
refusal (Enter name client payload) state = enqueues (presence_refused (state_at name state)) state
refusal (Update name client payload) state = enqueues (presence_refused (state_at name state)) state
refusal (Leave name client) state = enqueues (presence_refused (state_at name state)) state
refusal (Operate name ops) state = enqueues (operate_refused (state_at name state)) state

-- CONNECTING (RTN11, RTN15b)

-- what a client brings when it connects: the key where it holds one
abbrev pub hello_of : ClientState → ℕ → Hello
hello_of state word = record { client = Some state.name; resume = state.key; word = word }

abbrev pub if_connected : ConnState → Frame → List Frame
if_connected state frame = if is_connected state then frame ∷ [] else []

-- ATTACHING (RTL4), DETACHING (RTL5)

abbrev pub attach_step : ℕ → ClientState → ChannelStep
attach_step now state = Moves channel_events.AttachAsked (is_connected state.conn) now

abbrev pub detach_step : ℕ → ClientState → ChannelStep
detach_step now state = Moves (channel_events.DetachAsked (is_connected state.conn)) (is_connected state.conn) now

-- a channel, or a new one
abbrev pub channel_or_new : Option ClientChannel → ClientChannel
channel_or_new None = new_channel
channel_or_new (Some channel) = channel

-- WHAT NEEDS ACKNOWLEDGEMENT (RTL6, RTP8, RTP9, RTP10, RTO15)

-- the head of what a client sends
abbrev pub head_on : List ℕ → Head
head_on name = record { channel = name; msg = None; serial = None; conn = None; id = None; stamp = None }

-- a frame gets the next serial, and is sent at once where the client is connected
abbrev pub enqueued : Frame → ClientState → Turn
enqueued frame state =
    sending (if_connected state.conn (with_serial state.queue.next frame)) (record state { queue = pushed frame state.queue })

-- an item by which a client acts for a member: the service gives its id, connection and moment
abbrev pub item_by : PresenceAction → List ℕ → Option (List ℕ) → PresenceItem
item_by action client payload =
    record { action = action; client = client; conn = []; id = []; stamp = 0; payload = payload; encoding = None }

abbrev pub presence_frame : PresenceAction → List ℕ → List ℕ → Option (List ℕ) → Frame
presence_frame action name client payload = frames.Presence (head_on name) (item_by action client payload ∷ [])

-- an own member, with its data
abbrev pub with_own : List ℕ → List ℕ → ClientChannel → ClientChannel
with_own client payload channel = record channel { own = with_entry client payload channel.own }

abbrev pub without_own : List ℕ → ClientChannel → ClientChannel
without_own client channel = record channel { own = without client channel.own }

-- operations as they are sent: the service gives their serials
abbrev pub unnumbered : Op → ObjectOp
unnumbered op = record { op = op; serial = None }

-- COMMANDS

abbrev pub obeyed : Command → ℕ → ClientState → Turn
obeyed Connect now state = moving [] events.Connect now state
obeyed Close now state = moving (if_connected state.conn frames.Close) events.CloseAsked now state
obeyed Die now state = moving [] events.Died now state
obeyed (Attach name) now state = stepped (attach_step now state) name (Some (channel_or_new (at name state.channels))) state
obeyed (AttachAt name serial) now state = stepped (attach_step now state) name (Some (channel_from serial)) state
obeyed (Detach name) now state = step_channel (detach_step now state) name state
obeyed (Publish name items) now state = enqueued (frames.Message (head_on name) items) state
obeyed (Enter name client payload) now state =
    enqueued (presence_frame presence.Enter name client (Some payload)) (change_channel name (with_own client payload) state)
obeyed (Update name client payload) now state =
    enqueued (presence_frame presence.Update name client (Some payload)) (change_channel name (with_own client payload) state)
obeyed (Leave name client) now state =
    enqueued (presence_frame presence.Leave name client None) (change_channel name (without_own client) state)
obeyed (Operate name ops) now state = enqueued (frames.Object (head_on name) (map unnumbered ops)) state

abbrev pub obeyed_unless : Option Refusal → Command → ℕ → ClientState → Turn
obeyed_unless None command now state = obeyed command now state
obeyed_unless (Some refusal) command now state = quietly state

-- a command that is refused changes nothing
abbrev pub acted : Command → ℕ → ClientState → Turn
acted command now state = obeyed_unless (refusal command state) command now state
