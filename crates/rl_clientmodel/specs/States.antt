-- What a client keeps, and what moves its connection (RTN).
use Rattle.std.specs.Prelude.{ℕ, ◌+◌, ◌^◌, ◌-◌, min, Bool, true, false, if◌then◌else◌, List, [], length, map, flat_map, Option, Some, None}
use Rattle.rl_types.specs.declared.frames.Frame.{Frame}
use Rattle.rl_types.specs.declared.states.ConnState.{ConnState}
use Rattle.rl_types.specs.declared.states.ConnState.TheVariants as conn
use Rattle.rl_runs.specs.declared.commands.Output.{Output}
use Rattle.rl_runs.specs.declared.findings.Answer.{Answer}
use Rattle.rl_connsm.specs.Table.{conn_table, drops_link, from_suspended_after}
use Rattle.rl_connsm.specs.Rules.{forgets_connection, leaves_connected, loses_link, opens_link, restarts_ttl}
use Rattle.rl_connsm.specs.declared.table.ConnEvent.{ConnEvent}
use Rattle.rl_connsm.specs.declared.table.ConnEvent.TheVariants as events
use Rattle.rl_chansm.specs.Connection.{event_of}
use Rattle.rl_chansm.specs.declared.table.ChanEvent.{ChanEvent}
use Rattle.rl_ackq.specs.Queue.{Queue, new_queue}
use Rattle.rl_names.specs.Names.{at, each, with_entry}
use Rattle.rl_clientmodel.specs.declared.steps.ChannelStep.{ChannelStep}
use Rattle.rl_clientmodel.specs.declared.steps.ChannelStep.TheVariants.{LinkLost, LinkOpened, Moves}
use Rattle.rl_clientmodel.specs.Channels.{ClientChannel, channel_after, channel_asks}

pub record ClientState : Type 0 where
  pub name : List ℕ  -- the client id
  pub conn : ConnState
  pub from_suspended : Bool  -- it last connected from SUSPENDED
  pub id : Option (List ℕ)  -- of the connection held (RTN8)
  pub key : Option (List ℕ)  -- and its key (RTN9)
  pub queue : Queue  -- the frames that await acknowledgement (RTN7)
  pub answers : List Answer  -- the acknowledgements got, in order
  pub dropped : ℕ  -- how many frames were given up
  pub channels : List (List ℕ × ClientChannel)  -- those known, by name
  pub left : Option ℕ  -- when it last left CONNECTED
  pub connected_at : ℕ  -- its last Connect in another state than DISCONNECTED
  pub got_at : ℕ  -- when the last frame came

abbrev pub new_state : List ℕ → ClientState
new_state name =
    record {
      name = name;
      conn = conn.Initialized;
      from_suspended = false;
      id = None;
      key = None;
      queue = new_queue;
      answers = [];
      dropped = 0;
      channels = [];
      left = None;
      connected_at = 0;
      got_at = 0;
    }

-- what an input makes of a client, and what it answers: the frames to be sent, and whether the link is to be dropped
pub record Turn : Type 0 where
  pub state : ClientState
  pub output : Output

abbrev pub turn : List Frame → Bool → ClientState → Turn
turn frames drops state = record { state = state; output = record { frames = frames; drop_link = drops } }

abbrev pub quietly : ClientState → Turn
quietly state = turn [] false state

abbrev pub sending : List Frame → ClientState → Turn
sending frames state = turn frames false state

-- CHANNELS

abbrev pub with_channel : List ℕ → ClientChannel → ClientState → ClientState
with_channel name channel state = record state { channels = with_entry name channel state.channels }

-- a channel that is known is changed
abbrev pub changed : List ℕ → (ClientChannel → ClientChannel) → Option ClientChannel → ClientState → ClientState
changed name change None state = state
changed name change (Some channel) state = with_channel name (change channel) state

abbrev pub change_channel : List ℕ → (ClientChannel → ClientChannel) → ClientState → ClientState
change_channel name change state = changed name change (at name state.channels) state

-- a step of a channel that is known, and what it makes the client send
abbrev pub stepped : ChannelStep → List ℕ → Option ClientChannel → ClientState → Turn
stepped step name None state = quietly state
stepped step name (Some channel) state =
    sending (channel_asks step name channel) (with_channel name (channel_after step channel) state)

abbrev pub step_channel : ChannelStep → List ℕ → ClientState → Turn
step_channel step name state = stepped step name (at name state.channels) state

-- a step of all channels
abbrev pub all_after : ChannelStep → List (List ℕ × ClientChannel) → List (List ℕ × ClientChannel)
all_after step channels = each (channel_after step) channels

-- and what it makes the client send, in order of name
abbrev pub all_asks : ChannelStep → List (List ℕ × ClientChannel) → List Frame
all_asks step channels = flat_map (λ (e : List ℕ × ClientChannel). channel_asks step e.0 e.1) channels

-- A STEP OF THE CONNECTION

abbrev pub step_if : Bool → ChannelStep → List (List ℕ × ClientChannel) → List (List ℕ × ClientChannel)
step_if false step channels = channels
step_if true step channels = all_after step channels

abbrev pub step_by : Option ChanEvent → ℕ → List (List ℕ × ClientChannel) → List (List ℕ × ClientChannel)
step_by None now channels = channels
step_by (Some event) now channels = all_after (Moves event true now) channels

-- each channel, where the connection goes from one state into another. What became of the connection is told first, and
-- then that the link is gone; on a new link no answer is owed
abbrev pub channels_after : ConnEvent → ConnState → ConnState → ℕ → List (List ℕ × ClientChannel) → List (List ℕ × ClientChannel)
channels_after event before after now channels =
    step_if (opens_link before after) LinkOpened
    (step_if (loses_link event before after) LinkLost (step_by (event_of before after) now channels))

-- where the connection is given up, its id and key are forgotten, the frames that wait are dropped and counted, and the
-- next serial is 0 (RTN8c, RTN9c, RTN7e)
abbrev pub forgotten : Bool → ClientState → ClientState
forgotten false state = state
forgotten true state =
    record state {
      id = None;
      key = None;
      dropped = min (state.dropped + length state.queue.pending) (2 ^ 64 - 1);
      queue = new_queue;
    }

-- when CONNECTED was last left, after a step that leaves it or not
abbrev pub left_after : Bool → ℕ → Option ℕ → Option ℕ
left_after leaves now earlier = if leaves then Some now else earlier

-- when the client last connected in another state than DISCONNECTED, after an event
abbrev pub connected_after : ConnEvent → ConnState → ℕ → ℕ → ℕ
connected_after events.Connect before now earlier = if restarts_ttl before then now else earlier
connected_after event before now earlier = earlier

-- the connection comes into a state by an event
abbrev pub come_to : ConnState → ConnEvent → ℕ → ClientState → ClientState
come_to after event now state =
    forgotten (forgets_connection after)
    (record state {
      conn = after;
      from_suspended = from_suspended_after state.conn state.from_suspended event;
      channels = channels_after event state.conn after now state.channels;
      left = left_after (leaves_connected state.conn after) now state.left;
      connected_at = connected_after event state.conn now state.connected_at;
    })

abbrev pub state_after : ConnEvent → ClientState → ConnState
state_after event state = conn_table state.conn state.from_suspended event

abbrev pub conn_moved : ConnEvent → ℕ → ClientState → ClientState
conn_moved event now state = come_to (state_after event state) event now state

-- the same, with frames, and with whether the link is dropped
abbrev pub moving : List Frame → ConnEvent → ℕ → ClientState → Turn
moving frames event now state = turn frames (drops_link state.conn (state_after event state)) (conn_moved event now state)
