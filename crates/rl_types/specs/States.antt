-- The names of states, in lower case.
use Rattle.std.specs.Prelude.{ℕ, List, codes}
use Rattle.rl_types.specs.declared.states.ConnState.{ConnState}
use Rattle.rl_types.specs.declared.states.ConnState.TheVariants as conn
use Rattle.rl_types.specs.declared.states.ChanState.{ChanState}
use Rattle.rl_types.specs.declared.states.ChanState.TheVariants as chan

abbrev pub conn_word : ConnState → List ℕ
conn_word conn.Initialized = codes "initialized"
conn_word conn.Connecting = codes "connecting"
conn_word conn.Connected = codes "connected"
conn_word conn.Disconnected = codes "disconnected"
conn_word conn.Suspended = codes "suspended"
conn_word conn.Closing = codes "closing"
conn_word conn.Closed = codes "closed"
conn_word conn.Failed = codes "failed"

abbrev pub chan_word : ChanState → List ℕ
chan_word chan.Initialized = codes "initialized"
chan_word chan.Attaching = codes "attaching"
chan_word chan.Attached = codes "attached"
chan_word chan.Detaching = codes "detaching"
chan_word chan.Detached = codes "detached"
chan_word chan.Suspended = codes "suspended"
chan_word chan.Failed = codes "failed"
