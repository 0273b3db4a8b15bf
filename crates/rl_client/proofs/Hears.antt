-- What a frame makes of a client, by the steps of its channels.
use Rattle.std.proofs.Common.{◌≡◌, ℕ, true, List, refl}
use Rattle.std.specs.Prelude.{Option, Some, None}
use Rattle.rl_types.specs.declared.states.ConnState.{ConnState}
use Rattle.rl_types.specs.declared.states.ConnState.TheVariants as conn
use Rattle.rl_connsm.specs.declared.table.ConnEvent.TheVariants as events
use Rattle.rl_connsm.specs.Rules.{awaits_connected}
use Rattle.rl_ackq.specs.Queue.{Queue}
use Rattle.rl_names.specs.Names.{at}
use Rattle.rl_clientmodel.specs.Channels.{ClientChannel}
use Rattle.rl_clientmodel.specs.Hearing.{queue_with, stands_with}
use Rattle.rl_clientmodel.specs.States.{ClientState, change_channel, changed, conn_moved}
use Rattle.rl_clientchannels.specs.Changes.{changed_at, changed_if}

-- A CHANNEL IS CHANGED

changed_by : (name : List ℕ) (change : ClientChannel → ClientChannel) (found : Option ClientChannel) (state : ClientState) → record state { channels = changed_if name change found state.channels } ≡ changed name change found state
changed_by name change None state = refl
changed_by name change (Some channel) state = refl

pub changed_is : (name : List ℕ) (change : ClientChannel → ClientChannel) (state : ClientState) → record state { channels = changed_at name change state.channels } ≡ change_channel name change state
changed_is name change state = changed_by name change (at name state.channels) state

-- THE CONNECTION STANDS

abbrev Stood : List ℕ → List ℕ → ℕ → Queue → ClientState → Type 0
Stood id key now queue state =
    record (conn_moved events.Connected now (record state { queue = queue })) { id = Some id; key = Some key }
    ≡ record (conn_moved events.Connected now state) { id = Some id; key = Some key; queue = queue }

stood_in : (c : ConnState) (id key : List ℕ) (now : ℕ) (queue : Queue) (state : ClientState) → awaits_connected c ≡ true → Stood id key now queue (record state { conn = c })
stood_in conn.Connecting id key now queue state is = refl
stood_in conn.Initialized id key now queue state is = absurd cc
stood_in conn.Connected id key now queue state is = absurd cc
stood_in conn.Disconnected id key now queue state is = absurd cc
stood_in conn.Suspended id key now queue state is = absurd cc
stood_in conn.Closing id key now queue state is = absurd cc
stood_in conn.Closed id key now queue state is = absurd cc
stood_in conn.Failed id key now queue state is = absurd cc

-- the frames that wait may be numbered before the step or after it
pub stood : (id key : List ℕ) (now : ℕ) (state : ClientState) → awaits_connected state.conn ≡ true → record (conn_moved events.Connected now (record state { queue = queue_with id state.id state.queue })) { id = Some id; key = Some key } ≡ (stands_with id key now state).state
stood id key now state is = stood_in state.conn id key now (queue_with id state.id state.queue) state is
