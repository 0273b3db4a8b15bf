-- What the table of a connection says of single states.
use Rattle.std.specs.Prelude.{Bool, true, false, not, ◌≡◌, ◌≢◌, ◌⊎◌}
use Rattle.rl_types.specs.declared.states.ConnState.{ConnState}
use Rattle.rl_types.specs.declared.states.ConnState.TheVariants as conn
use Rattle.rl_connsm.specs.declared.table.ConnEvent.{ConnEvent}
use Rattle.rl_connsm.specs.declared.table.ConnEvent.TheVariants as event
use Rattle.rl_connsm.specs.Rules.{awaits_connected, awaits_ttl, brings_key, closes, forgets_connection, is_connected, is_down, takes_acknowledgements}
use Rattle.rl_connsm.specs.Table.{conn_table, drops_link, is_connecting_or_connected, may_connect}

-- CLOSED and FAILED are left only where the client connects
abbrev pub RestsUntilConnect : Type 0
RestsUntilConnect =
    (from_suspended : Bool) (one : ConnEvent) → one ≢ event.Connect →
    (conn_table conn.Closed from_suspended one ≡ conn.Closed) × (conn_table conn.Failed from_suspended one ≡ conn.Failed)

-- a client that may connect is then CONNECTING, and where it may not its state stays
abbrev pub ConnectsWhereItMay : Type 0
ConnectsWhereItMay =
    (state : ConnState) (from_suspended : Bool) →
    (may_connect state ≡ true → conn_table state from_suspended event.Connect ≡ conn.Connecting)
    × (may_connect state ≡ false → conn_table state from_suspended event.Connect ≡ state)

-- CLOSING is left only for CLOSED
abbrev pub ClosingEndsClosed : Type 0
ClosingEndsClosed =
    (from_suspended : Bool) (one : ConnEvent) →
    (conn_table conn.Closing from_suspended one ≡ conn.Closing) ⊎ (conn_table conn.Closing from_suspended one ≡ conn.Closed)

-- CONNECTED comes only from CONNECTING, by the service's word
abbrev pub ConnectedByTheService : Type 0
ConnectedByTheService =
    (state : ConnState) (from_suspended : Bool) (one : ConnEvent) →
    conn_table state from_suspended one ≡ conn.Connected →
    (state ≡ conn.Connected) ⊎ ((state ≡ conn.Connecting) × (one ≡ event.Connected))

-- no state goes back to INITIALIZED
abbrev pub NeverInitializedAgain : Type 0
NeverInitializedAgain =
    (state : ConnState) (from_suspended : Bool) (one : ConnEvent) →
    conn_table state from_suspended one ≡ conn.Initialized → state ≡ conn.Initialized

-- where Close counts it leads to CLOSING or CLOSED, and elsewhere the state stays
abbrev pub ClosesWhereItCounts : Type 0
ClosesWhereItCounts =
    (state : ConnState) (from_suspended : Bool) → let after = conn_table state from_suspended event.CloseAsked in
    (closes state ≡ true → (after ≡ conn.Closing) ⊎ (after ≡ conn.Closed)) × (closes state ≡ false → after ≡ state)

-- where the service's word is awaited it leads to CONNECTED, and elsewhere the state stays
abbrev pub ConnectedWhereAwaited : Type 0
ConnectedWhereAwaited =
    (state : ConnState) (from_suspended : Bool) → let after = conn_table state from_suspended event.Connected in
    (awaits_connected state ≡ true → after ≡ conn.Connected) × (awaits_connected state ≡ false → after ≡ state)

-- where time counts it leads to SUSPENDED, and elsewhere the state stays
abbrev pub SuspendedByTime : Type 0
SuspendedByTime =
    (state : ConnState) (from_suspended : Bool) → let after = conn_table state from_suspended event.Ttl in
    (awaits_ttl state ≡ true → after ≡ conn.Suspended) × (awaits_ttl state ≡ false → after ≡ state)

-- where no connection is held nothing is taken, nothing is sent, and no acknowledgement counts
abbrev pub RestsWhereForgotten : Type 0
RestsWhereForgotten =
    (state : ConnState) → forgets_connection state ≡ true →
    (is_down state ≡ true) × (is_connected state ≡ false) × (takes_acknowledgements state ≡ false)

-- from there a step leads to where none is held either, or to CONNECTING
abbrev pub StaysForgotten : Type 0
StaysForgotten =
    (state : ConnState) (from_suspended : Bool) (one : ConnEvent) → forgets_connection state ≡ true →
    let after = conn_table state from_suspended one in
    (forgets_connection after ≡ true) ⊎ (after ≡ conn.Connecting)

-- no link outlives the connection
abbrev pub LinkEndsWithTheConnection : Type 0
LinkEndsWithTheConnection =
    (before after : ConnState) → is_connecting_or_connected before ≡ true →
    forgets_connection after ≡ true → drops_link before after ≡ true

-- a client that connects brings the key that it holds: where it brings none it holds none
abbrev pub BringsWhatItHolds : Type 0
BringsWhatItHolds =
    (state : ConnState) → may_connect state ≡ true → brings_key state ≡ not (forgets_connection state)
