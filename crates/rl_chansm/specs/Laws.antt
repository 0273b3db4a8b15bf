-- What the table of a channel says of single states and events.
use Rattle.std.specs.Prelude.{Bool, true, false, ◌≡◌, ◌≢◌, ◌⊎◌}
use Rattle.rl_types.specs.declared.states.ChanState.{ChanState}
use Rattle.rl_types.specs.declared.states.ChanState.TheVariants as chan
use Rattle.rl_types.specs.declared.states.ConnState.{ConnState}
use Rattle.rl_types.specs.declared.states.ConnState.TheVariants as conn
use Rattle.rl_chansm.specs.declared.table.ChanEvent.{ChanEvent}
use Rattle.rl_chansm.specs.declared.table.ChanEvent.TheVariants as event
use Rattle.rl_chansm.specs.Connection.{after_connection}
use Rattle.rl_chansm.specs.Owed.{awaits_attached, awaits_detached, takes_errors}
use Rattle.rl_chansm.specs.Rules.{attaches, clears_channel, detaches, forgets_serial, is_attached, sends_attach, sends_detach}
use Rattle.rl_chansm.specs.Table.{chan_table}

-- the states that ask nothing of the service and hold nothing of it
abbrev pub is_resting : ChanState → Bool
is_resting chan.Initialized = true
is_resting chan.Detached = true
is_resting chan.Failed = true
is_resting state = false

-- these are left only where the client attaches
abbrev pub RestsUntilAttach : Type 0
RestsUntilAttach =
    (state : ChanState) (one : ChanEvent) → one ≢ event.AttachAsked →
    is_resting state ≡ true → chan_table state one ≡ state

-- once the connection is closed or failed each channel rests
abbrev pub RestsAfterTheConnection : Type 0
RestsAfterTheConnection =
    (state : ChanState) →
    (is_resting (chan_table state event.ConnClosed) ≡ true) × (is_resting (chan_table state event.ConnFailed) ≡ true)

-- once the link is gone and the connection suspended, each channel rests or is SUSPENDED
abbrev pub SuspendedWithTheConnection : Type 0
SuspendedWithTheConnection =
    (state : ChanState) → let after = chan_table (chan_table state event.LinkDown) event.ConnSuspended in
    (is_resting after ≡ true) ⊎ (after ≡ chan.Suspended)

-- ATTACHED comes only from ATTACHING, by the service's word
abbrev pub AttachedByTheService : Type 0
AttachedByTheService =
    (state : ChanState) (one : ChanEvent) →
    chan_table state one ≡ chan.Attached →
    (state ≡ chan.Attached) ⊎ ((state ≡ chan.Attaching) × (one ≡ event.AttachedTaken))

-- no state goes back to INITIALIZED
abbrev pub NeverInitializedAgain : Type 0
NeverInitializedAgain =
    (state : ChanState) (one : ChanEvent) → chan_table state one ≡ chan.Initialized → state ≡ chan.Initialized

-- a command that changes something leads to where its answer is awaited, or to DETACHED at once; another one leaves
-- the state
abbrev pub CommandsThatCount : Type 0
CommandsThatCount =
    (state : ChanState) (connected : Bool) →
    let attaching = chan_table state event.AttachAsked in
    let detaching = chan_table state (event.DetachAsked connected) in
    (attaches state ≡ true → attaching ≡ chan.Attaching)
    × (attaches state ≡ false → attaching ≡ state)
    × (detaches state ≡ true → (detaching ≡ chan.Detaching) ⊎ (detaching ≡ chan.Detached))
    × (detaches state ≡ false → detaching ≡ state)

-- what is sent is then awaited, and in a CONNECTED connection a channel comes to await an answer only by sending
pub record AwaitsWhatItAsked : Type 0 where
  pub attach : (connected : Bool) (state : ChanState) (one : ChanEvent) → sends_attach connected state one ≡ true → chan_table state one ≡ chan.Attaching
  pub detach : (state : ChanState) (one : ChanEvent) → sends_detach state one ≡ true → chan_table state one ≡ chan.Detaching
  pub attaching : (state : ChanState) (one : ChanEvent) → chan_table state one ≡ chan.Attaching → (state ≡ chan.Attaching) ⊎ (sends_attach true state one ≡ true)
  pub detaching : (state : ChanState) (one : ChanEvent) → chan_table state one ≡ chan.Detaching → (state ≡ chan.Detaching) ⊎ (sends_detach state one ≡ true)
  -- once the connection stands, each channel that is ATTACHING has asked anew
  pub up : (state : ChanState) → chan_table state event.ConnUp ≡ chan.Attaching → sends_attach true state event.ConnUp ≡ true

-- an answer that is awaited is a step of the table, and another one leaves the state
pub record AnswersThatCount : Type 0 where
  pub attached : (state : ChanState) → awaits_attached state ≡ true → chan_table state event.AttachedTaken ≡ chan.Attached
  pub no_attached : (state : ChanState) → awaits_attached state ≡ false → chan_table state event.AttachedTaken ≡ state
  pub detached : (state : ChanState) → awaits_detached state ≡ true → chan_table state event.DetachedTaken ≡ chan.Detached
  pub no_detached : (state : ChanState) → awaits_detached state ≡ false → chan_table state event.DetachedTaken ≡ state
  pub error : (state : ChanState) → takes_errors state ≡ true → chan_table state event.ErrorTaken ≡ chan.Failed
  pub no_error : (state : ChanState) → takes_errors state ≡ false → chan_table state event.ErrorTaken ≡ state

-- where no serial is held no answer is awaited and no entry is got, and where there are no members none is held
abbrev pub AwaitsNothingWhereForgotten : Type 0
AwaitsNothingWhereForgotten =
    (state : ChanState) →
    (forgets_serial state ≡ true → (awaits_attached state ≡ false) × (awaits_detached state ≡ false) × (is_attached state ≡ false))
    × (clears_channel state ≡ true → forgets_serial state ≡ true)

-- once a connection is given up, its link with it, no channel awaits an answer, and each holds no serial but an
-- INITIALIZED one
pub record GivenUpWithTheConnection : Type 0 where
  pub suspended : (before : ConnState) (state : ChanState) → before ≢ conn.Suspended → let after = after_connection true before conn.Suspended state in (after ≡ chan.Initialized) ⊎ (forgets_serial after ≡ true)
  pub closed : (unlinked : Bool) (before : ConnState) (state : ChanState) → before ≢ conn.Closed → is_resting (after_connection unlinked before conn.Closed state) ≡ true
  pub failed : (unlinked : Bool) (before : ConnState) (state : ChanState) → before ≢ conn.Failed → is_resting (after_connection unlinked before conn.Failed state) ≡ true
  -- a link that goes takes each DETACH with it
  pub unlinked : (before after : ConnState) (state : ChanState) → awaits_detached (after_connection true before after state) ≡ false
