-- What a client does as time passes, and where its link goes.
use Rattle.std.specs.Prelude.{ℕ, ◌+◌, Bool, true, false, ◌&&◌, nat_le, if◌then◌else◌, [], Option, Some, None}
use Rattle.rl_numbers.specs.declared.limits.TheConstants.{CONNECTION_STATE_TTL, MAX_SILENCE}
use Rattle.rl_connsm.specs.Rules.{awaits_ttl, is_connected}
use Rattle.rl_connsm.specs.declared.table.ConnEvent.TheVariants as events
use Rattle.rl_clientmodel.specs.declared.steps.ChannelStep.{ChannelStep}
use Rattle.rl_clientmodel.specs.declared.steps.ChannelStep.TheVariants.{Collects, Waited}
use Rattle.rl_clientmodel.specs.States.{ClientState, Turn, all_after, conn_moved, moving, quietly}

-- the link is gone (RTN15a)
abbrev pub unlinked : ℕ → ClientState → Turn
unlinked now state = quietly (conn_moved events.Down now state)

-- so long has passed since a moment, if there was one
abbrev pub has_passed : ℕ → ℕ → Option ℕ → Bool
has_passed span now None = true
has_passed span now (Some moment) = nat_le (moment + span) now

-- the service no longer keeps the connection, after CONNECTED was left and after the last Connect (RTN14e)
abbrev pub is_past_ttl : ℕ → ClientState → Bool
is_past_ttl now state =
    awaits_ttl state.conn && has_passed CONNECTION_STATE_TTL now state.left && nat_le (state.connected_at + CONNECTION_STATE_TTL) now

-- no frame came for so long that the link is given up (RTN23a)
abbrev pub is_silent : ℕ → ClientState → Bool
is_silent now state = is_connected state.conn && nat_le (state.got_at + MAX_SILENCE) now

abbrev pub each_channel : ChannelStep → ClientState → ClientState
each_channel step state = record state { channels = all_after step state.channels }

-- ATTACHs that were not answered in time are given up in CONNECTED alone
abbrev pub waited : ℕ → ClientState → ClientState
waited now state = if is_connected state.conn then each_channel (Waited now) state else state

abbrev pub aged : ℕ → ClientState → Turn
aged now state =
    if is_past_ttl now state then moving [] events.Ttl now state
    else if is_silent now state then moving [] events.Down now state
    else quietly (waited now state)

-- objects are collected in any state
abbrev pub collecting : ℕ → Turn → Turn
collecting now turn = record turn { state = each_channel (Collects now) turn.state }

abbrev pub ticked : ℕ → ClientState → Turn
ticked now state = collecting now (aged now state)
