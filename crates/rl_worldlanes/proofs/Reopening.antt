-- Nothing but Connect opens a link.
use Rattle.std.proofs.Common.{◌≡◌, ℕ, Bool, true, false, refl, ◌∙◌, ap, arith}
use Rattle.std.specs.Prelude.{Option, Some, None, if◌then◌else◌}
use Rattle.rl_types.specs.declared.states.ConnState.{ConnState}
use Rattle.rl_runs.specs.declared.commands.Command.{Command}
use Rattle.rl_runs.specs.declared.commands.Command.TheVariants.{Connect, Close, Die, Attach, AttachAt, Detach, Publish, Enter, Update, Leave, Operate}
use Rattle.rl_connsm.specs.declared.table.ConnEvent.{ConnEvent}
use Rattle.rl_connsm.specs.declared.table.ConnEvent.TheVariants as events
use Rattle.rl_connsm.specs.Table.{conn_table}
use Rattle.rl_connsm.specs.Rules.{is_connected, opens_link}
use Rattle.rl_names.specs.Names.{at}
use Rattle.rl_clientmodel.specs.declared.steps.ChannelStep.{ChannelStep}
use Rattle.rl_clientmodel.specs.Channels.{ClientChannel}
use Rattle.rl_clientmodel.specs.States.{ClientState, Turn, changed, conn_moved, moving, quietly, stepped}
use Rattle.rl_clientmodel.specs.Commands.{Refusal, refusal, acted, detach_step, obeyed, obeyed_unless, with_own, without_own}
use Rattle.rl_clientmodel.specs.Times.{is_past_ttl, is_silent, ticked, waited}
use Rattle.rl_worldlanes.proofs.Connection.{moved_conn}
use Rattle.rl_worldlanes.proofs.Commands.{never_opens}

abbrev pub is_connect : Command → Bool
is_connect Connect = true
is_connect command = false

-- a turn that opens none
abbrev pub OpensNone : ClientState → Turn → Type 0
OpensNone state turn = opens_link state.conn turn.state.conn ≡ false

-- the connection's state stays
same_opens : (state : ClientState) (turn : Turn) → turn.state.conn ≡ state.conn → OpensNone state turn
same_opens state turn same = ap (opens_link state.conn) same ∙ never_opens state.conn

-- or it is moved by another event than Connect
abbrev is_other : ConnEvent → Bool
is_other events.Connect = false
is_other one = true

other_opens : (s : ConnState) (from : Bool) (one : ConnEvent) → is_other one ≡ true → opens_link s (conn_table s from one) ≡ false
other_opens s from one other = grind (arith, other)

moved_opens : (one : ConnEvent) (now : ℕ) (state : ClientState) → is_other one ≡ true → opens_link state.conn (conn_moved one now state).conn ≡ false
moved_opens one now state other = ap (opens_link state.conn) (moved_conn one now state) ∙ other_opens state.conn state.from_suspended one other

changed_conn : (name : _) (f : ClientChannel → ClientChannel) (o : Option ClientChannel) (state : ClientState) → (changed name f o state).conn ≡ state.conn
changed_conn name f None state = refl
changed_conn name f (Some channel) state = refl

stepped_opens : (step : ChannelStep) (name : _) (o : Option ClientChannel) (state : ClientState) → OpensNone state (stepped step name o state)
stepped_opens step name None state = never_opens state.conn
stepped_opens step name (Some channel) state = never_opens state.conn

obeyed_opens : (command : Command) (now : ℕ) (state : ClientState) → is_connect command ≡ false → OpensNone state (obeyed command now state)
obeyed_opens Connect now state other = absurd (cc)
obeyed_opens Close now state other = moved_opens events.CloseAsked now state refl
obeyed_opens Die now state other = moved_opens events.Died now state refl
obeyed_opens (Attach name) now state other = never_opens state.conn
obeyed_opens (AttachAt name serial) now state other = never_opens state.conn
obeyed_opens (Detach name) now state other = stepped_opens (detach_step now state) name (at name state.channels) state
obeyed_opens (Publish name items) now state other = never_opens state.conn
obeyed_opens (Enter name client payload) now state other = same_opens state (obeyed (Enter name client payload) now state) (changed_conn name (with_own client payload) (at name state.channels) state)
obeyed_opens (Update name client payload) now state other = same_opens state (obeyed (Update name client payload) now state) (changed_conn name (with_own client payload) (at name state.channels) state)
obeyed_opens (Leave name client) now state other = same_opens state (obeyed (Leave name client) now state) (changed_conn name (without_own client) (at name state.channels) state)
obeyed_opens (Operate name ops) now state other = never_opens state.conn

unless_opens : (o : Option Refusal) (command : Command) (now : ℕ) (state : ClientState) → is_connect command ≡ false → OpensNone state (obeyed_unless o command now state)
unless_opens None command now state other = obeyed_opens command now state other
unless_opens (Some refused) command now state other = never_opens state.conn

pub acted_opens : (command : Command) (now : ℕ) (state : ClientState) → is_connect command ≡ false → OpensNone state (acted command now state)
acted_opens command now state other = unless_opens (refusal command state) command now state other

-- TIME

waited_conn : (b : Bool) (first second : ClientState) → first.conn ≡ second.conn → (if b then first else second).conn ≡ second.conn
waited_conn true first second same = same
waited_conn false first second same = refl

turn_if : (b : Bool) (state : ClientState) (first second : Turn) → OpensNone state first → OpensNone state second → OpensNone state (if b then first else second)
turn_if true state first second one other = one
turn_if false state first second one other = other

pub ticked_opens : (now : ℕ) (state : ClientState) → OpensNone state (ticked now state)
ticked_opens now state =
    turn_if (is_past_ttl now state) state (moving _ events.Ttl now state) _ (moved_opens events.Ttl now state refl)
    (turn_if (is_silent now state) state (moving _ events.Down now state) (quietly (waited now state)) (moved_opens events.Down now state refl)
    (same_opens state (quietly (waited now state)) (waited_conn (is_connected state.conn) _ state refl)))
