-- What a client keeps of itself: its key, its id, and whether it lists anything yet.
use Rattle.std.proofs.Common.{◌≡◌, ◌⊎◌, inl, inr, ℕ, Bool, true, false, List, [], refl, sym, ◌∙◌, ap, arith}
use Rattle.std.specs.Prelude.{Option, Some, None, if◌then◌else◌, ⊤}
use Rattle.rl_ids.specs.declared.serials.ChannelSerial.{ChannelSerial}
use Rattle.rl_types.specs.declared.frames.Frame.{Frame}
use Rattle.rl_types.specs.declared.frames.Frame.TheVariants as frames
use Rattle.rl_types.specs.declared.messages.Body.TheVariants.{Messages, Presence, Objects}
use Rattle.rl_types.specs.declared.states.ConnState.{ConnState}
use Rattle.rl_types.specs.declared.states.ConnState.TheVariants as conn
use Rattle.rl_runs.specs.declared.commands.Command.{Command}
use Rattle.rl_runs.specs.declared.commands.Command.TheVariants.{Connect, Close, Die, Attach, AttachAt, Detach, Publish, Enter, Update, Leave, Operate}
use Rattle.rl_connsm.specs.Table.{conn_table}
use Rattle.rl_connsm.specs.Rules.{forgets_connection}
use Rattle.rl_connsm.specs.Rules as rules
use Rattle.rl_connsm.specs.declared.table.ConnEvent.{ConnEvent}
use Rattle.rl_connsm.specs.declared.table.ConnEvent.TheVariants as events
use Rattle.rl_names.specs.Names.{at}
use Rattle.rl_clientmodel.specs.declared.steps.ChannelStep.{ChannelStep}
use Rattle.rl_clientmodel.specs.declared.steps.ChannelStep.TheVariants.{DetachedGot, ErrorGot}
use Rattle.rl_clientmodel.specs.Channels.{ClientChannel, channel_from}
use Rattle.rl_clientmodel.specs.Entries.{entry_got, page_got, object_page_got}
use Rattle.rl_clientmodel.specs.States.{ClientState, quietly, changed, change_channel, stepped, forgotten, state_after, conn_moved, moving}
use Rattle.rl_clientmodel.specs.Commands.{Refusal, refusal, acted, obeyed, obeyed_unless, attach_step, detach_step, channel_or_new, with_own, without_own}
use Rattle.rl_clientmodel.specs.Hearing.{hears, attached_in, entered_again, error_got}
use Rattle.rl_clientmodel.specs.Answers.{is_answer}
use Rattle.rl_clientmodel.specs.Times.{unlinked, ticked, is_past_ttl, is_silent, waited}
use Rattle.rl_connsm.proofs.Cases.{never_initialized_again}
use Rattle.rl_worldtold.proofs.Calm.{IsOther}

pub record Steps (before after : ClientState) : Type 0 where
  pub connecting : after.conn ≡ conn.Connecting → (before.conn ≡ conn.Connecting) × (after.id ≡ before.id) × (after.key ≡ before.key)
  pub initial : after.conn ≡ conn.Initialized → before.conn ≡ conn.Initialized
  pub answers : after.answers ≡ before.answers
  pub keys : ((after.key ≡ before.key) × (after.id ≡ before.id)) ⊎ (after.key ≡ None)

-- only Connect leads to CONNECTING
pub to_connecting : (c : ConnState) (b : Bool) (event : ConnEvent) → (event ≡ events.Connect → ⊥) → conn_table c b event ≡ conn.Connecting → c ≡ conn.Connecting
to_connecting c b event not is = grind (arith, not, is)

pub forgets_no_connecting : (c : ConnState) → forgets_connection c ≡ true → c ≡ conn.Connecting → ⊥
forgets_no_connecting c forgets is = let wrong : false ≡ true = sym (ap forgets_connection is) ∙ forgets in cc

forgot_steps : (b : Bool) (before s : ClientState) → forgets_connection s.conn ≡ b → (s.conn ≡ conn.Connecting → before.conn ≡ conn.Connecting) → (s.conn ≡ conn.Initialized → before.conn ≡ conn.Initialized) → s.id ≡ before.id → s.key ≡ before.key → s.answers ≡ before.answers → Steps before (forgotten b s)
forgot_steps true before s forgets connecting initial id key answers = record { connecting = λ is. absurd (forgets_no_connecting s.conn forgets is); initial = initial; answers = answers; keys = inr refl }
forgot_steps false before s forgets connecting initial id key answers = record { connecting = λ is. (connecting is, id, key); initial = initial; answers = answers; keys = inl (key, id) }

pub steps_moved : (event : ConnEvent) (now : ℕ) (state : ClientState) → (event ≡ events.Connect → ⊥) → Steps state (conn_moved event now state)
steps_moved event now state not =
    forgot_steps (forgets_connection (state_after event state)) state _ refl (to_connecting state.conn state.from_suspended event not) (never_initialized_again state.conn state.from_suspended event) refl refl refl

pub steps_same : (state after : ClientState) → after.conn ≡ state.conn → after.id ≡ state.id → after.key ≡ state.key → after.answers ≡ state.answers → Steps state after
steps_same state after c i k a = record { connecting = λ is. (sym c ∙ is, i, k); initial = λ is. sym c ∙ is; answers = a; keys = inl (k, i) }

-- of Connect too
pub record Rests (before after : ClientState) : Type 0 where
  pub answers : after.answers ≡ before.answers
  pub initial : after.conn ≡ conn.Initialized → before.conn ≡ conn.Initialized
  pub keys : ((after.key ≡ before.key) × (after.id ≡ before.id)) ⊎ (after.key ≡ None)

forgot_rests : (b : Bool) (before s : ClientState) → (s.conn ≡ conn.Initialized → before.conn ≡ conn.Initialized) → s.id ≡ before.id → s.key ≡ before.key → s.answers ≡ before.answers → Rests before (forgotten b s)
forgot_rests true before s initial id key answers = record { answers = answers; initial = initial; keys = inr refl }
forgot_rests false before s initial id key answers = record { answers = answers; initial = initial; keys = inl (key, id) }

pub rests_moved : (event : ConnEvent) (now : ℕ) (state : ClientState) → Rests state (conn_moved event now state)
rests_moved event now state = forgot_rests (forgets_connection (state_after event state)) state _ (never_initialized_again state.conn state.from_suspended event) refl refl refl

pub forgot_conn : (b : Bool) (s : ClientState) → (forgotten b s).conn ≡ s.conn
forgot_conn true s = refl
forgot_conn false s = refl

-- where CONNECTED is taken
pub connected_conn : (now : ℕ) (state : ClientState) → state.conn ≡ conn.Connecting → (conn_moved events.Connected now state).conn ≡ conn.Connected
connected_conn now state is = forgot_conn (forgets_connection (state_after events.Connected state)) _ ∙ ap (λ (c : ConnState). conn_table c state.from_suspended events.Connected) is

pub steps_unlinked : (now : ℕ) (state : ClientState) → Steps state (unlinked now state).state
steps_unlinked now state = steps_moved events.Down now state (λ is. cc)

-- COMMANDS

steps_stepped : (step : ChannelStep) (name : List ℕ) (o : Option ClientChannel) (state : ClientState) → Steps state (stepped step name o state).state
steps_stepped step name None state = steps_same state state refl refl refl refl
steps_stepped step name (Some channel) state = steps_same state _ refl refl refl refl

changed_conn : (name : List ℕ) (change : ClientChannel → ClientChannel) (o : Option ClientChannel) (s : ClientState) → (changed name change o s).conn ≡ s.conn
changed_conn name change None s = refl
changed_conn name change (Some channel) s = refl

changed_id : (name : List ℕ) (change : ClientChannel → ClientChannel) (o : Option ClientChannel) (s : ClientState) → (changed name change o s).id ≡ s.id
changed_id name change None s = refl
changed_id name change (Some channel) s = refl

changed_key : (name : List ℕ) (change : ClientChannel → ClientChannel) (o : Option ClientChannel) (s : ClientState) → (changed name change o s).key ≡ s.key
changed_key name change None s = refl
changed_key name change (Some channel) s = refl

changed_answers : (name : List ℕ) (change : ClientChannel → ClientChannel) (o : Option ClientChannel) (s : ClientState) → (changed name change o s).answers ≡ s.answers
changed_answers name change None s = refl
changed_answers name change (Some channel) s = refl

-- a change of a channel, and of what else is not looked at here
steps_change : (name : List ℕ) (change : ClientChannel → ClientChannel) (state after : ClientState) → after.conn ≡ (change_channel name change state).conn → after.id ≡ (change_channel name change state).id → after.key ≡ (change_channel name change state).key → after.answers ≡ (change_channel name change state).answers → Steps state after
steps_change name change state after c i k a =
    steps_same state after (c ∙ changed_conn name change (at name state.channels) state) (i ∙ changed_id name change (at name state.channels) state) (k ∙ changed_key name change (at name state.channels) state) (a ∙ changed_answers name change (at name state.channels) state)

steps_channel : (name : List ℕ) (change : ClientChannel → ClientChannel) (state : ClientState) → Steps state (change_channel name change state)
steps_channel name change state = steps_change name change state (change_channel name change state) refl refl refl refl

-- all commands but to connect
abbrev pub IsNoConnect : Command → Type 0
IsNoConnect Connect = ⊥
IsNoConnect command = ⊤

steps_obeyed : (command : Command) (now : ℕ) (state : ClientState) → IsNoConnect command → Steps state (obeyed command now state).state
steps_obeyed Connect now state not = absurd not
steps_obeyed Close now state not = steps_moved events.CloseAsked now state (λ is. cc)
steps_obeyed Die now state not = steps_moved events.Died now state (λ is. cc)
steps_obeyed (Attach name) now state not = steps_stepped (attach_step now state) name (Some (channel_or_new (at name state.channels))) state
steps_obeyed (AttachAt name serial) now state not = steps_stepped (attach_step now state) name (Some (channel_from serial)) state
steps_obeyed (Detach name) now state not = steps_stepped (detach_step now state) name (at name state.channels) state
steps_obeyed (Publish name items) now state not = steps_same state _ refl refl refl refl
steps_obeyed (Enter name client payload) now state not = steps_change name (with_own client payload) state _ refl refl refl refl
steps_obeyed (Update name client payload) now state not = steps_change name (with_own client payload) state _ refl refl refl refl
steps_obeyed (Leave name client) now state not = steps_change name (without_own client) state _ refl refl refl refl
steps_obeyed (Operate name ops) now state not = steps_same state _ refl refl refl refl

steps_unless : (o : Option Refusal) (command : Command) (now : ℕ) (state : ClientState) → IsNoConnect command → Steps state (obeyed_unless o command now state).state
steps_unless None command now state not = steps_obeyed command now state not
steps_unless (Some why) command now state not = steps_same state state refl refl refl refl

pub steps_acted : (command : Command) (now : ℕ) (state : ClientState) → IsNoConnect command → Steps state (acted command now state).state
steps_acted command now state not = steps_unless (refusal command state) command now state not

-- FRAMES

steps_entered : (b : Bool) (name : List ℕ) (own : List (List ℕ × List ℕ)) (state after : ClientState) → after.conn ≡ state.conn → after.id ≡ state.id → after.key ≡ state.key → after.answers ≡ state.answers → Steps state (entered_again b name own after).state
steps_entered true name own state after c i k a = steps_same state _ c i k a
steps_entered false name own state after c i k a = steps_same state after c i k a

steps_attached : (o : Option ClientChannel) (name : List ℕ) (told : ChannelSerial) (flags : ℕ) (state : ClientState) → Steps state (attached_in o name told flags state).state
steps_attached None name told flags state = steps_same state state refl refl refl refl
steps_attached (Some channel) name told flags state = steps_entered (is_answer channel) name channel.own state _ refl refl refl refl

steps_error : (o : Option (List ℕ)) (now : ℕ) (state : ClientState) → Steps state (error_got o now state).state
steps_error None now state = steps_moved events.Fatal now state (λ is. cc)
steps_error (Some name) now state = steps_stepped ErrorGot name (at name state.channels) state

pub steps_hears : (frame : Frame) (now : ℕ) (state : ClientState) → IsOther frame → Steps state (hears frame now state).state
steps_hears (frames.Connected id key ttl idle size code) now state other = absurd other
steps_hears (frames.Ack serial count) now state other = absurd other
steps_hears (frames.Nack serial count code) now state other = absurd other
steps_hears (frames.Disconnected code) now state other = steps_moved events.Disconnected now state (λ is. cc)
steps_hears frames.Closed now state other = steps_moved events.ClosedGot now state (λ is. cc)
steps_hears (frames.Error channel code) now state other = steps_error channel now state
steps_hears (frames.Attached name told flags code) now state other = steps_attached (at name state.channels) name told flags state
steps_hears (frames.Detached name code) now state other = steps_stepped (DetachedGot (rules.is_connected state.conn) now) name (at name state.channels) state
steps_hears (frames.Message head items) now state other = steps_channel head.channel (entry_got head.serial (Messages items) now) state
steps_hears (frames.Presence head items) now state other = steps_channel head.channel (entry_got head.serial (Presence items) now) state
steps_hears (frames.Object head ops) now state other = steps_channel head.channel (entry_got head.serial (Objects ops) now) state
steps_hears (frames.Sync name cursor items) now state other = steps_channel name (page_got cursor items) state
steps_hears (frames.ObjectSync name cursor states) now state other = steps_channel name (object_page_got cursor states now) state
steps_hears frame now state other = steps_same state state refl refl refl refl

-- TIME

steps_waited : (b : Bool) (state next : ClientState) → next.conn ≡ state.conn → next.id ≡ state.id → next.key ≡ state.key → next.answers ≡ state.answers → Steps state (if b then next else state)
steps_waited true state next c i k a = steps_same state next c i k a
steps_waited false state next c i k a = steps_same state state refl refl refl refl

steps_aged : (past silent : Bool) (now : ℕ) (state : ClientState) → Steps state (if past then moving [] events.Ttl now state else if silent then moving [] events.Down now state else quietly (waited now state)).state
steps_aged true silent now state = steps_moved events.Ttl now state (λ is. cc)
steps_aged false true now state = steps_moved events.Down now state (λ is. cc)
steps_aged false false now state = steps_waited (rules.is_connected state.conn) state _ refl refl refl refl

pub steps_ticked : (now : ℕ) (state : ClientState) → Steps state (ticked now state).state
steps_ticked now state = let c = steps_aged (is_past_ttl now state) (is_silent now state) now state in record { connecting = c.connecting; initial = c.initial; answers = c.answers; keys = c.keys }
