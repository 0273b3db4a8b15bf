-- What a client does but by an acknowledgement and by CONNECTED: the connection does not come to stand, and nothing is told.
use Rattle.std.proofs.Common.{◌≡◌, ℕ, Bool, true, false, List, [], refl, ◌∙◌, subst}
use Rattle.std.specs.Prelude.{Option, Some, None, if◌then◌else◌, ⊤, is_none, ◌&&◌}
use Rattle.rl_ids.specs.declared.serials.ChannelSerial.{ChannelSerial}
use Rattle.rl_types.specs.declared.frames.Frame.{Frame}
use Rattle.rl_types.specs.declared.frames.Frame.TheVariants as frames
use Rattle.rl_types.specs.declared.messages.Body.TheVariants.{Messages, Presence, Objects}
use Rattle.rl_types.specs.declared.states.ConnState.{ConnState}
use Rattle.rl_types.specs.declared.states.ConnState.TheVariants as conn
use Rattle.rl_runs.specs.declared.commands.Command.{Command}
use Rattle.rl_runs.specs.declared.commands.Command.TheVariants.{Connect, Close, Die, Attach, AttachAt, Detach, Publish, Enter, Update, Leave, Operate}
use Rattle.rl_runs.specs.declared.commands.RecoveryKey.{RecoveryKey}
use Rattle.rl_connsm.specs.Table.{conn_table}
use Rattle.rl_connsm.specs.Rules.{forgets_connection}
use Rattle.rl_connsm.specs.Rules as rules
use Rattle.rl_connsm.specs.declared.table.ConnEvent.{ConnEvent}
use Rattle.rl_connsm.specs.declared.table.ConnEvent.TheVariants as events
use Rattle.rl_names.specs.Names.{at}
use Rattle.rl_clientmodel.specs.declared.steps.ChannelStep.{ChannelStep}
use Rattle.rl_clientmodel.specs.declared.steps.ChannelStep.TheVariants.{DetachedGot, ErrorGot}
use Rattle.rl_clientmodel.specs.Channels.{ClientChannel, channel_from}
use Rattle.rl_clientmodel.specs.Entries.{entry_got, page_got, object_page_got}
use Rattle.rl_clientmodel.specs.States.{ClientState, quietly, changed, change_channel, stepped, forgotten, state_after, conn_moved, moving}
use Rattle.rl_clientmodel.specs.Commands.{Refusal, refusal, acted, obeyed, obeyed_unless, attach_step, detach_step, channel_or_new, with_own, without_own}
use Rattle.rl_clientmodel.specs.Hearing.{hears, attached_in, entered_again, error_got}
use Rattle.rl_clientmodel.specs.Answers.{is_answer}
use Rattle.rl_clientmodel.specs.Times.{unlinked, ticked, is_past_ttl, is_silent, waited}
use Rattle.rl_clientmodel.specs.Keys.{may_recover, is_empty, recovered, with_key}
use Rattle.rl_worldtold.specs.Truth.{IsOn}

pub record Calm (before after : ClientState) : Type 0 where
  pub on : IsOn after.conn → IsOn before.conn × (after.id ≡ before.id)
  pub answers : after.answers ≡ before.answers

abbrev pub IsNotConnected : ConnEvent → Type 0
IsNotConnected events.Connected = ⊥
IsNotConnected event = ⊤

-- only CONNECTED makes a connection stand
on_table : (c : ConnState) (b : Bool) (event : ConnEvent) → IsNotConnected event → IsOn (conn_table c b event) → IsOn c
on_table conn.Connected b event not on = tt
on_table conn.Closing b event not on = tt
on_table conn.Initialized b events.Connect not on = on
on_table conn.Initialized b events.Connected not on = absurd not
on_table conn.Initialized b events.Down not on = on
on_table conn.Initialized b events.Disconnected not on = on
on_table conn.Initialized b events.Fatal not on = on
on_table conn.Initialized b events.Ttl not on = on
on_table conn.Initialized b events.CloseAsked not on = on
on_table conn.Initialized b events.ClosedGot not on = on
on_table conn.Initialized b events.Died not on = on
on_table conn.Connecting b events.Connect not on = on
on_table conn.Connecting b events.Connected not on = absurd not
on_table conn.Connecting true events.Down not on = on
on_table conn.Connecting false events.Down not on = on
on_table conn.Connecting true events.Disconnected not on = on
on_table conn.Connecting false events.Disconnected not on = on
on_table conn.Connecting b events.Fatal not on = on
on_table conn.Connecting b events.Ttl not on = on
on_table conn.Connecting b events.CloseAsked not on = on
on_table conn.Connecting b events.ClosedGot not on = on
on_table conn.Connecting b events.Died not on = on
on_table conn.Disconnected b events.Connect not on = on
on_table conn.Disconnected b events.Connected not on = absurd not
on_table conn.Disconnected b events.Down not on = on
on_table conn.Disconnected b events.Disconnected not on = on
on_table conn.Disconnected b events.Fatal not on = on
on_table conn.Disconnected b events.Ttl not on = on
on_table conn.Disconnected b events.CloseAsked not on = on
on_table conn.Disconnected b events.ClosedGot not on = on
on_table conn.Disconnected b events.Died not on = on
on_table conn.Suspended b events.Connect not on = on
on_table conn.Suspended b events.Connected not on = absurd not
on_table conn.Suspended b events.Down not on = on
on_table conn.Suspended b events.Disconnected not on = on
on_table conn.Suspended b events.Fatal not on = on
on_table conn.Suspended b events.Ttl not on = on
on_table conn.Suspended b events.CloseAsked not on = on
on_table conn.Suspended b events.ClosedGot not on = on
on_table conn.Suspended b events.Died not on = on
on_table conn.Closed b events.Connect not on = on
on_table conn.Closed b events.Connected not on = absurd not
on_table conn.Closed b events.Down not on = on
on_table conn.Closed b events.Disconnected not on = on
on_table conn.Closed b events.Fatal not on = on
on_table conn.Closed b events.Ttl not on = on
on_table conn.Closed b events.CloseAsked not on = on
on_table conn.Closed b events.ClosedGot not on = on
on_table conn.Closed b events.Died not on = on
on_table conn.Failed b events.Connect not on = on
on_table conn.Failed b events.Connected not on = absurd not
on_table conn.Failed b events.Down not on = on
on_table conn.Failed b events.Disconnected not on = on
on_table conn.Failed b events.Fatal not on = on
on_table conn.Failed b events.Ttl not on = on
on_table conn.Failed b events.CloseAsked not on = on
on_table conn.Failed b events.ClosedGot not on = on
on_table conn.Failed b events.Died not on = on

-- where the connection is given up it does not stand
off_forgets : (c : ConnState) → forgets_connection c ≡ true → IsOn c → ⊥
off_forgets conn.Connected is on = absurd (cc)
off_forgets conn.Closing is on = absurd (cc)
off_forgets c is on = on

forgot_calm : (b : Bool) (before s : ClientState) → forgets_connection s.conn ≡ b → (IsOn s.conn → IsOn before.conn) → s.id ≡ before.id → s.answers ≡ before.answers → Calm before (forgotten b s)
forgot_calm true before s is on id answers = record { on = λ stands. absurd (off_forgets s.conn is stands); answers = answers }
forgot_calm false before s is on id answers = record { on = λ stands. (on stands, id); answers = answers }

pub calm_moved : (event : ConnEvent) (now : ℕ) (state : ClientState) → IsNotConnected event → Calm state (conn_moved event now state)
calm_moved event now state not =
    forgot_calm (forgets_connection (state_after event state)) state _ refl (on_table state.conn state.from_suspended event not) refl refl

pub calm_same : (state after : ClientState) → after.conn ≡ state.conn → after.id ≡ state.id → after.answers ≡ state.answers → Calm state after
calm_same state after c i a = record { on = λ on. (subst IsOn c on, i); answers = a }

pub calm_unlinked : (now : ℕ) (state : ClientState) → Calm state (unlinked now state).state
calm_unlinked now state = calm_moved events.Down now state tt

-- COMMANDS

calm_stepped : (step : ChannelStep) (name : List ℕ) (o : Option ClientChannel) (state : ClientState) → Calm state (stepped step name o state).state
calm_stepped step name None state = calm_same state state refl refl refl
calm_stepped step name (Some channel) state = calm_same state _ refl refl refl

changed_conn : (name : List ℕ) (change : ClientChannel → ClientChannel) (o : Option ClientChannel) (s : ClientState) → (changed name change o s).conn ≡ s.conn
changed_conn name change None s = refl
changed_conn name change (Some channel) s = refl

changed_id : (name : List ℕ) (change : ClientChannel → ClientChannel) (o : Option ClientChannel) (s : ClientState) → (changed name change o s).id ≡ s.id
changed_id name change None s = refl
changed_id name change (Some channel) s = refl

changed_answers : (name : List ℕ) (change : ClientChannel → ClientChannel) (o : Option ClientChannel) (s : ClientState) → (changed name change o s).answers ≡ s.answers
changed_answers name change None s = refl
changed_answers name change (Some channel) s = refl

-- a change of a channel, and of what else is not looked at here
calm_change : (name : List ℕ) (change : ClientChannel → ClientChannel) (state after : ClientState) → after.conn ≡ (change_channel name change state).conn → after.id ≡ (change_channel name change state).id → after.answers ≡ (change_channel name change state).answers → Calm state after
calm_change name change state after c i a =
    calm_same state after (c ∙ changed_conn name change (at name state.channels) state) (i ∙ changed_id name change (at name state.channels) state) (a ∙ changed_answers name change (at name state.channels) state)

calm_channel : (name : List ℕ) (change : ClientChannel → ClientChannel) (state : ClientState) → Calm state (change_channel name change state)
calm_channel name change state = calm_change name change state (change_channel name change state) refl refl refl

calm_obeyed : (command : Command) (now : ℕ) (state : ClientState) → Calm state (obeyed command now state).state
calm_obeyed Connect now state = calm_moved events.Connect now state tt
calm_obeyed Close now state = calm_moved events.CloseAsked now state tt
calm_obeyed Die now state = calm_moved events.Died now state tt
calm_obeyed (Attach name) now state = calm_stepped (attach_step now state) name (Some (channel_or_new (at name state.channels))) state
calm_obeyed (AttachAt name serial) now state = calm_stepped (attach_step now state) name (Some (channel_from serial)) state
calm_obeyed (Detach name) now state = calm_stepped (detach_step now state) name (at name state.channels) state
calm_obeyed (Publish name items) now state = calm_same state _ refl refl refl
calm_obeyed (Enter name client payload) now state = calm_change name (with_own client payload) state _ refl refl refl
calm_obeyed (Update name client payload) now state = calm_change name (with_own client payload) state _ refl refl refl
calm_obeyed (Leave name client) now state = calm_change name (without_own client) state _ refl refl refl
calm_obeyed (Operate name ops) now state = calm_same state _ refl refl refl

calm_unless : (o : Option Refusal) (command : Command) (now : ℕ) (state : ClientState) → Calm state (obeyed_unless o command now state).state
calm_unless None command now state = calm_obeyed command now state
calm_unless (Some why) command now state = calm_same state state refl refl refl

pub calm_acted : (command : Command) (now : ℕ) (state : ClientState) → Calm state (acted command now state).state
calm_acted command now state = calm_unless (refusal command state) command now state

-- FRAMES

abbrev pub IsOther : Frame → Type 0
IsOther (frames.Connected id key ttl idle size code) = ⊥
IsOther (frames.Ack serial count) = ⊥
IsOther (frames.Nack serial count code) = ⊥
IsOther frame = ⊤

calm_entered : (b : Bool) (name : List ℕ) (own : List (List ℕ × List ℕ)) (state after : ClientState) → after.conn ≡ state.conn → after.id ≡ state.id → after.answers ≡ state.answers → Calm state (entered_again b name own after).state
calm_entered true name own state after c i a = calm_same state _ c i a
calm_entered false name own state after c i a = calm_same state after c i a

calm_attached : (o : Option ClientChannel) (name : List ℕ) (told : ChannelSerial) (flags : ℕ) (state : ClientState) → Calm state (attached_in o name told flags state).state
calm_attached None name told flags state = calm_same state state refl refl refl
calm_attached (Some channel) name told flags state = calm_entered (is_answer channel) name channel.own state _ refl refl refl

calm_error : (o : Option (List ℕ)) (now : ℕ) (state : ClientState) → Calm state (error_got o now state).state
calm_error None now state = calm_moved events.Fatal now state tt
calm_error (Some name) now state = calm_stepped ErrorGot name (at name state.channels) state

pub calm_hears : (frame : Frame) (now : ℕ) (state : ClientState) → IsOther frame → Calm state (hears frame now state).state
calm_hears (frames.Connected id key ttl idle size code) now state other = absurd other
calm_hears (frames.Ack serial count) now state other = absurd other
calm_hears (frames.Nack serial count code) now state other = absurd other
calm_hears (frames.Disconnected code) now state other = calm_moved events.Disconnected now state tt
calm_hears frames.Closed now state other = calm_moved events.ClosedGot now state tt
calm_hears (frames.Error channel code) now state other = calm_error channel now state
calm_hears (frames.Attached name told flags code) now state other = calm_attached (at name state.channels) name told flags state
calm_hears (frames.Detached name code) now state other = calm_stepped (DetachedGot (rules.is_connected state.conn) now) name (at name state.channels) state
calm_hears (frames.Message head items) now state other = calm_channel head.channel (entry_got head.serial (Messages items) now) state
calm_hears (frames.Presence head items) now state other = calm_channel head.channel (entry_got head.serial (Presence items) now) state
calm_hears (frames.Object head ops) now state other = calm_channel head.channel (entry_got head.serial (Objects ops) now) state
calm_hears (frames.Sync name cursor items) now state other = calm_channel name (page_got cursor items) state
calm_hears (frames.ObjectSync name cursor states) now state other = calm_channel name (object_page_got cursor states now) state
calm_hears frame now state other = calm_same state state refl refl refl

-- TIME AND RECOVERY

calm_waited : (b : Bool) (state next : ClientState) → next.conn ≡ state.conn → next.id ≡ state.id → next.answers ≡ state.answers → Calm state (if b then next else state)
calm_waited true state next c i a = calm_same state next c i a
calm_waited false state next c i a = calm_same state state refl refl refl

calm_aged : (past silent : Bool) (now : ℕ) (state : ClientState) → Calm state (if past then moving [] events.Ttl now state else if silent then moving [] events.Down now state else quietly (waited now state)).state
calm_aged true silent now state = calm_moved events.Ttl now state tt
calm_aged false true now state = calm_moved events.Down now state tt
calm_aged false false now state = calm_waited (rules.is_connected state.conn) state _ refl refl refl

pub calm_ticked : (now : ℕ) (state : ClientState) → Calm state (ticked now state).state
calm_ticked now state = let c = calm_aged (is_past_ttl now state) (is_silent now state) now state in record { on = c.on; answers = c.answers }

and_first : (a b c d : Bool) → (a && b && c && d) ≡ true → a ≡ true
and_first true b c d is = refl
and_first false b c d is = absurd (cc)

-- a client that may recover has no connection that stands
recovers_off : (c : ConnState) → rules.may_recover c ≡ true → IsOn c → ⊥
recovers_off conn.Connected is on = absurd (cc)
recovers_off conn.Closing is on = absurd (cc)
recovers_off c is on = on

calm_recovered_by : (b : Bool) (key : RecoveryKey) (state : ClientState) → may_recover state ≡ b → Calm state (if b then with_key key state else state)
calm_recovered_by true key state is = record { on = λ on. absurd (recovers_off state.conn (and_first (rules.may_recover state.conn) (is_empty state.channels) (is_none state.key) (is_empty state.queue.pending) is) on); answers = refl }
calm_recovered_by false key state is = calm_same state state refl refl refl

pub calm_recovered : (key : RecoveryKey) (state : ClientState) → Calm state (recovered key state)
calm_recovered key state = calm_recovered_by (may_recover state) key state refl
