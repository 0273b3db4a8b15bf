-- The names of a client's channels rise, whatever it does.
use Rattle.std.proofs.Common.{◌≡◌, ℕ, Bool, true, false, List, [], ◌∷◌, sym, subst}
use Rattle.std.specs.Prelude.{Option, Some, None, filter_map, if◌then◌else◌, map, option_map}
use Rattle.std.specs.Ordering.{nat_cmp}
use Rattle.std.specs.declared.cmp.Ordering.TheVariants.{Less}
use Rattle.std.specs.Cmp.Lexicographic.{slice_cmp}
use Rattle.std.specs.List.{AllByRecursion, cons_option}
use Rattle.rl_ids.specs.declared.serials.ChannelSerial.{ChannelSerial}
use Rattle.rl_types.specs.declared.messages.Body.TheVariants.{Messages, Presence, Objects}
use Rattle.rl_types.specs.declared.frames.Frame.{Frame}
use Rattle.rl_types.specs.declared.frames.Frame.TheVariants as frames
use Rattle.rl_types.specs.declared.states.ConnState.{ConnState}
use Rattle.rl_runs.specs.declared.commands.Command.{Command}
use Rattle.rl_runs.specs.declared.commands.Command.TheVariants.{Connect, Close, Die, Attach, AttachAt, Detach, Publish, Enter, Update, Leave, Operate}
use Rattle.rl_runs.specs.declared.commands.RecoveryKey.{RecoveryKey}
use Rattle.rl_runs.specs.declared.findings.Answer.{Answer}
use Rattle.rl_runs.specs.declared.findings.Answer.TheVariants.{Ack, Nack}
use Rattle.rl_connsm.specs.declared.table.ConnEvent.{ConnEvent}
use Rattle.rl_connsm.specs.declared.table.ConnEvent.TheVariants as events
use Rattle.rl_connsm.specs.Rules.{awaits_connected, gives_recovery_key, is_connected, loses_link, opens_link, takes_acknowledgements}
use Rattle.rl_chansm.specs.declared.table.ChanEvent.{ChanEvent}
use Rattle.rl_chansm.specs.Connection.{event_of}
use Rattle.rl_names.specs.Names.{at, each, with_entry}
use Rattle.rl_actormodel.proofs.Named.{Rising, rising_with}
use Rattle.rl_clientmodel.specs.declared.steps.ChannelStep.{ChannelStep}
use Rattle.rl_clientmodel.specs.declared.steps.ChannelStep.TheVariants as kinds
use Rattle.rl_clientmodel.specs.Channels.{ClientChannel, channel_after, channel_from}
use Rattle.rl_clientmodel.specs.Answers.{attached_got, is_answer}
use Rattle.rl_clientmodel.specs.Entries.{entry_got, object_page_got, page_got}
use Rattle.rl_clientmodel.specs.States.{ClientState, new_state, Turn, changed, conn_moved, quietly, state_after, step_by, step_if, stepped, with_channel}
use Rattle.rl_clientmodel.specs.Commands.{Refusal, refusal, acted, attach_step, channel_or_new, detach_step, obeyed, obeyed_unless, with_own, without_own}
use Rattle.rl_clientmodel.specs.Hearing.{attached_in, entered_again, heard, hears, id_of, settle}
use Rattle.rl_clientmodel.specs.Times.{aged, is_past_ttl, is_silent, ticked, unlinked, waited}
use Rattle.rl_clientmodel.specs.Keys.{channel_of_serial, key_with, may_recover, recovered, recovery_key, serial_held, with_key}
use Rattle.rl_objmodel.specs.Places.{AreRising}
use Rattle.rl_worldlanes.specs.Following.{HasRisingNames}
use Rattle.rl_worldlanes.proofs.Connection.{moved_channels}

-- ENTRIES

rise_up : (es : List (List ℕ × ClientChannel)) → Rising es → AreRising es
rise_up [] h = tt
rise_up (e ∷ es) h = (h.0, rise_up es h.1)

rise_down : (es : List (List ℕ × ClientChannel)) → AreRising es → Rising es
rise_down [] h = tt
rise_down (e ∷ es) h = (h.0, rise_down es h.1)

-- one entry is put in
pub rise_with : (name : List ℕ) (v : ClientChannel) (es : List (List ℕ × ClientChannel)) → AreRising es → AreRising (with_entry name v es)
rise_with name v es h = rise_up (with_entry name v es) (rising_with name v es (rise_down es h))

all_each : (name : List ℕ) (f : ClientChannel → ClientChannel) (es : List (List ℕ × ClientChannel)) → AllByRecursion (λ (o : List ℕ × ClientChannel). slice_cmp nat_cmp name o.0 ≡ Less) es
    → AllByRecursion (λ (o : List ℕ × ClientChannel). slice_cmp nat_cmp name o.0 ≡ Less) (each f es)
all_each name f [] h = tt
all_each name f (e ∷ es) h = (h.0, all_each name f es h.1)

-- each channel is changed
pub rise_each : (f : ClientChannel → ClientChannel) (es : List (List ℕ × ClientChannel)) → AreRising es → AreRising (each f es)
rise_each f [] h = tt
rise_each f (e ∷ es) h = (all_each e.0 f es h.0, rise_each f es h.1)

-- PARTS OF A TURN

rise_changed : (name : List ℕ) (f : ClientChannel → ClientChannel) (o : Option ClientChannel) (state : ClientState) → HasRisingNames state → HasRisingNames (changed name f o state)
rise_changed name f None state h = h
rise_changed name f (Some channel) state h = rise_with name (f channel) state.channels h

rise_stepped : (step : ChannelStep) (name : List ℕ) (o : Option ClientChannel) (state : ClientState) → HasRisingNames state → HasRisingNames (stepped step name o state).state
rise_stepped step name None state h = h
rise_stepped step name (Some channel) state h = rise_with name (channel_after step channel) state.channels h

rise_if : (b : Bool) (step : ChannelStep) (es : List (List ℕ × ClientChannel)) → AreRising es → AreRising (step_if b step es)
rise_if true step es h = rise_each (channel_after step) es h
rise_if false step es h = h

rise_by : (o : Option ChanEvent) (now : ℕ) (es : List (List ℕ × ClientChannel)) → AreRising es → AreRising (step_by o now es)
rise_by None now es h = h
rise_by (Some one) now es h = rise_each (channel_after (kinds.Moves one true now)) es h

-- a step of the connection
pub names_moved : (one : ConnEvent) (now : ℕ) (state : ClientState) → HasRisingNames state → HasRisingNames (conn_moved one now state)
names_moved one now state h =
    let after : ConnState = state_after one state in
    subst AreRising (sym (moved_channels one now state))
    (rise_if (opens_link state.conn after) kinds.LinkOpened (step_if (loses_link one state.conn after) kinds.LinkLost (step_by (event_of state.conn after) now state.channels))
    (rise_if (loses_link one state.conn after) kinds.LinkLost (step_by (event_of state.conn after) now state.channels)
    (rise_by (event_of state.conn after) now state.channels h)))

-- COMMANDS

names_obeyed : (command : Command) (now : ℕ) (state : ClientState) → HasRisingNames state → HasRisingNames (obeyed command now state).state
names_obeyed Connect now state h = names_moved events.Connect now state h
names_obeyed Close now state h = names_moved events.CloseAsked now state h
names_obeyed Die now state h = names_moved events.Died now state h
names_obeyed (Attach name) now state h = rise_stepped (attach_step now state) name (Some (channel_or_new (at name state.channels))) state h
names_obeyed (AttachAt name serial) now state h = rise_stepped (attach_step now state) name (Some (channel_from serial)) state h
names_obeyed (Detach name) now state h = rise_stepped (detach_step now state) name (at name state.channels) state h
names_obeyed (Publish name items) now state h = h
names_obeyed (Enter name client payload) now state h = rise_changed name (with_own client payload) (at name state.channels) state h
names_obeyed (Update name client payload) now state h = rise_changed name (with_own client payload) (at name state.channels) state h
names_obeyed (Leave name client) now state h = rise_changed name (without_own client) (at name state.channels) state h
names_obeyed (Operate name ops) now state h = h

names_unless : (r : Option Refusal) (command : Command) (now : ℕ) (state : ClientState) → HasRisingNames state → HasRisingNames (obeyed_unless r command now state).state
names_unless None command now state h = names_obeyed command now state h
names_unless (Some refused) command now state h = h

pub names_acted : (command : Command) (now : ℕ) (state : ClientState) → HasRisingNames state → HasRisingNames (acted command now state).state
names_acted command now state h = names_unless (refusal command state) command now state h

-- THE LINK IS LOST, AND TIME

pub names_unlinked : (now : ℕ) (state : ClientState) → HasRisingNames state → HasRisingNames (unlinked now state).state
names_unlinked now state h = names_moved events.Down now state h

waited_if : (b : Bool) (now : ℕ) (state : ClientState) → HasRisingNames state → HasRisingNames (if b then record state { channels = each (channel_after (kinds.Waited now)) state.channels } else state)
waited_if true now state h = rise_each (channel_after (kinds.Waited now)) state.channels h
waited_if false now state h = h

aged_if : (b c : Bool) (now : ℕ) (state : ClientState) (past silent : Turn) → HasRisingNames state → HasRisingNames past.state → HasRisingNames silent.state
    → HasRisingNames (if b then past else if c then silent else quietly (waited now state)).state
aged_if true c now state past silent h p s = p
aged_if false true now state past silent h p s = s
aged_if false false now state past silent h p s = waited_if (is_connected state.conn) now state h

pub names_ticked : (now : ℕ) (state : ClientState) → HasRisingNames state → HasRisingNames (ticked now state).state
names_ticked now state h =
    rise_each (channel_after (kinds.Collects now)) (aged now state).state.channels
    (aged_if (is_past_ttl now state) (is_silent now state) now state _ _ h (names_moved events.Ttl now state h) (names_moved events.Down now state h))

-- FRAMES

rise_entered : (b : Bool) (name : List ℕ) (own : List (List ℕ × List ℕ)) (state : ClientState) → HasRisingNames state → HasRisingNames (entered_again b name own state).state
rise_entered true name own state h = h
rise_entered false name own state h = h

rise_attached : (o : Option ClientChannel) (name : List ℕ) (told : ChannelSerial) (flags : ℕ) (state : ClientState) → HasRisingNames state → HasRisingNames (attached_in o name told flags state).state
rise_attached None name told flags state h = h
rise_attached (Some channel) name told flags state h =
    rise_entered (is_answer channel) name channel.own (with_channel name (attached_got flags told channel) state) (rise_with name (attached_got flags told channel) state.channels h)

rise_turn : (b : Bool) (first second : Turn) → HasRisingNames first.state → HasRisingNames second.state → HasRisingNames (if b then first else second).state
rise_turn true first second one other = one
rise_turn false first second one other = other

rise_settled : (b : Bool) (serial count : ℕ) (answer : ℕ → Answer) (state : ClientState) → HasRisingNames state → HasRisingNames (if b then settle serial count answer state else state)
rise_settled true serial count answer state h = h
rise_settled false serial count answer state h = h

names_hears : (frame : Frame) (now : ℕ) (state : ClientState) → HasRisingNames state → HasRisingNames (hears frame now state).state
names_hears (frames.Connected id key ttl idle size code) now state h = rise_turn (awaits_connected state.conn) _ (quietly state) (names_moved events.Connected now state h) h
names_hears (frames.Ack serial count) now state h = rise_settled (takes_acknowledgements state.conn) serial count (λ n. Ack (id_of state.id) n) state h
names_hears (frames.Nack serial count code) now state h = rise_settled (takes_acknowledgements state.conn) serial count (λ n. Nack (id_of state.id) n code) state h
names_hears (frames.Disconnected code) now state h = names_moved events.Disconnected now state h
names_hears frames.Closed now state h = names_moved events.ClosedGot now state h
names_hears (frames.Error None code) now state h = names_moved events.Fatal now state h
names_hears (frames.Error (Some name) code) now state h = rise_stepped kinds.ErrorGot name (at name state.channels) state h
names_hears (frames.Attached name told flags code) now state h = rise_attached (at name state.channels) name told flags state h
names_hears (frames.Detached name code) now state h = rise_stepped (kinds.DetachedGot (is_connected state.conn) now) name (at name state.channels) state h
names_hears (frames.Message head items) now state h = rise_changed head.channel (entry_got head.serial (Messages items) now) (at head.channel state.channels) state h
names_hears (frames.Presence head items) now state h = rise_changed head.channel (entry_got head.serial (Presence items) now) (at head.channel state.channels) state h
names_hears (frames.Object head ops) now state h = rise_changed head.channel (entry_got head.serial (Objects ops) now) (at head.channel state.channels) state h
names_hears (frames.Sync name at_ items) now state h = rise_changed name (page_got at_ items) (at name state.channels) state h
names_hears (frames.ObjectSync name at_ states) now state h = rise_changed name (object_page_got at_ states now) (at name state.channels) state h
names_hears frames.Heartbeat now state h = h
names_hears frames.Connect now state h = h
names_hears frames.Disconnect now state h = h
names_hears frames.Close now state h = h
names_hears (frames.Attach name given) now state h = h
names_hears (frames.Detach name) now state h = h
names_hears frames.Auth now state h = h

pub names_heard : (frame : Frame) (now : ℕ) (state : ClientState) → HasRisingNames state → HasRisingNames (heard (Some frame) now state).state
names_heard frame now state h = names_hears frame now (record state { got_at = now }) h

-- A NEW CLIENT

pub names_new : (name : List ℕ) → HasRisingNames (new_state name)
names_new name = tt

-- RECOVERY: a key's names rise where those of the client do that gave it

-- the channels that a key makes
abbrev pub channels_in : List (List ℕ × ChannelSerial) → List (List ℕ × ClientChannel)
channels_in serials = map channel_of_serial serials

held_above : (name : List ℕ) (es : List (List ℕ × ClientChannel)) → AllByRecursion (λ (o : List ℕ × ClientChannel). slice_cmp nat_cmp name o.0 ≡ Less) es
    → AllByRecursion (λ (o : List ℕ × ClientChannel). slice_cmp nat_cmp name o.0 ≡ Less) (channels_in (filter_map serial_held es))
held_above name [] h = tt
held_above name (e ∷ es) h = by_held e.1.held (held_above name es h.1) where
  by_held : (o : Option ChannelSerial) → AllByRecursion (λ (o : List ℕ × ClientChannel). slice_cmp nat_cmp name o.0 ≡ Less) (channels_in (filter_map serial_held es))
      → AllByRecursion (λ (o : List ℕ × ClientChannel). slice_cmp nat_cmp name o.0 ≡ Less)
      (channels_in (cons_option (option_map (λ (serial : ChannelSerial). (e.0, serial)) o) (filter_map serial_held es)))
  by_held None rest = rest
  by_held (Some serial) rest = (h.0, rest)

held_rise : (es : List (List ℕ × ClientChannel)) → AreRising es → AreRising (channels_in (filter_map serial_held es))
held_rise [] h = tt
held_rise (e ∷ es) h = by_held e.1.held (held_rise es h.1) where
  by_held : (o : Option ChannelSerial) → AreRising (channels_in (filter_map serial_held es))
      → AreRising (channels_in (cons_option (option_map (λ (serial : ChannelSerial). (e.0, serial)) o) (filter_map serial_held es)))
  by_held None rest = rest
  by_held (Some serial) rest = (held_above e.0 es h.0, rest)

key_rises : (o : Option (List ℕ)) (lost : ClientState) (key : RecoveryKey) → key_with o lost ≡ Some key → HasRisingNames lost → AreRising (channels_in key.serials)
key_rises None lost key is h = absurd (cc)
key_rises (Some text) lost key is h =
    let it : ◌≡◌ {A = RecoveryKey} (record { key = text; next = lost.queue.next; serials = filter_map serial_held lost.channels }) key = cc in
    subst (λ (k : RecoveryKey). AreRising (channels_in k.serials)) it (held_rise lost.channels h)

pub names_of_key : (lost : ClientState) (key : RecoveryKey) → recovery_key lost ≡ Some key → HasRisingNames lost → AreRising (channels_in key.serials)
names_of_key lost key is h = by_state (gives_recovery_key lost.conn) is where
  by_state : (b : Bool) → (if b then key_with lost.key lost else None) ≡ Some key → AreRising (channels_in key.serials)
  by_state true is = key_rises lost.key lost key is h
  by_state false is = absurd (cc)

recovered_if : (b : Bool) (key : RecoveryKey) (state : ClientState) → AreRising (channels_in key.serials) → HasRisingNames state → HasRisingNames (if b then with_key key state else state)
recovered_if true key state k h = k
recovered_if false key state k h = h

-- a key whose names rise
pub names_with_key : (key : RecoveryKey) (state : ClientState) → AreRising (channels_in key.serials) → HasRisingNames state → HasRisingNames (recovered key state)
names_with_key key state k h = recovered_if (may_recover state) key state k h

-- a key that another client gave
pub names_recovered : (lost : ClientState) (key : RecoveryKey) (state : ClientState) → recovery_key lost ≡ Some key → HasRisingNames lost → HasRisingNames state → HasRisingNames (recovered key state)
names_recovered lost key state is given h = names_with_key key state (names_of_key lost key is given) h
