-- The frames of a client that wait for an acknowledgement ask nothing of a session, whatever the client does.
use Rattle.std.proofs.Common.{◌≡◌, ℕ, Bool, true, false, cond, not, List, [], ◌∷◌, ◌++◌, refl, ◌∙◌, ap}
use Rattle.std.specs.Prelude.{Option, Some, None, flat_map, if◌then◌else◌, map}
use Rattle.std.specs.List.{filter}
use Rattle.rl_ids.specs.declared.serials.ChannelSerial.{ChannelSerial}
use Rattle.rl_types.specs.declared.messages.Body.TheVariants.{Messages, Presence, Objects}
use Rattle.rl_types.specs.declared.presence.PresenceAction.TheVariants as presence
use Rattle.rl_types.specs.declared.frames.Frame.{Frame}
use Rattle.rl_types.specs.declared.frames.Frame.TheVariants as frames
use Rattle.rl_runs.specs.declared.commands.Command.{Command}
use Rattle.rl_runs.specs.declared.commands.Command.TheVariants.{Connect, Close, Die, Attach, AttachAt, Detach, Publish, Enter, Update, Leave, Operate}
use Rattle.rl_runs.specs.declared.commands.RecoveryKey.{RecoveryKey}
use Rattle.rl_runs.specs.declared.findings.Answer.{Answer}
use Rattle.rl_runs.specs.declared.findings.Answer.TheVariants.{Ack, Nack}
use Rattle.rl_connsm.specs.declared.table.ConnEvent.{ConnEvent}
use Rattle.rl_connsm.specs.declared.table.ConnEvent.TheVariants as events
use Rattle.rl_connsm.specs.Rules.{awaits_connected, forgets_connection, is_connected, takes_acknowledgements}
use Rattle.rl_ackq.specs.declared.pending.Pending.{Pending}
use Rattle.rl_ackq.specs.Frames.{with_serial}
use Rattle.rl_ackq.specs.Queue.{Queue, is_covered, is_full, pending_as, pushed, settled}
use Rattle.rl_ackq.specs.Queue as queues
use Rattle.rl_names.specs.Names.{at}
use Rattle.rl_clientmodel.specs.declared.steps.ChannelStep.{ChannelStep}
use Rattle.rl_clientmodel.specs.declared.steps.ChannelStep.TheVariants as kinds
use Rattle.rl_clientmodel.specs.Channels.{ClientChannel, channel_from}
use Rattle.rl_clientmodel.specs.Answers.{attached_got, is_answer}
use Rattle.rl_clientmodel.specs.Entries.{entry_got, object_page_got, page_got}
use Rattle.rl_clientmodel.specs.States.{ClientState, new_state, Turn, changed, conn_moved, forgotten, quietly, state_after, stepped, with_channel}
use Rattle.rl_clientmodel.specs.Commands.{Refusal, refusal, acted, attach_step, channel_or_new, detach_step, enqueued, head_on, obeyed, obeyed_unless, presence_frame, unnumbered, with_own, without_own}
use Rattle.rl_clientmodel.specs.Hearing.{all_pushed, attached_in, entered_again, entering, heard, hears, id_of, settle}
use Rattle.rl_clientmodel.specs.Times.{is_past_ttl, is_silent, ticked, unlinked, waited}
use Rattle.rl_clientmodel.specs.Keys.{may_recover, recovered, with_key}
use Rattle.rl_worldlanes.specs.Views.{asks_of}
use Rattle.rl_worldlanes.specs.Following.{AsksNothing}
use Rattle.rl_worldlanes.proofs.Lanes.{flat_append}
use Rattle.rl_worldlanes.proofs.Hearing.{AskNone, both, no_more, none_queued}

-- QUEUES

frames_append : (xs ys : List Pending) → queues.frames (xs ++ ys) ≡ queues.frames xs ++ queues.frames ys
frames_append [] ys = refl
frames_append (x ∷ xs) ys = ap (λ (zs : List Frame). x.frame ∷ zs) (frames_append xs ys)

-- one frame more
none_pushed : (q : List ℕ) (frame : Frame) (queue : Queue) → asks_of q (with_serial queue.next frame) ≡ [] → AskNone q queue.pending → AskNone q (pushed frame queue).pending
none_pushed q frame queue none h =
    ap (flat_map (asks_of q)) (frames_append queue.pending (pending_as queue.next frame ∷ []))
    ∙ flat_append (asks_of q) (queues.frames queue.pending) (with_serial queue.next frame ∷ [])
    ∙ both (flat_map (asks_of q) (queues.frames queue.pending)) (asks_of q (with_serial queue.next frame) ++ []) h (both (asks_of q (with_serial queue.next frame)) [] none refl)

-- fewer frames
none_filtered : (q : List ℕ) (p : Pending → Bool) (pending : List Pending) → AskNone q pending → AskNone q (filter p pending)
none_filtered q p [] none = refl
none_filtered q p (one ∷ rest) none =
    let parts = no_more (asks_of q one.frame) (flat_map (asks_of q) (queues.frames rest)) none in
    by_test (p one) parts.0 (none_filtered q p rest parts.1)
  where
    by_test : (b : Bool) → asks_of q one.frame ≡ [] → AskNone q (filter p rest) → AskNone q (cond b (one ∷ filter p rest) (filter p rest))
    by_test true first more = both (asks_of q one.frame) (flat_map (asks_of q) (queues.frames (filter p rest))) first more
    by_test false first more = more

-- own members that are entered again
none_if : (b : Bool) (q : List ℕ) (full room : Queue) → AskNone q full.pending → AskNone q room.pending → AskNone q (if b then full else room).pending
none_if true q full room a c = a
none_if false q full room a c = c

none_entering : (q name : List ℕ) (own : List (List ℕ × List ℕ)) (queue : Queue) → AskNone q queue.pending → AskNone q (all_pushed (entering name own) queue).pending
none_entering q name [] queue h = h
none_entering q name (member ∷ own) queue h =
    let frame : Frame = presence_frame presence.Enter name member.0 (Some member.1) in
    none_if (is_full queue) q (all_pushed (entering name own) queue) (all_pushed (entering name own) (pushed frame queue))
    (none_entering q name own queue h) (none_entering q name own (pushed frame queue) (none_pushed q frame queue refl h))

-- PARTS OF A TURN

asking_enqueued : (frame : Frame) (state : ClientState) → ((serial : ℕ) (q : List ℕ) → asks_of q (with_serial serial frame) ≡ []) → AsksNothing state → AsksNothing (enqueued frame state).state
asking_enqueued frame state none h q = none_pushed q frame state.queue (none state.queue.next q) (h q)

asking_changed : (name : List ℕ) (f : ClientChannel → ClientChannel) (o : Option ClientChannel) (state : ClientState) → AsksNothing state → AsksNothing (changed name f o state)
asking_changed name f None state h = h
asking_changed name f (Some channel) state h = h

asking_stepped : (step : ChannelStep) (name : List ℕ) (o : Option ClientChannel) (state : ClientState) → AsksNothing state → AsksNothing (stepped step name o state).state
asking_stepped step name None state h = h
asking_stepped step name (Some channel) state h = h

asking_forgotten : (b : Bool) (state : ClientState) → AsksNothing state → AsksNothing (forgotten b state)
asking_forgotten true state h = λ q. refl
asking_forgotten false state h = h

-- a step of the connection
pub asking_moved : (one : ConnEvent) (now : ℕ) (state : ClientState) → AsksNothing state → AsksNothing (conn_moved one now state)
asking_moved one now state h = asking_forgotten (forgets_connection (state_after one state)) _ h

-- COMMANDS

asking_obeyed : (command : Command) (now : ℕ) (state : ClientState) → AsksNothing state → AsksNothing (obeyed command now state).state
asking_obeyed Connect now state h = asking_moved events.Connect now state h
asking_obeyed Close now state h = asking_moved events.CloseAsked now state h
asking_obeyed Die now state h = asking_moved events.Died now state h
asking_obeyed (Attach name) now state h = asking_stepped (attach_step now state) name (Some (channel_or_new (at name state.channels))) state h
asking_obeyed (AttachAt name serial) now state h = asking_stepped (attach_step now state) name (Some (channel_from serial)) state h
asking_obeyed (Detach name) now state h = asking_stepped (detach_step now state) name (at name state.channels) state h
asking_obeyed (Publish name items) now state h = asking_enqueued (frames.Message (head_on name) items) state (λ serial q. refl) h
asking_obeyed (Enter name client payload) now state h =
    asking_enqueued (presence_frame presence.Enter name client (Some payload)) (changed name (with_own client payload) (at name state.channels) state) (λ serial q. refl) (asking_changed name (with_own client payload) (at name state.channels) state h)
asking_obeyed (Update name client payload) now state h =
    asking_enqueued (presence_frame presence.Update name client (Some payload)) (changed name (with_own client payload) (at name state.channels) state) (λ serial q. refl) (asking_changed name (with_own client payload) (at name state.channels) state h)
asking_obeyed (Leave name client) now state h =
    asking_enqueued (presence_frame presence.Leave name client None) (changed name (without_own client) (at name state.channels) state) (λ serial q. refl) (asking_changed name (without_own client) (at name state.channels) state h)
asking_obeyed (Operate name ops) now state h = asking_enqueued (frames.Object (head_on name) (map unnumbered ops)) state (λ serial q. refl) h

asking_unless : (r : Option Refusal) (command : Command) (now : ℕ) (state : ClientState) → AsksNothing state → AsksNothing (obeyed_unless r command now state).state
asking_unless None command now state h = asking_obeyed command now state h
asking_unless (Some refused) command now state h = h

pub asking_acted : (command : Command) (now : ℕ) (state : ClientState) → AsksNothing state → AsksNothing (acted command now state).state
asking_acted command now state h = asking_unless (refusal command state) command now state h

-- THE LINK IS LOST, AND TIME

pub asking_unlinked : (now : ℕ) (state : ClientState) → AsksNothing state → AsksNothing (unlinked now state).state
asking_unlinked now state h = asking_moved events.Down now state h

asking_if : (b : Bool) (first second : ClientState) → AsksNothing first → AsksNothing second → AsksNothing (if b then first else second)
asking_if true first second one other = one
asking_if false first second one other = other

asking_turn : (b : Bool) (first second : Turn) → AsksNothing first.state → AsksNothing second.state → AsksNothing (if b then first else second).state
asking_turn true first second one other = one
asking_turn false first second one other = other

pub asking_ticked : (now : ℕ) (state : ClientState) → AsksNothing state → AsksNothing (ticked now state).state
asking_ticked now state h =
    asking_turn (is_past_ttl now state) _ _ (asking_moved events.Ttl now state h)
    (asking_turn (is_silent now state) _ (quietly (waited now state)) (asking_moved events.Down now state h) (asking_if (is_connected state.conn) _ state h h))

-- FRAMES

asking_entered : (b : Bool) (name : List ℕ) (own : List (List ℕ × List ℕ)) (state : ClientState) → AsksNothing state → AsksNothing (entered_again b name own state).state
asking_entered true name own state h = λ q. none_entering q name own state.queue (h q)
asking_entered false name own state h = h

asking_attached : (o : Option ClientChannel) (name : List ℕ) (told : ChannelSerial) (flags : ℕ) (state : ClientState) → AsksNothing state → AsksNothing (attached_in o name told flags state).state
asking_attached None name told flags state h = h
asking_attached (Some channel) name told flags state h =
    asking_entered (is_answer channel) name channel.own (with_channel name (attached_got flags told channel) state) h

asking_settled : (b : Bool) (serial count : ℕ) (answer : ℕ → Answer) (state : ClientState) → AsksNothing state → AsksNothing (if b then settle serial count answer state else state)
asking_settled true serial count answer state h = λ q. none_filtered q (λ (one : Pending). not (is_covered serial count one)) state.queue.pending (h q)
asking_settled false serial count answer state h = h

asking_hears : (frame : Frame) (now : ℕ) (state : ClientState) → AsksNothing state → AsksNothing (hears frame now state).state
asking_hears (frames.Connected id key ttl idle size code) now state h =
    asking_turn (awaits_connected state.conn) _ (quietly state) (λ q. none_queued q id state.id state.queue (h q)) h
asking_hears (frames.Ack serial count) now state h = asking_settled (takes_acknowledgements state.conn) serial count (λ n. Ack (id_of state.id) n) state h
asking_hears (frames.Nack serial count code) now state h = asking_settled (takes_acknowledgements state.conn) serial count (λ n. Nack (id_of state.id) n code) state h
asking_hears (frames.Disconnected code) now state h = asking_moved events.Disconnected now state h
asking_hears frames.Closed now state h = asking_moved events.ClosedGot now state h
asking_hears (frames.Error None code) now state h = asking_moved events.Fatal now state h
asking_hears (frames.Error (Some name) code) now state h = asking_stepped kinds.ErrorGot name (at name state.channels) state h
asking_hears (frames.Attached name told flags code) now state h = asking_attached (at name state.channels) name told flags state h
asking_hears (frames.Detached name code) now state h = asking_stepped (kinds.DetachedGot (is_connected state.conn) now) name (at name state.channels) state h
asking_hears (frames.Message head items) now state h = asking_changed head.channel (entry_got head.serial (Messages items) now) (at head.channel state.channels) state h
asking_hears (frames.Presence head items) now state h = asking_changed head.channel (entry_got head.serial (Presence items) now) (at head.channel state.channels) state h
asking_hears (frames.Object head ops) now state h = asking_changed head.channel (entry_got head.serial (Objects ops) now) (at head.channel state.channels) state h
asking_hears (frames.Sync name at_ items) now state h = asking_changed name (page_got at_ items) (at name state.channels) state h
asking_hears (frames.ObjectSync name at_ states) now state h = asking_changed name (object_page_got at_ states now) (at name state.channels) state h
asking_hears frames.Heartbeat now state h = h
asking_hears frames.Connect now state h = h
asking_hears frames.Disconnect now state h = h
asking_hears frames.Close now state h = h
asking_hears (frames.Attach name given) now state h = h
asking_hears (frames.Detach name) now state h = h
asking_hears frames.Auth now state h = h

pub asking_heard : (frame : Frame) (now : ℕ) (state : ClientState) → AsksNothing state → AsksNothing (heard (Some frame) now state).state
asking_heard frame now state h = asking_hears frame now (record state { got_at = now }) h

-- A NEW CLIENT, AND ONE THAT GOES ON WITH A KEY

pub asking_new : (name : List ℕ) → AsksNothing (new_state name)
asking_new name q = refl

pub asking_recovered : (key : RecoveryKey) (state : ClientState) → AsksNothing state → AsksNothing (recovered key state)
asking_recovered key state h = asking_if (may_recover state) (with_key key state) state (λ q. refl) h
