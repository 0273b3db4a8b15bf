-- What a client does with a frame.
use Rattle.std.specs.Prelude.{ℕ, Bool, true, false, if◌then◌else◌, List, [], ◌∷◌, ◌++◌, map, Option, Some, None, bytes_eq}
use Rattle.rl_types.specs.declared.frames.Frame.{Frame}
use Rattle.rl_types.specs.declared.frames.Frame.TheVariants as frames
use Rattle.rl_types.specs.declared.frames.Head.{Head}
use Rattle.rl_types.specs.declared.messages.Body.{Body}
use Rattle.rl_types.specs.declared.messages.Body.TheVariants.{Messages, Presence, Objects}
use Rattle.rl_types.specs.declared.presence.PresenceAction.TheVariants as presence
use Rattle.rl_ids.specs.declared.serials.ChannelSerial.{ChannelSerial}
use Rattle.rl_runs.specs.declared.findings.Answer.{Answer}
use Rattle.rl_runs.specs.declared.findings.Answer.TheVariants.{Ack, Nack}
use Rattle.rl_connsm.specs.Rules.{awaits_connected, is_connected, takes_acknowledgements}
use Rattle.rl_connsm.specs.declared.table.ConnEvent.TheVariants as events
use Rattle.rl_chansm.specs.declared.table.ChanEvent.TheVariants as channel_events
use Rattle.rl_ackq.specs.Frames.{with_serial}
use Rattle.rl_ackq.specs.Queue.{Queue, is_full, pushed, renumbered, settled, settled_serials}
use Rattle.rl_ackq.specs.Queue as queues
use Rattle.rl_clientmodel.specs.declared.steps.ChannelStep.TheVariants.{DetachedGot, ErrorGot, Moves}
use Rattle.rl_names.specs.Names.{at}
use Rattle.rl_clientmodel.specs.Channels.{ClientChannel}
use Rattle.rl_clientmodel.specs.Answers.{attached_got, is_answer}
use Rattle.rl_clientmodel.specs.Entries.{entry_got, object_page_got, page_got}
use Rattle.rl_clientmodel.specs.States.{ClientState, Turn, all_asks, change_channel, conn_moved, moving, quietly, sending, step_channel, with_channel}
use Rattle.rl_clientmodel.specs.Commands.{presence_frame}

-- THE CONNECTION STANDS (RTN4)

abbrev pub is_id : List ℕ → Option (List ℕ) → Bool
is_id id None = false
is_id id (Some held) = bytes_eq id held

-- with the held connection's id the frames that wait keep their serials (RTN15c6), with another they are numbered anew
-- (RTN15c7)
abbrev pub queue_with : List ℕ → Option (List ℕ) → Queue → Queue
queue_with id held queue = if is_id id held then queue else renumbered queue

-- channels attach again, in order of name, and then the frames that wait are sent in order (RTN19a)
abbrev pub stands_with : List ℕ → List ℕ → ℕ → ClientState → Turn
stands_with id key now state =
    let queue = queue_with id state.id state.queue in
    sending (all_asks (Moves channel_events.ConnUp true now) state.channels ++ queues.frames queue.pending)
    (record (conn_moved events.Connected now state) { id = Some id; key = Some key; queue = queue })

abbrev pub connected_got : List ℕ → List ℕ → ℕ → ClientState → Turn
connected_got id key now state = if awaits_connected state.conn then stands_with id key now state else quietly state

-- ACKNOWLEDGEMENTS (RTN7)

abbrev pub id_of : Option (List ℕ) → List ℕ
id_of None = []
id_of (Some id) = id

abbrev pub settle : ℕ → ℕ → (ℕ → Answer) → ClientState → ClientState
settle serial count answer state =
    record state {
      queue = settled serial count state.queue;
      answers = state.answers ++ map answer (settled_serials serial count state.queue);
    }

abbrev pub settled_by : ℕ → ℕ → (ℕ → Answer) → ClientState → Turn
settled_by serial count answer state =
    quietly (if takes_acknowledgements state.conn then settle serial count answer state else state)

-- ATTACHED

-- by which each own member is entered again (RTP17g)
abbrev pub entering : List ℕ → List (List ℕ × List ℕ) → List Frame
entering name own = map (λ (member : List ℕ × List ℕ). presence_frame presence.Enter name member.0 (Some member.1)) own

-- frames, each with the next serial; one for which the queue is full is skipped
abbrev pub all_pushed : List Frame → Queue → Queue
all_pushed [] queue = queue
all_pushed (frame ∷ frames) queue = if is_full queue then all_pushed frames queue else all_pushed frames (pushed frame queue)

-- what of them is sent
abbrev pub all_numbered : List Frame → Queue → List Frame
all_numbered [] queue = []
all_numbered (frame ∷ frames) queue =
    if is_full queue then all_numbered frames queue
    else with_serial queue.next frame ∷ all_numbered frames (pushed frame queue)

-- they are sent at once where the client is connected
abbrev pub all_enqueued : List Frame → ClientState → Turn
all_enqueued frames state =
    sending (if is_connected state.conn then all_numbered frames state.queue else [])
    (record state { queue = all_pushed frames state.queue })

-- own members are entered again after the answer that a channel awaited
abbrev pub entered_again : Bool → List ℕ → List (List ℕ × List ℕ) → ClientState → Turn
entered_again false name own state = quietly state
entered_again true name own state = all_enqueued (entering name own) state

abbrev pub attached_in : Option ClientChannel → List ℕ → ChannelSerial → ℕ → ClientState → Turn
attached_in None name told flags state = quietly state
attached_in (Some channel) name told flags state =
    entered_again (is_answer channel) name channel.own (with_channel name (attached_got flags told channel) state)

-- A CHANNEL FAILED, OR THE CONNECTION

abbrev pub error_got : Option (List ℕ) → ℕ → ClientState → Turn
error_got None now state = moving [] events.Fatal now state
error_got (Some name) now state = step_channel ErrorGot name state

-- FRAMES

-- an entry: MESSAGE, PRESENCE or OBJECT
abbrev pub entry_heard : Head → Body → ℕ → ClientState → Turn
entry_heard head body now state = quietly (change_channel head.channel (entry_got head.serial body now) state)

abbrev pub hears : Frame → ℕ → ClientState → Turn
hears (frames.Connected id key ttl idle size code) now state = connected_got id key now state
hears (frames.Ack serial count) now state = settled_by serial count (λ n. Ack (id_of state.id) n) state
hears (frames.Nack serial count code) now state = settled_by serial count (λ n. Nack (id_of state.id) n code) state
hears (frames.Disconnected code) now state = moving [] events.Disconnected now state
hears frames.Closed now state = moving [] events.ClosedGot now state
hears (frames.Error channel code) now state = error_got channel now state
hears (frames.Attached name told flags code) now state = attached_in (at name state.channels) name told flags state
hears (frames.Detached name code) now state = step_channel (DetachedGot (is_connected state.conn) now) name state
hears (frames.Message head items) now state = entry_heard head (Messages items) now state
hears (frames.Presence head items) now state = entry_heard head (Presence items) now state
hears (frames.Object head ops) now state = entry_heard head (Objects ops) now state
hears (frames.Sync name at items) now state = quietly (change_channel name (page_got at items) state)
hears (frames.ObjectSync name at states) now state = quietly (change_channel name (object_page_got at states now) state)
hears frame now state = quietly state

-- a frame of an action that is not known tells that the peer is there, as any other
abbrev pub hears_any : Option Frame → ℕ → ClientState → Turn
hears_any None now state = quietly state
hears_any (Some frame) now state = hears frame now state

abbrev pub heard : Option Frame → ℕ → ClientState → Turn
heard frame now state = hears_any frame now (record state { got_at = now })
