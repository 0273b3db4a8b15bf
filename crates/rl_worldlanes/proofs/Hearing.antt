-- What a frame that a client gets makes of all its lanes.
use Rattle.std.proofs.Common.{◌≡◌, ℕ, ◌+◌, Bool, true, false, cond, List, [], ◌∷◌, ◌++◌, refl, sym, ◌∙◌, ap, subst, arith}
use Rattle.std.specs.Prelude.{Option, Some, None, option_map, bytes_eq, flat_map, map, if◌then◌else◌}
use Rattle.std.specs.List.{filter}
use Rattle.rl_types.specs.declared.messages.Body.TheVariants.{Messages, Presence, Objects}
use Rattle.rl_types.specs.declared.frames.Frame.{Frame}
use Rattle.rl_types.specs.declared.frames.Frame.TheVariants as frames
use Rattle.rl_types.specs.declared.states.ConnState.{ConnState}
use Rattle.rl_types.specs.declared.states.ConnState.TheVariants as conn
use Rattle.rl_runs.specs.declared.findings.Answer.{Answer}
use Rattle.rl_runs.specs.declared.findings.Answer.TheVariants.{Ack, Nack}
use Rattle.rl_connsm.specs.declared.table.ConnEvent.{ConnEvent}
use Rattle.rl_connsm.specs.declared.table.ConnEvent.TheVariants as events
use Rattle.rl_connsm.specs.Table.{conn_table, drops_link}
use Rattle.rl_connsm.specs.Rules.{awaits_connected, is_connected, opens_link, takes_acknowledgements}
use Rattle.rl_chansm.specs.declared.table.ChanEvent.TheVariants as event
use Rattle.rl_ackq.specs.declared.pending.Pending.{Pending}
use Rattle.rl_ackq.specs.Frames.{with_serial}
use Rattle.rl_ackq.specs.Queue.{Queue, numbered_from, renumbered}
use Rattle.rl_ackq.specs.Queue as queues
use Rattle.rl_clientmodel.specs.declared.steps.ChannelStep.TheVariants as kinds
use Rattle.rl_clientmodel.specs.States.{ClientState, Turn, all_asks, channels_after, conn_moved, moving, quietly, state_after}
use Rattle.rl_clientmodel.specs.Hearing.{heard, hears, id_of, is_id, queue_with, settle, stands_with}
use Rattle.rl_names.specs.Names.{at}
use Rattle.rl_lanes.specs.Lanes.{Ask, Coming, Link, Lane, frame_of}
use Rattle.rl_lanes.specs.Moves.{with_asks, got, asked_by}
use Rattle.rl_worldlanes.specs.Views.{concerns, asks_of}
use Rattle.rl_worldlanes.specs.Following.{setup_of, AsksNothing, HasRisingNames}
use Rattle.rl_worldlanes.specs.Turning.{LeadsTo, link_by, asking, IsHeard, IsHeardOn}
use Rattle.rl_worldlanes.proofs.Lanes.{append_none, flat_append, stays, leads_as, known_asks, no_asks}
use Rattle.rl_worldlanes.proofs.Asking.{asks_up}
use Rattle.rl_worldlanes.proofs.Connection.{calmly, conn_leads, moved_channels}
use Rattle.rl_worldlanes.proofs.Getting.{IsOf, IsFrameOf, where_known, coming_of, coming_leads, with_left, attached_frame, detached_frame, error_frame, entry_of, members_frame, objects_frame}

-- A FRAME OF ONE CHANNEL

abbrev first_of : Frame → List Frame → Frame
first_of frame [] = frame
first_of frame (x ∷ xs) = x

abbrev rest_of : List Frame → List Frame
rest_of [] = []
rest_of (x ∷ xs) = xs

-- the lane of the channel
heard_own : (q : List ℕ) (frame : Frame) (now : ℕ) (state : ClientState) (lane : Lane) (link : Link) (more : List Frame) → lane.channel ≡ at q state.channels → lane.link ≡ Some link
    → frame ∷ filter (concerns q) more ≡ map (frame_of (setup_of q)) link.coming → IsHeardOn q lane link more (hears frame now state)
heard_own q frame now state lane link more channel has seen = by_coming link.coming refl seen where
  by_turn : (turn : Turn) (c : Coming) (rest : List Coming) → link.coming ≡ c ∷ rest → filter (concerns q) more ≡ map (frame_of (setup_of q)) rest
      → IsOf q (got (setup_of q) c (is_connected state.conn) now) (asked_by (setup_of q) c (is_connected state.conn) now) (at q state.channels) state turn → IsHeardOn q lane link more turn
  by_turn turn c rest is left of = record {
    left = with_left rest (where_known (asked_by (setup_of q) c (is_connected state.conn) now) (at q state.channels)) link;
    leads = leads_as (setup_of q) lane _ _ _ _ (sym of.known)
        (sym (ap (λ (b : Bool). link_by false b (Some (with_left rest (where_known (asked_by (setup_of q) c (is_connected state.conn) now) (at q state.channels)) link))) of.keeps))
        (coming_leads q c rest now state link lane channel has is);
    coming = left;
    asks = ap (λ (xs : List Ask). link.asks ++ xs) (sym of.asks);
    session = refl;
  }

  by_coming : (coming : List Coming) → link.coming ≡ coming → frame ∷ filter (concerns q) more ≡ map (frame_of (setup_of q)) coming → IsHeardOn q lane link more (hears frame now state)
  by_coming [] is seen = absurd (cc)
  by_coming (c ∷ rest) is seen =
      by_turn (hears frame now state) c rest is (ap rest_of seen)
      (subst (λ (one : Frame). IsOf q (got (setup_of q) c (is_connected state.conn) now) (asked_by (setup_of q) c (is_connected state.conn) now) (at q state.channels) state (hears one now state))
      (sym (ap (first_of frame) seen)) (coming_of q c now state))

-- a lane whose channel stays, and which is not asked of
heard_other : (q : List ℕ) (state : ClientState) (turn : Turn) (lane : Lane) (link : Link) (more : List Frame) → lane.channel ≡ at q state.channels → lane.link ≡ Some link
    → filter (concerns q) more ≡ map (frame_of (setup_of q)) link.coming
    → turn.output.drop_link ≡ false → at q turn.state.channels ≡ at q state.channels → flat_map (asks_of q) turn.output.frames ≡ [] → IsHeardOn q lane link more turn
heard_other q state turn lane link more channel has seen keeps same none = record {
  left = link;
  leads = stays (setup_of q) lane _ _ (channel ∙ sym same) (has ∙ sym (ap (λ (b : Bool). link_by false b (Some link)) keeps));
  coming = seen;
  asks = sym (ap (λ (xs : List Ask). link.asks ++ xs) none ∙ append_none link.asks);
  session = refl;
}

heard_channel : (frame : Frame) (name : List ℕ) (now : ℕ) (state : ClientState) → ((q : List ℕ) → concerns q frame ≡ bytes_eq q name) → IsFrameOf name frame now state → IsHeard frame state (hears frame now state)
heard_channel frame name now state on of q lane link more channel has seen = by_name (bytes_eq q name) refl where
  by_name : (b : Bool) → bytes_eq q name ≡ b → IsHeardOn q lane link more (hears frame now state)
  by_name true is =
      heard_own q frame now state lane link more channel has
      (sym (ap (λ (b : Bool). cond b (frame ∷ filter (concerns q) more) (filter (concerns q) more)) (on q ∙ is)) ∙ seen)
  by_name false is =
      heard_other q state (hears frame now state) lane link more channel has
      (sym (ap (λ (b : Bool). cond b (frame ∷ filter (concerns q) more) (filter (concerns q) more)) (on q ∙ is)) ∙ seen)
      of.is.keeps (of.is.others q is) (of.is.silent q is)

-- A FRAME OF NO CHANNEL

-- each lane is moved to the link that it had, which is asked of, or dropped
heard_all : (frame : Frame) (state : ClientState) (turn : Turn) → ((q : List ℕ) → concerns q frame ≡ false)
    → ((q : List ℕ) (lane : Lane) → lane.channel ≡ at q state.channels → LeadsTo (setup_of q) lane (at q turn.state.channels) (link_by false turn.output.drop_link (asking q turn.output.frames lane.link)))
    → IsHeard frame state turn
heard_all frame state turn off all q lane link more channel has seen = record {
  left = with_asks (flat_map (asks_of q) turn.output.frames) link;
  leads = leads_as (setup_of q) lane _ _ _ _ refl (ap (λ (l : Option Link). link_by false turn.output.drop_link (asking q turn.output.frames l)) has) (all q lane channel);
  coming = sym (ap (λ (b : Bool). cond b (frame ∷ filter (concerns q) more) (filter (concerns q) more)) (off q)) ∙ seen;
  asks = refl;
  session = refl;
}

-- nothing is changed that a lane shows
heard_quietly : (frame : Frame) (state next : ClientState) → ((q : List ℕ) → concerns q frame ≡ false) → next.channels ≡ state.channels → IsHeard frame state (quietly next)
heard_quietly frame state next off same q lane link more channel has seen =
    heard_other q state (quietly next) lane link more channel has
    (sym (ap (λ (b : Bool). cond b (frame ∷ filter (concerns q) more) (filter (concerns q) more)) (off q)) ∙ seen) refl (ap (at q) same) refl

-- the connection is moved by other words than that it stands
heard_moving : (frame : Frame) (one : ConnEvent) (now : ℕ) (state : ClientState) → ((q : List ℕ) → concerns q frame ≡ false)
    → opens_link state.conn (state_after one state) ≡ false
    → ((q : List ℕ) (lane : Lane) → lane.channel ≡ at q state.channels → LeadsTo (setup_of q) lane (at q (conn_moved one now state).channels)
    (link_by (opens_link state.conn (state_after one state)) (drops_link state.conn (state_after one state)) lane.link))
    → IsHeard frame state (moving [] one now state)
heard_moving frame one now state off closed all =
    heard_all frame state (moving [] one now state) off
    (λ q lane channel. leads_as (setup_of q) lane _ _ _ _ refl
    (ap (λ (b : Bool). link_by b (drops_link state.conn (state_after one state)) lane.link) closed
    ∙ ap (link_by false (drops_link state.conn (state_after one state))) (sym (no_asks lane.link)))
    (all q lane channel))

never_disconnected : (s : ConnState) (from : Bool) → opens_link s (conn_table s from events.Disconnected) ≡ false
never_disconnected s from = grind (arith)

never_closed : (s : ConnState) (from : Bool) → opens_link s (conn_table s from events.ClosedGot) ≡ false
never_closed s from = grind (arith)

never_fatal : (s : ConnState) (from : Bool) → opens_link s (conn_table s from events.Fatal) ≡ false
never_fatal s from = grind (arith)

-- THE CONNECTION STANDS

-- frames that ask nothing ask nothing with other serials
abbrev pub AskNone : List ℕ → List Pending → Type 0
AskNone q pending = flat_map (asks_of q) (queues.frames pending) ≡ []

pub no_more : (xs ys : List Ask) → xs ++ ys ≡ [] → (xs ≡ []) × (ys ≡ [])
no_more [] ys none = (refl, none)
no_more (x ∷ xs) ys none = absurd (cc)

pub both : (xs ys : List Ask) → xs ≡ [] → ys ≡ [] → xs ++ ys ≡ []
both xs ys a c = ap (λ (zs : List Ask). zs ++ ys) a ∙ c

none_with : (frame : Frame) (serial : ℕ) (q : List ℕ) → asks_of q frame ≡ [] → asks_of q (with_serial serial frame) ≡ []
none_with (frames.Message head items) serial q none = refl
none_with (frames.Presence head items) serial q none = refl
none_with (frames.Object head ops) serial q none = refl
none_with (frames.Attach name given) serial q none = none
none_with (frames.Detach name) serial q none = none
none_with frame serial q none = refl

pub none_renumbered : (q : List ℕ) (serial : ℕ) (pending : List Pending) → AskNone q pending → AskNone q (numbered_from serial pending)
none_renumbered q serial [] none = refl
none_renumbered q serial (one ∷ rest) none =
    let parts = no_more (asks_of q one.frame) (flat_map (asks_of q) (queues.frames rest)) none in
    both (asks_of q (with_serial serial one.frame)) (flat_map (asks_of q) (queues.frames (numbered_from (serial + 1) rest)))
    (none_with one.frame serial q parts.0) (none_renumbered q (serial + 1) rest parts.1)

pub none_queued : (q : List ℕ) (id : List ℕ) (held : Option (List ℕ)) (queue : Queue) → AskNone q queue.pending → AskNone q (queue_with id held queue).pending
none_queued q id held queue none = by_id (is_id id held) where
  by_id : (b : Bool) → AskNone q (if b then queue else renumbered queue).pending
  by_id true = none
  by_id false = none_renumbered q 0 queue.pending none

pub awaiting : (s : ConnState) → awaits_connected s ≡ true → s ≡ conn.Connecting
awaiting conn.Connecting is = refl
awaiting conn.Initialized is = absurd (cc)
awaiting conn.Connected is = absurd (cc)
awaiting conn.Disconnected is = absurd (cc)
awaiting conn.Suspended is = absurd (cc)
awaiting conn.Closing is = absurd (cc)
awaiting conn.Closed is = absurd (cc)
awaiting conn.Failed is = absurd (cc)

-- all channels ask at once, and the frames that wait ask nothing
stands_leads : (id key : List ℕ) (now : ℕ) (state : ClientState) → state.conn ≡ conn.Connecting → HasRisingNames state → AsksNothing state
    → (q : List ℕ) (lane : Lane) → lane.channel ≡ at q state.channels
    → LeadsTo (setup_of q) lane (at q (stands_with id key now state).state.channels) (link_by false false (asking q (stands_with id key now state).output.frames lane.link))
stands_leads id key now state is rise none q lane channel =
    leads_as (setup_of q) lane _ _ _ _
    (ap (at q) (sym (moved_channels events.Connected now state ∙ ap (λ (s : ConnState). channels_after events.Connected s (conn_table s state.from_suspended events.Connected) now state.channels) is)))
    (ap (λ (xs : List Ask). option_map (with_asks xs) lane.link) (sym asks))
    (conn_leads q events.Connected conn.Connecting conn.Connected now state.channels lane channel)
  where
    queue : Queue
    queue = queue_with id state.id state.queue

    asks : flat_map (asks_of q) (all_asks (kinds.Moves event.ConnUp true now) state.channels ++ queues.frames (queue_with id state.id state.queue).pending) ≡ known_asks (kinds.Moves event.ConnUp true now) q (at q state.channels)
    asks =
        flat_append (asks_of q) (all_asks (kinds.Moves event.ConnUp true now) state.channels) (queues.frames (queue_with id state.id state.queue).pending)
        ∙ ap (λ (xs : List Ask). flat_map (asks_of q) (all_asks (kinds.Moves event.ConnUp true now) state.channels) ++ xs) (none_queued q id state.id state.queue (none q))
        ∙ append_none (flat_map (asks_of q) (all_asks (kinds.Moves event.ConnUp true now) state.channels))
        ∙ asks_up (kinds.Moves event.ConnUp true now) q state.channels rise

connected_heard : (frame : Frame) (b : Bool) (id key : List ℕ) (now : ℕ) (state : ClientState) → ((q : List ℕ) → concerns q frame ≡ false) → awaits_connected state.conn ≡ b → HasRisingNames state → AsksNothing state
    → IsHeard frame state (if b then stands_with id key now state else quietly state)
connected_heard frame true id key now state off is rise none = heard_all frame state (stands_with id key now state) off (stands_leads id key now state (awaiting state.conn is) rise none)
connected_heard frame false id key now state off is rise none = heard_quietly frame state state off refl

-- ACKNOWLEDGEMENTS

settled_heard : (frame : Frame) (serial count : ℕ) (answer : ℕ → Answer) (b : Bool) (state : ClientState) → ((q : List ℕ) → concerns q frame ≡ false)
    → IsHeard frame state (quietly (if b then settle serial count answer state else state))
settled_heard frame serial count answer true state off = heard_quietly frame state (settle serial count answer state) off refl
settled_heard frame serial count answer false state off = heard_quietly frame state state off refl

-- ANY FRAME

hears_turned : (frame : Frame) (now : ℕ) (state : ClientState) → HasRisingNames state → AsksNothing state → IsHeard frame state (hears frame now state)
hears_turned frames.Heartbeat now state rise none = heard_quietly frames.Heartbeat state state (λ q. refl) refl
hears_turned (frames.Ack serial count) now state rise none =
    settled_heard (frames.Ack serial count) serial count (λ n. Ack (id_of state.id) n) (takes_acknowledgements state.conn) state (λ q. refl)
hears_turned (frames.Nack serial count code) now state rise none =
    settled_heard (frames.Nack serial count code) serial count (λ n. Nack (id_of state.id) n code) (takes_acknowledgements state.conn) state (λ q. refl)
hears_turned frames.Connect now state rise none = heard_quietly frames.Connect state state (λ q. refl) refl
hears_turned (frames.Connected id key ttl idle size code) now state rise none =
    connected_heard (frames.Connected id key ttl idle size code) (awaits_connected state.conn) id key now state (λ q. refl) refl rise none
hears_turned frames.Disconnect now state rise none = heard_quietly frames.Disconnect state state (λ q. refl) refl
hears_turned (frames.Disconnected code) now state rise none =
    heard_moving (frames.Disconnected code) events.Disconnected now state (λ q. refl) (never_disconnected state.conn state.from_suspended) (λ q lane channel. calmly q events.Disconnected now state lane refl channel)
hears_turned frames.Close now state rise none = heard_quietly frames.Close state state (λ q. refl) refl
hears_turned frames.Closed now state rise none =
    heard_moving frames.Closed events.ClosedGot now state (λ q. refl) (never_closed state.conn state.from_suspended) (λ q lane channel. calmly q events.ClosedGot now state lane refl channel)
hears_turned (frames.Error None code) now state rise none =
    heard_moving (frames.Error None code) events.Fatal now state (λ q. refl) (never_fatal state.conn state.from_suspended) (λ q lane channel. calmly q events.Fatal now state lane refl channel)
hears_turned (frames.Error (Some name) code) now state rise none = heard_channel (frames.Error (Some name) code) name now state (λ q. refl) (error_frame name code now state)
hears_turned (frames.Attach name given) now state rise none = heard_quietly (frames.Attach name given) state state (λ q. refl) refl
hears_turned (frames.Attached name told flags code) now state rise none = heard_channel (frames.Attached name told flags code) name now state (λ q. refl) (attached_frame name told flags code now state)
hears_turned (frames.Detach name) now state rise none = heard_quietly (frames.Detach name) state state (λ q. refl) refl
hears_turned (frames.Detached name code) now state rise none = heard_channel (frames.Detached name code) name now state (λ q. refl) (detached_frame name code now state)
hears_turned (frames.Presence head items) now state rise none = heard_channel (frames.Presence head items) head.channel now state (λ q. refl) (entry_of head (Presence items) now state)
hears_turned (frames.Message head items) now state rise none = heard_channel (frames.Message head items) head.channel now state (λ q. refl) (entry_of head (Messages items) now state)
hears_turned (frames.Sync name at_ items) now state rise none = heard_channel (frames.Sync name at_ items) name now state (λ q. refl) (members_frame name at_ items now state)
hears_turned frames.Auth now state rise none = heard_quietly frames.Auth state state (λ q. refl) refl
hears_turned (frames.Object head ops) now state rise none = heard_channel (frames.Object head ops) head.channel now state (λ q. refl) (entry_of head (Objects ops) now state)
hears_turned (frames.ObjectSync name at_ states) now state rise none = heard_channel (frames.ObjectSync name at_ states) name now state (λ q. refl) (objects_frame name at_ states now state)

-- a frame that a client gets moves each of its lanes whose link shows it
pub heard_turned : (frame : Frame) (now : ℕ) (state : ClientState) → HasRisingNames state → AsksNothing state → IsHeard frame state (heard (Some frame) now state)
heard_turned frame now state rise none = hears_turned frame now (record state { got_at = now }) rise none
