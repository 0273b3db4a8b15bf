-- What commands and time make of the lanes of a client.
use Rattle.std.proofs.Common.{◌≡◌, ℕ, Bool, true, false, ◌&&◌, cond, List, [], ◌∷◌, ◌++◌, refl, sym, ◌∙◌, ap, subst, arith}
use Rattle.std.specs.Prelude.{Option, Some, None, option_map, bytes_eq, flat_map, map, if◌then◌else◌}
use Rattle.rl_ids.specs.declared.serials.ChannelSerial.{ChannelSerial}
use Rattle.rl_types.specs.declared.states.ConnState.{ConnState}
use Rattle.rl_types.specs.declared.frames.Frame.{Frame}
use Rattle.rl_types.specs.declared.frames.Frame.TheVariants as frames
use Rattle.rl_types.specs.declared.presence.PresenceAction.TheVariants as presence
use Rattle.rl_runs.specs.declared.commands.Command.{Command}
use Rattle.rl_runs.specs.declared.commands.Command.TheVariants.{Connect, Close, Die, Attach, AttachAt, Detach, Publish, Enter, Update, Leave, Operate}
use Rattle.rl_connsm.specs.declared.table.ConnEvent.TheVariants as events
use Rattle.rl_connsm.specs.Table.{conn_table, drops_link}
use Rattle.rl_connsm.specs.Rules.{attach_refused, is_connected, opens_link}
use Rattle.rl_chansm.specs.Rules.{attach_at_refused}
use Rattle.rl_ackq.specs.Frames.{with_serial}
use Rattle.rl_clientmodel.specs.declared.steps.ChannelStep.{ChannelStep}
use Rattle.rl_clientmodel.specs.declared.steps.ChannelStep.TheVariants as kinds
use Rattle.rl_clientmodel.specs.Channels.{ClientChannel, channel_after, channel_asks, channel_from}
use Rattle.rl_clientmodel.specs.States.{ClientState, Turn, changed, with_channel, moving, quietly, stepped, state_after}
use Rattle.rl_clientmodel.specs.Commands.{Refusal, refusal, or_refusal, by_connection, by_channel, known_state, channel_or_new, attach_step, detach_step, enqueued, if_connected, head_on, unnumbered, presence_frame, obeyed, obeyed_unless, acted}
use Rattle.rl_clientmodel.specs.Times as times
use Rattle.rl_clientmodel.specs.Times.{is_past_ttl, is_silent, each_channel, aged, ticked}
use Rattle.rl_names.specs.Names.{at, with_entry, without}
use Rattle.rl_actormodel.proofs.Named.{at_with}
use Rattle.rl_lanes.specs.Lanes.{Setup, Ask, Link, Lane}
use Rattle.rl_lanes.specs.Moves.{Move, Attaches, StartsAt, Detaches, Keeps, Waits, Collects, lane_after, with_asks, asks_in, steps, steps_known, starts_at, with_own_members}
use Rattle.rl_worldlanes.specs.Views.{asks_of}
use Rattle.rl_worldlanes.specs.Following.{setup_of}
use Rattle.rl_worldlanes.specs.Turning.{LeadsTo, link_by, asking, link_after, IsTurned, IsUnlinked}
use Rattle.rl_worldlanes.proofs.Lanes.{Steps, steps_of, same_name, one_move, stays, goes_on, leads_as, known_asks, no_asks}
use Rattle.rl_worldlanes.proofs.Asking.{own_asks, other_asks}
use Rattle.rl_worldlanes.proofs.Connection.{all_quiet, calmly, quietly_asks, moving_turned}

-- THE CONNECTION STAYS

pub never_opens : (s : ConnState) → opens_link s s ≡ false
never_opens s = grind (arith)

pub same_link : (name : List ℕ) (state : ClientState) (turn : Turn) (link : Option Link) → turn.state.conn ≡ state.conn → turn.output.drop_link ≡ false
    → link_after name state turn link ≡ asking name turn.output.frames link
same_link name state turn link same keeps =
    ap (λ (c : ConnState). asking name turn.output.frames (link_by (opens_link state.conn c) turn.output.drop_link link)) same
    ∙ ap (λ (b : Bool). asking name turn.output.frames (link_by b turn.output.drop_link link)) (never_opens state.conn)
    ∙ ap (λ (b : Bool). asking name turn.output.frames (link_by false b link)) keeps

-- no channel is changed, and nothing is asked
pub nothing_turned : (state : ClientState) (turn : Turn) → turn.state.conn ≡ state.conn → turn.output.drop_link ≡ false → turn.state.channels ≡ state.channels
    → ((q : List ℕ) → flat_map (asks_of q) turn.output.frames ≡ []) → IsTurned state turn
nothing_turned state turn same keeps channels none q lane is =
    stays (setup_of q) lane _ _ (is ∙ ap (at q) (sym channels))
    (sym (same_link q state turn lane.link same keeps ∙ quietly_asks q turn.output.frames lane.link (none q)))

-- one channel is changed, and asks
pub one_turned : (name : List ℕ) (after : ClientChannel) (state : ClientState) (turn : Turn) → turn.state.conn ≡ state.conn → turn.output.drop_link ≡ false
    → turn.state.channels ≡ with_entry name after state.channels
    → ((lane : Lane) → lane.channel ≡ at name state.channels → LeadsTo (setup_of name) lane (Some after) (asking name turn.output.frames lane.link))
    → ((q : List ℕ) → bytes_eq q name ≡ false → flat_map (asks_of q) turn.output.frames ≡ [])
    → IsTurned state turn
one_turned name after state turn same keeps channels own other q lane is = by_name (bytes_eq q name) refl where
  known : at q turn.state.channels ≡ cond (bytes_eq q name) (Some after) (at q state.channels)
  known = ap (at q) channels ∙ at_with q name after state.channels

  by_name : (b : Bool) → bytes_eq q name ≡ b → LeadsTo (setup_of q) lane (at q turn.state.channels) (link_after q state turn lane.link)
  by_name true here =
      let key : q ≡ name = same_name q name here in
      leads_as (setup_of q) lane _ _ _ _
      (sym (known ∙ ap (λ (b : Bool). cond b (Some after) (at q state.channels)) here))
      (sym (same_link q state turn lane.link same keeps))
      (subst (λ (n : List ℕ). LeadsTo (setup_of n) lane (Some after) (asking n turn.output.frames lane.link)) (sym key)
      (own lane (is ∙ ap (λ (n : List ℕ). at n state.channels) key)))
  by_name false here =
      stays (setup_of q) lane _ _
      (is ∙ sym (known ∙ ap (λ (b : Bool). cond b (Some after) (at q state.channels)) here))
      (sym (same_link q state turn lane.link same keeps ∙ quietly_asks q turn.output.frames lane.link (other q here)))

-- ATTACH, DETACH

-- a step of a channel that is a move of its lane
stepped_turned : (step : ChannelStep) (name : List ℕ) (channel : ClientChannel) (state : ClientState)
    → ((lane : Lane) → lane.channel ≡ at name state.channels → LeadsTo (setup_of name) lane (Some (channel_after step channel)) (option_map (with_asks (asks_in (channel_asks step name channel))) lane.link))
    → IsTurned state (stepped step name (Some channel) state)
stepped_turned step name channel state own =
    one_turned name (channel_after step channel) state (stepped step name (Some channel) state) refl refl refl
    (λ lane is. leads_as (setup_of name) lane _ _ _ _ refl (ap (λ (xs : List Ask). option_map (with_asks xs) lane.link) (sym (own_asks step name channel))) (own lane is))
    (λ q other. other_asks step q name channel other)

attach_turned : (name : List ℕ) (now : ℕ) (state : ClientState) → IsTurned state (obeyed (Attach name) now state)
attach_turned name now state =
    stepped_turned (attach_step now state) name (channel_or_new (at name state.channels)) state
    (λ lane is. one_move (setup_of name) lane (Attaches (is_connected state.conn) now) _ _ refl refl
    (ap (λ (o : Option ClientChannel). Some (channel_after (attach_step now state) (channel_or_new o))) is)
    (ap (λ (o : Option ClientChannel). option_map (with_asks (asks_in (channel_asks (attach_step now state) name (channel_or_new o)))) lane.link) is))

-- a channel that is not known
attach_at_turned : (name : List ℕ) (serial : ChannelSerial) (now : ℕ) (state : ClientState) → at name state.channels ≡ None → IsTurned state (obeyed (AttachAt name serial) now state)
attach_at_turned name serial now state none =
    stepped_turned (attach_step now state) name (channel_from serial) state (λ lane is. begins lane (is ∙ none))
  where
    setup : Setup
    setup = setup_of name

    step : ChannelStep
    step = attach_step now state

    same : (lane : Lane) → lane.channel ≡ None → lane_after (setup_of name) (StartsAt serial (is_connected state.conn) now) lane ≡ steps (setup_of name) (attach_step now state) (channel_from serial) lane
    same lane is = ap (λ (o : Option ClientChannel). starts_at (setup_of name) serial (attach_step now state) o lane) is

    begins : (lane : Lane) → lane.channel ≡ None → LeadsTo (setup_of name) lane (Some (channel_after (attach_step now state) (channel_from serial))) (option_map (with_asks (asks_in (channel_asks (attach_step now state) name (channel_from serial)))) lane.link)
    begins lane is = one_move (setup_of name) lane (StartsAt serial (is_connected state.conn) now) _ _
        (ap (λ (l : Lane). l.past) (same lane is)) (ap (λ (l : Lane). l.joins) (same lane is)) (ap (λ (l : Lane). l.channel) (same lane is)) (ap (λ (l : Lane). l.link) (same lane is))

-- a step of a channel where it is known
known_turned : (step : ChannelStep) (move : Move) (name : List ℕ) (o : Option ClientChannel) (state : ClientState) → at name state.channels ≡ o
    → ((lane : Lane) → lane_after (setup_of name) move lane ≡ steps_known (setup_of name) step lane.channel lane)
    → IsTurned state (stepped step name o state)
known_turned step move name None state is same = nothing_turned state (quietly state) refl refl refl (λ q. refl)
known_turned step move name (Some channel) state is same = stepped_turned step name channel state own where
  by_steps : (lane : Lane) → lane.channel ≡ Some channel → Steps (setup_of name) step lane (steps_known (setup_of name) step lane.channel lane)
      → LeadsTo (setup_of name) lane (Some (channel_after step channel)) (option_map (with_asks (asks_in (channel_asks step name channel))) lane.link)
  by_steps lane has s = one_move (setup_of name) lane move _ _
      (ap (λ (l : Lane). l.past) (same lane) ∙ s.past)
      (ap (λ (l : Lane). l.joins) (same lane) ∙ s.joins)
      (ap (λ (l : Lane). l.channel) (same lane) ∙ s.channel ∙ ap (option_map (channel_after step)) has)
      (ap (λ (l : Lane). l.link) (same lane) ∙ s.link ∙ ap (λ (o : Option ClientChannel). option_map (with_asks (known_asks step name o)) lane.link) has)

  own : (lane : Lane) → lane.channel ≡ at name state.channels → LeadsTo (setup_of name) lane (Some (channel_after step channel)) (option_map (with_asks (asks_in (channel_asks step name channel))) lane.link)
  own lane has = by_steps lane (has ∙ is) (steps_of (setup_of name) step lane)

detach_turned : (name : List ℕ) (now : ℕ) (state : ClientState) → IsTurned state (obeyed (Detach name) now state)
detach_turned name now state = known_turned (detach_step now state) (Detaches (is_connected state.conn) now) name (at name state.channels) state refl (λ lane. refl)

-- WHAT NEEDS ACKNOWLEDGEMENT

-- a frame that asks nothing, whatever its serial
abbrev AsksNone : Frame → Type 0
AsksNone frame = (serial : ℕ) (q : List ℕ) → asks_of q (with_serial serial frame) ≡ []

none_if : (c : ConnState) (frame : Frame) (q : List ℕ) → asks_of q frame ≡ [] → flat_map (asks_of q) (if_connected c frame) ≡ []
none_if c frame q none = by_state (is_connected c) where
  by_state : (b : Bool) → flat_map (asks_of q) (if b then frame ∷ [] else []) ≡ []
  by_state true = ap (λ (xs : List Ask). xs ++ []) none
  by_state false = refl

-- own members change with it
abbrev own_by : (List (List ℕ × List ℕ) → List (List ℕ × List ℕ)) → ClientChannel → ClientChannel
own_by f channel = record channel { own = f channel.own }

own_turned : (frame : Frame) (name : List ℕ) (f : List (List ℕ × List ℕ) → List (List ℕ × List ℕ)) (o : Option ClientChannel) (state : ClientState) → AsksNone frame → at name state.channels ≡ o
    → IsTurned state (enqueued frame (changed name (own_by f) o state))
own_turned frame name f None state none is = nothing_turned state (enqueued frame state) refl refl refl (λ q. none_if state.conn (with_serial state.queue.next frame) q (none state.queue.next q))
own_turned frame name f (Some channel) state none is =
    one_turned name (own_by f channel) state (enqueued frame (with_channel name (own_by f channel) state)) refl refl refl own (λ q other. none_if state.conn (with_serial state.queue.next frame) q (none state.queue.next q))
  where
    own : (lane : Lane) → lane.channel ≡ at name state.channels
        → LeadsTo (setup_of name) lane (Some (own_by f channel)) (asking name (if_connected state.conn (with_serial state.queue.next frame)) lane.link)
    own lane has = one_move (setup_of name) lane (Keeps (f channel.own)) _ _ refl refl
        (ap (option_map (with_own_members (f channel.own))) (has ∙ is))
        (sym (quietly_asks name (if_connected state.conn (with_serial state.queue.next frame)) lane.link (none_if state.conn (with_serial state.queue.next frame) name (none state.queue.next name))))

-- COMMANDS

obeyed_turned : (command : Command) (now : ℕ) (state : ClientState) → refusal command state ≡ None → IsTurned state (obeyed command now state)
obeyed_turned Connect now state may = moving_turned [] events.Connect now state refl refl (λ q. refl)
obeyed_turned Close now state may = moving_turned (if_connected state.conn frames.Close) events.CloseAsked now state refl refl (λ q. none_if state.conn frames.Close q refl)
obeyed_turned Die now state may = moving_turned [] events.Died now state refl refl (λ q. refl)
obeyed_turned (Attach name) now state may = attach_turned name now state
obeyed_turned (AttachAt name serial) now state may = attach_at_turned name serial now state (by_known (by_connection (attach_refused state.conn)) (at name state.channels) may) where
  by_known : (r : Option Refusal) (o : Option ClientChannel) → or_refusal r (by_channel (attach_at_refused (known_state o))) ≡ None → o ≡ None
  by_known None None none = refl
  by_known None (Some channel) none = absurd (cc)
  by_known (Some r) o none = absurd (cc)
obeyed_turned (Detach name) now state may = detach_turned name now state
obeyed_turned (Publish name items) now state may =
    nothing_turned state (enqueued (frames.Message (head_on name) items) state) refl refl refl (λ q. none_if state.conn (with_serial state.queue.next (frames.Message (head_on name) items)) q refl)
obeyed_turned (Enter name client payload) now state may =
    own_turned (presence_frame presence.Enter name client (Some payload)) name (with_entry client payload) (at name state.channels) state (λ serial q. refl) refl
obeyed_turned (Update name client payload) now state may =
    own_turned (presence_frame presence.Update name client (Some payload)) name (with_entry client payload) (at name state.channels) state (λ serial q. refl) refl
obeyed_turned (Leave name client) now state may =
    own_turned (presence_frame presence.Leave name client None) name (without client) (at name state.channels) state (λ serial q. refl) refl
obeyed_turned (Operate name ops) now state may =
    nothing_turned state (enqueued (frames.Object (head_on name) (map unnumbered ops)) state) refl refl refl (λ q. none_if state.conn (with_serial state.queue.next (frames.Object (head_on name) (map unnumbered ops))) q refl)

unless_turned : (r : Option Refusal) (command : Command) (now : ℕ) (state : ClientState) → refusal command state ≡ r → IsTurned state (obeyed_unless r command now state)
unless_turned None command now state is = obeyed_turned command now state is
unless_turned (Some refused) command now state is = nothing_turned state (quietly state) refl refl refl (λ q. refl)

-- a command moves each lane of the client, whether it is refused or not
pub acted_turned : (command : Command) (now : ℕ) (state : ClientState) → IsTurned state (acted command now state)
acted_turned command now state = unless_turned (refusal command state) command now state refl

-- THE LINK IS LOST

is_none : (b : Bool) (link : Option Link) → b ≡ false → link_by b true link ≡ None
is_none b link closed = ap (λ (b : Bool). link_by b true link) closed

down_opens : (s : ConnState) (from : Bool) → opens_link s (conn_table s from events.Down) ≡ false
down_opens s from = grind (arith)

pub unlinked_turned : (now : ℕ) (state : ClientState) → IsUnlinked state (times.unlinked now state)
unlinked_turned now state name lane is =
    leads_as (setup_of name) lane _ _ _ _ refl (is_none (opens_link state.conn (state_after events.Down state)) lane.link (down_opens state.conn state.from_suspended))
    (calmly name events.Down now state lane refl is)

-- TIME

-- objects are collected after whatever time did
collecting_turned : (now : ℕ) (state : ClientState) (turn : Turn) → IsTurned state turn → IsTurned state (times.collecting now turn)
collecting_turned now state turn h name lane is =
    goes_on (setup_of name) lane _ _ _ _ (h name lane is)
    (λ next channel link. leads_as (setup_of name) next _ _ _ _ refl link
    (all_quiet name (kinds.Collects now) (Collects now) turn.state.channels next channel refl none))
  where
    none : (o : Option ClientChannel) → known_asks (kinds.Collects now) name o ≡ []
    none None = refl
    none (Some channel) = refl

down_drops : (s : ConnState) (from : Bool) → is_connected s ≡ true → drops_link s (conn_table s from events.Down) ≡ true
down_drops s from is = grind (arith, is)

each_waited : (now : ℕ) (state : ClientState) → IsTurned state (quietly (each_channel (kinds.Waited now) state))
each_waited now state name lane is =
    leads_as (setup_of name) lane _ _ _ _ refl (sym (same_link name state (quietly (each_channel (kinds.Waited now) state)) lane.link refl refl ∙ no_asks lane.link))
    (all_quiet name (kinds.Waited now) (Waits now) state.channels lane is refl none)
  where
    none : (o : Option ClientChannel) → known_asks (kinds.Waited now) name o ≡ []
    none None = refl
    none (Some channel) = refl

waited_turned : (b : Bool) (now : ℕ) (state : ClientState) → IsTurned state (quietly (if b then each_channel (kinds.Waited now) state else state))
waited_turned false now state = nothing_turned state (quietly state) refl refl refl (λ q. refl)
waited_turned true now state = each_waited now state

and_left : (a b : Bool) → a && b ≡ true → a ≡ true
and_left true b is = refl
and_left false b is = absurd (cc)

aged_by : (b c : Bool) (now : ℕ) (state : ClientState) → is_silent now state ≡ c
    → IsTurned state (if b then moving [] events.Ttl now state else if c then moving [] events.Down now state else quietly (times.waited now state))
aged_by true c now state silent = moving_turned [] events.Ttl now state refl refl (λ q. refl)
aged_by false true now state silent =
    moving_turned [] events.Down now state refl (sym (down_drops state.conn state.from_suspended (and_left (is_connected state.conn) _ silent))) (λ q. refl)
aged_by false false now state silent = waited_turned (is_connected state.conn) now state

pub ticked_turned : (now : ℕ) (state : ClientState) → IsTurned state (ticked now state)
ticked_turned now state = collecting_turned now state (aged now state) (aged_by (is_past_ttl now state) (is_silent now state) now state refl)
