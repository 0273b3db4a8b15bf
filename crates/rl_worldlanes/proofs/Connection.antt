-- What a step of the connection makes of a lane.
use Rattle.std.proofs.Common.{◌≡◌, ℕ, Bool, true, false, List, [], refl, sym, ◌∙◌, ap, arith}
use Rattle.std.specs.Prelude.{Option, Some, None, option_map, flat_map}
use Rattle.rl_types.specs.declared.states.ConnState.{ConnState}
use Rattle.rl_types.specs.declared.states.ConnState.TheVariants as conn
use Rattle.rl_types.specs.declared.frames.Frame.{Frame}
use Rattle.rl_connsm.specs.declared.table.ConnEvent.{ConnEvent}
use Rattle.rl_connsm.specs.declared.table.ConnEvent.TheVariants as events
use Rattle.rl_connsm.specs.Table.{conn_table, drops_link}
use Rattle.rl_connsm.specs.Rules.{forgets_connection, loses_link, opens_link}
use Rattle.rl_chansm.specs.declared.table.ChanEvent.{ChanEvent}
use Rattle.rl_chansm.specs.declared.table.ChanEvent.TheVariants as event
use Rattle.rl_chansm.specs.Connection.{event_of}
use Rattle.rl_clientmodel.specs.declared.steps.ChannelStep.{ChannelStep}
use Rattle.rl_clientmodel.specs.declared.steps.ChannelStep.TheVariants as kinds
use Rattle.rl_clientmodel.specs.Channels.{ClientChannel, channel_after, channel_asks}
use Rattle.rl_clientmodel.specs.States.{ClientState, all_after, channels_after, step_by, step_if, forgotten, state_after, conn_moved, moving}
use Rattle.rl_names.specs.Names.{at}
use Rattle.rl_lanes.specs.Lanes.{Ask, Link, new_link, Lane}
use Rattle.rl_lanes.specs.Moves.{Move, Suspends, Closes, Breaks, ComesUp, Unlinks, Opens, lane_after, with_asks, asks_in, steps_known}
use Rattle.rl_worldlanes.specs.Views.{asks_of}
use Rattle.rl_worldlanes.specs.Following.{setup_of}
use Rattle.rl_worldlanes.specs.Turning.{LeadsTo, link_by, asking, IsTurned}
use Rattle.rl_worldlanes.proofs.Lanes.{Steps, steps_of, at_each, one_move, stays, goes_on, leads_as, known_asks, no_asks}

-- WHAT BECAME OF THE CONNECTION, as each channel is told

-- the events that a step of the connection can be
by_event : (P : Option ChanEvent → Type 0) → P None → P (Some event.ConnUp) → P (Some event.ConnSuspended) → P (Some event.ConnClosed) → P (Some event.ConnFailed)
    → (before after : ConnState) → P (event_of before after)
by_event P n u s c f conn.Initialized conn.Initialized = n
by_event P n u s c f conn.Initialized conn.Connecting = n
by_event P n u s c f conn.Initialized conn.Connected = n
by_event P n u s c f conn.Initialized conn.Disconnected = n
by_event P n u s c f conn.Initialized conn.Suspended = s
by_event P n u s c f conn.Initialized conn.Closing = n
by_event P n u s c f conn.Initialized conn.Closed = c
by_event P n u s c f conn.Initialized conn.Failed = f
by_event P n u s c f conn.Connecting conn.Initialized = n
by_event P n u s c f conn.Connecting conn.Connecting = n
by_event P n u s c f conn.Connecting conn.Connected = u
by_event P n u s c f conn.Connecting conn.Disconnected = n
by_event P n u s c f conn.Connecting conn.Suspended = s
by_event P n u s c f conn.Connecting conn.Closing = n
by_event P n u s c f conn.Connecting conn.Closed = c
by_event P n u s c f conn.Connecting conn.Failed = f
by_event P n u s c f conn.Connected conn.Initialized = n
by_event P n u s c f conn.Connected conn.Connecting = n
by_event P n u s c f conn.Connected conn.Connected = n
by_event P n u s c f conn.Connected conn.Disconnected = n
by_event P n u s c f conn.Connected conn.Suspended = s
by_event P n u s c f conn.Connected conn.Closing = n
by_event P n u s c f conn.Connected conn.Closed = c
by_event P n u s c f conn.Connected conn.Failed = f
by_event P n u s c f conn.Disconnected conn.Initialized = n
by_event P n u s c f conn.Disconnected conn.Connecting = n
by_event P n u s c f conn.Disconnected conn.Connected = n
by_event P n u s c f conn.Disconnected conn.Disconnected = n
by_event P n u s c f conn.Disconnected conn.Suspended = s
by_event P n u s c f conn.Disconnected conn.Closing = n
by_event P n u s c f conn.Disconnected conn.Closed = c
by_event P n u s c f conn.Disconnected conn.Failed = f
by_event P n u s c f conn.Suspended conn.Initialized = n
by_event P n u s c f conn.Suspended conn.Connecting = n
by_event P n u s c f conn.Suspended conn.Connected = n
by_event P n u s c f conn.Suspended conn.Disconnected = n
by_event P n u s c f conn.Suspended conn.Suspended = n
by_event P n u s c f conn.Suspended conn.Closing = n
by_event P n u s c f conn.Suspended conn.Closed = c
by_event P n u s c f conn.Suspended conn.Failed = f
by_event P n u s c f conn.Closing conn.Initialized = n
by_event P n u s c f conn.Closing conn.Connecting = n
by_event P n u s c f conn.Closing conn.Connected = n
by_event P n u s c f conn.Closing conn.Disconnected = n
by_event P n u s c f conn.Closing conn.Suspended = s
by_event P n u s c f conn.Closing conn.Closing = n
by_event P n u s c f conn.Closing conn.Closed = c
by_event P n u s c f conn.Closing conn.Failed = f
by_event P n u s c f conn.Closed conn.Initialized = n
by_event P n u s c f conn.Closed conn.Connecting = n
by_event P n u s c f conn.Closed conn.Connected = n
by_event P n u s c f conn.Closed conn.Disconnected = n
by_event P n u s c f conn.Closed conn.Suspended = s
by_event P n u s c f conn.Closed conn.Closing = n
by_event P n u s c f conn.Closed conn.Closed = n
by_event P n u s c f conn.Closed conn.Failed = f
by_event P n u s c f conn.Failed conn.Initialized = n
by_event P n u s c f conn.Failed conn.Connecting = n
by_event P n u s c f conn.Failed conn.Connected = n
by_event P n u s c f conn.Failed conn.Disconnected = n
by_event P n u s c f conn.Failed conn.Suspended = s
by_event P n u s c f conn.Failed conn.Closing = n
by_event P n u s c f conn.Failed conn.Closed = c
by_event P n u s c f conn.Failed conn.Failed = n

-- what a channel asks then
abbrev pub told_asks : Option ChanEvent → ℕ → List ℕ → Option ClientChannel → List Ask
told_asks None now name known = []
told_asks (Some event) now name known = known_asks (kinds.Moves event true now) name known

-- a step of all channels, which is a move of the lane
all_step : (name : List ℕ) (step : ChannelStep) (move : Move) (es : List (List ℕ × ClientChannel)) (lane : Lane) → lane.channel ≡ at name es
    → lane_after (setup_of name) move lane ≡ steps_known (setup_of name) step lane.channel lane
    → LeadsTo (setup_of name) lane (at name (all_after step es)) (option_map (with_asks (known_asks step name (at name es))) lane.link)
all_step name step move es lane is same = by_steps (steps_of (setup_of name) step lane) where
  by_steps : Steps (setup_of name) step lane (steps_known (setup_of name) step lane.channel lane) → LeadsTo (setup_of name) lane (at name (all_after step es)) (option_map (with_asks (known_asks step name (at name es))) lane.link)
  by_steps s = one_move (setup_of name) lane move _ _
      (ap (λ (l : Lane). l.past) same ∙ s.past)
      (ap (λ (l : Lane). l.joins) same ∙ s.joins)
      (ap (λ (l : Lane). l.channel) same ∙ s.channel ∙ ap (option_map (channel_after step)) is ∙ sym (at_each name (channel_after step) es))
      (ap (λ (l : Lane). l.link) same ∙ s.link ∙ ap (λ (o : Option ClientChannel). option_map (with_asks (known_asks step name o)) lane.link) is)

-- so with steps that ask nothing and are no one's but time's
pub all_quiet : (name : List ℕ) (step : ChannelStep) (move : Move) (es : List (List ℕ × ClientChannel)) (lane : Lane) → lane.channel ≡ at name es
    → lane_after (setup_of name) move lane ≡ steps_known (setup_of name) step lane.channel lane
    → ((o : Option ClientChannel) → known_asks step name o ≡ [])
    → LeadsTo (setup_of name) lane (at name (all_after step es)) lane.link
all_quiet name step move es lane is same none =
    leads_as (setup_of name) lane _ _ _ _ refl
    (ap (λ (xs : List Ask). option_map (with_asks xs) lane.link) (none (at name es)) ∙ no_asks lane.link)
    (all_step name step move es lane is same)

told : (name : List ℕ) (now : ℕ) (es : List (List ℕ × ClientChannel)) (lane : Lane) → lane.channel ≡ at name es → (before after : ConnState)
    → LeadsTo (setup_of name) lane (at name (step_by (event_of before after) now es)) (option_map (with_asks (told_asks (event_of before after) now name (at name es))) lane.link)
told name now es lane is =
    by_event (λ (o : Option ChanEvent). LeadsTo (setup_of name) lane (at name (step_by o now es)) (option_map (with_asks (told_asks o now name (at name es))) lane.link))
    (stays (setup_of name) lane _ _ is (sym (no_asks lane.link)))
    (all_step name (kinds.Moves event.ConnUp true now) (ComesUp now) es lane is refl)
    (all_step name (kinds.Moves event.ConnSuspended true now) (Suspends now) es lane is refl)
    (all_step name (kinds.Moves event.ConnClosed true now) (Closes now) es lane is refl)
    (all_step name (kinds.Moves event.ConnFailed true now) (Breaks now) es lane is refl)

-- THE LINK GOES AND COMES

unlinked : (name : List ℕ) (es : List (List ℕ × ClientChannel)) (lane : Lane) → lane.channel ≡ at name es
    → LeadsTo (setup_of name) lane (at name (all_after kinds.LinkLost es)) None
unlinked name es lane is = by_steps (steps_of (setup_of name) kinds.LinkLost lane) where
  by_steps : Steps (setup_of name) kinds.LinkLost lane (steps_known (setup_of name) kinds.LinkLost lane.channel lane) → LeadsTo (setup_of name) lane (at name (all_after kinds.LinkLost es)) None
  by_steps s = one_move (setup_of name) lane Unlinks _ _ s.past s.joins
      (s.channel ∙ ap (option_map (channel_after kinds.LinkLost)) is ∙ sym (at_each name (channel_after kinds.LinkLost) es)) refl

opened : (name : List ℕ) (es : List (List ℕ × ClientChannel)) (lane : Lane) → lane.channel ≡ at name es
    → LeadsTo (setup_of name) lane (at name (all_after kinds.LinkOpened es)) (Some new_link)
opened name es lane is = by_steps (steps_of (setup_of name) kinds.LinkOpened lane) where
  by_steps : Steps (setup_of name) kinds.LinkOpened lane (steps_known (setup_of name) kinds.LinkOpened lane.channel lane) → LeadsTo (setup_of name) lane (at name (all_after kinds.LinkOpened es)) (Some new_link)
  by_steps s = one_move (setup_of name) lane Opens _ _ s.past s.joins
      (s.channel ∙ ap (option_map (channel_after kinds.LinkOpened)) is ∙ sym (at_each name (channel_after kinds.LinkOpened) es)) refl

lost_if : (b : Bool) (name : List ℕ) (es : List (List ℕ × ClientChannel)) (lane : Lane) → lane.channel ≡ at name es
    → LeadsTo (setup_of name) lane (at name (step_if b kinds.LinkLost es)) (link_by false b lane.link)
lost_if true name es lane is = unlinked name es lane is
lost_if false name es lane is = stays (setup_of name) lane _ _ is refl

opened_if : (b c : Bool) (link : Option Link) (name : List ℕ) (es : List (List ℕ × ClientChannel)) (lane : Lane) → lane.channel ≡ at name es → lane.link ≡ link_by false c link
    → LeadsTo (setup_of name) lane (at name (step_if b kinds.LinkOpened es)) (link_by b c link)
opened_if true c link name es lane is has = opened name es lane is
opened_if false c link name es lane is has = stays (setup_of name) lane _ _ is has

-- A STEP OF THE CONNECTION

pub conn_leads : (name : List ℕ) (one : ConnEvent) (before after : ConnState) (now : ℕ) (es : List (List ℕ × ClientChannel)) (lane : Lane) → lane.channel ≡ at name es
    → LeadsTo (setup_of name) lane (at name (channels_after one before after now es))
    (link_by (opens_link before after) (loses_link one before after) (option_map (with_asks (told_asks (event_of before after) now name (at name es))) lane.link))
conn_leads name one before after now es lane is =
    goes_on (setup_of name) lane _ _ _ _ (told name now es lane is before after)
    (λ next channel link. goes_on (setup_of name) next _ _ _ _
    (lost_if (loses_link one before after) name (step_by (event_of before after) now es) next channel)
    (λ last known left. opened_if (opens_link before after) (loses_link one before after) _ name _ last known
    (left ∙ ap (link_by false (loses_link one before after)) link)))

-- forgetting the connection leaves the channels
pub forgotten_channels : (b : Bool) (s : ClientState) → (forgotten b s).channels ≡ s.channels
forgotten_channels true s = refl
forgotten_channels false s = refl

pub forgotten_conn : (b : Bool) (s : ClientState) → (forgotten b s).conn ≡ s.conn
forgotten_conn true s = refl
forgotten_conn false s = refl

pub moved_channels : (one : ConnEvent) (now : ℕ) (state : ClientState) → (conn_moved one now state).channels ≡ channels_after one state.conn (state_after one state) now state.channels
moved_channels one now state = forgotten_channels (forgets_connection (state_after one state)) _

pub moved_conn : (one : ConnEvent) (now : ℕ) (state : ClientState) → (conn_moved one now state).conn ≡ state_after one state
moved_conn one now state = forgotten_conn (forgets_connection (state_after one state)) _

-- all but the service's word that it stands ask nothing
abbrev is_word : ConnEvent → Bool
is_word events.Connected = true
is_word one = false

abbrev is_up : Option ChanEvent → Bool
is_up (Some event.ConnUp) = true
is_up one = false

never_up : (one : ConnEvent) (state : ConnState) (from : Bool) → is_word one ≡ false → is_up (event_of state (conn_table state from one)) ≡ false
never_up one state from other = grind (arith, other)

calm_known : (one : ChanEvent) (now : ℕ) (name : List ℕ) (o : Option ClientChannel) → ((c : ClientChannel) → channel_asks (kinds.Moves one true now) name c ≡ []) → known_asks (kinds.Moves one true now) name o ≡ []
calm_known one now name None none = refl
calm_known one now name (Some c) none = ap asks_in (none c)

calm : (now : ℕ) (name : List ℕ) (known : Option ClientChannel) (before after : ConnState) → is_up (event_of before after) ≡ false → told_asks (event_of before after) now name known ≡ []
calm now name known =
    by_event (λ (o : Option ChanEvent). is_up o ≡ false → told_asks o now name known ≡ [])
    (λ up. refl)
    (λ up. absurd (cc))
    (λ up. calm_known event.ConnSuspended now name known (λ c. refl))
    (λ up. calm_known event.ConnClosed now name known (λ c. refl))
    (λ up. calm_known event.ConnFailed now name known (λ c. refl))

pub calmly : (name : List ℕ) (one : ConnEvent) (now : ℕ) (state : ClientState) (lane : Lane) → is_word one ≡ false → lane.channel ≡ at name state.channels
    → LeadsTo (setup_of name) lane (at name (conn_moved one now state).channels)
    (link_by (opens_link state.conn (state_after one state)) (loses_link one state.conn (state_after one state)) lane.link)
calmly name one now state lane other is =
    leads_as (setup_of name) lane _ _ _ _
    (ap (at name) (sym (moved_channels one now state)))
    (ap (link_by (opens_link state.conn (state_after one state)) (loses_link one state.conn (state_after one state)))
    (ap (λ (xs : List Ask). option_map (with_asks xs) lane.link) (calm now name (at name state.channels) state.conn (state_after one state) (never_up one state.conn state.from_suspended other)) ∙ no_asks lane.link))
    (conn_leads name one state.conn (state_after one state) now state.channels lane is)

-- A TURN THAT MOVES THE CONNECTION, and sends frames that ask nothing

pub quietly_asks : (name : List ℕ) (sent : List Frame) (link : Option Link) → flat_map (asks_of name) sent ≡ [] → asking name sent link ≡ link
quietly_asks name sent link none = ap (λ (xs : List Ask). option_map (with_asks xs) link) none ∙ no_asks link

pub moving_turned : (sent : List Frame) (one : ConnEvent) (now : ℕ) (state : ClientState) → is_word one ≡ false
    → loses_link one state.conn (state_after one state) ≡ drops_link state.conn (state_after one state)
    → ((name : List ℕ) → flat_map (asks_of name) sent ≡ []) → IsTurned state (moving sent one now state)
moving_turned sent one now state other drops none name lane is =
    leads_as (setup_of name) lane _ _ _ _ refl
    (ap (λ (d : Bool). link_by (opens_link state.conn (state_after one state)) d lane.link) drops
    ∙ ap (λ (c : ConnState). link_by (opens_link state.conn c) (drops_link state.conn (state_after one state)) lane.link) (sym (moved_conn one now state))
    ∙ sym (quietly_asks name sent _ (none name)))
    (calmly name one now state lane other is)
