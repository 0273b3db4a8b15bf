-- What a frame on a channel makes of the lane of that channel, and of the others.
use Rattle.std.proofs.Common.{◌≡◌, ℕ, Bool, true, false, cond, List, [], ◌∷◌, ◌++◌, refl, sym, ◌∙◌, ap}
use Rattle.std.specs.Prelude.{Option, Some, None, option_map, bytes_eq, flat_map, if◌then◌else◌}
use Rattle.rl_ids.specs.declared.serials.ChannelSerial.{ChannelSerial}
use Rattle.rl_types.specs.declared.messages.Body.{Body}
use Rattle.rl_types.specs.declared.messages.Body.TheVariants.{Messages, Presence, Objects}
use Rattle.rl_types.specs.declared.frames.Head.{Head}
use Rattle.rl_types.specs.declared.frames.Frame.{Frame}
use Rattle.rl_types.specs.declared.frames.Frame.TheVariants as frames
use Rattle.rl_connsm.specs.Rules.{is_connected}
use Rattle.rl_ackq.specs.Queue.{Queue, is_full, pushed}
use Rattle.rl_ackq.specs.Frames.{with_serial}
use Rattle.rl_types.specs.declared.frames.Cursor.{Cursor}
use Rattle.rl_types.specs.declared.presence.PresenceAction.TheVariants as presence
use Rattle.rl_types.specs.declared.presence.PresenceItem.{PresenceItem}
use Rattle.rl_types.specs.declared.objects.ObjectState.{ObjectState}
use Rattle.rl_clientmodel.specs.Commands.{presence_frame}
use Rattle.rl_clientmodel.specs.declared.steps.ChannelStep.{ChannelStep}
use Rattle.rl_clientmodel.specs.declared.steps.ChannelStep.TheVariants as kinds
use Rattle.rl_clientmodel.specs.Channels.{ClientChannel, channel_after, channel_asks}
use Rattle.rl_clientmodel.specs.Answers.{attached_got, is_answer}
use Rattle.rl_clientmodel.specs.Entries.{entry_got, object_page_got, page_got}
use Rattle.rl_clientmodel.specs.States.{ClientState, Turn, changed, with_channel, quietly, stepped}
use Rattle.rl_clientmodel.specs.Hearing.{hears, attached_in, entered_again, all_numbered, entering}
use Rattle.rl_names.specs.Names.{at, with_entry}
use Rattle.rl_actormodel.proofs.Named.{at_with}
use Rattle.rl_actormodel.specs.Attaches.{flags_of}
use Rattle.rl_actormodel.specs.Reads.{body_frame, entry_head}
use Rattle.rl_lanes.specs.Lanes.{Setup, Ask, OfMembers, EndOfMembers, OfObjects, EndOfObjects, Coming, Tells, Leaves, Fails, Gives, Shows, Link, Lane, frame_of}
use Rattle.rl_lanes.specs.Moves.{Gets, lane_after, asks_in, got, asked_by, gets_known, gets_first, gets}
use Rattle.rl_worldlanes.specs.Views.{asks_of}
use Rattle.rl_worldlanes.specs.Following.{setup_of}
use Rattle.rl_worldlanes.specs.Turning.{LeadsTo}
use Rattle.rl_worldlanes.proofs.Lanes.{self_name, one_move, append_none}
use Rattle.rl_worldlanes.proofs.Asking.{own_asks, other_asks}

-- ONE CHANNEL IS CHANGED: what stands under each name, and what is asked on it

-- what is asked where the channel is known
abbrev pub where_known : (ClientChannel → List Ask) → Option ClientChannel → List Ask
where_known asked None = []
where_known asked (Some channel) = asked channel

-- a turn of this channel makes this of it where it is known, asks this, and drops no link
pub record IsOf (name : List ℕ) (f : ClientChannel → ClientChannel) (asked : ClientChannel → List Ask) (o : Option ClientChannel) (state : ClientState) (turn : Turn) : Type 0 where
  pub keeps : turn.output.drop_link ≡ false
  pub known : at name turn.state.channels ≡ option_map f o
  pub asks : flat_map (asks_of name) turn.output.frames ≡ where_known asked o
  pub others : (q : List ℕ) → bytes_eq q name ≡ false → at q turn.state.channels ≡ at q state.channels
  pub silent : (q : List ℕ) → bytes_eq q name ≡ false → flat_map (asks_of q) turn.output.frames ≡ []

own_at : (name : List ℕ) (v : ClientChannel) (es : List (List ℕ × ClientChannel)) → at name (with_entry name v es) ≡ Some v
own_at name v es = at_with name name v es ∙ ap (λ (b : Bool). cond b (Some v) (at name es)) (self_name name)

other_at : (q name : List ℕ) (v : ClientChannel) (es : List (List ℕ × ClientChannel)) → bytes_eq q name ≡ false → at q (with_entry name v es) ≡ at q es
other_at q name v es other = at_with q name v es ∙ ap (λ (b : Bool). cond b (Some v) (at q es)) other

abbrev nothing : ClientChannel → List Ask
nothing channel = []

changed_of : (name : List ℕ) (f : ClientChannel → ClientChannel) (o : Option ClientChannel) (state : ClientState) → at name state.channels ≡ o
    → IsOf name f nothing o state (quietly (changed name f o state))
changed_of name f None state is = record { keeps = refl; known = is; asks = refl; others = λ q other. refl; silent = λ q other. refl }
changed_of name f (Some channel) state is = record {
  keeps = refl;
  known = own_at name (f channel) state.channels;
  asks = refl;
  others = λ q other. other_at q name (f channel) state.channels other;
  silent = λ q other. refl;
}

stepped_of : (step : ChannelStep) (name : List ℕ) (o : Option ClientChannel) (state : ClientState) → at name state.channels ≡ o
    → IsOf name (channel_after step) (λ channel. asks_in (channel_asks step name channel)) o state (stepped step name o state)
stepped_of step name None state is = record { keeps = refl; known = is; asks = refl; others = λ q other. refl; silent = λ q other. refl }
stepped_of step name (Some channel) state is = record {
  keeps = refl;
  known = own_at name (channel_after step channel) state.channels;
  asks = own_asks step name channel;
  others = λ q other. other_at q name (channel_after step channel) state.channels other;
  silent = λ q other. other_asks step q name channel other;
}

-- own members that are entered again ask nothing
none_in : (b : Bool) (q : List ℕ) (full rest : List Frame) → flat_map (asks_of q) full ≡ [] → flat_map (asks_of q) rest ≡ [] → flat_map (asks_of q) (if b then full else rest) ≡ []
none_in true q full rest a c = a
none_in false q full rest a c = c

pub none_numbered : (q name : List ℕ) (own : List (List ℕ × List ℕ)) (queue : Queue) → flat_map (asks_of q) (all_numbered (entering name own) queue) ≡ []
none_numbered q name [] queue = refl
none_numbered q name (member ∷ own) queue =
    let frame : Frame = presence_frame presence.Enter name member.0 (Some member.1) in
    none_in (is_full queue) q (all_numbered (entering name own) queue) (with_serial queue.next frame ∷ all_numbered (entering name own) (pushed frame queue))
    (none_numbered q name own queue) (none_numbered q name own (pushed frame queue))

entered_of : (b : Bool) (name : List ℕ) (own : List (List ℕ × List ℕ)) (before : ClientState) (f : ClientChannel → ClientChannel) (channel : ClientChannel) (state : ClientState)
    → before.channels ≡ with_entry name (f channel) state.channels → IsOf name f nothing (Some channel) state (entered_again b name own before)
entered_of false name own before f channel state is = record {
  keeps = refl;
  known = ap (at name) is ∙ own_at name (f channel) state.channels;
  asks = refl;
  others = λ q other. ap (at q) is ∙ other_at q name (f channel) state.channels other;
  silent = λ q other. refl;
}
entered_of true name own before f channel state is = record {
  keeps = refl;
  known = ap (at name) is ∙ own_at name (f channel) state.channels;
  asks = none_in (is_connected before.conn) name (all_numbered (entering name own) before.queue) [] (none_numbered name name own before.queue) refl;
  others = λ q other. ap (at q) is ∙ other_at q name (f channel) state.channels other;
  silent = λ q other. none_in (is_connected before.conn) q (all_numbered (entering name own) before.queue) [] (none_numbered q name own before.queue) refl;
}

attached_of : (o : Option ClientChannel) (name : List ℕ) (told : ChannelSerial) (flags : ℕ) (state : ClientState) → at name state.channels ≡ o
    → IsOf name (attached_got flags told) nothing o state (attached_in o name told flags state)
attached_of None name told flags state is = record { keeps = refl; known = is; asks = refl; others = λ q other. refl; silent = λ q other. refl }
attached_of (Some channel) name told flags state is =
    entered_of (is_answer channel) name channel.own (with_channel name (attached_got flags told channel) state) (attached_got flags told) channel state refl

-- FRAMES

-- what a client makes of a channel by a frame on it, and asks
pub record IsFrameOf (name : List ℕ) (frame : Frame) (now : ℕ) (state : ClientState) : Type 0 where
  pub f : ClientChannel → ClientChannel
  pub asked : ClientChannel → List Ask
  pub is : IsOf name f asked (at name state.channels) state (hears frame now state)

-- of what is coming it makes what the lane does
pub coming_of : (name : List ℕ) (c : Coming) (now : ℕ) (state : ClientState)
    → IsOf name (got (setup_of name) c (is_connected state.conn) now) (asked_by (setup_of name) c (is_connected state.conn) now) (at name state.channels) state (hears (frame_of (setup_of name) c) now state)
coming_of name (Tells given number joining) now state = attached_of (at name state.channels) name joining.serial (flags_of joining) state refl
coming_of name Leaves now state = stepped_of (kinds.DetachedGot (is_connected state.conn) now) name (at name state.channels) state refl
coming_of name (Fails given code) now state = stepped_of kinds.ErrorGot name (at name state.channels) state refl
coming_of name (Gives epoch entry) now state = by_body entry.body where
  by_body : (body : Body) → IsOf name (λ (channel : ClientChannel). entry_got (entry_head name epoch entry).serial body now channel) nothing (at name state.channels) state (hears (body_frame (entry_head name epoch entry) body) now state)
  by_body (Messages items) = changed_of name (entry_got (entry_head name epoch entry).serial (Messages items) now) (at name state.channels) state refl
  by_body (Presence items) = changed_of name (entry_got (entry_head name epoch entry).serial (Presence items) now) (at name state.channels) state refl
  by_body (Objects ops) = changed_of name (entry_got (entry_head name epoch entry).serial (Objects ops) now) (at name state.channels) state refl
coming_of name (Shows (OfMembers at_ items last)) now state = changed_of name (page_got (Some at_) items) (at name state.channels) state refl
coming_of name (Shows (EndOfMembers at_)) now state = changed_of name (page_got (Some at_) []) (at name state.channels) state refl
coming_of name (Shows (OfObjects at_ states last)) now state = changed_of name (object_page_got (Some at_) states now) (at name state.channels) state refl
coming_of name (Shows (EndOfObjects at_)) now state = changed_of name (object_page_got (Some at_) [] now) (at name state.channels) state refl

-- THE LANE

-- what a lane makes of the first of what is coming
gets_is : (setup : Setup) (c : Coming) (rest : List Coming) (connected : Bool) (now : ℕ) (link : Link) (o : Option ClientChannel) (lane : Lane) → lane.channel ≡ o → lane.link ≡ Some link → link.coming ≡ c ∷ rest
    → lane_after setup (Gets connected now) lane ≡ gets_known setup c connected now o (record link { coming = rest }) lane
gets_is setup c rest connected now link o lane channel has is =
    ap (λ (l : Option Link). gets setup connected now l lane) has
    ∙ ap (λ (coming : List Coming). gets_first setup connected now coming link lane) is
    ∙ ap (λ (o : Option ClientChannel). gets_known setup c connected now o (record link { coming = rest }) lane) channel

abbrev pub with_left : List Coming → List Ask → Link → Link
with_left rest asks link = record link { coming = rest; asks = link.asks ++ asks }

leads_by : (setup : Setup) (c : Coming) (rest : List Coming) (connected : Bool) (now : ℕ) (link : Link) (o : Option ClientChannel) (lane : Lane) → lane.channel ≡ o → lane.link ≡ Some link → link.coming ≡ c ∷ rest
    → LeadsTo setup lane (option_map (got setup c connected now) o) (Some (with_left rest (where_known (asked_by setup c connected now) o) link))
leads_by setup c rest connected now link None lane channel has is =
    let same = gets_is setup c rest connected now link None lane channel has is in
    one_move setup lane (Gets connected now) _ _ (ap (λ (l : Lane). l.past) same) (ap (λ (l : Lane). l.joins) same) (ap (λ (l : Lane). l.channel) same ∙ channel)
    (ap (λ (l : Lane). l.link) same ∙ ap (λ (asks : List Ask). Some (record { coming = rest; asks = asks; session = link.session })) (sym (append_none link.asks)))
leads_by setup c rest connected now link (Some one) lane channel has is =
    let same = gets_is setup c rest connected now link (Some one) lane channel has is in
    one_move setup lane (Gets connected now) _ _ (ap (λ (l : Lane). l.past) same) (ap (λ (l : Lane). l.joins) same) (ap (λ (l : Lane). l.channel) same) (ap (λ (l : Lane). l.link) same)

pub coming_leads : (name : List ℕ) (c : Coming) (rest : List Coming) (now : ℕ) (state : ClientState) (link : Link) (lane : Lane) → lane.channel ≡ at name state.channels → lane.link ≡ Some link → link.coming ≡ c ∷ rest
    → LeadsTo (setup_of name) lane (option_map (got (setup_of name) c (is_connected state.conn) now) (at name state.channels))
    (Some (with_left rest (where_known (asked_by (setup_of name) c (is_connected state.conn) now) (at name state.channels)) link))
coming_leads name c rest now state link lane channel has is =
    leads_by (setup_of name) c rest (is_connected state.conn) now link (at name state.channels) lane channel has is

-- FRAMES OF A CHANNEL, whatever they say

pub attached_frame : (name : List ℕ) (told : ChannelSerial) (flags : ℕ) (code : Option ℕ) (now : ℕ) (state : ClientState) → IsFrameOf name (frames.Attached name told flags code) now state
attached_frame name told flags code now state = record { f = attached_got flags told; asked = nothing; is = attached_of (at name state.channels) name told flags state refl }

pub detached_frame : (name : List ℕ) (code : Option ℕ) (now : ℕ) (state : ClientState) → IsFrameOf name (frames.Detached name code) now state
detached_frame name code now state = record {
  f = channel_after (kinds.DetachedGot (is_connected state.conn) now);
  asked = λ channel. asks_in (channel_asks (kinds.DetachedGot (is_connected state.conn) now) name channel);
  is = stepped_of (kinds.DetachedGot (is_connected state.conn) now) name (at name state.channels) state refl;
}

pub error_frame : (name : List ℕ) (code now : ℕ) (state : ClientState) → IsFrameOf name (frames.Error (Some name) code) now state
error_frame name code now state = record {
  f = channel_after kinds.ErrorGot;
  asked = λ channel. asks_in (channel_asks kinds.ErrorGot name channel);
  is = stepped_of kinds.ErrorGot name (at name state.channels) state refl;
}

pub entry_of : (head : Head) (body : Body) (now : ℕ) (state : ClientState) → IsFrameOf head.channel (body_frame head body) now state
entry_of head (Messages items) now state = record { f = entry_got head.serial (Messages items) now; asked = nothing; is = changed_of head.channel (entry_got head.serial (Messages items) now) (at head.channel state.channels) state refl }
entry_of head (Presence items) now state = record { f = entry_got head.serial (Presence items) now; asked = nothing; is = changed_of head.channel (entry_got head.serial (Presence items) now) (at head.channel state.channels) state refl }
entry_of head (Objects ops) now state = record { f = entry_got head.serial (Objects ops) now; asked = nothing; is = changed_of head.channel (entry_got head.serial (Objects ops) now) (at head.channel state.channels) state refl }

pub members_frame : (name : List ℕ) (at_ : Option Cursor) (items : List PresenceItem) (now : ℕ) (state : ClientState) → IsFrameOf name (frames.Sync name at_ items) now state
members_frame name at_ items now state = record { f = page_got at_ items; asked = nothing; is = changed_of name (page_got at_ items) (at name state.channels) state refl }

pub objects_frame : (name : List ℕ) (at_ : Option Cursor) (states : List ObjectState) (now : ℕ) (state : ClientState) → IsFrameOf name (frames.ObjectSync name at_ states) now state
objects_frame name at_ states now state = record { f = object_page_got at_ states now; asked = nothing; is = changed_of name (object_page_got at_ states now) (at name state.channels) state refl }
