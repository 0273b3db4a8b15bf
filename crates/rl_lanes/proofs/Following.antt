-- Every lane's record is sound.
use Rattle.std.proofs.Common.{◌≡◌, inl, inr, ℕ, Bool, true, List, [], ◌∷◌, refl, sym, subst}
use Rattle.std.specs.Prelude.{Option, Some, None, option_map}
use Rattle.rl_ids.specs.declared.serials.ChannelSerial.{ChannelSerial}
use Rattle.rl_events.specs.declared.channel.ChannelEvent.{ChannelEvent}
use Rattle.rl_chansm.specs.declared.table.ChanEvent.TheVariants as event
use Rattle.rl_clientmodel.specs.declared.steps.ChannelStep.{ChannelStep}
use Rattle.rl_clientmodel.specs.declared.steps.ChannelStep.TheVariants as kinds
use Rattle.rl_clientmodel.specs.Channels.{ClientChannel, channel_from, new_channel}
use Rattle.rl_clientmodel.specs.Commands.{channel_or_new}
use Rattle.rl_actormodel.specs.declared.parts.Session.{Session}
use Rattle.rl_lanes.specs.Lanes.{Setup, Ask, ToAttach, ToDetach, Coming, Tells, Leaves, Fails, Gives, Shows, Link, new_link, Lane, new_lane}
use Rattle.rl_lanes.specs.Moves as moves
use Rattle.rl_lanes.specs.Moves.{Move, with_own_members, got, begun_by, asked_by, steps_known, starts_at, recovers, gets_known, gets_first, gets, joins_first, refuses_first, parts_first, reads, turns, on_link, lane_after, lane_of}
use Rattle.rl_lanes.specs.Sound.{AreSound}
use Rattle.rl_lanes.specs.Follows.{Took, part_of, HoldsOnLink, Holds, LaneHolds, LanesHold}
use Rattle.rl_lanes.proofs.Holds.{grows}
use Rattle.rl_lanes.proofs.Sends.{WithAsks, Stepped, asks_none, attaches, detaches, comes_up, suspends, closes, breaks, waits, collects, without_link, unlinks, opens}
use Rattle.rl_lanes.proofs.Serves.{joins_one, answers_short, reads_follow, pages_follow}
use Rattle.rl_lanes.proofs.Gets.{link_of, passes, attached_or_not, shown_part, entry_gets, page_gets}
use Rattle.rl_lanes.proofs.Answering.{answer_passed, tells_gets, leaves_gets, fails_gets}

-- THE CLIENT'S STEPS

abbrev with_channel : Option ClientChannel → Lane → Lane
with_channel channel lane = record lane { channel = channel }

abbrev with_link : Option Link → Lane → Lane
with_link link lane = record lane { link = link }

-- a step that every channel may take, whatever lies on its link
abbrev IsKept : Setup → ChannelStep → Type 0
IsKept setup step =
    (past : List ChannelEvent) (channel : ClientChannel) (joins begun : List ℕ) (link : Option Link)
    → Holds setup past (part_of channel) joins begun link → Stepped setup past step channel joins begun link

step_follows : (setup : Setup) (step : ChannelStep) (lane : Lane) (channel : Option ClientChannel) → IsKept setup step
    → LaneHolds setup (with_channel channel lane) → LaneHolds setup (steps_known setup step channel (with_channel channel lane))
step_follows setup step lane None kept holds = holds
step_follows setup step lane (Some channel) kept holds = kept lane.past channel lane.joins lane.begun lane.link holds

from_on_link : (setup : Setup) (past : List ChannelEvent) (serial : ChannelSerial) (took : List Took) (joins begun : List ℕ) (link : Option Link)
    → HoldsOnLink setup past (part_of new_channel) took joins begun link → HoldsOnLink setup past (part_of (channel_from serial)) took joins begun link
from_on_link setup past serial took joins begun None is = tt
from_on_link setup past serial took joins begun (Some link) (inl is) =
    inl (record { owed = is.owed; few = is.few; told = is.told; last = is.last; nothing = λ a. absurd (cc); flows = is.flows })
from_on_link setup past serial took joins begun (Some link) (inr is) = inr (record { owed = is.owed; never = λ a. absurd (cc) })

from_serial : (setup : Setup) (past : List ChannelEvent) (serial : ChannelSerial) (joins begun : List ℕ) (link : Option Link)
    → Holds setup past (part_of new_channel) joins begun link → Holds setup past (part_of (channel_from serial)) joins begun link
from_serial setup past serial joins begun link holds = record {
  sound = holds.sound;
  ends = tt;
  early = holds.early;
  took = holds.took;
  stands = λ a. absurd (cc);
  linked = from_on_link setup past serial holds.took joins begun link holds.linked;
}

starts_follow : (setup : Setup) (serial : ChannelSerial) (connected : Bool) (now : ℕ) (lane : Lane) (channel : Option ClientChannel)
    → LaneHolds setup (with_channel channel lane) → LaneHolds setup (starts_at setup serial (kinds.Moves event.AttachAsked connected now) channel (with_channel channel lane))
starts_follow setup serial connected now lane None holds =
    attaches setup lane.past connected now (channel_from serial) lane.joins lane.begun lane.link (from_serial setup lane.past serial lane.joins lane.begun lane.link holds)
starts_follow setup serial connected now lane (Some channel) holds = holds

recovers_follow : (setup : Setup) (serial : ChannelSerial) (lane : Lane) (channel : Option ClientChannel) → LaneHolds setup (with_channel channel lane) → LaneHolds setup (recovers serial channel (with_channel channel lane))
recovers_follow setup serial lane None holds = from_serial setup lane.past serial lane.joins lane.begun lane.link holds
recovers_follow setup serial lane (Some channel) holds = holds

keeps_follow : (setup : Setup) (own : List (List ℕ × List ℕ)) (lane : Lane) (channel : Option ClientChannel) → LaneHolds setup (with_channel channel lane) → LaneHolds setup (with_channel (option_map (with_own_members own) channel) lane)
keeps_follow setup own lane None holds = holds
keeps_follow setup own lane (Some channel) holds = holds

-- THE LINK

unlinks_follow : (setup : Setup) (lane : Lane) (channel : Option ClientChannel) → LaneHolds setup (with_channel channel lane)
    → LaneHolds setup (with_link None (steps_known setup kinds.LinkLost channel (with_channel channel lane)))
unlinks_follow setup lane None holds = without_link setup lane.past 0 (part_of new_channel) lane.joins lane.begun lane.link holds
unlinks_follow setup lane (Some channel) holds = unlinks setup lane.past channel lane.joins lane.begun lane.link holds

opens_follow : (setup : Setup) (lane : Lane) (channel : Option ClientChannel) → LaneHolds setup (with_channel channel lane)
    → LaneHolds setup (with_link (Some new_link) (steps_known setup kinds.LinkOpened channel (with_channel channel lane)))
opens_follow setup lane None holds = opens setup lane.past new_channel lane.joins lane.begun lane.link holds
opens_follow setup lane (Some channel) holds = opens setup lane.past channel lane.joins lane.begun lane.link holds

-- WHAT THE CLIENT GETS

-- one that doesn't know the channel
unknown_gets : (setup : Setup) (past : List ChannelEvent) (joins begun : List ℕ) (one : Coming) (more : List Coming) (asked : List Ask) (session : Option Session)
    → Holds setup past (part_of new_channel) joins begun (Some (link_of (one ∷ more) asked session)) → Holds setup past (part_of new_channel) joins begun (Some (link_of more asked session))
unknown_gets setup past joins begun (Tells given number joining) more asked session holds =
    answer_passed setup past (part_of new_channel) joins begun (Tells given number joining) (ToAttach given) more asked session refl holds
unknown_gets setup past joins begun Leaves more asked session holds = answer_passed setup past (part_of new_channel) joins begun Leaves ToDetach more asked session refl holds
unknown_gets setup past joins begun (Fails given code) more asked session holds =
    answer_passed setup past (part_of new_channel) joins begun (Fails given code) (ToAttach given) more asked session refl holds
unknown_gets setup past joins begun (Gives epoch entry) more asked session holds = passes setup past (part_of new_channel) joins begun (Gives epoch entry) more asked session tt (λ a. absurd (cc)) holds
unknown_gets setup past joins begun (Shows page) more asked session holds = passes setup past (part_of new_channel) joins begun (Shows page) more asked session tt (λ a. absurd (cc)) holds

known_gets : (setup : Setup) (past : List ChannelEvent) (connected : Bool) (now : ℕ) (channel : ClientChannel) (joins begun : List ℕ) (one : Coming) (more : List Coming) (asked : List Ask) (session : Option Session)
    → Holds setup past (part_of channel) joins begun (Some (link_of (one ∷ more) asked session))
    → WithAsks setup past (got setup one connected now channel) joins (begun_by one channel begun) (asked_by setup one connected now channel) (Some (link_of more asked session))
known_gets setup past connected now channel joins begun (Tells given number joining) more asked session holds =
    asks_none setup past (got setup (Tells given number joining) connected now channel) joins (begun_by (Tells given number joining) channel begun) (Some (link_of more asked session))
    (tells_gets setup past given number joining channel joins begun more asked session holds)
known_gets setup past connected now channel joins begun Leaves more asked session holds = leaves_gets setup past connected now channel joins begun more asked session holds
known_gets setup past connected now channel joins begun (Fails given code) more asked session holds =
    asks_none setup past (got setup (Fails given code) connected now channel) joins begun (Some (link_of more asked session))
    (fails_gets setup past given code channel joins begun more asked session holds)
known_gets setup past connected now channel joins begun (Gives epoch entry) more asked session holds =
    asks_none setup past (got setup (Gives epoch entry) connected now channel) joins begun (Some (link_of more asked session))
    (entry_gets setup past channel joins begun epoch now entry more asked session (attached_or_not channel.state) holds)
known_gets setup past connected now channel joins begun (Shows page) more asked session holds =
    asks_none setup past (got setup (Shows page) connected now channel) joins begun (Some (link_of more asked session))
    (subst (λ p. Holds setup past p joins begun (Some (link_of more asked session))) (sym (shown_part page now channel))
    (page_gets setup past (part_of channel) joins begun page more asked session (attached_or_not channel.state) holds))

first_follows : (setup : Setup) (connected : Bool) (now : ℕ) (lane : Lane) (channel : Option ClientChannel) (coming : List Coming) (asked : List Ask) (session : Option Session)
    → LaneHolds setup (with_channel channel (with_link (Some (link_of coming asked session)) lane))
    → LaneHolds setup (gets_first setup connected now coming (link_of coming asked session) (with_channel channel (with_link (Some (link_of coming asked session)) lane)))
first_follows setup connected now lane channel [] asked session holds = holds
first_follows setup connected now lane None (one ∷ more) asked session holds = unknown_gets setup lane.past lane.joins lane.begun one more asked session holds
first_follows setup connected now lane (Some channel) (one ∷ more) asked session holds = known_gets setup lane.past connected now channel lane.joins lane.begun one more asked session holds

gets_follow : (setup : Setup) (connected : Bool) (now : ℕ) (lane : Lane) (link : Option Link) → LaneHolds setup (with_link link lane) → LaneHolds setup (gets setup connected now link (with_link link lane))
gets_follow setup connected now lane None holds = holds
gets_follow setup connected now lane (Some link) holds = first_follows setup connected now lane lane.channel link.coming link.asks link.session holds

-- WHAT THE ACTOR DOES

joins_follow : (setup : Setup) (number sequence : ℕ) (lane : Lane) (link : Link) (asked : List Ask) → link.asks ≡ asked → LaneHolds setup (with_link (Some link) lane)
    → LaneHolds setup (joins_first setup number sequence asked link (with_link (Some link) lane))
joins_follow setup number sequence lane link [] is holds = holds
joins_follow setup number sequence lane link (ToDetach ∷ more) is holds = holds
joins_follow setup number sequence lane link (ToAttach given ∷ more) is holds =
    joins_one setup lane.past given number sequence (part_of (channel_or_new lane.channel)) lane.joins lane.begun more link is holds

refuses_follow : (setup : Setup) (code : ℕ) (lane : Lane) (link : Link) (asked : List Ask) → link.asks ≡ asked → LaneHolds setup (with_link (Some link) lane)
    → LaneHolds setup (refuses_first code asked link (with_link (Some link) lane))
refuses_follow setup code lane link [] is holds = holds
refuses_follow setup code lane link (ToDetach ∷ more) is holds = holds
refuses_follow setup code lane link (ToAttach given ∷ more) is holds =
    answers_short setup lane.past (part_of (channel_or_new lane.channel)) lane.joins lane.begun (Fails given code) (ToAttach given) more link refl is holds

parts_follow : (setup : Setup) (lane : Lane) (link : Link) (asked : List Ask) → link.asks ≡ asked → LaneHolds setup (with_link (Some link) lane)
    → LaneHolds setup (parts_first asked link (with_link (Some link) lane))
parts_follow setup lane link [] is holds = holds
parts_follow setup lane link (ToAttach given ∷ more) is holds = holds
parts_follow setup lane link (ToDetach ∷ more) is holds =
    answers_short setup lane.past (part_of (channel_or_new lane.channel)) lane.joins lane.begun Leaves ToDetach more link refl is holds

act_follows : (setup : Setup) (act : Link → Lane → Lane) (lane : Lane) → ((link : Link) → LaneHolds setup (with_link (Some link) lane) → LaneHolds setup (act link (with_link (Some link) lane)))
    → (link : Option Link) → LaneHolds setup (with_link link lane) → LaneHolds setup (on_link act link (with_link link lane))
act_follows setup act lane kept None holds = holds
act_follows setup act lane kept (Some link) holds = kept link holds

-- ALL MOVES

pub move_follows : (setup : Setup) (move : Move) (lane : Lane) → LaneHolds setup lane → LaneHolds setup (lane_after setup move lane)
move_follows setup (moves.Happens one) lane holds = grows setup one lane.past (part_of (channel_or_new lane.channel)) lane.joins lane.begun lane.link holds
move_follows setup (moves.Attaches connected now) lane holds = attaches setup lane.past connected now (channel_or_new lane.channel) lane.joins lane.begun lane.link holds
move_follows setup (moves.StartsAt serial connected now) lane holds = starts_follow setup serial connected now lane lane.channel holds
move_follows setup (moves.Detaches connected now) lane holds =
    step_follows setup (kinds.Moves (event.DetachAsked connected) connected now) lane lane.channel (λ past channel joins begun link h. detaches setup past connected now channel joins begun link h) holds
move_follows setup (moves.Recovers serial) lane holds = recovers_follow setup serial lane lane.channel holds
move_follows setup (moves.Waits now) lane holds = step_follows setup (kinds.Waited now) lane lane.channel (λ past channel joins begun link h. waits setup past now channel joins begun link h) holds
move_follows setup (moves.Collects now) lane holds = step_follows setup (kinds.Collects now) lane lane.channel (λ past channel joins begun link h. collects setup past now channel joins begun link h) holds
move_follows setup (moves.Keeps own) lane holds = keeps_follow setup own lane lane.channel holds
move_follows setup (moves.Suspends now) lane holds =
    step_follows setup (kinds.Moves event.ConnSuspended true now) lane lane.channel (λ past channel joins begun link h. suspends setup past now channel joins begun link h) holds
move_follows setup (moves.Closes now) lane holds =
    step_follows setup (kinds.Moves event.ConnClosed true now) lane lane.channel (λ past channel joins begun link h. closes setup past now channel joins begun link h) holds
move_follows setup (moves.Breaks now) lane holds =
    step_follows setup (kinds.Moves event.ConnFailed true now) lane lane.channel (λ past channel joins begun link h. breaks setup past now channel joins begun link h) holds
move_follows setup moves.Unlinks lane holds = unlinks_follow setup lane lane.channel holds
move_follows setup moves.Opens lane holds = opens_follow setup lane lane.channel holds
move_follows setup (moves.ComesUp now) lane holds =
    step_follows setup (kinds.Moves event.ConnUp true now) lane lane.channel (λ past channel joins begun link h. comes_up setup past now channel joins begun link h) holds
move_follows setup (moves.Gets connected now) lane holds = gets_follow setup connected now lane lane.link holds
move_follows setup (moves.Joins number sequence) lane holds =
    act_follows setup (λ (link : Link). joins_first setup number sequence link.asks link) lane (λ (link : Link) h. joins_follow setup number sequence lane link link.asks refl h) lane.link holds
move_follows setup (moves.Refuses code) lane holds =
    act_follows setup (λ (link : Link). refuses_first code link.asks link) lane (λ (link : Link) h. refuses_follow setup code lane link link.asks refl h) lane.link holds
move_follows setup moves.Parts lane holds =
    act_follows setup (λ (link : Link). parts_first link.asks link) lane (λ (link : Link) h. parts_follow setup lane link link.asks refl h) lane.link holds
move_follows setup (moves.Reads most) lane holds =
    act_follows setup (λ (link : Link). reads setup most link.session link) lane (λ (link : Link) h. reads_follow setup most link.session link lane refl h) lane.link holds
move_follows setup moves.TurnsPage lane holds =
    act_follows setup (λ (link : Link). turns setup link.session link) lane (λ (link : Link) h. pages_follow setup link.session link lane refl h) lane.link holds

new_follows : (setup : Setup) → LaneHolds setup new_lane
new_follows setup = record {
  sound = record { each = tt; begin = tt; fall = tt; own = tt; later = tt; in_order = tt };
  ends = inl refl;
  early = tt;
  took = [];
  stands = λ a. absurd (cc);
  linked = tt;
}

pub lanes_hold : LanesHold
lanes_hold setup [] = new_follows setup
lanes_hold setup (move ∷ before) = move_follows setup move (lane_of setup before) (lanes_hold setup before)

pub records_are_sound : (setup : Setup) (all : List Move) → AreSound setup (lane_of setup all)
records_are_sound setup all = (lanes_hold setup all).sound
