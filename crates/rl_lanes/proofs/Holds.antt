-- What a lane keeps where the channel takes an event of somebody else, and where the client's channel changes its state.
use Rattle.std.proofs.Common.{◌≡◌, ◌⊎◌, inl, inr, ℕ, Bool, true, List, ◌∷◌, length, refl, sym, ap, subst, arith}
use Rattle.std.specs.Prelude.{Option, Some, None, slice_get}
use Rattle.rl_ids.specs.declared.serials.ChannelSerial.{ChannelSerial}
use Rattle.rl_types.specs.declared.states.ChanState.{ChanState}
use Rattle.rl_types.specs.declared.states.ChanState.TheVariants as chan
use Rattle.rl_events.specs.declared.channel.ChannelEvent.{ChannelEvent}
use Rattle.rl_chansm.specs.declared.table.ChanEvent.{ChanEvent}
use Rattle.rl_chansm.specs.declared.table.ChanEvent.TheVariants as event
use Rattle.rl_chansm.specs.Table.{chan_table}
use Rattle.rl_chansm.proofs.Cases.{attached_by_the_service}
use Rattle.rl_model.specs.Verdict.{log}
use Rattle.rl_claims.proofs.Sound.{each_weaker}
use Rattle.rl_claims.proofs.Runs.{log_grows}
use Rattle.rl_clientmodel.specs.declared.runs.Run.{Run}
use Rattle.rl_clientmodel.specs.Channels.{ClientChannel, in_state, moved}
use Rattle.rl_lanes.specs.Lanes.{Setup, Ask, ToAttach, ToDetach, Coming, Link}
use Rattle.rl_lanes.specs.Lanes as lanes
use Rattle.rl_lanes.specs.Sound.{IsAmong}
use Rattle.rl_lanes.specs.Follows.{Took, outstanding, Part, part_of, end_of, EndsWith, IsAskOf, IsTrue, IsLinked, HoldsOnLink, Holds}
use Rattle.rl_lanes.proofs.Logs.{get_append, head_grows}
use Rattle.rl_lanes.proofs.Flight.{last_weaker}
use Rattle.rl_lanes.proofs.Records.{runs_grow, below_more}

-- AN EVENT OF SOMEBODY ELSE

true_grows : (setup : Setup) (event : ChannelEvent) (past : List ChannelEvent) (end : ℕ) (joins more begun : List ℕ) → ((n : ℕ) → IsAmong joins n → IsAmong more n)
    → (coming : Coming) → IsTrue setup past end joins begun coming → IsTrue setup (event ∷ past) end more begun coming
true_grows setup event past end joins more begun wider (lanes.Tells given number joining) is = record {
  before = is.before;
  later = event ∷ is.later;
  taken = ap (λ events. event ∷ events) is.taken;
  at = is.at;
  replied = is.replied;
  resumes = is.resumes;
  tells = is.tells;
  within = omega (arith, is.within, head_grows setup.site event past);
  low = is.low;
  own = wider number is.own;
  above = is.above;
}
true_grows setup event past end joins more begun wider (lanes.Gives epoch entry) is =
    let g = log_grows setup.site event past in
    (is.0, is.1, subst (λ l. slice_get l is.0 ≡ Some entry) (sym g.1) (get_append (log setup.site past) g.0 is.0 entry is.2))
true_grows setup event past end joins more begun wider lanes.Leaves is = tt
true_grows setup event past end joins more begun wider (lanes.Fails given code) is = tt
true_grows setup event past end joins more begun wider (lanes.Shows page) is = tt

pub linked_grows : (setup : Setup) (event : ChannelEvent) (past : List ChannelEvent) (part : Part) (took : List Took) (joins more begun : List ℕ) → ((n : ℕ) → IsAmong joins n → IsAmong more n)
    → (link : Link) → IsLinked setup past part took joins begun link → IsLinked setup (event ∷ past) part took more begun link
linked_grows setup event past part took joins more begun wider link is = record {
  owed = is.owed;
  few = is.few;
  told = each_weaker (IsTrue setup past (end_of part.runs) joins begun) (IsTrue setup (event ∷ past) (end_of part.runs) more begun) (true_grows setup event past (end_of part.runs) joins more begun wider) link.coming is.told;
  last = is.last;
  nothing = is.nothing;
  flows = is.flows;
}

-- on a link, whatever becomes of it, or where the count is stuck
on_link_grows : (setup : Setup) (event : ChannelEvent) (past : List ChannelEvent) (part : Part) (took : List Took) (joins begun : List ℕ) (link : Option Link)
    → HoldsOnLink setup past part took joins begun link → HoldsOnLink setup (event ∷ past) part took joins begun link
on_link_grows setup event past part took joins begun None is = tt
on_link_grows setup event past part took joins begun (Some link) (inl linked) = inl (linked_grows setup event past part took joins joins begun (λ n among. among) link linked)
on_link_grows setup event past part took joins begun (Some link) (inr stuck) = inr stuck

pub grows : (setup : Setup) (event : ChannelEvent) (past : List ChannelEvent) (part : Part) (joins begun : List ℕ) (link : Option Link)
    → Holds setup past part joins begun link → Holds setup (event ∷ past) part joins begun link
grows setup event past part joins begun link holds = record {
  sound = runs_grow setup event past joins joins begun part.runs (λ n among. among) holds.sound;
  ends = holds.ends;
  early = below_more (length past) begun holds.early;
  took = holds.took;
  stands = holds.stands;
  linked = on_link_grows setup event past part holds.took joins begun link holds.linked;
}

-- ANOTHER STATE

abbrev pub in_kept : ChanState → Part → Part
in_kept state part = record part { state = state }

abbrev pub in_away : ChanState → Part → Part
in_away state part = record part { state = state; held = None; away = true }

kept_on_link : (setup : Setup) (past : List ChannelEvent) (state : ChanState) (part : Part) (took : List Took) (joins begun : List ℕ) (link : Option Link) → (state ≡ chan.Attached → part.state ≡ chan.Attached)
    → HoldsOnLink setup past part took joins begun link → HoldsOnLink setup past (in_kept state part) took joins begun link
kept_on_link setup past state part took joins begun None before is = tt
kept_on_link setup past state part took joins begun (Some link) before (inl is) = inl (record {
  owed = is.owed;
  few = is.few;
  told = is.told;
  last = is.last;
  nothing = λ a. is.nothing (before a);
  flows = λ may. is.flows (λ none. before (may none));
})
kept_on_link setup past state part took joins begun (Some link) before (inr is) = inr (record { owed = is.owed; never = λ a. is.never (before a) })

pub keeps_in : (setup : Setup) (past : List ChannelEvent) (state : ChanState) (part : Part) (joins begun : List ℕ) (link : Option Link) → (state ≡ chan.Attached → part.state ≡ chan.Attached)
    → Holds setup past part joins begun link → Holds setup past (in_kept state part) joins begun link
keeps_in setup past state part joins begun link before holds = record {
  sound = holds.sound;
  ends = holds.ends;
  early = holds.early;
  took = holds.took;
  stands = λ a. let s = holds.stands (before a) in record { serial = s.serial; held = s.held; epoch = s.epoch; place = s.place };
  linked = kept_on_link setup past state part holds.took joins begun link before holds.linked;
}

away_ends : (runs : List Run) (away : Bool) (serial : Option ChannelSerial) → EndsWith runs away serial → EndsWith runs true serial
away_ends runs away None ends = inr refl
away_ends runs away (Some serial) ends = ends

away_ask : (runs : List Run) (away : Bool) (asked : Option ChannelSerial) (ask : Ask) → IsAskOf runs away asked ask → IsAskOf runs true asked ask
away_ask runs away asked (ToAttach given) is = (is.0, away_ends runs away asked is.1)
away_ask runs away asked ToDetach is = tt

away_on_link : (setup : Setup) (past : List ChannelEvent) (state : ChanState) (part : Part) (took : List Took) (joins begun : List ℕ) (link : Option Link) → (state ≡ chan.Attached → part.state ≡ chan.Attached)
    → HoldsOnLink setup past part took joins begun link → HoldsOnLink setup past (in_away state part) took joins begun link
away_on_link setup past state part took joins begun None before is = tt
away_on_link setup past state part took joins begun (Some link) before (inl is) = inl (record {
  owed = is.owed;
  few = is.few;
  told = is.told;
  last = last_weaker (IsAskOf part.runs part.away part.asked) (IsAskOf part.runs true part.asked) (away_ask part.runs part.away part.asked) (outstanding link) is.last;
  nothing = λ a. is.nothing (before a);
  flows = λ may. is.flows (λ none. before (may none));
})
away_on_link setup past state part took joins begun (Some link) before (inr is) = inr (record { owed = is.owed; never = λ a. is.never (before a) })

pub goes_away : (setup : Setup) (past : List ChannelEvent) (state : ChanState) (part : Part) (joins begun : List ℕ) (link : Option Link) → (state ≡ chan.Attached → ⊥)
    → Holds setup past part joins begun link → Holds setup past (in_away state part) joins begun link
goes_away setup past state part joins begun link never holds = record {
  sound = holds.sound;
  ends = inr refl;
  early = holds.early;
  took = holds.took;
  stands = λ a. absurd (never a);
  linked = away_on_link setup past state part holds.took joins begun link (λ a. absurd (never a)) holds.linked;
}

-- any state, ATTACHED only where it was
pub to_state : (setup : Setup) (past : List ChannelEvent) (state : ChanState) (channel : ClientChannel) (joins begun : List ℕ) (link : Option Link) → (state ≡ chan.Attached → channel.state ≡ chan.Attached)
    → Holds setup past (part_of channel) joins begun link → Holds setup past (part_of (in_state state channel)) joins begun link
to_state setup past chan.Initialized channel joins begun link before holds = keeps_in setup past chan.Initialized (part_of channel) joins begun link before holds
to_state setup past chan.Attaching channel joins begun link before holds = keeps_in setup past chan.Attaching (part_of channel) joins begun link before holds
to_state setup past chan.Attached channel joins begun link before holds = keeps_in setup past chan.Attached (part_of channel) joins begun link before holds
to_state setup past chan.Detaching channel joins begun link before holds = keeps_in setup past chan.Detaching (part_of channel) joins begun link before holds
to_state setup past chan.Detached channel joins begun link before holds = goes_away setup past chan.Detached (part_of channel) joins begun link (λ a. absurd (cc)) holds
to_state setup past chan.Suspended channel joins begun link before holds = goes_away setup past chan.Suspended (part_of channel) joins begun link (λ a. absurd (cc)) holds
to_state setup past chan.Failed channel joins begun link before holds = goes_away setup past chan.Failed (part_of channel) joins begun link (λ a. absurd (cc)) holds

-- an event by which no channel comes to be ATTACHED
pub moves : (setup : Setup) (past : List ChannelEvent) (one : ChanEvent) (channel : ClientChannel) (joins begun : List ℕ) (link : Option Link) → (one ≡ event.AttachedTaken → ⊥)
    → Holds setup past (part_of channel) joins begun link → Holds setup past (part_of (moved one channel)) joins begun link
moves setup past one channel joins begun link other holds =
    to_state setup past (chan_table channel.state one) channel joins begun link (λ a. was (attached_by_the_service channel.state one a)) holds
  where
    was : (channel.state ≡ chan.Attached) ⊎ ((channel.state ≡ chan.Attaching) × (one ≡ event.AttachedTaken)) → channel.state ≡ chan.Attached
    was (inl a) = a
    was (inr answer) = absurd (other answer.1)
