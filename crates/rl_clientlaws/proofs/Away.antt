-- What one step makes of a channel's flag `away` and of the runs of its record.
use Rattle.std.proofs.Common.{◌≡◌, ℕ, Bool, true, false, List, ◌∷◌, map, refl}
use Rattle.std.specs.Prelude.{⊤, if◌then◌else◌}
use Rattle.rl_types.specs.declared.states.ChanState.{ChanState}
use Rattle.rl_types.specs.declared.states.ChanState.TheVariants as chan
use Rattle.rl_chansm.specs.declared.table.ChanEvent.{ChanEvent}
use Rattle.rl_chansm.specs.declared.table.ChanEvent.TheVariants as event
use Rattle.rl_chansm.specs.Table.{chan_table}
use Rattle.rl_chansm.specs.Rules.{sends_attach, sends_detach}
use Rattle.rl_chansm.specs.Owed.{takes_detached, takes_error, takes_unasked}
use Rattle.rl_clientmodel.specs.declared.runs.Beginning.{Beginning}
use Rattle.rl_clientmodel.specs.declared.runs.Beginning.TheVariants.{Answered, Unasked, Skipped}
use Rattle.rl_clientmodel.specs.declared.runs.Run.{Run}
use Rattle.rl_clientmodel.specs.declared.steps.ChannelStep.{ChannelStep}
use Rattle.rl_clientmodel.specs.declared.steps.ChannelStep.TheVariants.{Moves, DetachedGot, ErrorGot, LinkLost, LinkOpened, Waited, Collects}
use Rattle.rl_clientmodel.specs.Channels.{ClientChannel, attach_sent, channel_after, detach_sent, in_state, is_late, moved, one_less, told}
use Rattle.rl_clientlaws.specs.Leaving.{is_left}

-- what began each run: an entry that is got changes nothing of it
abbrev pub beginnings : List Run → List Beginning
beginnings runs = map (λ (run : Run). run.beginning) runs

-- THE RELATION, between a channel's runs and flag before, and its state, runs and flag after

-- no run begins, and the flag stays, or the channel is left
pub data IsCalm (runs : List Run) (away : Bool) (state : ChanState) (next : List Run) (flag : Bool) : Type 0 where
  Stays : beginnings next ≡ beginnings runs → flag ≡ away → IsCalm runs away state next flag
  Leaves : beginnings next ≡ beginnings runs → is_left state ≡ true → IsCalm runs away state next flag

-- an answer begins a run with the flag as it stood
abbrev pub Tells : Bool → Beginning → Type 0
Tells away (Answered asked resumed told flag) = flag ≡ away
Tells away (Unasked held resumed told) = ⊤
Tells away (Skipped held told) = ⊤

-- so; or a run begins, with the flag as it stood, and then it stands no more
pub data Goes (runs : List Run) (away : Bool) (state : ChanState) (next : List Run) (flag : Bool) : Type 0 where
  Calmly : IsCalm runs away state next flag → Goes runs away state next flag
  Begins : (beginning : Beginning) → beginnings next ≡ beginning ∷ beginnings runs → flag ≡ false → Tells away beginning → Goes runs away state next flag

abbrev pub CalmTo : ClientChannel → ClientChannel → Type 0
CalmTo before after = IsCalm before.runs before.away after.state after.runs after.away

abbrev pub GoesTo : ClientChannel → ClientChannel → Type 0
GoesTo before after = Goes before.runs before.away after.state after.runs after.away

pub as_it_was : (c : ClientChannel) → CalmTo c c
as_it_was c = Stays refl refl

-- STEPS OF THE TABLE

in_calm : (s : ChanState) (c : ClientChannel) → CalmTo c (in_state s c)
in_calm chan.Initialized c = Stays refl refl
in_calm chan.Attaching c = Stays refl refl
in_calm chan.Attached c = Stays refl refl
in_calm chan.Detaching c = Stays refl refl
in_calm chan.Detached c = Leaves refl refl
in_calm chan.Suspended c = Leaves refl refl
in_calm chan.Failed c = Leaves refl refl

moved_calm : (one : ChanEvent) (c : ClientChannel) → CalmTo c (moved one c)
moved_calm one c = in_calm (chan_table c.state one) c

sent_calm : (attaches detaches : Bool) (now : ℕ) (before after : ClientChannel) → CalmTo before after
    → CalmTo before (if attaches then attach_sent now after else if detaches then detach_sent after else after)
sent_calm true detaches now before after is = is
sent_calm false true now before after is = is
sent_calm false false now before after is = is

told_calm : (connected : Bool) (one : ChanEvent) (now : ℕ) (c : ClientChannel) → CalmTo c (told connected one now c)
told_calm connected one now c = sent_calm (sends_attach connected c.state one) (sends_detach c.state one) now c (moved one c) (moved_calm one c)

one_of : (b d : Bool) (before first second third : ClientChannel) → CalmTo before first → CalmTo before second → CalmTo before third
    → CalmTo before (if b then first else if d then second else third)
one_of true d before first second third one two three = one
one_of false true before first second third one two three = two
one_of false false before first second third one two three = three

either : (b : Bool) (before first second : ClientChannel) → CalmTo before first → CalmTo before second → CalmTo before (if b then first else second)
either true before first second one two = one
either false before first second one two = two

-- a step that keeps nothing more begins no run
pub step_calm : (step : ChannelStep) (c : ClientChannel) → CalmTo c (channel_after step c)
step_calm (Moves one connected now) c = told_calm connected one now c
step_calm (DetachedGot connected now) c =
    one_of (takes_unasked c.owed c.state) (takes_detached c.owed c.state) c _ _ _
    (told_calm connected event.DetachedUnasked now c) (moved_calm event.DetachedTaken (one_less c)) (as_it_was c)
step_calm ErrorGot c = either (takes_error c.owed c.state) c _ _ (moved_calm event.ErrorTaken (one_less c)) (as_it_was c)
step_calm LinkLost c = moved_calm event.LinkDown (record c { owed = 0 })
step_calm LinkOpened c = as_it_was c
step_calm (Waited now) c = either (is_late now c) c _ _ (moved_calm event.Timeout c) (as_it_was c)
step_calm (Collects now) c = as_it_was c

-- a channel that was left within an input is left still when its link is lost
left_so : (runs next : List Run) (away flag : Bool) (s t : ChanState) (other : Bool) → is_left t ≡ true
    → IsCalm runs away s next flag → IsCalm runs away t next other
left_so runs next away flag s t other is (Stays same stands) = Leaves same is
left_so runs next away flag s t other is (Leaves same left) = Leaves same is

lost_from : (runs : List Run) (away : Bool) (s : ChanState) (c : ClientChannel) → IsCalm runs away s c.runs c.away
    → IsCalm runs away (in_state (chan_table s event.LinkDown) c).state (in_state (chan_table s event.LinkDown) c).runs (in_state (chan_table s event.LinkDown) c).away
lost_from runs away chan.Initialized c is = is
lost_from runs away chan.Attaching c is = is
lost_from runs away chan.Attached c is = is
lost_from runs away chan.Detaching c is = left_so runs c.runs away c.away chan.Detaching chan.Detached true refl is
lost_from runs away chan.Detached c is = left_so runs c.runs away c.away chan.Detached chan.Detached true refl is
lost_from runs away chan.Suspended c is = left_so runs c.runs away c.away chan.Suspended chan.Suspended true refl is
lost_from runs away chan.Failed c is = left_so runs c.runs away c.away chan.Failed chan.Failed true refl is

pub lost_calm : (before c : ClientChannel) → CalmTo before c → CalmTo before (channel_after LinkLost c)
lost_calm before c is = lost_from before.runs before.away c.state (record c { owed = 0 }) is
