-- What one input makes of the flag `away` and the runs of each of a client's channels.
use Rattle.std.proofs.Common.{◌≡◌, ℕ, Bool, true, false, List, Option, Some, None, refl, sym, subst}
use Rattle.std.specs.Prelude.{⊤, option_map}
use Rattle.rl_types.specs.declared.states.ConnState.{ConnState}
use Rattle.rl_runs.specs.declared.commands.Command.{Command}
use Rattle.rl_runs.specs.declared.commands.Command.TheVariants as commands
use Rattle.rl_connsm.specs.Rules.{attach_refused, forgets_connection, loses_link, opens_link}
use Rattle.rl_connsm.specs.declared.table.ConnEvent.{ConnEvent}
use Rattle.rl_connsm.specs.declared.table.ConnEvent.TheVariants as events
use Rattle.rl_chansm.specs.Connection.{event_of}
use Rattle.rl_chansm.specs.Rules.{attach_at_refused}
use Rattle.rl_chansm.specs.declared.table.ChanEvent.{ChanEvent}
use Rattle.rl_names.specs.Names.{at, with_entry}
use Rattle.rl_clientmodel.specs.declared.steps.ChannelStep.{ChannelStep}
use Rattle.rl_clientmodel.specs.declared.steps.ChannelStep.TheVariants as kinds
use Rattle.rl_clientmodel.specs.Channels.{ClientChannel, channel_after, channel_from}
use Rattle.rl_clientmodel.specs.Commands.{Refusal, attach_step, by_channel, by_connection, channel_or_new, detach_step, known_state, obeyed, obeyed_unless, or_refusal, refusal, with_own, without_own}
use Rattle.rl_clientmodel.specs.Inputs.{Told, step}
use Rattle.rl_clientmodel.specs.States.{ClientState, all_after, changed, channels_after, conn_moved, forgotten, state_after, step_by, step_if, stepped}
use Rattle.rl_clientlaws.proofs.Named.{at_each, at_with}
use Rattle.rl_clientlaws.proofs.Away.{Calmly, CalmTo, GoesTo, Stays, as_it_was, lost_calm, step_calm}

-- WHAT STOOD AT A NAME AND WHAT STANDS THERE: a channel that was not known was a new one

abbrev pub CalmAt : Option ClientChannel → Option ClientChannel → Type 0
CalmAt before None = ⊤
CalmAt before (Some channel) = CalmTo (channel_or_new before) channel

abbrev pub GoesAt : Option ClientChannel → Option ClientChannel → Type 0
GoesAt before None = ⊤
GoesAt before (Some channel) = GoesTo (channel_or_new before) channel

-- what a turn makes of all channels
abbrev pub Turned : List (List ℕ × ClientChannel) → List (List ℕ × ClientChannel) → Type 0
Turned before after = (q : List ℕ) → GoesAt (at q before) (at q after)

pub calmly : (o p : Option ClientChannel) → CalmAt o p → GoesAt o p
calmly o None is = tt
calmly o (Some channel) is = Calmly is

same_at : (o : Option ClientChannel) → GoesAt o o
same_at None = tt
same_at (Some channel) = Calmly (as_it_was channel)

pub same : (es : List (List ℕ × ClientChannel)) → Turned es es
same es q = same_at (at q es)

-- ONE CHANNEL

pub one_turned : (name : List ℕ) (channel : ClientChannel) (es : List (List ℕ × ClientChannel)) → GoesTo (channel_or_new (at name es)) channel → Turned es (with_entry name channel es)
one_turned name channel es goes q =
    at_with (GoesAt (at q es)) q name channel es
    (λ key. subst (λ (n : List ℕ). GoesTo (channel_or_new (at n es)) channel) (sym key) goes)
    (same es q)

-- one that is known
pub changed_turned : (name : List ℕ) (f : ClientChannel → ClientChannel) (o : Option ClientChannel) (s : ClientState) → at name s.channels ≡ o
    → ((c : ClientChannel) → GoesTo c (f c)) → Turned s.channels (changed name f o s).channels
changed_turned name f None s is goes = same s.channels
changed_turned name f (Some c) s is goes =
    one_turned name (f c) s.channels (subst (λ (o : Option ClientChannel). GoesTo (channel_or_new o) (f c)) (sym is) (goes c))

pub stepped_turned : (one : ChannelStep) (name : List ℕ) (o : Option ClientChannel) (s : ClientState) → at name s.channels ≡ o → Turned s.channels (stepped one name o s).state.channels
stepped_turned one name None s is = same s.channels
stepped_turned one name (Some c) s is =
    one_turned name (channel_after one c) s.channels (subst (λ (o : Option ClientChannel). GoesTo (channel_or_new o) (channel_after one c)) (sym is) (Calmly (step_calm one c)))

-- ALL CHANNELS

step_at : (one : ChannelStep) (o : Option ClientChannel) → CalmAt o (option_map (channel_after one) o)
step_at one None = tt
step_at one (Some c) = step_calm one c

lost_at : (o p : Option ClientChannel) → CalmAt o p → CalmAt o (option_map (channel_after kinds.LinkLost) p)
lost_at o None is = tt
lost_at o (Some c) is = lost_calm (channel_or_new o) c is

opened_at : (o p : Option ClientChannel) → CalmAt o p → CalmAt o (option_map (channel_after kinds.LinkOpened) p)
opened_at o None is = tt
opened_at o (Some c) is = is

pub collected_at : (now : ℕ) (o p : Option ClientChannel) → GoesAt o p → GoesAt o (option_map (channel_after (kinds.Collects now)) p)
collected_at now o None is = tt
collected_at now o (Some c) is = is

pub all_calm : (one : ChannelStep) (q : List ℕ) (es : List (List ℕ × ClientChannel)) → CalmAt (at q es) (at q (all_after one es))
all_calm one q es = subst (CalmAt (at q es)) (sym (at_each q (channel_after one) es)) (step_at one (at q es))

-- A STEP OF THE CONNECTION

same_calm : (o : Option ClientChannel) → CalmAt o o
same_calm None = tt
same_calm (Some channel) = as_it_was channel

told_calm : (one : Option ChanEvent) (now : ℕ) (q : List ℕ) (es : List (List ℕ × ClientChannel)) → CalmAt (at q es) (at q (step_by one now es))
told_calm None now q es = same_calm (at q es)
told_calm (Some one) now q es = all_calm (kinds.Moves one true now) q es

lost_if : (b : Bool) (q : List ℕ) (o : Option ClientChannel) (es : List (List ℕ × ClientChannel)) → CalmAt o (at q es) → CalmAt o (at q (step_if b kinds.LinkLost es))
lost_if false q o es is = is
lost_if true q o es is = subst (CalmAt o) (sym (at_each q (channel_after kinds.LinkLost) es)) (lost_at o (at q es) is)

opened_if : (b : Bool) (q : List ℕ) (o : Option ClientChannel) (es : List (List ℕ × ClientChannel)) → CalmAt o (at q es) → CalmAt o (at q (step_if b kinds.LinkOpened es))
opened_if false q o es is = is
opened_if true q o es is = subst (CalmAt o) (sym (at_each q (channel_after kinds.LinkOpened) es)) (opened_at o (at q es) is)

conn_calm : (one : ConnEvent) (before after : ConnState) (now : ℕ) (q : List ℕ) (es : List (List ℕ × ClientChannel)) → CalmAt (at q es) (at q (channels_after one before after now es))
conn_calm one before after now q es =
    opened_if (opens_link before after) q (at q es) _ (lost_if (loses_link one before after) q (at q es) _ (told_calm (event_of before after) now q es))

forgotten_channels : (b : Bool) (s : ClientState) → (forgotten b s).channels ≡ s.channels
forgotten_channels true s = refl
forgotten_channels false s = refl

pub moved_turned : (one : ConnEvent) (now : ℕ) (s : ClientState) → Turned s.channels (conn_moved one now s).channels
moved_turned one now s q =
    subst (λ (es : List (List ℕ × ClientChannel)). GoesAt (at q s.channels) (at q es)) (sym (forgotten_channels (forgets_connection (state_after one s)) _))
    (calmly (at q s.channels) _ (conn_calm one s.conn (state_after one s) now q s.channels))

-- COMMANDS

not_known : (r : Option Refusal) (o : Option ClientChannel) → or_refusal r (by_channel (attach_at_refused (known_state o))) ≡ None → o ≡ None
not_known None None none = refl
not_known None (Some channel) none = absurd (cc)
not_known (Some r) o none = absurd (cc)

obeyed_turned : (command : Command) (now : ℕ) (s : ClientState) → refusal command s ≡ None → Turned s.channels (obeyed command now s).state.channels
obeyed_turned commands.Connect now s may = moved_turned events.Connect now s
obeyed_turned commands.Close now s may = moved_turned events.CloseAsked now s
obeyed_turned commands.Die now s may = moved_turned events.Died now s
obeyed_turned (commands.Attach name) now s may =
    one_turned name (channel_after (attach_step now s) (channel_or_new (at name s.channels))) s.channels (Calmly (step_calm (attach_step now s) (channel_or_new (at name s.channels))))
obeyed_turned (commands.AttachAt name serial) now s may =
    one_turned name (channel_after (attach_step now s) (channel_from serial)) s.channels
    (subst (λ (o : Option ClientChannel). GoesTo (channel_or_new o) (channel_after (attach_step now s) (channel_from serial)))
    (sym (not_known (by_connection (attach_refused s.conn)) (at name s.channels) may)) (Calmly (step_calm (attach_step now s) (channel_from serial))))
obeyed_turned (commands.Detach name) now s may = stepped_turned (detach_step now s) name (at name s.channels) s refl
obeyed_turned (commands.Publish name items) now s may = same s.channels
obeyed_turned (commands.Enter name client payload) now s may = changed_turned name (with_own client payload) (at name s.channels) s refl (λ c. Calmly (Stays refl refl))
obeyed_turned (commands.Update name client payload) now s may = changed_turned name (with_own client payload) (at name s.channels) s refl (λ c. Calmly (Stays refl refl))
obeyed_turned (commands.Leave name client) now s may = changed_turned name (without_own client) (at name s.channels) s refl (λ c. Calmly (Stays refl refl))
obeyed_turned (commands.Operate name ops) now s may = same s.channels

unless_turned : (r : Option Refusal) (command : Command) (now : ℕ) (s : ClientState) → refusal command s ≡ r → Turned s.channels (obeyed_unless r command now s).state.channels
unless_turned None command now s is = obeyed_turned command now s is
unless_turned (Some refused) command now s is = same s.channels

pub told_turned : (command : Command) (now : ℕ) (s : ClientState) → Turned s.channels (step (Told command now) s).state.channels
told_turned command now s = unless_turned (refusal command s) command now s refl
