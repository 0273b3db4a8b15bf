-- The history of a channel: all events that it took, the latest first. So "the last .." is `find`, and each
-- definition says what one more event makes of what was there before it. (This project's own.)
use Rattle.std.specs.Prelude.{ℕ, max, List, [], ◌∷◌}
use Rattle.rl_events.specs.declared.channel.ChannelEvent.{ChannelEvent}
use Rattle.rl_events.specs.declared.channel.ChannelEvent.TheVariants.{Put, Gone, Tick}
use Rattle.rl_objmodel.specs.Rules.{Setting}

-- the moment that an event was given
abbrev pub moment_of : ChannelEvent → ℕ
moment_of (Put conn serial body now) = now
moment_of (Gone conn now) = now
moment_of (Tick now) = now
moment_of _ = 0

-- the clock: the greatest moment so far
abbrev pub clock : List ChannelEvent → ℕ
clock [] = 0
clock (event ∷ past) = max (moment_of event) (clock past)

-- the clock at the last Tick, 0 before the first
abbrev pub ticked : List ChannelEvent → ℕ
ticked [] = 0
ticked (Tick now ∷ past) = clock (Tick now ∷ past)
ticked (_ ∷ past) = ticked past

-- a channel's site, and what its clock shows: now, and at the last Tick
abbrev pub setting : List ℕ → List ChannelEvent → Setting
setting site past = record { site = site; now = clock past; ticked = ticked past }
