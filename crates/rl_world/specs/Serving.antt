-- What is said of a put: it is served beside a channel machine and the entries that it added so far.
use Rattle.std.specs.Prelude.{◌≡◌, List}
use Rattle.rl_events.specs.declared.channel.ChannelEvent.{ChannelEvent}
use Rattle.rl_types.specs.declared.messages.Entry.{Entry}
use Rattle.rl_model.specs.Records.{the_site}
use Rattle.rl_model.specs.Verdict.{log}
use Rattle.rl_channel.specs.State.{ChannelState, StandsAt}

-- the machine stands for these events, and these are the entries of its log
abbrev pub StandsWith : ChannelState → List Entry → List ChannelEvent → Type 0
StandsWith machine entries past = StandsAt the_site machine past × (entries ≡ log the_site past)

-- this holds of each history that the machine, at the world's site, and these entries stand for
abbrev pub AfterEach : ChannelState → List Entry → (List ChannelEvent → Type 0) → Type 0
AfterEach machine entries holds =
    (past : List ChannelEvent) → machine.setup.site ≡ the_site → StandsAt the_site machine past → entries ≡ log the_site past → holds past
