-- What a world keeps, and the script that it stands for.
use Rattle.std.specs.Prelude.{◌≡◌, ℕ, ◌+◌, ◌<◌, ◌^◌, Bool, true, false, List, [], ◌∷◌, Option}
use Rattle.rl_events.specs.declared.channel.ChannelEvent.{ChannelEvent}
use Rattle.rl_types.specs.declared.messages.Entry.{Entry}
use Rattle.rl_runs.specs.declared.script.Line.{Line}
use Rattle.rl_model.specs.declared.plain.Client.{Client}
use Rattle.rl_model.specs.Records.{the_epoch, the_site}
use Rattle.rl_model.specs.Verdict.{log}
use Rattle.rl_model.specs.World.{World, final}
use Rattle.rl_model.specs.Script.{fed_by}
use Rattle.rl_claims.specs.Sound.{HasSoundRecords}
use Rattle.rl_world.specs.Travels.{SendsSmall}
use Rattle.rl_channel.specs.State as channels
use Rattle.rl_channel.specs.State.{ChannelState}

pub record WorldState : Type 0 where
  pub machine : ChannelState  -- what the channel machine keeps
  pub entries : List Entry  -- all entries of the channel, in order
  pub begun : Bool  -- the channel took an event
  pub fed : ℕ
  pub channel : Option (List ℕ)
  pub client : Option Client

-- what is kept beside the channel machine
pub record Rest : Type 0 where
  pub entries : List Entry
  pub begun : Bool
  pub fed : ℕ
  pub channel : Option (List ℕ)
  pub client : Option Client

abbrev pub kept : WorldState → Rest
kept state =
    record {
      entries = state.entries;
      begun = state.begun;
      fed = state.fed;
      channel = state.channel;
      client = state.client;
    }

abbrev pub is_begun : List ChannelEvent → Bool
is_begun [] = false
is_begun (event ∷ past) = true

-- what is kept of a world beside the channel machine
abbrev pub shown : World → Rest
shown world =
    record {
      entries = log the_site world.past;
      begun = is_begun world.past;
      fed = world.fed;
      channel = world.channel;
      client = world.client;
    }

-- it is what is kept of a world: the channel machine stands for the channel's history
pub record Shows (state : WorldState) (world : World) : Type 0 where
  pub machine : channels.StandsAt the_site state.machine world.past
  pub epoch : state.machine.setup.epoch ≡ the_epoch
  pub site : state.machine.setup.site ≡ the_site
  pub rest : kept state ≡ shown world

-- it is what is kept of the world that these lines make
abbrev pub StandsFor : WorldState → List Line → Type 0
StandsFor state script = Shows state (final script)

-- what holds of a world when a line follows: its records are sound, the entries fed can be counted, and what it
-- sends is small
pub record MayFollow (world : World) (line : Line) : Type 0 where
  pub sound : HasSoundRecords world
  pub countable : world.fed + fed_by line < 2 ^ 64
  pub small : SendsSmall world
