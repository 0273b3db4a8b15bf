-- What of a world travels as frames, and that it is small enough.
use Rattle.std.specs.Prelude.{◌≡◌, ℕ, ◌<◌, ◌≤◌, ◌^◌, ⊤, List, [], length, Option, Some, None, if◌then◌else◌}
use Rattle.std.specs.List.{AllByRecursion}
use Rattle.rl_events.specs.declared.channel.ChannelEvent.{ChannelEvent}
use Rattle.rl_types.specs.declared.messages.Entry.{Entry}
use Rattle.rl_types.specs.declared.messages.Given.{Given}
use Rattle.rl_types.specs.declared.messages.Given.TheVariants.{Ours, Other}
use Rattle.rl_types.specs.declared.states.ChanState.TheVariants.{Initialized}
use Rattle.rl_model.specs.Records.{the_site}
use Rattle.rl_model.specs.declared.plain.Client.{Client}
use Rattle.rl_model.specs.declared.plain.Sent.{Sent}
use Rattle.rl_model.specs.declared.plain.Sent.TheVariants.{Asks, Sends}
use Rattle.rl_runs.specs.declared.script.Line.{Line}
use Rattle.rl_model.specs.Script.{is_publish}
use Rattle.rl_model.specs.Limits.{IsChannelName, IsSmallBody}
use Rattle.rl_model.specs.Verdict.{log}
use Rattle.rl_model.specs.World.{World}

-- no serial, or one of this project's form
abbrev pub IsOwnSerial : Option Given → Type 0
IsOwnSerial None = ⊤
IsOwnSerial (Some (Ours serial)) = ⊤
IsOwnSerial (Some (Other text)) = ⊥

abbrev pub IsSmallSent : Sent → Type 0
IsSmallSent (Asks asked) = IsOwnSerial asked
IsSmallSent (Sends serial body) = (serial < 2 ^ 53) × IsSmallBody body

-- the channel has a name
abbrev pub IsNamed : Option (List ℕ) → Type 0
IsNamed None = ⊥
IsNamed (Some channel) = IsChannelName channel

-- it has a name, or the client has not used it
abbrev pub IsNamedFor : Option (List ℕ) → Client → Type 0
IsNamedFor None client = (client.chan ≡ Initialized) × (client.published ≡ []) × (client.sent ≡ [])
IsNamedFor (Some channel) client = IsChannelName channel

abbrev pub IsSmallEntry : Entry → Type 0
IsSmallEntry entry = IsSmallBody entry.body

abbrev pub AreSmallEntries : List Entry → Type 0
AreSmallEntries entries = AllByRecursion IsSmallEntry entries

abbrev pub IsSmallLog : List ChannelEvent → Type 0
IsSmallLog past = AreSmallEntries (log the_site past)

-- a client that has published at most so many messages
pub record IsSmallClient (most : ℕ) (channel : Option (List ℕ)) (client : Client) : Type 0 where
  pub given : IsOwnSerial client.asked
  pub bodies : AllByRecursion IsSmallBody client.published
  pub few : length client.published ≤ most
  pub each : AllByRecursion IsSmallSent client.sent
  pub named : IsNamedFor channel client

abbrev pub HasSmallClient : ℕ → Option (List ℕ) → Option Client → Type 0
HasSmallClient most channel None = ⊤
HasSmallClient most channel (Some client) = IsSmallClient most channel client

-- the channel's name, where it has one
abbrev pub HasSmallName : Option (List ℕ) → Type 0
HasSmallName None = ⊤
HasSmallName (Some channel) = IsChannelName channel

pub record IsSmallWorld (most : ℕ) (world : World) : Type 0 where
  pub name : HasSmallName world.channel
  pub entries : IsSmallLog world.past
  pub client : HasSmallClient most world.channel world.client

-- what is to be served can travel
abbrev pub CanTravel : Option (List ℕ) → Sent → Type 0
CanTravel channel sent = IsNamed channel × IsSmallSent sent

abbrev pub AllTravel : Option (List ℕ) → List Sent → Type 0
AllTravel channel all = AllByRecursion (CanTravel channel) all

-- how many messages a line publishes
abbrev pub published_by : Line → ℕ
published_by line = if is_publish line then 1 else 0

-- what a world sends is small, and its messages have serials
pub record SendsSmall (world : World) : Type 0 where
  pub most : ℕ
  pub low : most < 2 ^ 53
  pub small : IsSmallWorld most world
