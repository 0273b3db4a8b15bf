-- What a script's lines name and send is small enough to travel as frames. (This project's own.)
use Rattle.std.specs.Prelude.{ℕ, ◌<◌, ◌≤◌, ◌≡◌, ⊤, List, [], ◌∷◌, length, None}
use Rattle.std.specs.List.{AllByRecursion}
use Rattle.rl_numbers.specs.declared.limits.TheConstants.{MAX_CHANNEL_NAME, MAX_TEXT, MAX_WORD}
use Rattle.rl_types.specs.Weight.{option_len}
use Rattle.rl_types.specs.declared.messages.Item.{Item}
use Rattle.rl_types.specs.declared.messages.Body.{Body}
use Rattle.rl_types.specs.declared.messages.Body.TheVariants.{Messages}
use Rattle.rl_runs.specs.declared.script.Line.{Line}
use Rattle.rl_runs.specs.declared.script.Line.TheVariants.{Act, Feed}
use Rattle.rl_runs.specs.declared.commands.Command.{Command}
use Rattle.rl_runs.specs.declared.commands.Command.TheVariants.{Attach, AttachAt, Publish}

-- a channel's name is not empty and not too long
pub record IsChannelName (channel : List ℕ) : Type 0 where
  pub some : 0 < length channel
  pub fits : length channel ≤ MAX_CHANNEL_NAME

-- a message with data and an id that a script's line can have, and nothing else
pub record IsSmallItem (message : Item) : Type 0 where
  pub id : option_len message.id ≤ MAX_WORD
  pub name : message.name ≡ None
  pub payload : option_len message.payload ≤ MAX_TEXT
  pub encoding : message.encoding ≡ None
  pub client : message.client ≡ None

-- one such message
abbrev pub IsSmallBody : Body → Type 0
IsSmallBody (Messages (item ∷ [])) = IsSmallItem item
IsSmallBody _ = ⊥

abbrev pub IsSmallCommand : Command → Type 0
IsSmallCommand (Attach channel) = IsChannelName channel
IsSmallCommand (AttachAt channel serial) = IsChannelName channel
IsSmallCommand (Publish channel items) = IsChannelName channel × IsSmallBody (Messages items)
IsSmallCommand command = ⊤

-- what a line names and sends is small
abbrev pub IsSmallLine : Line → Type 0
IsSmallLine (Act name command) = IsSmallCommand command
IsSmallLine (Feed channel count text) = IsChannelName channel × (length text ≤ MAX_TEXT)
IsSmallLine _ = ⊤

abbrev pub AreSmallLines : List Line → Type 0
AreSmallLines lines = AllByRecursion IsSmallLine lines
