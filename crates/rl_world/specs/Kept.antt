-- What a channel shows of what its history left, and the entries of a world.
use Rattle.std.specs.Prelude.{ℕ, Bool, true, false, List, [], ◌∷◌, ◌++◌, length, Option, Some, None}
use Rattle.rl_events.specs.declared.channel.ReadReply.{ReadReply}
use Rattle.rl_events.specs.declared.channel.ReadReply.TheVariants.{Run, NotRetained}
use Rattle.rl_runs.specs.declared.findings.ChannelFindings.{ChannelFindings}
use Rattle.rl_types.specs.declared.messages.Entry.{Entry}
use Rattle.rl_model.specs.Parts.{Parts, retained}

abbrev pub channel_kept : List ℕ → Parts → ChannelFindings
channel_kept name parts =
    record {
      name = name;
      first = parts.first;
      head = length parts.log;
      entries = retained parts;
    }

abbrev pub channels_kept : Option (List ℕ) → Bool → Parts → List ChannelFindings
channels_kept (Some name) true parts = channel_kept name parts ∷ []
channels_kept (Some name) false parts = []
channels_kept None begun parts = []

-- these entries and those that were read behind them
abbrev pub followed : ReadReply → List Entry → List Entry
followed (Run more) entries = entries ++ more
followed (NotRetained first) entries = entries
