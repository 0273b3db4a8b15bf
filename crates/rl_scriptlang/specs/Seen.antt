-- What is kept of the lines that were read.
use Rattle.std.specs.Prelude.{◌≡◌, ◌≤◌, ◌+◌, ℕ, Bool, true, if◌then◌else◌, List, Option, Some, None, Result, Ok, Err, option_to_list, bytes_eq}
use Rattle.std.specs.List.{list_all}
use Rattle.rl_numbers.specs.declared.limits.TheConstants.{MAX_PUT}
use Rattle.rl_runs.specs.declared.script.Line.{Line}
use Rattle.rl_runs.specs.declared.script.ScriptCause.{ScriptCause}
use Rattle.rl_model.specs.Script.{Said, with_line, declared_names, channels_named, published, fed, ends_settled, is_publish}

-- whether a channel is the one that is kept, if one is
abbrev pub is_kept : Option (List ℕ) → List ℕ → Bool
is_kept None channel = true
is_kept (Some kept) channel = bytes_eq channel kept

-- the client, the channel, how many messages were published and fed, and whether the last line is a settle
pub record IsSeen (before : List Line) (client : Option (List ℕ)) (channel : Option (List ℕ)) (put : ℕ) (given : ℕ) (settled : Bool) : Type 0 where
  pub names : declared_names before ≡ option_to_list client
  pub channels : (name : List ℕ) → list_all (bytes_eq name) (channels_named before) ≡ is_kept channel name
  pub put_count : published before ≡ put
  pub given_count : fed before ≡ given
  pub within : put + given ≤ MAX_PUT
  pub ends : ends_settled before ≡ settled

-- what is kept from now on
abbrev pub kept_after : Option (List ℕ) → Option (List ℕ) → Option (List ℕ)
kept_after None named = named
kept_after (Some kept) named = Some kept

-- how many messages a line publishes
abbrev pub put_by : Line → ℕ
put_by line = if is_publish line then 1 else 0

-- the lines after one more, or why it is refused
abbrev pub lines_with : List Line → Said → Result (List Line) ScriptCause
lines_with before (Ok line) = Ok (with_line before line)
lines_with before (Err fault) = Err fault
