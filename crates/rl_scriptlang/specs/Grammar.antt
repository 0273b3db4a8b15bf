-- What reading a part of a script answers.
use Rattle.std.specs.Prelude.{◌≡◌, ℕ, ⊤, true, false, if◌then◌else◌, List, [], length, Option, Some, None, Result, Ok, Err}
use Rattle.std.specs.Borrow.{Bor}
use Rattle.std.specs.List.{slice_split}
use Rattle.rl_numbers.specs.declared.limits.TheConstants.{MAX_TEXT}
use Rattle.rl_runs.specs.declared.script.ScriptCause.{ScriptCause}
use Rattle.std.specs.Str.{is_utf8}
use Rattle.rl_runs.specs.declared.script.ScriptCause.TheVariants as cause
use Rattle.rl_runs.specs.declared.commands.Command.{Command}
use Rattle.rl_runs.specs.declared.commands.Command.TheVariants.{Publish}
use Rattle.rl_model.specs.Script.{is_space, is_channel, is_between, one_item}
use Rattle.rl_scriptlang.specs.declared.fault.LineFault.{LineFault}
use Rattle.rl_scriptlang.specs.declared.fault.LineFault.TheVariants.{Cause, NoMemory}

abbrev pub Fails : {Y : Type 0} → LineFault → Result Y ScriptCause → Type 0
Fails (Cause fault) said = said ≡ Err fault
Fails NoMemory said = ⊤

-- what a function returned, seen by a view, is what the grammar says, unless memory ran out
abbrev pub Gives : {X Y : Type 0} → (X → Y) → Result X LineFault → Result Y ScriptCause → Type 0
Gives view (Ok x) said = said ≡ Ok (view x)
Gives view (Err fault) said = Fails fault said

-- the tokens in what follows the space after a token, if one does
abbrev pub tokens_after : Option (Bor (List ℕ)) → List (List ℕ)
tokens_after None = []
tokens_after (Some rest) = slice_split is_space rest.now

-- what follows the space
abbrev pub text_after : Option (Bor (List ℕ)) → List ℕ
text_after None = []
text_after (Some rest) = rest.now

-- a message with this text, to be published on this channel
abbrev pub publish_command : List ℕ → List ℕ → Result Command ScriptCause
publish_command channel text =
    if is_channel channel
    then (if is_between 1 MAX_TEXT (length text) then Ok (Publish channel (one_item text)) else Err cause.Text)
    else Err cause.Channel

-- the text that bytes are, if they are UTF-8
abbrev pub IsText : List ℕ → Option (Bor (List ℕ)) → Type 0
IsText bytes None = is_utf8 bytes ≡ false
IsText bytes (Some text) = (text.now ≡ bytes) × (is_utf8 bytes ≡ true)
