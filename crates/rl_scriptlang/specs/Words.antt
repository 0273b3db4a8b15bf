-- The words by which causes are told.
use Rattle.std.specs.Prelude.{ℕ, List, codes}
use Rattle.rl_runs.specs.declared.script.ScriptCause.{ScriptCause}
use Rattle.rl_runs.specs.declared.script.ScriptCause.TheVariants as cause

abbrev pub cause_word : ScriptCause → List ℕ
cause_word cause.Text = codes "text"
cause_word cause.Word = codes "word"
cause_word cause.Count = codes "count"
cause_word cause.Name = codes "name"
cause_word cause.Channel = codes "channel"
cause_word cause.Number = codes "number"
cause_word cause.Object = codes "object"
cause_word cause.Key = codes "key"
cause_word cause.Value = codes "value"
cause_word cause.Order = codes "order"
cause_word cause.Total = codes "total"
cause_word cause.Race = codes "race"
