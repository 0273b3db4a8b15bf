-- What reading a script answers.
use Rattle.std.specs.Prelude.{◌≡◌, ⊤, List, Result, Ok, Err}
use Rattle.rl_runs.specs.declared.script.Line.{Line}
use Rattle.rl_runs.specs.declared.script.Script.{Script}
use Rattle.rl_model.specs.Script.{Refusal}
use Rattle.rl_scriptlang.specs.declared.fault.ScriptFault.{ScriptFault}
use Rattle.rl_scriptlang.specs.declared.fault.ScriptFault.TheVariants.{Refused, NoMemory}

abbrev pub SaysFault : ScriptFault → Result (List Line) Refusal → Type 0
SaysFault (Refused line fault) said = said ≡ Err (line, fault)
SaysFault NoMemory said = ⊤

-- what reading a script answers is what its bytes say, unless memory ran out
abbrev pub ReadsScript : Result Script ScriptFault → Result (List Line) Refusal → Type 0
ReadsScript (Ok script) said = said ≡ Ok script.lines
ReadsScript (Err fault) said = SaysFault fault said
