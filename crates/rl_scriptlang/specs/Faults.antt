-- How faults are told.
use Rattle.std.specs.Prelude.{ℕ, List, ◌++◌, codes, decimal}
use Rattle.rl_scriptlang.specs.declared.fault.ScriptFault.{ScriptFault}
use Rattle.rl_scriptlang.specs.declared.fault.ScriptFault.TheVariants.{Refused, NoMemory}
use Rattle.rl_scriptlang.specs.Words.{cause_word}

-- the line's number and the cause's word
abbrev pub fault_text : ScriptFault → List ℕ
fault_text (Refused line fault) = codes "line " ++ decimal line ++ codes ": " ++ cause_word fault
fault_text NoMemory = codes "out of memory"
