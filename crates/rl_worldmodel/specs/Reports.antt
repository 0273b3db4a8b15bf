-- What a run prints.
use Rattle.std.specs.Prelude.{ℕ, false, List, Result, Ok, Err}
use Rattle.rl_runs.specs.declared.script.Line.{Line}
use Rattle.rl_model.specs.Report.{report}
use Rattle.rl_worldmodel.specs.Lines.{final}
use Rattle.rl_worldmodel.specs.Findings.{findings}
use Rattle.rl_worldmodel.specs.Script.{script_of, LineRefusal}

-- the report of a script, or its refusal
abbrev pub reported : Result (List Line) LineRefusal → Result (List ℕ) LineRefusal
reported (Ok script) = Ok (report (findings (final script)))
reported (Err refused) = Err refused

-- what the bytes of a script print
abbrev pub report_of : List ℕ → Result (List ℕ) LineRefusal
report_of bytes = reported (script_of false bytes)
