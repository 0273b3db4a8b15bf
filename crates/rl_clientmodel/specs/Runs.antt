-- The runs of a record, the latest first, and the segments that are shown of them. (This project's own.)
use Rattle.std.specs.Prelude.{ℕ, ◌-◌, Bool, true, false, ◌&&◌, ◌==◌, if◌then◌else◌, List, [], ◌∷◌, ◌++◌, Option, Some, None}
use Rattle.rl_ids.specs.declared.serials.ChannelSerial.{ChannelSerial}
use Rattle.rl_types.specs.declared.messages.Body.{Body}
use Rattle.rl_types.specs.declared.messages.Given.TheVariants.{Ours}
use Rattle.rl_runs.specs.declared.findings.Cause.{Cause}
use Rattle.rl_runs.specs.declared.findings.Cause.TheVariants.{Opened, NotRetained, Recovered, Moved, Jump}
use Rattle.rl_runs.specs.declared.findings.Segment.{Segment}
use Rattle.rl_clientmodel.specs.declared.runs.Beginning.{Beginning}
use Rattle.rl_clientmodel.specs.declared.runs.Beginning.TheVariants.{Answered, Unasked, Skipped}
use Rattle.rl_clientmodel.specs.declared.runs.Run.{Run}

abbrev pub same_serial : ChannelSerial → ChannelSerial → Bool
same_serial a b = (a.epoch == b.epoch) && (a.place == b.place)

-- SEGMENTS

-- the cause of a run that an answer began: what it asked, whether it was resumed, and the serial told
abbrev pub answer_cause : Option ChannelSerial → Bool → ChannelSerial → Cause
answer_cause None resumed told = Opened
answer_cause (Some asked) false told = NotRetained (Ours asked)
answer_cause (Some asked) true told = if same_serial asked told then Recovered (Ours asked) else Moved (Ours asked) told

abbrev pub cause_of : Beginning → Cause
cause_of (Answered asked resumed told away) = answer_cause asked resumed told
cause_of (Unasked held resumed told) = Moved (Ours held) told
cause_of (Skipped held told) = Jump held told

-- the place after which the entries of a run are
abbrev pub start_of : Beginning → ℕ
start_of (Answered asked resumed told away) = told.place
start_of (Unasked held resumed told) = told.place
start_of (Skipped held told) = told.place - 1

abbrev pub segment_of : Run → Segment
segment_of run = record { start = start_of run.beginning; cause = cause_of run.beginning; got = run.got }

-- RUNS BEGIN OR GO ON

abbrev pub begun : Beginning → Run
begun beginning = record { beginning = beginning; got = [] }

-- an earlier run goes on, or else a new one begins
abbrev pub runs_with : Bool → Beginning → List Run → List Run
runs_with true beginning runs = runs
runs_with false beginning runs = begun beginning ∷ runs

-- the answer to an ATTACH goes on with the latest run: what was asked is resumed where it was asked
abbrev pub goes_on_answered : Option ChannelSerial → Bool → ChannelSerial → List Run → Bool
goes_on_answered None resumed told runs = false
goes_on_answered (Some asked) resumed told [] = false
goes_on_answered (Some asked) resumed told (run ∷ runs) = resumed && same_serial asked told

-- so does an ATTACHED that nobody asked for, where the serial held is resumed
abbrev pub goes_on_unasked : ChannelSerial → Bool → ChannelSerial → Bool
goes_on_unasked held resumed told = resumed && same_serial held told

-- and an entry at the place after the serial held, in the same epoch
abbrev pub follows : ChannelSerial → ℕ → ℕ → Bool
follows held before epoch = (held.epoch == epoch) && (held.place == before)

-- ENTRIES

-- an entry is got in the latest run
abbrev pub got_onto : ℕ × Body → List Run → List Run
got_onto entry [] = []
got_onto entry (run ∷ earlier) = record run { got = run.got ++ entry ∷ [] } ∷ earlier
