-- The record of a client on a channel: the segments that it got. (This project's own.)
use Rattle.std.specs.Prelude.{ℕ, ◌+◌, Bool, true, false, List, [], ◌∷◌, ◌++◌, length, drop, map, Option, Some, None, codes}
use Rattle.rl_types.specs.declared.messages.Entry.{Entry}
use Rattle.rl_types.specs.declared.messages.Body.{Body}
use Rattle.rl_types.specs.declared.messages.Given.{Given}
use Rattle.rl_types.specs.declared.messages.Given.TheVariants.{Ours}
use Rattle.rl_types.specs.declared.states.ChanState.{ChanState}
use Rattle.rl_types.specs.declared.states.ChanState.TheVariants.{Attached}
use Rattle.rl_runs.specs.declared.findings.Cause.{Cause}
use Rattle.rl_runs.specs.declared.findings.Cause.TheVariants.{Opened, NotRetained, Recovered}
use Rattle.rl_runs.specs.declared.findings.Segment.{Segment}

-- the epoch of a script
abbrev pub the_epoch : ℕ
the_epoch = 1

-- the site of a script
abbrev pub the_site : List ℕ
the_site = codes "s1"

-- THE SERIAL HELD (RTL15b)

abbrev pub last_segment : List Segment → Option Segment
last_segment [] = None
last_segment (segment ∷ []) = Some segment
last_segment (segment ∷ next ∷ segments) = last_segment (next ∷ segments)

-- the place of the last entry that was got, or of the start
abbrev pub segment_end : Segment → ℕ
segment_end segment = segment.start + length segment.got

abbrev pub serial_at : ℕ → Given
serial_at place = Ours (record { epoch = the_epoch; place = place })

-- the serial that a client holds: of the end of its last segment, or else the one that it was told to attach with
abbrev pub held_of : Option Given → Option Segment → Option Given
held_of asked None = asked
held_of asked (Some segment) = Some (serial_at (segment_end segment))

-- A SEGMENT BEGINS WHERE AN ATTACH IS ANSWERED

abbrev pub segment_from : ℕ → Cause → Segment
segment_from place cause = record { start = place; cause = cause; got = [] }

-- the segments after the answer to an ATTACH: what it asked for, whether it was resumed, and the place told.
-- Without a serial one is opened; resumed, the last one goes on, or the first one is recovered; else
-- something may have been missed, and a new one says so
abbrev pub segments_after : Option Given → Bool → ℕ → List Segment → List Segment
segments_after None resumed place segments = segments ++ segment_from place Opened ∷ []
segments_after (Some asked) true place [] = segment_from place (Recovered asked) ∷ []
segments_after (Some asked) true place (segment ∷ segments) = segment ∷ segments
segments_after (Some asked) false place segments = segments ++ segment_from place (NotRetained asked) ∷ []

-- AN ATTACHED CLIENT GETS EVERY LATER ENTRY

abbrev pub got_of : Entry → ℕ × Body
got_of entry = (entry.place, entry.body)

abbrev pub more_got : List Entry → Segment → Segment
more_got log segment = record segment { got = segment.got ++ map got_of (drop (segment_end segment) log) }

-- the last segment with every entry of the log behind its end
abbrev pub caught_up : List Entry → List Segment → List Segment
caught_up log [] = []
caught_up log (segment ∷ []) = more_got log segment ∷ []
caught_up log (segment ∷ next ∷ segments) = segment ∷ caught_up log (next ∷ segments)

abbrev pub got_in : ChanState → List Entry → List Segment → List Segment
got_in Attached log segments = caught_up log segments
got_in _ log segments = segments
