-- What the program writes for each status, and when it ends with it. (This project's own.)
use Rattle.std.specs.Prelude.{◌≡◌, ◌⊎◌, ℕ, ◌<◌, ◌≤◌, length, Bool, true, false, List, [], ◌∷◌, ◌++◌, take, map, Option, Some, None, Result, Ok, Err, IsTrue, IsFalse, IsSome, IfSome, ◌≢◌, String, string_bytes, codes, decimal, bytes_eq, if◌then◌else◌}
use Rattle.std.specs.Io.KnownBytes.{Keeps, Appends}
use Rattle.std.specs.declared.alloc.Global.{Global}
use Rattle.rl_runs.specs.declared.script.Line.{Line}
use Rattle.rl_runs.specs.declared.script.ScriptCause.{ScriptCause}
use Rattle.rl_outside.specs.Counts.{Rose}
use Rattle.rl_model.specs.Records.{the_site}
use Rattle.rl_model.specs.World.{final}
use Rattle.rl_model.specs.Findings.{findings}
use Rattle.rl_model.specs.Report.{report}
use Rattle.rl_model.specs.Script.{is_too_long, script_of, Refusal}
use Rattle.rl_claims.specs.Sound.{HasSoundRecords, OpensAgainOnlyAfterLeaving}
use Rattle.rl_claims.specs.Once.{OnceById}
use Rattle.rl_scriptlang.specs.Words.{cause_word}
use Rattle.rl_world.specs.State.{WorldState, StandsFor}
use Rattle.rlscript.specs.Input.{most_taken}

-- THE WORDS

-- no word, or `run`
abbrev pub asks_for_run : List (List ℕ) → Bool
asks_for_run [] = true
asks_for_run (word ∷ []) = bytes_eq word (codes "run")
asks_for_run _ = false

abbrev pub words_of : List (String Global) → List (List ℕ)
words_of words = map (λ word. string_bytes word) words

-- THE TEXTS

abbrev pub usage : List ℕ
usage = codes "usage: rlscript [run | gen SEED CLIENTS STEPS]\n"

abbrev pub read_fault : List ℕ
read_fault = codes "read fault\n"

abbrev pub too_long : List ℕ
too_long = codes "too long\n"

abbrev pub refusal : ℕ → ScriptCause → List ℕ
refusal line fault = codes "line " ++ decimal line ++ codes ": " ++ cause_word fault ++ codes "\n"

-- the report of the world that a script leaves
abbrev pub script_report : List Line → List ℕ
script_report script = report (findings (final script))

-- WHAT A CALL DID OUTSIDE

pub record Outside : Type 0 where
  pub left : Option (List ℕ)  -- what the source had left before the call, where it tells it
  pub left_after : Option (List ℕ)
  pub read_faults : ℕ  -- how often the source had failed
  pub read_faults_after : ℕ
  pub ends : ℕ  -- how often the source had been read to its end
  pub ends_after : ℕ
  pub written : Option (List ℕ)  -- what the sink held, where it tells it
  pub written_after : Option (List ℕ)
  pub write_faults : ℕ  -- how often the sink had failed
  pub write_faults_after : ℕ

abbrev pub SourceFailed : Outside → Type 0
SourceFailed o = Rose o.read_faults o.read_faults_after

abbrev pub SinkFailed : Outside → Type 0
SinkFailed o = Rose o.write_faults o.write_faults_after

-- this text was written, all of it
abbrev pub Wrote : Outside → List ℕ → Type 0
Wrote o text = Appends o.written o.written_after text

-- the front of this text was written, if only nothing of it
abbrev pub WroteFront : Outside → List ℕ → Type 0
WroteFront o text = (count : ℕ) × Wrote o (take count text)

abbrev pub WroteUsageFront : Outside → Type 0
WroteUsageFront o = WroteFront o usage

-- these bytes were taken from the source, which tells what it has left
abbrev pub TookFrom : Option (List ℕ) → Option (List ℕ) → List ℕ → Type 0
TookFrom (Some bytes) (Some rest) taken = bytes ≡ taken ++ rest
TookFrom _ _ taken = ⊥

abbrev pub Took : Outside → List ℕ → Type 0
Took o taken = TookFrom o.left o.left_after taken

-- a read found nothing left
abbrev pub Ended : Outside → Type 0
Ended o = Rose o.ends o.ends_after

-- these are all the bytes that the source had left, and it was read to its end
abbrev pub TookAll : Outside → List ℕ → Type 0
TookAll o bytes = (o.left ≡ Some bytes) × (o.left_after ≡ Some []) × Ended o

-- what was taken ends at the limit: it is at most one piece longer than a script may be
abbrev pub TookWithinLimit : Outside → Type 0
TookWithinLimit o = (taken : List ℕ) × Took o taken × (length taken ≤ most_taken)

-- the source was not read
pub record Unread (o : Outside) : Type 0 where
  pub left : Keeps o.left o.left_after
  pub faults : o.read_faults_after ≡ o.read_faults
  pub ends : o.ends_after ≡ o.ends

-- whether the source tells what it has left
abbrev pub Tells : Outside → Type 0
Tells o = IsSome o.left

-- HOW A CALL ENDS

-- the world that is handed on is the one that this script makes
abbrev pub IsWorldOf : Option WorldState → List Line → Type 0
IsWorldOf None script = ⊥
IsWorldOf (Some world) script = StandsFor world script

-- 0: the source was read to its end, and the report of its script was written; every record is sound, a later
-- segment is opened only after the channel was left, a remembered id stands once, and the world handed on is
-- the script's
pub record Reports (o : Outside) (world : Option WorldState) : Type 0 where
  pub bytes : List ℕ
  pub script : List Line
  pub took : TookAll o bytes
  pub fits : IsFalse (is_too_long bytes)
  pub reads : script_of bytes ≡ Ok script
  pub wrote : Wrote o (script_report script)
  pub sound : HasSoundRecords (final script)
  pub reopened : OpensAgainOnlyAfterLeaving script
  pub once : OnceById the_site (final script).past
  pub handed_on : IsWorldOf world script

-- 3: the source was read to its end, and the first line outside the grammar was written with its cause
pub record Refuses (o : Outside) : Type 0 where
  pub bytes : List ℕ
  pub line : ℕ
  pub fault : ScriptCause
  pub took : TookAll o bytes
  pub fits : IsFalse (is_too_long bytes)
  pub reads : script_of bytes ≡ Err (line, fault)
  pub wrote : Wrote o (refusal line fault)

-- 6: more was taken than a script may have
pub record TookTooMuch (o : Outside) : Type 0 where
  pub taken : List ℕ
  pub took : Took o taken
  pub too_long : IsTrue (is_too_long taken)

-- the report of the script that the bytes spell, or their refusal
abbrev pub text_by : Result (List Line) Refusal → List ℕ
text_by (Ok script) = script_report script
text_by (Err refused) = refusal refused.0 refused.1

abbrev pub status_by : Result (List Line) Refusal → ℕ
status_by (Ok script) = 0
status_by (Err refused) = 3

-- the status that the bytes call for, where nothing fails
abbrev pub status_of : List ℕ → ℕ
status_of bytes = if is_too_long bytes then 6 else status_by (script_of bytes)

-- the text that the call may be writing: the usage where the words are others; else what the bytes call for,
-- that a read failed, or that too much was taken
abbrev pub IsToBeWritten : Bool → Outside → List ℕ → Type 0
IsToBeWritten false o text = text ≡ usage
IsToBeWritten true o text =
    ((bytes : List ℕ) × TookAll o bytes × IsFalse (is_too_long bytes) × (text ≡ text_by (script_of bytes)))
    ⊎ ((SourceFailed o × (text ≡ read_fault)) ⊎ (TookTooMuch o × (text ≡ too_long)))

-- how a call ends that is asked for a run, or is not, with this status and this world. What it says of bytes
-- it says of a source that tells them
pub record Ends (asked : Bool) (o : Outside) (status : ℕ) (world : Option WorldState) : Type 0 where
  -- 0
  pub reported : status ≡ 0 → Tells o → Reports o world
  -- the world is there exactly at 0
  pub handed_on : status ≡ 0 → IsSome world
  pub kept_back : status ≢ 0 → world ≡ None
  -- 2: nothing is read, nor is it where writing the usage fails
  pub usage : status ≡ 2 → (asked ≡ false) × Keeps o.left o.left_after × Wrote o usage
  pub usage_always : asked ≡ false → (status ≡ 2) ⊎ (status ≡ 5)
  pub usage_front : asked ≡ false → status ≡ 5 → WroteUsageFront o
  pub unread : asked ≡ false → Unread o
  -- 3
  pub refused : status ≡ 3 → Tells o → Refuses o
  -- 0 and 3 come only where the source was read to its end
  pub ended : (status ≡ 0) ⊎ (status ≡ 3) → Ended o
  -- where it was, which a count that is not at its last value shows, the bytes decide, whatever reads failed
  -- before: so 3 is owed wherever a line is outside the grammar
  pub ended_always : asked ≡ true → o.ends < o.ends_after → IfSome o.left (λ bytes. (status ≡ status_of bytes) ⊎ ((status ≡ 5) ⊎ (status ≡ 7)))
  -- 4
  pub read_fault : status ≡ 4 → SourceFailed o × Wrote o read_fault
  -- 5: the front of what was to be written stands in the sink
  pub write_fault : status ≡ 5 → SinkFailed o
  pub front : status ≡ 5 → Tells o → (text : List ℕ) × IsToBeWritten asked o text × WroteFront o text
  -- 6, and how far the source is read at any status
  pub too_much : status ≡ 6 → (Tells o → TookTooMuch o) × Wrote o too_long
  pub too_much_always : TookTooMuch o → (status ≡ 6) ⊎ ((status ≡ 5) ⊎ (status ≡ 7))
  pub within_limit : Tells o → TookWithinLimit o
  -- 7: nothing is written. It alone may come at any time: memory ran out
  pub no_memory : status ≡ 7 → (asked ≡ true) × Keeps o.written o.written_after
  pub others : (status ≤ 7) × (status ≢ 1)
  -- where nothing fails the bytes decide
  pub complete : asked ≡ true → ¬ SourceFailed o → ¬ SinkFailed o → IfSome o.left (λ bytes. (status ≡ status_of bytes) ⊎ (status ≡ 7))

-- how a call ends that is asked for a run
abbrev pub EndsRun : Outside → ℕ → Option WorldState → Type 0
EndsRun o status world = Ends true o status world
