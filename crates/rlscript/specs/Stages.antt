-- What the stages of a run answer.
use Rattle.std.specs.Prelude.{◌≡◌, ◌≢◌, ◌⊎◌, ℕ, List, take, Option, None, Result, Ok, Err}
use Rattle.std.specs.Io.KnownBytes.{Appends}
use Rattle.rl_runs.specs.declared.script.Line.{Line}
use Rattle.rl_outside.specs.Counts.{Rose}
use Rattle.rl_model.specs.Script.{Refusal, script_of}
use Rattle.rl_world.specs.State.{WorldState, StandsFor}
use Rattle.rlscript.specs.Top.{refusal, script_report, IsWorldOf}

-- the text was written and the status is this, or the sink failed behind the front of it and the status is 5
abbrev pub Said : ℕ → ℕ → Option (List ℕ) → Option (List ℕ) → ℕ → ℕ → List ℕ → Type 0
Said result status old new faults now text =
    ((result ≡ status) × Appends old new text × (now ≡ faults))
    ⊎ ((result ≡ 5) × Rose faults now × ((count : ℕ) × Appends old new (take count text)))

-- the world of the script is handed on exactly at 0
pub record HandsOn (status : ℕ) (world : Option WorldState) (script : List Line) : Type 0 where
  pub given : status ≡ 0 → IsWorldOf world script
  pub kept_back : status ≢ 0 → world ≡ None

-- the report of the script was said with 0, or memory ran out and nothing was written
abbrev pub RanScript : List Line → ℕ → Option WorldState → Option (List ℕ) → Option (List ℕ) → ℕ → ℕ → Type 0
RanScript script result world old new faults now =
    (Said result 0 old new faults now (script_report script) × HandsOn result world script)
    ⊎ ((result ≡ 7) × (world ≡ None) × (new ≡ old) × (now ≡ faults))

-- the report of the script that the bytes spell was said with 0, or their refusal with 3
abbrev pub SaidFor : Result (List Line) Refusal → ℕ → Option WorldState → Option (List ℕ) → Option (List ℕ) → ℕ → ℕ → Type 0
SaidFor (Ok script) result world old new faults now =
    Said result 0 old new faults now (script_report script) × HandsOn result world script
SaidFor (Err refused) result world old new faults now =
    Said result 3 old new faults now (refusal refused.0 refused.1) × (world ≡ None)

-- that, or memory ran out and nothing was written
abbrev pub Ran : List ℕ → ℕ → Option WorldState → Option (List ℕ) → Option (List ℕ) → ℕ → ℕ → Type 0
Ran bytes result world old new faults now =
    SaidFor (script_of bytes) result world old new faults now
    ⊎ ((result ≡ 7) × (world ≡ None) × (new ≡ old) × (now ≡ faults))

-- a world of the script, and the text of its report
abbrev pub Reported : WorldState → List ℕ → List Line → Type 0
Reported world text script = StandsFor world script × (text ≡ script_report script)
