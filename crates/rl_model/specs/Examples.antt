-- Small scripts whose reports are known, with which the definitions are tried.
use Rattle.std.specs.Prelude.{ℕ, ◌≡◌, List, [], ◌∷◌, ◌++◌, Result, Ok, Err, codes}
use Rattle.rl_runs.specs.declared.script.Line.{Line}
use Rattle.rl_runs.specs.declared.script.ScriptCause.TheVariants as cause
use Rattle.rl_model.specs.World.{final}
use Rattle.rl_model.specs.Findings.{findings}
use Rattle.rl_model.specs.Report.{report}
use Rattle.rl_model.specs.Script.{script_of, Refusal}

-- the report of a script, or its refusal
abbrev pub reported : Result (List Line) Refusal → Result (List ℕ) Refusal
reported (Ok script) = Ok (report (findings (final script)))
reported (Err refused) = Err refused

abbrev pub report_of : List ℕ → Result (List ℕ) Refusal
report_of bytes = reported (script_of bytes)

abbrev pub published_once : List ℕ
published_once = codes "client A\nopen A\nattach A room\npub A room hi\nsettle\n"

abbrev pub published_once_report : List ℕ
published_once_report =
    codes "report\n"
    ++ codes "channel room first 1 head 1\n"
    ++ codes "entry 1 0 c00000001 0 message | \"c00000001:0:0\" - \"hi\"\n"
    ++ codes "client A connected c00000001 pending 0 dropped 0\n"
    ++ codes "ack c00000001 0\n"
    ++ codes "record room attached 1\n"
    ++ codes "segment 0 opened\n"
    ++ codes "got 1 message | \"c00000001:0:0\" - \"hi\"\n"
    ++ codes "members room yes\n"
    ++ codes "objects room yes\n"
    ++ codes "map root 0\n"
    ++ codes "end\n"

-- the client drops, two entries are fed, and it goes on without a gap
abbrev pub dropped : List ℕ
dropped =
    codes "client A\nopen A\nattach A room\nsettle\ncut A\n# two entries while it is away\nfeed room 2 x\n\nopen A\r\nsettle"

abbrev pub dropped_report : List ℕ
dropped_report =
    codes "report\n"
    ++ codes "channel room first 1 head 2\n"
    ++ codes "entry 1 0 c00000000 0 message | \"c00000000:0:0\" - \"x\"\n"
    ++ codes "entry 2 0 c00000000 1 message | \"c00000000:1:0\" - \"x\"\n"
    ++ codes "client A connected c00000001 pending 0 dropped 0\n"
    ++ codes "record room attached 2\n"
    ++ codes "segment 0 opened\n"
    ++ codes "got 1 message | \"c00000000:0:0\" - \"x\"\n"
    ++ codes "got 2 message | \"c00000000:1:0\" - \"x\"\n"
    ++ codes "members room yes\n"
    ++ codes "objects room yes\n"
    ++ codes "map root 0\n"
    ++ codes "end\n"

-- three entries, and an attach with a serial
abbrev pub attached_at : List ℕ → List ℕ
attached_at serial = codes "client A\nfeed room 3 x\nopen A\nattachat A room " ++ serial ++ codes "\nsettle\n"

abbrev pub attached_at_report : List ℕ → List ℕ
attached_at_report segments =
    codes "report\n"
    ++ codes "channel room first 1 head 3\n"
    ++ codes "entry 1 0 c00000000 0 message | \"c00000000:0:0\" - \"x\"\n"
    ++ codes "entry 2 0 c00000000 1 message | \"c00000000:1:0\" - \"x\"\n"
    ++ codes "entry 3 0 c00000000 2 message | \"c00000000:2:0\" - \"x\"\n"
    ++ codes "client A connected c00000001 pending 0 dropped 0\n"
    ++ codes "record room attached 3\n"
    ++ segments
    ++ codes "members room yes\n"
    ++ codes "objects room yes\n"
    ++ codes "map root 0\n"
    ++ codes "end\n"

-- an attach that no settle carried through: the serial held is a place, whatever its epoch
abbrev pub attaching_report : List ℕ
attaching_report =
    codes "report\n"
    ++ codes "client A initialized - pending 0 dropped 0\n"
    ++ codes "record room attaching 3\n"
    ++ codes "members room no\n"
    ++ codes "objects room no\n"
    ++ codes "map root 0\n"
    ++ codes "end\n"

-- published without an attach, with a text that needs quoting
abbrev pub quoted_report : List ℕ
quoted_report =
    codes "report\n"
    ++ codes "channel r first 1 head 1\n"
    ++ codes "entry 1 0 c00000001 0 message | \"c00000001:0:0\" - \"a \\\"b\\\\ \\u0009c\"\n"
    ++ codes "client A connected c00000001 pending 0 dropped 0\n"
    ++ codes "ack c00000001 0\n"
    ++ codes "end\n"

-- what the definitions print for each of them
pub record Prints : Type 0 where
  pub empty : report_of [] ≡ Ok (codes "report\nend\n")
  pub once : report_of published_once ≡ Ok published_once_report
  pub without_a_gap : report_of dropped ≡ Ok dropped_report
  pub recovered : report_of (attached_at (codes "1 2")) ≡ Ok (attached_at_report (codes "segment 2 recovered 2\ngot 3 message | \"c00000000:2:0\" - \"x\"\n"))
  pub past_the_head : report_of (attached_at (codes "1 4")) ≡ Ok (attached_at_report (codes "segment 3 notretained 4\n"))
  pub other_epoch : report_of (attached_at (codes "2 3")) ≡ Ok (attached_at_report (codes "segment 3 notretained other\n"))
  pub attaching : report_of (codes "client A\nattachat A room 2 3") ≡ Ok attaching_report
  pub quotes : report_of (codes "client A\npub A r a \"b\\ \tc\nopen A\nsettle\n") ≡ Ok quoted_report

-- which line is refused, and why
pub record Refuses : Type 0 where
  pub undeclared : report_of (codes "pub A room hi") ≡ Err (1, cause.Order)
  pub unknown : report_of (codes "jump") ≡ Err (1, cause.Word)
  pub second_client : report_of (codes "client A\n\nclient B\n") ≡ Err (3, cause.Word)
  pub twice : report_of (codes "client A\nclient A\n") ≡ Err (2, cause.Order)
  pub missing : report_of (codes "client A\npub A room") ≡ Err (2, cause.Count)
  pub empty_text : report_of (codes "client A\npub A room ") ≡ Err (2, cause.Text)
  pub trailing : report_of (codes "settle ") ≡ Err (1, cause.Count)
  pub leading : report_of (codes " settle") ≡ Err (1, cause.Word)
  pub bad_name : report_of (codes "client a-b") ≡ Err (1, cause.Name)
  pub bad_channel : report_of (codes "client A\nattach A r/m") ≡ Err (2, cause.Channel)
  pub bad_number : report_of (codes "feed room 01 x") ≡ Err (1, cause.Number)
  pub not_text : report_of (35 ∷ 255 ∷ []) ≡ Err (1, cause.Text)
  pub other_channel : report_of (codes "client A\nattach A room\npub A r hi") ≡ Err (3, cause.Word)
  pub early_cut : report_of (codes "client A\nopen A\ncut A") ≡ Err (3, cause.Word)
