-- What a Put is answered, and what events make of what a channel keeps.
use Rattle.std.specs.Prelude.{List, ◌∷◌, ℕ, ◌-◌, ◌&&◌, Bool, false, nat_le, Option, Some, None, nat_lt, ◌==◌, if◌then◌else◌}
use Rattle.rl_events.specs.declared.channel.ChannelEvent.{ChannelEvent}
use Rattle.rl_events.specs.declared.channel.ChannelEvent.TheVariants.{Put}
use Rattle.rl_events.specs.declared.channel.Verdict.{Verdict}
use Rattle.rl_events.specs.declared.channel.Verdict.TheVariants.{Done, Old}
use Rattle.rl_events.specs.declared.channel.Outcome.{Outcome}
use Rattle.rl_events.specs.declared.channel.Outcome.TheVariants.{Taken, Refused}
use Rattle.rl_types.specs.declared.messages.Given.{Given}
use Rattle.rl_types.specs.declared.messages.Given.TheVariants.{Ours}
use Rattle.rl_types.specs.declared.messages.Body.{Body}
use Rattle.rl_types.specs.declared.messages.Entry.{Entry}
use Rattle.rl_model.specs.Verdict.{Judgement, Stale, Again, Known, Fails, Adds, judged_by_serial, judged_by_id, judged_by_rules, decisions, head, kept, remembered_of, verdict}
use Rattle.rl_model.specs.History.{setting}
use Rattle.rl_model.specs.Parts.{Parts, with_entry, with_outcome, without_outcome}

-- the answer to a Put that adds no entry
abbrev pub settled : ℕ → Judgement → Option Verdict
settled head Stale = Some Old
settled head (Again outcome) = Some (Done outcome)
settled head (Known place) = Some (Done (Taken place))
settled head (Fails code) = Some (Done (Refused code))
settled head Adds = None

-- the answer to a serial that is not above the connection's last one
abbrev pub settled_by_serial : ℕ → Option (ℕ × Outcome) → Option Verdict
settled_by_serial serial None = None
settled_by_serial serial (Some last) =
    if nat_lt serial last.0 then Some Old else if serial == last.0 then Some (Done last.1) else None

-- a Put judged by the rules up to the limit of members; the next judgement decides where none of them does
abbrev pub early : ℕ → Option (ℕ × Outcome) → Option ℕ → ℕ → Body → Judgement → Judgement
early serial last found head body next = judged_by_serial serial last (judged_by_id found (judged_by_rules head body next))

-- what is kept after a Put that adds no entry
abbrev pub settled_parts : ℕ → ℕ → Verdict → Parts → Parts
settled_parts conn serial (Done outcome) parts = with_outcome conn serial outcome parts
settled_parts conn serial Old parts = parts

-- what is kept once a connection is gone, which added this entry or none
abbrev pub gone_parts : ℕ → Option Entry → Parts → Parts
gone_parts conn (Some entry) parts = without_outcome conn (with_entry entry None parts)
gone_parts conn None parts = without_outcome conn parts

-- a Put of a channel of this site judged after this history by the rules up to the limit of members; the next
-- judgement decides where none of them does
abbrev pub early_at : List ℕ → List ChannelEvent → ℕ → ℕ → Body → Judgement → Judgement
early_at site past conn serial body next =
    early serial (kept conn (decisions site past)) (remembered_of body (decisions site past)) (head site past) body next

-- the answer to it, where one of them decides
abbrev pub settled_at : List ℕ → List ChannelEvent → ℕ → ℕ → Body → Option Verdict
settled_at site past conn serial body = settled (head site past) (early_at site past conn serial body Adds)

-- what a Put is answered after this history
abbrev pub verdict_of : List ℕ → List ChannelEvent → ℕ → ℕ → Body → ℕ → Verdict
verdict_of site past conn serial body now =
    verdict (setting site (Put conn serial body now ∷ past)) (decisions site past) conn serial body

-- the serial is of this epoch, and its place is retained in a log with this first place and this head
abbrev pub goes_on : ℕ → ℕ → ℕ → Option Given → Bool
goes_on epoch first head (Some (Ours serial)) = serial.epoch == epoch && (nat_le (first - 1) serial.place && nat_le serial.place head)
goes_on epoch first head _ = false
