-- Segments that end within a log.
use Rattle.std.specs.Prelude.{ℕ, ◌≤◌, List, Option, Some, None, ⊤}
use Rattle.std.specs.List.{AllByRecursion}
use Rattle.rl_runs.specs.declared.findings.Segment.{Segment}
use Rattle.rl_model.specs.declared.plain.Client.{Client}
use Rattle.rl_model.specs.Records.{segment_end}

-- no segment ends past this place
abbrev pub EndBy : ℕ → List Segment → Type 0
EndBy head segments = AllByRecursion (λ (segment : Segment). segment_end segment ≤ head) segments

-- the same of a client, where there is one
abbrev pub EndsBy : ℕ → Option Client → Type 0
EndsBy head None = ⊤
EndsBy head (Some client) = EndBy head client.segments
