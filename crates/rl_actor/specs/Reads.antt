-- Bytes that are taken up.
use Rattle.std.specs.Prelude.{ℕ, if◌then◌else◌, List, Option, Some, None}
use Rattle.rl_types.specs.declared.frames.Frame.{Frame}
use Rattle.rl_wire.specs.Frames.{frame_at}
use Rattle.rl_actormodel.specs.State.{State}
use Rattle.rl_actormodel.specs.Takes.{Came, A, Bad, lacks_serial, came_in, took}

-- what came in these bytes, which read as this frame
abbrev pub came_frame : List ℕ → Frame → Came
came_frame bytes frame = if lacks_serial frame then Bad bytes else A frame

-- what came is taken up
abbrev pub took_up : Option Came → ℕ → State → State
took_up None now s = s
took_up (Some came) now s = took came now s

-- so are bytes, by what they read as
abbrev pub took_bytes : List ℕ → ℕ → State → State
took_bytes bytes now s = took_up (came_in bytes (frame_at bytes)) now s
