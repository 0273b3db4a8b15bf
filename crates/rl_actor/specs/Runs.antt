-- What a run makes of an actor.
use Rattle.std.specs.Prelude.{ℕ}
use Rattle.rl_actormodel.specs.State.{State, puts}
use Rattle.rl_actorparts.specs.declared.sessions.Run.{Run}
use Rattle.rl_actorparts.specs.Runs.{moved_at}

-- its frames are put out, and the session moves on
abbrev pub ran : Run → ℕ → State → State
ran run now s = puts run.frames.items now (record s { sessions = moved_at run.name run.position run.ends s.sessions })
