use Rattle.std.proofs.Common.{◌≡◌, take, drop}
use Rattle.rl_chanlog.proofs.window.Window.run.Given as goal

-- the entries so far are copied
abbrev pub invariant-loop-at : goal.invariant-loop-at
invariant-loop-at l = l.run ≡ take l.at (drop l.from l.self-inside.entries.items)
