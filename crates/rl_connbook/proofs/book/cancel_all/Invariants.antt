use Rattle.std.proofs.Common.{◌≡◌, take}
use Rattle.rl_connbook.specs.Due.{without_deadlines}
use Rattle.rl_connbook.proofs.book.cancel_all.Given as goal

-- the deadlines of the connections so far are gone
abbrev pub invariant-loop-conn : goal.invariant-loop-conn
invariant-loop-conn l = l.deadlines ≡ without_deadlines l.initial.deadlines (take l.conn-index l.conns)
