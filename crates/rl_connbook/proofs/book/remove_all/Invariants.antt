use Rattle.std.proofs.Common.{◌≡◌, take}
use Rattle.rl_connbook.specs.Steps.{without_all}
use Rattle.rl_connbook.proofs.book.remove_all.Given as goal

-- the records of the connections so far are gone
abbrev pub invariant-loop-conn : goal.invariant-loop-conn
invariant-loop-conn l = l.records ≡ without_all l.initial.records (take l.conn-index l.conns)
