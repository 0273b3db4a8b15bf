use Rattle.std.proofs.Common.{◌≡◌, ◌++◌, take, flat_map}
use Rattle.rl_report.proofs.lists.push_all.Given as goal

-- the items so far
abbrev pub invariant-loop-one : goal.invariant-loop-one
invariant-loop-one g l = l.out ≡ l.initial.out ++ flat_map (g.T.Printed.text_of l.epoch) (take l.one-index l.all)
