use Rattle.std.proofs.Common.{◌≡◌, ◌++◌, take, flat_map}
use Rattle.rl_model.specs.Report.{member_line}
use Rattle.rl_report.proofs.clients.push_member_lines.Given as goal

-- the members so far
abbrev pub invariant-loop-member : goal.invariant-loop-member
invariant-loop-member l = l.out ≡ l.initial.out ++ flat_map member_line (take l.member-index l.members)
