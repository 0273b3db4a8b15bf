use Rattle.std.proofs.Common.{append-nil, append_assoc}
use Rattle.rl_report.proofs.segments.CausePrinted.push_to.Goals as goal

pub returns-in-Recovered : goal.returns-in-Recovered
returns-in-Recovered c =
    rw c.in-Recovered.is (simp append-nil (simp append_assoc at c.push_two-in-Recovered.ensures))
