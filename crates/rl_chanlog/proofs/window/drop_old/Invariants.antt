use Rattle.std.proofs.Common.{◌≡◌}
use Rattle.std.specs.Prelude.{◌≤◌, sum_by}
use Rattle.std.specs.VecDeque.{deque_len}
use Rattle.rl_model.specs.Window.{entry_weight}
use Rattle.rl_chanlog.specs.Window.{spare, young_from}
use Rattle.rl_chanlog.proofs.window.drop_old.Given as goal

abbrev pub invariant-loop-earliest : goal.invariant-loop-earliest
invariant-loop-earliest l =
    record {
      weighed : l.left ≡ sum_by entry_weight l.entries.items;
      same : young_from l.now l.entries.items ≡ young_from l.now l.initial.entries.items;
      room : spare l.initial.entries ≤ spare l.entries;
    }

abbrev pub decreases-loop-earliest : goal.decreases-loop-earliest
decreases-loop-earliest l = deque_len l.entries
