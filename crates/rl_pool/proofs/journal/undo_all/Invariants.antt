use Rattle.std.proofs.Common.{◌≡◌, vec_len}
use Rattle.rl_pool.specs.Journal.{all_undone, CanUndoAll}
use Rattle.rl_pool.proofs.journal.undo_all.Given as goal

-- the steps that are left can be put back, and leave what all of them do
abbrev pub invariant-loop-step : goal.invariant-loop-step
invariant-loop-step l = record {
  can : CanUndoAll l.ops l.left.items l.objects;
  back : all_undone l.ops l.left.items l.objects ≡ all_undone l.ops l.initial.left.items l.initial.objects;
}

abbrev pub decreases-loop-step : goal.decreases-loop-step
decreases-loop-step l = vec_len l.left
