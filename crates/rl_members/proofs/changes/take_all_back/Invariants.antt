use Rattle.std.proofs.Common.{◌≡◌, reverse, vec_len}
use Rattle.std.specs.Vec.{vec_capacity}
use Rattle.rl_members.specs.Changes.{all_undone, AreUndoable}
use Rattle.rl_members.proofs.changes.take_all_back.Given as goal

-- taking back what is left makes of the members what taking back all makes of those at first
abbrev pub invariant-loop-change : goal.invariant-loop-change
invariant-loop-change l = record {
  undone : all_undone (reverse l.left.items) l.held.items ≡ all_undone (reverse l.fn.changes.items) l.initial.held.items;
  undoable : AreUndoable (vec_capacity l.held) (reverse l.left.items) l.held.items;
}

abbrev pub decreases-loop-change : goal.decreases-loop-change
decreases-loop-change l = vec_len l.left
