use Rattle.std.proofs.Common.{◌≡◌, ◌+◌, ◌≤◌, length, reverse, vec_len}
use Rattle.std.specs.Vec.{vec_capacity}
use Rattle.rl_members.specs.Held.{with_items, outgrows, IsRising}
use Rattle.rl_members.specs.Changes.{all_undone, AreUndoable}
use Rattle.rl_members.proofs.taking.take_all.Given as goal

-- what is left to take up makes of what is held now what all makes of what was held, and the changes so far lead back
abbrev pub invariant-loop-one : goal.invariant-loop-one
invariant-loop-one l = record {
  items : with_items l.one-iterator.rest.items l.held.items ≡ with_items l.fn.ready l.initial.held.items;
  limit : outgrows l.held.items l.one-iterator.rest.items ≡ outgrows l.initial.held.items l.fn.ready;
  rising : IsRising l.held.items;
  room : vec_len l.held + length l.one-iterator.rest.items ≤ vec_capacity l.initial.held;
  capacity : vec_capacity l.initial.held ≤ vec_capacity l.held;
  changes_room : vec_len l.changes + length l.one-iterator.rest.items ≤ vec_capacity l.changes;
  undone : all_undone (reverse l.changes.items) l.held.items ≡ l.initial.held.items;
  undoable : AreUndoable (vec_capacity l.initial.held) (reverse l.changes.items) l.held.items;
}
