use Rattle.std.proofs.Common.{subst, sym, reverse}
use Rattle.std.specs.Vec.{vec_capacity}
use Rattle.rl_members.specs.Changes.{AreUndoable}
use Rattle.rl_members.proofs.Undoing.{undone_last, undoable_last, undoable_more}
use Rattle.rl_members.proofs.changes.take_all_back.Goals as goal

pub loop-change-preserved : goal.loop-change-preserved
loop-change-preserved c =
    let left = c.pop.new.self.items in
    let held = c.loop-change.held.items in
    let new = c.take_back.new.held.items in
    let room = vec_capacity c.loop-change.held in
    let are = undoable_last room left c.loop-change.left.items c.in-Some.change held c.in-Some.ensures.items c.loop-change.invariant.undoable in
    record {
      undone = undone_last left c.loop-change.left.items c.in-Some.change _ held new c.in-Some.ensures.items c.take_back.ensures.items c.loop-change.invariant.undone;
      undoable = undoable_more room (vec_capacity c.take_back.new.held) (reverse left) new c.take_back.ensures.capacity (subst (AreUndoable room (reverse left)) (sym c.take_back.ensures.items) are.1);
    }
