-- Own members are entered again: each frame with the next serial, where there is room.
use Rattle.std.proofs.Common.{◌≡◌, ℕ, Bool, true, false, cond, List, [], ◌∷◌, ◌++◌, refl, ◌∙◌, arith}
use Rattle.rl_types.specs.declared.frames.Frame.{Frame}
use Rattle.rl_ackq.specs.Frames.{with_serial}
use Rattle.rl_ackq.specs.Queue.{IsQueue, Queue, cut_at, is_full, pushed}
use Rattle.rl_ackq.proofs.Backs.{takes_back_pushes}
use Rattle.rl_clientmodel.specs.Hearing.{all_numbered, all_pushed, entering}
use Rattle.rl_client.specs.Answers.{numbered_in_room, pushed_in_room, AreAcknowledged, IsBehind}

pub entering_acknowledged : (name : List ℕ) (own : List (List ℕ × List ℕ)) → AreAcknowledged (entering name own)
entering_acknowledged name [] = tt
entering_acknowledged name (member ∷ own) = (refl, entering_acknowledged name own)

cond_ap : {A B : Type 0} (f : A → B) (b : Bool) (x y : A) → cond b (f x) (f y) ≡ f (cond b x y)
cond_ap f true x y = refl
cond_ap f false x y = refl

pub pushed_more : (frame : Frame) (frames : List Frame) (queue : Queue) → all_pushed (frame ∷ frames) queue ≡ all_pushed frames (pushed_in_room frame queue)
pushed_more frame frames queue = cond_ap (all_pushed frames) (is_full queue) queue (pushed frame queue)

numbered_by : (b : Bool) (frame : Frame) (frames : List Frame) (queue : Queue) → cond b (all_numbered frames queue) (with_serial queue.next frame ∷ all_numbered frames (pushed frame queue)) ≡ cond b [] (with_serial queue.next frame ∷ []) ++ all_numbered frames (cond b queue (pushed frame queue))
numbered_by true frame frames queue = refl
numbered_by false frame frames queue = refl

pub numbered_more : (frame : Frame) (frames : List Frame) (queue : Queue) → all_numbered (frame ∷ frames) queue ≡ numbered_in_room frame queue ++ all_numbered frames (pushed_in_room frame queue)
numbered_more frame frames queue = numbered_by (is_full queue) frame frames queue

pub behind_none : (queue : Queue) → IsQueue queue.pending queue.next → IsBehind queue queue
behind_none queue holds = (takes_back_pushes.none queue holds, omega arith)

-- one push is taken back
pub pushed_back : (frame : Frame) (queue : Queue) → IsQueue queue.pending queue.next → cut_at queue.next (pushed frame queue) ≡ queue
pushed_back frame queue holds = takes_back_pushes.one queue frame holds

behind_by : (b : Bool) (frame : Frame) (before queue : Queue) → IsBehind before queue → IsBehind before (cond b queue (pushed frame queue))
behind_by true frame before queue is = is
behind_by false frame before queue is = (takes_back_pushes.more queue frame before.next is.1 ∙ is.0, omega (arith, is.1))

pub behind_more : (frame : Frame) (before queue : Queue) → IsBehind before queue → IsBehind before (pushed_in_room frame queue)
behind_more frame before queue is = behind_by (is_full queue) frame before queue is
