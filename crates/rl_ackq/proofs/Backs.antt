-- What was pushed is taken back.
use Rattle.std.proofs.Common.{◌≡◌, refl, ℕ, ◌+◌, ◌≤◌, true, false, List, [], ◌∷◌, ◌++◌, take, arith, ap, ◌∙◌, inl, inr}
use Rattle.std.specs.Prelude.{filter, cond, nat_lt}
use Rattle.std.proofs.lemmas.Bool.{cases_lt, le-ltb, lt-ltb}
use Rattle.rl_types.specs.declared.frames.Frame.{Frame}
use Rattle.rl_ackq.specs.declared.pending.Pending.{Pending}
use Rattle.rl_ackq.specs.Backs.{TakesBackPushes}
use Rattle.rl_ackq.specs.Queue.{Queue, IsQueue, RiseFrom, is_below, cut_at, pushed, pending_as}
use Rattle.rl_ackq.proofs.Cuts.{count_below, none_below}
use Rattle.rl_ackq.proofs.Kept.{rise_ends, few_filter, told_filter}

pub take_below : (s low : ℕ) (xs : List Pending) (n : ℕ) → RiseFrom low xs n → take (count_below s xs) xs ≡ filter (is_below s) xs
take_below s low [] n h = refl
take_below s low (x ∷ xs) n h =
    elim (cases_lt x.serial s) [
      | inl below ↦ (
          let yes : nat_lt x.serial s ≡ true = lt-ltb x.serial s below in
          rw yes (ap (λ ys. x ∷ ys) (take_below s (x.serial + 1) xs n h.1)))
      | inr from ↦ (
          let out : nat_lt x.serial s ≡ false = le-ltb x.serial s from in
          let none : filter (is_below s) xs ≡ [] = none_below s (x.serial + 1) xs n (omega arith) h.1 in
          rw (out, none) refl)
    ]

rise_cut : (s low : ℕ) (xs : List Pending) (n : ℕ) → low ≤ s → RiseFrom low xs n → RiseFrom low (filter (is_below s) xs) s
rise_cut s low [] n le h = le
rise_cut s low (x ∷ xs) n le h =
    elim (cases_lt x.serial s) [
      | inl below ↦ (
          let yes : nat_lt x.serial s ≡ true = lt-ltb x.serial s below in
          rw yes (h.0, rise_cut s (x.serial + 1) xs n (omega arith) h.1))
      | inr from ↦ (
          let out : nat_lt x.serial s ≡ false = le-ltb x.serial s from in
          let none : filter (is_below s) xs ≡ [] = none_below s (x.serial + 1) xs n (omega arith) h.1 in
          rw (out, none) le)
    ]

pub queue_cut : (s : ℕ) (xs : List Pending) (n : ℕ) → s ≤ n → IsQueue xs n → IsQueue (filter (is_below s) xs) s
queue_cut s xs n le h =
    record {
      few = omega (arith, few_filter (is_below s) xs, h.few);
      small = omega (arith, le, h.small);
      rise = rise_cut s 0 xs n (omega arith) h.rise;
      told = told_filter (is_below s) xs h.told;
    }

-- LAWS

all_kept : (low : ℕ) (xs : List Pending) (n : ℕ) → RiseFrom low xs n → filter (is_below n) xs ≡ xs
all_kept low [] n h = refl
all_kept low (x ∷ xs) n h =
    let yes : nat_lt x.serial n ≡ true = lt-ltb x.serial n (omega (arith, rise_ends (x.serial + 1) xs n h.1)) in
    rw yes (ap (λ ys. x ∷ ys) (all_kept (x.serial + 1) xs n h.1))

-- nothing was pushed
cut_same : (queue : Queue) → IsQueue queue.pending queue.next → cut_at queue.next queue ≡ queue
cut_same queue h = ap (λ (ps : List Pending). record { pending = ps; next = queue.next }) (all_kept 0 queue.pending queue.next h.rise)

last_out : (s : ℕ) (xs : List Pending) (y : Pending) → nat_lt y.serial s ≡ false → filter (is_below s) (xs ++ y ∷ []) ≡ filter (is_below s) xs
last_out s [] y out = rw out refl
last_out s (x ∷ xs) y out = ap (λ (ys : List Pending). cond (is_below s x) (x ∷ ys) ys) (last_out s xs y out)

-- one frame more was pushed
cut_pushed : (s : ℕ) (frame : Frame) (queue : Queue) → s ≤ queue.next → cut_at s (pushed frame queue) ≡ cut_at s queue
cut_pushed s frame queue le = ap (λ (ps : List Pending). record { pending = ps; next = s }) (last_out s queue.pending (pending_as queue.next frame) (le-ltb queue.next s le))

pub takes_back_pushes : TakesBackPushes
takes_back_pushes =
    record {
      none = cut_same;
      one = λ queue frame h. cut_pushed queue.next frame queue (omega arith) ∙ cut_same queue h;
      more = λ queue frame serial le. cut_pushed serial frame queue le;
    }
