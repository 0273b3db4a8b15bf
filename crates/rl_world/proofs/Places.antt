-- Entries behind a place.
use Rattle.std.proofs.Common.{◌≡◌, ℕ, zero, suc, ◌+◌, ◌-◌, ◌^◌, ◌<◌, ◌≤◌, List, [], ◌∷◌, ◌++◌, length, drop, refl, sym, ◌∙◌, ap, arith, inl, inr, append_assoc, add-one, zero-add, append-nil}
use Rattle.std.specs.Prelude.{◌⊎◌, min, Option, Some, slice_get, slice_set}
use Rattle.std.proofs.lemmas.List.{drop_all}
use Rattle.rl_runs.specs.declared.findings.Segment.{Segment}
use Rattle.rl_types.specs.declared.messages.Body.{Body}
use Rattle.rl_types.specs.declared.messages.Entry.{Entry}
use Rattle.rl_types.specs.declared.messages.Given.{Given}
use Rattle.rl_model.specs.declared.plain.Sent.{Sent}
use Rattle.rl_model.specs.declared.plain.Sent.TheVariants.{Sends}
use Rattle.rl_model.specs.Records.{segment_end, held_of, last_segment, serial_at, more_got, caught_up}
use Rattle.rl_model.specs.Client.{numbered}
use Rattle.rl_world.specs.Ends.{EndBy}

-- a place that 64 bits do not hold is behind every list in memory
pub drop_capped : {X : Type 0} (n : ℕ) (xs : List X) → length xs < 2 ^ 64 → drop (min n (2 ^ 64 - 1)) xs ≡ drop n xs
drop_capped n xs few = by_size (low_or_high n)
  where
    low_or_high : (k : ℕ) → (k < 2 ^ 64) ⊎ (2 ^ 64 ≤ k)
    low_or_high k = grind arith

    by_size : (n < 2 ^ 64) ⊎ (2 ^ 64 ≤ n) → drop (min n (2 ^ 64 - 1)) xs ≡ drop n xs
    by_size (inl low) = let same : min n (2 ^ 64 - 1) ≡ n = omega arith in ap (λ k. drop k xs) same
    by_size (inr high) = drop_all (min n (2 ^ 64 - 1)) xs (omega arith) ∙ sym (drop_all n xs (omega arith))

-- one message more of those that are numbered
pub numbered_at : (bodies : List Body) (first n : ℕ) (body : Body) → slice_get bodies n ≡ Some body
    → drop n (numbered first bodies) ≡ Sends (first + n) body ∷ drop (suc n) (numbered first bodies)
numbered_at [] first n body at = absurd (cc)
numbered_at (b ∷ bodies) first zero body at = let same : b ≡ body = cc in rw (same) (ap (λ k. Sends k body ∷ numbered (suc first) bodies) (omega arith))
numbered_at (b ∷ bodies) first (suc n) body at =
    numbered_at bodies (suc first) n body at ∙ ap (λ k. Sends k body ∷ drop (suc n) (numbered (suc first) bodies)) (omega arith)

pub length-numbered : (bodies : List Body) (first : ℕ) → length (numbered first bodies) ≡ length bodies
length-numbered [] first = refl
length-numbered (b ∷ bodies) first = ap suc (length-numbered bodies (suc first))

-- the last of segments that end by a place ends by it
pub last_ends : (head : ℕ) (segments : List Segment) (last : Segment) → slice_get segments (length segments - 1) ≡ Some last → EndBy head segments
    → (segment_end last ≤ head) × (last_segment segments ≡ Some last)
last_ends head [] last at within = absurd (cc)
last_ends head (s ∷ []) last at within = let same : s ≡ last = cc in (rw (← same) within.0, ap (λ x. Some x) same)
last_ends head (s ∷ next ∷ segments) last at within =
    last_ends head (next ∷ segments) last (sym (shift (length segments)) ∙ at) within.1
  where
    shift : (k : ℕ) → slice_get (s ∷ next ∷ segments) (suc (suc k) - 1) ≡ slice_get (next ∷ segments) (suc k - 1)
    shift k = let e : suc (suc k) - 1 ≡ suc (suc k - 1) = omega arith in ap (slice_get (s ∷ next ∷ segments)) e

-- the serial of the end of the last segment
pub held_is : (head : ℕ) (asked : Option Given) (segments : List Segment) (last : Segment) (end place : ℕ) → head < 2 ^ 64
    → slice_get segments (length segments - 1) ≡ Some last → end ≡ min (segment_end last) (2 ^ 64 - 1) → place ≡ min end head
    → EndBy head segments → Some (serial_at place) ≡ held_of asked (last_segment segments)
held_is head asked segments last end place small at is capped within =
    let known = last_ends head segments last at within in
    let low : segment_end last ≤ head = known.0 in
    let same : place ≡ segment_end last = omega (arith, is, capped, low, small) in
    ap (λ k. Some (serial_at k)) same ∙ sym (ap (held_of asked) known.1)

-- the last segment is the one that catches up
pub caught_last : (log : List Entry) (segments : List Segment) (last new : Segment) → slice_get segments (length segments - 1) ≡ Some last
    → new ≡ more_got log last → slice_set segments (length segments - 1) new ≡ caught_up log segments
caught_last log [] last new at is = absurd (cc)
caught_last log (s ∷ []) last new at is = let same : s ≡ last = cc in ap (λ x. x ∷ []) (is ∙ ap (more_got log) (sym same))
caught_last log (s ∷ next ∷ segments) last new at is =
    let e : suc (suc (length segments)) - 1 ≡ suc (suc (length segments) - 1) = omega arith in
    let at' : slice_get (next ∷ segments) (suc (length segments) - 1) ≡ Some last = sym (ap (slice_get (s ∷ next ∷ segments)) e) ∙ at in
    ap (λ k. slice_set (s ∷ next ∷ segments) k new) e ∙ ap (λ xs. s ∷ xs) (caught_last log (next ∷ segments) last new at' is)

-- one message more is pushed
pub pending_step : (sent new whole : List Sent) (bodies : List Body) (n m : ℕ) (body : Body) → slice_get bodies n ≡ Some body
    → m ≡ n → new ≡ sent ++ Sends m body ∷ [] → sent ++ drop n (numbered 0 bodies) ≡ whole → new ++ drop (n + 1) (numbered 0 bodies) ≡ whole
pending_step sent new whole bodies n m body at same is left =
    ap (λ xs. xs ++ drop (n + 1) (numbered 0 bodies)) is
    ∙ append_assoc sent (Sends m body ∷ []) (drop (n + 1) (numbered 0 bodies))
    ∙ ap (λ xs. sent ++ xs) (ap (λ k. Sends k body ∷ drop (n + 1) (numbered 0 bodies)) (same ∙ sym (zero-add n))
    ∙ ap (λ k. Sends (0 + n) body ∷ drop k (numbered 0 bodies)) (add-one n) ∙ sym (numbered_at bodies 0 n body at))
    ∙ left

-- all of them are pushed
pub pending_done : (sent whole : List Sent) (bodies : List Body) (n : ℕ) → length bodies ≤ n → sent ++ drop n (numbered 0 bodies) ≡ whole → sent ≡ whole
pending_done sent whole bodies n done left =
    let none : drop n (numbered 0 bodies) ≡ [] = drop_all n (numbered 0 bodies) (omega (arith, done, length-numbered bodies 0)) in
    sym (append-nil sent) ∙ ap (λ xs. sent ++ xs) (sym none) ∙ left
