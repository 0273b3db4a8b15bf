-- No connection and serial is listed twice: what is settled was not listed before.
use Rattle.std.proofs.Common.{◌≡◌, ◌≢◌, ℕ, ◌+◌, ◌≤◌, ◌<◌, Bool, true, false, List, [], ◌∷◌, ◌++◌, length, map, refl, sym, ◌∙◌, ap, subst, arith, cond, true≢false}
use Rattle.std.specs.Prelude.{Option, Some, not, filter, ◌&&◌, nat_le, nat_lt}
use Rattle.std.specs.List.{AllByRecursion}
use Rattle.rl_types.specs.declared.frames.Frame.{Frame}
use Rattle.rl_runs.specs.declared.findings.Answer.{Answer}
use Rattle.rl_ackq.specs.declared.pending.Pending.{Pending}
use Rattle.rl_ackq.specs.Queue.{Queue, RiseFrom, is_covered, serials, numbered_from, settled, settled_serials, pending_as}
use Rattle.rl_connbook.proofs.Each.{all_weaker, all_append, all_filter}
use Rattle.rl_worldtold.specs.Listed.{pair_of, AreDistinct}
use Rattle.rl_worldtold.specs.Tell.{IsOld, IsOnce}
use Rattle.rl_worldtold.proofs.Shape.{all_map}

-- THE QUEUE

pub rise_push : (low : ℕ) (ps : List Pending) (next : ℕ) (frame : Frame) → RiseFrom low ps next → RiseFrom low (ps ++ pending_as next frame ∷ []) (next + 1)
rise_push low [] next frame rise = (rise, omega arith)
rise_push low (p ∷ ps) next frame rise = (rise.0, rise_push (p.serial + 1) ps next frame rise.1)

rise_low : (low lower : ℕ) (ps : List Pending) (next : ℕ) → lower ≤ low → RiseFrom low ps next → RiseFrom lower ps next
rise_low low lower [] next less rise = omega (arith, less, rise)
rise_low low lower (p ∷ ps) next less rise = (omega (arith, less, rise.0), rise.1)

rise_by : (b : Bool) (low : ℕ) (p : Pending) (rest : List Pending) (next : ℕ) → low ≤ p.serial → RiseFrom (p.serial + 1) rest next → RiseFrom low (cond b (p ∷ rest) rest) next
rise_by true low p rest next less rise = (less, rise)
rise_by false low p rest next less rise = rise_low (p.serial + 1) low rest next (omega (arith, less)) rise

rise_filter : (test : Pending → Bool) (low : ℕ) (ps : List Pending) (next : ℕ) → RiseFrom low ps next → RiseFrom low (filter test ps) next
rise_filter test low [] next rise = rise
rise_filter test low (p ∷ ps) next rise = rise_by (test p) low p (filter test ps) next rise.0 (rise_filter test (p.serial + 1) ps next rise.1)

pub rise_numbered : (n : ℕ) (ps : List Pending) → RiseFrom n (numbered_from n ps) (n + length ps)
rise_numbered n [] = omega arith
rise_numbered n (p ∷ ps) = (omega arith, subst (λ m. RiseFrom (n + 1) (numbered_from (n + 1) ps) m) (omega arith) (rise_numbered (n + 1) ps))

-- serials that rise are below the next one, and not below the first
within : (low : ℕ) (ps : List Pending) (next : ℕ) → RiseFrom low ps next → AllByRecursion (λ (p : Pending). (low ≤ p.serial) × (p.serial < next)) ps
within low [] next rise = tt
within low (p ∷ ps) next rise = ((rise.0, below p ps rise.1), all_weaker _ _ (λ q h. (omega (arith, rise.0, h.0), h.1)) ps (within (p.serial + 1) ps next rise.1))
  where
    below : (p : Pending) (ps : List Pending) → RiseFrom (p.serial + 1) ps next → p.serial < next
    below p [] rise = omega (arith, rise)
    below p (q ∷ ps) rise = let more = below q ps rise.1 in omega (arith, more, rise.0)

-- ANSWERS

distinct_append : {X : Type 0} → (xs ys : List X) → AreDistinct xs → AreDistinct ys → AllByRecursion (λ x. AllByRecursion (λ y. x ≢ y) ys) xs → AreDistinct (xs ++ ys)
distinct_append [] ys a b apart = b
distinct_append (x ∷ xs) ys a b apart = (all_append _ xs ys a.0 apart.0, distinct_append xs ys a.1 b apart.1)

map_append : {X Y : Type 0} → (f : X → Y) (xs ys : List X) → map f (xs ++ ys) ≡ map f xs ++ map f ys
map_append f [] ys = refl
map_append f (x ∷ xs) ys = ap (λ zs. f x ∷ zs) (map_append f xs ys)

-- what a client answers for a serial of its connection
abbrev IsAnswering : List ℕ → (ℕ → Answer) → Type 0
IsAnswering id answer = (n : ℕ) → pair_of (answer n) ≡ (id, n)

second : (id : List ℕ) (n m : ℕ) → ◌≡◌ {A = List ℕ × ℕ} (id, n) (id, m) → n ≡ m
second id n m is = ap (λ (p : List ℕ × ℕ). p.1) is

distinct_serials : (id : List ℕ) (answer : ℕ → Answer) → IsAnswering id answer → (low : ℕ) (ps : List Pending) (next : ℕ) → RiseFrom low ps next → AreDistinct (map pair_of (map answer (serials ps)))
distinct_serials id answer is low [] next rise = tt
distinct_serials id answer is low (p ∷ ps) next rise = (
  all_map _ pair_of (map answer (serials ps)) (all_map _ answer (serials ps) (all_map _ (λ (q : Pending). q.serial) ps
      (all_weaker _ _ (λ q h same. let n : p.serial ≡ q.serial = second id p.serial q.serial (sym (is p.serial) ∙ same ∙ is q.serial) in omega (arith, n, h.0)) ps (within (p.serial + 1) ps next rise.1)))),
  distinct_serials id answer is (p.serial + 1) ps next rise.1,
)

-- an answer of before, and one of a frame that waits
old_apart : (id : List ℕ) (answer : ℕ → Answer) → IsAnswering id answer → (a : Answer) (ps : List Pending) → AllByRecursion (λ (p : Pending). (Some id ≡ Some (pair_of a).0) → p.serial ≡ (pair_of a).1 → ⊥) ps → AllByRecursion (λ y. pair_of a ≢ y) (map pair_of (map answer (serials ps)))
old_apart id answer is a ps apart =
    all_map _ pair_of (map answer (serials ps)) (all_map _ answer (serials ps) (all_map _ (λ (q : Pending). q.serial) ps
    (all_weaker _ _ (λ q h same.
    let two : pair_of a ≡ (id, q.serial) = same ∙ is q.serial in
    h (ap (λ (p : List ℕ × ℕ). Some p.0) (sym two)) (sym (ap (λ (p : List ℕ × ℕ). p.1) two))) ps apart)))

all_from : {X : Type 0} → (A : Type 0) (P : X → Type 0) (xs : List X) → (A → AllByRecursion P xs) → AllByRecursion (λ x. A → P x) xs
all_from A P [] f = tt
all_from A P (x ∷ xs) f = (λ a. (f a).0, all_from A P xs (λ a. (f a).1))

passed_by : {X : Type 0} → (P : X → Type 0) (test : X → Bool) (x : X) (rest : List X) (b : Bool) → test x ≡ b → P x → AllByRecursion (λ x. P x × (test x ≡ true)) rest → AllByRecursion (λ x. P x × (test x ≡ true)) (cond b (x ∷ rest) rest)
passed_by P test x rest true is here more = ((here, is), more)
passed_by P test x rest false is here more = more

all_passed : {X : Type 0} → (P : X → Type 0) (test : X → Bool) (xs : List X) → AllByRecursion P xs → AllByRecursion (λ x. P x × (test x ≡ true)) (filter test xs)
all_passed P test [] all = tt
all_passed P test (x ∷ xs) all = passed_by P test x (filter test xs) (test x) refl all.0 (all_passed P test xs all.1)

not_both : (b : Bool) → b ≡ true → not b ≡ true → ⊥
not_both true is wrong = true≢false (sym wrong)
not_both false is wrong = true≢false (sym is)

module _ (serial count : ℕ) (answer : ℕ → Answer) (held_id : Option (List ℕ)) (queue : Queue) (answers : List Answer) (id : List ℕ) (held : held_id ≡ Some id) (answering : IsAnswering id answer) (h : IsOnce held_id queue answers) where
  below_all : AllByRecursion (λ (p : Pending). p.serial < queue.next) queue.pending
  below_all = all_weaker _ _ (λ p w. w.1) queue.pending (within 0 queue.pending queue.next h.rise)

  -- what was listed is apart from what is settled now
  apart_one : (a : Answer) → IsOld held_id queue a → AllByRecursion (λ y. pair_of a ≢ y) (map pair_of (map answer (serials (filter (is_covered serial count) queue.pending))))
  apart_one a old =
      old_apart id answer answering a (filter (is_covered serial count) queue.pending)
      (all_filter _ (is_covered serial count) queue.pending (all_from (Some id ≡ Some (pair_of a).0) (λ (p : Pending). p.serial ≡ (pair_of a).1 → ⊥) queue.pending (λ same. (old (held ∙ same)).1)))

  new_old : (p : Pending) → (p.serial < queue.next) × (is_covered serial count p ≡ true) → IsOld held_id (settled serial count queue) (answer p.serial)
  new_old p is same =
      let at : (pair_of (answer p.serial)).1 ≡ p.serial = ap (λ (q : List ℕ × ℕ). q.1) (answering p.serial) in (
        omega (arith, at, is.0),
        all_weaker _ _ (λ q left equal.
            let n : p.serial ≡ q.serial = sym (equal ∙ at) in
            not_both (is_covered serial count q) (ap (λ m. nat_le serial m && nat_lt m (serial + count)) (sym n) ∙ is.1) left.1)
            (filter (λ (one : Pending). not (is_covered serial count one)) queue.pending)
            (all_passed (λ (q : Pending). q.serial < queue.next) (λ (one : Pending). not (is_covered serial count one)) queue.pending below_all),
      )

  pub once_settled : IsOnce held_id (settled serial count queue) (answers ++ map answer (settled_serials serial count queue))
  once_settled = record {
    rise = rise_filter (λ (one : Pending). not (is_covered serial count one)) 0 queue.pending queue.next h.rise;
    distinct = subst (λ (xs : List (List ℕ × ℕ)). AreDistinct xs) (sym (map_append pair_of answers (map answer (settled_serials serial count queue))))
        (distinct_append (map pair_of answers) (map pair_of (map answer (settled_serials serial count queue))) h.distinct
        (distinct_serials id answer answering 0 (filter (is_covered serial count) queue.pending) queue.next (rise_filter (is_covered serial count) 0 queue.pending queue.next h.rise))
        (all_map _ pair_of answers (all_weaker _ _ apart_one answers h.old)));
    old = all_append _ answers (map answer (settled_serials serial count queue))
        (all_weaker _ _ (λ a old same. ((old same).0, all_filter _ (λ (one : Pending). not (is_covered serial count one)) queue.pending (old same).1)) answers h.old)
        (all_map _ answer (settled_serials serial count queue) (all_map _ (λ (q : Pending). q.serial) (filter (is_covered serial count) queue.pending)
        (all_weaker _ _ new_old (filter (is_covered serial count) queue.pending) (all_passed (λ (q : Pending). q.serial < queue.next) (is_covered serial count) queue.pending below_all))));
  }
