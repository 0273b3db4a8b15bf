-- What is left where objects are collected, the last first.
use Rattle.std.proofs.Common.{◌≡◌, ℕ, zero, suc, ◌<◌, ◌≤◌, Bool, true, false, List, [], ◌∷◌, ◌++◌, length, take, drop, refl, ap, sym, subst, ◌∙◌, arith, get_or}
use Rattle.std.specs.declared.cmp.Ordering.TheVariants.{Less}
use Rattle.rl_ids.specs.declared.objects.ObjectId.{ObjectId}
use Rattle.rl_ids.specs.Objects.{id_cmp}
use Rattle.rl_objmodel.specs.Held.{Held}
use Rattle.rl_objmodel.specs.Steps.{collected, is_gone}
use Rattle.rl_objrules.specs.Ids.{AreAscending, IsAscending}
use Rattle.rl_pool.specs.Pools.{collected_at, collected_one}
use Rattle.rl_objrules.proofs.Places.{AllAfter}

cons_one : (one : Held) (xs ys : List Held) → xs ≡ ys → one ∷ xs ≡ one ∷ ys
cons_one one xs ys h = cc

pub gone_first : (now : ℕ) (x : Held) (xs : List Held) → is_gone now x ≡ true → collected now (x ∷ xs) ≡ collected now xs
gone_first now x xs h = rw h refl

pub stays_first : (now : ℕ) (x : Held) (xs : List Held) → is_gone now x ≡ false → collected now (x ∷ xs) ≡ collected_one now x ∷ collected now xs
stays_first now x xs h = rw h refl

first_by : (now : ℕ) (x : Held) (xs ys : List Held) (b : Bool) → is_gone now x ≡ b → ys ≡ collected now xs → collected_at now x 0 (x ∷ ys) ≡ collected now (x ∷ xs)
first_by now x xs ys true e h = rw e h
first_by now x xs ys false e h = rw e (cons_one (collected_one now x) ys _ h)

later_by : (now : ℕ) (h x : Held) (xs : List Held) (m : ℕ) (b : Bool) → is_gone now h ≡ b → collected_at now h (suc m) (x ∷ xs) ≡ x ∷ collected_at now h m xs
later_by now h x xs m true e = rw e refl
later_by now h x xs m false e = rw e refl

stepped : (now : ℕ) (xs : List Held) (m : ℕ) (d : Held) → m < length xs → collected_at now (get_or (take (suc m) xs ++ collected now (drop (suc m) xs)) m d) m (take (suc m) xs ++ collected now (drop (suc m) xs)) ≡ take m xs ++ collected now (drop m xs)
stepped now [] m d h = absurd (omega arith)
stepped now (x ∷ xs) zero d h = first_by now x xs (collected now xs) (is_gone now x) refl refl
stepped now (x ∷ xs) (suc m) d h =
    let rest = take (suc m) xs ++ collected now (drop (suc m) xs) in
    later_by now (get_or rest m d) x rest m (is_gone now (get_or rest m d)) refl ∙ cons_one x _ _ (stepped now xs m d (omega arith))

pub collected_step : (now : ℕ) (xs objs new : List Held) (n m : ℕ) (d : Held) → n ≡ suc m → n ≤ length xs → objs ≡ take n xs ++ collected now (drop n xs) → ((e : Held) → new ≡ collected_at now (get_or objs m e) m objs) → new ≡ take m xs ++ collected now (drop m xs)
collected_step now xs objs new n m d e within is step =
    let same : objs ≡ take (suc m) xs ++ collected now (drop (suc m) xs) = is ∙ ap (λ (k : ℕ). take k xs ++ collected now (drop k xs)) e in
    step d ∙ ap (λ (ys : List Held). collected_at now (get_or ys m d) m ys) same ∙ stepped now xs m d (omega (arith, e, within))

-- IN ORDER

later_collected_by : (now : ℕ) (id : ObjectId) (x : Held) (xs : List Held) (b : Bool) → is_gone now x ≡ b → id_cmp id x.id ≡ Less → AllAfter id (collected now xs) → AllAfter id (collected now (x ∷ xs))
later_collected_by now id x xs true e h rest = subst (λ (ys : List Held). AllAfter id ys) (sym (gone_first now x xs e)) rest
later_collected_by now id x xs false e h rest = subst (λ (ys : List Held). AllAfter id ys) (sym (stays_first now x xs e)) (h, rest)

later_collected : (now : ℕ) (id : ObjectId) (xs : List Held) → AllAfter id xs → AllAfter id (collected now xs)
later_collected now id [] all = tt
later_collected now id (x ∷ xs) all = later_collected_by now id x xs (is_gone now x) refl all.0 (later_collected now id xs all.1)

ascending_collected_by : (now : ℕ) (x : Held) (xs : List Held) (b : Bool) → is_gone now x ≡ b → AllAfter x.id xs → AreAscending (collected now xs) → AreAscending (collected now (x ∷ xs))
ascending_collected_by now x xs true e all rest = subst AreAscending (sym (gone_first now x xs e)) rest
ascending_collected_by now x xs false e all rest = subst AreAscending (sym (stays_first now x xs e)) (later_collected now x.id xs all, rest)

ascending_collected : (now : ℕ) (xs : List Held) → AreAscending xs → AreAscending (collected now xs)
ascending_collected now [] all = tt
ascending_collected now (x ∷ xs) all = ascending_collected_by now x xs (is_gone now x) refl all.0 (ascending_collected now xs all.1)

pub is_ascending_collected : (now : ℕ) (xs : List Held) → IsAscending xs → IsAscending (collected now xs)
is_ascending_collected now xs h = record { ascending = ascending_collected now xs h.ascending }

pub collected_all : (now : ℕ) (xs objs : List Held) (n : ℕ) → n ≡ 0 → objs ≡ take n xs ++ collected now (drop n xs) → IsAscending xs → IsAscending objs
collected_all now xs objs n e is h =
    subst IsAscending (sym (is ∙ ap (λ (k : ℕ). take k xs ++ collected now (drop k xs)) e)) (is_ascending_collected now xs h)
