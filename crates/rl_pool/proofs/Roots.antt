-- The root stays.
use Rattle.std.proofs.Common.{◌≡◌, ℕ, Bool, true, false, true≢false, cond, List, [], ◌∷◌, refl, ap, sym, subst, ◌∙◌}
use Rattle.std.specs.Prelude.{is_some, not, ◌&&◌, Option, Some, Result, Ok, Err, IfOk}
use Rattle.std.specs.Fmt.{digits}
use Rattle.std.specs.Str.{is_utf8, chars}
use lib.Utf8.{encode}
use Rattle.std.specs.declared.cmp.Ordering.{Ordering}
use Rattle.std.specs.declared.cmp.Ordering.TheVariants.{Less, Equal, Greater}
use Rattle.std.specs.Ordering.{is_eq, match_ordering}
use Rattle.rl_ids.specs.declared.objects.ObjectKind.{ObjectKind}
use Rattle.rl_ids.specs.declared.objects.ObjectKind.TheVariants as kinds
use Rattle.rl_ids.specs.declared.objects.ObjectId.{ObjectId}
use Rattle.rl_ids.specs.declared.objects.ObjectId.TheVariants.{Root, Made}
use Rattle.rl_ids.specs.Objects.{id_cmp}
use Rattle.rl_objmodel.specs.declared.plain.Applied.{Applied}
use Rattle.rl_objmodel.specs.declared.plain.Applied.TheVariants as outcomes
use Rattle.rl_objmodel.specs.Held.{Held, bare_root}
use Rattle.rl_objmodel.specs.Operations.{is_root}
use Rattle.rl_objmodel.specs.Steps.{collected, held_at, is_gone, is_held_as, pool_if, with_held, with_root}
use Rattle.rl_object.specs.Unnumbered.{unnumbered_held}
use Rattle.rl_pool.specs.Checks.{unnumbered_pool}
use Rattle.rl_objrules.specs.declared.load.Shelf.{Shelf}
use Rattle.rl_objrules.specs.Ids.{IsAscending}
use Rattle.rl_objrules.specs.Loads.{load_in, HasRoot, IsSound}
use Rattle.rl_pool.specs.Pools.{collected_one}
use Rattle.rl_pool.proofs.Dropping.{gone_first, stays_first}
use Rattle.rl_objrules.proofs.Ids.{before_itself, tied_right}
use Rattle.rl_objrules.proofs.Places.{found_with}

-- an object in front: it is the root, or the root is behind it

front : (b : Bool) (x : Held) (rest : Option Held) → is_some rest ≡ true → is_some (cond b (Some x) rest) ≡ true
front true x rest h = refl
front false x rest h = h

front_for : (b c : Bool) (x y : Held) (rest : Option Held) → b ≡ c → is_some (cond b (Some x) rest) ≡ true → is_some (cond c (Some y) rest) ≡ true
front_for true true x y rest e h = refl
front_for true false x y rest e h = cc
front_for false true x y rest e h = refl
front_for false false x y rest e h = h

behind : (b : Bool) (x : Held) (rest more : Option Held) → (is_some rest ≡ true → is_some more ≡ true) → is_some (cond b (Some x) rest) ≡ true → is_some (cond b (Some x) more) ≡ true
behind true x rest more on h = refl
behind false x rest more on h = on h

behind_for : (b : Bool) (x y : Held) (rest more : Option Held) → (is_some rest ≡ true → is_some more ≡ true) → is_some (cond b (Some x) rest) ≡ true → is_some (cond b (Some y) more) ≡ true
behind_for true x y rest more on h = refl
behind_for false x y rest more on h = on h

-- PUT

put_at : (held p : Held) (ps : List Held) (o : Ordering) → id_cmp held.id p.id ≡ o → HasRoot (p ∷ ps) → (HasRoot ps → HasRoot (with_held held ps)) → HasRoot (match_ordering o (held ∷ p ∷ ps) (held ∷ ps) (p ∷ with_held held ps))
put_at held p ps Less e h on = front (is_held_as Root held) held (held_at Root (p ∷ ps)) h
put_at held p ps Equal e h on = front_for (is_held_as Root p) (is_held_as Root held) p held (held_at Root ps) (sym (ap is_eq (tied_right held.id p.id Root e))) h
put_at held p ps Greater e h on = behind (is_held_as Root p) p (held_at Root ps) (held_at Root (with_held held ps)) on h

pub root_with : (held : Held) (pool : List Held) → HasRoot pool → HasRoot (with_held held pool)
root_with held [] h = cc
root_with held (p ∷ ps) h = put_at held p ps (id_cmp held.id p.id) refl h (root_with held ps)

pub root_if : (done : Applied) (held : Held) (pool : List Held) → HasRoot pool → HasRoot (pool_if done (with_held held pool) pool)
root_if outcomes.Applied held pool h = root_with held pool h
root_if outcomes.Skipped held pool h = h
root_if outcomes.Range held pool h = h

-- TOLD

bare_found : (pool : List Held) → HasRoot (with_held bare_root pool)
bare_found pool = ap is_some (found_with Root bare_root pool (before_itself Root))

told_by : (pool : List Held) (b : Bool) → is_some (held_at Root pool) ≡ b → HasRoot (cond b pool (with_held bare_root pool))
told_by pool true h = h
told_by pool false h = bare_found pool

pub root_told : (pool : List Held) → HasRoot (with_root pool)
root_told pool = told_by pool (is_some (held_at Root pool)) refl

-- COPIES

pub root_copied : (pool : List Held) → HasRoot pool → HasRoot (unnumbered_pool pool)
root_copied [] h = cc
root_copied (x ∷ xs) h = behind_for (is_held_as Root x) x (unnumbered_held x) (held_at Root xs) (held_at Root (unnumbered_pool xs)) (root_copied xs) h

-- A TICK

made_apart : (kind : ObjectKind) (hash : List ℕ) (millis : ℕ) → is_eq (id_cmp Root (Made kind hash millis)) ≡ false
unfolding digits is_utf8 chars encode
made_apart kinds.Map hash millis = refl
made_apart kinds.Counter hash millis = refl

other_apart : (id : ObjectId) → is_root id ≡ false → is_eq (id_cmp Root id) ≡ false
other_apart Root h = cc
other_apart (Made kind hash millis) h = made_apart kind hash millis

not_gone : (b r : Bool) → b ≡ true → (not b && r) ≡ true → false ≡ true
not_gone true r e h = h
not_gone false r e h = e

gone_apart : (now : ℕ) (x : Held) (b : Bool) → is_root x.id ≡ b → is_gone now x ≡ true → is_held_as Root x ≡ false
gone_apart now x true e h = absurd (true≢false (sym (not_gone (is_root x.id) _ e h)))
gone_apart now x false e h = other_apart x.id e

past_first : (b : Bool) (x : Held) (rest : Option Held) → b ≡ false → is_some (cond b (Some x) rest) ≡ true → is_some rest ≡ true
past_first true x rest e h = cc
past_first false x rest e h = h

collected_by : (now : ℕ) (x : Held) (xs : List Held) (b : Bool) → is_gone now x ≡ b → HasRoot (x ∷ xs) → (HasRoot xs → HasRoot (collected now xs)) → HasRoot (collected now (x ∷ xs))
collected_by now x xs true e h on =
    subst HasRoot (sym (gone_first now x xs e)) (on (past_first (is_held_as Root x) x (held_at Root xs) (gone_apart now x (is_root x.id) refl e) h))
collected_by now x xs false e h on =
    subst HasRoot (sym (stays_first now x xs e)) (behind_for (is_held_as Root x) x (collected_one now x) (held_at Root xs) (held_at Root (collected now xs)) on h)

pub root_collected : (now : ℕ) (xs : List Held) → HasRoot xs → HasRoot (collected now xs)
root_collected now [] h = cc
root_collected now (x ∷ xs) h = collected_by now x xs (is_gone now x) refl h (root_collected now xs)

-- WHAT IS MADE

pub told_sound : {E : Type 0} (r : Result Shelf E) (told made : List Held) → IsAscending made → made ≡ with_root told → IfOk r (λ shelf. shelf.objects ≡ made) → IfOk r (λ shelf. shelf.load ≡ load_in made) → IfOk r (λ shelf. IsSound shelf)
told_sound (Err e) told made rising is objects load = tt
told_sound (Ok shelf) told made rising is objects load = record {
  ascending = subst IsAscending (sym objects) rising;
  rooted = subst HasRoot (sym (objects ∙ is)) (root_told told);
  load = load ∙ ap load_in (sym objects);
}

pub alone_rooted : (root : Held) (pool : List Held) → root ≡ bare_root → pool ≡ root ∷ [] → HasRoot pool
alone_rooted root pool is alone = subst HasRoot (sym (alone ∙ ap (λ (h : Held). h ∷ []) is)) (bare_found [])
