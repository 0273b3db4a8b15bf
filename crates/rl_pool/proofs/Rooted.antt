-- A pool with a root.
use Rattle.std.proofs.Common.{◌≡◌, ℕ, Bool, true, false, cond, List, ap, sym, subst, ◌∙◌}
use Rattle.std.specs.Prelude.{insert, is_some, Option, None, Result, Ok, Err, OnOk, OnErr}
use Rattle.std.proofs.lemmas.Result.{on_ok_weaker}
use Rattle.rl_ids.specs.declared.objects.ObjectId.TheVariants.{Root}
use Rattle.rl_objmodel.specs.Held.{Held, bare_root}
use Rattle.rl_objmodel.specs.Steps.{held_at, with_held, with_root}
use Rattle.rl_objrules.specs.Ids.{IsAscending, IsIdHeldAt, IsIdMissedAt}
use Rattle.rl_objrules.proofs.Places.{inserted_with, is_ascending_with, held_there, missed_there}
use Rattle.rl_objrules.proofs.Calls.{held, missed}

pub root_there : (pool seen : List Held) (at : ℕ) → seen ≡ pool → (IsAscending seen → IsIdHeldAt Root seen at) → IsAscending pool → pool ≡ with_root pool
root_there pool seen at same place ascending =
    ap (λ (o : Option Held). cond (is_some o) pool (with_held bare_root pool)) (sym (held_there Root pool at bare_root (held pool seen same ascending Root at place)))

with_none : (pool : List Held) → held_at Root pool ≡ None → with_held bare_root pool ≡ with_root pool
with_none pool h = ap (λ (o : Option Held). cond (is_some o) pool (with_held bare_root pool)) (sym h)

root_new : (pool seen new : List Held) (at : ℕ) (one : Held) → seen ≡ pool → (IsAscending seen → IsIdMissedAt Root seen at) → IsAscending pool → one ≡ bare_root → new ≡ insert pool at one → new ≡ with_root pool
root_new pool seen new at one same place ascending is step =
    let none = missed pool seen same ascending Root at place in
    step ∙ ap (insert pool at) is ∙ inserted_with bare_root pool at none ∙ with_none pool (missed_there Root pool at ascending none)

pub root_put : {T E : Type 0} (r : Result T E) (pool seen new : List Held) (at : ℕ) (one : Held) → seen ≡ pool → (IsAscending seen → IsIdMissedAt Root seen at) → IsAscending pool → one ≡ bare_root → OnOk r (new ≡ insert pool at one) → OnOk r (new ≡ with_root pool)
root_put r pool seen new at one same place ascending is h = on_ok_weaker r (root_new pool seen new at one same place ascending is) h

root_if : (b : Bool) (pool : List Held) → IsAscending pool → IsAscending (cond b pool (with_held bare_root pool))
root_if true pool h = h
root_if false pool h = is_ascending_with bare_root pool h

pub root_rising : {T E : Type 0} (r : Result T E) (pool new : List Held) → IsAscending pool → OnOk r (new ≡ with_root pool) → OnErr r (new ≡ pool) → IsAscending new
root_rising (Ok u) pool new h ok err = subst IsAscending (sym ok) (root_if (is_some (held_at Root pool)) pool h)
root_rising (Err e) pool new h ok err = subst IsAscending (sym err) h
