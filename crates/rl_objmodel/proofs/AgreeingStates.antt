-- Pools that took the same operations, each site's in the same order, show the same, whenever they took them.
use Rattle.std.proofs.Common.{◌≡◌, List, [], ◌∷◌, refl, ap, sym, subst, ◌∙◌}
use Rattle.rl_objmodel.specs.Operations.{Stamped}
use Rattle.rl_objmodel.specs.Held.{Held}
use Rattle.rl_objmodel.specs.Steps.{pool_after_op, pool_after, states}
use Rattle.rl_objmodel.specs.Commuting.{is_range}
use Rattle.rl_objmodel.specs.Agreeing.{ops_of, pool_taking, NonePasses, PoolsAgree}
use Rattle.rl_objmodel.proofs.Unstamped.{no_stamps, one_same, outcome_of, states_same, shown_alike}
use Rattle.rl_objmodel.proofs.AgreeingPools.{NoneAt, agree_at}

forgotten : (xs : List Stamped) (pool : List Held) → no_stamps (pool_taking xs pool) ≡ pool_after 0 (ops_of xs) (no_stamps pool)
forgotten [] pool = refl
forgotten (one ∷ more) pool = forgotten more (pool_after_op one.stamp one.op pool) ∙ ap (pool_after 0 (ops_of more)) (one_same one.stamp one.op pool)

none_passes : (xs : List Stamped) (pool : List Held) → NonePasses xs pool → NoneAt 0 (ops_of xs) (no_stamps pool)
none_passes [] pool h = tt
none_passes (one ∷ more) pool h = (
  ap is_range (outcome_of one.op pool) ∙ h.0,
  subst (λ (p : List Held). NoneAt 0 (ops_of more) p) (one_same one.stamp one.op pool) (none_passes more (pool_after_op one.stamp one.op pool) h.1),
)

pub pools_agree : PoolsAgree
pools_agree xs ys pool other begin same once fits h k =
    let alike : no_stamps other ≡ no_stamps pool = sym (shown_alike pool other begin) in
    sym (states_same (pool_taking xs pool))
    ∙ ap states (forgotten xs pool ∙ agree_at 0 (ops_of xs) (ops_of ys) (no_stamps pool) same once fits (none_passes xs pool h) (subst (λ (p : List Held). NoneAt 0 (ops_of ys) p) alike (none_passes ys other k)) ∙ ap (pool_after 0 (ops_of ys)) (sym alike) ∙ sym (forgotten ys other))
    ∙ states_same (pool_taking ys other)
