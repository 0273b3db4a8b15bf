-- Operations that an entry numbers, as a pool judges them.
use Rattle.std.proofs.Common.{◌≡◌, ℕ, suc, List, [], ◌∷◌, refl, ap}
use Rattle.rl_types.specs.declared.objects.ObjectOp.{ObjectOp}
use Rattle.rl_objmodel.specs.Held.{Held}
use Rattle.rl_objmodel.specs.Lasting.{numbered_all}
use Rattle.rl_objmodel.specs.Rules.{Setting, or_next}
use Rattle.rl_objmodel.specs.Steps.{numbered, pool_after_op, pool_ops_rule}
use Rattle.rl_pool.specs.Admitting.{admitted_op, admitted_rule, NumberedAreJudged}

judged : (setting : Setting) (place index : ℕ) (pool : List Held) (ops : List ObjectOp) → admitted_rule setting.now (numbered_all setting place index ops) pool ≡ pool_ops_rule setting place index pool ops
judged setting place index pool [] = refl
judged setting place index pool (op ∷ ops) =
    ap (or_next (admitted_op setting.now (numbered setting place index op) pool)) (judged setting place (suc index) (pool_after_op setting.now (numbered setting place index op) pool) ops)

pub numbered_are_judged : NumberedAreJudged
numbered_are_judged setting place index pool ops = judged setting place index pool ops
