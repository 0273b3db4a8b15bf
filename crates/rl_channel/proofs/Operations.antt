-- One more operation gets the next serial; a body that is not too heavy has few of them.
use Rattle.std.proofs.Common.{◌≡◌, ℕ, ◌+◌, ◌*◌, ◌<◌, ◌≤◌, ◌^◌, List, [], ◌∷◌, ◌++◌, length, refl, ap, ◌∙◌, arith}
use Rattle.std.specs.Prelude.{suc, sum_by}
use Rattle.std.proofs.lemmas.Grind.{common_steps}
use Rattle.std.proofs.lemmas.List.Sums.{sum_by-cons}
use Rattle.rl_numbers.specs.declared.limits.TheConstants.{MAX_MESSAGE_SIZE}
use Rattle.rl_types.specs.declared.objects.Op.{Op}
use Rattle.rl_types.specs.declared.objects.Op.TheVariants.{MapCreate, MapSet, MapRemove, CounterCreate, CounterInc, Delete}
use Rattle.rl_types.specs.declared.objects.ObjectOp.{ObjectOp}
use Rattle.rl_types.specs.declared.messages.Body.TheVariants.{Objects}
use Rattle.rl_types.specs.Weight.{action_weight, body_weight, op_weight}
use Rattle.rl_model.specs.Ids.{filled_ops, with_serial}

ops_more : (site : List ℕ) (place k : ℕ) (ops : List ObjectOp) (op : ObjectOp) → filled_ops site place k (ops ++ op ∷ []) ≡ filled_ops site place k ops ++ with_serial site place (k + length ops) op ∷ []
ops_more site place k [] op = grind (arith, common_steps)
ops_more site place k (first ∷ ops) op = grind (arith, common_steps, ops_more site place (suc k) ops op)

pub length_ops : (site : List ℕ) (place k : ℕ) (ops : List ObjectOp) → length (filled_ops site place k ops) ≡ length ops
length_ops site place k [] = refl
length_ops site place k (first ∷ ops) = ap suc (length_ops site place (suc k) ops)

pub ops_at_push : (site : List ℕ) (place : ℕ) (ops : List ObjectOp) (op : ObjectOp) (index : ℕ) (made : List ObjectOp) → made ≡ filled_ops site place 0 ops → index ≡ length made → filled_ops site place 0 (ops ++ op ∷ []) ≡ made ++ with_serial site place index op ∷ []
ops_at_push site place ops op index made is at =
    let more = ops_more site place 0 ops op in
    let same : index ≡ 0 + length ops = rw is at at ∙ length_ops site place 0 ops ∙ omega arith in
    rw (is, same) more

action_weighs : (op : Op) → 64 ≤ action_weight op
action_weighs (MapCreate id entries) = omega arith
action_weighs (MapSet id key value) = omega arith
action_weighs (MapRemove id key) = omega arith
action_weighs (CounterCreate id count) = omega arith
action_weighs (CounterInc id amount) = omega arith
action_weighs (Delete id) = omega arith

ops_weigh : (ops : List ObjectOp) → 64 * length ops ≤ sum_by op_weight ops
ops_weigh [] = omega arith
ops_weigh (op ∷ ops) =
    let rest = ops_weigh ops in
    let one : 64 ≤ op_weight op = action_weighs op.op in
    rw (sum_by-cons op_weight op ops) (omega (arith, rest, one))

pub few_ops : (ops : List ObjectOp) → body_weight (Objects ops) ≤ MAX_MESSAGE_SIZE → length ops < 2 ^ 16
few_ops ops light = omega (arith, light, ops_weigh ops)

pub length_push : (ops : List ObjectOp) (op : ObjectOp) → length (ops ++ op ∷ []) ≡ suc (length ops)
length_push [] op = refl
length_push (first ∷ ops) op = ap suc (length_push ops op)
