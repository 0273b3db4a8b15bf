use Rattle.std.proofs.Common.{◌≡◌, suc, ◌++◌, ◌∷◌, [], List, length, ap, sym, ◌∙◌, arith}
use Rattle.rl_types.specs.declared.objects.ObjectOp.{ObjectOp}
use Rattle.rl_channel.proofs.Operations.{ops_at_push, length_push}
use Rattle.rl_channel.proofs.filling.filled_ops.Goals as goal

pub loop-op-init : goal.loop-op-init
loop-op-init c =
    let all : length c.into_iter-op-iterator.result.rest.items ≡ length c.args.ops = ap (λ (ops : List ObjectOp). length ops) (c.into_iter-op-iterator.ensures.into_iter_gives.0 ∙ c.into_vec-op-items.ensures) in
    (c.new-made.ensures, rw (c.new-made.ensures) (omega (arith, all)))

pub overflow_cast-index : goal.overflow_cast-index
overflow_cast-index c =
    let one : length c.loop-op.op-iterator.rest.items ≡ suc (length c.next.new.self.rest.items) = ap (λ (ops : List ObjectOp). length ops) c.in-Some.ensures.steps.0 in
    omega (arith, c.len-index.ensures, c.requires.few, one, c.loop-op.invariant.1)

pub loop-op-preserved : goal.loop-op-preserved
loop-op-preserved c =
    let one : length c.loop-op.op-iterator.rest.items ≡ suc (length c.next.new.self.rest.items) = ap (λ (ops : List ObjectOp). length ops) c.in-Some.ensures.steps.0 in
    let longer : length c.push.new.self ≡ suc (length c.loop-op.made) = ap (λ (ops : List ObjectOp). length ops) c.in_ok-push.ensures.ok ∙ length_push c.loop-op.made _ in (
      c.in_ok-push.ensures.ok
          ∙ ap (λ x. c.loop-op.made ++ x ∷ []) c.with_serial.ensures
          ∙ sym (ops_at_push c.args.site c.args.place c.loop-op.yielded c.in-Some.op c.len-index.result c.loop-op.made c.loop-op.invariant.0 c.len-index.ensures),
      omega (arith, one, longer, c.loop-op.invariant.1),
    )
