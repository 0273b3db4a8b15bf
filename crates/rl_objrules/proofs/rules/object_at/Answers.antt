use Rattle.std.proofs.Common.{ℕ, subst}
use Rattle.std.specs.Prelude.{Result}
use Rattle.rl_objrules.specs.Ids.{FindsId}
use Rattle.rl_objrules.proofs.Lists.{found_there, found_none}
use Rattle.rl_objrules.proofs.rules.object_at.Goals as goal

pub returns-in-Ok : goal.returns-in-Ok
returns-in-Ok c = λ id ascending finds. found_there id c.args.objects.now c.in-Ok.at c.index-objects-at.result (subst (λ (r : Result ℕ ℕ). FindsId id c.args.objects.now r) c.in-Ok.is finds) c.index-objects-at.is

pub returns-in-Err : goal.returns-in-Err
returns-in-Err c = λ id ascending finds. found_none id c.args.objects.now c.in-Err.field-0 ascending (subst (λ (r : Result ℕ ℕ). FindsId id c.args.objects.now r) c.in-Err.is finds)
