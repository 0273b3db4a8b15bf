use Rattle.rl_objrules.proofs.Lists.{found_there, found_none}
use Rattle.rl_objrules.proofs.rules.found.Goals as goal

pub returns-in-Ok : goal.returns-in-Ok
returns-in-Ok c = λ ascending. found_there c.args.id.now c.args.objects.now c.in-Ok.at c.index-objects-at.result (c.in-Ok.ensures.place ascending) c.index-objects-at.is

pub returns-in-Err : goal.returns-in-Err
returns-in-Err c = λ ascending. found_none c.args.id.now c.args.objects.now _ ascending (c.in-Err.ensures.place ascending)
