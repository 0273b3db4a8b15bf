use Rattle.rl_ids.proofs.ObjectTexts.{object_id_value}
use Rattle.rl_ids.proofs.object_texts.read_object_id.Goals as goal

pub returns-clause-value : goal.returns-clause-value
returns-clause-value c = object_id_value c.args.text.now c.object_id_in.result c.object_id_in.ensures.found c.object_id_in.ensures.every
