use Rattle.std.proofs.Common.{option_map, ap, ◌∙◌}
use Rattle.serde_json.specs.View.{view}
use Rattle.serde_json.proofs.Views.{view-lookup}
use Rattle.rl_jsonfields.specs.Names.{spelled}
use Rattle.rl_jsonfields.proofs.Removed.{removed}
use Rattle.rl_jsonfields.proofs.taking.remove_member.Goals as goal

pub returns-clause-value : goal.returns-clause-value
returns-clause-value c = ap (option_map view) c.remove.ensures.value ∙ rw (c.text.ensures.value) (view-lookup (spelled c.args.name) c.args.members.now.entries)

pub returns-clause-rest : goal.returns-clause-rest
returns-clause-rest c = rw (c.remove.ensures.entries, c.text.ensures.value) (removed (spelled c.args.name) c.args.members.now.entries)
