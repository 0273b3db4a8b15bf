use Rattle.std.proofs.Common.{ap, map, ◌∙◌}
use Rattle.std.proofs.lemmas.List.{take_all}
use Rattle.serde_json.specs.View.{items_of}
use Rattle.rl_wireobj.proofs.items.item_values.Goals as goal

pub returns : goal.returns
returns g c = ap items_of (c.loop-item.invariant ∙ ap (map g.T.ToItem.value_of) (take_all c.loop-item.item-index c.args.items.now c.loop-item-test.false))
