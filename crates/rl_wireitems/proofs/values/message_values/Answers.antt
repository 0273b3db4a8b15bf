use Rattle.std.proofs.Common.{ap, map, ◌∙◌}
use Rattle.std.proofs.lemmas.List.{take_all}
use Rattle.serde_json.specs.View.{items_of}
use Rattle.rl_wireitems.specs.Items.{message_value, message_values}
use Rattle.rl_wireitems.proofs.values.message_values.Goals as goal

pub returns : goal.returns
unfolding message_values
returns c =
    ap items_of (c.loop-item.invariant ∙ ap (map message_value) (take_all c.loop-item.item-index c.as_slice-item-items.result.now c.loop-item-test.false ∙ c.as_slice-item-items.ensures))
