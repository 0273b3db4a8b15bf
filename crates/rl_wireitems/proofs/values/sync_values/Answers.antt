use Rattle.std.proofs.Common.{ap, map, ◌∙◌}
use Rattle.std.proofs.lemmas.List.{take_all}
use Rattle.serde_json.specs.View.{items_of}
use Rattle.rl_wireitems.specs.Items.{sync_value, sync_values}
use Rattle.rl_wireitems.proofs.values.sync_values.Goals as goal

pub returns : goal.returns
unfolding sync_values
returns c =
    ap items_of (c.loop-item.invariant ∙ ap (map sync_value) (take_all c.loop-item.item-index c.as_slice-item-items.result.now c.loop-item-test.false ∙ c.as_slice-item-items.ensures))
