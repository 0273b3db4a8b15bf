use Rattle.std.proofs.Common.{◌≡◌, take, map}
use Rattle.serde_json.specs.View.{view}
use Rattle.rl_wireitems.specs.Items.{sync_value}
use Rattle.rl_wireitems.proofs.values.sync_values.Given as goal

-- the values so far are those of the items so far
abbrev pub invariant-loop-item : goal.invariant-loop-item
invariant-loop-item l = map view l.values.items ≡ map sync_value (take l.item-index l.item-items)
