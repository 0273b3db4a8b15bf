use Rattle.std.proofs.Common.{◌≡◌, take, map}
use Rattle.serde_json.specs.View.{view}
use Rattle.rl_wireitems.specs.Items.{presence_value, values_at}
use Rattle.rl_wireitems.proofs.values.presence_values.Given as goal

-- the values so far are those of the items so far, each with its index
abbrev pub invariant-loop-i : goal.invariant-loop-i
invariant-loop-i l = map view l.values.items ≡ values_at (presence_value l.head) 0 (take l.i l.item-items)
