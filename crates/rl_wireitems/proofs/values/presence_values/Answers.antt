use Rattle.std.proofs.Common.{ap, map, ◌∙◌}
use Rattle.std.proofs.lemmas.List.{take_all}
use Rattle.serde_json.specs.View.{items_of}
use Rattle.rl_wireitems.specs.Items.{presence_value, presence_values, values_at}
use Rattle.rl_wireitems.proofs.Written.{value_pushed}
use Rattle.rl_wireitems.proofs.values.presence_values.Goals as goal

pub loop-i-preserved : goal.loop-i-preserved
loop-i-preserved c =
    rw c.in_ok-push.ensures.items (value_pushed (presence_value c.args.head.now) c.loop-i.values.items c.in_ok-presence_value.field-0 c.as_slice-item-items.result.now c.loop-i.i c.item-item.result
    c.loop-i-test.true c.item-item.is c.loop-i.invariant c.in_ok-presence_value.ensures)

pub returns : goal.returns
unfolding presence_values
returns c =
    ap items_of (c.loop-i.invariant ∙ ap (values_at (presence_value c.args.head.now) 0) (take_all c.loop-i.i c.as_slice-item-items.result.now c.loop-i-test.false ∙ c.as_slice-item-items.ensures))
