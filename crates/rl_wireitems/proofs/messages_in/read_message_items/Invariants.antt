use Rattle.std.proofs.Common.{◌≡◌, ◌++◌, length, Ok}
use Rattle.std.specs.Vec.Iter.{into_iter_items, into_iter_len}
use Rattle.serde_json.specs.View.{items_view}
use Rattle.rl_jsonfields.specs.Fields.{each_at}
use Rattle.rl_wireitems.specs.Items.{message_item}
use Rattle.rl_wireitems.proofs.messages_in.read_message_items.Given as goal

-- the items so far are what the values so far are read as
abbrev pub invariant-loop-value : goal.invariant-loop-value
invariant-loop-value l = (l.yielded ++ into_iter_items l.value-iterator ≡ into_iter_items l.initial.value-iterator)
    × (into_iter_len l.value-iterator ≡ length (into_iter_items l.value-iterator))
    × (each_at (message_item l.head) 0 (items_view l.yielded) ≡ Ok l.items)
