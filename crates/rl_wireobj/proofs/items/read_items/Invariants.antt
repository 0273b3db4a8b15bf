use Rattle.std.proofs.Common.{◌≡◌, drop}
use Rattle.serde_json.specs.View.{items_view}
use Rattle.rl_jsonfields.specs.Fields.{each}
use Rattle.rl_jsonfields.proofs.Each.{with_front}
use Rattle.rl_wireobj.proofs.items.read_items.Given as goal

-- what was read before, and what is still read
abbrev pub invariant-loop-value : goal.invariant-loop-value
invariant-loop-value g l = with_front l.found (each g.T.FromItem.item_at (items_view (drop l.value-index l.values))) ≡ each g.T.FromItem.item_at (items_view l.values)
