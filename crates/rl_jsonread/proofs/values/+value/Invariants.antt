use Rattle.std.proofs.Common.{◌+◌, ◌*◌}
use Rattle.serde_json.specs.View.{members_view}
use Rattle.rl_jsonread.proofs.Nested.{ItemsFrom, MembersFrom}
use Rattle.rl_jsonread.proofs.values.+value.Given as goal

abbrev pub decreases-value_at : goal.decreases-value_at
decreases-value_at l = 3 * l.depth + 2

abbrev pub decreases-array_at : goal.decreases-array_at
decreases-array_at l = 3 * l.depth + 1

abbrev pub decreases-object_at : goal.decreases-object_at
decreases-object_at l = 3 * l.depth + 1

abbrev pub decreases-items_at : goal.decreases-items_at
decreases-items_at l = 3 * l.depth + 3

abbrev pub decreases-members_at : goal.decreases-members_at
decreases-members_at l = 3 * l.depth + 3

abbrev pub invariant-items_at-loop-turn : goal.invariant-items_at-loop-turn
invariant-items_at-loop-turn l = ItemsFrom l.depth l.text l.from l.found.items l.at

abbrev pub invariant-members_at-loop-turn : goal.invariant-members_at-loop-turn
invariant-members_at-loop-turn l = MembersFrom l.depth l.text l.from (members_view l.found.entries) l.at
