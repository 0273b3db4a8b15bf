use Rattle.std.proofs.Common.{◌≡◌, ◌≤◌, ◌++◌, length}
use Rattle.rl_presmap.specs.Steps.{all_plain, end_events}
use Rattle.rl_presmap.proofs.ends.named_of.Given as goal

-- what is kept and what those that are left keep is what all keep, and so of what is told
abbrev pub invariant-loop-one : goal.invariant-loop-one
invariant-loop-one l = record {
  kept : l.kept.0 ++ all_plain l.one-iterator.rest.items ≡ all_plain l.fn.held.items;
  events : l.events.0 ++ end_events l.one-iterator.rest.items ≡ l.initial.events.0 ++ end_events l.fn.held.items;
  kept_room : length l.one-iterator.rest.items ≤ l.kept.1;
  events_room : length l.one-iterator.rest.items ≤ l.events.1;
}
