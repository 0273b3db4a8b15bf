use Rattle.std.proofs.Common.{◌≡◌, ◌≤◌, ◌++◌, length}
use Rattle.std.specs.Prelude.{filter}
use Rattle.rl_presmap.specs.Held.{is_member}
use Rattle.rl_presmap.specs.Steps.{leaves}
use Rattle.rl_presmap.proofs.ends.all_leave.Given as goal

-- what is told and what those that are left tell is what all tell
abbrev pub invariant-loop-one : goal.invariant-loop-one
invariant-loop-one l = record {
  events : l.events.0 ++ leaves (filter is_member l.one-iterator.rest.items) ≡ l.initial.events.0 ++ leaves (filter is_member l.fn.held.items);
  room : length l.one-iterator.rest.items ≤ l.events.1;
}
